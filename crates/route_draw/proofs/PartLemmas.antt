-- What a loop over the elements that a text has parts for adds to it.
use Rattle.std.proofs.Common.{◌≡◌, ℕ, ◌+◌, List, [], ◌∷◌, ◌++◌, length, take, ap, sym, subst, ◌∙◌, refl, add-one, append_assoc}
use Rattle.std.specs.Prelude.{Some, slice_get}
use Rattle.std.proofs.Math.Seq.{take-length}
use Rattle.std.proofs.lemmas.List.{append-nil}
use Rattle.list_laws.proofs.Places.{take-get}
use Rattle.route_draw.specs.Parts.{Adds, AreParts}

-- no element has no part
pub added-none : {T : Type 0} (IsPart : T → List ℕ → Type 0) (xs : List T) (old : List ℕ) →
    Adds (AreParts IsPart (take 0 xs)) old old
added-none IsPart [] old = record { part = []; is_part = refl; added = sym (append-nil old) }
added-none IsPart (x ∷ xs) old =
    record { part = []; is_part = refl; added = sym (append-nil old) }

-- the parts of some elements, and behind them those of others
pub parts-append : {T : Type 0} (IsPart : T → List ℕ → Type 0) (xs ys : List T)
    (front behind : List ℕ) → AreParts IsPart xs front → AreParts IsPart ys behind →
    AreParts IsPart (xs ++ ys) (front ++ behind)
parts-append IsPart [] ys front behind none parts =
    subst (AreParts IsPart ys) (sym (ap (λ (t : List ℕ). t ++ behind) none)) parts
parts-append IsPart (x ∷ xs) ys front behind parts others = record {
  front = parts.front;
  rest = parts.rest ++ behind;
  is_front = parts.is_front;
  is_rest = parts-append IsPart xs ys parts.rest behind parts.is_rest others;
  joined = ap (λ (t : List ℕ). t ++ behind) parts.joined
      ∙ append_assoc parts.front parts.rest behind;
}

-- the part of one element
pub part-alone : {T : Type 0} (IsPart : T → List ℕ → Type 0) (x : T) (part : List ℕ) →
    IsPart x part → AreParts IsPart (x ∷ []) part
part-alone IsPart x part is = record {
  front = part;
  rest = [];
  is_front = is;
  is_rest = refl;
  joined = sym (append-nil part);
}

-- one element more has one part more
pub parts-more : {T : Type 0} (IsPart : T → List ℕ → Type 0) (xs : List T) (x : T)
    (front part : List ℕ) → AreParts IsPart xs front → IsPart x part →
    AreParts IsPart (xs ++ x ∷ []) (front ++ part)
parts-more IsPart xs x front part parts is =
    parts-append IsPart xs (x ∷ []) front part parts (part-alone IsPart x part is)

-- the part of the next element was added
pub added-next : {T : Type 0} (IsPart : T → List ℕ → Type 0) (xs : List T) (i : ℕ) (x : T)
    (old mid new : List ℕ) → slice_get xs i ≡ Some x → Adds (AreParts IsPart (take i xs)) old mid →
    Adds (IsPart x) mid new → Adds (AreParts IsPart (take (i + 1) xs)) old new
added-next {T} IsPart xs i x old mid new at front next = record {
  part = front.part ++ next.part;
  is_part = subst (λ (ys : List T). AreParts IsPart ys (front.part ++ next.part))
      (sym (ap (λ (n : ℕ). take n xs) (add-one i) ∙ take-get xs i x at))
      (parts-more IsPart (take i xs) x front.part next.part front.is_part next.is_part);
  added = next.added ∙ ap (λ (t : List ℕ). t ++ next.part) front.added
      ∙ append_assoc old front.part next.part;
}

-- the parts of all elements were added
pub added-whole : {T : Type 0} (IsPart : T → List ℕ → Type 0) (xs : List T) (i : ℕ)
    (old new : List ℕ) → i ≡ length xs → Adds (AreParts IsPart (take i xs)) old new →
    Adds (AreParts IsPart xs) old new
added-whole {T} IsPart xs i old new e front =
    subst (λ (ys : List T). Adds (AreParts IsPart ys) old new)
    (ap (λ (n : ℕ). take n xs) e ∙ take-length xs) front
