-- Clauses that are added one behind another, whatever the room.
use Rattle.std.proofs.Common.{◌≡◌, ℕ, suc, ◌+◌, List, [], ◌∷◌, ◌++◌, take, length, refl, sym, ap, subst, ◌∙◌, arith, append_assoc}
use Rattle.std.specs.Prelude.{Some, flat_map, map, slice_get}
use Rattle.std.specs.List.{enumerate_from}
use Rattle.std.proofs.Math.Seq.{take-length}
use Rattle.std.proofs.lemmas.List.{append-nil, map-append}
use Rattle.std.proofs.lemmas.List.FromFn.{length-enumerate_from}
use Rattle.list_laws.proofs.FrontParts.{made-next, made-whole}
use Rattle.list_laws.proofs.Numbered.{numbered-here}
use Rattle.list_laws.proofs.Places.{take-get}
use Rattle.sat_clause.specs.FormulaStore.{FormulaState, reserved}
use Rattle.sat_clause.specs.Literal.{Clause}
use Rattle.route_encode.specs.Adding.{Adds}
use Rattle.cell_clauses.specs.Adding.{Extends}

-- nothing was added
pub extends-none : (s : FormulaState) → Extends s [] s
extends-none s = record { vars = refl; clauses = sym (append-nil s.cnf.clauses) }

-- some clauses were added, and then others
pub extends-both : (a b c : FormulaState) (xs ys : List Clause) → Extends a xs b → Extends b ys c
    → Extends a (xs ++ ys) c
extends-both a b c xs ys f g = record {
  vars = g.vars ∙ f.vars;
  clauses = g.clauses ∙ (rw f.clauses (append_assoc a.cnf.clauses xs ys));
}

-- one behind the other
pub extends-more : (a b c : FormulaState) (x : Clause) (ys : List Clause) → Extends a (x ∷ []) b
    → Extends b ys c → Extends a (x ∷ ys) c
extends-more a b c x ys f g = extends-both a b c (x ∷ []) ys f g

-- with the room that there was
pub extends-added : (a b : FormulaState) (xs : List Clause) → Adds a xs b → Extends a xs b
extends-added a b xs h = record { vars = h.vars; clauses = h.clauses }

-- to what has these variables and clauses, whatever its room
pub extends-from : (a b c : FormulaState) (xs : List Clause) → b.cnf.vars ≡ a.cnf.vars
    → b.cnf.clauses ≡ a.cnf.clauses → Extends b xs c → Extends a xs c
extends-from a b c xs v e h = record {
  vars = h.vars ∙ v;
  clauses = h.clauses ∙ ap (λ (cs : List Clause). cs ++ xs) e;
}

-- clauses that are added part by part
module _ {X : Type 0} (g : X → List Clause) (xs : List X) (k : ℕ) where
  pub extends-next : (x : X) (a b c : FormulaState) → slice_get xs k ≡ Some x
      → Extends a (flat_map g (take k xs)) b → Extends b (g x) c
      → Extends a (flat_map g (take (k + 1) xs)) c
  extends-next x a b c at f h =
      let more : k + 1 ≡ suc k = omega arith in
      subst (λ (ys : List Clause). Extends a ys c)
      (sym (ap (λ (n : ℕ). flat_map g (take n xs)) more ∙ made-next g xs k x at))
      (extends-both a b c (flat_map g (take k xs)) (g x) f h)

  pub extends-all : (a b : FormulaState) → k ≡ length xs → Extends a (flat_map g (take k xs)) b
      → Extends a (flat_map g xs) b
  extends-all a b e h =
      subst (λ (ys : List Clause). Extends a ys b) (made-whole g xs k e) h

-- the same by elements with their numbers
module _ {X : Type 0} (g : ℕ × X → List Clause) (xs : List X) (k : ℕ) where
  pub extends-numbered : (x : X) (a b c : FormulaState) → slice_get xs k ≡ Some x
      → Extends a (flat_map g (take k (enumerate_from 0 xs))) b → Extends b (g (k, x)) c
      → Extends a (flat_map g (take (k + 1) (enumerate_from 0 xs))) c
  extends-numbered x a b c at f h =
      let same : 0 + k ≡ k = omega arith in
      extends-next g (enumerate_from 0 xs) k (k, x) a b c
      (numbered-here 0 xs k x at ∙ (λ i. Some (same i, x))) f h

  pub extends-numbered-all : (a b : FormulaState) → k ≡ length xs
      → Extends a (flat_map g (take k (enumerate_from 0 xs))) b
      → Extends a (flat_map g (enumerate_from 0 xs)) b
  extends-numbered-all a b e h =
      extends-all g (enumerate_from 0 xs) k a b (e ∙ sym (length-enumerate_from 0 xs)) h

-- the same clause by clause
module _ {X : Type 0} (g : X → Clause) (xs : List X) (k : ℕ) where
  pub extends-mapped : (x : X) (a b c : FormulaState) → slice_get xs k ≡ Some x
      → Extends a (map g (take k xs)) b → Extends b (g x ∷ []) c
      → Extends a (map g (take (k + 1) xs)) c
  extends-mapped x a b c at f h =
      let more : k + 1 ≡ suc k = omega arith in
      subst (λ (ys : List Clause). Extends a ys c)
      (sym (ap (λ (n : ℕ). map g (take n xs)) more ∙ ap (map g) (take-get xs k x at)
      ∙ map-append g (take k xs) (x ∷ [])))
      (extends-both a b c (map g (take k xs)) (g x ∷ []) f h)

  pub extends-mapped-all : (a b : FormulaState) → k ≡ length xs
      → Extends a (map g (take k xs)) b → Extends a (map g xs) b
  extends-mapped-all a b e h =
      subst (λ (ys : List Clause). Extends a ys b)
      (ap (λ (n : ℕ). map g (take n xs)) e ∙ ap (map g) (take-length xs)) h

-- five rows of clauses, one behind another
pub extends-five : (a b d e g : List Clause) (s0 s1 s2 s3 s4 s5 : FormulaState) → Extends s0 a s1
    → Extends s1 b s2 → Extends s2 d s3 → Extends s3 e s4 → Extends s4 g s5
    → Extends s0 (a ++ b ++ d ++ e ++ g) s5
extends-five a b d e g s0 s1 s2 s3 s4 s5 h1 h2 h3 h4 h5 =
    extends-both s0 s4 s5 (a ++ b ++ d ++ e) g
    (extends-both s0 s3 s4 (a ++ b ++ d) e
    (extends-both s0 s2 s3 (a ++ b) d (extends-both s0 s1 s2 a b h1 h2) h3) h4) h5

-- clauses that were added to a new formula are its clauses
pub extends-new : (fresh made after : FormulaState) (vars : ℕ) (row : List Clause)
    → fresh.cnf.clauses ≡ [] → made ≡ reserved fresh vars 0 0 → Extends made row after
    → after.cnf ≡ record { vars = vars; clauses = row }
extends-new fresh made after vars row empty e h =
    let n : after.cnf.vars ≡ vars = h.vars ∙ ap (λ (s : FormulaState). s.cnf.vars) e in
    let c : after.cnf.clauses ≡ row =
    h.clauses ∙ ap (λ (cs : List Clause). cs ++ row) (ap (λ (s : FormulaState). s.cnf.clauses) e
    ∙ empty) in
    λ i. record { vars = n i; clauses = c i }
