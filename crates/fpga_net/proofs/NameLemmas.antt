-- Names in the order in which they first stand, one name more; and which name is which.
use Rattle.std.proofs.Common.{◌≡◌, ◌≢◌, ℕ, ◌<◌, Option, Bool, true, false, List, [], ◌∷◌, ◌++◌, length, refl, sym, ap, ◌∙◌, append-nil, arith, cond, ◌+◌, get_or, zero-add, add-zero}
use Rattle.std.specs.Prelude.{not, ◌||◌, filter, map, bytes_eq, position, IfSome, Some, None, is_some, if◌then◌else◌}
use Rattle.std.specs.BTreeMap.{BTreeMap}
use Rattle.std.specs.Borrow.{Bor}
use Rattle.std.specs.List.{list_any, position_from}
use Rattle.std.specs.Option.{option_or}
use Rattle.std.proofs.lemmas.List.Kept.{AllPairs-cons, AllPairs-filter}
use Rattle.std.proofs.lemmas.List.Elements.{filter-append, filter_passes}
use Rattle.std.proofs.lemmas.Iterator.Adapters.{position_from-zero}
use Rattle.list_laws.proofs.Searches.{if-position-within, position-any, position-push}
use Rattle.std.proofs.lemmas.Slice.Eq.{bytes_eq-Decides}
use Rattle.fpga_text.specs.Bytes.{Bytes}
use Rattle.fpga_text.specs.Said.{has_text}
use Rattle.fpga_types.specs.Names.{GainsName, number_in}
use Rattle.fpga_net.specs.Names.{AreApart, AreNumbered, first_seen, names_with, number_of}

-- the test of two names goes both ways
pub other_way : (a b : Bytes) → bytes_eq a b ≡ bytes_eq b a
other_way a b = go (bytes_eq a b) (bytes_eq b a) refl refl
  where
    go : (x y : Bool) → bytes_eq a b ≡ x → bytes_eq b a ≡ y → x ≡ y
    go true true p q = refl
    go false false p q = refl
    go true false p q =
        absurd (let e : bytes_eq b a ≡ true =
        (bytes_eq-Decides b a).1 (sym ((bytes_eq-Decides a b).0 p)) in cc)
    go false true p q =
        absurd (let e : bytes_eq a b ≡ true =
        (bytes_eq-Decides a b).1 (sym ((bytes_eq-Decides b a).0 q)) in cc)

-- the names but this one
abbrev without : Bytes → List Bytes → List Bytes
without name names = filter (λ other. not (bytes_eq other name)) names

-- another name is among them as before
has_text-without : (name other : Bytes) (names : List Bytes) → bytes_eq name other ≡ false
    → has_text (without name names) other ≡ has_text names other
has_text-without name other [] apart = refl
has_text-without name other (first ∷ more) apart =
    go (bytes_eq first name) refl (has_text-without name other more apart)
  where
    go : (b : Bool) → bytes_eq first name ≡ b
        → has_text (without name more) other ≡ has_text more other
        → has_text (without name (first ∷ more)) other ≡ has_text (first ∷ more) other
    go true same later =
        let e : first ≡ name = (bytes_eq-Decides first name).0 same in
        let no_match : bytes_eq first other ≡ false = ap (λ n. bytes_eq n other) e ∙ apart in
        rw (same, no_match) later
    go false distinct later = rw distinct (ap (λ b. bytes_eq first other || b) later)

with_first : (first name : Bytes) (names : List Bytes)
    → first ∷ without first (names_with names name) ≡ names_with (first ∷ without first names) name
with_first first name names = go (bytes_eq first name) (has_text names name) refl refl
  where
    go : (same among : Bool) → bytes_eq first name ≡ same → has_text names name ≡ among
        → first ∷ without first (names_with names name)
        ≡ names_with (first ∷ without first names) name
    go true true same among = rw (same, among) refl
    go true false same among =
        let back : bytes_eq name first ≡ true = other_way name first ∙ same in
        rw (same, among) (ap (λ l. first ∷ l)
        (filter-append (λ other. not (bytes_eq other first)) names (name ∷ [])
        ∙ rw back (append-nil (without first names))))
    go false true same among =
        rw (same, among, has_text-without first name names same, among) refl
    go false false same among =
        let back : bytes_eq name first ≡ false = other_way name first ∙ same in
        rw (same, among, has_text-without first name names same, among) (ap (λ l. first ∷ l)
        (filter-append (λ other. not (bytes_eq other first)) names (name ∷ []) ∙ rw back refl))

-- one more name stands at the end, unless it stood before
pub first_seen-push : (names : List Bytes) (name : Bytes)
    → first_seen (names ++ name ∷ []) ≡ names_with (first_seen names) name
first_seen-push [] name = refl
first_seen-push (first ∷ more) name =
    ap (λ l. first ∷ without first l) (first_seen-push more name)
    ∙ with_first first name (first_seen more)

-- a name is seen where it stands
pub has_text-first_seen : (names : List Bytes) (name : Bytes)
    → has_text (first_seen names) name ≡ has_text names name
has_text-first_seen [] name = refl
has_text-first_seen (first ∷ more) name =
    go (bytes_eq first name) refl (has_text-first_seen more name)
  where
    go : (same : Bool) → bytes_eq first name ≡ same
        → has_text (first_seen more) name ≡ has_text more name
        → has_text (first_seen (first ∷ more)) name ≡ has_text (first ∷ more) name
    go true same later = rw same refl
    go false apart later =
        rw (apart, has_text-without first name (first_seen more) apart) later

-- names that were first seen differ
pub first_seen-apart : (names : List Bytes) → AreApart (first_seen names)
first_seen-apart [] = λ i j d below within. absurd (omega (arith, within))
first_seen-apart (first ∷ more) =
    AllPairs-cons (λ (a b : Bytes). a ≢ b) first (without first (first_seen more))
    (λ k d within. other_than (get_or (without first (first_seen more)) k d)
    (filter_passes (λ other. not (bytes_eq other first)) (first_seen more) k d within))
    (AllPairs-filter (λ (a b : Bytes). a ≢ b) (λ other. not (bytes_eq other first))
    (first_seen more) (first_seen-apart more))
  where
    other_than : (other : Bytes) → not (bytes_eq other first) ≡ true → first ≢ other
    other_than other passes same =
        let is : bytes_eq other first ≡ true = (bytes_eq-Decides other first).1 (sym same) in
        let clash : false ≡ true = ap not (sym is) ∙ passes in cc

-- a name has a number where it stands
pub number_of-there : (names : List Bytes) (name : Bytes) → is_some (number_of names name)
    ≡ has_text names name
number_of-there names name =
    ap is_some (position_from-zero (λ other. bytes_eq other name) names)
    ∙ position-any (λ other. bytes_eq other name) 0 names

pub number_of-some : (names : List Bytes) (name : Bytes) (k : ℕ) → Some k ≡ number_of names name
    → has_text names name ≡ true
number_of-some names name k is = sym (number_of-there names name) ∙ ap is_some (sym is)

pub number_of-none : (names : List Bytes) (name : Bytes) → None ≡ number_of names name
    → has_text names name ≡ false
number_of-none names name is = sym (number_of-there names name) ∙ ap is_some (sym is)

-- the number of a name is one of theirs
pub number_of-within : (names : List Bytes) (name : Bytes) (number : Option ℕ)
    → number ≡ number_of names name → IfSome number (λ n. n < length names)
number_of-within names name number is =
    if-position-within (λ other. bytes_eq other name) names number
    (is ∙ position_from-zero (λ other. bytes_eq other name) names)

-- a new name has the next number
pub number_of-push : (names : List Bytes) (name : Bytes) → has_text names name ≡ false
    → number_of (names ++ name ∷ []) name ≡ Some (length names)
number_of-push names name none =
    position_from-zero (λ other. bytes_eq other name) (names ++ name ∷ [])
    ∙ go 0 names none ∙ ap (λ k. Some k) (zero-add (length names))
  where
    go : (first : ℕ) (ns : List Bytes) → has_text ns name ≡ false
        → position_from (λ other. bytes_eq other name) first (ns ++ name ∷ [])
        ≡ Some (first + length ns)
    go first [] none = rw ((bytes_eq-Decides name name).1 refl, add-zero) refl
    go first (n ∷ ns) none =
        by (bytes_eq n name) none (λ later. go (first + 1) ns later)
      where
        by : (b : Bool) → (b || has_text ns name) ≡ false
            → (has_text ns name ≡ false
            → position_from (λ other. bytes_eq other name) (first + 1) (ns ++ name ∷ [])
            ≡ Some (first + 1 + length ns))
            → cond b (Some first)
            (position_from (λ other. bytes_eq other name) (first + 1) (ns ++ name ∷ []))
            ≡ Some (first + length (n ∷ ns))
        by true none later = absurd (let clash : true ≡ false = none in cc)
        by false none later = later none ∙ ap (λ k. Some k) (omega arith)

-- one name more is numbered, which had no number
pub numbered-push : (names : List Bytes) (name : Bytes) (number : ℕ)
    (old new : BTreeMap (Bor Bytes) ℕ) → number ≡ length names
    → GainsName old name number new → AreNumbered names old
    → AreNumbered (names ++ name ∷ []) new
numbered-push names name number old new count gains numbered = record {
  found = λ other.
      gains other
      ∙ (λ i. option_or ((numbered.found other ∙ position_from-zero (is other) names) i)
      (if bytes_eq name other then Some ((count ∙ sym (zero-add (length names))) i) else None))
      ∙ sym (position-push (is other) 0 names name)
      ∙ sym (position_from-zero (is other) (names ++ name ∷ []));
}
  where
    is : Bytes → Bytes → Bool
    is other n = bytes_eq n other
