-- Which literals the entries of a trail make false, and which are open.
use Rattle.std.proofs.Common.{◌≡◌, ◌≢◌, Bool, true, false, List, Option, None, Some, refl}
use Rattle.std.specs.Prelude.{IfNone, if◌then◌else◌}
use Rattle.std.proofs.lemmas.Bool.{both_ways}
use Rattle.sat_clause.specs.declared.literal.Lit.{Lit}
use Rattle.sat_clause.specs.Literal.{negation, variable, is_among}
use Rattle.sat_clause.proofs.TrailLaws as laws
use Rattle.sat_watch.specs.declared.entry.TrailEntry.{TrailEntry}
use Rattle.sat_watch.specs.Trail.{IsOpen, falses, lits_of, value_in}

-- a test does not come out both ways
pub never : (b : Bool) → b ≡ true → b ≡ false → ⊥
never b is out = both_ways b out is

-- an open literal is not false
pub open_not_false : (entries : List TrailEntry) (l : Lit) → IsOpen entries l →
    is_among (falses entries) l ≡ false
open_not_false entries l free = laws.open_not_false (lits_of entries) l free

-- the negation of an open literal is open
pub open_negation : (entries : List TrailEntry) (l : Lit) → IsOpen entries l →
    IsOpen entries (negation l)
open_negation entries l free = laws.open_negation (lits_of entries) l free

-- nor is an open literal true
pub open_not_true : (entries : List TrailEntry) (l : Lit) → IsOpen entries l →
    is_among (falses entries) (negation l) ≡ false
open_not_true entries l free = laws.open_not_true (lits_of entries) l free

-- a literal that is neither false nor true is open
pub is_open : (entries : List TrailEntry) (l : Lit) → is_among (falses entries) l ≡ false →
    is_among (falses entries) (negation l) ≡ false → IsOpen entries l
is_open entries l not_false not_true = laws.is_open (lits_of entries) l not_false not_true

-- a false literal is of another variable than an open one
pub false_is_other : (entries : List TrailEntry) (l m : Lit) → IsOpen entries l →
    is_among (falses entries) m ≡ true → variable m ≢ variable l
false_is_other entries l m free is = laws.false_is_other (lits_of entries) l m free is

-- a literal without a truth is open
pub no_value : (entries : List TrailEntry) (l : Lit) (value : Option Bool) →
    value ≡ value_in entries l → IfNone value (IsOpen entries l)
no_value entries l (Some b) is = tt
no_value entries l None is =
    by_tests (is_among (falses entries) l) (is_among (falses entries) (negation l)) refl refl is
  where
    by_tests : (b c : Bool) → is_among (falses entries) l ≡ b →
        is_among (falses entries) (negation l) ≡ c →
        None ≡ (if b then Some false else if c then Some true else None) → IsOpen entries l
    by_tests true c eb ec e = cc
    by_tests false true eb ec e = cc
    by_tests false false eb ec e = is_open entries l eb ec
