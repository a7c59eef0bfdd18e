-- The input clauses with a mark.
use Rattle.std.proofs.Common.{◌≡◌, ℕ, zero, suc, ◌<◌, ◌≤◌, Bool, true, false, cond, eqb, List, length, get_or, set, replicate, None, Some, slice_get, Option, refl, ap, sym, ◌∙◌, arith, []}
use Rattle.std.specs.Prelude.{is_some, nat_lt}
use Rattle.std.proofs.lemmas.Bool.{both_ways, eq-eqb, eqb-true, ltb-true, ltb-false}
use Rattle.std.proofs.lemmas.List.{get_or_past, get_or-replicate, get_or-set_other, get_or-set_same}
use Rattle.std.proofs.lemmas.Option.{slice_get-get_or, slice_get_past}
use Rattle.sat_clause.specs.Formula.{Cnf}
use Rattle.sat_clause.specs.Judge.{inputs}
use Rattle.sat_clause.specs.Literal.{Clause}
use Rattle.sat_clause.proofs.LiveLaws.{inputs_at, inputs_none}
use Rattle.sat_check.specs.InputStore.{clause_of, input_at, position_of}
use Rattle.sat_check.specs.Finder.{Changes, Finds}

-- a position of a mark is within them, and is that of the id
pub position_is : (marks : List Bool) (id at : ℕ) → position_of marks id ≡ Some at
    → (at < length marks) × (id ≡ suc at)
position_is marks zero at is = cc
position_is marks (suc i) at is = by (get_or marks i false) refl is
  where
    by : (b : Bool) → get_or marks i false ≡ b → cond b (Some i) None ≡ Some at
        → (at < length marks) × (suc i ≡ suc at)
    by true there same =
        let equal : i ≡ at = cc in
        (inside (nat_lt i (length marks)) refl equal there, ap suc equal)
      where
        inside : (b : Bool) → nat_lt i (length marks) ≡ b → i ≡ at → get_or marks i false ≡ true
            → at < length marks
        inside true below equal there = omega (arith, ltb-true i (length marks) below, equal)
        inside false above equal there =
            let past : length marks ≤ i = omega (arith, ltb-false i (length marks) above) in
            absurd (both_ways (get_or marks i false) (get_or_past marks i false past) there)
    by false gone none = cc

-- a position within the clauses has one
pub is_some-within : (clauses : List Clause) (at : ℕ) → at < length clauses
    → is_some (slice_get clauses at) ≡ true
is_some-within clauses at within = ap is_some (slice_get-get_or clauses at [] within)

-- with a mark at each, all clauses are there
pub all_marked : (formula : Cnf)
    → Finds (input_at
    (record {
      vars = formula.vars;
      marks = replicate (length formula.clauses) true;
      clauses =
          formula.clauses;
    })) (inputs formula)
all_marked formula zero = sym (inputs_none formula)
all_marked formula (suc i) = by (nat_lt i (length formula.clauses)) refl ∙ sym (inputs_at formula i)
  where
    count : ℕ
    count = length formula.clauses

    by : (b : Bool) → nat_lt i count ≡ b →
        clause_of formula.clauses (cond (get_or (replicate count true) i false) (Some i) None)
        ≡ slice_get formula.clauses i
    by true below =
        rw (get_or-replicate count i true false (omega (arith, ltb-true i count below))) refl
    by false above =
        let past : count ≤ i = omega (arith, ltb-false i count above) in
        rw (slice_get_past formula.clauses i past) (none (get_or (replicate count true) i false))
      where
        none : (b : Bool) → clause_of formula.clauses (cond b (Some i) None) ≡ None
        none true = slice_get_past formula.clauses i (omega (arith, ltb-false i count above))
        none false = refl

-- where the mark of an id is taken away, its clause is out
pub marked_without : (vars : ℕ) (marks : List Bool) (clauses : List Clause) (id at : ℕ)
    → position_of marks id ≡ Some at →
    Changes (input_at (record { vars = vars; marks = marks; clauses = clauses }))
    (input_at (record { vars = vars; marks = set marks at false; clauses = clauses })) id None
marked_without vars marks clauses id at is zero = by (eqb id 0)
  where
    by : (b : Bool) → None ≡ cond {A = Option Clause} b None None
    by true = refl
    by false = refl
marked_without vars marks clauses id at is (suc q) = by (eqb id (suc q)) refl
  where
    by : (b : Bool) → eqb id (suc q) ≡ b
        → clause_of clauses (cond (get_or (set marks at false) q false) (Some q) None)
        ≡ cond b None (clause_of clauses (cond (get_or marks q false) (Some q) None))
    by true same =
        let place = position_is marks id at is in
        let equal : q ≡ at = omega (arith, eqb-true id (suc q) same, place.1) in
        rw (equal, get_or-set_same marks at false false place.0) refl
    by false other =
        let place = position_is marks id at is in
        rw (get_or-set_other marks at q false false
        (λ same. both_ways _ other (eq-eqb id (suc q) (omega (arith, place.1, same))))) refl

-- where there is none under an id, taking it out changes nothing
pub none_changes : (vars : ℕ) (marks : List Bool) (clauses : List Clause) (id : ℕ)
    → position_of marks id ≡ None →
    Changes (input_at (record { vars = vars; marks = marks; clauses = clauses }))
    (input_at (record { vars = vars; marks = marks; clauses = clauses })) id None
none_changes vars marks clauses id none q = by (eqb id q) refl
  where
    by : (b : Bool) → eqb id q ≡ b
        → input_at (record { vars = vars; marks = marks; clauses = clauses }) q
        ≡ cond b None (input_at (record { vars = vars; marks = marks; clauses = clauses }) q)
    by true same = rw (sym (eqb-true id q same), none) refl
    by false other = refl
