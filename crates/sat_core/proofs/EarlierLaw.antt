-- Good hints under rising ids name clauses that were there before.
use Rattle.std.proofs.Common.{◌≡◌, ◌==◌, ◌<◌, ◌≤◌, ℕ, zero, suc, ℤ, pos, negsuc, Bool, true, false, cond, List, [], ◌∷◌, length, None, Some, All, refl, sym, ◌∙◌, arith}
use Rattle.std.proofs.lemmas.List.Elements.{All-cons, All-nil}
use Rattle.std.proofs.lemmas.Option.{slice_get_within}
use Rattle.sat_clause.specs.declared.literal.Lit.{Lit}
use Rattle.sat_clause.specs.declared.reading.Reading.TheVariants.{Conflict, Unit, Satisfied, Unresolved}
use Rattle.sat_clause.specs.Formula.{Cnf}
use Rattle.sat_clause.specs.Judge.{erase, inputs, take_out}
use Rattle.sat_clause.specs.Literal.{Clause, negation}
use Rattle.sat_clause.specs.Live.{Live, clause_at, named, put}
use Rattle.sat_clause.specs.Rup.{after_conflict, follow, lead_on, reading_of, rup}
use Rattle.sat_clause.specs.Step.{Step, Added, Erased}
use Rattle.sat_clause.proofs.LiveLaws.{clause_at-without, inputs_at, inputs_none}
use Rattle.sat_core.specs.SearchLog.{AreNumbered, HintsAreEarlier, IsEarlier}
use Rattle.sat_core.specs.Kept.{AreBelow}
use Rattle.sat_core.specs.Stands.{AreGood}
use Rattle.sat_core.proofs.KeptLaws.{put_below}

start_below : (formula : Cnf) → AreBelow (suc (length formula.clauses)) (inputs formula)
start_below formula zero c at = let bad : None ≡ Some c = sym (inputs_none formula) ∙ at in cc
start_below formula (suc i) c at =
    let within = slice_get_within formula.clauses i c (sym (inputs_at formula i) ∙ at) in
    (omega arith, omega (arith, within))

take_out_below : (id : ℕ) (live : Live) (out : ℤ) → AreBelow id live → AreBelow id
    (take_out live out)
take_out_below id live (pos out) below n c at = by (out == n)
    (sym (clause_at-without live out n) ∙ at) where
      by : (b : Bool) → cond b None (clause_at live n) ≡ Some c → (1 ≤ n) × (n < id)
      by true at = cc
      by false at = below n c at
take_out_below id live (negsuc out) below n c at = below n c at

erase_below : (id : ℕ) (live : Live) (ids : List ℤ) → AreBelow id live → AreBelow id
    (erase live ids)
erase_below id live [] below = below
erase_below id live (out ∷ ids) below = erase_below id (take_out live out) ids
    (take_out_below id live out below)

named_earlier : (id : ℕ) (live : Live) (h : ℤ) (c : Clause) → AreBelow id live → named live h ≡ Some
    c → IsEarlier id h
named_earlier id live (pos zero) c below is = cc
named_earlier id live (pos (suc n)) c below is =
    let old = below (suc n) c is in record
    { number = suc n; is = refl; some = old.0; before = old.1 }
named_earlier id live (negsuc n) c below is = cc

-- good hints are ids below the next one
hints_earlier : (id : ℕ) (live : Live) → AreBelow id live → (set : List Lit) (hints : List ℤ) → rup
    live set hints ≡ None →
    All (IsEarlier id) hints
hints_earlier id live below set [] good = All-nil (IsEarlier id)
hints_earlier id live below set (h ∷ hints) good =
    elim (named live h) as (λ o. ((c : Clause) → o ≡ Some c → IsEarlier id h) → follow set o hints
    (λ l. rup live (negation l ∷ set) hints) ≡ None → All (IsEarlier id) (h ∷ hints)) [
      | None ↦ λ _ e. cc
      | Some c ↦ λ earlier.
          elim (reading_of set c) as (λ r. lead_on r hints (λ l. rup live (negation l ∷ set) hints)
          ≡ None → All (IsEarlier id) (h ∷ hints)) [
            | Conflict ↦ λ e. All-cons (IsEarlier id) h hints (earlier c refl) (last hints e)
            | Unit l ↦ λ e. All-cons (IsEarlier id) h hints (earlier c refl)
                (hints_earlier id live below (negation l ∷ set) hints e)
            | Satisfied ↦ λ e. cc
            | Unresolved ↦ λ e. cc
          ]
    ] (λ c is. named_earlier id live h c below is) good
  where
    last : (hints : List ℤ) → after_conflict hints ≡ None → All (IsEarlier id) hints
    last [] e = All-nil (IsEarlier id)
    last (next ∷ hints) e = cc

earlier_from : (id : ℕ) (live : Live) (log : List Step) → 1 ≤ id → AreBelow id live → AreGood live
    log →
    AreNumbered id log → HintsAreEarlier log
earlier_from id live [] some below good numbered k i clause hints is = cc
earlier_from id live (Added new c h ∷ log) some below good numbered zero i clause hints is =
    let same : i ≡ id = (let e : new ≡ i = cc in sym e ∙ numbered.0) in
    let hints_same : hints ≡ h = cc in
    rw (same, hints_same) (hints_earlier id live below c h good.0)
earlier_from id live (Added new c h ∷ log) some below good numbered (suc k) i clause hints is =
    earlier_from (suc id) (put live new c) log (omega arith)
    (rw numbered.0 (put_below id live c some below)) good.1 numbered.1 k i clause hints is
earlier_from id live (Erased own ids ∷ log) some below good numbered zero i clause hints is = cc
earlier_from id live (Erased own ids ∷ log) some below good numbered (suc k) i clause hints is =
    earlier_from id (erase live ids) log some (erase_below id live ids below) good.1 numbered.2 k i
    clause hints is

-- so in a log without a refused step the hints of each added clause are earlier ids
pub hints_are_earlier : (formula : Cnf) (log : List Step) → AreGood (inputs formula) log →
    AreNumbered (suc (length formula.clauses)) log → HintsAreEarlier log
hints_are_earlier formula log good numbered =
    earlier_from (suc (length formula.clauses)) (inputs formula) log (omega arith)
    (start_below formula) good numbered
