-- A log that is cut down can be read as the one that it is cut from.
use Rattle.std.specs.Prelude.{max}
use Rattle.std.proofs.Common.{ℕ, suc, ◌≤◌, ℤ, List, [], ◌∷◌, length, subst, sym, inl, inr, arith, All}
use Rattle.std.proofs.lemmas.List.Elements.{All-cons, All-nil}
use Rattle.route_core.specs.Trimmed.{AreFrom, IsPartOf, IsSubList, IsTrimmed}
use Rattle.sat_clause.specs.declared.limits.TheConstants.{VARIABLE_LIMIT}
use Rattle.sat_clause.specs.Formula.{Cnf}
use Rattle.sat_clause.specs.Literal.{Clause, IsWithin}
use Rattle.sat_clause.specs.Step.{Step, Added, Erased}
use Rattle.sat_text.specs.LratText.{ReadsLrat}
use Rattle.sat_text.specs.Printed.{log_text}
use Rattle.sat_text.specs.ReadBack.{IsIdNumber, IsPrintableLog, IsPrintableStep}
use Rattle.sat_text.proofs.LogBack.{printed_log_reads}

-- what holds of all holds of some of them
some-of-all : {T : Type 0} (P : T → Type 0) (ys xs : List T) → IsSubList ys xs → All P xs → All P ys
some-of-all P [] xs part all = All-nil P
some-of-all P (y ∷ ys) [] part all = absurd part
some-of-all P (y ∷ ys) (x ∷ xs) (inl (same, part)) all =
    All-cons P y ys (subst P (sym same) (all 0 x (omega arith)))
    (some-of-all P ys xs part (λ k d inside. all (suc k) d (omega (arith, inside))))
some-of-all P (y ∷ ys) (x ∷ xs) (inr part) all =
    some-of-all P (y ∷ ys) xs part (λ k d inside. all (suc k) d (omega (arith, inside)))

-- a step with some of the hints of one that can be printed
part-printable : (low above id : ℕ) (clause : Clause) (hints : List ℤ) (step : Step) → low ≤ above
    → IsPrintableStep above (Added id clause hints) → IsPartOf id clause hints step
    → IsPrintableStep low step
part-printable low above id clause hints (Added other same fewer) under h (is, alike, part) = (
  omega (arith, under, h.0, is),
  omega (arith, h.1, is),
  subst (All (IsWithin VARIABLE_LIMIT)) (sym alike) h.2,
  some-of-all IsIdNumber fewer hints part h.3,
)
part-printable low above id clause hints (Erased other ids) under h part = absurd part

-- a log of some of the steps of one that can be printed, each with some of its hints
from-printable : (low above : ℕ) (small log : List Step) → low ≤ above
    → IsPrintableLog above log → AreFrom small log → IsPrintableLog low small
from-printable low above [] log under h from = tt
from-printable low above (step ∷ small) [] under h from = absurd from
from-printable low above (step ∷ small) (Erased id ids ∷ log) under h from =
    from-printable low above (step ∷ small) log under h.1 from
from-printable low above (Added other same fewer ∷ small) (Added id clause hints ∷ log) under h
    (inl (part, from)) = (
      part-printable low above id clause hints (Added other same fewer) under h.0 part,
      from-printable (max low other) (max above id) small log (omega (arith, under, part.0)) h.1
          from,
    )
from-printable low above (Erased other ids ∷ small) (Added id clause hints ∷ log) under h
    (inl (part, from)) = absurd part
from-printable low above (step ∷ small) (Added id clause hints ∷ log) under h (inr from) =
    from-printable low (max above id) (step ∷ small) log (omega (arith, under)) h.1 from

-- so it reads back
pub trimmed-reads : (formula : Cnf) (log small : List Step)
    → IsPrintableLog (length formula.clauses) log → IsTrimmed formula log small
    → ReadsLrat (length formula.clauses) (log_text small) small
trimmed-reads formula log small printable trimmed =
    printed_log_reads (length formula.clauses) small
    (from-printable (length formula.clauses) (length formula.clauses) small log (omega arith)
    printable trimmed.from)
