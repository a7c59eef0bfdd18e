-- What another way comes to is what counting in front of it comes to, where numbers forbid nothing;
-- and what one search comes to.
use Rattle.std.proofs.Common.{◌≡◌, ◌≤◌, ◌+◌, ℕ, suc, List, [], ◌∷◌, subst, length, sym, inl, inr, arith}
use Rattle.std.specs.Prelude.{IfOk, IsTrue, Bool, true, false, Result, Ok, Err}
use Rattle.desk_io.specs.Files.{Bytes}
use Rattle.sat_clause.specs.declared.limits.TheConstants.{ID_LIMIT, VARIABLE_LIMIT}
use Rattle.sat_clause.specs.Formula.{Cnf, IsUnsat}
use Rattle.sat_clause.specs.Learned.{added_count}
use Rattle.sat_clause.specs.Step.{Step, Added, Erased}
use Rattle.sat_clause.proofs.Refutes.{refutes}
use Rattle.sat_core.specs.Answer.{most_added}
use Rattle.sat_core.specs.SearchLog.{AreNumbered}
use Rattle.sat_core.specs.declared.answer.Answer.{Answer}
use Rattle.sat_core.specs.declared.answer.Answer.TheVariants.{Refuted as SearchRefuted, Spent, Stopped}
use Rattle.route_core.specs.Trimmed.{AddedRise}
use Rattle.route_sweep.specs.Ended.{HasEnded}
use Rattle.route_sweep.specs.Found.{HasFew}
use Rattle.route_sweep.specs.declared.searcher.Ended.{Ended}
use Rattle.route_sweep.specs.declared.searcher.Ended.TheVariants.{Model, Refuted, Open}
use Rattle.route_ways.specs.Counting.{IsRefutedIf}
use Rattle.route_ways.specs.Plain.{CanSearch, HasSearched, IsLeftOpen, IsLogOf, IsRefuted}
use Rattle.route_ways.specs.declared.plain.Plain.{Plain}
use Rattle.route_ways.proofs.LogLemmas.{log-printable, log-reads}

module _ (forbidden : Type 0) (Refutes : List Step → Bytes → Type 0)
    (LeavesOpen : List Step → Type 0) (formula : Cnf) (free : ¬ forbidden) where
  otherwise : (came : Ended) → HasEnded Refutes LeavesOpen formula came
      → HasEnded (λ log lead. IsRefutedIf forbidden (Refutes log lead) formula log lead)
      (λ log. (¬ forbidden) × LeavesOpen log) formula came
  otherwise (Model values) h = h
  otherwise (Refuted log lead) h = (inr (free, h.0), h.1)
  otherwise (Open log learned) h = ((free, h.0), h.1)

  pub goes-on : {E : Type 0} (came : Result Ended E)
      → IfOk came (HasEnded Refutes LeavesOpen formula)
      → IfOk came (HasEnded
      (λ log lead. IsRefutedIf forbidden (Refutes log lead) formula log lead)
      (λ log. (¬ forbidden) × LeavesOpen log) formula)
  goes-on (Ok came) h = otherwise came h
  goes-on (Err short) h = tt

-- a search that keeps all clauses adds no more of them than another
pub most-kept : (keep : Bool) (vars : ℕ) → most_added true vars ≤ most_added keep vars
most-kept true vars = omega arith
most-kept false vars = omega arith

module _ (way : Plain) (formula : Cnf) (log : List Step) (few : HasFew formula)
    (few_vars : formula.vars ≤ VARIABLE_LIMIT) (able : CanSearch way) where
  log-of : (answer : Answer) → HasSearched way formula log answer → IsLogOf way formula log
  log-of answer h =
      let room : length formula.clauses + way.budget ≤ ID_LIMIT =
      omega (arith, few, able.affordable) in
      record {
        search = h.logged;
        kept = h.kept;
        printable = log-printable formula log way.budget few_vars room h.logged h.within;
        reads_back = log-reads formula log way.budget few_vars room h.logged h.within;
      }

  pub plainly-refuted : HasSearched way formula log SearchRefuted → (lead : Bytes) → lead ≡ []
      → IsRefuted way formula log lead × IsUnsat formula
  plainly-refuted h lead silent = (
    record { of = log-of SearchRefuted h; refutes = h.end; silent = silent },
    refutes formula log h.end.accepts,
  )

  pub plainly-open : HasSearched way formula log Spent
      → IsLeftOpen way formula log × (way.budget ≡ added_count log)
  plainly-open h =
      let open_still : ¬ (most_added way.keep formula.vars ≤ way.budget) =
      λ large. h.decided large (λ stopped. cc) in (
        record {
          of = log-of Spent h;
          ends = inl (record { spends = h.end; short = omega (arith, open_still) });
        },
        sym h.end.all,
      )

  pub plainly-stopped : HasSearched way formula log Stopped → IsTrue way.limited
      → IsLeftOpen way formula log
  plainly-stopped h limited = record {
    of = log-of Stopped h;
    ends = inr (record { limited = limited; leaves = h.end });
  }

-- ids that are numbered in order rise
pub numbered-rise : (n : ℕ) (log : List Step) → AreNumbered (suc n) log → AddedRise n log
numbered-rise n [] h = tt
numbered-rise n (Added id clause hints ∷ log) h =
    let rest = numbered-rise (suc n) log h.1 in
    (omega (arith, h.0), subst (λ (k : ℕ). AddedRise k log) (sym h.0) rest)
numbered-rise n (Erased own ids ∷ log) h = numbered-rise n log h.2
