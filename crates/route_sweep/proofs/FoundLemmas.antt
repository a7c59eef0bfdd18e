-- What a search has found, by what was written of it.
use Rattle.std.proofs.Common.{◌≡◌, ℕ, List, sym, subst, inl, inr}
use Rattle.std.specs.Prelude.{Result, Ok, Err, Vec}
use Rattle.std.specs.Global.{Global}
use Rattle.std.specs.Result.{result_and}
use Rattle.desk_io.specs.Files.{Bytes}
use Rattle.desk_io.specs.ShelfState.{ShelfState}
use Rattle.fpga_types.specs.declared.route.RouteText.{RouteText}
use Rattle.sat_clause.specs.Formula.{Cnf, IsUnsat}
use Rattle.sat_clause.specs.Learned.{added_count}
use Rattle.sat_clause.specs.Step.{Step}
use Rattle.route_sweep.specs.Asked.{Asked}
use Rattle.route_sweep.specs.Found.{Ends, FindsBy, FindsShort, IsHeld, IsLeftOpenBy, IsRefutedBy}
use Rattle.route_sweep.specs.Written.{WritesProof, WritesRoute}
use Rattle.route_sweep.specs.declared.found.FileSlot.TheVariants.{Route, Clauses, Log}
use Rattle.route_sweep.specs.declared.found.Found.{Found}
use Rattle.route_sweep.specs.declared.found.Found.TheVariants.{Routed, Refuted, Spent}
use Rattle.route_sweep.specs.declared.found.Stop.{Stop}
use Rattle.route_sweep.specs.declared.found.Stop.TheVariants.{Fault, TooManyClauses, TooManyHeld, Memory}

module _ (copies : ℕ) (Refutes : List Step → Bytes → Type 0) (LeavesOpen : List Step → Type 0)
    (ask : Asked) (width : ℕ) (formula : Cnf) (good : RouteText → Type 0) (before now : ShelfState)
    (held : IsHeld copies formula) where
  abbrev Finds : Result Found Stop → Type 0
  Finds = FindsBy copies Refutes LeavesOpen ask width formula good before now

  module _ (found : RouteText) (routing : good found) where
    -- a routing was found, and written or not
    routed : (result : Result (Unit {0}) Stop) → WritesRoute ask found before now result
        → Finds (result_and result (Ok Routed))
    routed (Ok done) writes = (
      held,
      record { found = found; routing = routing; written = writes.0; reads_back = writes.1 },
    )
    routed (Err (Fault Route)) writes =
        (held, record { found = found; routing = routing; fails = writes.1 })
    routed (Err (Fault (Clauses of))) writes =
        absurd (let clash : Clauses of ≡ Route = writes.0 in cc)
    routed (Err (Fault (Log of))) writes =
        absurd (let clash : Log of ≡ Route = writes.0 in cc)
    routed (Err (TooManyClauses count)) writes = absurd writes
    routed (Err (TooManyHeld count)) writes = absurd writes
    routed (Err Memory) writes = (held, writes)

    pub finds-routing : (result : Result (Unit {0}) Stop)
        → WritesRoute ask found before now result
        → (came : Result Found Stop) → came ≡ result_and result (Ok Routed) → Finds came
    finds-routing result writes came is = subst Finds (sym is) (routed result writes)

  module _ (log : List Step) where
    -- the clauses and the log were not written
    stopped : Ends Refutes LeavesOpen formula good log → (stop : Stop)
        → WritesProof ask width formula log before now (Err stop) → Finds (Err stop)
    stopped ended (Fault Route) h = absurd h
    stopped ended (Fault (Clauses of)) h = (held, record { log = log; ended = ended; fails = h })
    stopped ended (Fault (Log of)) h = (held, record { log = log; ended = ended; fails = h })
    stopped ended (TooManyClauses count) h = absurd h
    stopped ended (TooManyHeld count) h = absurd h
    stopped ended Memory h = (held, h)

    -- the log refutes the formula
    refuted : (lead : Vec ℕ Global) → IsRefutedBy Refutes formula good lead.items log
        → (result : Result (Unit {0}) Stop)
        → WritesProof ask width formula log before now result
        → Finds (result_and result (Ok (Refuted lead)))
    refuted lead ends (Ok done) h =
        (held, record { log = log; ends = ends; written = h.0; clauses_back = h.1 })
    refuted lead ends (Err stop) h = stopped (inl (lead.items, ends)) stop h

    -- the log leaves the formula open
    spent : (learned : ℕ) → IsLeftOpenBy LeavesOpen learned log
        → (result : Result (Unit {0}) Stop)
        → WritesProof ask width formula log before now result
        → Finds (result_and result (Ok (Spent learned)))
    spent learned ends (Ok done) h =
        (held, record { log = log; ends = ends; written = h.0; clauses_back = h.1 })
    spent learned ends (Err stop) h = stopped (inr ends.opens) stop h

    pub finds-refuted : (IsUnsat formula → (found : RouteText) → ¬ good found) → (lead : Vec ℕ Global)
        → Refutes log lead.items × IsUnsat formula → (result : Result (Unit {0}) Stop)
        → WritesProof ask width formula log before now result
        → (came : Result Found Stop) → came ≡ result_and result (Ok (Refuted lead)) → Finds came
    finds-refuted none lead h result writes came is =
        subst Finds (sym is) (refuted lead
        (record { refutes = h.0; unsat = h.1; none_good = none h.1 }) result writes)

    pub finds-spent : (learned : ℕ) → LeavesOpen log × (learned ≡ added_count log)
        → (result : Result (Unit {0}) Stop)
        → WritesProof ask width formula log before now result
        → (came : Result Found Stop) → came ≡ result_and result (Ok (Spent learned)) → Finds came
    finds-spent learned h result writes came is =
        subst Finds (sym is)
        (spent learned (record { opens = h.0; many = h.1 }) result writes)

-- ---- a width that was left open before the budget was spent

-- it was so by what was found, since an error of writing is none of these
pub found-short : (budget : ℕ) (found : Found) (wrote : Result (Unit {0}) Stop)
    (came : Result Found Stop) → came ≡ result_and wrote (Ok found) → FindsShort budget came
    → FindsShort budget (Ok found)
found-short budget found (Ok done) came is h = subst (FindsShort budget) is h
found-short budget found (Err stop) came is h = absurd (subst (FindsShort budget) is h)
