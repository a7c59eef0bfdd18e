-- What is written: the routing, or the clauses and a log behind them.
use Rattle.std.specs.Prelude.{◌≡◌, ℕ, List, Result, Ok, Err}
use Rattle.desk_io.specs.ShelfState.{ShelfState}
use Rattle.desk_io.specs.WholeFile.{FailsToWrite, after_writing}
use Rattle.fpga_route.specs.Printed.{printed}
use Rattle.fpga_route.specs.ReadBack.{IsPrintable, ReadsBack}
use Rattle.fpga_types.specs.declared.route.RouteText.{RouteText}
use Rattle.sat_clause.specs.Formula.{Cnf}
use Rattle.sat_clause.specs.Step.{Step}
use Rattle.sat_text.specs.CnfText.{ReadsCnf}
use Rattle.sat_text.specs.Printed.{cnf_text, log_text}
use Rattle.route_sweep.specs.Asked.{Asked}
use Rattle.route_sweep.specs.Names.{cnf_name, lrat_name, route_name}
use Rattle.route_sweep.specs.declared.found.FileSlot.{FileSlot}
use Rattle.route_sweep.specs.declared.found.FileSlot.TheVariants.{Route, Clauses, Log}
use Rattle.route_sweep.specs.declared.found.Stop.{Stop}
use Rattle.route_sweep.specs.declared.found.Stop.TheVariants.{Fault, TooManyClauses, TooManyHeld, Memory}

-- a shelf after the clauses were written
abbrev pub after_clauses : ShelfState → Asked → (width : ℕ) → Cnf → ShelfState
after_clauses shelf ask width formula =
    after_writing shelf (cnf_name ask width) (cnf_text formula)

-- a shelf after the clauses were written, and then the log
abbrev pub after_proof : ShelfState → Asked → (width : ℕ) → Cnf → List Step → ShelfState
after_proof shelf ask width formula log =
    after_writing (after_clauses shelf ask width formula) (lrat_name ask width) (log_text log)

-- the clauses at the width were not written whole; or they were, but not the log behind them
abbrev pub FailsToWriteProof : Asked → (width : ℕ) → Cnf → List Step → (before now : ShelfState)
    → FileSlot → Type 0
FailsToWriteProof ask width formula log before now Route = ⊥
FailsToWriteProof ask width formula log before now (Clauses of) =
    (of ≡ width) × FailsToWrite before (cnf_name ask width) (cnf_text formula) now
FailsToWriteProof ask width formula log before now (Log of) = (of ≡ width)
    × FailsToWrite (after_clauses before ask width formula) (lrat_name ask width) (log_text log) now

-- what is left where the clauses and the log were to be written: both were, and the clauses read
-- back; or one of them was not; or memory was too short for their names
abbrev pub WritesProof : Asked → (width : ℕ) → Cnf → List Step → (before now : ShelfState)
    → Result (Unit {0}) Stop → Type 0
WritesProof ask width formula log before now (Ok done) =
    (now ≡ after_proof before ask width formula log) × ReadsCnf (cnf_text formula) formula
WritesProof ask width formula log before now (Err (Fault slot)) =
    FailsToWriteProof ask width formula log before now slot
WritesProof ask width formula log before now (Err (TooManyClauses count)) = ⊥
WritesProof ask width formula log before now (Err (TooManyHeld count)) = ⊥
WritesProof ask width formula log before now (Err Memory) = now ≡ before

-- what is left where a routing was to be written: it was, and reads back if it can be printed; or
-- it was not; or memory was too short for its name
abbrev pub WritesRoute : Asked → RouteText → (before now : ShelfState)
    → Result (Unit {0}) Stop → Type 0
WritesRoute ask found before now (Ok done) =
    (now ≡ after_writing before (route_name ask) (printed found))
    × (IsPrintable found → ReadsBack found)
WritesRoute ask found before now (Err (Fault slot)) =
    (slot ≡ Route) × FailsToWrite before (route_name ask) (printed found) now
WritesRoute ask found before now (Err (TooManyClauses count)) = ⊥
WritesRoute ask found before now (Err (TooManyHeld count)) = ⊥
WritesRoute ask found before now (Err Memory) = now ≡ before
