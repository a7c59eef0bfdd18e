-- What a search at one width finds, and what is written of it. The clauses and the routings that
-- count are those of an encoder: nothing here knows of cells or tracks.
use Rattle.std.specs.Prelude.{◌≡◌, ◌⊎◌, ℕ, ◌*◌, ◌<◌, ◌≤◌, List, length, Result, Ok, Err}
use Rattle.desk_io.specs.Files.{Bytes}
use Rattle.desk_io.specs.ShelfState.{ShelfState}
use Rattle.desk_io.specs.WholeFile.{FailsToWrite, after_writing}
use Rattle.fpga_route.specs.Printed.{printed}
use Rattle.fpga_route.specs.ReadBack.{IsPrintable, ReadsBack}
use Rattle.fpga_types.specs.declared.route.RouteText.{RouteText}
use Rattle.sat_clause.specs.declared.limits.TheConstants.{CLAUSE_LIMIT}
use Rattle.sat_clause.specs.Formula.{Cnf, IsUnsat}
use Rattle.sat_clause.specs.Learned.{added_count}
use Rattle.sat_clause.specs.Step.{Step}
use Rattle.sat_text.specs.CnfText.{ReadsCnf}
use Rattle.sat_text.specs.Printed.{cnf_text}
use Rattle.route_sweep.specs.Asked.{Asked}
use Rattle.route_sweep.specs.Names.{route_name}
use Rattle.route_sweep.specs.Written.{FailsToWriteProof, after_proof}
use Rattle.route_sweep.specs.declared.found.FileSlot.{FileSlot}
use Rattle.route_sweep.specs.declared.found.FileSlot.TheVariants.{Route}
use Rattle.route_sweep.specs.declared.found.Found.{Found}
use Rattle.route_sweep.specs.declared.found.Found.TheVariants.{Routed, Refuted, Spent}
use Rattle.route_sweep.specs.declared.found.Stop.{Stop}
use Rattle.route_sweep.specs.declared.found.Stop.TheVariants.{Fault, TooManyClauses, TooManyHeld, Memory}

-- the formula has no more clauses than may be built
abbrev pub HasFew : Cnf → Type 0
HasFew formula = length formula.clauses ≤ CLAUSE_LIMIT

-- nor have so many copies of it together
pub record IsHeld (copies : ℕ) (formula : Cnf) : Type 0 where
  pub few : HasFew formula
  pub all : copies * length formula.clauses ≤ CLAUSE_LIMIT

-- what keeps the formula from being built in so many copies: it has more clauses than that, or all
-- copies have, and this is their number; or memory is short
abbrev pub IsUnbuilt : (copies : ℕ) → Cnf → Stop → Type 0
IsUnbuilt copies formula (TooManyClauses count) =
    (count ≡ length formula.clauses) × (CLAUSE_LIMIT < count)
IsUnbuilt copies formula (TooManyHeld count) =
    HasFew formula × (count ≡ copies * length formula.clauses) × (CLAUSE_LIMIT < count)
IsUnbuilt copies formula Memory = IsHeld copies formula
IsUnbuilt copies formula (Fault slot) = ⊥

-- the log refutes the formula so, with this lead; no values satisfy it, and no route is a routing
pub record IsRefutedBy
    (Refutes : List Step → Bytes → Type 0) (formula : Cnf) (good : RouteText → Type 0)
    (lead : Bytes) (log : List Step) : Type 0 where
  pub refutes : Refutes log lead
  pub unsat : IsUnsat formula
  pub none_good : (found : RouteText) → ¬ good found

-- the log leaves the formula open so, and has so many learned clauses
pub record IsLeftOpenBy
    (LeavesOpen : List Step → Type 0) (learned : ℕ) (log : List Step) : Type 0 where
  pub opens : LeavesOpen log
  pub many : learned ≡ added_count log

-- the log refutes the formula so, with some lead, or leaves it open so
abbrev pub Ends : (Refutes : List Step → Bytes → Type 0) → (LeavesOpen : List Step → Type 0)
    → Cnf → (good : RouteText → Type 0) → List Step → Type 0
Ends Refutes LeavesOpen formula good log =
    ((lead : Bytes) × IsRefutedBy Refutes formula good lead log) ⊎ LeavesOpen log

-- a routing was written, and no other file; it reads back if it can be printed
pub record WritesRouting
    (ask : Asked) (good : RouteText → Type 0) (before now : ShelfState) : Type 0 where
  pub found : RouteText
  pub routing : good found
  pub written : now ≡ after_writing before (route_name ask) (printed found)
  pub reads_back : IsPrintable found → ReadsBack found

-- the clauses were written, then a log that ends the search so, and no other file; the clauses read
-- back
pub record WritesLog
    (ask : Asked) (width : ℕ) (formula : Cnf) (Ends : List Step → Type 0)
    (before now : ShelfState) : Type 0 where
  pub log : List Step
  pub ends : Ends log
  pub written : now ≡ after_proof before ask width formula log
  pub clauses_back : ReadsCnf (cnf_text formula) formula

-- a routing was being written
pub record FailsToWriteRouting
    (ask : Asked) (good : RouteText → Type 0) (before now : ShelfState) : Type 0 where
  pub found : RouteText
  pub routing : good found
  pub fails : FailsToWrite before (route_name ask) (printed found) now

-- a log had ended the search so, and the clauses or the log were being written
pub record FailsToWriteLog
    (ask : Asked) (width : ℕ) (formula : Cnf) (Ends : List Step → Type 0)
    (before now : ShelfState) (slot : FileSlot) : Type 0 where
  pub log : List Step
  pub ended : Ends log
  pub fails : FailsToWriteProof ask width formula log before now slot

-- the shelf failed on this file, and what was found stands as far as it was written
abbrev pub FailsOn : Asked → (width : ℕ) → Cnf → (good : RouteText → Type 0)
    → (Ends : List Step → Type 0) → (before now : ShelfState) → FileSlot → Type 0
FailsOn ask width formula good Ends before now Route = FailsToWriteRouting ask good before now
FailsOn ask width formula good Ends before now slot =
    FailsToWriteLog ask width formula Ends before now slot

-- what is found at a width, and what is written of it: a routing, or the clauses and a log that
-- refutes them so, or that leaves them open so; nothing is written where so many copies have too
-- many clauses or where memory is short
module _ (copies : ℕ) (Refutes : List Step → Bytes → Type 0) (LeavesOpen : List Step → Type 0)
    (ask : Asked) (width : ℕ) (formula : Cnf) (good : RouteText → Type 0) where
  abbrev pub FindsBy : (before now : ShelfState) → Result Found Stop → Type 0
  FindsBy before now (Ok Routed) = IsHeld copies formula × WritesRouting ask good before now
  FindsBy before now (Ok (Refuted lead)) =
      IsHeld copies formula
      × WritesLog ask width formula (IsRefutedBy Refutes formula good lead.items) before now
  FindsBy before now (Ok (Spent learned)) =
      IsHeld copies formula
      × WritesLog ask width formula (IsLeftOpenBy LeavesOpen learned) before now
  FindsBy before now (Err (Fault slot)) =
      IsHeld copies formula
      × FailsOn ask width formula good (Ends Refutes LeavesOpen formula good) before now slot
  FindsBy before now (Err stop) = IsUnbuilt copies formula stop × (now ≡ before)

-- the width was left open after fewer learned clauses than the budget allows
abbrev pub FindsShort : (budget : ℕ) → Result Found Stop → Type 0
FindsShort budget (Ok (Spent learned)) = learned < budget
FindsShort budget came = ⊥
