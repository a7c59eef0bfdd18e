-- The logs that are cut down to what a refutation needs, and the nets that they blame.
use Rattle.std.specs.Prelude.{◌≡◌, ◌++◌, ℕ, List, [], length, codes, flat_map}
use Rattle.desk_io.specs.Files.{Bytes}
use Rattle.fpga_types.specs.Problem.{RoutingProblem}
use Rattle.fpga_types.specs.declared.route.RouteText.{RouteText}
use Rattle.route_sweep.specs.NetNames.{name_at}
use Rattle.route_core.specs.Blamed.{blamed}
use Rattle.route_core.specs.Core.{AreUnroutable}
use Rattle.route_core.specs.Trimmed.{AddedRise, IsTrimmed}
use Rattle.sat_clause.specs.Formula.{Cnf}
use Rattle.sat_clause.specs.Judge.{Accepts}
use Rattle.sat_clause.specs.Step.{Step}
use Rattle.sat_text.specs.LratText.{ReadsLrat}
use Rattle.sat_text.specs.Printed.{log_text}
use Rattle.sat_text.specs.ReadBack.{IsPrintableLog}

-- a judge of plain steps accepts the log, the ids of the clauses that it adds rise, and its numbers
-- can be read
pub record IsLearned (formula : Cnf) (log : List Step) : Type 0 where
  pub accepted : Accepts formula log
  pub rising : AddedRise (length formula.clauses) log
  pub printable : IsPrintableLog (length formula.clauses) log

-- a line that names the net
abbrev pub net_line : RouteText → (position : ℕ) → Bytes
net_line route position = codes "net " ++ name_at route position ++ codes "\n"

-- a line for each of these nets, in their order
abbrev pub net_lines : RouteText → (positions : List ℕ) → Bytes
net_lines route positions = flat_map (net_line route) positions

-- the log refutes the formula, without what a refutation does not need, and reads back; the nets
-- that it blames have no legal routing by themselves, and are named before the report
pub record IsCutDown
    (p : RoutingProblem) (width : ℕ) (formula : Cnf) (log : List Step) (lead : Bytes)
    : Type 0 where
  pub trimmed : IsTrimmed formula log log
  pub reads_back : ReadsLrat (length formula.clauses) (log_text log) log
  pub just : AreUnroutable width p (blamed width p formula log)
  pub names : lead ≡ net_lines p.route (blamed width p formula log)
