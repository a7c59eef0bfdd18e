-- The codes of sizes that pass a limit.
use Rattle.std.specs.Prelude.{ℕ, ◌+◌}
use Rattle.fpga_problem.specs.declared.text_file.TextFile.TheVariants.{Architecture, Netlist, Placement, Route}
use Rattle.run_outcome.specs.declared.size_cause.SizeCause.{SizeCause}
use Rattle.run_outcome.specs.declared.size_cause.SizeCause.TheVariants.{FormulaClauses, GeneratedNets, ClausesOfTurns, FileBytes}
use Rattle.run_outcome.specs.declared.text_file.TextFile.{TextFile}
use Rattle.run_outcome.specs.declared.text_file.TextFile.TheVariants.{Cnf, Lrat, Model, Problem, Routed}

-- the number of a file among those of all commands
abbrev pub file_number : TextFile → ℕ
file_number (Problem Architecture) = 1
file_number (Problem Netlist) = 2
file_number (Problem Placement) = 3
file_number (Problem Route) = 4
file_number Cnf = 5
file_number Lrat = 6
file_number Routed = 7
file_number Model = 8

-- the code of a cause
abbrev pub size_code : SizeCause → ℕ
size_code FormulaClauses = 901
size_code GeneratedNets = 903
size_code ClausesOfTurns = 904
size_code (FileBytes file) = 910 + file_number file
