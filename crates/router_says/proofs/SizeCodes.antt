-- Each code of this kind has its words.
use Rattle.std.proofs.Common.{◌≡◌, true, refl}
use Rattle.code_words.specs.Codes.{is_code}
use Rattle.fpga_problem.specs.declared.text_file.TextFile.TheVariants.{Architecture, Netlist, Placement, Route}
use Rattle.run_outcome.specs.SizeCauses.{size_code}
use Rattle.run_outcome.specs.declared.size_cause.SizeCause.{SizeCause}
use Rattle.run_outcome.specs.declared.size_cause.SizeCause.TheVariants.{FormulaClauses, GeneratedNets, ClausesOfTurns, FileBytes}
use Rattle.run_outcome.specs.declared.text_file.TextFile.TheVariants.{Cnf, Lrat, Model, Problem, Routed}

pub size-codes_are_said : (c : SizeCause) → is_code (size_code c) ≡ true
size-codes_are_said FormulaClauses = refl
size-codes_are_said GeneratedNets = refl
size-codes_are_said ClausesOfTurns = refl
size-codes_are_said (FileBytes (Problem Architecture)) = refl
size-codes_are_said (FileBytes (Problem Netlist)) = refl
size-codes_are_said (FileBytes (Problem Placement)) = refl
size-codes_are_said (FileBytes (Problem Route)) = refl
size-codes_are_said (FileBytes Cnf) = refl
size-codes_are_said (FileBytes Lrat) = refl
size-codes_are_said (FileBytes Routed) = refl
size-codes_are_said (FileBytes Model) = refl
