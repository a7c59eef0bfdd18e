use Rattle.std.proofs.Common.{◌≤◌, length, subst}
use Rattle.std.specs.Prelude.{List}
use Rattle.desk_io.proofs.WritingLaws.{fails-longer, passes-then-writes}
use Rattle.fpga_types.specs.declared.limits.TheConstants.{SLOT_LIMIT}
use Rattle.fpga_types.specs.declared.problem.Slot.{Slot}
use Rattle.sat_text.specs.Printed.{cnf_text}
use Rattle.run_clauses.specs.VariableNames.{names_if}
use Rattle.run_clauses.proofs.VariableNameLaws.{reads-behind-names}
use Rattle.run_clauses.proofs.variable_names.NamedTextPrintsNamedClauses.print.Goals as goal

pub returns-in_default-clause-written : goal.returns-in_default-clause-written
returns-in_default-clause-written g c =
    let item = c.args.item.now in
    fails-longer c.args.writer.now (names_if item.names item.width item.problem.now.route)
    (cnf_text item.formula.now.cnf) c.in_default.ensures

pub returns-clause-written : goal.returns-clause-written
returns-clause-written g c =
    passes-then-writes (cnf_text c.args.item.now.formula.now.cnf) _ _ _ c.in-Ok.ensures
    c.print.ensures.written

pub returns-clause-known : goal.returns-clause-known
returns-clause-known g c ok can few =
    let item = c.args.item.now in
    reads-behind-names item.names item.width item.problem.now.route item.formula.now.cnf
    item.in_range
    (subst (λ (all : List Slot). length all ≤ SLOT_LIMIT) c.slots-few.ensures.value
    c.slots-few.ensures.limit)
    can (c.print.ensures.known ok few)
