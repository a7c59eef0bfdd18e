use Rattle.std.proofs.Common.{arith, length, length-append, ap}
use Rattle.fpga_types.specs.Slots.{slots}
use Rattle.route_encode.specs.Encoding.{cnf_of}
use Rattle.problem_facts.proofs.SlotCells.{all-there}
use Rattle.route_count.proofs.FirstRowLemmas.{meeting-different}
use Rattle.route_count.proofs.counting.counted_row.Goals as goal

pub of-requires-clause-few : goal.of-requires-clause-few
of-requires-clause-few c =
    let more = ap length c.requires.begun.clauses.1 in
    let both = length-append (cnf_of c.args.width c.args.problem.now).clauses
    c.requires.begun.clauses.0 in
    omega (arith, more, both, c.len-clauses.ensures, c.len-clauses.type_inv)

pub new-requires-clause-there : goal.new-requires-clause-there
new-requires-clause-there c =
    rw (c.slots-slots.ensures.value, c.route.ensures.value)
    (all-there c.args.problem.now.route c.route.ensures.given.route)

pub new-requires-clause-differ : goal.new-requires-clause-differ
new-requires-clause-differ c =
    meeting-different c.args.problem.now.route.grid (slots c.args.problem.now.route)
    c.args.trees.now.roots c.args.row.now c.requires.meet

pub first_level-requires-clause-differ : goal.first_level-requires-clause-differ
first_level-requires-clause-differ c =
    meeting-different c.args.problem.now.route.grid (slots c.args.problem.now.route)
    c.args.trees.now.roots c.args.row.now c.requires.meet
