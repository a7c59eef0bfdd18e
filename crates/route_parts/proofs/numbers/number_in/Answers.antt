use Rattle.std.proofs.Common.{◌*◌, ◌≤◌, arith}
use Rattle.route_parts.proofs.NumberLemmas.{few-cells, few-wires}
use Rattle.route_parts.proofs.numbers.number_in.Goals as goal

pub overflow_mul-result : goal.overflow_mul-result
overflow_mul-result c =
    let cells = few-cells c.args.grid (omega arith) (omega arith) in
    let few : c.cell_number.result * c.args.width ≤ 1292800 =
    few-wires c.cell_number.result c.args.width (omega (arith, cells)) c.requires.few in
    omega (arith, few)

pub overflow_add-result : goal.overflow_add-result
overflow_add-result c =
    let cells = few-cells c.args.grid (omega arith) (omega arith) in
    let few : c.cell_number.result * c.args.width ≤ 1292800 =
    few-wires c.cell_number.result c.args.width (omega (arith, cells)) c.requires.few in
    omega (arith, few)
