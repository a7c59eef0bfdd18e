use Rattle.std.proofs.Common.{arith}
use Rattle.sat_core.proofs.LeftLaws.{left_more, left_settled, settled_when}
use Rattle.sat_core.proofs.inputs.list_other.Goals as goal

pub returns-then-are_two : goal.returns-then-are_two
returns-then-are_two c = λ formula at left.
    left_settled formula 0 c.args.others.now.items c.args.i
    (settled_when formula c.args.i c.args.lits.now at
    (c.are_two.ensures.always c.if-are_two.true)) left

pub returns : goal.returns
returns c = λ formula at left.
    rw c.in_ok-push.ensures.items
    (left_more formula 0 c.args.others.now.items c.args.i (omega arith) left)
