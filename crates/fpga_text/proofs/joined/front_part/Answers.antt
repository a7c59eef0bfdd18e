use Rattle.std.proofs.Common.{sym}
use Rattle.fpga_text.proofs.JoinedLemmas.{front-none}
use Rattle.fpga_text.proofs.joined.front_part.Goals as goal

-- no words are left, and the line does not go on
pub returns-then-is_empty-clause-same : goal.returns-then-is_empty-clause-same
returns-then-is_empty-clause-same c =
    front-none c.args.words.now c.args.later.now c.if-not-is_empty.ensures c.if-is_empty.ensures

pub returns-then-is_empty-clause-none : goal.returns-then-is_empty-clause-none
returns-then-is_empty-clause-none c = λ _.
    sym (front-none c.args.words.now c.args.later.now c.if-not-is_empty.ensures
    c.if-is_empty.ensures)
