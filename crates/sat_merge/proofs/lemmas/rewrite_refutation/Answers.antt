use Rattle.std.proofs.Common.{arith}
use Rattle.sat_merge.proofs.BehindLaws.{behind_searched}
use Rattle.sat_merge.proofs.lemmas.rewrite_refutation.Goals as goal

pub returns : goal.returns
returns c = λ is keep searched.
    let found = rw c.in-Some.is at c.in_ok-found.ensures.found in
    let lemmas = rw c.in-Some.is at c.in_ok-found.ensures.lemmas in
    let moving =
    c.in_ok-move_steps.ensures c.if-not-branch.false c.args.formula.now.cnf found in
    rw moving.parts
    (behind_searched c.requires.merged lemmas c.args.steps.now.steps
    moving.tail moving.may moving.moves searched (omega arith))
