use Rattle.route_picture.proofs.BlameLemmas.{strange-named}
use Rattle.route_picture.proofs.blame.take_line.Goals as goal

pub returns-then-not-contains-clause-strange : goal.returns-then-not-contains-clause-strange
returns-then-not-contains-clause-strange c = λ nets are.
    strange-named nets c.args.known.now c.number-number.result c.args.line.now.number
    c.args.line.now.words c.in-Some.name.now c.in-Some.ensures c.number-number.ensures are cc
