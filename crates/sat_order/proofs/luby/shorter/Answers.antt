use Rattle.std.proofs.Common.{arith}
use Rattle.sat_order.proofs.LubyLaws.{same-term}
use Rattle.sat_order.proofs.luby.shorter.Goals as goal

pub returns-clause-same : goal.returns-clause-same
returns-clause-same c = λ term is.
    same-term c.requires.power.0 c.args.number c.args.half term c.requires.power.1
    (omega arith) c.requires.last is
