use Rattle.std.proofs.Common.{arith}
use Rattle.route_verify.specs.LineDepths.{deep_of}
use Rattle.route_verify.proofs.LineDepthLemmas.{last-below, taken-more}
use Rattle.route_verify.proofs.depths.LineDepths.take.Goals as goal

pub depth_of-depth-requires : goal.depth_of-depth-requires
depth_of-depth-requires c = λ d is.
    let less = last-below c.args.self.now c.requires.0 d c.requires.1.0 is in
    omega (arith, less, c.requires.1.1)

pub returns-clause-taken : goal.returns-clause-taken
returns-clause-taken c = λ elems has.
    taken-more c.args.self.now elems c.args.line c.keep_first.new.firsts c.depth_of-depth.result has
    (c.depth_of-depth.ensures elems has)
    (c.in_ok-keep_first.ensures (deep_of c.args.self.now elems) has.firsts)
