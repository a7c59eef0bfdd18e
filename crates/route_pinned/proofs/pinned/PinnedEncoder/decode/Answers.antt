use Rattle.route_pinned.proofs.EncodeLemmas.{without-pins}
use Rattle.route_pinned.proofs.pinned.PinnedEncoder.decode.Goals as goal

pub decode-requires-clause-model : goal.decode-requires-clause-model
decode-requires-clause-model c =
    without-pins c.args.width c.args.problem.now c.args.values.now c.requires.model
