use Rattle.route_ordered.specs.Ordered.{slots_among}
use Rattle.route_ordered.proofs.ClauseLemmas.{without-order}
use Rattle.route_ordered.proofs.ordered.OrderedEncoder.decode.Goals as goal

pub decode-requires-clause-model : goal.decode-requires-clause-model
decode-requires-clause-model c =
    without-order c.args.width c.args.problem.now
    (slots_among c.args.problem.now c.args.self.now.row.items) c.args.values.now c.requires.model
