use Rattle.std.proofs.Common.{◌∙◌, sym}
use Rattle.route_bound.specs.Ranges.{corners_of}
use Rattle.route_bound.proofs.AcrossLemmas.{crosses-is}
use Rattle.route_bound.proofs.placed.PlacedNets.crosses.Goals as goal

pub returns : goal.returns
returns c =
    let found = rw (c.as_slice.ensures, c.standing.ensures) at c.has_sink_across.ensures in
    found
    ∙ sym (crosses-is c.args.self.now (corners_of c.args.range) c.args.net.now c.in-Some.pin
    c.in-Some-reach.driver c.if-net.false c.in-Some.is c.in-Some-reach.ensures)
