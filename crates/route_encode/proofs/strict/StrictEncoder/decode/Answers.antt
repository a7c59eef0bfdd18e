use Rattle.std.proofs.Common.{◌∙◌, ap}
use Rattle.fpga_types.specs.Legal.{route_of}
use Rattle.route_encode.proofs.ProblemDecoded.{decoded-chosen, decoded-good}
use Rattle.route_encode.proofs.ProblemExactness.{model-says}
use Rattle.route_encode.proofs.strict.StrictEncoder.decode.Goals as goal

pub tracks_said-requires-clause-some : goal.tracks_said-requires-clause-some
tracks_said-requires-clause-some c =
    rw c.slots.ensures.value
    ((model-says c.args.width c.args.problem.now c.slots.ensures.fits c.args.values.now
    c.requires.model).some)

pub returns-clause-good : goal.returns-clause-good
returns-clause-good c =
    let said = rw c.slots.ensures.value at c.in_ok-tracks.ensures.said in
    let each = rw c.slots.ensures.value at c.in_ok-tracks.ensures.each in
    decoded-good c.args.width c.args.problem.now c.slots.ensures.fits c.args.values.now
    c.in_ok-tracks.tracks.items c.in_ok-route.route c.requires.model each said
    (c.in_ok-route.ensures ∙ ap (route_of c.args.problem.now.route) c.deref.ensures.value)

pub returns-clause-chosen : goal.returns-clause-chosen
returns-clause-chosen c =
    let said = rw c.slots.ensures.value at c.in_ok-tracks.ensures.said in
    let each = rw c.slots.ensures.value at c.in_ok-tracks.ensures.each in
    decoded-chosen c.args.width c.args.problem.now c.slots.ensures.fits c.args.values.now
    c.in_ok-tracks.tracks.items c.in_ok-route.route c.requires.model each said
    (c.in_ok-route.ensures ∙ ap (route_of c.args.problem.now.route) c.deref.ensures.value)
