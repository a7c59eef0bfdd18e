use Rattle.std.proofs.Common.{ap}
use Rattle.std.specs.Option.{option_copied}
use Rattle.std.specs.Prelude.{string_bytes}
use Rattle.route_draw.specs.Blamed.{blame_of}
use Rattle.route_draw.specs.Cut.{cut_of}
use Rattle.route_picture.specs.Words.{routed_of}
use Rattle.route_picture.proofs.DrawnLemmas.{shows-own, shows-routed, shows-textless, stops-routed}
use Rattle.route_picture.proofs.shown.shown.Goals as goal

pub returns-in-Ok : goal.returns-in-Ok
returns-in-Ok c =
    shows-own (routed_of c.args.words.routed) (option_copied c.args.text) c.args.problem.now
    c.args.words.width (blame_of c.args.emphasis.now) (cut_of c.args.cut) (string_bytes c.in-Ok.picture)
    (ap routed_of c.in_default.is) c.in-Ok.ensures

pub returns-in-Ok-route_picture : goal.returns-in-Ok-route_picture
returns-in-Ok-route_picture c =
    shows-textless (routed_of c.args.words.routed) (option_copied c.args.text) c.args.problem.now
    c.args.words.width (blame_of c.args.emphasis.now) (cut_of c.args.cut) (string_bytes c.in-Ok-route_picture.picture)
    (ap option_copied c.in_default-text.is) c.in-Ok-route_picture.ensures

pub returns-in-Ok-routed_picture : goal.returns-in-Ok-routed_picture
returns-in-Ok-routed_picture c =
    shows-routed (routed_of c.args.words.routed) (option_copied c.args.text) _ _
    c.args.problem.now c.args.words.width (blame_of c.args.emphasis.now) (cut_of c.args.cut)
    (string_bytes c.in-Ok-routed_picture.picture) (ap routed_of c.in-Some.is)
    (ap option_copied c.in-Some-text.is) c.in-Ok-routed_picture.ensures

pub returns-in-Err-routed_picture : goal.returns-in-Err-routed_picture
returns-in-Err-routed_picture c =
    stops-routed (routed_of c.args.words.routed) (option_copied c.args.text) _ _
    c.args.problem.now c.args.words.width c.in-Err-routed_picture.stop (ap routed_of c.in-Some.is)
    (ap option_copied c.in-Some-text.is) c.in-Err-routed_picture.ensures
