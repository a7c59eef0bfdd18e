use Rattle.std.proofs.Common.{◌∙◌}
use Rattle.route_draw.proofs.NameLemmas.{found-name}
use Rattle.route_draw.proofs.emphasis.NetNames.contains.Goals as goal

pub returns : goal.returns
returns c =
    rw (← c.self.view_is) (c.contains.ensures ∙ found-name c.self.inside.names.keys c.args.name.now)
