use Rattle.std.proofs.Common.{Bool, ap, sym, ◌∙◌}
use Rattle.std.specs.Prelude.{string_bytes, true}
use Rattle.route_picture.specs.Page.{printed_as}
use Rattle.route_picture.proofs.page.printed.Goals as goal

pub returns-clause-text : goal.returns-clause-text
returns-clause-text c =
    c.in-Ok.ensures ∙ ap (printed_as true) c.as_str.ensures.value
    ∙ ap (λ (page : Bool). printed_as page (string_bytes c.args.picture)) (sym c.if-not-page.false)
