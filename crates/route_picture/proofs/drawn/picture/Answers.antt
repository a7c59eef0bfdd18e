use Rattle.std.proofs.lemmas.Result.{MatchResult-weaker}
use Rattle.route_picture.proofs.drawn.picture.Goals as goal

pub returns : goal.returns
returns g c = MatchResult-weaker c.picture_of_texts.result c.picture_of_texts.ensures
    (λ picture drawn. drawn _ c.in-Ok.ensures.are_texts)
    (λ stop undrawn. undrawn _ _ c.in-Ok.ensures.are_texts)
