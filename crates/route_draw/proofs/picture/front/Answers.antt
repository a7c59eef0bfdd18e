use Rattle.std.proofs.Common.{List, ℕ, ap, ◌∙◌, ◌++◌}
use Rattle.std.specs.Prelude.{codes}
use Rattle.route_draw.proofs.picture.front.Goals as goal

pub returns : goal.returns
returns c = (
  c.as_str.result.now,
  c.in_ok-append_front.ensures
      ∙ ap (λ (t : List ℕ). t ++ codes "<svg " ++ c.as_str.result.now) c.new-out.ensures.bytes,
)
