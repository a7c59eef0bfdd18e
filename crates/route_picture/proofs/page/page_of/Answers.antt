use Rattle.std.proofs.Common.{List, ℕ, ap, ◌∙◌, ◌++◌}
use Rattle.route_picture.specs.declared.page.TheConstants.{HEAD, TAIL}
use Rattle.route_picture.proofs.page.page_of.Goals as goal

pub returns : goal.returns
returns c =
    c.in_ok-push_str-3.ensures.bytes ∙ ap (λ (t : List ℕ). t ++ TAIL.now)
    (c.in_ok-push_str-2.ensures.bytes ∙ ap (λ (t : List ℕ). t ++ c.args.picture.now)
    (c.in_ok-push_str.ensures.bytes ∙ ap (λ (t : List ℕ). t ++ HEAD.now)
    c.new-out.ensures.bytes))
