use Rattle.std.proofs.Common.{◌++◌, [], ◌∷◌, ℕ, List, false, get_or, ap, ◌∙◌}
use Rattle.route_core.proofs.BlameLemmas.{filter-failed, filter-passed}
use Rattle.route_core.proofs.blaming.marked.Goals as goal

pub loop-net-preserved-then-not-marks-net : goal.loop-net-preserved-then-not-marks-net
loop-net-preserved-then-not-marks-net c =
    c.loop-net.invariant
    ∙ filter-failed (λ at. get_or c.args.marks.now at false) c.loop-net.net c.if-not-marks-net.true

pub loop-net-preserved : goal.loop-net-preserved
loop-net-preserved c =
    c.in_ok-push.ensures.items
    ∙ ap (λ (xs : List ℕ). xs ++ c.loop-net.net ∷ []) c.loop-net.invariant
    ∙ filter-passed (λ at. get_or c.args.marks.now at false) c.loop-net.net c.if-not-marks-net.false
