use Rattle.std.proofs.Common.{ap, sym, ◌∙◌}
use Rattle.route_draw.specs.Wires.{LanesOf}
use Rattle.route_draw.proofs.LaneLemmas.{across-free, across-said}
use Rattle.route_draw.proofs.lanes.Lanes.across.Goals as goal

pub returns-then-self-clause-place : goal.returns-then-self-clause-place
returns-then-self-clause-place c = λ layout are.
    across-said layout c.args.self.now c.args.cell _ _ _ c.args.track _ _ _ are
    (ap (λ (l : LanesOf). l.grid) c.self.view_is)
    (c.deref.ensures.value ∙ ap (λ (l : LanesOf). l.needs) c.self.view_is)
    (ap (λ (l : LanesOf). l.width) c.self.view_is) c.need_at.ensures c.max-tracks.ensures
    c.track_place.ensures

pub returns-clause-place : goal.returns-clause-place
returns-clause-place c = λ layout are.
    across-free layout c.args.self.now c.args.cell c.args.track _
    (sym (ap (λ (l : LanesOf). l.on_tracks) c.self.view_is) ∙ c.if-self.false) are
