use Rattle.std.proofs.Common.{◌≡◌, ◌<◌, ◌∙◌, ℕ, List, length, sym, ap, subst, All}
use Rattle.fpga_types.specs.declared.problem.Slot.{Slot}
use Rattle.fpga_types.specs.declared.route.RouteText.{RouteText}
use Rattle.route_core.proofs.BlameLemmas.{nets-there}
use Rattle.route_core.proofs.blaming.net_marks.Goals as goal

pub mark_nets-requires-clause-there : goal.mark_nets-requires-clause-there
mark_nets-requires-clause-there c =
    let many : length c.args.p.now.route.nets ≡ length c.deref_mut.result.now =
    sym (c.deref_mut.ensures.len ∙ c.in_ok-marks.ensures.len ∙ ap length c.as_slice.ensures
    ∙ ap (λ (route : RouteText). length route.nets) c.route.ensures.value) in
    subst (λ (n : ℕ). All (λ slot. slot.net < n) c.slots.result.now) many
    (subst (λ (ss : List Slot). All (λ slot. slot.net < length c.args.p.now.route.nets) ss)
    (sym c.slots.ensures.value) (nets-there c.args.p.now.route))
