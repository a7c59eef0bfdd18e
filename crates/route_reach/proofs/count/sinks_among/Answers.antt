use Rattle.std.proofs.Common.{◌≡◌, ◌+◌, ◌<◌, ◌∙◌, ℕ, List, None, Some, add-one, ap, arith, get_or, length, refl, sym, take}
use Rattle.std.specs.Prelude.{filter_map, is_some, slice_get}
use Rattle.std.specs.List.{last_or}
use Rattle.list_laws.proofs.Places.{get-there, last-push, take-get}
use Rattle.fpga_types.specs.Slots.{adjacent}
use Rattle.fpga_types.specs.declared.route.Elem.{Elem}
use Rattle.fpga_bounds.proofs.LineLemmas.{NO_ELEM}
use Rattle.route_reach.specs.Ends.{sink_pin}
use Rattle.route_reach.proofs.CountSteps.{length-none, length-some, neighbours-counted}
use Rattle.route_reach.proofs.count.sinks_among.Goals as goal
use Rattle.route_reach.proofs.count.sinks_among.Goals.{then-is_some, else-is_some}

pub loop-e-preserved : goal.loop-e-preserved
loop-e-preserved c =
    let elems : List Elem = c.args.elems.now in
    let e : Elem = get_or elems c.loop-e.e-index NO_ELEM in
    let below : c.loop-e.e-index < length elems = omega arith in
    let here : slice_get elems c.loop-e.e-index ≡ Some e =
    get-there elems c.loop-e.e-index _ NO_ELEM below refl in
    let more = neighbours-counted sink_pin elems c.loop-e.e-index e c.loop-e.previous here
    c.loop-e.invariant.previous in
    let found = filter_map sink_pin (adjacent (take c.loop-e.e-index elems)) in
    let last : Some e ≡ last_or None (take (c.loop-e.e-index + 1) elems) =
    rw (add-one, take-get elems c.loop-e.e-index e here)
    (sym (last-push None (take c.loop-e.e-index elems) e)) in
    elim c.if-is_some.branch [
      | then-is_some w ↦ record {
        count = w.count-is ∙ ap (λ (n : ℕ). n + 1) c.loop-e.invariant.count
            ∙ sym (ap length more ∙ length-some found _
            (sym (ap is_some c.sink_pin.ensures) ∙ sym c.is_some.ensures ∙ w.if-is_some.true));
        few = omega (arith, w.count-is, c.loop-e.invariant.few);
        previous = last;
      }
      | else-is_some w ↦ record {
        count = w.count-is ∙ c.loop-e.invariant.count
            ∙ sym (ap length more ∙ length-none found _
            (sym (ap is_some c.sink_pin.ensures) ∙ sym c.is_some.ensures ∙ w.if-is_some.false));
        few = omega (arith, w.count-is, c.loop-e.invariant.few);
        previous = last;
      }
    ]
