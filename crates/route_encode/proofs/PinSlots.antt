-- The slots of the pin steps of a route are slots of the route.
use Rattle.std.proofs.Common.{◌≡◌, ℕ, suc, ◌<◌, Option, Some, length, ap, subst, inl, inr, arith}
use Rattle.std.specs.Prelude.{filter_map, slice_get}
use Rattle.std.specs.List.{enumerate_from}
use Rattle.list_laws.proofs.Members.{In, In-all}
use Rattle.list_laws.proofs.Numbered.{numbered-there}
use Rattle.list_laws.proofs.Searches.{position-below}
use Rattle.fpga_types.specs.Slots.{adjacent, either, elem_pin, elem_slot, pin_step_of, pin_steps, same_slot, slots}
use Rattle.fpga_types.specs.declared.grid.PinAt.{PinAt}
use Rattle.fpga_types.specs.declared.problem.PinStep.{PinStep}
use Rattle.fpga_types.specs.declared.route.Elem.{Elem}
use Rattle.fpga_types.specs.declared.route.RouteNet.{RouteNet}
use Rattle.fpga_types.specs.declared.route.RouteText.{RouteText}
use Rattle.fpga_bounds.proofs.PinFacts.{one-of, pin-parts}
use Rattle.fpga_bounds.proofs.StepFacts.{adjacent-there, each-all, each-brought, each-made, slot-in}

module _ (route : RouteText) where
  -- the slot of the pin step is one of the route's
  abbrev IsPinWithin : PinStep → Type 0
  IsPinWithin s = s.slot < length (slots route)

  -- the pin step of two neighbours
  abbrev beside : ℕ → Elem × Elem → Option PinStep
  beside n p = either (pin_step_of (slots route) (elem_pin p.0) (elem_slot n p.1))
      (pin_step_of (slots route) (elem_pin p.1) (elem_slot n p.0))

  within : (n : ℕ) (net : RouteNet) (i : ℕ) (e : Elem) (pin : Option PinAt) (s : PinStep)
      → slice_get route.nets n ≡ Some net → slice_get net.elems i ≡ Some e
      → pin_step_of (slots route) pin (elem_slot n e) ≡ Some s → IsPinWithin s
  within n net i e pin s here there made =
      let ends = pin-parts (slots route) pin (elem_slot n e) s made in
      subst (λ (k : ℕ). k < length (slots route)) (ap (λ (w : PinStep). w.slot) ends.4)
      (position-below (same_slot ends.1) (slots route)
      (slot-in route.nets n net i e ends.1 here there ends.3))

  pub pin-slot : (p : PinStep) → In (pin_steps route) p → p.slot < length (slots route)
  pin-slot p i = In-all IsPinWithin (pin_steps route) p (each-all IsPinWithin (pin_steps route)
      (each-brought IsPinWithin
      (λ (z : ℕ × RouteNet). filter_map (beside z.0) (adjacent z.1.elems))
      (enumerate_from 0 route.nets) (λ k z numbered.
      let place = numbered-there 0 route.nets k z numbered in
      let number : k ≡ z.0 = omega (arith, place.0) in
      let here : slice_get route.nets z.0 ≡ Some z.1 =
      subst (λ (m : ℕ). slice_get route.nets m ≡ Some z.1) number place.1 in
      each-made IsPinWithin (beside z.0) (adjacent z.1.elems) (λ j w s at made.
      let ends = adjacent-there z.1.elems j w at in
      elim (one-of (pin_step_of (slots route) (elem_pin w.0) (elem_slot z.0 w.1))
      (pin_step_of (slots route) (elem_pin w.1) (elem_slot z.0 w.0)) s made) [
        | inl first ↦ within z.0 z.1 (suc j) w.1 (elem_pin w.0) s here ends.1 first
        | inr second ↦ within z.0 z.1 j w.0 (elem_pin w.1) s here ends.0 second
      ])))) i
