-- The pin steps of a problem that fits: their slots are slots of the route, and their pins touch
-- the cells of these.
use Rattle.std.proofs.Common.{◌≡◌, ◌⊎◌, ℕ, suc, ◌<◌, Bool, true, false, Option, Some, None, List, length, take, drop, inl, inr, refl, sym, subst, arith}
use Rattle.std.specs.Prelude.{◌&&◌, ◌||◌, All, not, filter_map, slice_get, if◌then◌else◌}
use Rattle.std.specs.List.{enumerate_from, last_or}
use Rattle.std.specs.Option.{option_map_or}
use Rattle.std.proofs.lemmas.Bool.{false≢true}
use Rattle.std.proofs.lemmas.Option.{get_or_from_slice_get, slice_get_within}
use Rattle.list_laws.proofs.Members.{In-flat_map, In-map}
use Rattle.list_laws.proofs.Numbered.{numbered-there}
use Rattle.list_laws.proofs.Places.{last-push, take-get}
use Rattle.list_laws.proofs.Searches.{position-below}
use Rattle.fpga_text.specs.Codes.{first_code}
use Rattle.fpga_text.specs.declared.fault.TextFault.TheVariants.{Bad}
use Rattle.fpga_text.proofs.FaultLemmas.{option_or-none}
use Rattle.fpga_types.specs.Fit.{context_of, line_fault, net_lines, splits}
use Rattle.fpga_types.specs.Fits.{Device, Fits, ProblemContext, device_of, is_off, is_other_pin, is_other_sink, is_other_source, is_pin_apart, is_repeated, is_sink_not_once, is_unknown, net_line_fault, problem_codes, problem_context, problem_fault}
use Rattle.fpga_types.specs.Kinds.{is_ipin, is_opin, may_follow}
use Rattle.fpga_types.specs.Pins.{HasPin}
use Rattle.fpga_types.specs.Problem.{RoutingProblem}
use Rattle.fpga_types.specs.Size.{Size}
use Rattle.fpga_types.specs.Slots.{adjacent, channel_at, either, elem_pin, elem_slot, pin_at, pin_step_of, pin_steps, same_slot, slot_number, slots}
use Rattle.fpga_types.specs.Sound.{IsSound, IsSoundNet}
use Rattle.fpga_types.specs.Touching.{Touches, has_side, touches}
use Rattle.fpga_types.specs.declared.arch.Arch.{Arch}
use Rattle.fpga_types.specs.declared.arch.PinSpec.{PinSpec}
use Rattle.fpga_types.specs.declared.grid.Cell.{Cell}
use Rattle.fpga_types.specs.declared.grid.PinAt.{PinAt}
use Rattle.fpga_types.specs.declared.grid.PinAt.TheVariants.{Pad as PadAt, Pin as PinOf}
use Rattle.fpga_types.specs.declared.problem.PinStep.{PinStep}
use Rattle.fpga_types.specs.declared.problem.Slot.{Slot}
use Rattle.fpga_types.specs.declared.route.Elem.{Elem}
use Rattle.fpga_types.specs.declared.route.ElemKind.{ElemKind}
use Rattle.fpga_types.specs.declared.route.ElemKind.TheVariants.{Source, Opin, ChanX, ChanY, Ipin, Sink}
use Rattle.fpga_types.specs.declared.route.RouteNet.{RouteNet}
use Rattle.fpga_types.proofs.BoxLemmas.{touches-is}
use Rattle.fpga_types.proofs.FitLemmas.{In-splits}
use Rattle.fpga_types.proofs.FitsLemmas.{Fits-line}
use Rattle.fpga_bounds.specs.NetFit.{line_at}
use Rattle.fpga_bounds.specs.PinList.{pin_step_beside}
use Rattle.fpga_bounds.specs.Problem.{IsPinStepTouching}
use Rattle.fpga_bounds.proofs.LineLemmas.{elem_line, passes}
use Rattle.fpga_bounds.proofs.StepFacts.{adjacent-there, each-all, each-brought, each-made, slot-cell, slot-in, slot-there}

-- a line that no code of the problem holds at passes the last test
pin-beside : (device : Device) (n : ℕ) (at : ProblemContext)
    → first_code problem_codes device n at ≡ None → is_pin_apart device at ≡ false
pin-beside device n at clean =
    go (is_unknown at) (is_repeated at) (is_other_source at) (is_other_sink at)
    (is_sink_not_once at) (is_other_pin device at) (is_pin_apart device at) refl clean
  where
    go : (a b c d e f g : Bool) → is_pin_apart device at ≡ g
        → (if a then Some (Bad n 503) else if b then Some (Bad n 504)
        else if c then Some (Bad n 505) else if d then Some (Bad n 506)
        else if e then Some (Bad n 507) else if f then Some (Bad n 508)
        else if g then Some (Bad n 509) else None) ≡ None → is_pin_apart device at ≡ false
    go true b c d e f g p q = cc
    go false true c d e f g p q = cc
    go false false true d e f g p q = cc
    go false false false true e f g p q = cc
    go false false false false true f g p q = cc
    go false false false false false true g p q = cc
    go false false false false false false true p q = cc
    go false false false false false false false p q = p

-- the test of two neighbours of these kinds, whose pin may not touch the other's cell
abbrev tested : Device → Elem → Elem → ElemKind → ElemKind → Bool
tested device a b first second =
    is_opin first && is_off device (pin_at first a) (channel_at second b.x b.y)
    || is_ipin second && is_off device (pin_at second b) (channel_at first a.x a.y)

-- the pin and the cell of two neighbours, where the codes of the second line do not hold
module _ (device : Device) (a b : Elem) (pin : PinAt) (cell : Cell) where
  touched : (t : Bool) → (not t || false) ≡ false → t ≡ true
  touched true e = refl
  touched false e = absurd (false≢true (sym e))

  off : (o : Option PinAt) (c : Option Cell) → o ≡ Some pin → c ≡ Some cell → is_off device o c
      ≡ not (touches device.arch device.grid pin cell)
  off o c p q = rw (p, q) refl

  not_false : (t : Bool) → not t ≡ false → t ≡ true
  not_false true e = refl
  not_false false e = absurd (false≢true (sym e))

  -- a pin and then a channel
  forward : (first second : ElemKind) → tested device a b first second ≡ false
      → may_follow first second ≡ true
      → pin_at first a ≡ Some pin → channel_at second b.x b.y ≡ Some cell
      → touches device.arch device.grid pin cell ≡ true
  forward Source second t f p q = cc
  forward ChanX second t f p q = cc
  forward ChanY second t f p q = cc
  forward Sink second t f p q = cc
  forward Opin Source t f p q = cc
  forward Opin Opin t f p q = cc
  forward Opin ChanX t f p q =
      touched _ (subst (λ (x : Bool). (x || false) ≡ false) (off _ _ p q) t)
  forward Opin ChanY t f p q =
      touched _ (subst (λ (x : Bool). (x || false) ≡ false) (off _ _ p q) t)
  forward Opin Ipin t f p q = cc
  forward Opin Sink t f p q = cc
  forward Ipin Source t f p q = cc
  forward Ipin Opin t f p q = cc
  forward Ipin ChanX t f p q = absurd (false≢true f)
  forward Ipin ChanY t f p q = absurd (false≢true f)
  forward Ipin Ipin t f p q = cc
  forward Ipin Sink t f p q = cc

  -- a channel and then a pin
  backward : (first second : ElemKind) → tested device a b first second ≡ false
      → may_follow first second ≡ true → pin_at second b ≡ Some pin
      → channel_at first a.x a.y ≡ Some cell → touches device.arch device.grid pin cell ≡ true
  backward Source second t f p q = cc
  backward Opin second t f p q = cc
  backward Ipin second t f p q = cc
  backward Sink second t f p q = cc
  backward ChanX Source t f p q = cc
  backward ChanX Opin t f p q = absurd (false≢true f)
  backward ChanX ChanX t f p q = cc
  backward ChanX ChanY t f p q = cc
  backward ChanX Ipin t f p q = not_false _ (subst (λ (x : Bool). x ≡ false) (off _ _ p q) t)
  backward ChanX Sink t f p q = cc
  backward ChanY Source t f p q = cc
  backward ChanY Opin t f p q = absurd (false≢true f)
  backward ChanY ChanX t f p q = cc
  backward ChanY ChanY t f p q = cc
  backward ChanY Ipin t f p q = not_false _ (subst (λ (x : Bool). x ≡ false) (off _ _ p q) t)
  backward ChanY Sink t f p q = cc

-- an element in its order may stand after the one before it
in_order : (a b rest : Bool) → a ≡ false → (not a && (not b || rest)) ≡ false → b ≡ true
in_order true b rest g e = absurd (false≢true (sym g))
in_order false true rest g e = refl
in_order false false rest g e = absurd (false≢true (sym e))

-- a pin that touches a cell is one of the architecture
touching-pin : (arch : Arch) (grid : Size) (pin : PinAt) (cell : Cell) → Touches arch grid pin cell
    → HasPin arch pin
touching-pin arch grid (PadAt x y sub) cell t = tt
touching-pin arch grid (PinOf x y k) cell t = go (slice_get arch.pins k) refl t.is_on
  where
    go : (o : Option PinSpec) → slice_get arch.pins k ≡ o
        → option_map_or (λ (spec : PinSpec). has_side spec.sides t.side) o false ≡ true
        → k < length arch.pins
    go None e h = absurd (false≢true h)
    go (Some spec) e h = slice_get_within arch.pins k spec e

-- the parts of a pin step
pub pin-parts : (all : List Slot) (a : Option PinAt) (b : Option Slot) (s : PinStep)
    → pin_step_of all a b ≡ Some s → (pin : PinAt) × (q : Slot) × (a ≡ Some pin) × (b ≡ Some q)
    × (record { pin = pin; slot = slot_number all q } ≡ s)
pin-parts all None b s h = cc
pin-parts all (Some p) None s h = cc
pin-parts all (Some p) (Some q) s h = (p, q, refl, refl, some_is _ _ h)
  where
    some_is : (u v : PinStep) → Some u ≡ Some v → u ≡ v
    some_is u v g = cc

pub one-of : {T : Type 0} (x y : Option T) (z : T) → either x y ≡ Some z →
    (x ≡ Some z) ⊎ (y ≡ Some z)
one-of None y z h = inr h
one-of (Some x) y z h = inl h

module _ (p : RoutingProblem) (fits : Fits p) (sound : IsSound p.route) where
  -- no line of the route has a fault
  line-clean : (n : ℕ) (net : RouteNet) (i : ℕ) (e : Elem) → slice_get p.route.nets n ≡ Some net
      → slice_get net.elems i ≡ Some e
      → net_line_fault p (elem_line (take n p.route.nets) net i e) ≡ None
  line-clean n net i e here there =
      Fits-line p fits (elem_line (take n p.route.nets) net i e)
      (In-flat_map (λ s. net_lines s.0 s.1) (splits p.route.nets)
      (take n p.route.nets, net, drop (suc n) p.route.nets)
      (elem_line (take n p.route.nets) net i e) (In-splits p.route.nets n net here)
      (inr (In-map (line_at (take n p.route.nets) net) (splits net.elems)
      (take i net.elems, e, drop (suc i) net.elems) (In-splits net.elems i e there))))

  -- a net with elements is not global
  ordinary : (n : ℕ) (net : RouteNet) (i : ℕ) (e : Elem) → slice_get p.route.nets n ≡ Some net
      → slice_get net.elems i ≡ Some e → net.global ≡ false
  ordinary n net i e here there =
      go net.global refl (subst (IsSoundNet p.route.grid)
      (get_or_from_slice_get p.route.nets n net net here)
      (sound.nets n net (slice_get_within p.route.nets n net here)))
    where
      go : (g : Bool) → net.global ≡ g → IsSoundNet p.route.grid net → net.global ≡ false
      go false is own = is
      go true is own =
          absurd (let clash : None ≡ Some e = rw (own.global_elems is) at there in cc)

  module _ (n : ℕ) (net : RouteNet) (i : ℕ) (a b : Elem) (here : slice_get p.route.nets n
      ≡ Some net)
      (at_a : slice_get net.elems i ≡ Some a) (at_b : slice_get net.elems (suc i) ≡ Some b) where
    parts : (problem_fault p (elem_line (take n p.route.nets) net (suc i) b) ≡ None)
        × (line_fault p.route.grid (elem_line (take n p.route.nets) net (suc i) b) ≡ None)
    parts = option_or-none _ _ (line-clean n net (suc i) b here at_b)

    before : last_or None (take (suc i) net.elems) ≡ Some a
    before = rw (take-get net.elems i a at_a) (last-push None (take i net.elems) a)

    beside : tested (device_of p) a b a.kind b.kind ≡ false
    beside = rw before at (pin-beside (device_of p) b.line
        (problem_context p (elem_line (take n p.route.nets) net (suc i) b)) parts.0)

    follows : may_follow a.kind b.kind ≡ true
    follows = in_order net.global (may_follow a.kind b.kind) _ (ordinary n net i a here at_a)
        (rw before at (passes p.route.grid b.line
        (context_of (elem_line (take n p.route.nets) net (suc i) b)) parts.1).ordered)

    -- the pin step of a pin that touches the cell of a slot
    step : (j : ℕ) (e : Elem) (pin : PinAt) (q : Slot) → slice_get net.elems j ≡ Some e
        → elem_slot n e ≡ Some q → touches p.arch p.route.grid pin q.cell ≡ true
        → IsPinStepTouching p (record { pin = pin; slot = slot_number (slots p.route) q })
    step j e pin q there slot test =
        let within = slot-in p.route.nets n net j e q here there slot in
        let touching = (touches-is p.arch p.route.grid pin q.cell).0 test in
        record {
          within = position-below (same_slot q) (slots p.route) within;
          has_pin = touching-pin p.arch p.route.grid pin q.cell touching;
          touches = rw (slot-there (slots p.route) q within) touching;
        }

    good-pin : (s : PinStep) → pin_step_beside (slots p.route) n (a, b) ≡ Some s
        → IsPinStepTouching p s
    good-pin s made = elim (one-of (pin_step_of (slots p.route) (elem_pin a) (elem_slot n b))
        (pin_step_of (slots p.route) (elem_pin b) (elem_slot n a)) s made) [
          | inl first ↦
              let ends = pin-parts (slots p.route) (elem_pin a) (elem_slot n b) s first in
              subst (IsPinStepTouching p) ends.4 (step (suc i) b ends.0 ends.1 at_b ends.3
              (forward (device_of p) a b ends.0 ends.1.cell a.kind b.kind beside follows ends.2
              (slot-cell n b ends.1 ends.3)))
          | inr second ↦
              let ends = pin-parts (slots p.route) (elem_pin b) (elem_slot n a) s second in
              subst (IsPinStepTouching p) ends.4 (step i a ends.0 ends.1 at_a ends.3
              (backward (device_of p) a b ends.0 ends.1.cell a.kind b.kind beside follows ends.2
              (slot-cell n a ends.1 ends.3)))
        ]

  -- each pin step's slot is one of the route's, and its pin touches the cell
  pub good-pins : All (IsPinStepTouching p) (pin_steps p.route)
  good-pins = each-all (IsPinStepTouching p) (pin_steps p.route)
      (each-brought (IsPinStepTouching p)
      (λ (z : ℕ × RouteNet). filter_map (pin_step_beside (slots p.route) z.0) (adjacent z.1.elems))
      (enumerate_from 0 p.route.nets) (λ k z numbered.
      let place = numbered-there 0 p.route.nets k z numbered in
      let number : k ≡ z.0 = omega (arith, place.0) in
      let here : slice_get p.route.nets z.0 ≡ Some z.1 =
      subst (λ (m : ℕ). slice_get p.route.nets m ≡ Some z.1) number place.1 in
      each-made (IsPinStepTouching p) (pin_step_beside (slots p.route) z.0) (adjacent z.1.elems)
      (λ i w s beside made.
      let ends = adjacent-there z.1.elems i w beside in
      good-pin z.0 z.1 i w.0 w.1 here ends.0 ends.1 s made)))
