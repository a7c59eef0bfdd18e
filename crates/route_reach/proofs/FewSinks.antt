-- There are at most as many sinks as pin steps, and one more for each net: before the pin of a sink
-- a channel stands.
use Rattle.std.proofs.Common.{◌≡◌, ℕ, suc, ◌+◌, ◌≤◌, Bool, true, false, Option, Some, None, List, [], ◌∷◌, length, take, refl, sym, arith, length-append}
use Rattle.std.specs.Prelude.{◌&&◌, ◌||◌, not, filter_map, flat_map, slice_get, sum_by, if◌then◌else◌}
use Rattle.std.specs.List.{cons_option, enumerate_from, last_or}
use Rattle.std.specs.Option.{option_map_or}
use Rattle.std.proofs.lemmas.Bool.{false≢true}
use Rattle.std.proofs.lemmas.List.Sums.{sum_by-cons}
use Rattle.list_laws.proofs.Places.{last-push, take-get}
use Rattle.fpga_types.specs.Fit.{context_of}
use Rattle.fpga_types.specs.Fits.{Fits}
use Rattle.fpga_types.specs.Kinds.{may_follow}
use Rattle.fpga_types.specs.Problem.{RoutingProblem}
use Rattle.fpga_types.specs.Slots.{adjacent, pin_step_of, pin_steps, slots}
use Rattle.fpga_types.specs.declared.grid.Axis.TheVariants.{X, Y}
use Rattle.fpga_types.specs.declared.grid.PinAt.{PinAt}
use Rattle.fpga_types.specs.declared.problem.Slot.{Slot}
use Rattle.fpga_types.specs.declared.problem.PinStep.{PinStep}
use Rattle.fpga_types.specs.declared.route.Elem.{Elem}
use Rattle.fpga_types.specs.declared.route.ElemKind.{ElemKind}
use Rattle.fpga_types.specs.declared.route.ElemKind.TheVariants.{Source, Opin, ChanX, ChanY, Ipin, Sink}
use Rattle.fpga_types.specs.declared.route.RouteNet.{RouteNet}
use Rattle.fpga_bounds.specs.PinList.{net_pin_steps, pin_step_beside}
use Rattle.fpga_bounds.proofs.LineLemmas.{elem_line, passes}
use Rattle.route_reach.specs.Counts.{sink_count}
use Rattle.route_reach.specs.Ends.{ins, ipin_of, sink_pin}
use Rattle.route_reach.proofs.PinLines.{line-clean, neither}

-- 1 where there is something
abbrev count : {T : Type 0} → Option T → ℕ
count o = option_map_or (λ x. 1) o 0

length-cons : {T : Type 0} (o : Option T) (xs : List T)
    → length (cons_option o xs) ≡ count o + length xs
length-cons None xs = omega arith
length-cons (Some x) xs = omega arith

-- a pin and a slot make a pin step
stepped : (all : List Slot) (o : Option PinAt) (slot : Slot)
    → 0 + count o ≤ count (pin_step_of all o (Some slot)) + 0
stepped all None slot = omega arith
stepped all (Some pin) slot = omega arith

-- of two lines of which the second may follow the first
module _ (all : List Slot) (n : ℕ) (a b : Elem) where
  abbrev first : ElemKind → Elem
  first k = record a { kind = k }

  abbrev second : ElemKind → Elem
  second k = record b { kind = k }

  pair-counts : (j k : ElemKind) → may_follow j k ≡ true
      → count (sink_pin (first j, second k)) + count (ipin_of (second k))
      ≤ count (pin_step_beside all n (first j, second k)) + count (ipin_of (first j))
  pair-counts Source Opin h = omega arith
  pair-counts Source Source h = absurd (false≢true h)
  pair-counts Source ChanX h = absurd (false≢true h)
  pair-counts Source ChanY h = absurd (false≢true h)
  pair-counts Source Ipin h = absurd (false≢true h)
  pair-counts Source Sink h = absurd (false≢true h)
  pair-counts Opin ChanX h = omega arith
  pair-counts Opin ChanY h = omega arith
  pair-counts Opin Source h = absurd (false≢true h)
  pair-counts Opin Opin h = absurd (false≢true h)
  pair-counts Opin Ipin h = absurd (false≢true h)
  pair-counts Opin Sink h = absurd (false≢true h)
  pair-counts Ipin Sink h = omega arith
  pair-counts Ipin Source h = absurd (false≢true h)
  pair-counts Ipin Opin h = absurd (false≢true h)
  pair-counts Ipin ChanX h = absurd (false≢true h)
  pair-counts Ipin ChanY h = absurd (false≢true h)
  pair-counts Ipin Ipin h = absurd (false≢true h)
  pair-counts Sink Source h = omega arith
  pair-counts Sink Opin h = omega arith
  pair-counts Sink ChanX h = omega arith
  pair-counts Sink ChanY h = omega arith
  pair-counts Sink Ipin h = absurd (false≢true h)
  pair-counts Sink Sink h = absurd (false≢true h)
  pair-counts ChanX ChanX h = omega arith
  pair-counts ChanX ChanY h = omega arith
  pair-counts ChanX Ipin h =
      stepped all (ipin_of (second Ipin))
      (record { net = n; cell = record { axis = X; x = a.x; y = a.y } })
  pair-counts ChanX Source h = absurd (false≢true h)
  pair-counts ChanX Opin h = absurd (false≢true h)
  pair-counts ChanX Sink h = absurd (false≢true h)
  pair-counts ChanY ChanX h = omega arith
  pair-counts ChanY ChanY h = omega arith
  pair-counts ChanY Ipin h =
      stepped all (ipin_of (second Ipin))
      (record { net = n; cell = record { axis = Y; x = a.x; y = a.y } })
  pair-counts ChanY Source h = absurd (false≢true h)
  pair-counts ChanY Opin h = absurd (false≢true h)
  pair-counts ChanY Sink h = absurd (false≢true h)

-- each line may follow the one before it
abbrev Follow : List Elem → Type 0
Follow elems = (i : ℕ) (a b : Elem) → slice_get elems i ≡ Some a
    → slice_get elems (suc i) ≡ Some b → may_follow a.kind b.kind ≡ true

-- of the lines of a net
net-counts : (all : List Slot) (n : ℕ) (a : Elem) (xs : List Elem) → Follow (a ∷ xs)
    → length (filter_map sink_pin (adjacent (a ∷ xs)))
    ≤ length (net_pin_steps all n (a ∷ xs)) + count (ipin_of a)
net-counts all n a [] h = omega arith
net-counts all n a (b ∷ xs) h =
    let sinks : List PinAt = filter_map sink_pin (adjacent (b ∷ xs)) in
    let stops : List PinStep = net_pin_steps all n (b ∷ xs) in
    let later = net-counts all n b xs (λ i u v p q. h (suc i) u v p q) in
    omega (
      arith,
      length-cons (sink_pin (a, b)) sinks,
      length-cons (pin_step_beside all n (a, b)) stops,
      pair-counts all n a b a.kind b.kind (h 0 a b refl refl),
      later,
    )

one-more : (all : List Slot) (n : ℕ) (elems : List Elem) → Follow elems
    → length (filter_map sink_pin (adjacent elems)) ≤ length (net_pin_steps all n elems) + 1
one-more all n [] h = omega arith
one-more all n (a ∷ xs) h =
    omega (arith, net-counts all n a xs h, at-most (ipin_of a))
  where
    at-most : (o : Option PinAt) → count o ≤ 1
    at-most None = omega arith
    at-most (Some pin) = omega arith

-- of some nets
nets-count : (all : List Slot) (k : ℕ) (nets : List RouteNet)
    → ((i : ℕ) (net : RouteNet) → slice_get nets i ≡ Some net → net.global ≡ false
    → Follow net.elems)
    → sum_by (λ (net : RouteNet). length (ins net)) nets
    ≤ length (flat_map (λ n. net_pin_steps all n.0 n.1.elems) (enumerate_from k nets))
    + length nets
nets-count all k [] h = omega arith
nets-count all k (net ∷ nets) h =
    let rest = flat_map (λ n. net_pin_steps all n.0 n.1.elems) (enumerate_from (k + 1) nets) in
    let later = nets-count all (k + 1) nets (λ i m p q. h (suc i) m p q) in
    omega (
      arith,
      sum_by-cons (λ (other : RouteNet). length (ins other)) net nets,
      length-append (net_pin_steps all k net.elems) rest,
      own net.global refl,
      later,
    )
  where
    own : (g : Bool) → net.global ≡ g
        → length (if g then [] else filter_map sink_pin (adjacent net.elems))
        ≤ length (net_pin_steps all k net.elems) + 1
    own true is = omega arith
    own false is = one-more all k net.elems (h 0 net refl is)

module _ (p : RoutingProblem) (fits : Fits p) where
  follow : (n : ℕ) (net : RouteNet) → slice_get p.route.nets n ≡ Some net → net.global ≡ false
      → Follow net.elems
  follow n net here ordinary i a b at_a at_b =
      let clean = neither _ _ (line-clean p fits n net (suc i) b here at_b) in
      let before : last_or None (take (suc i) net.elems) ≡ Some a =
      rw (take-get net.elems i a at_a) (last-push None (take i net.elems) a) in
      in_order net.global (may_follow a.kind b.kind) _ ordinary
      (rw before at (passes p.route.grid b.line
      (context_of (elem_line (take n p.route.nets) net (suc i) b)) clean.1).ordered)
    where
      in_order : (c d rest : Bool) → c ≡ false → (not c && (not d || rest)) ≡ false → d ≡ true
      in_order true d rest g e = absurd (false≢true (sym g))
      in_order false true rest g e = refl
      in_order false false rest g e = absurd (false≢true (sym e))

  -- there are few
  pub few-sinks : sink_count p.route ≤ length (pin_steps p.route) + length p.route.nets
  few-sinks = nets-count (slots p.route) 0 p.route.nets follow
