-- The first sink of a net that is not reached, and the first net with one.
use Rattle.std.proofs.Common.{◌≡◌, ℕ, ◌+◌, ◌<◌, ◌≤◌, Bool, true, false, Option, Some, None, List, length, get_or, refl, sym, ap, ◌∙◌, subst, inl, inr, arith}
use Rattle.std.specs.Prelude.{MatchOption, slice_get}
use Rattle.std.specs.Option.{option_map_or}
use Rattle.std.proofs.lemmas.Bool.{cases_eq}
use Rattle.list_laws.proofs.Places.{get-there, some_is}
use Rattle.fpga_types.specs.Problem.{PlacedNetlist}
use Rattle.fpga_types.specs.declared.netlist.Net.{Net}
use Rattle.fpga_types.specs.declared.netlist.PinRef.{PinRef}
use Rattle.route_parts.specs.Marks.{AreMarked, IsParted, Parted, is_sink_reached_by}
use Rattle.route_parts.specs.Opening.{driven_wires}
use Rattle.route_parts.specs.Unreached.{AreNetsReached, AreSinksReached, IsFirstNet, IsFirstSink, IsSinkReached}
use Rattle.route_parts.proofs.PinLemmas.{tested-there}
use Rattle.route_parts.proofs.ReachLemmas.{sink-not-reached, sink-reached}

-- what stands at a place of a list
at-place : {A : Type 0} (slice xs : List A) (i : ℕ) (x d : A) → slice ≡ xs → i < length slice
    → x ≡ get_or slice i d → slice_get xs i ≡ Some x
at-place {A} slice xs i x d same low at =
    subst (λ (ys : List A). slice_get ys i ≡ Some x) same (get-there slice i x d low at)

-- a place at which something stands is below the end
below-end : {A : Type 0} (slice xs : List A) (i k : ℕ) (x : A) → slice ≡ xs → length slice ≤ i
    → slice_get xs k ≡ Some x → k < i
below-end {A} slice xs i k x same whole at =
    let low = tested-there (λ (y : A). true) xs k
    (ap (λ (o : Option A). option_map_or (λ (y : A). true) o false) at) in
    omega (arith, low, whole, ap length same)

module _ (n : Parted) (net : Net) (marks : List Bool) (slice : List PinRef)
    (same : slice ≡ net.sinks) (parted : IsParted n)
    (marked : AreMarked n.graph n.table (driven_wires n.placed n.graph net) marks) where
  -- the sinks before a place are reached
  abbrev AreBefore : ℕ → Type 0
  AreBefore i = (k : ℕ) (pin : PinRef) → k < i → slice_get net.sinks k ≡ Some pin
      → IsSinkReached n.placed n.graph.width net pin

  pub first-sink : (i : ℕ) (d : PinRef) (b : Bool)
      → b ≡ is_sink_reached_by n marks (get_or slice i d) → b ≡ false → i < length slice
      → AreBefore i → IsFirstSink n.placed n.graph.width net i
  first-sink i d b is h low before = record {
    is = sink-not-reached n net marks i (get_or slice i d)
        (at-place slice net.sinks i (get_or slice i d) d same low refl) parted marked (sym is ∙ h);
    before = before;
  }

  pub sinks-more : (i : ℕ) (d : PinRef) (b : Bool)
      → b ≡ is_sink_reached_by n marks (get_or slice i d) → b ≡ true → i < length slice
      → AreBefore i → AreBefore (i + 1)
  sinks-more i d b is h low before k pin below at = elim (cases_eq k i) [
    | inl e ↦ (let one : get_or slice i d ≡ pin =
        some_is (sym (at-place slice net.sinks i (get_or slice i d) d same low refl)
        ∙ ap (slice_get net.sinks) (sym e) ∙ at) in
        sink-reached n net marks pin parted marked
        (subst (λ (p : PinRef). is_sink_reached_by n marks p ≡ true) one (sym is ∙ h)))
    | inr other ↦ before k pin (omega (arith, below, other)) at
  ]

  pub sinks-all : (i : ℕ) → length slice ≤ i → AreBefore i
      → AreSinksReached n.placed n.graph.width net
  sinks-all i whole before k pin at =
      before k pin (below-end slice net.sinks i k pin same whole at) at

module _ (placed : PlacedNetlist) (width : ℕ) (slice : List Net)
    (same : slice ≡ placed.netlist.nets) where
  -- the sinks of the ordinary nets before a place are reached
  abbrev AreEarlier : ℕ → Type 0
  AreEarlier i = (number : ℕ) (net : Net) → number < i
      → slice_get placed.netlist.nets number ≡ Some net → net.global ≡ false
      → AreSinksReached placed width net

  -- what is said of a net and its first sink that is not reached
  abbrev Says : Net → Option ℕ → Type 0
  Says net found = MatchOption found (net.global ≡ false → AreSinksReached placed width net)
      (λ sink. (net.global ≡ false) × IsFirstSink placed width net sink)

  pub first-net : (i sink : ℕ) (net : Net) (found : Option ℕ) → Says net found
      → found ≡ Some sink → i < length slice → net ≡ get_or slice i net → AreEarlier i
      → IsFirstNet placed width (record { net = i; sink = sink })
  first-net i sink net found says is low at before =
      let here : (net.global ≡ false) × IsFirstSink placed width net sink =
      subst (Says net) is says in
      record {
        is = record {
          net = net;
          is_net = at-place slice placed.netlist.nets i net net same low at;
          is_ordinary = here.0;
          sink = here.1;
        };
        before = before;
      }

  pub nets-more : (i : ℕ) (net : Net) (found : Option ℕ) → Says net found → found ≡ None
      → i < length slice → net ≡ get_or slice i net → AreEarlier i → AreEarlier (i + 1)
  nets-more i net found says is low at before number other below there ordinary =
      elim (cases_eq number i) [
        | inl e ↦ (let one : net ≡ other =
            some_is (sym (at-place slice placed.netlist.nets i net net same low at)
            ∙ ap (slice_get placed.netlist.nets) (sym e) ∙ there) in
            let reached : net.global ≡ false → AreSinksReached placed width net =
            subst (Says net) is says in
            subst (λ (x : Net). x.global ≡ false → AreSinksReached placed width x) one reached
            ordinary)
        | inr apart ↦ before number other (omega (arith, below, apart)) there ordinary
      ]

  pub nets-all : (i : ℕ) → length slice ≤ i → AreEarlier i → AreNetsReached placed width
  nets-all i whole before number net at ordinary =
      before number net (below-end slice placed.netlist.nets i number net same whole at) at
      ordinary
