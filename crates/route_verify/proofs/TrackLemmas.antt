-- What the tests of a line say does not depend on the tracks of channel lines.
use Rattle.std.proofs.Common.{◌≡◌, ℕ, ◌+◌, Bool, true, false, Option, Some, None, List, [], ◌∷◌, refl, sym, ap, ◌∙◌}
use Rattle.std.specs.Prelude.{◌&&◌, ◌||◌, ◌==◌, bytes_eq, map, option_map, slice_index}
use Rattle.std.specs.List.{enumerate_from, list_any}
use Rattle.std.specs.Option.{option_map_or}
use Rattle.std.proofs.lemmas.Bool.{false≢true}
use Rattle.fpga_text.specs.Bytes.{Bytes}
use Rattle.fpga_types.specs.Fit.{is_pin_of, same_elem, same_pin, same_place}
use Rattle.fpga_types.specs.Fits.{has_net, has_sink}
use Rattle.fpga_types.specs.Kinds.{is_channel, is_ipin, is_opin, is_pin, is_sink, is_source, same_kind}
use Rattle.fpga_types.specs.Legal.{with_track}
use Rattle.fpga_types.specs.Slots.{channel_at, elem_pin, elem_slot, pin_at, slot_number}
use Rattle.fpga_types.specs.Terminals.{is_terminal}
use Rattle.fpga_types.specs.declared.grid.Cell.{Cell}
use Rattle.fpga_types.specs.declared.problem.Slot.{Slot}
use Rattle.fpga_types.specs.declared.problem.Terminal.{Terminal}
use Rattle.fpga_types.specs.declared.route.Elem.{Elem}
use Rattle.fpga_types.specs.declared.route.ElemKind.{ElemKind}
use Rattle.fpga_types.specs.declared.route.ElemKind.TheVariants.{Source, Opin, ChanX, ChanY, Ipin, Sink}
use Rattle.fpga_types.specs.declared.route.RouteNet.{RouteNet}
use Rattle.list_laws.proofs.Places.{any-changed}

-- a channel is of no other kind
pub record IsOfChannel (kind : ElemKind) : Type 0 where
  pub source : is_source kind ≡ false
  pub opin : is_opin kind ≡ false
  pub ipin : is_ipin kind ≡ false
  pub sink : is_sink kind ≡ false

pub channel-kind : (kind : ElemKind) → is_channel kind ≡ true → IsOfChannel kind
channel-kind ChanX is = record { source = refl; opin = refl; ipin = refl; sink = refl }
channel-kind ChanY is = record { source = refl; opin = refl; ipin = refl; sink = refl }
channel-kind _ is = absurd (false≢true is)

module _ (all : List Slot) (tracks : List ℕ) where
  -- the number on an element line once the route has tracks: a channel's track
  abbrev pub shown : ℕ → Elem → ℕ
  shown n e = option_map_or (λ slot. slice_index tracks (slot_number all slot)) (elem_slot n e)
      e.number

  -- the line with it
  abbrev pub tracked : ℕ → Elem → Elem
  tracked n e = record e { number = shown n e }

  pub with_track-is : (n : ℕ) (e : Elem) → with_track all tracks n e ≡ tracked n e
  with_track-is n e = go (elem_slot n e)
    where
      go : (o : Option Slot)
          → option_map_or (λ slot. record e { number = slice_index tracks (slot_number all slot) })
          o e
          ≡ record e {
            number = option_map_or (λ slot. slice_index tracks (slot_number all slot)) o e.number;
          }
      go None = refl
      go (Some slot) = refl

  -- a line that is no channel keeps its number
  shown-other : (n : ℕ) (e : Elem) → is_channel e.kind ≡ false → shown n e ≡ e.number
  shown-other n e other = go e.kind other
    where
      go : (kind : ElemKind) → is_channel kind ≡ false
          → option_map_or (λ slot. slice_index tracks (slot_number all slot))
          (option_map {T = Cell} {U = Slot} (λ cell. record { net = n; cell = cell })
          (channel_at kind e.x e.y)) e.number ≡ e.number
      go Source is = refl
      go Opin is = refl
      go ChanX is = absurd (false≢true (sym is))
      go ChanY is = absurd (false≢true (sym is))
      go Ipin is = refl
      go Sink is = refl

  pub tracked-other : (n : ℕ) (e : Elem) → is_channel e.kind ≡ false → tracked n e ≡ e
  tracked-other n e other = λ i. record e { number = shown-other n e other i }

  -- what does not depend on the number of a channel line is the same with tracks
  pub unread : {X : Type 0} (f : Elem → X) (n : ℕ) (e : Elem)
      → ((number : ℕ) → is_channel e.kind ≡ true → f (record e { number = number }) ≡ f e)
      → f (tracked n e) ≡ f e
  unread {X} f n e same = go (is_channel e.kind) refl
    where
      go : (b : Bool) → is_channel e.kind ≡ b → f (tracked n e) ≡ f e
      go true is = same (shown n e) is
      go false is = ap f (tracked-other n e is)

  same_channel : (k m : ElemKind) → same_kind k m ≡ true → is_channel m ≡ is_channel k
  same_channel Source Source is = refl
  same_channel Opin Opin is = refl
  same_channel ChanX ChanX is = refl
  same_channel ChanY ChanY is = refl
  same_channel Ipin Ipin is = refl
  same_channel Sink Sink is = refl
  same_channel k m is = absurd (false≢true is)

  -- equal elements stay equal, and others do not become so
  pub same_elem-tracked : (n k : ℕ) (a b : Elem) → same_elem (tracked n a) (tracked k b)
      ≡ same_elem a b
  same_elem-tracked n k a b = go (same_kind a.kind b.kind) refl (is_channel a.kind) refl
    where
      go : (same : Bool) → same_kind a.kind b.kind ≡ same → (channel : Bool)
          → is_channel a.kind ≡ channel
          → (same && same_place a b && (channel || shown n a == shown k b))
          ≡ (same && same_place a b && (channel || a.number == b.number))
      go false kinds channel is = refl
      go true kinds true is = refl
      go true kinds false is =
          let first = shown-other n a is in
          let second = shown-other k b (same_channel a.kind b.kind kinds ∙ is) in
          λ i. same_place a b && first i == second i

  pin_other : (kind : ElemKind) → is_pin kind ≡ true → is_channel kind ≡ false
  pin_other Opin is = refl
  pin_other Ipin is = refl
  pin_other k is = absurd (false≢true is)

  -- one pin stays one
  pub same_pin-tracked : (n k : ℕ) (a b : Elem) → same_pin (tracked n a) (tracked k b)
      ≡ same_pin a b
  same_pin-tracked n k a b = go (is_pin a.kind) refl (is_pin b.kind) refl
    where
      go : (first : Bool) → is_pin a.kind ≡ first → (second : Bool) → is_pin b.kind ≡ second
          → (first && second && same_place a b && shown n a == shown k b)
          ≡ (first && second && same_place a b && a.number == b.number)
      go false p second q = refl
      go true p false q = refl
      go true p true q =
          let one = shown-other n a (pin_other a.kind p) in
          let other = shown-other k b (pin_other b.kind q) in
          λ i. same_place a b && one i == other i

  -- the pin of a line
  pub pin-tracked : (n : ℕ) (e : Elem) → elem_pin (tracked n e) ≡ elem_pin e
  pin-tracked n e = unread elem_pin n e (λ number is. channels e.kind number is)
    where
      channels : (kind : ElemKind) (number : ℕ) → is_channel kind ≡ true
          → pin_at kind (record e { number = number }) ≡ pin_at kind e
      channels ChanX number is = refl
      channels ChanY number is = refl
      channels k number is = absurd (false≢true is)

  -- an element with a track among others with theirs
  pub again-tracked : (n : ℕ) (e : Elem) (before : List Elem)
      → list_any (same_elem (tracked n e)) (map (tracked n) before)
      ≡ list_any (same_elem e) before
  again-tracked n e before =
      any-changed (same_elem (tracked n e)) (tracked n) before
      ∙ (λ i. list_any (λ b. same_elem-tracked n n e b i) before)

  -- the nets with tracks, from one with this number on
  abbrev pub tracked_net : ℕ → RouteNet → RouteNet
  tracked_net n net = record net { elems = map (tracked n) net.elems }

  abbrev pub tracked_nets : ℕ → List RouteNet → List RouteNet
  tracked_nets first nets =
      map (λ (m : ℕ × RouteNet). tracked_net m.0 m.1) (enumerate_from first nets)

  -- a search among them
  pub any-net : (p q : RouteNet → Bool) → ((n : ℕ) (net : RouteNet) → p (tracked_net n net) ≡ q net)
      → (first : ℕ) (nets : List RouteNet) → list_any p (tracked_nets first nets) ≡ list_any q nets
  any-net p q same first [] = refl
  any-net p q same first (net ∷ nets) =
      λ i. same first net i || any-net p q same (first + 1) nets i

  pub has_net-tracked : (nets : List RouteNet) (name : Bytes)
      → has_net (tracked_nets 0 nets) name ≡ has_net nets name
  has_net-tracked nets name =
      any-net (λ net. bytes_eq net.name name) (λ net. bytes_eq net.name name) (λ n net. refl) 0 nets

  pub pin_of-tracked : (n : ℕ) (e : Elem) (nets : List RouteNet)
      → is_pin_of (tracked_nets 0 nets) (tracked n e) ≡ is_pin_of nets e
  pin_of-tracked n e nets =
      any-net (λ net. list_any (same_pin (tracked n e)) net.elems)
      (λ net. list_any (same_pin e) net.elems)
      (λ k net. any-changed (same_pin (tracked n e)) (tracked k) net.elems
      ∙ (λ i. list_any (λ b. same_pin-tracked n k e b i) net.elems)) 0 nets

  -- the SINK line of a terminal
  pub has_sink-tracked : (n : ℕ) (elems : List Elem) (at : Terminal)
      → has_sink (map (tracked n) elems) at ≡ has_sink elems at
  has_sink-tracked n elems at =
      any-changed (λ (e : Elem). is_sink e.kind && is_terminal e at) (tracked n) elems
      ∙ (λ i. list_any (λ e. unread (λ (d : Elem). is_sink d.kind && is_terminal d at) n e
      (λ number is. (λ k. (channel-kind e.kind is).sink k
      && is_terminal (record e { number = number }) at)
      ∙ (λ k. sym (channel-kind e.kind is).sink k && is_terminal e at)) i) elems)
