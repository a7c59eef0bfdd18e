-- The wires near a wire, by their places among all.
use Rattle.std.proofs.Common.{◌≡◌, ℕ, ◌+◌, ◌-◌, ◌*◌, ◌/◌, ◌%◌, ◌<◌, ◌≤◌, Option, Some, None, List, length, refl, sym, ap, subst, arith}
use Rattle.std.specs.Prelude.{is_some, option_map}
use Rattle.std.proofs.Math.Nat.{mul-le-mul_right}
use Rattle.std.proofs.lemmas.Nat.{div-mul-add, mod-mul-add}
use Rattle.list_laws.proofs.Members.{In, In-filter, In-filter_map, from_In-filter, from_In-filter_map}
use Rattle.list_laws.proofs.Places.{none_is_not_some, some_is}
use Rattle.fpga_graph.specs.GraphOf.{GraphOf}
use Rattle.fpga_types.specs.Fabric.{meeting}
use Rattle.fpga_types.specs.Slots.{slot_at}
use Rattle.fpga_types.specs.Tracks.{mapped_track, track_across}
use Rattle.fpga_types.specs.declared.problem.Slot.{Slot}
use Rattle.fpga_types.proofs.MeetingLemmas.{across-joined, joined-across, meeting-found}
use Rattle.fpga_types.proofs.TrackLemmas.{mapped-within}
use Rattle.route_encode.specs.Encoding.{place_of}
use Rattle.route_reach.specs.Encoding.{slots_in, wire_at}
use Rattle.route_reach.specs.Modelled.{ModelOf, frame_in, graph_in, places_beside, slots_in_model}
use Rattle.route_reach.specs.Near.{near_of}
use Rattle.route_reach.specs.Reach.{IsJoint}
use Rattle.route_reach.specs.WireClauses.{wire_beside}
use Rattle.route_reach.proofs.Chains.{IsNear}
use Rattle.route_reach.proofs.Wires.{from-slots_in, in-slots_in, joins-is}

-- the place is that of a wire of the same net, which the wire of slot s and track t is joined to
pub record IsBeside (m : ModelOf) (s t b : ℕ) : Type 0 where
  pub slot : ℕ
  pub track : ℕ
  pub is : place_of m.width slot track ≡ b
  pub low : slot < length (slots_in_model m)
  pub inside : track < m.width
  pub own : (slot_at (slots_in_model m) slot).net ≡ (slot_at (slots_in_model m) s).net
  pub joint : IsJoint (graph_in m)
      (wire_at (slots_in_model m) s t, wire_at (slots_in_model m) slot track)

module _ (m : ModelOf) (s t : ℕ) (inside : t < m.width) where
  abbrev g : GraphOf
  g = graph_in m

  abbrev all : List Slot
  all = slots_in_model m

  pub from-beside : (b : ℕ) → In (places_beside m s t) b → IsBeside m s t b
  from-beside b i =
      let made = from_In-filter_map (wire_beside g all s t) (near_of m.problem.route s) b i in
      let r : ℕ = made.0 in
      let kept = from_In-filter
      (λ q. is_some (meeting g.grid (slot_at all s).cell (slot_at all q).cell))
      (slots_in all (slot_at all s).net) r made.1 in
      let slot = from-slots_in all (slot_at all s).net r kept.0 in
      go r slot.0 slot.1 (track_across (mapped_track g.arch.pattern g.width) g.grid
      (slot_at all s).cell (slot_at all r).cell t) refl made.2
    where
      go : (r : ℕ) → r < length all → (slot_at all r).net ≡ (slot_at all s).net → (o : Option ℕ)
          → track_across (mapped_track g.arch.pattern g.width) g.grid
          (slot_at all s).cell (slot_at all r).cell t ≡ o
          → option_map (place_of g.width r) o ≡ Some b → IsBeside m s t b
      go r low own None across is = absurd (none_is_not_some is)
      go r low own (Some u) across is =
          let joint = across-joined (mapped_track g.arch.pattern g.width) g.grid
          (wire_at all s t) (wire_at all r u) across in
          record {
            slot = r;
            track = u;
            is = some_is is;
            low = low;
            inside = subst (λ (v : ℕ). v < g.width) joint.2
                (mapped-within g.arch.pattern g.width joint.0.from joint.0.to t inside);
            own = own;
            joint = joint;
          }

-- what is near the wire of slot s and track t has that beside it
pub to-beside : (m : ModelOf) (s t : ℕ) (q : ℕ × ℕ) → s < length (slots_in_model m)
    → IsNear (frame_in m) s t q → In (places_beside m q.0 q.1) (place_of m.width s t)
to-beside m s t q low h =
    let g : GraphOf = graph_in m in
    let all : List Slot = slots_in_model m in
    let joint = joins-is g (wire_at all q.0 q.1) (wire_at all s t) h.joins in
    let across = joined-across (mapped_track g.arch.pattern g.width) g.grid
    (wire_at all q.0 q.1) (wire_at all s t) joint in
    let meets = meeting-found g.grid (slot_at all q.0).cell (slot_at all s).cell joint.0 joint.1 in
    In-filter_map (wire_beside g all q.0 q.1) (near_of m.problem.route q.0) s
    (place_of m.width s t)
    (In-filter (λ r. is_some (meeting g.grid (slot_at all q.0).cell (slot_at all r).cell))
    (slots_in all (slot_at all q.0).net) s
    (in-slots_in all (slot_at all q.0).net s low (sym h.net)) (ap is_some meets))
    (ap (option_map (place_of g.width s)) across)

-- ---- the number of a wire among those of its net

pub record IsNumbered (first end width s t k : ℕ) : Type 0 where
  pub slot : first + k / width ≡ s
  pub track : k % width ≡ t
  pub low : k < (end - first) * width
  pub place : s * width + t - first * width ≡ k

row-numbered : (first end width a t : ℕ) → t < width → first + a < end
    → IsNumbered first end width (first + a) t (a * width + t)
row-numbered first end width a t inside below =
    let row : (a + 1) * width ≤ (end - first) * width =
    mul-le-mul_right width (let f : a + 1 ≤ end - first = omega (arith, below) in f) in
    let next : (a + 1) * width ≡ a * width + width = omega arith in
    let whole : (first + a) * width ≡ first * width + a * width = omega arith in
    record {
      slot = ap (λ (n : ℕ). first + n) (div-mul-add a width t inside);
      track = mod-mul-add a width t inside;
      low = omega (arith, row, next, inside);
      place = omega (arith, whole);
    }

pub numbered : (first end width s t : ℕ) → t < width → first ≤ s → s < end
    → IsNumbered first end width s t ((s - first) * width + t)
numbered first end width s t inside above below =
    let same : first + (s - first) ≡ s = omega (arith, above) in
    subst (λ (n : ℕ). IsNumbered first end width n t ((s - first) * width + t)) same
    (row-numbered first end width (s - first) t inside (omega (arith, same, below)))
