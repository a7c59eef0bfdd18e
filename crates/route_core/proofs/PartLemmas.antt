-- A legal routing is one of any nets, and one of all nets is a legal routing.
use Rattle.std.proofs.Common.{◌≡◌, ℕ, ◌<◌, ◌⊎◌, Bool, true, false, List, length, get_or, refl, sym, subst, ◌∙◌, inl, inr, arith}
use Rattle.std.specs.Prelude.{◌==◌, Contains}
use Rattle.std.specs.List.{list_any}
use Rattle.std.proofs.lemmas.Bool.{false≢true}
use Rattle.std.proofs.lemmas.Bool.Decides.{Decides-eqb}
use Rattle.std.proofs.lemmas.List.{get_or_default}
use Rattle.list_laws.proofs.Members.{In-all, In-contains, In-list_any, In-range, all-from_In, contains-In, list_any-from_In}
use Rattle.fpga_types.specs.Boxes.{Opens}
use Rattle.fpga_types.specs.Fits.{Fits}
use Rattle.fpga_types.specs.Legal.{wire_of}
use Rattle.fpga_types.specs.Problem.{RoutingProblem}
use Rattle.fpga_types.specs.Slots.{pin_steps, slots, steps}
use Rattle.fpga_types.specs.Tracks.{AreJoined, mapped_track}
use Rattle.fpga_types.specs.declared.problem.Slot.{Slot}
use Rattle.fpga_types.proofs.FitsLemmas.{Fits-IsFit}
use Rattle.fpga_bounds.proofs.StepFacts.{IsGoodStep, good-steps}
use Rattle.route_encode.specs.Encoding.{below}
use Rattle.route_encode.specs.Exact.{IsLegalRouting}
use Rattle.route_encode.proofs.PinSlots.{pin-slot}
use Rattle.route_core.specs.Blamed.{net_of}
use Rattle.route_core.specs.Core.{IsLegalRoutingOf, IsOf}
use Rattle.route_core.proofs.CoreLemmas.{net-there}

-- a net is one of these or none of them
pub is-among : (nets : List ℕ) (net : ℕ) → Contains nets net ⊎ (Contains nets net → ⊥)
is-among nets net = go (list_any (λ n. n == net) nets) refl
  where
    go : (b : Bool) → list_any (λ n. n == net) nets ≡ b
        → Contains nets net ⊎ (Contains nets net → ⊥)
    go true e =
        let m = In-list_any (λ n. n == net) nets e in
        inl (subst (λ (n : ℕ). Contains nets n) ((Decides-eqb m.0 net).0 m.2)
        (contains-In nets m.0 m.1))
    go false e = inr (λ h. false≢true (sym e ∙ list_any-from_In (λ n. n == net) nets net
        (In-contains nets net h) ((Decides-eqb net net).1 refl)))

module _ (width : ℕ) (p : RoutingProblem) where
  abbrev all : List Slot
  all = slots p.route

  abbrev pub every_net : List ℕ
  every_net = below (length p.route.nets)

  -- each slot is of some net
  pub of-every : (s : ℕ) → s < length all → IsOf every_net all s
  of-every s low =
      let there = net-there p.route s low in
      contains-In every_net (net_of all s)
      (In-range 0 (length p.route.nets) (net_of all s) (omega arith) (omega (arith, there)))

  -- a legal routing is one of any nets
  pub part-legal : (nets tracks : List ℕ) → IsLegalRouting width p tracks
      → IsLegalRoutingOf width p nets tracks
  part-legal nets tracks h = record {
    each = h.each;
    within = λ s low of. h.within s 0 (omega (arith, low, h.each));
    joined = λ k d inside from to. h.joined k d inside;
    reached = λ k d inside of. h.reached k d inside;
    apart = λ a b low_a low_b of_a of_b. h.apart a b low_a low_b;
  }

  -- and one of all nets is a legal routing
  pub whole-legal : Fits p → (tracks : List ℕ) → IsLegalRoutingOf width p every_net tracks
      → IsLegalRouting width p tracks
  whole-legal fits tracks h = record {
    each = h.each;
    within = λ k d inside.
        let low : k < length all = omega (arith, inside, h.each) in
        subst (λ (t : ℕ). t < width) (get_or_default tracks k 0 d inside)
        (h.within k low (of-every k low));
    joined = all-from_In (λ s. AreJoined (mapped_track p.arch.pattern width) p.route.grid
        (wire_of all tracks s.from) (wire_of all tracks s.to)) (steps p.route) (λ step i.
        let good = In-all (IsGoodStep p.route) (steps p.route) step
        (good-steps p.route (Fits-IsFit p fits)) i in
        In-all (λ s. IsOf every_net all s.from → IsOf every_net all s.to
        → AreJoined (mapped_track p.arch.pattern width) p.route.grid
        (wire_of all tracks s.from) (wire_of all tracks s.to)) (steps p.route) step h.joined i
        (of-every step.from good.0.0) (of-every step.to good.0.1));
    reached = all-from_In (λ q. Opens p.arch width q.pin (get_or tracks q.slot 0))
        (pin_steps p.route) (λ q i.
        In-all (λ r. IsOf every_net all r.slot → Opens p.arch width r.pin
        (get_or tracks r.slot 0)) (pin_steps p.route) q h.reached i
        (of-every q.slot (pin-slot p.route q i)));
    apart = λ a b low_a low_b.
        h.apart a b low_a low_b (of-every a low_a) (of-every b low_b);
  }
