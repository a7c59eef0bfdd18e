use Rattle.arrayvec.specs.ArrayVec.{ArrayVec}
use Rattle.std.proofs.Common.{◌≡◌, ◌+◌, ◌*◌, ◌<◌, ◌∙◌, ℕ, List, [], ◌∷◌, Some, ap, arith, get_or, length, length-append, refl}
use Rattle.std.specs.Prelude.{slice_get}
use Rattle.std.proofs.lemmas.List.Elements.{All-push}
use Rattle.list_laws.proofs.Places.{get-there}
use Rattle.fpga_graph.specs.GraphOf.{GraphOf}
use Rattle.fpga_types.specs.declared.problem.Slot.{Slot}
use Rattle.route_reach.specs.WireClauses.{wire_beside}
use Rattle.route_reach.proofs.NearbyLemmas.{beside-across, beside-more, beside-none, beside-same, place-below}
use Rattle.route_reach.proofs.nearby.wires_beside.Goals as goal
use Rattle.route_reach.proofs.nearby.wires_beside.Goals.{in-Some, in_default}

pub loop-other-preserved : goal.loop-other-preserved
loop-other-preserved c =
    let g : GraphOf = c.args.graph.now in
    let all : List Slot = c.args.slots.now in
    let near : List ℕ = c.args.near.now in
    let i : ℕ = c.loop-other.other-index in
    let r : ℕ = get_or near i 0 in
    let low : i < length near = omega arith in
    let here : slice_get near i ≡ Some r = get-there near i r 0 low refl in
    let inside : r < length all = c.requires.near i 0 low in
    elim c.match-crossing.branch [
      | in-Some w ↦
          (let u : ℕ = w.track.result in
          let across = beside-across g all c.args.slot c.args.track r w.in-Some.crossing
          w.in-Some.ensures.tracks in
          let is : wire_beside g all c.args.slot c.args.track r ≡ Some (r * c.args.width + u) =
          across ∙ rw (c.requires.width, w.track.ensures.across) refl in
          let narrow : u < c.args.width = omega (
            arith,
            w.track.ensures.within,
            w.in-Some.ensures.width,
            c.requires.width,
          ) in
          let items = ap (λ (v : ArrayVec ℕ). v.items) w.beside-is ∙ w.push.ensures.items in
          record {
            listed = beside-more g all c.args.slot c.args.track near i r
                c.loop-other.beside.items here c.loop-other.invariant.listed (r * c.args.width + u)
                _ is items;
            few = rw items (omega (
              arith,
              length-append c.loop-other.beside.items ((r * c.args.width + u) ∷ []),
              c.loop-other.invariant.few,
            ));
            within = rw items (All-push (λ b. b < length all * c.args.width)
                c.loop-other.beside.items (r * c.args.width + u) c.loop-other.invariant.within
                (place-below (length all) c.args.width r u inside narrow));
          })
      | in_default w ↦
          (let same = ap (λ (v : ArrayVec ℕ). v.items) w.beside-is in
          let none = beside-none g all c.args.slot c.args.track r w.in_default.ensures.tracks in
          record {
            listed = same ∙ beside-same g all c.args.slot c.args.track near i r
                c.loop-other.beside.items here c.loop-other.invariant.listed none;
            few = rw same (omega (arith, c.loop-other.invariant.few));
            within = rw same c.loop-other.invariant.within;
          })
    ]
