-- The pins that the net of a slot begins at, and the wires that none of them reaches.
use Rattle.std.proofs.Common.{◌≡◌, ℕ, ◌+◌, ◌<◌, Bool, true, false, Some, List, [], length, get_or, refl, sym, ap, ◌∙◌}
use Rattle.std.specs.Prelude.{filter, filter_map, not, slice_get, slice_index_or, sum_by}
use Rattle.std.specs.List.{list_any}
use Rattle.std.proofs.lemmas.Option.{slice_get_read, slice_get_within}
use Rattle.fpga_graph.specs.GraphOf.{GraphOf}
use Rattle.fpga_types.specs.Problem.{RoutingProblem}
use Rattle.fpga_types.specs.Slots.{slot_at, slots}
use Rattle.fpga_types.specs.declared.route.RouteNet.{RouteNet}
use Rattle.fpga_types.specs.declared.route.RouteText.{RouteText}
use Rattle.route_encode.specs.Added.{graph_of}
use Rattle.route_encode.specs.Encoding.{below}
use Rattle.route_reach.specs.Encoding.{far_tracks, frame_of, reaches, wire_at}
use Rattle.route_reach.specs.Ends.{opin_of, outs_at}
use Rattle.route_reach.proofs.CountSteps.{sum-more}
use Rattle.route_reach.proofs.Wires.{slot-on_trace}

-- the net of a slot is there
pub net-within : (route : RouteText) (s : ℕ) → s < length (slots route)
    → (slot_at (slots route) s).net < length route.nets
net-within route s low =
    let on = slot-on_trace route s low in
    slice_get_within route.nets (slot_at (slots route) s).net on.0 on.1

pub net-here : (route : RouteText) (s : ℕ) (net : RouteNet) → s < length (slots route)
    → net ≡ get_or route.nets (slot_at (slots route) s).net net
    → slice_get route.nets (slot_at (slots route) s).net ≡ Some net
net-here route s net low is =
    slice_get_read route.nets (length route.nets) (slot_at (slots route) s).net net refl
    (net-within route s low) is

pub no-outs : (route : RouteText) (n : ℕ) (net : RouteNet) → slice_get route.nets n ≡ Some net
    → net.global ≡ true → outs_at route n ≡ []
no-outs route n net here global = rw (here, global) refl

pub own-outs : (route : RouteText) (n : ℕ) (net : RouteNet) → slice_get route.nets n ≡ Some net
    → net.global ≡ false → outs_at route n ≡ filter_map opin_of net.elems
own-outs route n net here ordinary = rw (here, ordinary) refl

-- the tracks that are not marked are the far ones, where marked are those that the source reaches
module _ (width reach : ℕ) (p : RoutingProblem) (s : ℕ) (g : GraphOf) (same : g ≡ graph_of width p)
    (row : List Bool)
    (marks : (t : ℕ) → slice_index_or row t false
    ≡ list_any (λ out. reaches g out (wire_at (slots p.route) s t))
    (outs_at p.route (slot_at (slots p.route) s).net)) where
  pub far-marked : far_tracks (frame_of width reach p) p.route s
      ≡ filter (λ t. not (slice_index_or row t false)) (below width)
  far-marked = λ i. filter (λ t. not (sym (here t) i)) (below width)
    where
      here : (t : ℕ) → slice_index_or row t false
          ≡ list_any (λ out. reaches (graph_of width p) out (wire_at (slots p.route) s t))
          (outs_at p.route (slot_at (slots p.route) s).net)
      here t = marks t ∙ ap (λ (h : GraphOf).
          list_any (λ out. reaches h out (wire_at (slots p.route) s t))
          (outs_at p.route (slot_at (slots p.route) s).net)) same

  -- the count of one slot more
  pub far-more : (count more : ℕ)
      → count ≡ sum_by (λ r. length (far_tracks (frame_of width reach p) p.route r)) (below s)
      → more ≡ length (filter (λ t. not (slice_index_or row t false)) (below width))
      → count + more
      ≡ sum_by (λ r. length (far_tracks (frame_of width reach p) p.route r)) (below (s + 1))
  far-more count more so_far is =
      rw (so_far, is, ← far-marked)
      (sym (sum-more (λ r. length (far_tracks (frame_of width reach p) p.route r)) s))
