-- The lines of nets with tracks are the lines of the nets, with the tracks put in.
use Rattle.std.proofs.Common.{◌≡◌, ℕ, zero, suc, ◌+◌, Some, List, [], ◌∷◌, take, drop, refl, sym, ap, subst, ◌∙◌, inl, inr, zero-add}
use Rattle.std.specs.Prelude.{map, option_map, slice_get}
use Rattle.std.specs.List.{enumerate_from}
use Rattle.std.proofs.lemmas.List.{drop-map, take-map}
use Rattle.std.proofs.lemmas.Option.{slice_get-map}
use Rattle.list_laws.proofs.Members.{In, In-flat_map, In-map, from_In-flat_map, from_In-map}
use Rattle.list_laws.proofs.Numbered.{made_numbered, numbered-there}
use Rattle.list_laws.proofs.Places.{get-map}
use Rattle.fpga_types.specs.Fit.{RouteLine, lines_of, net_lines, splits}
use Rattle.fpga_types.specs.Legal.{route_of}
use Rattle.fpga_types.specs.Slots.{slots}
use Rattle.fpga_types.specs.declared.problem.Slot.{Slot}
use Rattle.fpga_types.specs.declared.route.Elem.{Elem}
use Rattle.fpga_types.specs.declared.route.RouteNet.{RouteNet}
use Rattle.fpga_types.specs.declared.route.RouteText.{RouteText}
use Rattle.fpga_types.proofs.FitLemmas.{In-splits}
use Rattle.fpga_bounds.specs.NetFit.{head_line, line_at}
use Rattle.fpga_bounds.proofs.LineLemmas.{elem_line}
use Rattle.route_verify.proofs.TrackLemmas.{tracked, tracked_net, tracked_nets, with_track-is}

-- an element with those before it and those behind it stands at its place
from_In-splits : {T : Type 0} (xs : List T) (s : List T × T × List T) → In (splits xs) s
    → (k : ℕ) × (slice_get xs k ≡ Some s.1) × (s.0 ≡ take k xs) × (s.2 ≡ drop (suc k) xs)
from_In-splits [] s i = absurd i
from_In-splits {T} (x ∷ xs) s i = elim i [
  | inl e ↦ (
    0,
    ap (λ (t : List T × T × List T). Some t.1) e,
    sym (ap (λ (t : List T × T × List T). t.0) e),
    sym (ap (λ (t : List T × T × List T). t.2) e),
  )
  | inr later ↦
      let made = from_In-map (λ (t : List T × T × List T). (x ∷ t.0, t.1, t.2)) (splits xs) s later
      in
      let place = from_In-splits xs made.0 made.1 in (
        suc place.0,
        place.1 ∙ ap (λ (t : List T × T × List T). Some t.1) made.2,
        sym (ap (λ (t : List T × T × List T). t.0) made.2)
            ∙ ap (λ (ys : List T). x ∷ ys) place.2,
        sym (ap (λ (t : List T × T × List T). t.2) made.2) ∙ place.3,
      )
]

-- a line of some nets is the Net line of one of them, or an element line at its place
pub lines-each : (P : RouteLine → Type 0) (nets : List RouteNet)
    → ((n : ℕ) (net : RouteNet) → slice_get nets n ≡ Some net → P (head_line (take n nets) net))
    → ((n : ℕ) (net : RouteNet) (i : ℕ) (e : Elem) → slice_get nets n ≡ Some net
    → slice_get net.elems i ≡ Some e → P (elem_line (take n nets) net i e))
    → (line : RouteLine) → In (lines_of nets) line → P line
lines-each P nets heads elems line within =
    let at = from_In-flat_map (λ s. net_lines s.0 s.1) (splits nets) line within in
    let net : RouteNet = at.0.1 in
    let place = from_In-splits nets at.0 at.1 in
    elim at.2 [
      | inl head ↦ subst P ((λ k. head_line (sym place.2 k) net) ∙ head)
          (heads place.0 net place.1)
      | inr later ↦
          let made = from_In-map (line_at at.0.0 net) (splits net.elems) line later in
          let spot = from_In-splits net.elems made.0 made.1 in
          subst P ((λ k. line_at (sym place.2 k) net (sym spot.2 k, made.0.1, sym spot.3 k))
          ∙ made.2) (elems place.0 net spot.0 made.0.1 place.1 spot.1)
    ]

-- each of these is one of the lines
pub head-among : (nets : List RouteNet) (n : ℕ) (net : RouteNet) → slice_get nets n ≡ Some net
    → In (lines_of nets) (head_line (take n nets) net)
head-among nets n net here =
    In-flat_map (λ s. net_lines s.0 s.1) (splits nets) (take n nets, net, drop (suc n) nets)
    (head_line (take n nets) net) (In-splits nets n net here) (inl refl)

pub elem-among : (nets : List RouteNet) (n : ℕ) (net : RouteNet) (i : ℕ) (e : Elem)
    → slice_get nets n ≡ Some net → slice_get net.elems i ≡ Some e
    → In (lines_of nets) (elem_line (take n nets) net i e)
elem-among nets n net i e here there =
    In-flat_map (λ s. net_lines s.0 s.1) (splits nets) (take n nets, net, drop (suc n) nets)
    (elem_line (take n nets) net i e) (In-splits nets n net here)
    (inr (In-map (line_at (take n nets) net) (splits net.elems)
    (take i net.elems, e, drop (suc i) net.elems) (In-splits net.elems i e there)))

module _ (all : List Slot) (tracks : List ℕ) where
  -- a line of the net at a position, once the nets have tracks
  abbrev pub tracked_line : ℕ → RouteLine → RouteLine
  tracked_line n line = record {
    earlier = tracked_nets all tracks 0 line.earlier;
    net = tracked_net all tracks n line.net;
    before = map (tracked all tracks n) line.before;
    elem = option_map (tracked all tracks n) line.elem;
    after = map (tracked all tracks n) line.after;
  }

  take-tracked : (first n : ℕ) (nets : List RouteNet)
      → take n (tracked_nets all tracks first nets) ≡ tracked_nets all tracks first (take n nets)
  take-tracked first zero [] = refl
  take-tracked first (suc n) [] = refl
  take-tracked first zero (net ∷ nets) = refl
  take-tracked first (suc n) (net ∷ nets) =
      ap (λ (others : List RouteNet). tracked_net all tracks first net ∷ others)
      (take-tracked (first + 1) n nets)

  get-tracked : (nets : List RouteNet) (n : ℕ) (found : RouteNet)
      → slice_get (tracked_nets all tracks 0 nets) n ≡ Some found
      → (net : RouteNet) × (slice_get nets n ≡ Some net) × (tracked_net all tracks n net ≡ found)
  get-tracked nets n found here =
      let made = get-map (λ (m : ℕ × RouteNet). tracked_net all tracks m.0 m.1)
      (enumerate_from 0 nets) n found here in
      let place = numbered-there 0 nets n made.0 made.1 in
      let number : made.0.0 ≡ n = place.0 ∙ zero-add n in (
        made.0.1,
        place.1,
        ap (λ (m : ℕ). tracked_net all tracks m made.0.1) (sym number) ∙ made.2,
      )

  -- an element line with the tracks put in is one of these
  elem-tracked : (nets : List RouteNet) (n : ℕ) (net : RouteNet) (i : ℕ) (e : Elem)
      → tracked_line n (elem_line (take n nets) net i e)
      ≡ elem_line (take n (tracked_nets all tracks 0 nets)) (tracked_net all tracks n net) i
      (tracked all tracks n e)
  elem-tracked nets n net i e =
      λ k. line_at (sym (take-tracked 0 n nets) k) (tracked_net all tracks n net) (
        sym (take-map (tracked all tracks n) i net.elems) k,
        tracked all tracks n e,
        sym (drop-map (tracked all tracks n) (suc i) net.elems) k,
      )

  pub tracked-among : (nets : List RouteNet) (n : ℕ) (net : RouteNet) (i : ℕ) (e : Elem)
      → slice_get nets n ≡ Some net → slice_get net.elems i ≡ Some e
      → In (lines_of (tracked_nets all tracks 0 nets))
      (tracked_line n (elem_line (take n nets) net i e))
  tracked-among nets n net i e here there =
      subst (In (lines_of (tracked_nets all tracks 0 nets))) (sym (elem-tracked nets n net i e))
      (elem-among (tracked_nets all tracks 0 nets) n (tracked_net all tracks n net) i
      (tracked all tracks n e)
      (made_numbered (λ (m : ℕ × RouteNet). tracked_net all tracks m.0 m.1) 0 nets n net here
      ∙ (λ k. Some (tracked_net all tracks (zero-add n k) net)))
      (slice_get-map (tracked all tracks n) net.elems i
      ∙ ap (option_map (tracked all tracks n)) there))

  pub lines-tracked : (P : RouteLine → Type 0) (nets : List RouteNet)
      → ((n : ℕ) (net : RouteNet) → slice_get nets n ≡ Some net
      → P (tracked_line n (head_line (take n nets) net)))
      → ((n : ℕ) (net : RouteNet) (i : ℕ) (e : Elem) → slice_get nets n ≡ Some net
      → slice_get net.elems i ≡ Some e → P (tracked_line n (elem_line (take n nets) net i e)))
      → (line : RouteLine) → In (lines_of (tracked_nets all tracks 0 nets)) line → P line
  lines-tracked P nets heads elems line within =
      lines-each P (tracked_nets all tracks 0 nets)
      (λ n found here.
      let at = get-tracked nets n found here in
      subst P (λ k. head_line (sym (take-tracked 0 n nets) k) (at.2 k)) (heads n at.0 at.1))
      (λ n found i e here there.
      let at = get-tracked nets n found here in
      let made = get-map (tracked all tracks n) at.0.elems i e
      (ap (λ (net : RouteNet). slice_get net.elems i) at.2 ∙ there) in
      subst P (elem-tracked nets n at.0 i made.0
      ∙ (λ k. elem_line (take n (tracked_nets all tracks 0 nets)) (at.2 k) i (made.2 k)))
      (elems n at.0 i made.0 at.1 made.1))
      line within

-- a route with tracks
abbrev pub tracked_route : RouteText → List ℕ → RouteText
tracked_route route tracks =
    record route { nets = tracked_nets (slots route) tracks 0 route.nets }

pub route_of-is : (route : RouteText) (tracks : List ℕ)
    → route_of route tracks ≡ tracked_route route tracks
route_of-is route tracks = λ k. record route {
  nets = map (λ (m : ℕ × RouteNet). let net : RouteNet = m.1 in record net
      { elems = map (λ e. with_track-is (slots route) tracks m.0 e k) net.elems })
      (enumerate_from 0 route.nets);
}
