-- Where wires stand by a table of what cells want.
use Rattle.std.proofs.Common.{◌≡◌, ℕ, Bool, false, List, Option, sym, ap, subst, ◌∙◌}
use Rattle.std.specs.Prelude.{IsTrue, max}
use Rattle.std.proofs.lemmas.Bool.{false≢true}
use Rattle.fpga_types.specs.Fabric.{is_cell}
use Rattle.fpga_types.specs.Problem.{RoutingProblem}
use Rattle.fpga_types.specs.Size.{Size}
use Rattle.fpga_types.specs.declared.grid.Cell.{Cell}
use Rattle.fpga_types.specs.declared.route.RouteText.{RouteText}
use Rattle.route_draw.specs.Blamed.{Blame}
use Rattle.route_draw.specs.Cut.{CutSaid}
use Rattle.route_draw.specs.Needs.{AreNeeds, has_tracks}
use Rattle.route_draw.specs.Picture.{IsPicture, IsPictureOf}
use Rattle.route_draw.specs.Wires.{AreLanes, IsAcross, LanesOf, Layout, layout_of, track_place}

-- the lanes of a route, by whether it has tracks
pub lanes-said : (route said : RouteText) (width : ℕ) (b : Bool) (lanes : LanesOf)
    → has_tracks route.nets ≡ b → said ≡ route → AreLanes (layout_of b said width) lanes
    → AreLanes (layout_of (has_tracks route.nets) route width) lanes
lanes-said route said width b lanes is same are =
    subst (λ (c : Bool). AreLanes (layout_of c route width) lanes) (sym is)
    (subst (λ (r : RouteText). AreLanes (layout_of b r width) lanes) same are)

-- on its track a wire stands by what its cell wants
pub across-said : (layout : Layout) (lanes : LanesOf) (cell : Cell) (grid : Size) (needs : List ℕ)
    (width track need tracks across : ℕ) → AreLanes layout lanes → grid ≡ lanes.grid
    → needs ≡ lanes.needs → width ≡ lanes.width
    → ((wants : Cell → ℕ) → AreNeeds grid wants needs → IsTrue (is_cell grid cell)
    → need ≡ wants cell)
    → tracks ≡ max need width → across ≡ track_place track tracks
    → IsAcross layout cell track across
across-said layout lanes cell grid needs width track need tracks across are is_grid are_needs
    is_width wanted most stands = λ on within.
    stands ∙ ap (track_place track)
    (most ∙ ap (λ (n : ℕ). max n width)
    (wanted layout.wants
    (subst (λ (g : Size). AreNeeds g layout.wants needs) (sym (is_grid ∙ are.grid))
    (subst (λ (ns : List ℕ). AreNeeds layout.grid layout.wants ns) (sym are_needs) are.needs))
    (subst (λ (g : Size). IsTrue (is_cell g cell)) (sym (is_grid ∙ are.grid)) within))
    ∙ ap (λ (w : ℕ). max (layout.wants cell) w) (is_width ∙ are.width))

-- side by side it stands anywhere
pub across-free : (layout : Layout) (lanes : LanesOf) (cell : Cell) (track across : ℕ)
    → lanes.on_tracks ≡ false → AreLanes layout lanes → IsAcross layout cell track across
across-free layout lanes cell track across off are = λ on within.
    absurd (false≢true (sym off ∙ are.on_tracks ∙ on))

-- a picture of a problem's own route
pub own-picture : (problem : RoutingProblem) (route : RouteText) (width : ℕ) (blame : Blame)
    (shown : Option CutSaid) (lanes : LanesOf) (text : List ℕ) → route ≡ problem.route
    → AreLanes (layout_of (has_tracks problem.route.nets) problem.route width) lanes
    → ((on_tracks : Bool) → AreLanes (layout_of on_tracks route width) lanes
    → IsPictureOf (record problem { route = route }) (layout_of on_tracks route width) blame shown
    text)
    → IsPicture problem width blame shown text
own-picture problem route width blame shown lanes text same are shows =
    subst (λ (r : RouteText).
    IsPictureOf (record problem { route = r }) (layout_of (has_tracks problem.route.nets) r width)
    blame shown text) same
    (shows (has_tracks problem.route.nets)
    (subst (λ (r : RouteText).
    AreLanes (layout_of (has_tracks problem.route.nets) r width) lanes) (sym same) are))
