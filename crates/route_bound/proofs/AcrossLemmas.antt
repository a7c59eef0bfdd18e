-- Whether a net crosses a cut, by the sides on which its terminals lie.
use Rattle.std.proofs.Common.{◌≡◌, ℕ, ◌+◌, Bool, true, false, List, [], ◌∷◌, ◌++◌, Option, Some, None, refl, ap, ◌∙◌, arith}
use Rattle.std.specs.Prelude.{◌&&◌, ◌||◌, filter, filter_map, if◌then◌else◌, option_map, slice_get}
use Rattle.std.specs.List.{cons_option, list_any, range_with_len}
use Rattle.std.specs.Option.{option_map_or}
use Rattle.std.proofs.Common.{add-one}
use Rattle.std.proofs.lemmas.List.Elements.{filter-append}
use Rattle.list_laws.proofs.Ranges.{range-push}
use Rattle.fpga_types.specs.Problem.{PlacedNetlist}
use Rattle.fpga_types.specs.Terminals.{terminal_in}
use Rattle.fpga_types.specs.declared.arch.Arch.{Arch}
use Rattle.fpga_types.specs.declared.grid.Cell.{Cell}
use Rattle.fpga_types.specs.declared.grid.Side.TheVariants.{Left, Right, Bottom, Top}
use Rattle.fpga_types.specs.declared.netlist.Net.{Net}
use Rattle.fpga_types.specs.declared.netlist.PinRef.{PinRef}
use Rattle.fpga_types.specs.declared.problem.Terminal.{Terminal}
use Rattle.fpga_types.specs.Size.{Size}
use Rattle.route_bound.specs.Corners.{Corners, has_corner_in, has_corner_out, is_cut_cell}
use Rattle.route_bound.specs.Crossing.{are_across, crosses}
use Rattle.route_bound.specs.Lying.{Cells, lies_in}
use Rattle.route_bound.specs.Reaches.{all_along, on_side, reach_of, side_cell}
use Rattle.route_bound.specs.Standings.{is_across, is_sink_across, standing_of}
use Rattle.route_bound.specs.declared.reach.Reach.{Reach}
use Rattle.route_bound.proofs.ReachLemmas.{lies-along}

-- two tests along four sides
on-both : (has a b : Bool) → on_side has (a && b) ≡ (on_side has a && on_side has b)
on-both true a b = refl
on-both false a b = refl

and-mix : (a b c d : Bool) → ((a && b) && (c && d)) ≡ ((a && c) && (b && d))
and-mix true true c d = refl
and-mix true false true d = refl
and-mix true false false d = refl
and-mix false b c d = refl

along-both : (p q : Cells) (r : Reach)
    → all_along (λ (c : Cell). p c && q c) r ≡ (all_along p r && all_along q r)
along-both p q r =
    let left = side_cell r.x r.y Left in let right = side_cell r.x r.y Right in
    let bottom = side_cell r.x r.y Bottom in let top = side_cell r.x r.y Top in
    rw (
      on-both r.sides.left (p left) (q left),
      on-both r.sides.right (p right) (q right),
      on-both r.sides.bottom (p bottom) (q bottom),
      on-both r.sides.top (p top) (q top),
      and-mix (on_side r.sides.left (p left)) (on_side r.sides.left (q left))
          (on_side r.sides.right (p right)) (on_side r.sides.right (q right)),
      and-mix (on_side r.sides.bottom (p bottom)) (on_side r.sides.bottom (q bottom))
          (on_side r.sides.top (p top)) (on_side r.sides.top (q top)),
    ) (and-mix (on_side r.sides.left (p left) && on_side r.sides.right (p right))
    (on_side r.sides.left (q left) && on_side r.sides.right (q right))
    (on_side r.sides.bottom (p bottom) && on_side r.sides.top (p top))
    (on_side r.sides.bottom (q bottom) && on_side r.sides.top (q top)))

-- inside a, outside a, inside b, outside b
across-mix : (a b c d : Bool)
    → (((a && b) || (c && d)) || ((a && d) || (b && c))) ≡ ((a || c) && (b || d))
across-mix true true c d = refl
across-mix true false true true = refl
across-mix true false true false = refl
across-mix true false false true = refl
across-mix true false false false = refl
across-mix false true true true = refl
across-mix false true true false = refl
across-mix false true false true = refl
across-mix false true false false = refl
across-mix false false true true = refl
across-mix false false true false = refl
across-mix false false false d = refl

module _ (placed : PlacedNetlist) (corners : Corners) where
  abbrev arch : Arch
  arch = placed.arch

  abbrev grid : Size
  grid = placed.placement.grid

  abbrev reach : Terminal → Reach
  reach at = reach_of arch grid at

  abbrev inside : Terminal → Bool
  inside at = all_along (has_corner_in corners) (reach at)

  abbrev outside : Terminal → Bool
  outside at = all_along (has_corner_out corners) (reach at)

  at-cut : (at : Terminal) → lies_in arch grid (is_cut_cell corners) at ≡ (inside at && outside at)
  at-cut at = lies-along arch grid at (is_cut_cell corners)
      ∙ along-both (has_corner_in corners) (has_corner_out corners) (reach at)

  across-is : (a b : Terminal) → are_across placed corners a b
      ≡ is_across placed corners (standing_of corners (reach a)) b
  across-is a b =
      rw (
        at-cut a,
        at-cut b,
        lies-along arch grid a (has_corner_in corners),
        lies-along arch grid a (has_corner_out corners),
        lies-along arch grid b (has_corner_in corners),
        lies-along arch grid b (has_corner_out corners),
      ) (across-mix (inside a) (outside a) (inside b) (outside b))

  any-sink : (p : Terminal → Bool) (pins : List PinRef)
      → list_any p (filter_map (terminal_in placed) pins)
      ≡ list_any (λ pin. option_map_or p (terminal_in placed pin) false) pins
  any-sink p [] = refl
  any-sink p (pin ∷ pins) = one (terminal_in placed pin)
      ∙ ap (λ (b : Bool). option_map_or p (terminal_in placed pin) false || b) (any-sink p pins)
    where
      one : (o : Option Terminal)
          → list_any p (cons_option o (filter_map (terminal_in placed) pins))
          ≡ (option_map_or p o false || list_any p (filter_map (terminal_in placed) pins))
      one None = refl
      one (Some at) = refl

  pub across-sinks : (driver : Terminal) (pins : List PinRef)
      → list_any (are_across placed corners driver) (filter_map (terminal_in placed) pins)
      ≡ list_any (is_sink_across placed corners (standing_of corners (reach driver))) pins
  across-sinks driver pins =
      ap (λ (f : Terminal → Bool). list_any f (filter_map (terminal_in placed) pins))
      (λ k at. across-is driver at k)
      ∙ any-sink (is_across placed corners (standing_of corners (reach driver))) pins

  pub crosses-is : (net : Net) (pin : PinRef) (driver : Reach) → net.global ≡ false
      → net.driver ≡ Some pin → Some driver ≡ option_map reach (terminal_in placed pin)
      → crosses placed corners net
      ≡ list_any (is_sink_across placed corners (standing_of corners driver)) net.sinks
  crosses-is net pin driver ordinary drives is = go (terminal_in placed pin) refl is
    where
      go : (o : Option Terminal) → terminal_in placed pin ≡ o → Some driver ≡ option_map reach o
          → crosses placed corners net
          ≡ list_any (is_sink_across placed corners (standing_of corners driver)) net.sinks
      go None e f = cc
      go (Some at) e f =
          let same : reach at ≡ driver = cc in
          rw (ordinary, drives, e)
          (across-sinks at net.sinks
          ∙ ap (λ (r : Reach). list_any (is_sink_across placed corners (standing_of corners r))
          net.sinks) same)

  -- the numbers of those that cross, one more net looked at
  abbrev test : ℕ → Bool
  test number =
      option_map_or (crosses placed corners) (slice_get placed.netlist.nets number) false

  pub crossing-more : (number : ℕ) (net : Net) → slice_get placed.netlist.nets number ≡ Some net
      → filter test (range_with_len 0 number)
      ++ (if crosses placed corners net then number ∷ [] else [])
      ≡ filter test (range_with_len 0 (number + 1))
  crossing-more number net here =
      let is : test number ≡ crosses placed corners net = rw here refl in
      let whole : range_with_len 0 (number + 1) ≡ range_with_len 0 number ++ number ∷ [] =
      rw add-one (range-push 0 number
      ∙ (let e : 0 + number ≡ number = omega arith in
      ap (λ (n : ℕ). range_with_len 0 number ++ n ∷ []) e)) in
      rw (whole, filter-append test (range_with_len 0 number) (number ∷ []), is) refl
