-- The cells of slots are of the array; and a table of rows, with one more.
use Rattle.arrayvec.specs.ArrayVec.{ArrayVec}
use Rattle.std.proofs.Common.{◌≡◌, ℕ, ◌+◌, ◌<◌, Bool, true, Option, Some, None, List, [], ◌∷◌, ◌++◌, length, sym, ap, ◌∙◌, subst}
use Rattle.std.specs.Prelude.{filter_map, map}
use Rattle.std.specs.Option.{option_map_or}
use Rattle.std.proofs.lemmas.List.{map-append}
use Rattle.std.proofs.lemmas.Option.{get_or_from_slice_get, slice_get_within}
use Rattle.list_laws.proofs.Members.{In-all, In-contains, from_In-filter_map}
use Rattle.fpga_types.specs.Fabric.{is_cell}
use Rattle.fpga_types.specs.Slots.{elem_cell, slot_at, slots}
use Rattle.fpga_types.specs.Sound.{IsSound, IsSoundElem, IsSoundNet}
use Rattle.fpga_types.specs.declared.grid.Cell.{Cell}
use Rattle.fpga_types.specs.declared.route.Elem.{Elem}
use Rattle.fpga_types.specs.declared.route.RouteNet.{RouteNet}
use Rattle.fpga_types.specs.declared.route.RouteText.{RouteText}
use Rattle.route_encode.specs.Encoding.{below}
use Rattle.route_reach.specs.Near.{near_of, rows_of}
use Rattle.route_reach.proofs.CountSteps.{below-push}
use Rattle.route_reach.proofs.Wires.{slot-on_trace}

-- the cell of a slot is one of the array
pub slot-on_grid : (route : RouteText) → IsSound route → (s : ℕ) → s < length (slots route)
    → is_cell route.grid (slot_at (slots route) s).cell ≡ true
slot-on_grid route sound s low =
    let on = slot-on_trace route s low in
    let net : RouteNet = on.0 in
    let n : ℕ = (slot_at (slots route) s).net in
    let own : IsSoundNet route.grid net = subst (IsSoundNet route.grid)
    (get_or_from_slice_get route.nets n net net on.1)
    (sound.nets n net (slice_get_within route.nets n net on.1)) in
    let cell : Cell = (slot_at (slots route) s).cell in
    let line = from_In-filter_map elem_cell net.elems cell
    (In-contains (filter_map elem_cell net.elems) cell on.2) in
    go line.0 cell line.2 (In-all (IsSoundElem route.grid) net.elems line.0 own.elems line.1)
  where
    go : (e : Elem) (cell : Cell) → elem_cell e ≡ Some cell → IsSoundElem route.grid e
        → is_cell route.grid cell ≡ true
    go e cell is h = at (elem_cell e) is _ h.place
      where
        at : (o : Option Cell) → o ≡ Some cell → (b : Bool)
            → option_map_or (is_cell route.grid) o b ≡ true → is_cell route.grid cell ≡ true
        at None f b g = cc
        at (Some other) f b g = subst (λ (c : Cell). is_cell route.grid c ≡ true) (some f) g
          where
            some : Some other ≡ Some cell → other ≡ cell
            some q = cc

-- the rows of the slots so far and one more
pub rows-more : (route : RouteText) (s : ℕ) (table more : List (ArrayVec ℕ)) (row : ArrayVec ℕ)
    → rows_of table ≡ map (near_of route) (below s) → more ≡ table ++ row ∷ []
    → row.items ≡ near_of route s → rows_of more ≡ map (near_of route) (below (s + 1))
rows-more route s table more row so_far pushed is =
    ap rows_of pushed ∙ map-append (λ (r : ArrayVec ℕ). r.items) table (row ∷ [])
    ∙ rw (so_far, is) (sym (ap (map (near_of route)) (below-push s)
    ∙ map-append (near_of route) (below s) (s ∷ [])))
