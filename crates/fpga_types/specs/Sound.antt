-- What is true of each route text that was read.
use Rattle.std.specs.Prelude.{◌≡◌, ℕ, ◌+◌, ◌-◌, ◌^◌, ◌<◌, ◌≤◌, ⊤, nat_le, Bool, true, false, ◌&&◌, IsTrue, All, List, [], ◌∷◌, length, map, flat_map}
use Rattle.std.specs.Option.{option_map_or}
use Rattle.fpga_types.specs.Size.{Size}
use Rattle.fpga_types.specs.Fabric.{is_cell}
use Rattle.fpga_types.specs.Kinds.{takes}
use Rattle.fpga_types.specs.Slots.{channel_at}
use Rattle.fpga_types.specs.declared.limits.TheConstants.{NET_LIMIT}
use Rattle.fpga_types.specs.declared.route.Elem.{Elem}
use Rattle.fpga_types.specs.declared.route.ElemKind.{ElemKind}
use Rattle.fpga_types.specs.declared.route.RouteNet.{RouteNet}
use Rattle.fpga_types.specs.declared.route.RouteText.{RouteText}

-- an element of this kind may stand at (x,y): a channel on a cell of the array, another at most one
-- place beyond the array
abbrev pub has_place : Size → ElemKind → ℕ → ℕ → Bool
has_place grid kind x y = option_map_or (is_cell grid) (channel_at kind x y)
    (nat_le x (grid.nx + 1) && nat_le y (grid.ny + 1))

-- the element has a label of its kind, and stands where its kind may
pub record IsSoundElem (grid : Size) (e : Elem) : Type 0 where
  pub label : IsTrue (takes e.kind e.label)
  pub place : IsTrue (has_place grid e.kind e.x e.y)

-- the elements are sound; a global net has none, and another net keeps no lines
pub record IsSoundNet (grid : Size) (net : RouteNet) : Type 0 where
  pub elems : All (IsSoundElem grid) net.elems
  pub global_elems : net.global ≡ true → net.elems ≡ []
  pub ordinary_kept : net.global ≡ false → net.kept ≡ []

-- the numbers rise, from above the one to at most the other
abbrev pub RisesWithin : (low high : ℕ) → List ℕ → Type 0
RisesWithin low high [] = ⊤
RisesWithin low high (n ∷ more) = (low < n) × (n ≤ high) × RisesWithin n high more

-- the number of the Net line of each net and of its element lines
abbrev pub net_numbers : List RouteNet → List ℕ
net_numbers nets =
    flat_map (λ (net : RouteNet). net.line ∷ map (λ (e : Elem). e.line) net.elems) nets

-- the nets are sound, and there are no more than may be; the array line, the Net lines and the
-- element lines stand in this order among the lines of the text, of which no count nears 2^64
pub record IsSound (route : RouteText) : Type 0 where
  pub limit : length route.nets ≤ NET_LIMIT
  pub nets : All (IsSoundNet route.grid) route.nets
  pub order : RisesWithin 0 route.lines (route.grid_line ∷ net_numbers route.nets)
  pub lines : route.lines < 2 ^ 64 - 1
