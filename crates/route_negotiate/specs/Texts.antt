-- Lines that are added to a route text.
use Rattle.std.specs.Prelude.{ℕ, ◌≤◌, List, All, map}
use Rattle.fpga_types.specs.Size.{Size}
use Rattle.fpga_types.specs.Sound.{IsSoundElem, IsSoundNet, RisesWithin, net_numbers}
use Rattle.fpga_types.specs.declared.route.Elem.{Elem}
use Rattle.fpga_types.specs.declared.route.RouteNet.{RouteNet}

-- the elements are sound, on lines of their own behind the one and up to the other
pub record AreElemLines (grid : Size) (low high : ℕ) (elems : List Elem) : Type 0 where
  pub sound : All (IsSoundElem grid) elems
  pub behind : low ≤ high
  pub order : RisesWithin low high (map (λ (e : Elem). e.line) elems)

-- the nets are sound, on lines of their own behind the one and up to the other
pub record AreNetLines (grid : Size) (low high : ℕ) (nets : List RouteNet) : Type 0 where
  pub sound : All (IsSoundNet grid) nets
  pub behind : low ≤ high
  pub order : RisesWithin low high (net_numbers nets)

-- elements were added: whatever line those before stood behind, all stand behind it
abbrev pub GainsElems : Size → (before after : ℕ) → (old new : List Elem) → Type 0
GainsElems grid before after old new =
    (low : ℕ) → AreElemLines grid low before old → AreElemLines grid low after new
