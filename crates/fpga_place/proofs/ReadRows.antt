-- Worked rows of placement texts: how they read, by computation.
use Rattle.std.proofs.Common.{◌≡◌, ℕ, [], ◌∷◌, None, refl}
use Rattle.std.specs.Prelude.{replicate, reverse}
use Rattle.fpga_types.specs.declared.placement.Place.{Place}
use Rattle.fpga_types.specs.declared.placement.Placement.{Placement}
use Rattle.fpga_place.specs.Codes.{place_faults}
use Rattle.fpga_place.specs.Value.{Reads, place_value}
use Rattle.fpga_place.proofs.RowTexts.{arch, netlist, junction_lines, text_of}

-- a place
abbrev at : ℕ → ℕ → ℕ → Place
at x y sub = record { x = x; y = y; sub = sub }

-- the value of the lines `junction_lines`
abbrev junction : Placement
junction = record {
  grid = record { nx = 2; ny = 1 };
  places = at 1 0 0 ∷ at 2 0 0 ∷ at 1 0 1 ∷ at 2 0 1 ∷ at 1 1 0 ∷ at 2 1 0 ∷ [];
}

pub junction_is_faultless : place_faults arch netlist (text_of junction_lines) ≡ replicate 9 None
junction_is_faultless = refl

pub junction_reads : Reads arch netlist (text_of junction_lines) junction
junction_reads = (refl, refl)

-- the places stand by the blocks' numbers, whatever the order of the lines
pub other_order : place_value (record netlist { blocks = reverse netlist.blocks })
    (text_of junction_lines) ≡ record junction { places = reverse junction.places }
other_order = refl
