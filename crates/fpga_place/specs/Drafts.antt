-- The value of a placement text as far as it was read.
use Rattle.std.specs.Prelude.{◌≡◌, ◌≢◌, ℕ, ◌<◌, true, false, List, length, slice_get, slice_set, Option, Some, None, is_some, option_and_then, unwrap_or}
use Rattle.std.specs.BTreeSet.{BTreeSet}
use Rattle.std.specs.Option.{option_or}
use Rattle.fpga_types.specs.Places.{is_lawful, spot_of}
use Rattle.fpga_types.specs.Size.{Size}
use Rattle.fpga_types.specs.declared.netlist.Block.{Block}
use Rattle.fpga_types.specs.declared.placement.Place.{Place}
use Rattle.fpga_types.specs.declared.placement.Spot.{Spot}
use Rattle.fpga_text.specs.Bytes.{Bytes}
use Rattle.fpga_text.specs.Codes.{end_fault, line_fault}
use Rattle.fpga_text.specs.declared.fault.TextFault.{TextFault}
use Rattle.fpga_place.specs.Blocks.{number_named}
use Rattle.fpga_place.specs.Codes.{Context, Setting, behind, place_codes}
use Rattle.fpga_place.specs.Lines.{Form}
use Rattle.fpga_place.specs.Spots.{HasSpots, has_spot}
use Rattle.fpga_place.specs.Value.{said_place}

-- what the text is read for, the array that its head says, and for each block its place, if it had
-- a line
pub record Progress : Type 0 where
  pub setting : Setting
  pub grid : Size
  pub places : List (Option Place)

-- the place of the block with this name, if it had a line
abbrev pub placed : Progress → Bytes → Option Place
placed draft name =
    option_and_then (λ number. unwrap_or (slice_get draft.places number) None)
    (number_named draft.setting.blocks name)

-- what a draft has of these blocks and places: it has no array, and was read for no pads
abbrev pub places_alone : List Block → List (Option Place) → Progress
places_alone blocks places = record {
  setting = record { io_rat = 0; blocks = blocks };
  grid = record { nx = 0; ny = 0 };
  places = places;
}

-- what stands before the next line
abbrev pub context_at : Progress → Context
context_at draft = record {
  in_body = true;
  grid = Some draft.grid;
  has_line = λ name. is_some (placed draft name);
  is_taken = has_spot draft.setting.blocks draft.places;
}

-- why the next line is refused, if it has this number and says this
abbrev pub next_fault : Progress → ℕ → Form → Option TextFault
next_fault draft number form = line_fault (place_codes draft.setting) (context_at draft) number form

-- why the text is refused if it ends here, with this number
abbrev pub last_fault : Progress → ℕ → Option TextFault
last_fault draft number = end_fault (place_codes draft.setting) (context_at draft) number

-- the block with this number has no place yet, may stand at this one, and its spot is free there
pub record FitsBlock (draft : Progress) (number : ℕ) (place : Place) : Type 0 where
  pub block : Block
  pub is : slice_get draft.setting.blocks number ≡ Some block
  pub unplaced : slice_get draft.places number ≡ Some None
  pub lawful : is_lawful draft.grid draft.setting.io_rat block.kind place ≡ true
  pub free : has_spot draft.setting.blocks draft.places (spot_of block.kind place) ≡ false

-- the same of the block with this name
pub record FitsNamed (draft : Progress) (name : Bytes) (place : Place) (number : ℕ) : Type 0 where
  pub named : number_named draft.setting.blocks name ≡ Some number
  pub fits : FitsBlock draft number place

-- the draft with the block there
abbrev pub with_place : Progress → ℕ → Place → Progress
with_place draft number place =
    record draft { places = slice_set draft.places number (Some place) }

-- a line without a fault was taken
pub record TakesLine (old new : Progress) (line : ℕ) (form : Form) : Type 0 where
  pub clean : next_fault old line form ≡ None
  pub setting : new.setting ≡ old.setting
  pub grid : new.grid ≡ old.grid
  pub after : context_at new ≡ behind old.setting (context_at old) form
  pub named : (name : Bytes) → placed new name ≡ option_or (placed old name) (said_place name form)

-- the block with this number stands at this place
pub record Stands (blocks : List Block) (places : List (Option Place)) (number : ℕ) (block : Block)
    (place : Place) : Type 0 where
  pub block_is : slice_get blocks number ≡ Some block
  pub place_is : slice_get places number ≡ Some (Some place)

-- each block has an entry, the places are lawful for their blocks, no two blocks share a spot, and
-- the set has the spots
pub record IsInOrder (io_rat : ℕ) (grid : Size) (blocks : List Block) (places : List (Option Place))
    (taken : BTreeSet Spot) : Type 0 where
  pub count : length places ≡ length blocks
  pub lawful : (number : ℕ) (block : Block) (place : Place)
      → Stands blocks places number block place → is_lawful grid io_rat block.kind place ≡ true
  pub apart : (i j : ℕ) (a b : Block) (p q : Place) → i < j → Stands blocks places i a p
      → Stands blocks places j b q → spot_of a.kind p ≢ spot_of b.kind q
  pub spots : HasSpots blocks places taken
