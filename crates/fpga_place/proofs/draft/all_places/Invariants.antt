-- the places so far are those of the first blocks, and each of these had a line
use Rattle.std.proofs.Common.{◌≡◌, false, take}
use Rattle.std.specs.Prelude.{is_some, map, not}
use Rattle.std.specs.List.{list_any}
use Rattle.fpga_types.specs.declared.netlist.Block.{Block}
use Rattle.fpga_place.specs.Drafts.{placed, places_alone}
use Rattle.fpga_place.specs.Value.{place_of}
use Rattle.fpga_place.proofs.draft.all_places.Given as goal

abbrev pub invariant-loop-i : goal.invariant-loop-i
invariant-loop-i l = record {
  places : l.all.items ≡ map (place_of (placed (places_alone l.blocks l.places)))
      (take l.i l.named);
  had_lines : list_any
      (λ (b : Block). not (is_some (placed (places_alone l.blocks l.places) b.name)))
      (take l.i l.named) ≡ false;
}
