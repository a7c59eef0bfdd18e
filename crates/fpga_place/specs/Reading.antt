-- What is true once the lines behind the head were taken.
use Rattle.std.specs.Prelude.{◌≡◌, ◌+◌}
use Rattle.std.specs.Option.{option_or}
use Rattle.fpga_text.specs.Bytes.{Bytes}
use Rattle.fpga_text.specs.Codes.{faults_from}
use Rattle.fpga_text.specs.FirstFault.{Faults, first_fault}
use Rattle.fpga_text.specs.Reading.{LinesAhead}
use Rattle.fpga_place.specs.Codes.{behind, place_codes}
use Rattle.fpga_place.specs.Drafts.{Progress, context_at, last_fault, placed}
use Rattle.fpga_place.specs.Lines.{block_forms, said}
use Rattle.fpga_place.specs.Value.{place_named}

-- the faults of the lines that come next, and of the end
abbrev pub faults_ahead : Progress → LinesAhead → Faults
faults_ahead draft lines = faults_from (behind draft.setting) (place_codes draft.setting)
    (context_at draft) (block_forms lines.ahead) (lines.total + 1)

-- no line had a fault, all were taken, and each name has the place that it had or that a line said
pub record ReadsBlocks (lines : LinesAhead) (draft : Progress) (lines_after : LinesAhead)
    (draft_after : Progress) : Type 0 where
  pub left : first_fault (faults_ahead draft lines) ≡ last_fault draft_after (lines.total + 1)
  pub setting : draft_after.setting ≡ draft.setting
  pub grid : draft_after.grid ≡ draft.grid
  pub named : (name : Bytes) → placed draft_after name
      ≡ option_or (placed draft name) (place_named (said (block_forms lines.ahead)) name)
  pub taken : lines_after.taken ≡ lines.total
