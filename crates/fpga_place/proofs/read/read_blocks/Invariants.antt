-- the lines that were taken have no fault, and the places so far and those ahead are the places of
-- all
use Rattle.std.proofs.Common.{◌≡◌, length}
use Rattle.std.specs.Option.{option_or}
use Rattle.fpga_text.specs.Bytes.{Bytes}
use Rattle.fpga_text.proofs.FaultLemmas.{IsPast}
use Rattle.fpga_place.specs.Drafts.{placed}
use Rattle.fpga_place.specs.Lines.{block_forms, said}
use Rattle.fpga_place.specs.Reading.{faults_ahead}
use Rattle.fpga_place.specs.Value.{place_named}
use Rattle.fpga_place.proofs.read.read_blocks.Given as goal

abbrev pub invariant-loop-line : goal.invariant-loop-line
invariant-loop-line l = record {
  past : IsPast (faults_ahead l.initial.draft l.initial.lines) (faults_ahead l.draft l.lines);
  setting : l.draft.setting ≡ l.initial.draft.setting;
  grid : l.draft.grid ≡ l.initial.draft.grid;
  named : (name : Bytes)
      → option_or (placed l.draft name) (place_named (said (block_forms l.lines.ahead)) name)
      ≡ option_or (placed l.initial.draft name)
      (place_named (said (block_forms l.initial.lines.ahead)) name);
  total : l.lines.total ≡ l.initial.lines.total;
}

abbrev pub decreases-loop-line : goal.decreases-loop-line
decreases-loop-line l = length l.lines.ahead
