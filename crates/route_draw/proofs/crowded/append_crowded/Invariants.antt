-- the marks on the cells so far were added, no more than there are cells
use Rattle.std.proofs.Common.{ℕ, ◌≤◌}
use Rattle.std.specs.Prelude.{string_bytes}
use Rattle.fpga_types.specs.declared.grid.Cell.{Cell}
use Rattle.route_draw.specs.Crowded.{AddsMarks}
use Rattle.route_draw.specs.Needs.{AreNeeds}
use Rattle.route_draw.proofs.crowded.append_crowded.Given as goal

abbrev pub invariant-loop-number : goal.invariant-loop-number
invariant-loop-number l = record {
  few : l.crowded ≤ l.number;
  marks : (wants : Cell → ℕ) → AreNeeds l.grid wants l.needs
      → AddsMarks l.grid wants l.width l.number l.crowded (string_bytes l.initial.out)
      (string_bytes l.out);
}
