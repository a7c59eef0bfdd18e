-- the words that were added and those of the lines ahead are those of all lines
use Rattle.std.proofs.Common.{◌≡◌, ◌++◌, length}
use Rattle.std.specs.Prelude.{flat_map}
use Rattle.fpga_text.specs.Words.{TextLine}
use Rattle.fault_names.specs.LinesBy.{behind_here}
use Rattle.fault_names.specs.Lookups.{bytes_of}
use Rattle.fault_names.proofs.words_behind.add_behind.Given as goal

abbrev pub invariant-loop-line : goal.invariant-loop-line
invariant-loop-line l = bytes_of l.names.items
    ++ flat_map (λ (line : TextLine). behind_here l.word line.words) l.lines.ahead
    ≡ bytes_of l.initial.names.items
    ++ flat_map (λ (line : TextLine). behind_here l.word line.words) l.initial.lines.ahead

abbrev pub decreases-loop-line : goal.decreases-loop-line
decreases-loop-line l = length l.lines.ahead
