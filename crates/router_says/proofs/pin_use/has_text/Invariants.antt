-- none of the words so far is the name
use Rattle.std.proofs.Common.{◌≡◌, length}
use Rattle.fpga_text.specs.Said.{has_text}
use Rattle.router_says.proofs.pin_use.has_text.Given as goal

abbrev pub invariant-loop-word : goal.invariant-loop-word
invariant-loop-word l = has_text l.line.words l.name ≡ has_text l.initial.line.words l.name

abbrev pub decreases-loop-word : goal.decreases-loop-word
decreases-loop-word l = length l.line.words
