-- the nets so far and those that the words ahead name are those of all words
use Rattle.std.proofs.Common.{◌≡◌, ◌≤◌, ◌+◌, length, take}
use Rattle.std.specs.Prelude.{fold}
use Rattle.fpga_net.specs.Globals.{nets_named}
use Rattle.fpga_net.specs.Names.{names_with}
use Rattle.fpga_net.proofs.globals.add_words.Given as goal

abbrev pub invariant-loop-left : goal.invariant-loop-left
invariant-loop-left l = record {
  nets : fold names_with l.names (nets_named (take l.left l.line.words))
      ≡ fold names_with l.initial.names (nets_named (take l.most l.initial.line.words));
  few : length l.names + l.left ≤ length l.initial.names + l.most;
}

abbrev pub decreases-loop-left : goal.decreases-loop-left
decreases-loop-left l = l.left
