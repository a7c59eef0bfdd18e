use Rattle.std.proofs.Common.{◌≡◌, take}
use Rattle.std.specs.Prelude.{flat_map}
use Rattle.std.specs.List.{enumerate_from}
use Rattle.route_gen.specs.Netlists.{block_lines}
use Rattle.route_gen.proofs.netlist.netlist_text.Given as goal

abbrev pub invariant-loop-block : goal.invariant-loop-block
invariant-loop-block l =
    l.text.items ≡ flat_map (block_lines l.nets) (take l.block (enumerate_from 0 l.inputs))
