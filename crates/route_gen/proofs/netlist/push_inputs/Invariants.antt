use Rattle.std.proofs.Common.{◌≡◌, ◌++◌}
use Rattle.std.specs.Prelude.{flat_map}
use Rattle.std.specs.List.{range_with_len}
use Rattle.route_gen.specs.Netlists.{input_word}
use Rattle.route_gen.proofs.netlist.push_inputs.Given as goal

abbrev pub invariant-loop-pin : goal.invariant-loop-pin
invariant-loop-pin l =
    l.text.items ≡ l.initial.text.items ++ flat_map (input_word l.inputs) (range_with_len 0 l.pin)
