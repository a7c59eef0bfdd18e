-- the bands over the cells so far were added
use Rattle.std.specs.Prelude.{string_bytes}
use Rattle.route_draw.specs.Cut.{AreBands}
use Rattle.route_draw.specs.Parts.{Adds}
use Rattle.route_draw.proofs.cut.append_bands.Given as goal

abbrev pub invariant-loop-number : goal.invariant-loop-number
invariant-loop-number l = Adds (AreBands l.grid l.range l.number) (string_bytes l.initial.out)
    (string_bytes l.out)
