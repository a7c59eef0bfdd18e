use Rattle.route_negotiate.specs.Texts.{GainsElems}
use Rattle.route_negotiate.proofs.text.add_path.Given as goal

abbrev pub invariant-loop-wire : goal.invariant-loop-wire
invariant-loop-wire l = GainsElems l.grid l.fn.last l.last l.fn.elems.items l.elems.items
