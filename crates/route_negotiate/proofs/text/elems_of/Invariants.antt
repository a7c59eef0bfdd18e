use Rattle.route_negotiate.specs.Texts.{AreElemLines}
use Rattle.route_negotiate.proofs.text.elems_of.Given as goal

abbrev pub invariant-loop-path : goal.invariant-loop-path
invariant-loop-path l = AreElemLines l.grid l.fn.last l.last l.elems.items
