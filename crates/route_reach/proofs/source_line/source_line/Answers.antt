use Rattle.std.proofs.Common.{◌<◌, List, length, get_or, arith}
use Rattle.list_laws.proofs.Members.{In-get}
use Rattle.fpga_bounds.proofs.LineLemmas.{NO_ELEM}
use Rattle.fpga_types.specs.declared.route.Elem.{Elem}
use Rattle.route_reach.proofs.OutLemmas.{known-out}
use Rattle.route_reach.proofs.source_line.source_line.Goals as goal

pub is_source_of-requires-clause-pin : goal.is_source_of-requires-clause-pin
is_source_of-requires-clause-pin c =
    let elems : List Elem = c.args.elems.now in
    let below : c.loop-e.e-index < length elems = omega arith in
    known-out c.args.graph.now.arch elems (get_or elems c.loop-e.e-index NO_ELEM)
    (In-get elems c.loop-e.e-index NO_ELEM below) c.requires.pins
