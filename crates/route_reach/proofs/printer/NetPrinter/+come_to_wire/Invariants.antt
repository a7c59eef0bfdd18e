use Rattle.std.specs.Option.{option_map_or}
use Rattle.route_reach.specs.Tree.{reached_at}
use Rattle.route_reach.specs.declared.tree.Reached.{Reached}
use Rattle.route_reach.proofs.printer.NetPrinter.+come_to_wire.Given as goal

abbrev pub decreases-come_to_wire : goal.decreases-come_to_wire
decreases-come_to_wire l =
    option_map_or (λ (r : Reached). r.depth) (reached_at l.self.now.tree.now l.k) 0
