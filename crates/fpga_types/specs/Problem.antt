-- The four values that a routing problem is made of, and the three of them that stand without a
-- route.
use Rattle.fpga_types.specs.declared.arch.Arch.{Arch}
use Rattle.fpga_types.specs.declared.netlist.Netlist.{Netlist}
use Rattle.fpga_types.specs.declared.placement.Placement.{Placement}
use Rattle.fpga_types.specs.declared.route.RouteText.{RouteText}

-- an architecture, a netlist, its placement, and a global route of it
pub record RoutingProblem : Type 0 where
  pub arch : Arch
  pub netlist : Netlist
  pub placement : Placement
  pub route : RouteText

-- the problem that four values make
abbrev pub problem_of : Arch → Netlist → Placement → RouteText → RoutingProblem
problem_of arch netlist placement route =
    record { arch = arch; netlist = netlist; placement = placement; route = route }

-- an architecture, a netlist and its placement: a routing problem without its route
pub record PlacedNetlist : Type 0 where
  pub arch : Arch
  pub netlist : Netlist
  pub placement : Placement

-- the placed netlist that a problem is of
abbrev pub placed_netlist_of : RoutingProblem → PlacedNetlist
placed_netlist_of p = record { arch = p.arch; netlist = p.netlist; placement = p.placement }
