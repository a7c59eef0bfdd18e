-- Placed netlists by their parts.
use Rattle.fpga_types.specs.Problem.{PlacedNetlist}
use Rattle.fpga_types.specs.declared.arch.Arch.{Arch}
use Rattle.fpga_types.specs.declared.netlist.Netlist.{Netlist}
use Rattle.fpga_types.specs.declared.placement.Placement.{Placement}

-- the placed netlist that three values make
abbrev pub placed_netlist : Arch → Netlist → Placement → PlacedNetlist
placed_netlist arch netlist placement =
    record { arch = arch; netlist = netlist; placement = placement }
