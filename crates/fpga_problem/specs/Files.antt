-- The four files of a problem, in the order in which they are read; and the three of them that a
-- placed netlist is read from.
use Rattle.std.specs.Prelude.{◌++◌, Option, codes}
use Rattle.desk_io.specs.Files.{Bytes, FileMap}
use Rattle.fpga_arch.specs.Codes.{arch_faults}
use Rattle.fpga_arch.specs.Value.{arch_value}
use Rattle.fpga_net.specs.Codes.{net_faults}
use Rattle.fpga_net.specs.Sound.{IsSoundNetlist}
use Rattle.fpga_net.specs.Value.{net_value}
use Rattle.fpga_place.specs.Codes.{place_faults}
use Rattle.fpga_place.specs.Value.{place_value}
use Rattle.fpga_problem.specs.Sources.{ReadsThen, Says, Source, StopsAt, route_source}
use Rattle.fpga_problem.specs.declared.names.FourNames.{FourNames}
use Rattle.fpga_problem.specs.declared.names.ThreeNames.{ThreeNames}
use Rattle.fpga_problem.specs.declared.source.TheConstants.{TEXT_BYTES}
use Rattle.fpga_problem.specs.declared.text_file.TextFile.{TextFile}
use Rattle.fpga_problem.specs.declared.text_file.TextFile.TheVariants.{Architecture, Netlist as NetlistFile, Placement as PlacementFile, Route}
use Rattle.fpga_problem.specs.declared.unread.FileFault.{FileFault}
use Rattle.fpga_problem.specs.declared.unread.Unread.{Unread}
use Rattle.fpga_route.specs.Codes.{route_faults}
use Rattle.fpga_route.specs.Value.{route_value}
use Rattle.fpga_types.specs.ArchSound.{IsSoundArch}
use Rattle.fpga_types.specs.Fits.{Fits, problem_faults}
use Rattle.fpga_types.specs.Placements.{IsSoundPlacement}
use Rattle.fpga_types.specs.Problem.{PlacedNetlist, RoutingProblem, problem_of}
use Rattle.fpga_types.specs.declared.arch.Arch.{Arch}
use Rattle.fpga_types.specs.declared.netlist.Netlist.{Netlist}
use Rattle.fpga_types.specs.declared.placement.Placement.{Placement}

-- the names of the files of a problem
pub record FileNames : Type 0 where
  pub architecture : Bytes
  pub netlist : Bytes
  pub placement : Bytes
  pub route : Bytes

abbrev pub names_said : FourNames → FileNames
names_said names = record {
  architecture = names.architecture.now;
  netlist = names.netlist.now;
  placement = names.placement.now;
  route = names.route.now;
}

-- those behind a prefix
abbrev pub names_behind : (prefix : Bytes) → FileNames
names_behind prefix = record {
  architecture = prefix ++ codes ".arch";
  netlist = prefix ++ codes ".net";
  placement = prefix ++ codes ".place";
  route = prefix ++ codes ".route";
}

-- the names of the files of a placed netlist
pub record PlacedNames : Type 0 where
  pub architecture : Bytes
  pub netlist : Bytes
  pub placement : Bytes

abbrev pub placed_names_said : ThreeNames → PlacedNames
placed_names_said names = record {
  architecture = names.architecture.now;
  netlist = names.netlist.now;
  placement = names.placement.now;
}

-- those of the placed netlist of a problem
abbrev pub placed_names_of : FileNames → PlacedNames
placed_names_of names = record {
  architecture = names.architecture;
  netlist = names.netlist;
  placement = names.placement;
}

-- the architecture
abbrev pub arch_source : Bytes → Source
arch_source name = record { name = name; limit = TEXT_BYTES; faults = arch_faults }

-- the netlist, for this architecture
abbrev pub net_source : Bytes → Arch → Source
net_source name arch = record { name = name; limit = TEXT_BYTES; faults = net_faults arch }

-- the placement, for these
abbrev pub place_source : Bytes → Arch → Netlist → Source
place_source name arch netlist =
    record { name = name; limit = TEXT_BYTES; faults = place_faults arch netlist }

-- the global route, which is to fit with these
abbrev pub fitted_source : Bytes → Arch → Netlist → Placement → Source
fitted_source name arch netlist placement = record {
  name = name;
  limit = TEXT_BYTES;
  faults = λ text. route_faults text
      ++ problem_faults (problem_of arch netlist placement (route_value text));
}

-- this file gives no value, for this reason
abbrev pub unread_at : TextFile → FileFault → Unread
unread_at file fault = record { file = file; fault = fault }

-- the three files give no placed netlist: the work stops at a file, those before it read, and this
-- says at which and why
abbrev pub ArePlacedUnread : (Source → FileFault → Type 0) → Option FileMap → PlacedNames → Unread
    → Type 0
ArePlacedUnread stops files names =
    ReadsThen stops files (arch_source names.architecture) (unread_at Architecture) arch_value
    (λ arch. ReadsThen stops files (net_source names.netlist arch) (unread_at NetlistFile)
    (net_value arch)
    (λ netlist. StopsAt stops (place_source names.placement arch netlist)
    (unread_at PlacementFile)))

-- the three files read as the three values of this placed netlist
pub record PosesPlaced (files : Option FileMap) (names : PlacedNames) (placed : PlacedNetlist)
    : Type 0 where
  pub arch : Says files (arch_source names.architecture) arch_value placed.arch
  pub netlist : Says files (net_source names.netlist placed.arch) (net_value placed.arch)
      placed.netlist
  pub placement : Says files (place_source names.placement placed.arch placed.netlist)
      (place_value placed.netlist) placed.placement

-- its values are such as are read
pub record IsSoundPlaced (placed : PlacedNetlist) : Type 0 where
  pub arch : IsSoundArch placed.arch
  pub netlist : IsSoundNetlist placed.arch placed.netlist
  pub placement : IsSoundPlacement placed.arch placed.netlist placed.placement

-- the four files give no problem: the work stops at a file, those before it read, and this says at
-- which and why; or all four read, but do not fit, which is told of the route
abbrev pub AreUnread : (Source → FileFault → Type 0) → Option FileMap → FileNames → Unread → Type 0
AreUnread stops files names =
    ReadsThen stops files (arch_source names.architecture) (unread_at Architecture) arch_value
    (λ arch. ReadsThen stops files (net_source names.netlist arch) (unread_at NetlistFile)
    (net_value arch)
    (λ netlist. ReadsThen stops files (place_source names.placement arch netlist)
    (unread_at PlacementFile) (place_value netlist)
    (λ placement. StopsAt stops (fitted_source names.route arch netlist placement)
    (unread_at Route))))

-- the four files read as the four values of this problem, which fit together
pub record Poses (files : Option FileMap) (names : FileNames) (p : RoutingProblem) : Type 0 where
  pub arch : Says files (arch_source names.architecture) arch_value p.arch
  pub netlist : Says files (net_source names.netlist p.arch) (net_value p.arch) p.netlist
  pub placement : Says files (place_source names.placement p.arch p.netlist)
      (place_value p.netlist) p.placement
  pub route : Says files (route_source names.route) route_value p.route
  pub fits : Fits p
