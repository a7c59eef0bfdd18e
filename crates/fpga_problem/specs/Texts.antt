-- What four texts say together, and the faults of each.
use Rattle.std.specs.Prelude.{◌++◌}
use Rattle.fpga_arch.specs.Codes.{arch_faults}
use Rattle.fpga_arch.specs.Value.{arch_value}
use Rattle.fpga_net.specs.Codes.{net_faults}
use Rattle.fpga_net.specs.Value.{net_value}
use Rattle.fpga_place.specs.Codes.{place_faults}
use Rattle.fpga_place.specs.Value.{place_value}
use Rattle.fpga_problem.specs.declared.text_file.TextFile.{TextFile}
use Rattle.fpga_problem.specs.declared.text_file.TextFile.TheVariants.{Architecture, Netlist as NetlistFile, Placement as PlacementFile, Route}
use Rattle.fpga_route.specs.Codes.{route_faults}
use Rattle.fpga_route.specs.Value.{route_value}
use Rattle.fpga_text.specs.FirstFault.{Faults, IsFaultless}
use Rattle.fpga_types.specs.Fits.{problem_faults}
use Rattle.fpga_types.specs.Problem.{RoutingProblem, problem_of}
use Rattle.fpga_types.specs.Texts.{Texts}
use Rattle.fpga_types.specs.declared.arch.Arch.{Arch}
use Rattle.fpga_types.specs.declared.netlist.Netlist.{Netlist}
use Rattle.fpga_types.specs.declared.placement.Placement.{Placement}
use Rattle.fpga_types.specs.declared.route.RouteText.{RouteText}

-- the values that the texts say, each for those before it
abbrev pub arch_said : Texts → Arch
arch_said texts = arch_value texts.architecture

abbrev pub netlist_said : Texts → Netlist
netlist_said texts = net_value (arch_said texts) texts.netlist

abbrev pub placement_said : Texts → Placement
placement_said texts = place_value (netlist_said texts) texts.placement

abbrev pub route_said : Texts → RouteText
route_said texts = route_value texts.route

abbrev pub problem_said : Texts → RoutingProblem
problem_said texts =
    problem_of (arch_said texts) (netlist_said texts) (placement_said texts) (route_said texts)

-- the faults of a text; those of the fit are of the route, behind its own
abbrev pub faults_of : Texts → TextFile → Faults
faults_of texts Architecture = arch_faults texts.architecture
faults_of texts NetlistFile = net_faults (arch_said texts) texts.netlist
faults_of texts PlacementFile =
    place_faults (arch_said texts) (netlist_said texts) texts.placement
faults_of texts Route = route_faults texts.route ++ problem_faults (problem_said texts)

-- no text has a fault, and they fit
abbrev pub AreFaultless : Texts → Type 0
AreFaultless texts = (file : TextFile) → IsFaultless (faults_of texts file)
