-- What is asked of the Net line of a net, and of the nets once all Net lines are read.
use Rattle.std.specs.Prelude.{◌≡◌, ℕ, ◌<◌, ◌==◌, Bool, false, not, ◌&&◌, List, [], ◌∷◌, ◌++◌, length, find, Option, None, Some, if◌then◌else◌}
use Rattle.std.specs.List.{list_all}
use Rattle.std.specs.Option.{option_map_or}
use Rattle.fpga_text.specs.Bytes.{Bytes}
use Rattle.fpga_text.specs.FirstFault.{Faults}
use Rattle.fpga_text.specs.declared.fault.TextFault.{TextFault}
use Rattle.fpga_text.specs.declared.fault.TextFault.TheVariants.{Bad}
use Rattle.fpga_types.specs.Fits.{agree, end_fault, has_net, has_sink, net_line_fault}
use Rattle.fpga_types.specs.FitCauses.{code_of}
use Rattle.fpga_types.specs.Problem.{RoutingProblem}
use Rattle.fpga_types.specs.Terminals.{is_net_named}
use Rattle.fpga_types.specs.declared.fit_cause.FitCause.TheVariants.{SinkNotOnce, OutOfOrder}
use Rattle.fpga_types.specs.declared.netlist.Net.{Net}
use Rattle.fpga_types.specs.declared.problem.Terminal.{Terminal}
use Rattle.fpga_types.specs.declared.route.RouteNet.{RouteNet}
use Rattle.fpga_bounds.specs.NetFit.{nets_faults}
use Rattle.fpga_bounds.specs.NetTable.{number_named}

-- these nets have one with this name, and it is global or not as this says
abbrev pub is_known_in : List Net → Bytes → (global : Bool) → Bool
is_known_in nets name global =
    option_map_or (λ (net : Net). agree net.global global) (find (is_net_named name) nets) false

-- the number is that of the net with this name
pub record IsKnownAs (nets : List Net) (name : Bytes) (number : ℕ) : Type 0 where
  pub named : number_named nets name ≡ Some number
  pub within : number < length nets

-- why the Net line of a net with these sinks is refused, if it is the net's last line
abbrev pub bare_fault : RouteNet → List Terminal → Option TextFault
bare_fault net sinks = if not net.global && length net.elems == 0 then Some (Bad net.line
    (code_of (if not (list_all (has_sink []) sinks) then SinkNotOnce else OutOfOrder))) else None

-- the net is not global, and none of these nets of the route has its name
abbrev pub lacks_line : List RouteNet → Net → Bool
lacks_line lines net = not net.global && not (has_net lines net.name)

-- the faults of a problem behind its array line
abbrev pub line_faults : RoutingProblem → Faults
line_faults p = nets_faults (net_line_fault p) p.route.nets 0 ++ end_fault p ∷ []
