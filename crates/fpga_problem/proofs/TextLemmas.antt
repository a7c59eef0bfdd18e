-- What readers answer of four texts, each with the values before it, is what the texts say.
use Rattle.std.proofs.Common.{◌≡◌, refl, subst, ◌∙◌}
use Rattle.fpga_arch.specs.Codes.{arch_faults}
use Rattle.fpga_arch.specs.Value.{arch_value}
use Rattle.fpga_net.specs.Codes.{net_faults}
use Rattle.fpga_net.specs.Value.{net_value}
use Rattle.fpga_place.specs.Codes.{place_faults}
use Rattle.fpga_place.specs.Value.{place_value}
use Rattle.fpga_problem.specs.Refused.{AreFaultlessBefore, IsRefused}
use Rattle.fpga_problem.specs.Texts.{AreFaultless, faults_of, netlist_said, placement_said, problem_said}
use Rattle.fpga_problem.specs.declared.text_file.TextFile.TheVariants.{Architecture, Netlist as NetlistFile, Placement as PlacementFile, Route as RouteFile}
use Rattle.fpga_route.specs.Codes.{route_faults}
use Rattle.fpga_route.specs.Value.{route_value}
use Rattle.fpga_text.proofs.FaultLemmas.{IsPast, past-nothing, past-part, refusal-part, refusal-past}
use Rattle.fpga_text.specs.FirstFault.{Faults, IsFaultless, IsRefusal}
use Rattle.fpga_text.specs.declared.fault.TextFault.{TextFault}
use Rattle.fpga_types.specs.Fits.{problem_faults}
use Rattle.fpga_types.specs.Problem.{RoutingProblem, problem_of}
use Rattle.fpga_types.specs.Texts.{Texts}
use Rattle.fpga_types.specs.declared.arch.Arch.{Arch}
use Rattle.fpga_types.specs.declared.netlist.Netlist.{Netlist}
use Rattle.fpga_types.specs.declared.placement.Placement.{Placement}
use Rattle.fpga_types.specs.declared.route.RouteText.{RouteText}

-- where neither the first three texts nor the route with the fit have a fault, none has one
pub all-faultless : (texts : Texts) → AreFaultlessBefore texts RouteFile
    → IsFaultless (faults_of texts RouteFile) → AreFaultless texts
all-faultless texts before route Architecture = before.0
all-faultless texts before route NetlistFile = before.1
all-faultless texts before route PlacementFile = before.2
all-faultless texts before route RouteFile = route

module _ (texts : Texts) (arch : Arch)
    (first : IsFaultless (arch_faults texts.architecture) × (arch ≡ arch_value texts.architecture))
  where
    -- the netlist is refused
    pub netlist-refused : (fault : TextFault) → IsRefusal (net_faults arch texts.netlist) fault
        → IsRefused texts (record { file = NetlistFile; fault = fault })
    netlist-refused fault refused = record {
      before = first.0;
      first = subst (λ (a : Arch). IsRefusal (net_faults a texts.netlist) fault) first.1 refused;
    }

    module _ (netlist : Netlist) (second : IsFaultless (net_faults arch texts.netlist)
        × (netlist ≡ net_value arch texts.netlist)) where
      -- the netlist is what the texts say
      pub netlist-read : IsFaultless (faults_of texts NetlistFile) × (netlist ≡ netlist_said texts)
      netlist-read =
          subst (λ (a : Arch). IsFaultless (net_faults a texts.netlist)
          × (netlist ≡ net_value a texts.netlist)) first.1 second

      -- the faults of the placement for what was read are those for what the texts say
      pub placement-faults : place_faults arch netlist texts.placement
          ≡ faults_of texts PlacementFile
      placement-faults = rw (first.1, netlist-read.1) refl

      -- the placement is refused
      pub placement-refused : (fault : TextFault)
          → IsRefusal (place_faults arch netlist texts.placement) fault
          → IsRefused texts (record { file = PlacementFile; fault = fault })
      placement-refused fault refused = record {
        before = (first.0, netlist-read.0);
        first = subst (λ (f : Faults). IsRefusal f fault) placement-faults refused;
      }

      module _ (placement : Placement)
          (third : IsFaultless (place_faults arch netlist texts.placement)
          × (placement ≡ place_value netlist texts.placement)) where
        -- the placement is what the texts say
        pub placement-read : placement ≡ placement_said texts
        placement-read = third.1 ∙ rw netlist-read.1 refl

        -- none of the three has a fault
        pub before-route : AreFaultlessBefore texts RouteFile
        before-route = (
          first.0,
          netlist-read.0,
          subst (λ (f : Faults). IsFaultless f) placement-faults third.0,
        )

        -- the route is refused
        pub route-refused : (fault : TextFault) → IsRefusal (route_faults texts.route) fault
            → IsRefused texts (record { file = RouteFile; fault = fault })
        route-refused fault refused = record {
          before = before-route;
          first = refusal-part (route_faults texts.route) (problem_faults (problem_said texts))
              fault (past-nothing _) refused;
        }

        module _ (route : RouteText) (fourth : IsFaultless (route_faults texts.route)
            × (route ≡ route_value texts.route)) where
          -- the four values make the problem that the texts say
          pub problem-read : problem_of arch netlist placement route ≡ problem_said texts
          problem-read = rw (first.1, netlist-read.1, placement-read, fourth.1) refl

          -- behind the route's own faults, of which there is none, stand those of the fit
          pub past-route : IsPast (faults_of texts RouteFile) (problem_faults (problem_said texts))
          past-route =
              past-part (route_faults texts.route) (problem_faults (problem_said texts))
              (past-nothing _) fourth.0

          -- the values do not fit
          pub fit-refused : (fault : TextFault)
              → IsRefusal (problem_faults (problem_of arch netlist placement route)) fault
              → IsRefused texts (record { file = RouteFile; fault = fault })
          fit-refused fault refused = record {
            before = before-route;
            first = refusal-past fault past-route
                (subst (λ (p : RoutingProblem). IsRefusal (problem_faults p) fault) problem-read
                refused);
          }

          -- the values fit
          pub all-read : (problem : RoutingProblem)
              → IsFaultless (problem_faults (problem_of arch netlist placement route))
              × (problem ≡ problem_of arch netlist placement route)
              → AreFaultless texts × (problem ≡ problem_said texts)
          all-read problem fitted = (
            all-faultless texts before-route (past-route.same
                ∙ subst (λ (p : RoutingProblem). IsFaultless (problem_faults p)) problem-read
                fitted.0),
            fitted.1 ∙ problem-read,
          )
