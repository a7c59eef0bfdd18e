-- Four files pose one problem, or are kept from it in one way; so do three of them a placed netlist.
use Rattle.std.proofs.Common.{◌≡◌, ◌∙◌, ◌⊎◌, ◌++◌, Option, Some, refl, sym, ap, subst}
use Rattle.std.specs.Option.{option_or}
use Rattle.desk_io.specs.DeskState.{DeskState}
use Rattle.desk_io.specs.Files.{Bytes, FileMap, HasRisen}
use Rattle.fpga_net.specs.Value.{net_value}
use Rattle.fpga_place.specs.Value.{place_value}
use Rattle.fpga_problem.specs.Files.{ArePlacedUnread, AreUnread, FileNames, PlacedNames, Poses, PosesPlaced, fitted_source, net_source, place_source, placed_names_of, unread_at}
use Rattle.fpga_problem.specs.Sources.{HasFault, IsHalted, IsStopped, Reads, Says, Source, Stops, StopsAt, route_source}
use Rattle.fpga_problem.specs.declared.unread.FileFault.{FileFault}
use Rattle.fpga_problem.specs.declared.text_file.TextFile.TheVariants.{Route}
use Rattle.fpga_problem.specs.declared.unread.FileFault.TheVariants.{Desk, TooLong, Text}
use Rattle.fpga_problem.specs.declared.unread.Unread.{Unread}
use Rattle.fpga_problem.proofs.SourceLemmas.{calm-reads, calm-stops, halted-says, one-value, reads-alike, reads-on, stops-alike}
use Rattle.fpga_route.specs.Codes.{route_faults}
use Rattle.fpga_route.specs.Value.{route_value}
use Rattle.fpga_text.proofs.FaultLemmas.{first_fault-append}
use Rattle.fpga_text.specs.FirstFault.{IsFaultless, IsFirst, IsRefusal, first_fault}
use Rattle.fpga_text.specs.declared.fault.TextFault.{TextFault}
use Rattle.fpga_text.specs.declared.fault.TextFault.TheVariants.{Bad, Limit, Memory}
use Rattle.fpga_types.specs.Fits.{problem_faults}
use Rattle.fpga_types.specs.Problem.{PlacedNetlist, RoutingProblem, placed_netlist_of, problem_of}
use Rattle.fpga_types.specs.declared.arch.Arch.{Arch}
use Rattle.fpga_types.specs.declared.netlist.Netlist.{Netlist}
use Rattle.fpga_types.specs.declared.placement.Placement.{Placement}
use Rattle.fpga_types.specs.declared.route.RouteText.{RouteText}

-- ---- the route, and whether it fits

module _ (files : Option FileMap) (name : Bytes) (arch : Arch) (netlist : Netlist)
    (placement : Placement) where
  -- the first fault of a route is that of the route with the fit
  fault-fits : (fault : TextFault) → HasFault files (route_source name) fault →
      HasFault files (fitted_source name arch netlist placement) fault
  fault-fits fault h = record {
    text = h.text;
    there = h.there;
    short = h.short;
    first = first_fault-append (route_faults h.text)
        (problem_faults (problem_of arch netlist placement (route_value h.text)))
        ∙ ap (λ f. option_or f (first_fault (problem_faults
        (problem_of arch netlist placement (route_value h.text))))) h.first;
  }

  module _ (route : RouteText) (says : Says files (route_source name) route_value route) where
    -- behind a route without a fault the first is that of the fit
    past-route : first_fault (route_faults says.text
        ++ problem_faults (problem_of arch netlist placement (route_value says.text)))
        ≡ first_fault (problem_faults (problem_of arch netlist placement route))
    past-route =
        subst (λ (r : RouteText). first_fault (route_faults says.text
        ++ problem_faults (problem_of arch netlist placement r))
        ≡ first_fault (problem_faults (problem_of arch netlist placement route))) says.says
        (first_fault-append (route_faults says.text)
        (problem_faults (problem_of arch netlist placement route))
        ∙ ap (λ f. option_or f (first_fault (problem_faults
        (problem_of arch netlist placement route)))) says.faultless)

    fit-fault : (fault : TextFault) →
        IsFirst (problem_faults (problem_of arch netlist placement route)) fault →
        HasFault files (fitted_source name arch netlist placement) fault
    fit-fault fault first = record {
      text = says.text;
      there = says.there;
      short = says.short;
      first = past-route ∙ first;
    }

    -- a route that fits says it as one that is to fit
    fitted-says : IsFaultless (problem_faults (problem_of arch netlist placement route)) →
        Says files (fitted_source name arch netlist placement) route_value route
    fitted-says fits = record {
      text = says.text;
      there = says.there;
      short = says.short;
      faultless = past-route ∙ fits;
      says = says.says;
    }

module _ (before now : DeskState) (name : Bytes) (arch : Arch) (netlist : Netlist)
    (placement : Placement) where
  -- a route that was not read stops the route that is to fit
  pub route-stops : (fault : FileFault) → IsStopped before now (route_source name) fault →
      IsStopped before now (fitted_source name arch netlist placement) fault
  route-stops Desk h = h
  route-stops TooLong h = h
  route-stops (Text (Bad line code)) h =
      fault-fits before.files name arch netlist placement (Bad line code) h
  route-stops (Text (Limit code count)) h =
      fault-fits before.files name arch netlist placement (Limit code count) h
  route-stops (Text Memory) h = tt

  -- so does one that does not fit
  pub fit-stops : (route : RouteText) → Says before.files (route_source name) route_value route →
      (fault : TextFault) →
      IsRefusal (problem_faults (problem_of arch netlist placement route)) fault →
      IsStopped before now (fitted_source name arch netlist placement) (Text fault)
  fit-stops route says (Bad line code) h =
      fit-fault before.files name arch netlist placement route says (Bad line code) h
  fit-stops route says (Limit code count) h =
      fit-fault before.files name arch netlist placement route says (Limit code count) h
  fit-stops route says Memory h = tt

-- ---- three files

-- the placed netlist that three values make
abbrev placed_of : Arch → Netlist → Placement → PlacedNetlist
placed_of arch netlist placement =
    record { arch = arch; netlist = netlist; placement = placement }

module _ (stops : Source → FileFault → Type 0) (files : Option FileMap) (names : FileNames) where
  -- where three files give no placed netlist, four with these give no problem
  pub placed-unread : (a : Unread) → ArePlacedUnread stops files (placed_names_of names) a →
      AreUnread stops files names a
  placed-unread a (Stops h) = Stops h
  placed-unread a (Reads arch says (Stops h)) = Reads arch says (Stops h)
  placed-unread a (Reads arch says (Reads netlist reads h)) =
      Reads arch says (Reads netlist reads (Stops h))

  -- nor do they where the fourth stops the work behind a placed netlist
  pub route-unread : (placed : PlacedNetlist) (a : Unread) →
      PosesPlaced files (placed_names_of names) placed →
      StopsAt stops (fitted_source names.route placed.arch placed.netlist placed.placement)
      (unread_at Route) a → AreUnread stops files names a
  route-unread placed a poses h =
      Reads placed.arch poses.arch (Reads placed.netlist poses.netlist
      (Reads placed.placement poses.placement h))

-- the first three files of a problem pose its placed netlist
pub placed-of-problem : (files : Option FileMap) (names : FileNames) (p : RoutingProblem) →
    Poses files names p → PosesPlaced files (placed_names_of names) (placed_netlist_of p)
placed-of-problem files names p poses =
    record { arch = poses.arch; netlist = poses.netlist; placement = poses.placement }

module _ (files : FileMap) (names : PlacedNames) where
  -- three files are kept from a placed netlist in one way
  pub one-placed-lack : (a b : Unread) →
      ArePlacedUnread (IsHalted (Some files)) (Some files) names a →
      ArePlacedUnread (IsHalted (Some files)) (Some files) names b → a ≡ b
  one-placed-lack a b h g =
      reads-alike files h g (λ arch h g.
      reads-alike files h g (λ netlist. stops-alike files))

  -- three files that pose one are not kept from it
  pub placed-lack-poses : (placed : PlacedNetlist) (a : Unread) →
      ArePlacedUnread (IsHalted (Some files)) (Some files) names a →
      PosesPlaced (Some files) names placed → ⊥
  placed-lack-poses placed a h poses =
      let unread = reads-on files poses.netlist (reads-on files poses.arch h) in
      halted-says files unread.fault unread.because poses.placement

  -- three files pose one placed netlist
  pub one-placed : (p q : PlacedNetlist) → PosesPlaced (Some files) names p →
      PosesPlaced (Some files) names q → p ≡ q
  one-placed p q h g =
      let arch : q.arch ≡ p.arch = one-value files g.arch h.arch in
      let moved = subst (λ (a : Arch).
      Says (Some files) (net_source names.netlist a) (net_value a) q.netlist) arch g.netlist in
      let netlist : q.netlist ≡ p.netlist = one-value files moved h.netlist in
      let placed = subst (λ (n : Netlist).
      Says (Some files) (place_source names.placement p.arch n) (place_value n) q.placement)
      netlist (subst (λ (a : Arch). Says (Some files)
      (place_source names.placement a q.netlist) (place_value q.netlist) q.placement) arch
      g.placement) in
      let placement : q.placement ≡ p.placement = one-value files placed h.placement in
      λ i. placed_of (sym arch i) (sym netlist i) (sym placement i)

-- ---- four files

module _ (files : FileMap) (names : FileNames) where
  -- four files are kept from a problem in one way
  pub one-lack : (a b : Unread) → AreUnread (IsHalted (Some files)) (Some files) names a →
      AreUnread (IsHalted (Some files)) (Some files) names b → a ≡ b
  one-lack a b h g =
      reads-alike files h g (λ arch h g. reads-alike files h g (λ netlist h g.
      reads-alike files h g (λ placement. stops-alike files)))

  -- four files that pose a problem are not kept from it
  pub lack-poses : (p : RoutingProblem) (a : Unread) →
      AreUnread (IsHalted (Some files)) (Some files) names a → Poses (Some files) names p → ⊥
  lack-poses p a h poses =
      let unfit = reads-on files poses.placement
      (reads-on files poses.netlist (reads-on files poses.arch h)) in
      halted-says files unfit.fault unfit.because
      (fitted-says (Some files) names.route p.arch p.netlist p.placement p.route poses.route
      poses.fits)

  -- four files pose one problem
  pub one-problem : (p q : RoutingProblem) → Poses (Some files) names p →
      Poses (Some files) names q → p ≡ q
  one-problem p q h g =
      let placed = one-placed files (placed_names_of names) (placed_netlist_of p)
      (placed_netlist_of q) (placed-of-problem (Some files) names p h)
      (placed-of-problem (Some files) names q g) in
      let route : p.route ≡ q.route = one-value files h.route g.route in
      λ i. problem_of (placed i).arch (placed i).netlist (placed i).placement (route i)

-- memory ran out
abbrev pub IsSpent : Unread → Type 0
IsSpent unread = unread.fault ≡ Text Memory

-- where the desk has not failed, four files that give no problem are kept from it by what they hold
pub calm-lack : (desk now : DeskState) (names : FileNames) (a : Unread) →
    ¬ HasRisen desk.faults now.faults →
    AreUnread (IsStopped desk now) desk.files names a →
    AreUnread (IsHalted desk.files) desk.files names a ⊎ IsSpent a
calm-lack desk now names a calm =
    calm-reads desk now IsSpent calm refl (λ arch.
    calm-reads desk now IsSpent calm refl (λ netlist.
    calm-reads desk now IsSpent calm refl (λ placement. calm-stops desk now IsSpent calm refl)))

-- so of three files
pub calm-placed-lack : (desk now : DeskState) (names : PlacedNames) (a : Unread) →
    ¬ HasRisen desk.faults now.faults →
    ArePlacedUnread (IsStopped desk now) desk.files names a →
    ArePlacedUnread (IsHalted desk.files) desk.files names a ⊎ IsSpent a
calm-placed-lack desk now names a calm =
    calm-reads desk now IsSpent calm refl (λ arch.
    calm-reads desk now IsSpent calm refl (λ netlist. calm-stops desk now IsSpent calm refl))
