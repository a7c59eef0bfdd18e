-- The values that the readers give for one another may be fitted.
use Rattle.std.proofs.Common.{◌≡◌, ℕ, ◌∙◌, length, get_or, refl, sym, Some}
use Rattle.std.proofs.Math.ListN.{get_or-map}
use Rattle.std.proofs.lemmas.List.{length-map}
use Rattle.std.proofs.lemmas.Option.{slice_get_within}
use Rattle.list_laws.proofs.Places.{get-there}
use Rattle.fpga_types.specs.Given.{IsGiven, IsGivenNetlist, IsPinOf, pin_count}
use Rattle.fpga_types.specs.Placements.{HaveOwnNames, IsSoundPlacement}
use Rattle.fpga_types.specs.Problem.{problem_of}
use Rattle.fpga_types.specs.Sound.{IsSound}
use Rattle.fpga_types.specs.declared.arch.Arch.{Arch}
use Rattle.fpga_types.specs.declared.netlist.Block.{Block}
use Rattle.fpga_types.specs.declared.netlist.BlockKind.{BlockKind}
use Rattle.fpga_types.specs.declared.netlist.BlockKind.TheVariants.{Input, Output, Logic}
use Rattle.fpga_types.specs.declared.netlist.Net.{Net}
use Rattle.fpga_types.specs.declared.netlist.Netlist.{Netlist}
use Rattle.fpga_types.specs.declared.netlist.PinRef.{PinRef}
use Rattle.fpga_types.specs.declared.placement.Placement.{Placement}
use Rattle.fpga_types.specs.declared.route.RouteText.{RouteText}
use Rattle.fpga_types.proofs.FitsLemmas.{placement-given}
use Rattle.fpga_net.specs.Sound.{IsOn, IsSoundNetlist}
use Rattle.fpga_net.specs.Uses.{pins_of}

count : (arch : Arch) (kind : BlockKind) → length (pins_of arch kind) ≡ pin_count arch kind
count arch Logic = refl
count arch Input = refl
count arch Output = refl

module _ (arch : Arch) (netlist : Netlist) (sound : IsSoundNetlist arch netlist) where
  pin-there : (net : ℕ) (at : PinRef) → IsOn netlist.blocks net at → IsPinOf netlist at
  pin-there net at on =
      (on.0, on.1, slice_get_within on.0.pins at.pin (Some net) on.2)

  pub netlist-given : IsGivenNetlist arch netlist
  netlist-given = record {
    blocks = λ k d below.
        let block = sound.blocks k d below in
        record {
          pins = block.pins ∙ count arch (get_or netlist.blocks k d).kind;
          nets = block.nets;
        };
    nets = λ k d below.
        let net : Net = get_or netlist.nets k d in
        let at = sound.nets k net (get-there netlist.nets k net d below refl) in
        record {
          driver = λ pin is. pin-there k pin (at.driver pin is);
          sinks = λ j e within. pin-there k (get_or net.sinks j e) (at.sinks j e within);
        };
  }

  own-names : HaveOwnNames netlist.blocks
  own-names i j d below within same =
      sound.block_names i j d.name below (rw length-map within)
      (get_or-map (λ (b : Block). b.name) netlist.blocks i d ∙ same
      ∙ sym (get_or-map (λ (b : Block). b.name) netlist.blocks j d))

  -- with a placement and a route that were read
  pub readers-give : (placement : Placement) (route : RouteText)
      → IsSoundPlacement arch netlist placement → IsSound route
      → IsGiven (problem_of arch netlist placement route)
  readers-give placement route placed routed = record {
    netlist = netlist-given;
    placement = placement-given arch netlist placement placed own-names;
    route = routed;
  }
