use Rattle.std.proofs.Common.{◌≡◌, ℕ, List, [], ◌∷◌, ◌++◌, Some, ap, ◌∙◌, subst}
use Rattle.std.specs.Prelude.{if◌then◌else◌, slice_get}
use Rattle.list_laws.proofs.Places.{get-there}
use Rattle.fpga_types.specs.Problem.{PlacedNetlist}
use Rattle.fpga_types.specs.declared.netlist.Net.{Net}
use Rattle.route_bound.specs.Crossing.{crosses}
use Rattle.route_bound.specs.Ranges.{corners_of}
use Rattle.route_bound.proofs.AcrossLemmas.{crossing-more}
use Rattle.route_bound.proofs.placed.PlacedNets.crossing.Goals as goal

pub loop-number-preserved : goal.loop-number-preserved
loop-number-preserved c =
    let placed : PlacedNetlist = c.args.self.now in
    let net : Net = c.net-item.result in
    let number : ℕ = c.loop-number.number in
    let nets : List Net = c.as_slice-net-items.result.now in
    let same : nets ≡ placed.netlist.nets =
    c.as_slice-net-items.ensures ∙ ap (λ (p : PlacedNetlist). p.netlist.nets) c.self.view_is in
    let at : slice_get nets number ≡ Some net =
    get-there nets number net net c.loop-number-test.true c.net-item.is in
    let here : slice_get placed.netlist.nets number ≡ Some net =
    subst (λ (ns : List Net). slice_get ns number ≡ Some net) same at in
    c.in_ok-add_crossing.ensures
    ∙ ap (λ (ns : List ℕ). ns
    ++ (if crosses placed (corners_of c.args.range) net then number ∷ [] else []))
    c.loop-number.invariant
    ∙ crossing-more placed (corners_of c.args.range) number net here
