use Rattle.std.proofs.Common.{◌≡◌, ℕ, List, Some, ap, ◌∙◌, subst, arith, length}
use Rattle.std.specs.Prelude.{slice_get}
use Rattle.list_laws.proofs.Places.{get-there}
use Rattle.fpga_types.specs.Problem.{PlacedNetlist}
use Rattle.fpga_types.specs.declared.netlist.Net.{Net}
use Rattle.route_bound.proofs.LineLemmas.{among-few, among-more}
use Rattle.route_bound.proofs.placed.PlacedNets.count_nets.Goals as goal

pub add_net-requires-clause-few : goal.add_net-requires-clause-few
add_net-requires-clause-few c =
    let same = c.as_slice-net-items.ensures
    ∙ ap (λ (p : PlacedNetlist). p.netlist.nets) c.self.view_is in
    λ line there. omega (
      arith,
      c.loop-net.invariant.counted line there,
      among-few c.args.self.now c.args.kind c.loop-net.net-index line,
      c.loop-net-test.true,
      ap (λ (ns : List Net). length ns) same,
      c.requires.few,
    )

pub loop-net-preserved : goal.loop-net-preserved
loop-net-preserved c =
    let placed : PlacedNetlist = c.args.self.now in
    let net : Net = c.net-item.result in
    let number : ℕ = c.loop-net.net-index in
    let nets : List Net = c.as_slice-net-items.result.now in
    let same : nets ≡ placed.netlist.nets =
    c.as_slice-net-items.ensures ∙ ap (λ (p : PlacedNetlist). p.netlist.nets) c.self.view_is in
    let at : slice_get nets number ≡ Some net =
    get-there nets number net net c.loop-net-test.true c.net-item.is in
    let here : slice_get placed.netlist.nets number ≡ Some net =
    subst (λ (ns : List Net). slice_get ns number ≡ Some net) same at in
    record {
      size = c.add_net.ensures.size ∙ c.loop-net.invariant.size;
      counted = λ line there. omega (
        arith,
        c.add_net.ensures.added line there,
        c.loop-net.invariant.counted line there,
        among-more placed c.args.kind number line net here,
      );
    }
