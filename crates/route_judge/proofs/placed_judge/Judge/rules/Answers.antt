use Rattle.std.proofs.Common.{◌≡◌, ◌∙◌, ap, get_or, length, refl, List}
use Rattle.std.specs.Prelude.{find}
use Rattle.std.proofs.lemmas.Option.{slice_get_read}
use Rattle.fpga_bounds.proofs.NameLemmas.{named-at}
use Rattle.fpga_types.specs.Terminals.{is_net_named}
use Rattle.fpga_types.specs.declared.netlist.Net.{Net}
use Rattle.fpga_types.specs.declared.route.RouteNet.{RouteNet}
use Rattle.route_judge.specs.Judge.{PlacedFile}
use Rattle.route_judge.proofs.placed_judge.Judge.rules.Goals as goal

pub of-requires : goal.of-requires
of-requires c =
    let nets : List Net = c.args.self.now.problem.netlist.nets in
    let net : Net = c.index-as_slice-number.result in
    let name : c.as_slice-name.result.now ≡ c.args.net.now.name =
    c.as_slice-name.ensures ∙ ap (λ (n : RouteNet). n.name) c.net.view_is in
    let same : c.self.inside.design.now.netlist.nets ≡ nets =
    ap (λ (j : PlacedFile). j.problem.netlist.nets) c.self.view_is in
    let names : c.as_slice.result.now ≡ nets =
    c.as_slice.ensures ∙ c.self.invariant.names_are ∙ same in
    (λ i. find (is_net_named (name i)) (same i))
    ∙ named-at nets c.args.net.now.name c.args.number c.requires.named net
    (slice_get_read nets (length nets) c.args.number net refl c.requires.within
    (c.index-as_slice-number.is
    ∙ ap (λ (ns : List Net). get_or ns c.args.number net) names))
