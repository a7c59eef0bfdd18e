use Rattle.std.proofs.Common.{◌≡◌, ◌∙◌, ap, get_or, length, refl, subst, List}
use Rattle.std.specs.Prelude.{find}
use Rattle.std.proofs.lemmas.Option.{slice_get_read}
use Rattle.fpga_types.specs.Problem.{RoutingProblem}
use Rattle.fpga_types.specs.Terminals.{is_net_named}
use Rattle.fpga_types.specs.declared.netlist.Net.{Net}
use Rattle.fpga_types.specs.declared.route.RouteNet.{RouteNet}
use Rattle.fpga_bounds.specs.Heads.{IsKnownAs}
use Rattle.fpga_bounds.proofs.HeadLemmas.{net-lines-more}
use Rattle.fpga_bounds.proofs.NameLemmas.{named-at}
use Rattle.fpga_bounds.proofs.fit_rules.FitRulesLineRules.check_head.Goals as goal

pub of-requires : goal.of-requires
of-requires c =
    let nets : List Net = c.args.self.now.netlist.nets in
    let net : Net = c.index-as_slice-number.result in
    let name : c.as_slice.result.now ≡ c.args.net.now.name =
    c.as_slice.ensures ∙ ap (λ (n : RouteNet). n.name) c.net.view_is in
    let named = subst (λ (ns : List Net). IsKnownAs ns c.args.net.now.name c.in-Some.number)
    c.names.ensures c.in-Some.ensures.number in
    ap (λ (p : RoutingProblem). find (is_net_named c.as_slice.result.now) p.netlist.nets)
    c.design.ensures
    ∙ (λ i. find (is_net_named (name i)) nets)
    ∙ named-at nets c.args.net.now.name c.in-Some.number named.named
    net (slice_get_read nets (length nets) c.in-Some.number net refl named.within
    (c.index-as_slice-number.is
    ∙ ap (λ (ns : List Net). get_or ns c.in-Some.number net)
    (c.as_slice-2.ensures ∙ c.names-2.ensures)))

pub returns-clause-marked : goal.returns-clause-marked
returns-clause-marked c = λ earlier has.
    let named = subst (λ (ns : List Net). IsKnownAs ns c.args.net.now.name c.in-Some.number)
    c.names.ensures c.in-Some.ensures.number in
    net-lines-more c.args.self.now.netlist.nets c.args.marks.now earlier c.args.net.now
    c.in-Some.number has named.named
