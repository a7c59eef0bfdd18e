use Rattle.std.proofs.Common.{◌≡◌, ◌∙◌, ap, get_or, length, refl, sym, List}
use Rattle.std.proofs.lemmas.Option.{slice_get_read}
use Rattle.fpga_types.specs.Fits.{agree}
use Rattle.fpga_types.specs.declared.netlist.Net.{Net}
use Rattle.fpga_types.specs.declared.route.RouteNet.{RouteNet}
use Rattle.fpga_bounds.specs.NetTable.{number_named}
use Rattle.fpga_bounds.proofs.HeadLemmas.{known-as, not-known}
use Rattle.fpga_bounds.proofs.head_check.known_number.Goals as goal

pub returns-in_default-clause-known : goal.returns-in_default-clause-known
returns-in_default-clause-known c =
    let named : c.as_slice.result.now ≡ c.args.net.now.name =
    c.as_slice.ensures ∙ ap (λ (n : RouteNet). n.name) c.net.view_is in
    sym (not-known c.args.names.now c.args.net.now.name c.args.net.now.global
    (ap (number_named c.args.names.now) (sym named) ∙ sym c.in_default.ensures.number))

pub returns-then-not-agree-clause-known : goal.returns-then-not-agree-clause-known
returns-then-not-agree-clause-known c =
    let named : c.as_slice.result.now ≡ c.args.net.now.name =
    c.as_slice.ensures ∙ ap (λ (n : RouteNet). n.name) c.net.view_is in
    let net : Net = c.index-as_slice-number.result in
    sym c.if-not-agree.true ∙ c.agree.ensures
    ∙ ap (λ (n : RouteNet). agree net.global n.global) c.net.view_is
    ∙ sym (known-as c.args.names.now c.args.net.now.name c.args.net.now.global c.in-Some.number net
    (ap (number_named c.args.names.now) (sym named) ∙ sym c.in-Some.ensures.number)
    (slice_get_read c.args.names.now (length c.args.names.now) c.in-Some.number net refl
    c.in-Some.ensures.within (c.index-as_slice-number.is
    ∙ ap (λ (nets : List Net). get_or nets c.in-Some.number net) c.as_slice-2.ensures)))

pub returns-clause-known : goal.returns-clause-known
returns-clause-known c =
    let named : c.as_slice.result.now ≡ c.args.net.now.name =
    c.as_slice.ensures ∙ ap (λ (n : RouteNet). n.name) c.net.view_is in
    let net : Net = c.index-as_slice-number.result in
    sym c.if-not-agree.false ∙ c.agree.ensures
    ∙ ap (λ (n : RouteNet). agree net.global n.global) c.net.view_is
    ∙ sym (known-as c.args.names.now c.args.net.now.name c.args.net.now.global c.in-Some.number net
    (ap (number_named c.args.names.now) (sym named) ∙ sym c.in-Some.ensures.number)
    (slice_get_read c.args.names.now (length c.args.names.now) c.in-Some.number net refl
    c.in-Some.ensures.within (c.index-as_slice-number.is
    ∙ ap (λ (nets : List Net). get_or nets c.in-Some.number net) c.as_slice-2.ensures)))
