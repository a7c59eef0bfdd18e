use Rattle.std.proofs.Common.{◌≡◌, ◌∙◌, true, false, ap, rules, sym}
use Rattle.std.specs.Prelude.{◌&&◌, not}
use Rattle.fpga_types.specs.Fits.{has_net}
use Rattle.fpga_types.specs.declared.netlist.Net.{Net}
use Rattle.route_verify.specs.Traces.{trace_number}
use Rattle.route_verify.proofs.GatherLemmas.{traced, untraced}
use Rattle.route_verify.proofs.gathering.is_missing.Goals as goal

pub returns-in_default : goal.returns-in_default
returns-in_default c =
    let named : c.as_slice.result.now ≡ c.args.net.now.name =
    c.as_slice.ensures ∙ ap (λ (n : Net). n.name) c.net.view_is in
    let ordinary : c.args.net.now.global ≡ false = search rules in
    let none : has_net c.args.heads.now c.args.net.now.name ≡ false =
    untraced c.args.heads.now c.args.net.now.name
    (c.in_default.ensures.number ∙ (λ i. trace_number c.args.heads.now (named i))) in
    λ i. not (sym ordinary i) && not (sym none i)

pub returns : goal.returns
returns c =
    let named : c.as_slice.result.now ≡ c.args.net.now.name =
    c.as_slice.ensures ∙ ap (λ (n : Net). n.name) c.net.view_is in
    let ordinary : c.args.net.now.global ≡ false = search rules in
    let some : has_net c.args.heads.now c.args.net.now.name ≡ true =
    traced c.args.heads.now c.args.net.now.name _
    (c.in-Some.ensures.number ∙ (λ i. trace_number c.args.heads.now (named i))) in
    λ i. not (sym ordinary i) && not (sym some i)
