use Rattle.std.proofs.Common.{◌≡◌, ◌∙◌, ℕ, Option, None, Some, false, ap, sym}
use Rattle.std.specs.Prelude.{nat_lt}
use Rattle.std.specs.Option.{option_map_or}
use Rattle.fpga_types.specs.declared.route.RouteNet.{RouteNet}
use Rattle.route_verify.specs.Lines.{is_trace_named}
use Rattle.route_verify.specs.Traces.{trace_number}
use Rattle.route_verify.proofs.GatherLemmas.{below}
use Rattle.route_verify.proofs.gathering.stands_before.Goals as goal

pub returns-in_default : goal.returns-in_default
returns-in_default c =
    let named : c.as_slice.result.now ≡ c.args.net.now.name =
    c.as_slice.ensures ∙ ap (λ (n : RouteNet). n.name) c.net.view_is in
    let none : None ≡ trace_number c.args.heads.now c.args.net.now.name =
    c.in_default.ensures.number ∙ (λ i. trace_number c.args.heads.now (named i)) in
    ap (λ (o : Option ℕ). option_map_or (λ k. nat_lt k c.args.n) o false) none
    ∙ sym (below (is_trace_named c.args.net.now.name) c.args.heads.now c.args.n)

pub returns : goal.returns
returns c =
    let named : c.as_slice.result.now ≡ c.args.net.now.name =
    c.as_slice.ensures ∙ ap (λ (n : RouteNet). n.name) c.net.view_is in
    let some : Some c.in-Some.first ≡ trace_number c.args.heads.now c.args.net.now.name =
    c.in-Some.ensures.number ∙ (λ i. trace_number c.args.heads.now (named i)) in
    ap (λ (o : Option ℕ). option_map_or (λ k. nat_lt k c.args.n) o false) some
    ∙ sym (below (is_trace_named c.args.net.now.name) c.args.heads.now c.args.n)
