use Rattle.std.proofs.Common.{◌≡◌, ◌∙◌, false, Some, ap, get_or, length, refl, sym, List}
use Rattle.std.specs.Prelude.{◌||◌, slice_get}
use Rattle.std.specs.List.{list_any}
use Rattle.std.proofs.lemmas.Option.{slice_get_read}
use Rattle.fpga_types.specs.Fit.{same_elem}
use Rattle.fpga_types.specs.declared.route.RouteNet.{RouteNet}
use Rattle.fpga_bounds.specs.Keys.{has_elem}
use Rattle.route_verify.proofs.TraceLemmas.{trace-at, untraced}
use Rattle.route_verify.proofs.traces.Traces.elems_named.Goals as goal

pub returns-in_default : goal.returns-in_default
returns-in_default c = λ e.
    let none : has_elem c.new-set.result e ≡ false = rw c.new-set.ensures.empty refl in
    none ∙ sym (ap (list_any (same_elem e))
    (untraced c.args.self.now c.args.name.now (sym c.in_default.ensures.number)))

pub returns : goal.returns
returns c = λ e.
    let nets : List RouteNet = c.args.self.now in
    let net : RouteNet = c.index-as_slice-number.result in
    let here : slice_get nets c.in-Some.number ≡ Some net =
    slice_get_read nets (length nets) c.in-Some.number net refl c.in-Some.ensures.within
    (c.index-as_slice-number.is
    ∙ ap (λ (ns : List RouteNet). get_or ns c.in-Some.number net) c.as_slice.ensures) in
    let none : has_elem c.new-set.result e ≡ false = rw c.new-set.ensures.empty refl in
    c.in_ok-see_all.ensures e
    ∙ (λ i. none i || list_any (same_elem e)
    ((c.as_slice-2.ensures ∙ ap (λ (n : RouteNet). n.elems) (sym c.index-as_slice-number.is)) i))
    ∙ sym (ap (list_any (same_elem e)) (trace-at nets c.args.name.now c.in-Some.number
    (sym c.in-Some.ensures.number) net here))
