use Rattle.std.proofs.Common.{◌≡◌, ◌<◌, ◌++◌, ◌∙◌, List, length, take, get_or, arith, refl, ap, sym, None, Some, Option}
use Rattle.std.specs.Prelude.{filter_map, slice_get}
use Rattle.std.specs.Option.{option_to_list}
use Rattle.std.proofs.lemmas.List.{append-nil}
use Rattle.list_laws.proofs.Places.{get-there}
use Rattle.fpga_types.specs.declared.grid.PinAt.{PinAt}
use Rattle.fpga_types.specs.declared.route.Elem.{Elem}
use Rattle.fpga_bounds.proofs.LineLemmas.{NO_ELEM}
use Rattle.route_reach.specs.Ends.{opin_of}
use Rattle.route_reach.proofs.SourceLemmas.{first-made, made-more}
use Rattle.route_reach.proofs.source.first_out.Goals as goal

pub returns-in-Some : goal.returns-in-Some
returns-in-Some c =
    sym (first-made opin_of c.args.elems.now c.loop-e.e-index NO_ELEM c.in-Some.out
    (omega arith) c.loop-e.invariant (sym c.in-Some.ensures))

pub loop-e-preserved : goal.loop-e-preserved
loop-e-preserved c =
    let elems : List Elem = c.args.elems.now in
    let e : Elem = get_or elems c.loop-e.e-index NO_ELEM in
    let below : c.loop-e.e-index < length elems = omega arith in
    let here : slice_get elems c.loop-e.e-index ≡ Some e =
    get-there elems c.loop-e.e-index _ NO_ELEM below refl in
    let none : opin_of e ≡ None = sym c.in_default.ensures in
    made-more opin_of elems c.loop-e.e-index e here
    ∙ ap (λ (o : Option PinAt). filter_map opin_of (take c.loop-e.e-index elems)
    ++ option_to_list o) none
    ∙ append-nil (filter_map opin_of (take c.loop-e.e-index elems)) ∙ c.loop-e.invariant
