use Rattle.std.proofs.Common.{◌≡◌, ◌<◌, ◌∙◌, ℕ, refl, sym, ap, subst, length, take, get_or, None, Some, Bool, add-one, arith, List}
use Rattle.std.specs.Prelude.{◌||◌, slice_get}
use Rattle.std.proofs.lemmas.List.Folds.{list_any_more}
use Rattle.list_laws.proofs.Places.{get-there, last-push, take-get}
use Rattle.fpga_types.specs.Fit.{same_elem}
use Rattle.fpga_types.specs.declared.route.Elem.{Elem}
use Rattle.fpga_bounds.proofs.LineLemmas.{NO_ELEM, get-none, line-of, past-elem, past-elems, refused-elem}
use Rattle.fpga_bounds.proofs.elems_check.check_elems.Goals as goal

pub check_elem-requires : goal.check_elem-requires
check_elem-requires g c κs =
    let elems : List Elem = c.as_slice-elems.result.now in
    let e : Elem = get_or elems c.loop-i.i NO_ELEM in
    let within : c.loop-i.i < length elems = omega arith in
    let here : slice_get elems c.loop-i.i ≡ Some e =
    get-there elems c.loop-i.i e NO_ELEM within refl in (
      (refl, tt),
      (
        c.requires.net,
        (
          record {
            nets = c.requires.nets;
            position = omega arith;
            elem = (λ k. slice_get (sym c.loop-i.invariant.elems k) c.loop-i.i) ∙ here;
            line = line-of c.args.earlier.now c.args.net.now elems c.loop-i.i c.loop-i.previous
                c.in-Ok.again c.has_pin.result c.see_again.new.seen c.loop-i.invariant.elems
                within c.loop-i.invariant.previous
                (c.in-Ok.ensures.again ∙ c.loop-i.invariant.seen e)
                (c.has_pin.ensures ∙ c.requires.pins e)
                (λ q. c.in-Ok.ensures.gains q ∙ ap (λ (b : Bool). b || same_elem q e)
                (c.loop-i.invariant.seen q)
                ∙ sym (list_any_more (same_elem q) elems c.loop-i.i NO_ELEM within));
          },
          c.loop-i.invariant.kept,
        ),
      ),
    )

pub returns-in-Err-clause-refused : goal.returns-in-Err-clause-refused
returns-in-Err-clause-refused g c =
    let elems : List Elem = c.as_slice-elems.result.now in
    let e : Elem = get_or elems c.loop-i.i NO_ELEM in
    let here : slice_get elems c.loop-i.i ≡ Some e =
    get-there elems c.loop-i.i e NO_ELEM (omega arith) refl in
    refused-elem (g.R.LineRules.fault c.args.rules.now) _ c.args.earlier.now c.args.net.now
    c.loop-i.i e ((λ k. slice_get (sym c.loop-i.invariant.elems k) c.loop-i.i) ∙ here)
    c.loop-i.invariant.past c.in-Err.fault c.in-Err.ensures

pub loop-i-preserved : goal.loop-i-preserved
loop-i-preserved g c =
    let elems : List Elem = c.as_slice-elems.result.now in
    let i : ℕ = c.loop-i.i in
    let e : Elem = get_or elems i NO_ELEM in
    let within : i < length elems = omega arith in
    let here : slice_get elems i ≡ Some e = get-there elems i e NO_ELEM within refl in
    let judged = c.in_default-check_elem.ensures in
    record {
      elems = c.loop-i.invariant.elems;
      past = past-elem (g.R.LineRules.fault c.args.rules.now) _ c.args.earlier.now
          c.args.net.now i e
          ((λ k. slice_get (sym c.loop-i.invariant.elems k) i) ∙ here) c.loop-i.invariant.past
          judged.0;
      previous = rw (add-one, take-get elems i e here) (sym (last-push None (take i elems) e));
      seen = λ q. c.in-Ok.ensures.gains q ∙ ap (λ (b : Bool). b || same_elem q e)
          (c.loop-i.invariant.seen q) ∙ sym (list_any_more (same_elem q) elems i NO_ELEM within);
      kept = subst (λ (n : ℕ). g.R.LineRules.has_kept c.check_elem.new.kept c.args.earlier.now
          c.args.net.now (take n c.args.net.now.elems)) (sym (add-one i)) judged.1;
    }

pub returns-clause-good : goal.returns-clause-good
returns-clause-good g c =
    past-elems (g.R.LineRules.fault c.args.rules.now) _ c.args.earlier.now c.args.net.now
    c.loop-i.i (get-none c.args.net.now.elems c.loop-i.i
    (rw (← c.as_slice-elems.ensures) (omega arith))) c.loop-i.invariant.past
