use Rattle.std.proofs.Common.{◌≡◌, ◌+◌, ◌<◌, ◌∙◌, ◌++◌, ℕ, refl, sym, ap, subst, length, take, get_or, None, Some, Bool, Option, add-one, append-nil, arith, List}
use Rattle.std.specs.Prelude.{◌||◌, slice_get}
use Rattle.std.proofs.lemmas.List.{length-take}
use Rattle.std.proofs.lemmas.List.Folds.{list_any_more}
use Rattle.list_laws.proofs.Places.{get-there, last-push, take-get}
use Rattle.fpga_bounds.proofs.LineLemmas.{NO_ELEM, get-none, line-of}
use Rattle.fpga_text.specs.declared.fault.TextFault.{TextFault}
use Rattle.fpga_types.specs.Fit.{same_elem}
use Rattle.fpga_types.specs.declared.route.Elem.{Elem}
use Rattle.route_verify.specs.AllCauses.{cause_against}
use Rattle.route_verify.specs.Gathered.{elems_causes, problem_of}
use Rattle.route_verify.specs.Judge.{HasKept}
use Rattle.route_verify.specs.declared.line_cause.LineCause.{LineCause}
use Rattle.route_verify.proofs.GatherLemmas.{elems-elem, elems-none, more}
use Rattle.route_verify.proofs.gathering.gather_elems.Goals as goal

pub cause_at-requires : goal.cause_at-requires
cause_at-requires c =
    let elems : List Elem = c.as_slice-elems.result.now in
    let e : Elem = get_or elems c.loop-i.i NO_ELEM in
    let within : c.loop-i.i < length elems = omega arith in
    let here : slice_get elems c.loop-i.i ≡ Some e =
    get-there elems c.loop-i.i e NO_ELEM within refl in
    record {
      net = c.requires.net;
      here = record {
        nets = c.requires.nets;
        position = omega arith;
        elem = (λ k. slice_get (sym c.loop-i.invariant.elems k) c.loop-i.i) ∙ here;
        line = line-of c.args.earlier.now c.args.net.now elems c.loop-i.i c.loop-i.previous
            c.has_elem-again.result c.has_pin.result c.see.new.seen c.loop-i.invariant.elems
            within c.loop-i.invariant.previous
            (c.has_elem-again.ensures ∙ c.loop-i.invariant.seen e)
            (c.has_pin.ensures ∙ c.requires.pins e)
            (λ q. c.in_ok-see.ensures q ∙ ap (λ (b : Bool). b || same_elem q e)
            (c.loop-i.invariant.seen q)
            ∙ sym (list_any_more (same_elem q) elems c.loop-i.i NO_ELEM within));
      };
      kept = c.loop-i.invariant.kept;
    }

pub add_line-requires : goal.add_line-requires
add_line-requires c = (
  c.args.earlier.now,
  (
    take c.loop-i.i c.args.net.now.elems,
    (
      c.loop-i.invariant.kept,
      omega (arith, length-take c.loop-i.i c.args.net.now.elems),
    ),
  ),
)

pub loop-i-preserved : goal.loop-i-preserved
loop-i-preserved c =
    let elems : List Elem = c.as_slice-elems.result.now in
    let i : ℕ = c.loop-i.i in
    let e : Elem = get_or elems i NO_ELEM in
    let within : i < length elems = omega arith in
    let here : slice_get elems i ≡ Some e = get-there elems i e NO_ELEM within refl in
    let own : slice_get c.args.net.now.elems i ≡ Some e =
    (λ k. slice_get (sym c.loop-i.invariant.elems k) i) ∙ here in
    let left : List LineCause = elems_causes (problem_of c.args.rules.now) c.args.earlier.now
    c.args.net.now (i + 1) in
    record {
      elems = c.loop-i.invariant.elems;
      causes = more _ _ _ _ _ left c.loop-i.invariant.causes c.in_ok-put.ensures
          (elems-elem (problem_of c.args.rules.now) c.args.earlier.now c.args.net.now i e own
          ∙ ap (λ (cause : Option TextFault).
          cause_against (Some (length c.args.earlier.now)) (Some e) cause ++ left)
          (sym c.cause_at.ensures));
      previous = rw (add-one, take-get elems i e here) (sym (last-push None (take i elems) e));
      seen = λ q. c.in_ok-see.ensures q ∙ ap (λ (b : Bool). b || same_elem q e)
          (c.loop-i.invariant.seen q) ∙ sym (list_any_more (same_elem q) elems i NO_ELEM within);
      kept = subst (λ (es : List Elem). HasKept c.add_line.new.self c.args.earlier.now es)
          (sym (rw add-one (take-get c.args.net.now.elems i e own)))
          (c.in_ok-add_line.ensures c.args.earlier.now (take i c.args.net.now.elems)
          c.loop-i.invariant.kept);
    }

pub returns-clause-causes : goal.returns-clause-causes
returns-clause-causes c =
    let left : List LineCause = elems_causes (problem_of c.args.rules.now) c.args.earlier.now
    c.args.net.now c.loop-i.i in
    sym (ap (λ (rest : List LineCause). c.loop-i.causes.items ++ rest)
    (elems-none (problem_of c.args.rules.now) c.args.earlier.now c.args.net.now c.loop-i.i
    (get-none c.args.net.now.elems c.loop-i.i (rw (← c.as_slice-elems.ensures) (omega arith))))
    ∙ append-nil c.loop-i.causes.items) ∙ c.loop-i.invariant.causes
