use Rattle.std.proofs.Common.{◌≡◌, ◌∙◌, ◌+◌, ◌<◌, ◌++◌, ◌∷◌, [], ℕ, List, Some, Bool, add-one, ap, arith, false, get_or, length, refl, subst, sym, take}
use Rattle.std.specs.Prelude.{filter_map, max, slice_get}
use Rattle.std.proofs.Math.Seq.{take-length}
use Rattle.list_laws.proofs.Places.{get-there, take-get}
use Rattle.fpga_bounds.proofs.LineLemmas.{NO_ELEM}
use Rattle.fpga_types.specs.Fit.{same_elem}
use Rattle.fpga_types.specs.declared.route.Elem.{Elem}
use Rattle.route_reach.specs.TraceDepth.{greatest}
use Rattle.route_verify.specs.Depths.{DeepLine, deep_lines}
use Rattle.route_verify.specs.LineDepths.{HasTaken, depth_at_last, same_by}
use Rattle.route_reach.proofs.GreatestLemmas.{greatest-last}
use Rattle.route_reach.proofs.trace.net_depth.Goals as goal

pub loop-line-preserved : goal.loop-line-preserved
loop-line-preserved c =
    let items : List Elem = c.as_slice-line-items.result.now in
    let elems : List Elem = c.args.net.now.elems in
    let i : ℕ = c.loop-line.line-index in
    let e : Elem = get_or items i NO_ELEM in
    let lt : i < length items = omega arith in
    let here : slice_get items i ≡ Some e = get-there items i e NO_ELEM lt refl in
    let there : slice_get elems i ≡ Some e =
    ap (λ (es : List Elem). slice_get es i) (sym c.as_slice-line-items.ensures) ∙ here in
    let front : take (i + 1) elems ≡ take i elems ++ e ∷ [] =
    rw add-one (take-get elems i e there) in
    let cells : c.take.new.self.tracked ≡ false =
    c.in_ok-take.ensures.tracked ∙ c.loop-line.invariant.cells in
    let taken : HasTaken c.take.new.self (take i elems ++ e ∷ []) =
    c.in_ok-take.ensures.taken (take i elems) c.loop-line.invariant.taken in
    let last = c.last.ensures (take i elems ++ e ∷ []) taken
    ∙ ap (λ (t : Bool). depth_at_last (deep_lines (same_by t) (take i elems ++ e ∷ []))) cells in
    record {
      cells = cells;
      taken = subst (HasTaken c.take.new.self) (sym front) taken;
      greatest = c.max-greatest.ensures
          ∙ ap (max c.loop-line.greatest) c.unwrap_or.ensures
          ∙ greatest-last same_elem (take i elems) e c.loop-line.greatest c.last.result
          c.loop-line.invariant.greatest last
          ∙ ap (λ (es : List Elem). greatest (filter_map (λ (line : DeepLine). line.depth)
          (deep_lines same_elem es))) (sym front);
    }

pub returns : goal.returns
returns c =
    let elems : List Elem = c.args.net.now.elems in
    let own : length c.as_slice-line-items.result.now ≡ length elems =
    ap (λ (es : List Elem). length es) c.as_slice-line-items.ensures in
    let end : c.loop-line.line-index ≡ length elems = omega arith in
    c.loop-line.invariant.greatest
    ∙ ap (λ (es : List Elem). greatest (filter_map (λ (line : DeepLine). line.depth)
    (deep_lines same_elem es)))
    (ap (λ (n : ℕ). take n elems) end ∙ take-length elems)
