use Rattle.std.proofs.Common.{◌≡◌, ◌<◌, ◌∙◌, ℕ, length, get_or, subst, sym, arith}
use Rattle.std.proofs.lemmas.List.Filters.{FiltersInPlace-more_no, FiltersInPlace-more_set}
use Rattle.fpga_types.specs.Slots.{slot_at}
use Rattle.problem_facts.specs.Gathering.{is_kept}
use Rattle.problem_facts.proofs.GatherLemmas.{in-place-at}
use Rattle.problem_facts.proofs.gathering.keep.Goals as goal
use Rattle.problem_facts.proofs.gathering.keep.Goals.{then-is_kept, else-is_kept}

pub is_kept-requires-clause-slot : goal.is_kept-requires-clause-slot
is_kept-requires-clause-slot c =
    let i : ℕ = c.loop-i.i in
    let s : ℕ = c.index-s.result.now in
    let low : i < length c.args.rest.now.items =
    omega (arith, c.loop-i-test.true, c.len-i-end.ensures, c.args.rest.now.ok) in
    let at : s ≡ get_or c.args.rest.now.items i s =
    c.index-s.ensures
    ∙ in-place-at (is_kept c.args.trees.now.slots.now c.args.trees.now.roots.now c.args.marked.now
    (slot_at c.args.trees.now.slots.now c.args.tree).net)
    c.args.rest.now.items c.loop-i.rest.items c.loop-i.kept i s c.loop-i.invariant in
    subst (λ (n : ℕ). n < length c.args.trees.now.slots.now) (sym at) (c.requires.within i s low)

pub loop-i-preserved : goal.loop-i-preserved
loop-i-preserved c =
    let low : c.loop-i.i < length c.loop-i.rest.items =
    omega (
      arith,
      c.loop-i-test.true,
      c.len-i-end.ensures,
      c.args.rest.now.ok,
      c.loop-i.invariant.long,
    ) in
    elim c.if-is_kept.branch [
      | then-is_kept w ↦ rw (w.rest-is, w.kept-is) (FiltersInPlace-more_set c.loop-i.invariant low
          (sym c.is_kept.ensures ∙ w.if-is_kept.true) c.index-s.ensures)
      | else-is_kept w ↦ rw (w.rest-is, w.kept-is) (FiltersInPlace-more_no c.loop-i.invariant low
          (sym c.is_kept.ensures ∙ w.if-is_kept.false) c.index-s.ensures)
    ]
