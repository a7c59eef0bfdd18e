use Rattle.std.proofs.Common.{◌≡◌, ◌<◌, ◌∙◌, ℕ, List, length, get_or, refl, subst, sym, ap, arith, rules}
use Rattle.std.specs.Prelude.{slice_index}
use Rattle.problem_facts.specs.Gathering.{AreGathered}
use Rattle.problem_facts.specs.Trees.{meet}
use Rattle.problem_facts.specs.declared.limits.TheConstants.{CROWD_LIMIT}
use Rattle.problem_facts.proofs.GatherLemmas.{gather-full, gather-start, gather-step}
use Rattle.std.proofs.lemmas.List.{get_or_default}
use Rattle.problem_facts.proofs.gathering.gather.Goals as goal

pub loop-rest-init : goal.loop-rest-init
loop-rest-init c = record {
  gathered = subst (λ (taken : List ℕ). AreGathered (meet c.args.trees.now.grid
      c.args.trees.now.slots.now c.args.trees.now.roots.now) c.args.trees.now.roots.now
      c.args.rest.now.items taken c.args.rest.now.items) (sym c.new-taken.ensures)
      (gather-start c.args.trees.now.grid c.args.trees.now.slots.now
      c.args.trees.now.roots.now c.args.trees.now.are_rooted c.args.rest.now.items
      c.requires.whole);
  held = refl;
  marked = refl;
}

pub loop-rest-preserved : goal.loop-rest-preserved
loop-rest-preserved c =
    let taken : List ℕ = c.loop-rest.taken.items in
    let rest : List ℕ = c.loop-rest.rest.items in
    let first : ℕ = c.index.result.now in
    let tree : ℕ = get_or c.args.trees.now.roots.now first 0 in
    let room : length taken < CROWD_LIMIT =
    omega (arith, c.loop-rest-test.true, c.len.ensures.value) in
    let some : 0 < length rest = search rules in
    let is : tree ≡ slice_index c.args.trees.now.roots.now (slice_index rest 0) =
    ap (λ (n : ℕ). get_or c.args.trees.now.roots.now n 0)
    (c.index.ensures ∙ get_or_default rest 0 first 0 some) in
    record {
      gathered = subst (λ (items : List ℕ). AreGathered (meet c.args.trees.now.grid
          c.args.trees.now.slots.now c.args.trees.now.roots.now) c.args.trees.now.roots.now
          c.args.rest.now.items items c.narrow.new.rest.items) (sym c.push.ensures.items)
          (gather-step c.args.trees.now.grid c.args.trees.now.slots.now
          c.args.trees.now.roots.now c.args.trees.now.are_rooted c.args.rest.now.items taken rest
          c.narrow.new.rest.items tree c.loop-rest.invariant.gathered room some is
          c.narrow.ensures.left);
      held = c.narrow.ensures.held ∙ c.loop-rest.invariant.held;
      marked = c.narrow.ensures.marked ∙ c.loop-rest.invariant.marked;
    }

pub returns-clause-taken : goal.returns-clause-taken
returns-clause-taken c =
    gather-full c.args.trees.now.grid c.args.trees.now.slots.now c.args.trees.now.roots.now
    c.args.trees.now.are_rooted c.args.rest.now.items c.loop-rest.taken.items
    c.loop-rest.rest.items c.loop-rest.invariant.gathered
    (omega (arith, c.loop-rest-test.false, c.len.ensures.value))
