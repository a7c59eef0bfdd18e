use Rattle.std.proofs.Common.{◌≡◌, ◌<◌, ◌∙◌, ℕ, List, length, subst, sym}
use Rattle.std.specs.Prelude.{filter, slice_index}
use Rattle.problem_facts.specs.Gathering.{AreHeld, AreMarked, AreWhole}
use Rattle.problem_facts.specs.Trees.{meet}
use Rattle.problem_facts.proofs.GatherLemmas.{fewer-of, kept-of, whole-filter}
use Rattle.problem_facts.proofs.gathering.narrow.Goals as goal
use Rattle.problem_facts.proofs.gathering.narrow.Goals.{After-keep}

-- the slots that are left are those of trees that meet this one
left-is : (c : After-keep) → c.keep.new.rest.items ≡ filter
    (λ s. meet c.args.trees.now.grid c.args.trees.now.slots.now c.args.trees.now.roots.now
    (slice_index c.args.trees.now.roots.now s) c.args.tree) c.args.rest.now.items
left-is c =
    c.keep.ensures
    ∙ kept-of c.args.trees.now.grid c.args.trees.now.slots.now c.args.trees.now.roots.now
    c.args.trees.now.are_rooted c.args.tree c.args.rest.now.items c.requires.whole c.requires.first
    c.requires.tree c.hold.new.held c.mark.new.marked
    (c.hold.ensures.size ∙ c.clear.ensures.size ∙ c.requires.held)
    (c.mark.ensures.size ∙ c.clear-2.ensures.size ∙ c.requires.marked)
    (subst (λ (rest : List ℕ). AreHeld c.args.trees.now.grid c.args.trees.now.slots.now
    c.args.trees.now.roots.now c.args.tree rest c.hold.new.held) c.deref.ensures.value
    c.hold.ensures.held)
    (subst (λ (rest : List ℕ). AreMarked c.args.trees.now.grid c.args.trees.now.slots.now
    c.args.trees.now.roots.now c.hold.new.held rest c.mark.new.marked) c.deref-2.ensures.value
    c.mark.ensures.marked)

pub returns-clause-left : goal.returns-clause-left
returns-clause-left c = left-is c

pub returns-clause-fewer : goal.returns-clause-fewer
returns-clause-fewer c =
    subst (λ (rest : List ℕ). length rest < length c.args.rest.now.items) (sym (left-is c))
    (fewer-of c.args.trees.now.grid c.args.trees.now.slots.now c.args.trees.now.roots.now
    c.args.trees.now.are_rooted c.args.tree c.args.rest.now.items c.requires.whole c.requires.first
    c.requires.tree)

pub returns-clause-whole : goal.returns-clause-whole
returns-clause-whole c =
    subst (λ (rest : List ℕ). AreWhole c.args.trees.now.roots.now rest) (sym (left-is c))
    (whole-filter c.args.trees.now.roots.now c.args.rest.now.items c.requires.whole
    (λ root. meet c.args.trees.now.grid c.args.trees.now.slots.now c.args.trees.now.roots.now root
    c.args.tree))
