use Rattle.std.proofs.Common.{◌<◌, ◌∙◌, All, List, ℕ, length, subst, sym}
use Rattle.problem_facts.specs.Crowd.{IsGatheredFrom}
use Rattle.problem_facts.proofs.CrowdLaws.{is-first, is-longer, slots-low}
use Rattle.problem_facts.proofs.crowding.crowd_of.Goals as goal

pub gathered_from-requires : goal.gathered_from-requires
gathered_from-requires c =
    subst (λ (ss : List ℕ). All (λ s. s < length c.args.trees.now.slots.now) ss)
    (sym (c.deref.ensures.value ∙ c.in_ok-own.ensures))
    (slots-low c.args.trees.now.grid c.args.trees.now.slots.now c.args.cell)

pub returns-then-len : goal.returns-then-len
returns-then-len c =
    is-first c.args.trees.now.grid c.args.trees.now.slots.now c.args.trees.now.roots.now
    c.args.cell c.deref.result.now c.in_ok-first.first.items
    (c.deref.ensures.value ∙ c.in_ok-own.ensures) c.in_ok-first.ensures

pub returns : goal.returns
returns c =
    subst (λ (ss : List ℕ). IsGatheredFrom c.args.trees.now.grid c.args.trees.now.slots.now
    c.args.trees.now.roots.now c.args.cell ss) (sym c.longer.ensures)
    (is-longer c.args.trees.now.grid c.args.trees.now.slots.now c.args.trees.now.roots.now
    c.args.cell c.deref.result.now c.in_ok-first.first.items
    (c.deref.ensures.value ∙ c.in_ok-own.ensures) c.in_ok-first.ensures
    c.deref-2.result.now c.in_ok-second.second.items
    (subst (λ (ss : List ℕ). All (λ s. s < length c.args.trees.now.slots.now) ss)
    (sym c.deref-2.ensures.0) c.in_ok-found.ensures) c.in_ok-second.ensures)
