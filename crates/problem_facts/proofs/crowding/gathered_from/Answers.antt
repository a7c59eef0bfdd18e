use Rattle.std.proofs.Common.{List, ℕ, subst, sym}
use Rattle.problem_facts.specs.Gathering.{AreWhole}
use Rattle.problem_facts.proofs.CrowdLaws.{slots-whole}
use Rattle.problem_facts.proofs.crowding.gathered_from.Goals as goal

pub gather-requires-clause-whole : goal.gather-requires-clause-whole
gather-requires-clause-whole c =
    subst (λ (rest : List ℕ). AreWhole c.args.trees.now.roots.now rest) (sym c.in_ok-rest.ensures)
    (slots-whole c.args.trees.now.slots.now c.args.trees.now.roots.now c.args.front.now
    c.args.trees.now.are_rooted.each c.requires)
