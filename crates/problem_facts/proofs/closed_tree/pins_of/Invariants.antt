-- the pin steps of the tree so far are listed
use Rattle.std.proofs.Common.{◌≡◌, filter, take}
use Rattle.problem_facts.specs.Alone.{is_of_tree}
use Rattle.problem_facts.proofs.closed_tree.pins_of.Given as goal

abbrev pub invariant-loop-step : goal.invariant-loop-step
invariant-loop-step l = l.pins.items ≡ filter (is_of_tree l.roots l.tree)
    (take l.step-index l.steps)
