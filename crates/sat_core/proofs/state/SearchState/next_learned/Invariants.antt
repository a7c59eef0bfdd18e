use Rattle.std.proofs.Common.{◌-◌, length}
use Rattle.sat_core.specs.SearchStore.{IsSearching, SameKept, search_value}
use Rattle.sat_core.proofs.state.SearchState.next_learned.Given as goal

-- each turn attaches one of the clauses that wait
abbrev pub decreases-loop-self : goal.decreases-loop-self
decreases-loop-self l = length l.self-inside.aside.clauses - l.self-inside.attached

abbrev pub invariant-loop-self : goal.invariant-loop-self
invariant-loop-self l = record {
  searching : IsSearching l.self-inside.inputs l.self-inside.added l.self-inside.attached
      l.self-inside.aside l.self-inside.watches l.self-inside.findings l.self-inside.ranking;
  same : SameKept (search_value l.initial.self-inside.inputs l.initial.self-inside.added
      l.initial.self-inside.aside l.initial.self-inside.watches)
      (search_value l.self-inside.inputs l.self-inside.added l.self-inside.aside
      l.self-inside.watches);
}
