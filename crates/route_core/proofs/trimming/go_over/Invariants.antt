-- the steps from a place on were gone over
use Rattle.route_core.specs.Ready.{IsReady}
use Rattle.route_core.proofs.KeepLemmas.{IsGone}
use Rattle.route_core.proofs.trimming.go_over.Given as goal

abbrev pub invariant-loop-at : goal.invariant-loop-at
invariant-loop-at l = record {
  ready : IsReady l.sources.size l.needed;
  gone : IsGone l.sources.formula l.sources.log l.at l.back.steps l.marks;
}
