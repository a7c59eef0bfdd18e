use Rattle.std.proofs.Common.{arith}
use Rattle.std.proofs.lemmas.Option.{slice_get_within}
use Rattle.sat_clause.specs.Judge.{inputs}
use Rattle.route_core.proofs.KeepLemmas.{none-empty}
use Rattle.route_core.proofs.trimming.first_empty.Goals as goal

pub unreachable-requires : goal.unreachable-requires
unreachable-requires c =
    none-empty 1 (inputs c.args.formula.now.cnf) c.args.log.now.steps c.requires
    (λ k step is.
    let low = slice_get_within c.args.log.now.steps k step is in
    c.loop-at.invariant k step (omega (arith, low, c.loop-at-test.false, c.len-at-end.ensures)) is)
