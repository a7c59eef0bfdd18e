use Rattle.std.proofs.Common.{arith}
use Rattle.route_count.proofs.ClauseLemmas.{none-is}
use Rattle.route_count.proofs.clauses.clause_id.Goals as goal

pub unreachable-requires : goal.unreachable-requires
unreachable-requires c =
    c.requires (none-is c.args.formula.now.cnf c.args.clause.now (λ id some low is.
    c.loop-place.invariant id some
    (omega (arith, low, c.loop-place-test.false, c.len-count.ensures)) is))
