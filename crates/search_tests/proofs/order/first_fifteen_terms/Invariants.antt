use Rattle.std.proofs.Common.{◌≡◌}
use Rattle.search_tests.proofs.order.first_fifteen_terms.Given as goal

-- so many terms have been given
abbrev pub invariant-loop-want : goal.invariant-loop-want
invariant-loop-want g l = l.terms ≡ l.want-index
