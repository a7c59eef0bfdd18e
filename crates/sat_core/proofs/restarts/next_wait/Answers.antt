use Rattle.std.proofs.Common.{◌+◌, arith}
use Rattle.sat_order.proofs.LubyLaws.{term_most, term_some}
use Rattle.sat_core.proofs.restarts.next_wait.Goals as goal

pub overflow_mul-result : goal.overflow_mul-result
overflow_mul-result c =
    omega (
      arith,
      term_most (c.args.terms.now + 1) c.next-term.result c.next-term.ensures.term,
      c.requires,
    )

pub returns-clause-some : goal.returns-clause-some
returns-clause-some c =
    omega (arith, term_some (c.args.terms.now + 1) c.next-term.result c.next-term.ensures.term)

pub returns-clause-few : goal.returns-clause-few
returns-clause-few c =
    omega (
      arith,
      term_most (c.args.terms.now + 1) c.next-term.result c.next-term.ensures.term,
      c.requires,
    )
