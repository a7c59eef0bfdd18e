use Rattle.std.proofs.Common.{List, Bool, arith, drop, length, subst, sym}
use Rattle.route_count.specs.Firsts.{AreMarked}
use Rattle.route_count.proofs.CountedLemmas.{front-written}
use Rattle.route_count.proofs.first_level.Beginning.passed_slots.Goals as goal

pub returns-clause-marked : goal.returns-clause-marked
returns-clause-marked c =
    subst (λ (passed : List Bool). AreMarked (length c.args.self.now.row.now)
    c.args.self.now.meetings.now passed)
    (sym (front-written c.mark_passed.new.passed
    (drop (length c.mark_passed.new.passed) c.in_ok-passed.passed.items)
    c.in_ok-passed.passed.len
    (omega (arith, c.mark_passed.ensures.each, c.in_ok-passed.ensures.len))))
    c.mark_passed.ensures.marked
