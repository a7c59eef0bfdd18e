use Rattle.std.proofs.Common.{length}
use Rattle.route_count.proofs.MarkLemmas.{marked-keeps}
use Rattle.route_count.proofs.first_level.Beginning.mark_passed.Goals as goal

pub returns-clause-marked : goal.returns-clause-marked
returns-clause-marked c =
    marked-keeps (length c.args.self.now.row.now) c.args.self.now.meetings.now
    c.mark_meetings.new.passed c.mark_ways.new.passed c.mark_ways.ensures.kept
    c.mark_meetings.ensures.marked
