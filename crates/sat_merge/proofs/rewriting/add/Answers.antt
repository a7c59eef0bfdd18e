use Rattle.sat_core.specs.Stands.{live_after}
use Rattle.sat_merge.proofs.SearchedLaws.{next_added}
use Rattle.sat_merge.proofs.rewriting.add.Goals as goal

pub returns-clause-added : goal.returns-clause-added
returns-clause-added c is formula steps rewriting =
    let live = live_after formula c.args.log.now.steps in
    rw (c.in_ok-log_clause.ensures.logged, c.hints.ensures)
    (next_added rewriting c.log_clause.new.live c.args.id c.args.clause.now c.args.hints.now
    c.write.new.self.hints
    (c.in_ok-write.ensures.written c.if-not-branch.false live rewriting.found)
    (c.are_kept.ensures.kept.0 c.if-not-are_kept.false)
    (c.in_ok-log_clause.ensures.live live rewriting.found))
