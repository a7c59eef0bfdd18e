use Rattle.std.proofs.Common.{refl}
use Rattle.sat_clause.specs.Step.{Added}
use Rattle.sat_core.specs.Stands.{live_after}
use Rattle.sat_core.proofs.LogLemmas.{live_after-push}
use Rattle.sat_merge.proofs.lemmas.log_lemma.Goals as goal

pub returns-clause-within : goal.returns-clause-within
returns-clause-within c = λ is.
    c.are_kept.ensures.within c.if-not-are_kept.false c.args.live.now.vars
    c.requires.representatives

pub returns-clause-added : goal.returns-clause-added
returns-clause-added c = λ is formula finds.
    let before = live_after formula c.args.log.now.steps in
    record {
      hints = c.write.new.self.hints;
      step = rw (c.in_ok-log_clause.ensures.logged, c.hints.ensures) refl;
      justified = c.in_ok-write.ensures.written c.if-not-branch.false before finds;
      kept = c.are_kept.ensures.kept.0 c.if-not-are_kept.false;
      found = rw (
        c.in_ok-log_clause.ensures.logged,
        c.hints.ensures,
        live_after-push formula c.args.log.now.steps
            (Added c.args.id c.args.clause.now c.write.new.self.hints),
      ) (c.in_ok-log_clause.ensures.live before finds);
    }
