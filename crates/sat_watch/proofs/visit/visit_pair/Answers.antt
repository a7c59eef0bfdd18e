use Rattle.std.proofs.Common.{◌≡◌, ◌∷◌, Option, Some, refl, sym, ap, ◌∙◌}
use Rattle.sat_arena.specs.declared.clause_ref.ClauseRef.{ClauseRef}
use Rattle.sat_watch.specs.Chains.{lit_at}
use Rattle.sat_watch.specs.declared.entry.TrailEntry.{TrailEntry}
use Rattle.sat_watch.proofs.TailLemmas.{pair_reason, pair_within}
use Rattle.sat_watch.proofs.TrailLemmas.{is_open}
use Rattle.sat_watch.proofs.VisitLemmas.{goes_implied}
use Rattle.sat_watch.proofs.WatchesLemmas.{longer_whole}
use Rattle.sat_watch.proofs.visit.visit_pair.Goals as goal
use Rattle.sat_watch.proofs.visit.visit_pair.Goals.{After-push}

pub push-requires-clause-open : goal.push-requires-clause-open
push-requires-clause-open c =
    is_open c.args.trail.now.entries (lit_at c.args.others.now c.args.i)
    (sym c.is_false.ensures ∙ c.if-is_false.false) (sym c.is_true.ensures ∙ c.if-is_true.false)

-- the entry that makes the other literal true
abbrev entry : After-push → TrailEntry
entry c = record {
  lit = lit_at c.args.others.now c.args.i;
  level = c.args.level;
  reason = Some c.clause_in.result;
}

entries_are : (c : After-push) → c.push.new.self.entries ≡ entry c ∷ c.args.trail.now.entries
entries_are c =
    c.push.ensures.entries ∙ ap (λ (r : Option ClauseRef).
    record (entry c) { reason = r } ∷ c.args.trail.now.entries) c.to.ensures

pub returns-clause-whole : goal.returns-clause-whole
returns-clause-whole c =
    let at = (goal.at.returns-clause-whole c).After-push in
    let a = c.args in
    longer_whole a.chains.now a.trail.now c.push.new.self (entry at) c.requires.whole
    c.push.ensures.vars (entries_are at)
    (pair_within a.chains.now.vars a.chains.now a.f (lit_at a.others.now a.i) _
    c.requires.whole.chained c.requires.pair)
    (is_open a.trail.now.entries (lit_at a.others.now a.i)
    (sym c.is_false.ensures ∙ c.if-is_false.false) (sym c.is_true.ensures ∙ c.if-is_true.false))

pub returns-clause-goes : goal.returns-clause-goes
returns-clause-goes c =
    let at = (goal.at.returns-clause-goes c).After-push in
    let a = c.args in
    goes_implied a.trail.now.entries a.level a.f a.chains.now.clauses a.trail.now.entries
    c.push.new.self.entries (entry at) (entries_are at)
    (record {
      at_level = refl;
      reason = c.clause_in.result;
      is = refl;
      held = rw c.clause_in.ensures.value c.requires.pair.held;
      why =
          rw c.clause_in.ensures.value
          (pair_reason a.chains.now.clauses a.f (lit_at a.others.now a.i) _ a.trail.now.entries
          c.requires.pair c.requires.is_false);
    })
