use Rattle.std.proofs.Common.{◌≡◌, List, ◌∷◌, Option, Some, sym, ap, ◌∙◌, subst}
use Rattle.sat_arena.specs.declared.clause_ref.ClauseRef.{ClauseRef}
use Rattle.sat_arena.specs.Store.{Stored}
use Rattle.sat_watch.specs.Chains.{holders, ChainsState, IsCursor, IsChained, IsRewatched, clause_of, head_at, head_in, head_of, next_on}
use Rattle.sat_watch.proofs.ChainLemmas.{CanRewatch, after_held, can_rewatch, clauses_after, code_clauses, code_heads, heads_after, now_chained, now_cursor, now_holders, rewatched, still_head, still_held, still_high, still_wide}
use Rattle.sat_watch.specs.Tails.{HasTails}
use Rattle.sat_watch.proofs.TailLemmas.{tails_rewatched}
use Rattle.sat_watch.proofs.chains.Chains.rewatch.Goals as goal
use Rattle.sat_watch.proofs.chains.Chains.rewatch.Goals.{After-self, After-put_first}

-- the watch may move
can : (c : After-self) →
    CanRewatch c.self.inside.vars c.self.inside.arena.clauses c.self.inside.heads.items
    c.args.f c.args.before c.args.at c.args.k c.args.after
can c =
    let i = c.self.inside in let a = c.args in
    can_rewatch
    _ a.self.now a.f a.before a.at a.k a.after c.self.view_is c.self.invariant.chained
    c.requires.within c.requires.at c.requires.before c.requires.low c.requires.high
    c.requires.cursor c.requires.after

moves : (c : After-put_first) →
    CanRewatch c.self.inside.vars c.self.inside.arena.clauses c.self.inside.heads.items
    c.args.f c.args.before c.args.at c.args.k c.args.after
moves c = can (goal.at.invariant_of-self c).After-self

-- what the code leaves is what moving it leaves
clauses_are : (c : After-put_first) → c.put_first.new.arena.clauses ≡ clauses_after (moves c)
clauses_are c =
    code_clauses (moves c) c.unlink.new.arena.clauses c.unlink.new.heads.items
    c.unlink.ensures.clauses c.unlink.ensures.heads c.put_first.new.arena.clauses
    c.put_first.ensures.clauses

heads_are : (c : After-put_first) → c.put_first.new.heads.items ≡ heads_after (moves c)
heads_are c =
    code_heads (moves c) c.unlink.new.arena.clauses c.unlink.new.heads.items
    c.unlink.ensures.clauses c.unlink.ensures.heads c.put_first.new.heads.items
    c.put_first.ensures.heads

pub unlink-requires-clause-after : goal.unlink-requires-clause-after
unlink-requires-clause-after c =
    let i = c.self.inside in let a = c.args in
    let can = can (goal.at.unlink-requires-clause-after c).After-self in
    after_held i.vars i.arena.clauses a.f (head_in i.vars i.heads.items a.f) (clause_of a.before)
    a.after
    a.at can.chained.simple can.place can.cursor can.goes

pub put_first-requires : goal.put_first-requires
put_first-requires c =
    let can = can (goal.at.put_first-requires c).After-self in
    let ks = c.unlink.new.arena.clauses in let heads = c.unlink.new.heads.items in
    let to = c.unlink.ensures in
    record {
      held = still_held can ks heads to.clauses to.heads;
      few = can.chained.few;
      wide = still_wide can ks heads to.clauses to.heads;
      which = c.requires.at.which;
      low = c.requires.low;
      high = still_high can ks heads to.clauses to.heads;
      head = still_head can ks heads to.clauses to.heads;
    }

pub invariant_of-self : goal.invariant_of-self
invariant_of-self c = record {
  chained =
      subst (λ (p : List Stored × List (Option ClauseRef)). IsChained c.self.inside.vars p.0 p.1)
      (λ j. (sym (clauses_are c) j, sym (heads_are c) j)) (now_chained (moves c));
  tails =
      subst (λ ks. HasTails c.self.inside.vars ks c.self.inside.tails) (sym (clauses_are c))
      (tails_rewatched (moves c) c.self.inside.tails c.self.invariant.tails);
}

pub returns-clause-chained : goal.returns-clause-chained
returns-clause-chained c = (invariant_of-self c).chained

pub returns-clause-clauses : goal.returns-clause-clauses
returns-clause-clauses c =
    let a = c.args in
    subst (λ (s : ChainsState). IsRewatched s.clauses c.put_first.new.arena.clauses a.before a.at
    a.k a.after (head_at s.vars s.clauses s.heads a.at.clause a.k)) c.self.view_is
    (rw (clauses_are c) (rewatched (moves c)))

pub returns-clause-cursor : goal.returns-clause-cursor
returns-clause-cursor c =
    let a = c.args in
    subst (λ (s : ChainsState). (kept rest : List ClauseRef)
    → IsCursor (next_on s.clauses a.f) (head_of s a.f) kept (a.at.clause ∷ rest)
    (clause_of a.before) (Some a.at.clause)
    → IsCursor (next_on c.put_first.new.arena.clauses a.f) (head_in c.self.inside.vars
    c.put_first.new.heads.items a.f)
    kept rest (clause_of a.before) a.after) c.self.view_is
    (rw (clauses_are c, heads_are c) (now_cursor (moves c)))

pub returns-clause-holders : goal.returns-clause-holders
returns-clause-holders c =
    λ l. ap (holders l) (clauses_are c) ∙ (now_holders (moves c) l ∙ ap
    (λ (s : ChainsState). holders l s.clauses) c.self.view_is)
