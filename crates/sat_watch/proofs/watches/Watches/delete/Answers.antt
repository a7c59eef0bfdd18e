use Rattle.std.proofs.Common.{◌≡◌, ℕ, List, map, Option, None, sym, ap, ◌∙◌, subst}
use Rattle.sat_arena.specs.declared.clause_ref.ClauseRef.{ClauseRef}
use Rattle.sat_arena.specs.declared.moves.Move.{Move}
use Rattle.sat_arena.specs.Compact.{moved_by}
use Rattle.sat_watch.specs.Chains.{ChainsState}
use Rattle.sat_watch.specs.Delete.{OthersMove, OthersStay, deleted}
use Rattle.sat_watch.specs.Watches.{IsWatches, WatchState, attached, watch_state}
use Rattle.sat_watch.proofs.DeleteLemmas.{others_move, others_stay, state_deleted, watches_deleted}
use Rattle.sat_watch.proofs.WatchesLemmas.{attached_held}
use Rattle.sat_watch.proofs.watches.Watches.delete.Goals as goal

pub remove-requires : goal.remove-requires
remove-requires c =
    let i = c.self.inside in let refs = c.args.clauses.now in
    let all = rw (← c.self.view_is) at c.requires.attached in
    record { held = λ k d lt. sym (attached_held i.chains.clauses _) ∙ all k d lt }

pub invariant_of-self-2 : goal.invariant_of-self-2
invariant_of-self-2 c =
    let i = c.self.inside in let refs = c.args.clauses.now in
    let to = moved_by c.in_ok-moves.moves in
    let queued : i.queued ≡ 0 =
    ap (λ (s : WatchState). s.queued) c.self.view_is ∙ c.requires.empty in
    let level : i.level ≡ 0 =
    ap (λ (s : WatchState). s.level) c.self.view_is ∙ c.requires.level in
    let none : i.pending ≡ None =
    ap (λ (s : WatchState). s.pending) c.self.view_is ∙ c.requires.quiet in
    let h : IsWatches i.chains i.trail 0 0 None =
    subst (λ (p : ℕ × ℕ × Option ClauseRef). IsWatches i.chains i.trail p.0 p.1 p.2)
    (λ x. (queued x, level x, none x)) c.self.invariant in
    let free = rw (← c.self.view_is) at c.requires.no_reason in
    subst (λ (p : ChainsState × ℕ × ℕ × Option ClauseRef).
    IsWatches p.0 c.move_reasons.new.self p.1 p.2 p.3)
    (λ x. (sym c.make_tails.ensures x, sym queued x, sym level x, sym none x))
    (watches_deleted i.chains c.remove.new.self i.trail c.move_reasons.new.self refs to
    (λ r. ap (λ (ms : List Move). moved_by ms r) c.in_ok-moves.ensures.moves)
    c.self.invariant.whole.chained c.in_ok-moves.ensures.vars c.in_ok-moves.ensures.clauses
    c.move_reasons.ensures.entries h c.in_ok-moves.ensures.chained
    c.move_reasons.ensures.vars free)

pub returns-clause-ok : goal.returns-clause-ok
returns-clause-ok c =
    let i = c.self.inside in let refs = c.args.clauses.now in
    let to = moved_by c.in_ok-moves.moves in
    ap (λ (k : ChainsState). watch_state k c.move_reasons.new.self i.queued i.level i.pending)
    c.make_tails.ensures ∙
    (state_deleted i.chains c.remove.new.self i.trail c.move_reasons.new.self refs to
    (λ r. ap (λ (ms : List Move). moved_by ms r) c.in_ok-moves.ensures.moves)
    c.self.invariant.whole.chained c.in_ok-moves.ensures.vars c.in_ok-moves.ensures.clauses
    c.move_reasons.ensures.entries i.queued i.level i.pending ∙ ap (deleted refs) c.self.view_is)

pub returns-clause-others : goal.returns-clause-others
returns-clause-others c =
    let i = c.self.inside in let refs = c.args.clauses.now in
    subst (λ (s : WatchState). OthersMove refs s.clauses
    (map attached c.make_tails.new.self.clauses)) c.self.view_is
    (rw c.make_tails.ensures (others_move i.chains.vars i.chains.clauses i.chains.heads
    c.self.invariant.whole.chained refs c.remove.new.self.clauses c.in_ok-moves.ensures.clauses))

pub returns-clause-left : goal.returns-clause-left
returns-clause-left c =
    let i = c.self.inside in let refs = c.args.clauses.now in
    subst (λ (s : WatchState). OthersStay refs s.clauses
    (map attached c.make_tails.new.self.clauses)) c.self.view_is
    (rw c.make_tails.ensures (others_stay i.chains.vars i.chains.clauses i.chains.heads
    c.self.invariant.whole.chained refs c.remove.new.self.clauses c.in_ok-moves.ensures.clauses))
