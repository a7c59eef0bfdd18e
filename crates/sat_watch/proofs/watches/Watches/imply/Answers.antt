use Rattle.std.proofs.Common.{◌≡◌, ℕ, suc, ◌+◌, List, ◌∷◌, Option, Some, true, sym, ap, ◌∙◌, subst, arith}
use Rattle.sat_arena.specs.declared.clause_ref.ClauseRef.{ClauseRef}
use Rattle.sat_arena.specs.Store.{is_held, stored_at}
use Rattle.sat_watch.specs.declared.entry.TrailEntry.{TrailEntry}
use Rattle.sat_clause.specs.Literal.{IsWithin}
use Rattle.sat_watch.specs.Levels.{IsWatchStore}
use Rattle.sat_watch.specs.Watched.{IsReason}
use Rattle.sat_watch.specs.Watches.{WatchState, is_attached, lits_at}
use Rattle.sat_watch.proofs.PropagatedLemmas.{store_imply}
use Rattle.sat_watch.proofs.WatchesLemmas.{attached_held, attached_lits, longer_whole}
use Rattle.sat_watch.proofs.watches.Watches.imply.Goals as goal
use Rattle.sat_watch.proofs.watches.Watches.imply.Goals.{After-self}

-- the reason is held
held : (c : After-self) → is_held c.self.inside.chains.clauses c.args.reason ≡ true
held c =
    sym (attached_held c.self.inside.chains.clauses c.args.reason) ∙
    subst (λ (s : WatchState). is_attached s.clauses c.args.reason ≡ true) (sym c.self.view_is)
    c.requires.attached

pub as_reason-requires : goal.as_reason-requires
as_reason-requires c = record { held = held (goal.at.as_reason-requires c).After-self }

pub overflow_add-self : goal.overflow_add-self
overflow_add-self c =
    let t = c.self.invariant.whole.trail in let few = t.few in let small = t.few_vars in
    let queued = c.self.invariant.store.few in
    record { fits = omega arith }

pub invariant_of-self : goal.invariant_of-self
invariant_of-self c =
    let i = c.self.inside in let a = c.args in let ks = i.chains.clauses in
    let free = rw (← c.self.view_is) at c.requires.open in
    let why : IsReason i.trail.entries (stored_at ks a.reason).lits a.l =
    subst (λ l. IsReason i.trail.entries l a.l) (attached_lits ks a.reason)
    (subst (λ (s : WatchState). IsReason s.trail (lits_at s.clauses a.reason) a.l)
    (sym c.self.view_is) c.requires.unit) in
    let next : suc i.queued ≡ i.queued + 1 = omega arith in
    let after = store_imply ks i.trail.entries i.queued i.level i.pending a.l a.reason
    c.self.invariant.store free c.self.invariant.whole.trail.once
    (held (goal.at.invariant_of-self c).After-self) why in
    let e : TrailEntry = record { lit = a.l; level = i.level; reason = Some a.reason } in
    let entries : c.push.new.self.entries ≡ e ∷ i.trail.entries =
    c.push.ensures.entries ∙ ap (λ (r : Option ClauseRef).
    record { lit = a.l; level = i.level; reason = r } ∷ i.trail.entries)
    c.as_reason.ensures in
    record {
      whole = longer_whole i.chains i.trail c.push.new.self e c.self.invariant.whole
          c.push.ensures.vars
          entries (subst (λ (s : WatchState). IsWithin s.vars a.l) (sym
          c.self.view_is)
          c.requires.within) free;
      store =
          subst (λ (p : List TrailEntry × ℕ × Option ClauseRef). IsWatchStore ks p.0 p.1 i.level
          p.2)
          (λ x. (sym entries x, next x, sym c.pending_without-self-inside.ensures x))
          after;
    }
