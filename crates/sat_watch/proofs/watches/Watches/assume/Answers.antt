use Rattle.std.proofs.Common.{◌≡◌, ℕ, suc, ◌+◌, List, ◌∷◌, Option, None, sym, ap, ◌∙◌, subst, arith}
use Rattle.sat_arena.specs.declared.clause_ref.ClauseRef.{ClauseRef}
use Rattle.sat_watch.specs.declared.entry.TrailEntry.{TrailEntry}
use Rattle.sat_clause.specs.Literal.{IsWithin}
use Rattle.sat_watch.specs.Levels.{IsWatchStore}
use Rattle.sat_watch.specs.Watches.{WatchState}
use Rattle.sat_watch.proofs.BackLemmas.{few_levels}
use Rattle.sat_watch.proofs.PropagatedLemmas.{store_assume}
use Rattle.sat_watch.proofs.WatchesLemmas.{longer_whole}
use Rattle.sat_watch.proofs.watches.Watches.assume.Goals as goal

pub overflow_add-self-inside : goal.overflow_add-self-inside
overflow_add-self-inside c =
    let i = c.self.inside in
    let le = few_levels i.chains.clauses i.level i.trail.entries c.self.invariant.store.leveled in
    let t = c.self.invariant.whole.trail in let few = t.few in let small = t.few_vars in
    record { fits = omega arith }

pub overflow_add-self : goal.overflow_add-self
overflow_add-self c =
    let i = c.self.inside in
    let le = few_levels i.chains.clauses i.level i.trail.entries c.self.invariant.store.leveled in
    let t = c.self.invariant.whole.trail in let few = t.few in let small = t.few_vars in
    record { fits = omega arith }

pub invariant_of-self : goal.invariant_of-self
invariant_of-self c =
    let i = c.self.inside in
    let none : i.pending ≡ None =
    ap (λ (s : WatchState). s.pending) c.self.view_is ∙ c.requires.quiet in
    let empty : i.queued ≡ 0 =
    ap (λ (s : WatchState). s.queued) c.self.view_is ∙ c.requires.empty in
    let free = rw (← c.self.view_is) at c.requires.open in
    let h : IsWatchStore i.chains.clauses i.trail.entries 0 i.level None =
    subst (λ (p : ℕ × Option ClauseRef). IsWatchStore i.chains.clauses i.trail.entries p.0 i.level
    p.1) (λ x. (empty x, none x)) c.self.invariant.store in
    let next : suc i.level ≡ i.level + 1 = omega arith in
    let e : TrailEntry = record { lit = c.args.l; level = i.level + 1; reason = None } in
    let entries : c.push.new.self.entries ≡ e ∷ i.trail.entries =
    c.push.ensures.entries ∙ ap (λ (r : Option ClauseRef).
    record { lit = c.args.l; level = i.level + 1; reason = r } ∷ i.trail.entries)
    c.none.ensures in
    let after : IsWatchStore i.chains.clauses (e ∷ i.trail.entries) 1 (i.level + 1) None =
    subst (λ n. IsWatchStore i.chains.clauses
    (record { lit = c.args.l; level = n; reason = None } ∷ i.trail.entries) 1 n None) next
    (store_assume i.chains.clauses i.trail.entries i.level c.args.l free
    c.self.invariant.whole.trail.once h) in
    record {
      whole = longer_whole i.chains i.trail c.push.new.self e c.self.invariant.whole
          c.push.ensures.vars
          entries (subst (λ (s : WatchState). IsWithin s.vars c.args.l)
          (sym c.self.view_is) c.requires.within) free;
      store =
          subst (λ (p : List TrailEntry × Option ClauseRef). IsWatchStore i.chains.clauses p.0 1
          (i.level + 1) p.1) (λ x. (sym entries x, sym none x)) after;
    }
