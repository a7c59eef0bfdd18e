use Rattle.std.proofs.Common.{sym, ap, ◌∙◌, subst}
use Rattle.sat_watch.specs.Watches.{AreInPlace, WatchState, lits_at}
use Rattle.sat_watch.proofs.WatchesLemmas.{attached_held, attached_lits, in_place}
use Rattle.sat_watch.proofs.watches.Watches.lits.Goals as goal

pub lits-requires : goal.lits-requires
lits-requires c = record {
  held = sym (attached_held c.self.inside.chains.clauses c.args.c)
      ∙ (rw (← c.self.view_is) at c.requires.attached);
}

pub returns-clause-value : goal.returns-clause-value
returns-clause-value c =
    let ks = c.self.inside.chains.clauses in
    c.lits.ensures.value ∙
    (sym (attached_lits ks c.args.c) ∙ ap (λ (s : WatchState). lits_at s.clauses c.args.c)
    c.self.view_is)

pub returns-clause-placed : goal.returns-clause-placed
returns-clause-placed c =
    let i = c.self.inside in
    subst (λ (s : WatchState). AreInPlace 0 s.clauses) c.self.view_is
    (in_place 0 i.chains.clauses c.self.invariant.whole.chained.placed)
