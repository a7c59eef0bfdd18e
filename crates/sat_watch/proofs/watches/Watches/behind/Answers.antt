use Rattle.std.proofs.Common.{sym, ap, ◌∙◌}
use Rattle.sat_arena.specs.Store.{behind_of}
use Rattle.sat_watch.specs.Watches.{WatchState, attached_behind, first_attached}
use Rattle.sat_watch.proofs.WatchesLemmas.{attached_first, attached_held, attached_next}
use Rattle.sat_watch.proofs.watches.Watches.behind.Goals as goal

pub behind-requires : goal.behind-requires
behind-requires c = record {
  held = sym (attached_held c.self.inside.chains.clauses c.args.c)
      ∙ (rw (← c.self.view_is) at c.requires.attached);
}

pub returns : goal.returns
returns c =
    let ks = c.self.inside.chains.clauses in
    c.behind.ensures ∙
    (sym (attached_first (behind_of ks c.args.c)) ∙
    (ap first_attached (sym (attached_next ks c.args.c)) ∙
    ap (λ (s : WatchState). first_attached (attached_behind s.clauses c.args.c)) c.self.view_is))
