use Rattle.std.proofs.Common.{sym, ap, ◌∙◌}
use Rattle.sat_watch.specs.Watches.{WatchState, id_at}
use Rattle.sat_watch.proofs.WatchesLemmas.{attached_held, attached_id}
use Rattle.sat_watch.proofs.watches.Watches.id.Goals as goal

pub id-requires : goal.id-requires
id-requires c = record {
  held = sym (attached_held c.self.inside.chains.clauses c.args.c)
      ∙ (rw (← c.self.view_is) at c.requires.attached);
}

pub returns : goal.returns
returns c =
    let ks = c.self.inside.chains.clauses in
    record {
      value = c.id.ensures.value ∙
          (sym (attached_id ks c.args.c) ∙ ap (λ (s : WatchState). id_at s.clauses c.args.c)
          c.self.view_is);
    }
