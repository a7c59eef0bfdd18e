use Rattle.std.proofs.Common.{◌≡◌, suc, ◌<◌, None, refl, sym, ◌∙◌, subst}
use Rattle.std.proofs.lemmas.Bool.{le-leb}
use Rattle.sat_watch.specs.Levels.{IsWatchStore, upto}
use Rattle.sat_watch.proofs.BackLemmas.{fallen_is_upto, store_back, trail_upto}
use Rattle.sat_watch.proofs.watches.Watches.back_to.Goals as goal

pub invariant_of-self : goal.invariant_of-self
invariant_of-self c =
    let i = c.self.inside in let ks = i.chains.clauses in
    let lower : c.args.level < i.level = c.if-level-self.false in
    let same : c.fall_to.new.self.entries ≡ upto c.args.level i.trail.entries =
    c.fall_to.ensures.entries ∙ fallen_is_upto ks i.level c.args.level i.trail.entries
    c.self.invariant.store.leveled in
    record {
      whole = record {
        vars = c.fall_to.ensures.vars ∙ c.self.invariant.whole.vars;
        chained = c.self.invariant.whole.chained;
        trail = trail_upto c.args.level i.trail c.fall_to.new.self c.fall_to.ensures.vars same
            c.self.invariant.whole.trail;
      };
      store = subst (λ t. IsWatchStore ks t 0 c.args.level None) (sym same)
          (store_back ks i.trail.entries i.queued i.level i.pending c.args.level
          c.self.invariant.store c.self.invariant.whole.trail.once lower);
    }

pub returns : goal.returns
returns c =
    let i = c.self.inside in let ks = i.chains.clauses in
    let lower : c.args.level < i.level = c.if-level-self.false in
    let same : c.fall_to.new.self.entries ≡ upto c.args.level i.trail.entries =
    c.fall_to.ensures.entries ∙ fallen_is_upto ks i.level c.args.level i.trail.entries
    c.self.invariant.store.leveled in
    rw (← c.self.view_is, le-leb (suc c.args.level) i.level lower, same) refl
