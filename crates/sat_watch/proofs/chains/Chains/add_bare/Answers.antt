use Rattle.std.proofs.Common.{[], None, refl, sym, subst}
use Rattle.sat_watch.specs.Tails.{HasTails}
use Rattle.sat_watch.proofs.TailLemmas.{tails_more}
use Rattle.sat_watch.proofs.chains.Chains.add_bare.Goals as goal

pub invariant_of-self : goal.invariant_of-self
invariant_of-self c =
    let i = c.self.inside in
    record {
      chained = c.self.invariant.chained;
      tails =
          subst (HasTails i.vars i.arena.clauses) (sym c.in-Ok.ensures)
          (tails_more i.vars i.arena.clauses i.tails [] [] c.self.invariant.tails refl
          (λ l within is. (None, refl)));
    }
