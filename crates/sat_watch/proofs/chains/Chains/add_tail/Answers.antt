use Rattle.std.proofs.Common.{sym, ◌∙◌, subst}
use Rattle.sat_watch.specs.Tails.{HasTails}
use Rattle.sat_watch.proofs.TailLemmas.{tails_more}
use Rattle.sat_watch.proofs.chains.Chains.add_tail.Goals as goal

pub invariant_of-self : goal.invariant_of-self
invariant_of-self c =
    let i = c.self.inside in
    let found = c.in_ok-tail_of_place.ensures in
    let tail = rw (← c.self.view_is) at found.tail in
    record {
      chained = c.self.invariant.chained;
      tails =
          subst (HasTails i.vars i.arena.clauses) (sym c.in-Ok.ensures)
          (rw (c.deref.ensures.value, c.deref-2.ensures.value)
          (tails_more i.vars i.arena.clauses i.tails c.tail_of_place.new.others.items
          c.tail_of_place.new.words.items c.self.invariant.tails found.many
          (λ l within is. tail l within (is ∙ sym c.count-place.ensures))));
    }
