use Rattle.std.proofs.Common.{sym, ap, ◌∙◌, subst, arith}
use Rattle.sat_clause.specs.Learned.{IsSimple}
use Rattle.sat_arena.specs.Store.{new_clause, ref, size_all}
use Rattle.sat_watch.specs.Chains.{ChainsState, IsLast, with_order}
use Rattle.sat_watch.proofs.AttachLemmas.{IsPutLast, ordered_added, ordered_chained, ordered_head, ordered_held, ordered_two}
use Rattle.sat_watch.proofs.TailLemmas.{tails_added}
use Rattle.sat_watch.proofs.chains.Chains.add.Goals as goal
use Rattle.sat_watch.proofs.chains.Chains.add.Goals.{After-push_ordered-c}

put : (c : After-push_ordered-c) →
    IsPutLast c.self.inside.vars c.self.inside.arena.clauses c.push_ordered-c.new.arena.clauses
    c.self.inside.heads.items c.args.lits.now c.args.id c.args.i c.args.j c.push_ordered-c.result
put c = record {
  chained = c.self.invariant.chained;
  simple = subst (λ (s : ChainsState). IsSimple s.vars c.args.lits.now) (sym c.self.view_is)
      c.requires.simple;
  i_in = c.requires.i;
  j_in = c.requires.j;
  two = c.requires.two;
  last = subst (λ ks. IsLast ks c.push_ordered-c.new.arena.clauses
      (with_order c.args.i c.args.j (new_clause (ref (size_all ks)) c.args.id c.args.lits.now))
      c.push_ordered-c.result) c.reserve.ensures.clauses c.push_ordered-c.ensures.last;
  place = c.push_ordered-c.ensures.place ∙ ap (λ ks. ref (size_all ks)) c.reserve.ensures.clauses;
}

pub link_first-requires : goal.link_first-requires
link_first-requires c =
    let put = put (goal.at.link_first-requires c).After-push_ordered-c in
    record {
      few = put.chained.few;
      wide = put.chained.many;
      held = ordered_held put;
      two = ordered_two put;
      first = ordered_head put 0 (omega arith);
      second = ordered_head put 1 (omega arith);
    }

pub invariant_of-self-2 : goal.invariant_of-self-2
invariant_of-self-2 c =
    let put = put (goal.at.invariant_of-self-2 c).After-push_ordered-c in
    let i = c.self.inside in
    let added = ordered_added put c.link_first.new.arena.clauses c.link_first.new.heads.items
    c.link_first.ensures.clauses c.link_first.ensures.heads i.arena.spare
    c.link_first.new.arena.spare in
    record {
      chained =
          ordered_chained put c.link_first.new.arena.clauses c.link_first.new.heads.items
          c.link_first.ensures.clauses c.link_first.ensures.heads;
      tails =
          tails_added i.vars i.arena.clauses c.link_first.new.arena.clauses added.clause
          c.push_ordered-c.result i.tails added.last c.self.invariant.tails;
    }

pub returns-clause-chained : goal.returns-clause-chained
returns-clause-chained c = (invariant_of-self-2 c).chained

pub returns-clause-ok : goal.returns-clause-ok
returns-clause-ok c =
    rw (← c.self.view_is)
    (ordered_added (put (goal.at.returns-clause-ok c).After-push_ordered-c)
    c.link_first.new.arena.clauses c.link_first.new.heads.items c.link_first.ensures.clauses
    c.link_first.ensures.heads c.self.inside.arena.spare c.link_first.new.arena.spare)
