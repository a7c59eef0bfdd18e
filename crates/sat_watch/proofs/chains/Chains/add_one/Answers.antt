use Rattle.std.proofs.Common.{◌∷◌, [], ◌++◌, refl, sym, ap, ◌∙◌, subst, arith}
use Rattle.sat_arena.specs.Store.{Stored, new_clause, ref, size_all}
use Rattle.sat_watch.specs.Chains.{IsChained, IsLast}
use Rattle.sat_watch.proofs.AttachLemmas.{last_pushed, short_attached}
use Rattle.sat_watch.proofs.TailLemmas.{tails_added}
use Rattle.sat_watch.proofs.chains.Chains.add_one.Goals as goal
use Rattle.sat_watch.proofs.chains.Chains.add_one.Goals.{After-push}

abbrev given : After-push → Stored
given c = new_clause (ref (size_all c.self.inside.arena.clauses)) c.args.id c.args.lits.now

-- the clause stands last
last : (c : After-push) →
    IsLast c.self.inside.arena.clauses c.push.new.self.clauses (given c) c.push.result
last c =
    let ks = c.self.inside.arena.clauses in
    last_pushed ks c.push.new.self.clauses (given c) c.push.result c.self.invariant.chained.placed
    refl (c.push.ensures.result ∙ ap (λ l. ref (size_all l)) c.reserve.ensures.clauses)
    (c.push.ensures.clauses
    ∙ ap (λ l. l ++ new_clause (ref (size_all l)) c.args.id c.args.lits.now ∷ [])
    c.reserve.ensures.clauses)

pub invariant_of-self-2 : goal.invariant_of-self-2
invariant_of-self-2 c =
    let at = (goal.at.invariant_of-self-2 c).After-push in let i = c.self.inside in
    let given_simple = rw (← c.self.view_is) at c.requires.simple in
    record {
      chained =
          subst (λ l. IsChained i.vars l i.heads.items) (sym (last at).is)
          (short_attached i.vars i.arena.clauses i.heads.items (given at) c.self.invariant.chained
          given_simple refl refl (omega (arith, c.requires.one)));
      tails =
          tails_added i.vars i.arena.clauses c.push.new.self.clauses (given at) c.push.result
          i.tails (last at) c.self.invariant.tails;
    }

pub returns-clause-chained : goal.returns-clause-chained
returns-clause-chained c = (invariant_of-self-2 c).chained

pub returns-clause-ok : goal.returns-clause-ok
returns-clause-ok c =
    let at = (goal.at.returns-clause-ok c).After-push in
    rw (← c.self.view_is) (record {
      clause = given at;
      last = last at;
      place = sym (last at).place;
      lits = refl;
      is_id = refl;
      vars = refl;
    })
