use Rattle.std.proofs.Common.{sym, ◌∙◌, ◌≡◌, ◌++◌, ◌∷◌, [], None, ap, length, subst, arith}
use Rattle.sat_clause.specs.Live.{clause_at}
use Rattle.sat_core.specs.ClauseList.{ClauseListState}
use Rattle.sat_core.proofs.ListLaws.{length-with_ids, list_push, with_ids_push}
use Rattle.sat_core.proofs.clause_list.ClauseList.add.Goals as goal

pub reserve-requires-2-clause-few_clauses : goal.reserve-requires-2-clause-few_clauses
reserve-requires-2-clause-few_clauses c =
    let p = c.self.inside in
    let many = ap (λ (s : ClauseListState). length s.clauses) c.self.view_is in
    omega (
      arith,
      c.requires.few,
      many,
      length-with_ids p.ids.items p.store.cnf.clauses
          c.self.invariant.many,
    )

pub invariant_of-self-2 : goal.invariant_of-self-2
invariant_of-self-2 c =
    let p = c.self.inside in
    let new = subst (λ (s : ClauseListState). clause_at s.clauses c.args.id ≡ None)
    (sym c.self.view_is) c.requires.new in
    let more : c.push.new.self.cnf.clauses ≡ p.store.cnf.clauses ++ c.args.lits.now ∷ [] =
    c.push.ensures.clauses ∙ ap (λ s. s.cnf.clauses ++ c.args.lits.now ∷ [])
    c.in_ok-reserve-2.ensures.ok in
    rw (c.push_reserved.ensures.items, c.in_ok-reserve.ensures.items)
    (list_push p.ids.items p.store.cnf c.push.new.self.cnf c.args.id c.args.lits.now
    c.self.invariant new more)

pub returns-clause-ok : goal.returns-clause-ok
returns-clause-ok c =
    let p = c.self.inside in
    let more : c.push.new.self.cnf.clauses ≡ p.store.cnf.clauses ++ c.args.lits.now ∷ [] =
    c.push.ensures.clauses ∙ ap (λ s. s.cnf.clauses ++ c.args.lits.now ∷ [])
    c.in_ok-reserve-2.ensures.ok in
    rw (c.push_reserved.ensures.items, c.in_ok-reserve.ensures.items, more, ← c.self.view_is)
    (with_ids_push p.ids.items p.store.cnf.clauses c.args.id c.args.lits.now c.self.invariant.many)
