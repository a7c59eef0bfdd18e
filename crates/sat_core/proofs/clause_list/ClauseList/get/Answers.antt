use Rattle.std.proofs.Common.{◌≡◌, ◌<◌, Some, ap, length, slice_get, arith}
use Rattle.std.proofs.lemmas.Option.{slice_get_read}
use Rattle.sat_core.specs.ClauseList.{ClauseListState}
use Rattle.sat_core.proofs.ListLaws.{length-with_ids, with_ids_at}
use Rattle.sat_core.proofs.clause_list.ClauseList.get.Goals as goal
use Rattle.sat_core.proofs.clause_list.ClauseList.get.Goals.{After-index}

-- the id that is read stands at the position
id_at : (c : After-index) → slice_get c.self.inside.ids.items c.args.i ≡ Some c.index.result.now
id_at c =
    let p = c.self.inside in
    let many = ap (λ (s : ClauseListState). length s.clauses) c.self.view_is in
    let below : c.args.i < length p.ids.items =
    omega (
      arith,
      c.requires,
      many,
      length-with_ids p.ids.items p.store.cnf.clauses
          c.self.invariant.many,
      c.self.invariant.many,
    ) in
    slice_get_read p.ids.items (length p.ids.items) c.args.i c.index.result.now
    (search arith) below c.index.ensures

pub index-requires : goal.index-requires
index-requires c =
    let p = c.self.inside in
    let many = ap (λ (s : ClauseListState). length s.clauses) c.self.view_is in
    omega (
      arith,
      c.requires,
      many,
      length-with_ids p.ids.items p.store.cnf.clauses
          c.self.invariant.many,
      c.self.invariant.many,
      p.ids.ok.0,
    )

pub clause-requires : goal.clause-requires
clause-requires c =
    let p = c.self.inside in
    let many = ap (λ (s : ClauseListState). length s.clauses) c.self.view_is in
    omega (
      arith,
      c.requires,
      many,
      length-with_ids p.ids.items p.store.cnf.clauses
          c.self.invariant.many,
    )

pub returns-clause-at : goal.returns-clause-at
returns-clause-at c =
    let p = c.self.inside in
    rw (← c.self.view_is) (with_ids_at p.ids.items p.store.cnf.clauses c.args.i c.index.result.now
    c.clause.result.now (id_at (goal.at.returns-clause-at c).After-index) c.clause.ensures.value)

pub returns-clause-found : goal.returns-clause-found
returns-clause-found c =
    rw (← c.self.view_is) (c.self.invariant.found c.args.i c.index.result.now c.clause.result.now
    (id_at (goal.at.returns-clause-found c).After-index) c.clause.ensures.value)
