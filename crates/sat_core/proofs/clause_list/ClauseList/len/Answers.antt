use Rattle.std.proofs.Common.{sym, ◌∙◌, ap, length}
use Rattle.sat_core.specs.ClauseList.{ClauseListState}
use Rattle.sat_core.proofs.ListLaws.{length-with_ids}
use Rattle.sat_core.proofs.clause_list.ClauseList.len.Goals as goal

pub returns : goal.returns
returns c =
    let p = c.self.inside in
    c.len.ensures
    ∙ sym (length-with_ids p.ids.items p.store.cnf.clauses c.self.invariant.many)
    ∙ ap (λ (s : ClauseListState). length s.clauses) c.self.view_is
