use Rattle.std.proofs.Common.{◌≡◌, ◌≢◌, ◌++◌, ◌∷◌, ◌∙◌, List, [], ℤ, length, ap, sym}
use Rattle.std.proofs.lemmas.Bool.{both_ways, eq-eqb}
use Rattle.sat_clause.specs.Step.{Erased}
use Rattle.sat_watch.specs.Delete.{OthersMove, deleted}
use Rattle.sat_core.specs.Delete.{MayGo, ids_of}
use Rattle.sat_core.proofs.DeleteLaws.{trail_stays}
use Rattle.sat_core.proofs.deleting.delete_some.Goals as goal

pub returns-clause-erased : goal.returns-clause-erased
returns-clause-erased c is_so =
    let w = c.args.watches.now in
    let now = c.delete.new.self in
    let chosen = c.in_ok-deleted.deleted in
    let refs = chosen.items in
    let says = c.in_ok-deleted.ensures in
    let may : MayGo w c.args.above refs = record {
      attached = says.attached;
      learned = says.learned;
      no_reason = says.no_reason;
      apart = says.apart;
    } in
    let some : refs ≢ [] = λ none. both_ways _ (sym c.is_empty.ensures ∙ c.if-is_empty.false)
    (eq-eqb chosen.len 0 (chosen.ok.0 ∙ ap length none)) in
    let is : now ≡ deleted refs w =
    rw (← c.deref-2.ensures.value) c.in_ok-delete.ensures.ok in
    let others : OthersMove refs w.clauses now.clauses =
    rw (← c.deref-2.ensures.value) c.in_ok-delete.ensures.others in
    let before = c.args.log.now.steps in
    let ids = c.in_ok-ids.ids.items in
    let ids_are : ids ≡ ids_of w.clauses refs =
    rw (← c.deref.ensures.value) c.in_ok-ids.ensures in
    let said : c.erase.new.self.steps ≡ before ++ Erased c.args.own ids ∷ [] =
    rw (← c.deref-3.ensures.value, ← c.in_ok-reserve.ensures.kept) c.erase.ensures.steps in
    record {
      refs = refs;
      some = some;
      may = may;
      is = is;
      others = others;
      trail = trail_stays refs w now says.levels may.no_reason is others;
      step = said ∙ ap (λ (them : List ℤ). before ++ Erased c.args.own them ∷ []) ids_are;
    }
