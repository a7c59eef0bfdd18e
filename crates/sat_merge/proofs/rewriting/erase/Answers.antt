use Rattle.std.proofs.Common.{◌≡◌, ◌∙◌, All, None, false, length, sym}
use Rattle.std.specs.Prelude.{is_some}
use Rattle.sat_clause.specs.Judge.{erase_fault}
use Rattle.sat_core.specs.Stands.{IsAbove, live_after}
use Rattle.sat_core.proofs.DecideLaws.{is_none_none}
use Rattle.sat_merge.proofs.SearchedLaws.{next_erased}
use Rattle.sat_merge.proofs.rewriting.erase.Goals as goal

pub returns-clause-erased : goal.returns-clause-erased
returns-clause-erased c is formula steps keeps many rewriting =
    let live = live_after formula c.args.log.now.steps in
    let all : is_some c.erase.result ≡ false = sym c.is_some.ensures ∙ c.if-is_some.false in
    let good : erase_fault live c.args.ids.now ≡ None =
    sym (c.erase.ensures.fault live rewriting.found) ∙ is_none_none c.erase.result all in
    let above : All (IsAbove (length formula.clauses)) c.args.ids.now =
    rw many (c.are_above.ensures c.if-not-are_above.false) in
    rw (c.erase-2.ensures.steps, c.in_ok-reserve.ensures.kept)
    (next_erased rewriting c.erase.new.self c.args.id c.args.ids.now good above
    (c.erase.ensures.live all live rewriting.found))
