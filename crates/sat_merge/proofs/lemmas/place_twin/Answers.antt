use Rattle.std.proofs.Common.{◌∙◌, ◌≤◌, Some, ap, arith, get_or, sym}
use Rattle.sat_clause.specs.Literal.{Clause}
use Rattle.sat_merge.proofs.LemmaLaws.{twin_at}
use Rattle.sat_merge.proofs.lemmas.place_twin.Goals as goal

pub returns : goal.returns
returns c is_representative formula log are =
    let same = c.are_same.ensures c.if-not-are_same.false in
    let some : 1 ≤ get_or c.args.places.now.ids c.args.other 0 =
    omega (arith, c.of-id.ensures, c.if-id-eq0.false) in
    rw (c.put.ensures.put, c.of-id.ensures)
    (twin_at are c.args.input c.args.other c.clause-own.result.now (omega arith) (omega arith)
    c.clause-own.ensures.value
    (c.clause-twin.ensures.value ∙ ap (λ (d : Clause). Some d) (sym same)) some
    (c.put.ensures.within))
