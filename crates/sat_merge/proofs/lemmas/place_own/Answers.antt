use Rattle.sat_merge.proofs.LemmaLaws.{kept_at}
use Rattle.sat_merge.proofs.lemmas.place_own.Goals as goal

pub returns : goal.returns
returns c merged log merge are =
    let own = c.is_kept_input.ensures c.if-not-is_kept_input.false in
    rw c.put.ensures.put
    (kept_at are c.args.input own.0 merge own.1 own.2 own.3 c.put.ensures.within)
