use Rattle.std.proofs.Common.{refl, arith}
use Rattle.sat_text.proofs.DraftLemmas.{takes_excess}
use Rattle.sat_text.proofs.draft.Draft.take_number.Goals as goal

pub returns-then-len-most-clause-taken : goal.returns-then-len-most-clause-taken
returns-then-len-most-clause-taken c _ =
    takes_excess c.args.self.now _ c.args.number refl refl
    (omega (arith, c.if-len-most.true, c.len.ensures))
