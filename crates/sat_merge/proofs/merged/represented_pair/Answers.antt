use Rattle.sat_merge.proofs.MergedLaws.{within_both}
use Rattle.sat_merge.proofs.merged.represented_pair.Goals as goal

pub returns : goal.returns
returns c = λ vars many.
    within_both vars c.in-Some.one c.in-Some-represented_literal.other (c.in-Some.ensures vars many)
    (c.in-Some-represented_literal.ensures vars many)
