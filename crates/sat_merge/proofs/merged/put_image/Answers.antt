use Rattle.std.proofs.Common.{[]}
use Rattle.std.proofs.lemmas.List.Elements.{All-cons, All-nil}
use Rattle.sat_clause.specs.Literal.{IsWithin}
use Rattle.sat_merge.proofs.merged.put_image.Goals as goal

pub returns-clause-within : goal.returns-clause-within
returns-clause-within c = λ vars many within.
    rw (c.in_ok-push.ensures.items, c.clear.ensures.items)
    (All-cons (IsWithin vars) c.in-Some.represented [] (c.in-Some.ensures vars many)
    (All-nil (IsWithin vars)))
