use Rattle.sat_clause.proofs.PartsLaws.{part_at}
use Rattle.sat_clause.proofs.parts.part.Goals as goal

pub returns : goal.returns
returns g c =
    rw (c.span-start.ensures.start, c.span-start.ensures.end)
    (part_at 0 c.args.items.now c.args.ends.now c.args.i c.requires.within)
