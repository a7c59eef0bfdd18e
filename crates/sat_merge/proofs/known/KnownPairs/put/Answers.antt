use Rattle.sat_merge.proofs.LemmaLaws.{known_put}
use Rattle.sat_merge.proofs.known.KnownPairs.put.Goals as goal

pub returns-clause-more : goal.returns-clause-more
returns-clause-more c =
    rw (← c.self.view_is)
    (known_put c.self.inside.ids.entries c.insert.new.self.entries c.self.inside.wanted.items
    c.key_of-key.result c.args.input c.in-Ok.ensures.updates.0)
