use Rattle.sat_watch.specs.Chains.{lit_at}
use Rattle.sat_watch.proofs.ChoiceLemmas.{false_level_is}
use Rattle.sat_watch.proofs.choice.false_level.Goals as goal

pub returns : goal.returns
returns c =
    false_level_is c.args.trail.now.entries (lit_at c.args.lits.now c.args.k) c.level_of.result
    c.requires.is_false c.level_of.ensures.is_false
