use Rattle.sat_merge.specs.Representatives.{keeps}
use Rattle.sat_merge.proofs.lemmas.place_found.Goals as goal

pub returns : goal.returns
returns c log merge are =
    c.place_twin.ensures (keeps c.args.representatives.now) c.args.formula.now.cnf log
    (c.place_own-2.ensures c.args.merged.now.cnf log merge
    (c.place_own.ensures c.args.merged.now.cnf log merge are))
