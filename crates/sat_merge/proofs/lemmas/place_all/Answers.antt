use Rattle.sat_merge.proofs.lemmas.place_all.Goals as goal

pub loop-input-init : goal.loop-input-init
loop-input-init c = λ log merge are. are

pub loop-input-preserved : goal.loop-input-preserved
loop-input-preserved c = λ log merge are.
    c.place_found.ensures log merge (c.loop-input.invariant log merge are)

pub returns : goal.returns
returns c = c.loop-input.invariant
