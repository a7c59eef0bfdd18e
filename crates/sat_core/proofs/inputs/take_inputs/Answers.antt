use Rattle.sat_core.specs.Inputs.{no_singles, pairs_below}
use Rattle.sat_core.proofs.InputLaws.{pairs_all, pairs_none, taken_none}
use Rattle.sat_core.proofs.inputs.take_inputs.Goals as goal

pub attach_pairs-requires-clause-none : goal.attach_pairs-requires-clause-none
attach_pairs-requires-clause-none c =
    taken_none c.args.formula.now.cnf (pairs_below 0) c.in_ok-watches.watches pairs_none c.requires
    (rw (← c.vars.ensures.value) c.vars.ensures.few)
    (rw (← c.vars.ensures.value) c.in_ok-watches.ensures)

pub keep_others-requires-clause-pairs : goal.keep_others-requires-clause-pairs
keep_others-requires-clause-pairs c =
    let cnf = c.args.formula.now.cnf in
    rw (c.in_ok-singles.ensures, c.vars-2.ensures.value, c.make_tails.ensures)
    (pairs_all cnf (no_singles cnf) c.attach_pairs.new.watches c.in_ok-others.ensures.taken)
