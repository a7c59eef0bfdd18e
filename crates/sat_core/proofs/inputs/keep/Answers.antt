use Rattle.std.proofs.Common.{inl, arith}
use Rattle.sat_core.proofs.InputLaws.{two_free}
use Rattle.sat_core.proofs.inputs.keep.Goals as goal

pub attach-requires-clause-may : goal.attach-requires-clause-may
attach-requires-clause-may c =
    inl (two_free c.args.watches.now c.args.lits.now c.requires.none_true c.requires.simple.once
    (omega (arith, c.if-lits-lt2.false)))
