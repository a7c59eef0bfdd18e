use Rattle.std.proofs.Common.{◌≡◌, ap, arith, ◌∙◌}
use Rattle.sat_watch.specs.Chains.{lit_at}
use Rattle.sat_watch.specs.Choice.{level_at}
use Rattle.sat_watch.proofs.ChoiceLemmas.{free_level_zero}
use Rattle.sat_watch.proofs.choice.is_higher.Goals as goal

pub returns-then-k-but-clause-not_higher : goal.returns-then-k-but-clause-not_higher
returns-then-k-but-clause-not_higher c =
    let t = c.args.trail.now.entries in let lits = c.args.lits.now in
    let none : level_at t lits c.args.k ≡ 0 =
    ap (level_at t lits) c.if-k-but.true ∙ free_level_zero t (lit_at lits c.args.but)
    c.requires.only.1 in
    λ e. omega (arith, none)
