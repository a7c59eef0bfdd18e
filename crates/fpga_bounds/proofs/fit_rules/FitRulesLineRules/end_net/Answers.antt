use Rattle.std.proofs.Common.{◌∙◌, sym, [], ◌∷◌, ◌++◌}
use Rattle.fpga_bounds.proofs.SlotsOfLemmas.{slots-start}
use Rattle.fpga_bounds.proofs.fit_rules.FitRulesLineRules.end_net.Goals as goal

pub returns : goal.returns
returns c = λ earlier kept next. kept ∙ sym (slots-start (earlier ++ c.args.arg4.now ∷ []) next)
