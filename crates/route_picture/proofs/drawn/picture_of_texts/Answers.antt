use Rattle.std.proofs.Common.{ap, subst, ◌∙◌}
use Rattle.std.proofs.lemmas.Result.{MatchResult-weaker}
use Rattle.fpga_problem.specs.Texts.{AreFaultless, problem_said}
use Rattle.fpga_problem.specs.declared.source.TheConstants.{TEXT_BYTES}
use Rattle.route_picture.specs.Words.{words_said}
use Rattle.route_picture.proofs.DrawnLemmas.{refused-of}
use Rattle.route_picture.proofs.drawn.picture_of_texts.Goals as goal

pub returns-in-Err : goal.returns-in-Err
returns-in-Err c = λ before now are.
    refused-of (words_said c.args.words) TEXT_BYTES before now _ _ c.in-Err.refusal are
    c.four.ensures c.in-Err.ensures

pub returns : goal.returns
returns c =
    let faultless = subst AreFaultless c.four.ensures c.in-Ok.ensures.0 in
    let said = c.in-Ok.ensures.1 ∙ ap problem_said c.four.ensures in
    MatchResult-weaker c.picture_of_problem.result c.picture_of_problem.ensures
    (λ picture drawn files are. drawn files are faultless said)
    (λ stop undrawn before now are. undrawn before now are faultless said)
