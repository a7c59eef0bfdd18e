use Rattle.std.proofs.Common.{◌∙◌, None, ap, false}
use Rattle.fpga_bounds.specs.declared.problem_context.ProblemContext.{ProblemContext}
use Rattle.fpga_text.specs.Codes.{first_code}
use Rattle.route_judge.specs.Judged.{placed_causes}
use Rattle.route_judge.specs.Rules.{net_of}
use Rattle.route_judge.proofs.RuleLemmas.{by-rules}
use Rattle.route_judge.proofs.rules.Rules.cause.Goals as goal
use Rattle.route_verify.specs.Rules.{judged_at}

pub returns : goal.returns
returns c = λ line named is.
    c.line_cause.ensures
    ∙ (λ i. first_code (placed_causes (c.is_strict.ensures i)) (c.wiring.ensures i)
    (ap (λ (fit : ProblemContext). fit.route.elem.line) c.context.ensures i) (judged_at (record {
      fit = c.context.ensures i;
      wire_again = c.args.at.wire_again;
      wire_taken = c.args.at.wire_taken;
      stray = false;
      depth = None;
    })))
    ∙ by-rules c.args.at c.args.seen.now line is c.args.self.now.strict c.args.self.now.width
    (net_of c.args.self.now) named
