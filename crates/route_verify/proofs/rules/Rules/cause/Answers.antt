use Rattle.std.proofs.Common.{◌∙◌, ap}
use Rattle.fpga_bounds.specs.declared.problem_context.ProblemContext.{ProblemContext}
use Rattle.fpga_text.specs.Codes.{first_code}
use Rattle.route_verify.specs.Reach.{causes_within}
use Rattle.route_verify.specs.Rules.{net_of, reached_at}
use Rattle.route_verify.proofs.RuleLemmas.{by-rules}
use Rattle.route_verify.proofs.rules.Rules.cause.Goals as goal

pub returns : goal.returns
returns c = λ line named is.
    c.line_cause.ensures
    ∙ (λ i. first_code (causes_within (c.reach.ensures i)) (c.wiring.ensures i)
    (ap (λ (fit : ProblemContext). fit.route.elem.line) c.context.ensures i) (reached_at (record {
      fit = c.context.ensures i;
      wire_again = c.args.at.wire_again;
      wire_taken = c.args.at.wire_taken;
      stray = c.is_stray.result;
      depth = c.args.at.depth;
    })))
    ∙ by-rules c.args.at c.args.seen.now line is c.args.self.now.reach c.args.self.now.width
    (net_of c.args.self.now)
    c.is_stray.result named c.is_stray.ensures
