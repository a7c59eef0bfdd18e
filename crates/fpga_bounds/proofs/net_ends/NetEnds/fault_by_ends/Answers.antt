use Rattle.std.proofs.Common.{◌∙◌, ap}
use Rattle.fpga_text.specs.Codes.{first_code}
use Rattle.fpga_types.specs.Fits.{device_of, problem_codes}
use Rattle.fpga_bounds.specs.NetEnds.{NamedNet}
use Rattle.fpga_bounds.specs.ProblemContext.{problem_context_at}
use Rattle.fpga_bounds.specs.declared.problem_context.ProblemContext.{ProblemContext}
use Rattle.fpga_bounds.proofs.LineFaultLemmas.{by-ends}
use Rattle.fpga_bounds.proofs.net_ends.NetEnds.fault_by_ends.Goals as goal

pub returns : goal.returns
returns c = λ line named is.
    c.problem_fault.ensures
    ∙ (λ i. first_code problem_codes
    (device_of ((c.design.view_is ∙ ap (λ (n : NamedNet). n.problem) c.self.view_is) i))
    (ap (λ (at : ProblemContext). at.route.elem.line) c.context.ensures i)
    (problem_context_at (c.context.ensures i)))
    ∙ by-ends c.args.at c.args.seen.now line is c.args.self.now named
