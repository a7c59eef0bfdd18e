use Rattle.std.proofs.Common.{◌≡◌, ◌∙◌, Option, None, sym, ap}
use Rattle.std.specs.Option.{option_or}
use Rattle.fpga_text.specs.declared.fault.TextFault.{TextFault}
use Rattle.fpga_types.specs.Fit.{line_fault}
use Rattle.fpga_types.specs.Fits.{problem_fault}
use Rattle.fpga_types.specs.Problem.{RoutingProblem}
use Rattle.fpga_bounds.specs.NetEnds.{NamedNet}
use Rattle.fpga_bounds.proofs.LineFaultLemmas.{by-route}
use Rattle.fpga_bounds.proofs.net_ends.NetEnds.fault.Goals as goal

pub returns : goal.returns
returns c = λ line named is.
    let none : problem_fault c.args.self.now.problem line ≡ None =
    sym (c.fault_by_ends.ensures line named is) ∙ c.in_default.is in
    c.elem_fault.ensures ∙ by-route c.args.at c.args.seen.now line is _
    ∙ ap (λ (p : RoutingProblem). line_fault p.route.grid line)
    (c.design.view_is ∙ ap (λ (n : NamedNet). n.problem) c.self.view_is)
    ∙ ap (λ (o : Option TextFault). option_or o
    (line_fault c.args.self.now.problem.route.grid line)) (sym none)
