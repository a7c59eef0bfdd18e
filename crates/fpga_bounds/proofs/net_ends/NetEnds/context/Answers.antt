use Rattle.std.proofs.Common.{◌∙◌, ap}
use Rattle.fpga_types.specs.Terminals.{is_input}
use Rattle.fpga_bounds.specs.NetEnds.{NamedNet}
use Rattle.fpga_bounds.proofs.net_ends.NetEnds.context.Goals as goal

pub returns : goal.returns
returns c = λ i. record {
  route = c.args.at;
  driver = c.driver.ensures i;
  ends = c.is_sink.ensures i;
  takes_in = (c.is_input.ensures
      ∙ ap (λ (n : NamedNet). is_input n.problem c.args.at.elem) c.self.view_is) i;
  lacking = c.is_lacking.ensures i;
}
