-- What the codes of an element line look at that are not those of the route alone, as the code has
-- it. Those of a Net line are not looked at.
use Rattle.std.specs.Prelude.{true, false, not, ◌&&◌}
use Rattle.std.specs.BTreeSet.{BTreeSet}
use Rattle.std.specs.List.{list_any}
use Rattle.fpga_types.specs.Fits.{ProblemContext as LineOfProblem}
use Rattle.fpga_types.specs.Terminals.{driver_named, is_input, is_terminal, sinks_named}
use Rattle.fpga_bounds.specs.ElemContext.{context_at}
use Rattle.fpga_bounds.specs.NetEnds.{NamedNet, lacks_one}
use Rattle.fpga_bounds.specs.declared.elem_context.ElemContext.{ElemContext}
use Rattle.fpga_bounds.specs.declared.keys.ElemKey.{ElemKey}
use Rattle.fpga_bounds.specs.declared.problem_context.ProblemContext.{ProblemContext}

abbrev pub problem_context_at : ProblemContext → LineOfProblem
problem_context_at at = record {
  route = context_at at.route;
  known = true;
  repeated = false;
  driver = at.driver;
  ends = at.ends;
  takes_in = at.takes_in;
  lacking = at.lacking;
}

-- of a line of the net, where the set has the elements of the net up to it
abbrev pub context_by : NamedNet → ElemContext → BTreeSet ElemKey → ProblemContext
context_by net at seen = record {
  route = at;
  driver = driver_named net.problem net.name;
  ends = list_any (is_terminal at.elem) (sinks_named net.problem net.name);
  takes_in = is_input net.problem at.elem;
  lacking = not at.global && at.last && lacks_one seen (sinks_named net.problem net.name);
}
