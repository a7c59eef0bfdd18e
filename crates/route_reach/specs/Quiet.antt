-- Lines against which there is no cause within a reach.
use Rattle.std.specs.Prelude.{◌≡◌, ℕ, false}
use Rattle.fpga_graph.specs.GraphOf.{GraphOf}
use Rattle.route_verify.specs.Lines.{is_too_high, is_unconnected, is_unfit}
use Rattle.route_verify.specs.Reach.{ReachLine, is_past_reach, repeats_wire}

-- none of the causes holds at a line
pub record IsQuiet (g : GraphOf) (reach : ℕ) (at : ReachLine) : Type 0 where
  pub connected : is_unconnected g at.line ≡ false
  pub low : is_too_high g at.line ≡ false
  pub alone : at.line.wire_taken ≡ false
  pub near : at.line.stray ≡ false
  pub new : repeats_wire at.line ≡ false
  pub whole : at.line.fit.lacking ≡ false
  pub fitting : is_unfit g at.line ≡ false
  pub short : is_past_reach reach at ≡ false
