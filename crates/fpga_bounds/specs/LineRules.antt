-- The element line to which the reading of a route has come.
use Rattle.std.specs.Prelude.{◌≡◌, ◌-◌, ◌^◌, ◌<◌, suc, length, slice_get, take, drop, Some}
use Rattle.fpga_types.specs.Fit.{RouteLine, context_of}
use Rattle.fpga_types.specs.declared.limits.TheConstants.{NET_LIMIT}
use Rattle.fpga_bounds.specs.ElemContext.{IsLineOf, with_full}
use Rattle.fpga_bounds.specs.NetFit.{line_at}
use Rattle.fpga_bounds.specs.declared.line_rules.ElemAt.{ElemAt}

-- the line of the element
abbrev pub line_here : ElemAt → RouteLine
line_here at = line_at at.earlier.now at.net.now (
  take at.position at.net.now.elems,
  at.context.elem,
  drop (suc at.position) at.net.now.elems,
)

-- the element stands at the position in its net, and the rest is of its line, but for how many
-- slots there are
pub record IsElemAt (at : ElemAt) : Type 0 where
  pub nets : length at.earlier.now < NET_LIMIT
  pub position : at.position < 2 ^ 64 - 1
  pub elem : slice_get at.net.now.elems at.position ≡ Some at.context.elem
  pub line : IsLineOf (with_full at.context (context_of (line_here at)).full) at.seen.now
      (line_here at)
