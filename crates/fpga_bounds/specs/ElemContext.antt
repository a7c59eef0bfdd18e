-- What the codes of an element line look at, as the code has it.
use Rattle.std.specs.Prelude.{◌≡◌, Bool, Some}
use Rattle.std.specs.BTreeSet.{BTreeSet}
use Rattle.std.specs.List.{list_any}
use Rattle.fpga_types.specs.Fit.{LineContext, RouteLine, context_of, same_elem}
use Rattle.fpga_types.specs.Fits.{so_far}
use Rattle.fpga_types.specs.declared.route.Elem.{Elem}
use Rattle.fpga_bounds.specs.Keys.{has_elem}
use Rattle.fpga_bounds.specs.declared.elem_context.ElemContext.{ElemContext}
use Rattle.fpga_bounds.specs.declared.keys.ElemKey.{ElemKey}

abbrev pub context_at : ElemContext → LineContext
context_at at = record {
  elem = Some at.elem;
  previous = at.previous;
  again = at.again;
  taken = at.taken;
  full = at.full;
  last = at.last;
  global = at.global;
}

-- the line of an element with this context, where the set has the elements of its net up to it
pub record IsLineOf (at : ElemContext) (seen : BTreeSet ElemKey) (line : RouteLine) : Type 0 where
  pub elem : line.elem ≡ Some at.elem
  pub context : context_at at ≡ context_of line
  pub seen_are : (e : Elem) → has_elem seen e ≡ list_any (same_elem e) (so_far line)

-- the same, with another word on whether the slots are full
abbrev pub with_full : ElemContext → Bool → ElemContext
with_full at full = record at { full = full }
