-- The nets of a global route by their names, and what a set of elements has of one.
use Rattle.std.specs.Prelude.{◌≡◌, ℕ, ◌||◌, List, Option}
use Rattle.std.specs.BTreeMap.{BTreeMap}
use Rattle.std.specs.BTreeSet.{BTreeSet}
use Rattle.std.specs.Borrow.{Bor}
use Rattle.std.specs.List.{list_any, position_from}
use Rattle.fpga_bounds.specs.Keys.{has_elem}
use Rattle.fpga_bounds.specs.declared.keys.ElemKey.{ElemKey}
use Rattle.fpga_text.specs.Bytes.{Bytes}
use Rattle.fpga_types.specs.Fit.{same_elem}
use Rattle.fpga_types.specs.Names.{number_in}
use Rattle.fpga_types.specs.declared.route.Elem.{Elem}
use Rattle.fpga_types.specs.declared.route.RouteNet.{RouteNet}
use Rattle.route_verify.specs.Lines.{is_trace_named}

-- the position of the first net with this name
abbrev pub trace_number : List RouteNet → Bytes → Option ℕ
trace_number nets name = position_from (is_trace_named name) 0 nets

-- each name has the position of the first net with this name, if there is one
pub record AreTraced (nets : List RouteNet) (numbers : BTreeMap (Bor Bytes) ℕ) : Type 0 where
  pub found : (name : Bytes) → number_in numbers name ≡ trace_number nets name

-- the set afterwards has what it had before, and what equals one of the elements
abbrev pub GainsElems : BTreeSet ElemKey → List Elem → BTreeSet ElemKey → Type 0
GainsElems before elems after = (e : Elem) → has_elem after e
    ≡ (has_elem before e || list_any (same_elem e) elems)

-- the set has exactly what equals one of the elements
abbrev pub HasElems : BTreeSet ElemKey → List Elem → Type 0
HasElems set elems = (e : Elem) → has_elem set e ≡ list_any (same_elem e) elems
