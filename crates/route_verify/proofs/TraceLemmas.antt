-- The nets of a global route by their names.
use Rattle.std.proofs.Common.{◌≡◌, ℕ, Option, Some, None, List, [], ap, ◌∙◌}
use Rattle.std.specs.Prelude.{option_and_then, slice_get}
use Rattle.std.specs.Option.{option_map_or}
use Rattle.list_laws.proofs.Searches.{find-position}
use Rattle.fpga_text.specs.Bytes.{Bytes}
use Rattle.fpga_types.specs.declared.route.RouteNet.{RouteNet}
use Rattle.route_verify.specs.Lines.{is_trace_named, trace_named}
use Rattle.route_verify.specs.Traces.{trace_number}

module _ (nets : List RouteNet) (name : Bytes) where
  -- the net at the position that a name has
  pub trace-at : (number : ℕ) → trace_number nets name ≡ Some number → (net : RouteNet)
      → slice_get nets number ≡ Some net → trace_named nets name ≡ net.elems
  trace-at number is net here =
      ap (λ (o : Option RouteNet). option_map_or (λ (n : RouteNet). n.elems) o [])
      (find-position (is_trace_named name) nets
      ∙ (λ i. option_and_then (slice_get nets) (is i)) ∙ here)

  -- a name without a position is of no net
  pub untraced : trace_number nets name ≡ None → trace_named nets name ≡ []
  untraced none =
      ap (λ (o : Option RouteNet). option_map_or (λ (n : RouteNet). n.elems) o [])
      (find-position (is_trace_named name) nets
      ∙ (λ i. option_and_then (slice_get nets) (none i)))
