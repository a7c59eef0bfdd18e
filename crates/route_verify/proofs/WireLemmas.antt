-- Keys are tied exactly where wires are one.
use Rattle.std.proofs.Common.{◌≡◌, Bool, true, false, cond, Some, refl, sym, ◌∙◌}
use Rattle.std.specs.Prelude.{◌&&◌, ◌||◌, ◌==◌}
use Rattle.std.specs.Option.{option_map_or}
use Rattle.std.specs.Ordering.{is_eq}
use Rattle.list_laws.proofs.Ties.{nat_ties, then_ties}
use Rattle.fpga_bounds.proofs.KeyLemmas.{cond_or}
use Rattle.fpga_types.specs.Fabric.{same_axis}
use Rattle.fpga_types.specs.contracts.grid.AxisOrd.TheImpl as axis_ord
use Rattle.fpga_types.specs.declared.grid.Axis.{Axis}
use Rattle.fpga_types.specs.declared.grid.Axis.TheVariants.{X, Y}
use Rattle.fpga_types.specs.declared.grid.Wire.{Wire}
use Rattle.fpga_types.specs.declared.route.Elem.{Elem}
use Rattle.route_verify.specs.Lines.{is_on_wire}
use Rattle.route_verify.specs.Wires.{wire_cmp, wire_key}
use Rattle.route_verify.specs.Wiring.{elem_wire, same_wire}
use Rattle.route_verify.specs.declared.wires.WireKey.{WireKey}

axis_ties : (a b : Axis) → is_eq ((axis_ord.ghosts).cmp a b) ≡ same_axis b a
axis_ties X X = refl
axis_ties X Y = refl
axis_ties Y X = refl
axis_ties Y Y = refl

in_turn : (a x y t : Bool) → ((a && (x && y)) && t) ≡ ((a && x && y) && t)
in_turn false x y t = refl
in_turn true x y t = refl

-- keys tie where wires are one
pub wire_ties : (u v : Wire) → is_eq (wire_cmp (wire_key u) (wire_key v)) ≡ same_wire v u
wire_ties u v =
    then_ties _ _ _ _ (then_ties _ _ _ _ (axis_ties u.cell.axis v.cell.axis)
    (then_ties _ _ _ _ (nat_ties u.cell.x v.cell.x) (nat_ties u.cell.y v.cell.y)))
    (nat_ties u.track v.track)
    ∙ in_turn (same_axis v.cell.axis u.cell.axis) (v.cell.x == u.cell.x) (v.cell.y == u.cell.y)
    (v.track == u.track)

-- a line more, whose wire this is, by a key that was made of it
pub one_more_wire : (e : Elem) (wire other : Wire) (key : WireKey) (kept : Bool)
    → elem_wire e ≡ Some wire → key ≡ wire_key wire
    → cond (is_eq (wire_cmp key (wire_key other))) true kept ≡ (kept || is_on_wire other e)
one_more_wire e wire other key kept there is = rw is
    (cond_or (is_eq (wire_cmp (wire_key wire) (wire_key other))) kept (same_wire other wire)
    (wire_ties wire other)
    ∙ (λ i. kept || option_map_or (same_wire other) (sym there i) false))
