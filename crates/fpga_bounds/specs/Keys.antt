-- The orders by which elements and slots are kept, and what a set of elements and a table of slots
-- have.
use Rattle.std.specs.Prelude.{◌≡◌, Bool, ◌&&◌, ◌||◌, List, if◌then◌else◌}
use Rattle.std.specs.List.{list_any}
use Rattle.std.specs.declared.cmp.Ordering.{Ordering}
use Rattle.std.specs.BTreeSet.{BTreeSet, contains}
use Rattle.fpga_types.specs.Fit.{same_elem, same_pin}
use Rattle.fpga_types.specs.Kinds.{is_channel, is_pin}
use Rattle.fpga_types.specs.declared.route.Elem.{Elem}
use Rattle.fpga_types.specs.declared.route.ElemKind.TheVariants.{Ipin}
use Rattle.fpga_bounds.specs.declared.keys.ElemKey.{ElemKey}
use Rattle.fpga_bounds.specs.contracts.keys.ElemKeyOrd.TheImpl as elem_key_ord

-- the order of keys
abbrev pub key_cmp : ElemKey → ElemKey → Ordering
key_cmp = (elem_key_ord.ghosts).cmp

-- what two equal elements have in common
abbrev pub elem_key : Elem → ElemKey
elem_key e = record {
  kind = e.kind;
  x = e.x;
  y = e.y;
  label = e.label;
  number = if is_channel e.kind then 0 else e.number;
}

-- what two elements at one pin have in common
abbrev pub pin_key : Elem → ElemKey
pin_key e = record { kind = Ipin; x = e.x; y = e.y; label = e.label; number = e.number }

-- the set has an element that equals this one
abbrev pub has_elem : BTreeSet ElemKey → Elem → Bool
has_elem seen e = contains key_cmp seen (elem_key e)

-- the element is a pin, and the set has it
abbrev pub has_pin : BTreeSet ElemKey → Elem → Bool
has_pin pins e = is_pin e.kind && contains key_cmp pins (pin_key e)

-- the set afterwards has what it had before, and what equals the element
abbrev pub GainsElem : BTreeSet ElemKey → Elem → BTreeSet ElemKey → Type 0
GainsElem before e after = (q : Elem) → has_elem after q ≡ (has_elem before q || same_elem q e)

-- the set afterwards has the pins that it had before, and the element's if it is one
abbrev pub GainsPin : BTreeSet ElemKey → Elem → BTreeSet ElemKey → Type 0
GainsPin before e after = (q : Elem) → has_pin after q ≡ (has_pin before q || same_pin q e)

-- the set afterwards has the pins that it had before, and those of the elements
abbrev pub GainsPins : BTreeSet ElemKey → List Elem → BTreeSet ElemKey → Type 0
GainsPins before elems after =
    (q : Elem) → has_pin after q ≡ (has_pin before q || list_any (same_pin q) elems)
