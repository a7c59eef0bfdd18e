-- What is kept of the lines of a net for the depths of its channel lines.
use Rattle.std.specs.Prelude.{◌≡◌, ℕ, ◌+◌, Bool, true, List, find, Option, Some, None, option_map, option_and_then, if◌then◌else◌}
use Rattle.std.specs.BTreeMap.{BTreeMap, get}
use Rattle.std.specs.List.{last_or}
use Rattle.fpga_bounds.specs.Keys.{key_cmp}
use Rattle.fpga_bounds.specs.declared.keys.ElemKey.{ElemKey}
use Rattle.fpga_types.specs.Fit.{same_elem}
use Rattle.fpga_types.specs.Kinds.{is_channel, is_opin, is_sink}
use Rattle.fpga_types.specs.declared.route.Elem.{Elem}
use Rattle.fpga_types.specs.declared.route.ElemKind.{ElemKind}
use Rattle.route_verify.specs.Depths.{DeepLine, deep_lines, same_tracked}
use Rattle.route_verify.specs.Reach.{depth_at_pin}
use Rattle.route_verify.specs.declared.depths.LineDepths.{LineDepths}

-- the lines are equal, channel lines with their tracks or without them
abbrev pub same_by : (tracked : Bool) → Elem → Elem → Bool
same_by tracked a b = if tracked then same_tracked a b else same_elem a b

-- what equal channel lines have in common
abbrev pub line_key : (tracked : Bool) → Elem → ElemKey
line_key tracked e = record {
  kind = e.kind;
  x = e.x;
  y = e.y;
  label = e.label;
  number = if tracked then e.number else 0;
}

-- the depth that is kept under a key, if there is one
abbrev pub first_depth : BTreeMap ElemKey (Option ℕ) → ElemKey → Option ℕ
first_depth firsts key = option_and_then (λ depth. depth) (get key_cmp firsts key)

-- the lines with their depths, for what says which of them are equal
abbrev pub deep_of : LineDepths → List Elem → List DeepLine
deep_of depths elems = deep_lines (same_by depths.tracked) elems

-- the first line that a line equals
abbrev pub first_equal : (tracked : Bool) → List DeepLine → Elem → Option DeepLine
first_equal tracked lines e = find (λ (line : DeepLine). same_by tracked e line.elem) lines

-- under the key of each channel line is the depth of the first of these lines that it equals
abbrev pub AreFirsts : (tracked : Bool) → BTreeMap ElemKey (Option ℕ) → List DeepLine → Type 0
AreFirsts tracked firsts lines = (e : Elem) → is_channel e.kind ≡ true
    → get key_cmp firsts (line_key tracked e)
    ≡ option_map (λ (line : DeepLine). line.depth) (first_equal tracked lines e)

-- the depth of the last line, if it has one
abbrev pub depth_at_last : List DeepLine → Option ℕ
depth_at_last lines = option_and_then (λ (line : DeepLine). line.depth) (last_or None lines)

-- the depth of a channel line, by the kind of the line before it, the depth of the first line that
-- it equals, and that of the line before it
abbrev pub depth_by : Option ElemKind → (first last : Option ℕ) → Option ℕ
depth_by previous first last = option_and_then (λ kind. if is_sink kind then first
    else if is_opin kind then Some 0 else option_map (λ d. d + 1) last) previous

-- these are the lines that were taken
pub record HasTaken (depths : LineDepths) (elems : List Elem) : Type 0 where
  pub firsts : AreFirsts depths.tracked depths.firsts (deep_of depths elems)
  pub previous : depths.previous
      ≡ option_map (λ (line : DeepLine). line.elem.kind) (last_or None (deep_of depths elems))
  pub last : depths.last ≡ depth_at_last (deep_of depths elems)
  pub last_but_one : depths.last_but_one ≡ depth_at_pin (deep_of depths elems)
