-- The names of variables are comments, so that clauses read behind them as they do alone.
use Rattle.std.proofs.Common.{◌≡◌, ℕ, suc, ◌+◌, ◌*◌, ◌<◌, ◌≤◌, ◌^◌, nat_abs, Bool, true, false, List, [], ◌∷◌, ◌++◌, length, Option, None, Some, refl, sym, ap, subst, ◌∙◌, arith, append_assoc}
use Rattle.std.specs.Prelude.{codes, decimal, not, option_map, slice_get}
use Rattle.std.specs.List.{range_with_len}
use Rattle.std.specs.Option.{option_map_or}
use Rattle.std.specs.Fmt.{signed_decimal}
use Rattle.std.proofs.lemmas.List.FromFn.{get_or-range_with_len, length-range_with_len}
use Rattle.std.proofs.lemmas.Nat.{mul-le}
use Rattle.fpga_bounds.proofs.SlotLines.{IsThere, slot-among, slot-line}
use Rattle.fpga_route.specs.ReadBack.{IsPrintable, IsPrintableElem, IsPrintableNet}
use Rattle.fpga_text.specs.Bytes.{Bytes, is_newline}
use Rattle.fpga_text.proofs.PrintedWords.{both-pass, lacks, line-newline, signed-word, decimal-word, word-line}
use Rattle.fpga_types.specs.Slots.{channel_at, elem_cell, slot_at, slots}
use Rattle.fpga_types.specs.declared.grid.Axis.{Axis}
use Rattle.fpga_types.specs.declared.grid.Axis.TheVariants.{X, Y}
use Rattle.fpga_types.specs.declared.grid.Cell.{Cell}
use Rattle.fpga_types.specs.declared.limits.TheConstants.{SLOT_LIMIT, WIDTH_LIMIT}
use Rattle.fpga_types.specs.declared.problem.Slot.{Slot}
use Rattle.fpga_types.specs.declared.route.ElemKind.{ElemKind}
use Rattle.fpga_types.specs.declared.route.ElemKind.TheVariants.{ChanX, ChanY}
use Rattle.fpga_types.specs.declared.route.RouteNet.{RouteNet}
use Rattle.list_laws.proofs.Members.{In-all, from_In-range}
use Rattle.list_laws.proofs.Places.{get-In, get-there, some_is}
use Rattle.route_encode.specs.Encoding.{below, has}
use Rattle.route_sweep.specs.NetNames.{name_at}
use Rattle.sat_clause.specs.declared.literal.Lit.{Lit}
use Rattle.sat_text.specs.CnfText.{ReadsCnf}
use Rattle.sat_text.specs.Printed.{cnf_text, literal_text}
use Rattle.run_outcome.specs.Subject.{Cnf, RouteText}
use Rattle.run_clauses.specs.VariableNames.{before_net, before_place, lines_of_slot, name_line, named_text, names_text, slot_lines}
use Rattle.run_clauses.proofs.CommentLaws.{ArePassed, all-passed, comment-passes}

-- what stands at a place of the numbers below a number
pub below-there : (n k : ℕ) → k < n → slice_get (below n) k ≡ Some k
below-there n k inside =
    let same : k ≡ 0 + k = omega arith in
    get-there (range_with_len 0 n) k k 0
    (subst (λ (m : ℕ). k < m) (sym (length-range_with_len 0 n)) inside)
    (same ∙ sym (get_or-range_with_len 0 n k 0 inside))

-- the lines of a slot that was read there are those of its number
pub lines-here : (route : RouteText) (width number : ℕ) (all : List Slot) (name : Bytes)
    → all ≡ slots route → name ≡ name_at route (slot_at all number).net
    → slot_lines width number name (slot_at all number).cell ≡ lines_of_slot width route number
lines-here route width number all name are named =
    ap (λ (n : Bytes). slot_lines width number n (slot_at all number).cell) named
    ∙ ap (λ (ss : List Slot). slot_lines width number (name_at route (slot_at ss number).net)
    (slot_at ss number).cell) are

-- ---- a line

-- no byte of two texts is a newline
two-lack : (front back : Bytes) → lacks is_newline front ≡ true → lacks is_newline back ≡ true
    → lacks is_newline (front ++ back) ≡ true
two-lack front back = both-pass (λ (b : ℕ). not (is_newline b)) front back

-- no byte of a number is one
number-lacks : (n : ℕ) → n < 2 ^ 64 → lacks is_newline (decimal n) ≡ true
number-lacks n fits = line-newline (decimal n) (word-line (decimal n) (decimal-word n fits).bytes)

literal-lacks : (literal : Lit) → nat_abs literal.code < 2 ^ 64
    → lacks is_newline (literal_text literal) ≡ true
literal-lacks literal fits =
    let number = signed_decimal literal.code in
    two-lack number (codes " ")
    (line-newline number (word-line number (signed-word literal.code fits).bytes)) refl

place-lacks : (axis : Axis) → lacks is_newline (before_place axis) ≡ true
place-lacks X = refl
place-lacks Y = refl

-- a line without its newline
abbrev line_of : Lit → Bytes → Cell → ℕ → Bytes
line_of literal name cell track =
    before_net literal
    ++ (name ++ (before_place cell.axis ++ decimal cell.x ++ codes "," ++ decimal cell.y
    ++ codes ") track " ++ decimal track))

-- the line with it
line-ends : (literal : Lit) (name : Bytes) (cell : Cell) (track : ℕ)
    → line_of literal name cell track ++ 10 ∷ [] ≡ name_line literal name cell track
line-ends literal name cell track =
    let rest : Bytes = before_place cell.axis ++ decimal cell.x ++ codes "," ++ decimal cell.y
    ++ codes ") track " ++ decimal track in
    append_assoc (before_net literal) (name ++ rest) (10 ∷ [])
    ∙ ap (λ (t : Bytes). before_net literal ++ t) (append_assoc name rest (10 ∷ []))

-- what is asked of the numbers and the name on a line
record IsShort (literal : Lit) (name : Bytes) (cell : Cell) (track : ℕ) : Type 0 where
  pub number : nat_abs literal.code < 2 ^ 64
  pub one_line : lacks is_newline name ≡ true
  pub x : cell.x < 2 ^ 64
  pub y : cell.y < 2 ^ 64
  pub low : track < 2 ^ 64

line-lacks : (literal : Lit) (name : Bytes) (cell : Cell) (track : ℕ)
    → IsShort literal name cell track
    → lacks is_newline (line_of literal name cell track) ≡ true
line-lacks literal name cell track short =
    let start = before_place cell.axis in
    let x = start ++ decimal cell.x in
    let y = x ++ codes "," ++ decimal cell.y in
    two-lack (before_net literal)
    (name ++ (y ++ codes ") track " ++ decimal track))
    (two-lack (codes "c " ++ literal_text literal) (codes "net ")
    (two-lack (codes "c ") (literal_text literal) refl (literal-lacks literal short.number)) refl)
    (two-lack name (y ++ codes ") track " ++ decimal track) short.one_line
    (two-lack (y ++ codes ") track ") (decimal track)
    (two-lack y (codes ") track ")
    (two-lack (x ++ codes ",") (decimal cell.y)
    (two-lack x (codes ",")
    (two-lack start (decimal cell.x) (place-lacks cell.axis) (number-lacks cell.x short.x)) refl)
    (number-lacks cell.y short.y)) refl)
    (number-lacks track short.low)))

-- a line is passed over
line-passes : (literal : Lit) (name : Bytes) (cell : Cell) (track : ℕ)
    → IsShort literal name cell track → ArePassed (name_line literal name cell track)
line-passes literal name cell track short =
    subst ArePassed (line-ends literal name cell track)
    (comment-passes (line_of literal name cell track) refl
    (line-lacks literal name cell track short))

-- ---- the slots of a route that can be printed

-- the place of a channel is that of its line
channel-place : (kind : ElemKind) (x y : ℕ) (cell : Cell) → channel_at kind x y ≡ Some cell
    → (cell.x ≡ x) × (cell.y ≡ y)
channel-place ChanX x y cell is =
    (ap (λ (c : Cell). c.x) (sym (some_is is)), ap (λ (c : Cell). c.y) (sym (some_is is)))
channel-place ChanY x y cell is =
    (ap (λ (c : Cell). c.x) (sym (some_is is)), ap (λ (c : Cell). c.y) (sym (some_is is)))
channel-place _ x y cell is = absurd (let clash : None ≡ Some cell = is in cc)

-- the cell of a slot is that of its line
slot-cell : (net : ℕ) (o : Option Cell) (slot : Slot)
    → option_map {T = Cell} {U = Slot} (λ cell. record { net = net; cell = cell }) o ≡ Some slot
    → o ≡ Some slot.cell
slot-cell net None slot is = absurd (let clash : None ≡ Some slot = is in cc)
slot-cell net (Some cell) slot is = ap (λ (s : Slot). Some s.cell) (some_is is)

module _ (route : RouteText) (can : IsPrintable route) (width : ℕ) (narrow : width ≤ WIDTH_LIMIT)
    (few : length (slots route) ≤ SLOT_LIMIT) where
  module _ (number : ℕ) (inside : number < length (slots route)) where
    abbrev slot : Slot
    slot = slot_at (slots route) number

    there : IsThere route slot
    there = slot-line route slot (slot-among (slots route) number inside)

    net-can : IsPrintableNet route.grid there.net
    net-can = In-all (IsPrintableNet route.grid) route.nets there.net can.nets
        (get-In route.nets slot.net there.net there.here)

    elem-can : IsPrintableElem route.grid there.elem
    elem-can = In-all (IsPrintableElem route.grid) there.net.elems there.elem net-can.elems
        there.among

    place : (slot.cell.x ≡ there.elem.x) × (slot.cell.y ≡ there.elem.y)
    place = channel-place there.elem.kind there.elem.x there.elem.y slot.cell
        (slot-cell slot.net (elem_cell there.elem) slot there.is)

    name-is : name_at route slot.net ≡ there.net.name
    name-is = ap (λ (o : Option RouteNet). option_map_or (λ (net : RouteNet). net.name) o [])
        there.here

    slot-passes : ArePassed (lines_of_slot width route number)
    slot-passes = all-passed
        (λ (track : ℕ). name_line (has width number track) (name_at route slot.net) slot.cell track)
        (below width)
        (λ track among.
        let low : track < width = omega (arith, (from_In-range 0 width track among).1) in
        let most : number * width ≤ 12_800_000 =
        mul-le number width SLOT_LIMIT WIDTH_LIMIT (omega (arith, inside, few)) narrow in
        let small : suc (number * width + track) < 2 ^ 64 = omega (arith, low, most, narrow) in
        line-passes (has width number track) (name_at route slot.net) slot.cell track (record {
          number = small;
          one_line = ap (lacks is_newline) name-is ∙ net-can.name.one_line;
          x = omega (arith, place.0, elem-can.x);
          y = omega (arith, place.1, elem-can.y);
          low = omega (arith, low, narrow);
        }))

  -- the names of the variables are passed over
  pub names-pass : ArePassed (names_text width route)
  names-pass = all-passed (lines_of_slot width route) (below (length (slots route)))
      (λ number among. slot-passes number
      (omega (arith, (from_In-range 0 (length (slots route)) number among).1)))

-- so that clauses read behind them, if they are asked for, as they do alone
pub reads-behind-names : (asked : Bool) (width : ℕ) (route : RouteText) (formula : Cnf)
    → width ≤ WIDTH_LIMIT → length (slots route) ≤ SLOT_LIMIT → IsPrintable route
    → ReadsCnf (cnf_text formula) formula → ReadsCnf (named_text asked width route formula) formula
reads-behind-names true width route formula narrow few can reads =
    names-pass route can width narrow few (cnf_text formula) formula reads
reads-behind-names false width route formula narrow few can reads = reads
