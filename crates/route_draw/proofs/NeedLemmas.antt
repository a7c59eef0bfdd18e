-- A table of what cells want, as lines and slots are taken.
use Rattle.std.proofs.Common.{◌≡◌, ◌≢◌, ℕ, ◌+◌, ◌<◌, ◌≤◌, Bool, true, false, cond, List, [], ◌∷◌, ◌++◌, length, length-append, length-set, get_or, slice_set, refl, sym, ap, subst, ◌∙◌, arith, add-zero, add-one, append_assoc, take}
use Rattle.std.specs.Prelude.{IsTrue, Some, None, filter, nat_lt, slice_get}
use Rattle.std.proofs.Math.Seq.{take-length}
use Rattle.std.proofs.lemmas.Bool.{false≢true}
use Rattle.std.proofs.lemmas.Bool.Decides.{nat_tests}
use Rattle.std.proofs.lemmas.List.{get_or-set_other, get_or-set_same}
use Rattle.std.proofs.lemmas.List.Elements.{filter-append}
use Rattle.list_laws.proofs.FrontParts.{made-next}
use Rattle.list_laws.proofs.Places.{take-get}
use Rattle.fpga_types.specs.CellNumbers.{IsAlone, number_of_cell}
use Rattle.fpga_types.specs.Fabric.{is_cell, same_cell}
use Rattle.fpga_types.specs.Size.{Size}
use Rattle.fpga_types.specs.Slots.{elem_cell}
use Rattle.fpga_types.specs.declared.grid.Cell.{Cell}
use Rattle.fpga_types.specs.declared.problem.Slot.{Slot}
use Rattle.fpga_types.specs.declared.route.Elem.{Elem}
use Rattle.fpga_types.specs.declared.route.RouteNet.{RouteNet}
use Rattle.fpga_types.proofs.MeetingLemmas.{same_cell-is, same_cell-itself}
use Rattle.route_draw.specs.Needs.{AreNeeds, asked_by, greater, lines_of, most_asked, most_from, slots_in}

-- the same table, where each cell of the array wants the same
pub needs-kept : (grid : Size) (wants now : Cell → ℕ) (needs : List ℕ)
    → ((cell : Cell) → IsTrue (is_cell grid cell) → now cell ≡ wants cell)
    → AreNeeds grid wants needs → AreNeeds grid now needs
needs-kept grid wants now needs same are = record {
  count = are.count;
  need = λ cell within. are.need cell within ∙ sym (same cell within);
}

-- one cell of the array wants another number
pub needs-set : (grid : Size) (wants now : Cell → ℕ) (at : Cell) (place value : ℕ) (needs : List ℕ)
    → IsAlone grid at place → number_of_cell grid at ≡ place → place < length needs
    → now at ≡ value
    → ((cell : Cell) → same_cell at cell ≡ false → now cell ≡ wants cell)
    → AreNeeds grid wants needs → AreNeeds grid now (slice_set needs place value)
needs-set grid wants now at place value needs alone number inside here others are = record {
  count = length-set needs place value ∙ are.count;
  need = λ cell within. go cell within (same_cell at cell) refl;
}
  where
    go : (cell : Cell) → IsTrue (is_cell grid cell) → (b : Bool) → same_cell at cell ≡ b
        → get_or (slice_set needs place value) (number_of_cell grid cell) 0 ≡ now cell
    go cell within true same =
        let is : at ≡ cell = same_cell-is at cell same in
        subst (λ (c : Cell). get_or (slice_set needs place value) (number_of_cell grid c) 0 ≡ now c)
        is
        (subst (λ (n : ℕ). get_or (slice_set needs place value) n 0 ≡ now at) (sym number)
        (get_or-set_same needs place value 0 inside ∙ sym here))
    go cell within false other =
        let apart : number_of_cell grid cell ≢ place = λ e.
        false≢true (sym other ∙ ap (same_cell at) (alone cell within e) ∙ same_cell-itself at) in
        get_or-set_other needs place (number_of_cell grid cell) value 0 apart
        ∙ are.need cell within ∙ sym (others cell other)

-- a cell of the array is not one outside
apart : (grid : Size) (at cell : Cell) → is_cell grid at ≡ false → IsTrue (is_cell grid cell)
    → same_cell at cell ≡ false
apart grid at cell outside within = go (same_cell at cell) refl
  where
    go : (b : Bool) → same_cell at cell ≡ b → b ≡ false
    go true same = absurd (false≢true
        (sym outside ∙ ap (is_cell grid) (same_cell-is at cell same) ∙ within))
    go false other = refl

-- one line more asks for the greater number
pub most-push : (before : ℕ) (cell : Cell) (es : List Elem) (e : Elem)
    → most_from before cell (es ++ e ∷ []) ≡ greater (most_from before cell es) (asked_by cell e)
most-push before cell [] e = refl
most-push before cell (x ∷ xs) e = most-push (greater before (asked_by cell x)) cell xs e

greater-none : (n : ℕ) → greater n 0 ≡ n
greater-none n = let no : nat_lt n 0 ≡ false = grind (arith, nat_tests) in rw no refl

greater-less : (n m : ℕ) → n < m → greater n m ≡ m
greater-less n m h = let is : nat_lt n m ≡ true = grind (arith, nat_tests) in rw is refl

not-less : (n m : ℕ) → m ≤ n → nat_lt n m ≡ false
not-less n m h = grind (arith, nat_tests)

greater-kept : (n m : ℕ) → nat_lt n m ≡ false → greater n m ≡ n
greater-kept n m h = rw h refl

-- a line that is in no cell asks for nothing there
pub asks-none : (grid : Size) (es : List Elem) (e : Elem) (needs : List ℕ) → elem_cell e ≡ None
    → AreNeeds grid (λ cell. most_asked cell es) needs
    → AreNeeds grid (λ cell. most_asked cell (es ++ e ∷ [])) needs
asks-none grid es e needs none =
    needs-kept grid (λ cell. most_asked cell es) (λ cell. most_asked cell (es ++ e ∷ [])) needs
    (λ cell within. most-push 0 cell es e
    ∙ rw none (greater-none (most_asked cell es)))

-- of another cell than its own it asks for nothing
asks-apart : (at cell : Cell) (es : List Elem) (e : Elem) → elem_cell e ≡ Some at
    → same_cell at cell ≡ false → most_asked cell (es ++ e ∷ []) ≡ most_asked cell es
asks-apart at cell es e is other =
    most-push 0 cell es e ∙ rw (is, other) (greater-none (most_asked cell es))

asks-here : (at : Cell) (es : List Elem) (e : Elem) → elem_cell e ≡ Some at
    → most_asked at (es ++ e ∷ []) ≡ greater (most_asked at es) (e.number + 1)
asks-here at es e is = most-push 0 at es e ∙ rw (is, same_cell-itself at) refl

-- a line outside of the array
pub asks-outside : (grid : Size) (at : Cell) (es : List Elem) (e : Elem) (needs : List ℕ)
    → elem_cell e ≡ Some at → is_cell grid at ≡ false
    → AreNeeds grid (λ cell. most_asked cell es) needs
    → AreNeeds grid (λ cell. most_asked cell (es ++ e ∷ [])) needs
asks-outside grid at es e needs is outside =
    needs-kept grid (λ cell. most_asked cell es) (λ cell. most_asked cell (es ++ e ∷ [])) needs
    (λ cell within. asks-apart at cell es e is (apart grid at cell outside within))

-- a line that asks for more than its cell wants
pub asks-more : (grid : Size) (at : Cell) (es : List Elem) (e : Elem) (place : ℕ) (needs : List ℕ)
    → elem_cell e ≡ Some at → IsTrue (is_cell grid at) → IsAlone grid at place
    → number_of_cell grid at ≡ place → place < length needs
    → get_or needs place 0 < e.number + 1
    → AreNeeds grid (λ cell. most_asked cell es) needs
    → AreNeeds grid (λ cell. most_asked cell (es ++ e ∷ [])) (slice_set needs place (e.number + 1))
asks-more grid at es e place needs is within alone number inside more are =
    needs-set grid (λ cell. most_asked cell es) (λ cell. most_asked cell (es ++ e ∷ [])) at place
    (e.number + 1) needs alone number inside
    (let low : most_asked at es < e.number + 1 = subst (λ (n : ℕ). n < e.number + 1)
    (ap (λ (k : ℕ). get_or needs k 0) (sym number) ∙ are.need at within) more in
    asks-here at es e is ∙ greater-less (most_asked at es) (e.number + 1) low)
    (λ cell other. asks-apart at cell es e is other) are

-- a line that asks for no more than its cell wants
pub asks-less : (grid : Size) (at : Cell) (es : List Elem) (e : Elem) (place : ℕ) (needs : List ℕ)
    → elem_cell e ≡ Some at → IsTrue (is_cell grid at) → number_of_cell grid at ≡ place
    → e.number + 1 ≤ get_or needs place 0
    → AreNeeds grid (λ cell. most_asked cell es) needs
    → AreNeeds grid (λ cell. most_asked cell (es ++ e ∷ [])) needs
asks-less grid at es e place needs is within number low are =
    needs-kept grid (λ cell. most_asked cell es) (λ cell. most_asked cell (es ++ e ∷ [])) needs
    (λ cell inside. go cell (same_cell at cell) refl) are
  where
    less : nat_lt (get_or needs place 0) (e.number + 1) ≡ false
    less = not-less (get_or needs place 0) (e.number + 1) low

    here : most_asked at (es ++ e ∷ []) ≡ most_asked at es
    here = asks-here at es e is ∙ greater-kept (most_asked at es) (e.number + 1)
        (subst (λ (n : ℕ). nat_lt n (e.number + 1) ≡ false)
        (ap (λ (k : ℕ). get_or needs k 0) (sym number) ∙ are.need at within) less)

    go : (cell : Cell) → (b : Bool) → same_cell at cell ≡ b
        → most_asked cell (es ++ e ∷ []) ≡ most_asked cell es
    go cell true same = subst (λ (c : Cell). most_asked c (es ++ e ∷ []) ≡ most_asked c es)
        (same_cell-is at cell same) here
    go cell false other = asks-apart at cell es e is other

-- one slot more
slots-push : (cell : Cell) (all : List Slot) (slot : Slot) (b : Bool)
    → same_cell slot.cell cell ≡ b
    → slots_in cell (all ++ slot ∷ []) ≡ slots_in cell all + cond b 1 0
slots-push cell all slot b is =
    ap length (filter-append (λ (s : Slot). same_cell s.cell cell) all (slot ∷ []))
    ∙ length-append (filter (λ (s : Slot). same_cell s.cell cell) all)
    (filter (λ (s : Slot). same_cell s.cell cell) (slot ∷ []))
    ∙ ap (λ (n : ℕ). slots_in cell all + n) (go b is)
  where
    go : (b : Bool) → same_cell slot.cell cell ≡ b
        → length (filter (λ (s : Slot). same_cell s.cell cell) (slot ∷ [])) ≡ cond b 1 0
    go true e = rw e refl
    go false e = rw e refl

slots-apart : (cell : Cell) (all : List Slot) (slot : Slot) → same_cell slot.cell cell ≡ false
    → slots_in cell (all ++ slot ∷ []) ≡ slots_in cell all
slots-apart cell all slot other =
    slots-push cell all slot false other ∙ add-zero (slots_in cell all)

-- a cell holds no more slots than there are
pub slots-few : (cell : Cell) (all : List Slot) → slots_in cell all ≤ length all
slots-few cell [] = omega arith
slots-few cell (slot ∷ all) = go (same_cell slot.cell cell) (slots-few cell all)
  where
    go : (b : Bool) → slots_in cell all ≤ length all
        → length (cond b (slot ∷ filter (λ (s : Slot). same_cell s.cell cell) all)
        (filter (λ (s : Slot). same_cell s.cell cell) all)) ≤ length (slot ∷ all)
    go true few = omega (arith, few)
    go false few = omega (arith, few)

-- the next line, behind others and those before it
pub lines-next : (grid : Size) (needs : List ℕ) (before xs : List Elem) (i : ℕ) (x : Elem)
    → AreNeeds grid (λ cell. most_asked cell (before ++ take i xs ++ x ∷ [])) needs
    → slice_get xs i ≡ Some x
    → AreNeeds grid (λ cell. most_asked cell (before ++ take (i + 1) xs)) needs
lines-next grid needs before xs i x are at = subst
    (λ (es : List Elem). AreNeeds grid (λ cell. most_asked cell es) needs)
    (append_assoc before (take i xs) (x ∷ [])
    ∙ ap (λ (es : List Elem). before ++ es)
    (sym (ap (λ (n : ℕ). take n xs) (add-one i) ∙ take-get xs i x at))) are

pub lines-whole : (grid : Size) (needs : List ℕ) (before xs : List Elem) (i : ℕ) → i ≡ length xs
    → AreNeeds grid (λ cell. most_asked cell (before ++ take i xs)) needs
    → AreNeeds grid (λ cell. most_asked cell (before ++ xs)) needs
lines-whole grid needs before xs i e = subst
    (λ (es : List Elem). AreNeeds grid (λ cell. most_asked cell (before ++ es)) needs)
    (ap (λ (n : ℕ). take n xs) e ∙ take-length xs)

-- the lines of the next net
pub nets-next : (grid : Size) (needs : List ℕ) (nets : List RouteNet) (i : ℕ) (net : RouteNet)
    (elems : List Elem) → slice_get nets i ≡ Some net → elems ≡ net.elems
    → AreNeeds grid (λ cell. most_asked cell (lines_of (take i nets) ++ elems)) needs
    → AreNeeds grid (λ cell. most_asked cell (lines_of (take (i + 1) nets))) needs
nets-next grid needs nets i net elems at are = subst
    (λ (es : List Elem). AreNeeds grid (λ cell. most_asked cell es) needs)
    (ap (λ (es : List Elem). lines_of (take i nets) ++ es) are
    ∙ sym (ap (λ (n : ℕ). lines_of (take n nets)) (add-one i)
    ∙ made-next (λ (n : RouteNet). n.elems) nets i net at))

-- the next slot
pub slots-next : (grid : Size) (needs : List ℕ) (all : List Slot) (i : ℕ) (slot : Slot)
    → AreNeeds grid (λ cell. slots_in cell (take i all ++ slot ∷ [])) needs
    → slice_get all i ≡ Some slot
    → AreNeeds grid (λ cell. slots_in cell (take (i + 1) all)) needs
slots-next grid needs all i slot are at = subst
    (λ (some : List Slot). AreNeeds grid (λ cell. slots_in cell some) needs)
    (sym (ap (λ (n : ℕ). take n all) (add-one i) ∙ take-get all i slot at)) are

-- a count is below what the slots are fewer than
pub counted-few : (grid : Size) (all : List Slot) (slot : Slot) (place : ℕ) (needs : List ℕ)
    → AreNeeds grid (λ cell. slots_in cell all) needs → IsTrue (is_cell grid slot.cell)
    → number_of_cell grid slot.cell ≡ place → get_or needs place 0 ≤ length all
counted-few grid all slot place needs are within number =
    subst (λ (n : ℕ). n ≤ length all)
    (sym (ap (λ (k : ℕ). get_or needs k 0) (sym number) ∙ are.need slot.cell within))
    (slots-few slot.cell all)
