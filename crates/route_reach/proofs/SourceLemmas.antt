-- The rows of the tracks that the pins of a source reach: pins of one place reach no cell that does
-- not lie beside it.
use Rattle.std.proofs.Common.{◌≡◌, ℕ, suc, ◌+◌, ◌-◌, ◌<◌, Bool, true, false, Option, Some, None, List, [], ◌∷◌, ◌++◌, length, take, drop, get_or, replicate, inl, inr, refl, sym, ap, ◌∙◌, arith, add-one}
use Rattle.std.specs.Prelude.{◌&&◌, ◌||◌, ◌==◌, All, filter_map, slice_get, slice_index_or, if◌then◌else◌}
use Rattle.std.specs.List.{cons_option, list_any}
use Rattle.std.specs.Option.{option_map_or, option_to_list}
use Rattle.std.proofs.Math.Bool.{or-false}
use Rattle.std.proofs.lemmas.Bool.{false≢true}
use Rattle.std.proofs.lemmas.Bool.Decides.{Decides-eqb}
use Rattle.std.proofs.lemmas.List.Elements.{filter_map-append}
use Rattle.std.proofs.lemmas.List.Folds.{list_any-append, list_any_none}
use Rattle.list_laws.proofs.Members.{In, In-all, all-from_In, list_any-from_In}
use Rattle.list_laws.proofs.Places.{split-at, take-get}
use Rattle.fpga_graph.specs.Beside.{cell_along}
use Rattle.fpga_graph.specs.GraphOf.{GraphOf}
use Rattle.fpga_graph.specs.Wires.{wire_in}
use Rattle.fpga_graph.proofs.MarkLemmas.{unmarked}
use Rattle.fpga_types.specs.Fabric.{same_axis, same_cell}
use Rattle.fpga_types.specs.Size.{Size}
use Rattle.fpga_types.specs.Touching.{all_sides, is_beside, lies_along, touches}
use Rattle.fpga_types.specs.declared.arch.Arch.{Arch}
use Rattle.fpga_types.specs.declared.grid.Axis.{Axis}
use Rattle.fpga_types.specs.declared.grid.Axis.TheVariants.{X, Y}
use Rattle.fpga_types.specs.declared.grid.Cell.{Cell}
use Rattle.fpga_types.specs.declared.grid.PinAt.{PinAt}
use Rattle.fpga_types.specs.declared.grid.PinAt.TheVariants.{Pad as PadAt, Pin as PinOf}
use Rattle.fpga_types.specs.declared.grid.Side.{Side}
use Rattle.fpga_types.specs.declared.grid.Side.TheVariants.{Left, Right, Bottom, Top}
use Rattle.fpga_types.specs.declared.route.Elem.{Elem}
use Rattle.fpga_types.proofs.BoxLemmas.{touches-is}
use Rattle.fpga_types.proofs.MeetingLemmas.{both_true}
use Rattle.route_reach.specs.Encoding.{reaches}
use Rattle.route_reach.specs.Ends.{opin_of}
use Rattle.route_reach.specs.Pins.{AreTogether, is_along, pin_place}

-- what is made of one element more
pub made-more : {A B : Type 0} (f : A → Option B) (xs : List A) (i : ℕ) (x : A)
    → slice_get xs i ≡ Some x
    → filter_map f (take (i + 1) xs) ≡ filter_map f (take i xs) ++ option_to_list (f x)
made-more f xs i x here =
    rw (add-one, take-get xs i x here, filter_map-append f (take i xs) (x ∷ []))
    (ap (λ ys. filter_map f (take i xs) ++ ys) (one (f x)))
  where
    one : {B : Type 0} (o : Option B) → cons_option o [] ≡ option_to_list o
    one None = refl
    one (Some y) = refl

-- the first that is made
pub first-made : {A B : Type 0} (f : A → Option B) (xs : List A) (i : ℕ) (d : A) (y : B)
    → i < length xs → filter_map f (take i xs) ≡ [] → f (get_or xs i d) ≡ Some y
    → slice_get (filter_map f xs) 0 ≡ Some y
first-made f xs i d y inside none is =
    rw (
      split-at xs i d inside,
      filter_map-append f (take i xs) (get_or xs i d ∷ drop (suc i) xs),
      none,
      is,
    ) refl

pub nothing-first : {T : Type 0} (xs : List T) → slice_get xs 0 ≡ None → xs ≡ []
nothing-first [] h = refl
nothing-first (x ∷ xs) h = cc

pub first-in : {T : Type 0} (xs : List T) (x : T) → slice_get xs 0 ≡ Some x → In xs x
first-in [] x h = cc
first-in (y ∷ ys) x h = inl (first h)
  where
    first : Some y ≡ Some x → y ≡ x
    first e = cc

axis-back : (a : Axis) → same_axis a X ≡ true → same_axis X a ≡ true
axis-back X h = refl
axis-back Y h = h

axis-across : (a : Axis) → same_axis a Y ≡ true → same_axis Y a ≡ true
axis-across X h = h
axis-across Y h = refl

equal : (a b : ℕ) → (a == b) ≡ true → a ≡ b
equal a b h = (Decides-eqb a b).0 h

is-equal : (a b : ℕ) → a ≡ b → (a == b) ≡ true
is-equal a b h = (Decides-eqb a b).1 h

all-three : (a b c : Bool) → a ≡ true → b ≡ true → c ≡ true → (a && b && c) ≡ true
all-three a b c p q r = rw (p, q, r) refl

-- what lies along a side of a place is the cell there
along-at : (x y : ℕ) (cell : Cell) (side : Side) → lies_along x y cell side ≡ true
    → option_map_or (λ other. same_cell other cell) (cell_along x y side) false ≡ true
along-at x y cell Left h =
    let all = both_true (same_axis cell.axis Y && cell.x + 1 == x) (cell.y == y) h in
    let front = both_true (same_axis cell.axis Y) (cell.x + 1 == x) all.0 in
    let at = equal (cell.x + 1) x front.1 in
    go (x == 0) refl at (axis-across cell.axis front.0)
    (is-equal (x - 1) cell.x (omega (arith, at)))
    (is-equal y cell.y (sym (equal cell.y y all.1)))
  where
    go : (b : Bool) → (x == 0) ≡ b → cell.x + 1 ≡ x → same_axis Y cell.axis ≡ true
        → (x - 1 == cell.x) ≡ true → (y == cell.y) ≡ true
        → option_map_or (λ other. same_cell other cell)
        (if b then None else Some (record { axis = Y; x = x - 1; y = y })) false ≡ true
    go true is at p q r = absurd (let none = equal x 0 is in omega (arith, none, at))
    go false is at p q r =
        all-three (same_axis Y cell.axis) (x - 1 == cell.x) (y == cell.y) p q r
along-at x y cell Right h =
    let all = both_true (same_axis cell.axis Y && cell.x == x) (cell.y == y) h in
    let front = both_true (same_axis cell.axis Y) (cell.x == x) all.0 in
    all-three (same_axis Y cell.axis) (x == cell.x) (y == cell.y) (axis-across cell.axis front.0)
    (is-equal x cell.x (sym (equal cell.x x front.1)))
    (is-equal y cell.y (sym (equal cell.y y all.1)))
along-at x y cell Bottom h =
    let all = both_true (same_axis cell.axis X && cell.x == x) (cell.y + 1 == y) h in
    let front = both_true (same_axis cell.axis X) (cell.x == x) all.0 in
    let at = equal (cell.y + 1) y all.1 in
    go (y == 0) refl at (axis-back cell.axis front.0)
    (is-equal x cell.x (sym (equal cell.x x front.1)))
    (is-equal (y - 1) cell.y (omega (arith, at)))
  where
    go : (b : Bool) → (y == 0) ≡ b → cell.y + 1 ≡ y → same_axis X cell.axis ≡ true
        → (x == cell.x) ≡ true → (y - 1 == cell.y) ≡ true
        → option_map_or (λ other. same_cell other cell)
        (if b then None else Some (record { axis = X; x = x; y = y - 1 })) false ≡ true
    go true is at p q r = absurd (let none = equal y 0 is in omega (arith, none, at))
    go false is at p q r =
        all-three (same_axis X cell.axis) (x == cell.x) (y - 1 == cell.y) p q r
along-at x y cell Top h =
    let all = both_true (same_axis cell.axis X && cell.x == x) (cell.y == y) h in
    let front = both_true (same_axis cell.axis X) (cell.x == x) all.0 in
    all-three (same_axis X cell.axis) (x == cell.x) (y == cell.y) (axis-back cell.axis front.0)
    (is-equal x cell.x (sym (equal cell.x x front.1)))
    (is-equal y cell.y (sym (equal cell.y y all.1)))

pub beside-is : (pin : PinAt) (cell : Cell) (side : Side) → is_beside pin cell side ≡ true
    → is_along pin cell side ≡ true
beside-is (PadAt x y sub) cell side h = along-at x y cell side h
beside-is (PinOf x y pin) cell side h = along-at x y cell side h

pub in-sides : (side : Side) → In all_sides side
in-sides Left = inl refl
in-sides Right = inr (inl refl)
in-sides Bottom = inr (inr (inl refl))
in-sides Top = inr (inr (inr (inl refl)))

-- a cell that a pin touches lies along a side of its place
pub touched-along : (arch : Arch) (grid : Size) (pin : PinAt) (cell : Cell)
    → touches arch grid pin cell ≡ true → list_any (is_along pin cell) all_sides ≡ true
touched-along arch grid pin cell h =
    let t = (touches-is arch grid pin cell).0 h in
    list_any-from_In (is_along pin cell) all_sides t.side (in-sides t.side)
    (beside-is pin cell t.side t.along)

-- what lies beside a pin is told by its place
along-place : (pin : PinAt) (cell : Cell) (side : Side) → is_along pin cell side
    ≡ option_map_or (λ other. same_cell other cell)
    (cell_along (pin_place pin).0 (pin_place pin).1 side) false
along-place (PadAt x y sub) cell side = refl
along-place (PinOf x y pin) cell side = refl

-- pins of one place have the same cells beside them
along-same : (a b : PinAt) → pin_place a ≡ pin_place b → (cell : Cell)
    → list_any (is_along a cell) all_sides ≡ list_any (is_along b cell) all_sides
along-same a b same cell = λ i. list_any (λ side. each side i) all_sides
  where
    each : (side : Side) → is_along a cell side ≡ is_along b cell side
    each side = along-place a cell side
        ∙ ap (λ (q : ℕ × ℕ).
        option_map_or (λ other. same_cell other cell) (cell_along q.0 q.1 side) false) same
        ∙ sym (along-place b cell side)

-- of pins of one place none reaches a cell that does not lie beside it
pub none-reached : (g : GraphOf) (pins : List PinAt) (first : PinAt) (cell : Cell) (t : ℕ)
    → AreTogether g.arch pins → In pins first → list_any (is_along first cell) all_sides ≡ false
    → list_any (λ out. reaches g out (wire_in cell t)) pins ≡ false
none-reached g pins first cell t together among apart =
    list_any_none (λ out. reaches g out (wire_in cell t)) pins
    (all-from_In (λ out. reaches g out (wire_in cell t) ≡ false) pins
    (λ out i. unreached out (touches g.arch g.grid out cell) refl
    (In-all (λ b. pin_place first ≡ pin_place b) pins out
    (In-all (λ a. All (λ b. pin_place a ≡ pin_place b) pins) pins first together.together among)
    i)))
  where
    unreached : (out : PinAt) (b : Bool) → touches g.arch g.grid out cell ≡ b
        → pin_place first ≡ pin_place out → reaches g out (wire_in cell t) ≡ false
    unreached out false is same = rw is refl
    unreached out true is same =
        absurd (false≢true (sym apart ∙ along-same first out same cell
        ∙ touched-along g.arch g.grid out cell is))

-- the row in which no track is marked
pub empty-row : (g : GraphOf) (pins : List PinAt) (first : PinAt) (cell : Cell)
    → AreTogether g.arch pins → In pins first → list_any (is_along first cell) all_sides ≡ false
    → (t : ℕ) → slice_index_or (replicate 64 false) t false
    ≡ list_any (λ out. reaches g out (wire_in cell t)) pins
empty-row g pins first cell together among apart t =
    unmarked 64 t ∙ sym (none-reached g pins first cell t together among apart)

-- one line more
pub any-more : (g : GraphOf) (elems : List Elem) (i : ℕ) (e : Elem) (cell : Cell) (t : ℕ)
    → slice_get elems i ≡ Some e
    → list_any (λ out. reaches g out (wire_in cell t)) (filter_map opin_of (take (i + 1) elems))
    ≡ (list_any (λ out. reaches g out (wire_in cell t)) (filter_map opin_of (take i elems))
    || option_map_or (λ out. reaches g out (wire_in cell t)) (opin_of e) false)
any-more g elems i e cell t here =
    ap (list_any (λ out. reaches g out (wire_in cell t))) (made-more opin_of elems i e here)
    ∙ list_any-append (λ out. reaches g out (wire_in cell t)) (filter_map opin_of (take i elems))
    (option_to_list (opin_of e))
    ∙ ap (λ (b : Bool). list_any (λ out. reaches g out (wire_in cell t))
    (filter_map opin_of (take i elems)) || b) (one (opin_of e))
  where
    one : (o : Option PinAt) → list_any (λ out. reaches g out (wire_in cell t)) (option_to_list o)
        ≡ option_map_or (λ out. reaches g out (wire_in cell t)) o false
    one None = refl
    one (Some out) = or-false (reaches g out (wire_in cell t))

-- a mark after one line more
module _ (g : GraphOf) (elems : List Elem) (i : ℕ) (e : Elem) (cell : Cell) (t : ℕ)
    (here : slice_get elems i ≡ Some e) (old : Bool)
    (so_far : old ≡ list_any (λ out. reaches g out (wire_in cell t))
    (filter_map opin_of (take i elems))) where
  pub mark-more : (out : PinAt) (new : Bool) → opin_of e ≡ Some out
      → new ≡ (old || reaches g out (wire_in cell t))
      → new ≡ list_any (λ o. reaches g o (wire_in cell t)) (filter_map opin_of (take (i + 1) elems))
  mark-more out new is more =
      more ∙ sym (any-more g elems i e cell t here ∙ rw (is, ← so_far) refl)

  pub mark-same : opin_of e ≡ None → old
      ≡ list_any (λ o. reaches g o (wire_in cell t)) (filter_map opin_of (take (i + 1) elems))
  mark-same is = sym (any-more g elems i e cell t here ∙ rw (is, ← so_far) (or-false old))
