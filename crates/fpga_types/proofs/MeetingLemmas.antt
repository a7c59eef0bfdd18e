-- Two cells meet exactly where the search over all switch blocks finds the place, and at one place
-- alone.
use Rattle.std.proofs.Common.{◌≡◌, ℕ, ◌+◌, ◌≤◌, ◌⊎◌, ◌≢◌, Bool, true, false, List, [], ◌∷◌, Option, Some, None, refl, sym, ap, ◌∙◌, subst, inl, inr, arith}
use Rattle.std.specs.Prelude.{◌==◌, ◌&&◌, map, flat_map, find}
use Rattle.std.specs.List.{range_with_len}
use Rattle.std.proofs.lemmas.Bool.{false≢true}
use Rattle.std.proofs.lemmas.Bool.Decides.{Decides-eqb}
use Rattle.fpga_types.specs.Size.{Size}
use Rattle.fpga_types.specs.Fabric.{Meeting, MeetsAt, is_cell, same_axis, same_cell, cell_on, other_sides, switch_blocks, all_meetings, is_meeting_of, meeting}
use Rattle.fpga_types.specs.Tracks.{TrackMap, AreJoined, track_across}
use Rattle.fpga_types.specs.declared.grid.Wire.{Wire}
use Rattle.fpga_types.specs.declared.grid.Axis.{Axis}
use Rattle.fpga_types.specs.declared.grid.Axis.TheVariants.{X, Y}
use Rattle.fpga_types.specs.declared.grid.Cell.{Cell}
use Rattle.fpga_types.specs.declared.grid.Side.{Side}
use Rattle.fpga_types.specs.declared.grid.Side.TheVariants.{Left, Right, Bottom, Top}
use Rattle.fpga_types.specs.declared.grid.SwitchAt.{SwitchAt}
use Rattle.list_laws.proofs.Members.{In, In-map, from_In-map, In-flat_map, from_In-flat_map, In-range, from_In-range, find-In, find-some}

pub both_true : (a b : Bool) → (a && b) ≡ true → (a ≡ true) × (b ≡ true)
both_true true b h = (refl, h)
both_true false b h = absurd (false≢true h)

same_axis-is : (a b : Axis) → same_axis a b ≡ true → a ≡ b
same_axis-is X X h = refl
same_axis-is Y Y h = refl
same_axis-is X Y h = absurd (false≢true h)
same_axis-is Y X h = absurd (false≢true h)

same_axis-itself : (a : Axis) → same_axis a a ≡ true
same_axis-itself X = refl
same_axis-itself Y = refl

pub same_cell-is : (a b : Cell) → same_cell a b ≡ true → a ≡ b
same_cell-is a b h =
    let ends = both_true (same_axis a.axis b.axis && a.x == b.x) (a.y == b.y) h in
    let starts = both_true (same_axis a.axis b.axis) (a.x == b.x) ends.0 in
    let axis = same_axis-is a.axis b.axis starts.0 in
    let x = (Decides-eqb a.x b.x).0 starts.1 in
    let y = (Decides-eqb a.y b.y).0 ends.1 in
    λ i. record { axis = axis i; x = x i; y = y i }

pub same_cell-itself : (a : Cell) → same_cell a a ≡ true
same_cell-itself a =
    rw (same_axis-itself a.axis, (Decides-eqb a.x a.x).1 refl, (Decides-eqb a.y a.y).1 refl) refl

In-other_sides : (s t : Side) → s ≢ t → In (other_sides s) t
In-other_sides Left Left d = absurd (d refl)
In-other_sides Left Right d = inl refl
In-other_sides Left Bottom d = inr (inl refl)
In-other_sides Left Top d = inr (inr (inl refl))
In-other_sides Right Left d = inl refl
In-other_sides Right Right d = absurd (d refl)
In-other_sides Right Bottom d = inr (inl refl)
In-other_sides Right Top d = inr (inr (inl refl))
In-other_sides Bottom Left d = inl refl
In-other_sides Bottom Right d = inr (inl refl)
In-other_sides Bottom Bottom d = absurd (d refl)
In-other_sides Bottom Top d = inr (inr (inl refl))
In-other_sides Top Left d = inl refl
In-other_sides Top Right d = inr (inl refl)
In-other_sides Top Bottom d = inr (inr (inl refl))
In-other_sides Top Top d = absurd (d refl)

one_of_three : {T : Type 0} (a b c x y : T) → a ≢ y → b ≢ y → c ≢ y → In (a ∷ b ∷ c ∷ []) x → x ≢ y
one_of_three a b c x y da db dc h e =
    elim h [
      | inl p ↦ da (p ∙ e)
      | inr t ↦
          (elim t [
            | inl q ↦ db (q ∙ e)
            | inr u ↦ (elim u [ inl r ↦ dc (r ∙ e) | inr v ↦ absurd v ])
          ])
    ]

from_In-other_sides : (s t : Side) → In (other_sides s) t → t ≢ s
from_In-other_sides Left t h = one_of_three Right Bottom Top t Left (λ e. cc) (λ e. cc) (λ e. cc) h
from_In-other_sides Right t h = one_of_three Left Bottom Top t Right (λ e. cc) (λ e. cc) (λ e. cc) h
from_In-other_sides Bottom t h =
    one_of_three Left Right Top t Bottom (λ e. cc) (λ e. cc) (λ e. cc) h
from_In-other_sides Top t h = one_of_three Left Right Bottom t Top (λ e. cc) (λ e. cc) (λ e. cc) h

In-sides : (s : Side) → In (Left ∷ Right ∷ Bottom ∷ Top ∷ []) s
In-sides Left = inl refl
In-sides Right = inr (inl refl)
In-sides Bottom = inr (inr (inl refl))
In-sides Top = inr (inr (inr (inl refl)))

abbrev at_row : ℕ → ℕ → SwitchAt
at_row i j = record { i = i; j = j }

In-switch_blocks : (grid : Size) (s : SwitchAt) → s.i ≤ grid.nx → s.j ≤ grid.ny
    → In (switch_blocks grid) s
In-switch_blocks grid s column row =
    In-flat_map (λ i. map (at_row i) (range_with_len 0 (grid.ny + 1)))
    (range_with_len 0 (grid.nx + 1)) s.i s
    (In-range 0 (grid.nx + 1) s.i (omega arith) (omega (arith, column)))
    (In-map (at_row s.i) (range_with_len 0 (grid.ny + 1)) s.j
    (In-range 0 (grid.ny + 1) s.j (omega arith) (omega (arith, row))))

from_In-switch_blocks : (grid : Size) (s : SwitchAt) → In (switch_blocks grid) s → (s.i ≤ grid.nx)
    × (s.j ≤ grid.ny)
from_In-switch_blocks grid s h =
    let one = from_In-flat_map (λ i. map (at_row i) (range_with_len 0 (grid.ny + 1)))
    (range_with_len 0 (grid.nx + 1)) s h in
    let two = from_In-map (at_row one.0) (range_with_len 0 (grid.ny + 1)) s one.2 in
    let column = from_In-range 0 (grid.nx + 1) one.0 one.1 in
    let row = from_In-range 0 (grid.ny + 1) two.0 two.1 in
    let i : one.0 ≡ s.i = ap (λ (w : SwitchAt). w.i) two.2 in
    let j : two.0 ≡ s.j = ap (λ (w : SwitchAt). w.j) two.2 in (
      subst (λ n. n ≤ grid.nx) i (omega (arith, column.1)),
      subst (λ n. n ≤ grid.ny) j (omega (arith, row.1)),
    )

abbrev placed : SwitchAt → Side → Side → Meeting
placed at from to = record { at = at; from = from; to = to }

abbrev placed_from : SwitchAt → Side → List Meeting
placed_from at from = map (placed at from) (other_sides from)

abbrev placed_at : SwitchAt → List Meeting
placed_at at = flat_map (placed_from at) (Left ∷ Right ∷ Bottom ∷ Top ∷ [])

In-all_meetings : (grid : Size) (m : Meeting) → m.at.i ≤ grid.nx → m.at.j ≤ grid.ny → m.from ≢ m.to
    → In (all_meetings grid) m
In-all_meetings grid m column row sides =
    In-flat_map placed_at (switch_blocks grid) m.at m (In-switch_blocks grid m.at column row)
    (In-flat_map (placed_from m.at) (Left ∷ Right ∷ Bottom ∷ Top ∷ []) m.from m (In-sides m.from)
    (In-map (placed m.at m.from) (other_sides m.from) m.to (In-other_sides m.from m.to sides)))

from_In-all_meetings : (grid : Size) (m : Meeting) → In (all_meetings grid) m → (m.at.i ≤ grid.nx)
    × (m.at.j ≤ grid.ny) × (m.from ≢ m.to)
from_In-all_meetings grid m h =
    let one = from_In-flat_map placed_at (switch_blocks grid) m h in
    let two = from_In-flat_map (placed_from one.0) (Left ∷ Right ∷ Bottom ∷ Top ∷ []) m one.2 in
    let three = from_In-map (placed one.0 two.0) (other_sides two.0) m two.2 in
    let block = from_In-switch_blocks grid one.0 one.1 in
    let sides = from_In-other_sides two.0 three.0 three.1 in
    let at : one.0 ≡ m.at = ap (λ (w : Meeting). w.at) three.2 in
    let from : two.0 ≡ m.from = ap (λ (w : Meeting). w.from) three.2 in
    let to : three.0 ≡ m.to = ap (λ (w : Meeting). w.to) three.2 in (
      subst (λ (w : SwitchAt). w.i ≤ grid.nx) at block.0,
      subst (λ (w : SwitchAt). w.j ≤ grid.ny) at block.1,
      λ e. sides (to ∙ sym e ∙ sym from),
    )

-- what the search finds is where they meet
pub meeting-is : (grid : Size) (a b : Cell) (m : Meeting) → meeting grid a b ≡ Some m
    → MeetsAt grid a b m
meeting-is grid a b m h = go (is_cell grid a && is_cell grid b) refl
  where
    go : (t : Bool) → (is_cell grid a && is_cell grid b) ≡ t → MeetsAt grid a b m
    go false e = absurd (let k : None ≡ Some m = rw e at h in cc)
    go true e =
        let cells = both_true (is_cell grid a) (is_cell grid b) e in
        let found : find (is_meeting_of a b) (all_meetings grid) ≡ Some m = rw e at h in
        let one = find-In (is_meeting_of a b) (all_meetings grid) m found in
        let place = from_In-all_meetings grid m one.0 in
        let same = both_true (same_cell a (cell_on m.from m.at))
        (same_cell b (cell_on m.to m.at)) one.1 in
        record {
          column = place.0;
          row = place.1;
          sides = place.2;
          first = (cells.0, same_cell-is a (cell_on m.from m.at) same.0);
          second = (cells.1, same_cell-is b (cell_on m.to m.at) same.1);
        }

abbrev record_of : Axis → ℕ → ℕ → Cell
record_of axis x y = record { axis = axis; x = x; y = y }

-- of two sides that have one cell at two switch blocks: the blocks are next to each other, and the
-- sides look at one another
abbrev Shift : Side → Side → SwitchAt → SwitchAt → Type 0
Shift Left Right p q = (q.i + 1 ≡ p.i) × (p.j ≡ q.j)
Shift Right Left p q = (p.i + 1 ≡ q.i) × (p.j ≡ q.j)
Shift Bottom Top p q = (p.i ≡ q.i) × (q.j + 1 ≡ p.j)
Shift Top Bottom p q = (p.i ≡ q.i) × (p.j + 1 ≡ q.j)
Shift _ _ p q = ⊥

other_axis : {x y u v : ℕ} → record_of X x y ≡ record_of Y u v → ⊥
other_axis e = (let k : X ≡ Y = ap (λ (c : Cell). c.axis) e in cc)

same_place : (p q : SwitchAt) → p.i ≡ q.i → p.j ≡ q.j → p ≡ q
same_place p q i j = λ k. record { i = i k; j = j k }

passes_at : (a b : Cell) (m : Meeting) → a ≡ cell_on m.from m.at → b ≡ cell_on m.to m.at
    → is_meeting_of a b m ≡ true
passes_at a b m e f =
    rw (e, f, same_cell-itself (cell_on m.from m.at), same_cell-itself (cell_on m.to m.at)) refl

-- one cell on two sides: the same side of the same block, or the blocks are shifted
shared : (s t : Side) (p q : SwitchAt) → cell_on s p ≡ cell_on t q → ((s ≡ t) × (p ≡ q))
    ⊎ Shift s t p q
shared Left Left p q e = inl (refl, λ i. record { i = (e i).x; j = (e i).y })
shared Left Right p q e = inr (sym (ap (λ (c : Cell). c.x) e), ap (λ (c : Cell). c.y) e)
shared Left Bottom p q e = absurd (other_axis e)
shared Left Top p q e = absurd (other_axis e)
shared Right Left p q e = inr (ap (λ (c : Cell). c.x) e, ap (λ (c : Cell). c.y) e)
shared Right Right p q e =
    inl (refl, same_place p q (omega (arith, ap (λ (c : Cell). c.x) e)) (ap (λ (c : Cell). c.y) e))
shared Right Bottom p q e = absurd (other_axis e)
shared Right Top p q e = absurd (other_axis e)
shared Bottom Left p q e = absurd (other_axis (sym e))
shared Bottom Right p q e = absurd (other_axis (sym e))
shared Bottom Bottom p q e = inl (refl, λ i. record { i = (e i).x; j = (e i).y })
shared Bottom Top p q e = inr (ap (λ (c : Cell). c.x) e, sym (ap (λ (c : Cell). c.y) e))
shared Top Left p q e = absurd (other_axis (sym e))
shared Top Right p q e = absurd (other_axis (sym e))
shared Top Bottom p q e = inr (ap (λ (c : Cell). c.x) e, ap (λ (c : Cell). c.y) e)
shared Top Top p q e =
    inl (refl, same_place p q (ap (λ (c : Cell). c.x) e) (omega (arith, ap (λ (c : Cell). c.y) e)))

-- two shifts are of one pair of sides
module _ (p q : SwitchAt) where
  from_left : (t u : Side) → Left ≢ t → (q.i + 1 ≡ p.i) × (p.j ≡ q.j) → Shift t u p q → ⊥
  from_left Left u d h g = d refl
  from_left Right Left d h g = omega (arith, h.0, g.0)
  from_left Bottom Top d h g = omega (arith, h.0, g.0)
  from_left Top Bottom d h g = omega (arith, h.0, g.0)
  from_left _ _ d h g = g

  from_right : (t u : Side) → Right ≢ t → (p.i + 1 ≡ q.i) × (p.j ≡ q.j) → Shift t u p q → ⊥
  from_right Right u d h g = d refl
  from_right Left Right d h g = omega (arith, h.0, g.0)
  from_right Bottom Top d h g = omega (arith, h.0, g.0)
  from_right Top Bottom d h g = omega (arith, h.0, g.0)
  from_right _ _ d h g = g

  from_bottom : (t u : Side) → Bottom ≢ t → (p.i ≡ q.i) × (q.j + 1 ≡ p.j) → Shift t u p q → ⊥
  from_bottom Bottom u d h g = d refl
  from_bottom Left Right d h g = omega (arith, h.0, g.0)
  from_bottom Right Left d h g = omega (arith, h.0, g.0)
  from_bottom Top Bottom d h g = omega (arith, h.1, g.1)
  from_bottom _ _ d h g = g

  from_top : (t u : Side) → Top ≢ t → (p.i ≡ q.i) × (p.j + 1 ≡ q.j) → Shift t u p q → ⊥
  from_top Top u d h g = d refl
  from_top Left Right d h g = omega (arith, h.0, g.0)
  from_top Right Left d h g = omega (arith, h.0, g.0)
  from_top Bottom Top d h g = omega (arith, h.1, g.1)
  from_top _ _ d h g = g

  one_shift : (s s' t t' : Side) → s ≢ t → Shift s s' p q → Shift t t' p q → ⊥
  one_shift Left Right t t' d h g = from_left t t' d h g
  one_shift Right Left t t' d h g = from_right t t' d h g
  one_shift Bottom Top t t' d h g = from_bottom t t' d h g
  one_shift Top Bottom t t' d h g = from_top t t' d h g
  one_shift _ _ t t' d h g = h

-- a block is not shifted from itself
no_shift : (s t : Side) (p q : SwitchAt) → p ≡ q → Shift s t p q → ⊥
no_shift Left Right p q e h = omega (arith, h.0, ap (λ (w : SwitchAt). w.i) e)
no_shift Right Left p q e h = omega (arith, h.0, ap (λ (w : SwitchAt). w.i) e)
no_shift Bottom Top p q e h = omega (arith, h.1, ap (λ (w : SwitchAt). w.j) e)
no_shift Top Bottom p q e h = omega (arith, h.1, ap (λ (w : SwitchAt). w.j) e)
no_shift _ _ p q e h = h

-- two cells meet at one switch block alone, on sides that are fixed
pub one_meeting : (grid : Size) (a b : Cell) (m n : Meeting) → MeetsAt grid a b m
    → MeetsAt grid a b n → m ≡ n
one_meeting grid a b m n h g =
    elim (shared m.from n.from m.at n.at (sym h.first.1 ∙ g.first.1)) [
      | inl same ↦ (elim (shared m.to n.to m.at n.at (sym h.second.1 ∙ g.second.1)) [
        | inl alike ↦ (λ i. record { at = same.1 i; from = same.0 i; to = alike.0 i })
        | inr moved ↦ absurd (no_shift m.to n.to m.at n.at same.1 moved)
      ])
      | inr moved ↦ (elim (shared m.to n.to m.at n.at (sym h.second.1 ∙ g.second.1)) [
        | inl alike ↦ absurd (no_shift m.from n.from m.at n.at alike.1 moved)
        | inr also ↦ absurd (one_shift m.at n.at m.from n.from m.to n.to h.sides moved also)
      ])
    ]

-- where two cells meet, the search finds it
pub meeting-found : (grid : Size) (a b : Cell) (m : Meeting) → MeetsAt grid a b m → meeting grid a b
    ≡ Some m
meeting-found grid a b m h =
    let passes : is_meeting_of a b m ≡ true = passes_at a b m h.first.1 h.second.1 in
    let found = find-some (is_meeting_of a b) (all_meetings grid) m
    (In-all_meetings grid m h.column h.row h.sides) passes in
    let whole : meeting grid a b ≡ Some found.0 = rw (h.first.0, h.second.0) found.1 in
    whole ∙ ap (λ n. Some n) (one_meeting grid a b found.0 m (meeting-is grid a b found.0 whole) h)

-- wires are joined exactly where the track of the one is mapped across to that of the other
pub joined-across : (map : TrackMap) (grid : Size) (u v : Wire) → AreJoined map grid u v
    → track_across map grid u.cell v.cell u.track ≡ Some v.track
joined-across map grid u v h = rw (meeting-found grid u.cell v.cell h.0 h.1, h.2) refl

pub across-joined : (map : TrackMap) (grid : Size) (u v : Wire)
    → track_across map grid u.cell v.cell u.track ≡ Some v.track → AreJoined map grid u v
across-joined map grid u v h = go (meeting grid u.cell v.cell) refl
  where
    go : (o : Option Meeting) → meeting grid u.cell v.cell ≡ o → AreJoined map grid u v
    go None e = absurd (let k : None ≡ Some v.track = rw e at h in cc)
    go (Some m) e = (
      m,
      meeting-is grid u.cell v.cell m e,
      (let k : Some (map m.from m.to u.track) ≡ Some v.track = rw e at h in cc),
    )
