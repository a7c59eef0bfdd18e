-- Lists that stand one after another in one list: their number, one of them, and one more at the
-- end.
use Rattle.std.proofs.Common.{◌≡◌, ℕ, zero, suc, ◌+◌, ◌-◌, ◌<◌, ◌≤◌, List, [], ◌∷◌, ◌++◌, length, get_or, drop, Some, slice_get, slice_range, refl, sym, ap, arith}
use Rattle.std.proofs.lemmas.List.{take-append-le, drop-append-le}
use Rattle.std.proofs.Math.Seq.{drop-append_seam, take-length}
use Rattle.std.proofs.Common.{length-drop, subst, All}
use Rattle.std.proofs.lemmas.List.Elements.{All-take, All-drop}
use Rattle.sat_clause.specs.Parts.{parts_from, RiseTo, start_of}

pub length-parts_from : {X : Type 0} (start : ℕ) (items : List X) (ends : List ℕ) →
    length (parts_from start items ends) ≡ length ends
length-parts_from start items [] = refl
length-parts_from start items (end ∷ ends) = ap suc (length-parts_from end items ends)

-- the start lies before the end
pub start_below : (n start : ℕ) (ends : List ℕ) → RiseTo n start ends → start ≤ n
start_below n start [] rise = omega arith
start_below n start (end ∷ ends) rise = omega (arith, start_below n end ends rise.1)

pub start_of_below : (n start : ℕ) (ends : List ℕ) (i : ℕ) → RiseTo n start ends → i < length ends →
    start_of start ends i ≤ get_or ends i 0
start_of_below n start [] i rise within = absurd (omega arith)
start_of_below n start (end ∷ ends) zero rise within = rise.0
start_of_below n start (end ∷ ends) (suc i) rise within =
    start_of_below n end ends i rise.1 (omega arith)

pub end_below : (n start : ℕ) (ends : List ℕ) (i : ℕ) → RiseTo n start ends → i < length ends →
    get_or ends i 0 ≤ n
end_below n start [] i rise within = absurd (omega arith)
end_below n start (end ∷ ends) zero rise within = start_below n end ends rise.1
end_below n start (end ∷ ends) (suc i) rise within = end_below n end ends i rise.1 (omega arith)

-- a part but the first begins where the one before ends
pub start_of-suc : (start : ℕ) (ends : List ℕ) (i : ℕ) → suc i < length ends →
    start_of start ends (suc i) ≡ get_or ends i 0
start_of-suc start [] i within = absurd (omega arith)
start_of-suc start (end ∷ []) i within = absurd (omega arith)
start_of-suc start (end ∷ next ∷ ends) zero within = refl
start_of-suc start (end ∷ next ∷ ends) (suc i) within =
    start_of-suc end (next ∷ ends) i (omega arith)

pub start_of-first : (start : ℕ) (ends : List ℕ) → start_of start ends 0 ≡ start
start_of-first start [] = refl
start_of-first start (end ∷ ends) = refl

pub part_at : {X : Type 0} (start : ℕ) (items : List X) (ends : List ℕ) (i : ℕ) → i < length ends →
    slice_get (parts_from start items ends) i
    ≡ Some (slice_range items (start_of start ends i) (get_or ends i 0))
part_at start items [] i within = absurd (omega arith)
part_at start items (end ∷ ends) zero within = refl
part_at start items (end ∷ ends) (suc i) within = part_at end items ends i (omega arith)

-- a part is as before where more stands behind
slice_range-append : {X : Type 0} (items more : List X) (a b : ℕ) → a ≤ b → b ≤ length items →
    slice_range (items ++ more) a b ≡ slice_range items a b
slice_range-append items more a b ab b_in =
    let a_in : a ≤ length items = omega arith in
    let fits : b - a ≤ length (drop a items) = rw (length-drop a items) (omega arith) in
    rw (drop-append-le a items more a_in) (take-append-le (b - a) (drop a items) more fits)

-- one more part behind the others
pub parts_push : {X : Type 0} (start : ℕ) (items more : List X) (ends : List ℕ) (end : ℕ) →
    RiseTo (length items) start ends → end ≡ length items + length more →
    parts_from start (items ++ more) (ends ++ end ∷ []) ≡ parts_from start items ends ++ more ∷ []
parts_push start items more [] end rise is =
    let far : end - start ≡ length more = omega arith in
    let here : drop start (items ++ more) ≡ more = rw rise (drop-append_seam items more) in
    rw (far, here, take-length) refl
parts_push start items more (e ∷ ends) end rise is =
    let here = slice_range-append items more start e rise.0
    (start_below (length items) e ends rise.1) in
    rw (here, parts_push e items more ends end rise.1 is) refl

pub rise_push : (n m start : ℕ) (ends : List ℕ) → RiseTo n start ends → n ≤ m →
    RiseTo m start (ends ++ m ∷ [])
rise_push n m start [] rise up = (omega arith, refl)
rise_push n m start (end ∷ ends) rise up = (rise.0, rise_push n m end ends rise.1 up)

-- the part at i, counted with the one before
pub start_of-before : (start : ℕ) (ends : List ℕ) (i : ℕ) → i < length ends → 0 < i →
    get_or ends (i - 1) 0 ≡ start_of start ends i
start_of-before start ends zero within some = absurd (omega arith)
start_of-before start ends (suc i) within some =
    let one : suc i - 1 ≡ i = omega arith in rw one (sym (start_of-suc start ends i within))

-- what holds of each element holds in each part
pub parts-all : {X : Type 0} (P : X → Type 0) (start : ℕ) (items : List X) (ends : List ℕ) →
    All P items → (i : ℕ) (part : List X) → slice_get (parts_from start items ends) i ≡ Some part →
    All P part
parts-all P start items [] all i part is = cc
parts-all P start items (end ∷ ends) all zero part is =
    let same : slice_range items start end ≡ part = cc in
    subst (λ (xs : List _). All P xs) same
    (All-take P (end - start) (drop start items) (All-drop P start items all))
parts-all P start items (end ∷ ends) all (suc i) part is = parts-all P end items ends all i part is
