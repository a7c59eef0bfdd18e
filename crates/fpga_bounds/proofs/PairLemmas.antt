-- How many pairs of slots there are, with one slot more.
use Rattle.std.proofs.Common.{◌≡◌, ℕ, suc, ◌+◌, ◌<◌, ◌≤◌, Bool, true, false, cond, Option, Some, None, List, [], ◌∷◌, ◌++◌, length, take, get_or, refl, sym, ap, subst, ◌∙◌, arith, add-one, length-append}
use Rattle.std.specs.Prelude.{◌&&◌, ◌==◌, not, nat_lt, is_some, unwrap_or, filter_map, flat_map, count_by, filter, AllPairs, if◌then◌else◌}
use Rattle.std.specs.BTreeMap.{BTreeMap, get, is_at}
use Rattle.std.specs.List.{enumerate_from, cons_option}
use Rattle.std.proofs.lemmas.Bool.{false≢true}
use Rattle.std.proofs.lemmas.Bool.Decides.{nat_tests}
use Rattle.std.proofs.Math.Seq.{take-suc}
use Rattle.std.proofs.lemmas.Grind.{flat_map-append}
use Rattle.std.proofs.lemmas.List.{get_or-take, length-take}
use Rattle.std.proofs.lemmas.List.Kept.{AllPairs-cons, AllPairs-filter}
use Rattle.std.proofs.lemmas.List.Elements.{filter_map-append, filter_passes}
use Rattle.std.proofs.lemmas.List.Sums.{count_by_more_no, count_by_more_yes, sum_by-cons}
use Rattle.fpga_types.specs.Fabric.{same_cell}
use Rattle.fpga_types.specs.Slots.{NO_SLOT, compete, first_seen, pairs, same_slot, slots}
use Rattle.fpga_types.specs.contracts.grid.CellOrd.TheImpl.{cmp-value}
use Rattle.fpga_types.specs.declared.grid.Cell.{Cell}
use Rattle.fpga_types.specs.declared.problem.Slot.{Slot}
use Rattle.fpga_types.specs.declared.route.RouteText.{RouteText}
use Rattle.fpga_types.proofs.MeetingLemmas.{same_cell-is, same_cell-itself}
use Rattle.fpga_bounds.specs.Pairs.{AreDistinct, crowd_in}
use Rattle.fpga_bounds.proofs.CellOrder.{cell_order}
use Rattle.list_laws.proofs.Numbered.{enumerate-push}
use Rattle.fpga_bounds.proofs.SlotsOfLemmas.{channel_slots}

-- all that a row makes with another
module _ {A B : Type 0} (g : A → A → Option B) where
  one-more : (a z : A) (others : List A) → length (filter_map (g a) (others ++ z ∷ []))
      ≡ length (filter_map (g a) others) + length (filter_map (g a) (z ∷ []))
  one-more a z others =
      rw (filter_map-append (g a) others (z ∷ []))
      (length-append (filter_map (g a) others) (filter_map (g a) (z ∷ [])))

  made-one : (a z : A) → length (filter_map (g a) (z ∷ [])) ≡ cond (is_some (g a z)) 1 0
  made-one a z = go (g a z)
    where
      go : (o : Option B) → length (cons_option o []) ≡ cond (is_some o) 1 0
      go None = refl
      go (Some b) = refl

  -- with one element more to be made with
  pub made-more : (row others : List A) (z : A)
      → length (flat_map (λ a. filter_map (g a) (others ++ z ∷ [])) row)
      ≡ length (flat_map (λ a. filter_map (g a) others) row) + count_by (λ a. is_some (g a z)) row
  made-more [] others z = refl
  made-more (a ∷ row) others z =
      rw (
        length-append (filter_map (g a) (others ++ z ∷ []))
            (flat_map (λ b. filter_map (g b) (others ++ z ∷ [])) row),
        length-append (filter_map (g a) others) (flat_map (λ b. filter_map (g b) others) row),
        one-more a z others,
        made-one a z,
        made-more row others z,
        sum_by-cons (λ b. cond (is_some (g b z)) 1 0) a row,
      )
      (omega arith)

-- the numbers of two slots, where they make a pair
abbrev pub pair_of : ℕ × Slot → ℕ × Slot → Option (ℕ × ℕ)
pair_of a b = if nat_lt a.0 b.0 && compete a.1 b.1 then Some (a.0, b.0) else None

not_below : (a b : ℕ) → b ≤ a → nat_lt a b ≡ false
not_below a b g = grind (arith, nat_tests)

-- a slot makes no pair with itself or one before it
late-none : (n : ℕ) (x : Slot) (k : ℕ) (ys : List Slot) → k + length ys ≤ n + 1
    → filter_map (pair_of (n, x)) (enumerate_from k ys) ≡ []
late-none n x k [] h = refl
late-none n x k (y ∷ ys) h =
    rw (not_below n k (omega arith), late-none n x (k + 1) ys (omega arith)) refl

-- a slot makes a pair with each earlier one that it competes with
pairs-with : (n : ℕ) (x : Slot) (k : ℕ) (xs : List Slot) → k + length xs ≤ n
    → count_by (λ a. is_some (pair_of a (n, x))) (enumerate_from k xs)
    ≡ count_by (λ a. compete a x) xs
pairs-with n x k [] h = refl
pairs-with n x k (y ∷ ys) h =
    rw (
      sum_by-cons (λ a. cond (is_some (pair_of a (n, x))) 1 0) (k, y) (enumerate_from (k + 1) ys),
      sum_by-cons (λ (a : Slot). cond (compete a x) 1 0) y ys,
      is_below k n (omega arith),
      pairs-with n x (k + 1) ys (omega arith),
    )
    (go (compete y x))
  where
    is_below : (a b : ℕ) → a < b → nat_lt a b ≡ true
    is_below a b g = grind (arith, nat_tests)

    pair : ℕ × ℕ
    pair = (k, n)

    go : (t : Bool) → cond (is_some (if t then Some pair else None)) 1 0 + count_by
        (λ a. compete a x) ys ≡ cond t 1 0 + count_by (λ a. compete a x) ys
    go true = refl
    go false = refl

-- one slot more makes a pair with each that it competes with
pub pairs-push : (xs : List Slot) (x : Slot) → length (pairs (xs ++ x ∷ []))
    ≡ length (pairs xs) + count_by (λ a. compete a x) xs
pairs-push xs x =
    let n = length xs in
    rw (
      enumerate-push 0 xs x,
      flat_map-append (λ a. filter_map (pair_of a) (enumerate_from 0 xs ++ (0 + n, x) ∷ []))
          (enumerate_from 0 xs) ((0 + n, x) ∷ []),
      length-append (flat_map (λ a. filter_map (pair_of a) (enumerate_from 0 xs ++ (0 + n, x) ∷ []))
          (enumerate_from 0 xs)) (flat_map
          (λ a. filter_map (pair_of a) (enumerate_from 0 xs ++ (0 + n, x) ∷ [])) ((0 + n, x) ∷ [])),
      made-more pair_of (enumerate_from 0 xs) (enumerate_from 0 xs) (0 + n, x),
      pairs-with (0 + n) x 0 xs (omega arith),
      filter_map-append (pair_of (0 + n, x)) (enumerate_from 0 xs) ((0 + n, x) ∷ []),
      late-none (0 + n) x 0 xs (omega arith),
    )
    (rw (not_below (0 + n) (0 + n) (omega arith)) (omega arith))

-- it does not matter which cell is named first
pub same_cell-swap : (a b : Cell) → same_cell a b ≡ same_cell b a
same_cell-swap a b = go (same_cell a b) (same_cell b a) refl refl
  where
    go : (p q : Bool) → same_cell a b ≡ p → same_cell b a ≡ q → p ≡ q
    go true true e f = refl
    go false false e f = refl
    go true false e f =
        absurd (false≢true (sym f ∙ subst (λ (z : Cell). same_cell z a ≡ true) (same_cell-is a b e)
        (same_cell-itself a)))
    go false true e f =
        absurd (false≢true (sym e ∙ subst (λ (z : Cell). same_cell z b ≡ true) (same_cell-is b a f)
        (same_cell-itself b)))

-- slots that are not one compete where they take one cell
pub competes : (a b : Slot) → same_slot a b ≡ false → compete a b ≡ same_cell a.cell b.cell
competes a b h = go (a.net == b.net) (same_cell a.cell b.cell) h
  where
    go : (p q : Bool) → (p && q) ≡ false → (not p && q) ≡ q
    go true true h = absurd (false≢true (sym h))
    go true false h = refl
    go false q h = refl

-- a slot that is none of these competes with those that take its cell
pub competes-all : (xs : List Slot) (x d : Slot)
    → ((k : ℕ) → k < length xs → same_slot (get_or xs k d) x ≡ false)
    → count_by (λ a. compete a x) xs ≡ crowd_in xs x.cell
competes-all [] x d h = refl
competes-all (y ∷ ys) x d h =
    rw (
      sum_by-cons (λ (a : Slot). cond (compete a x) 1 0) y ys,
      sum_by-cons (λ (a : Slot). cond (same_cell a.cell x.cell) 1 0) y ys,
      competes y x (h 0 (omega arith)),
      competes-all ys x d (λ k below. h (suc k) (omega arith)),
    ) refl

-- how many of the slots take each cell, with one slot more
pub crowd-more : (all : List Slot) (i n : ℕ) (old new : BTreeMap Cell ℕ) → i < length all
    → ((c : Cell) → unwrap_or (get cmp-value.it old c) 0 ≡ crowd_in (take i all) c)
    → n ≡ crowd_in (take i all) (get_or all i NO_SLOT).cell
    → ((q : Cell) → get cmp-value.it new q
    ≡ cond (is_at (cmp-value.it (get_or all i NO_SLOT).cell) q) (Some (n + 1))
    (get cmp-value.it old q))
    → (c : Cell) → unwrap_or (get cmp-value.it new c) 0 ≡ crowd_in (take (i + 1) all) c
crowd-more all i n old new below before count after c =
    go (same_cell (get_or all i NO_SLOT).cell c) refl
  where
    go : (t : Bool) → same_cell (get_or all i NO_SLOT).cell c ≡ t
        → unwrap_or (get cmp-value.it new c) 0 ≡ crowd_in (take (i + 1) all) c
    go true e =
        let here : (get_or all i NO_SLOT).cell ≡ c = same_cell-is _ _ e in
        rw (
          after c,
          cell_order (get_or all i NO_SLOT).cell c,
          e,
          count_by_more_yes (λ (slot : Slot). same_cell slot.cell c) all i NO_SLOT below e,
        )
        (ap (λ (m : ℕ). m + 1) (count ∙ ap (λ (d : Cell). crowd_in (take i all) d) here))
    go false e = rw (
      after c,
      cell_order (get_or all i NO_SLOT).cell c,
      e,
      count_by_more_no (λ (slot : Slot). same_cell slot.cell c) all i NO_SLOT below e,
    ) (before c)

-- the pairs of the slots so far are counted, with one slot more
pub take-more : (all : List Slot) (i n crowd : ℕ) → i < length all → AreDistinct all → n
    ≡ length (pairs (take i all))
    → crowd ≡ crowd_in (take i all) (get_or all i NO_SLOT).cell → n + crowd
    ≡ length (pairs (take (i + 1) all))
take-more all i n crowd below apart counted here =
    let x : Slot = get_or all i NO_SLOT in
    let len : length (take i all) ≡ i = omega (arith, length-take i all) in
    let others : (k : ℕ) → k < length (take i all) → same_slot (get_or (take i all) k NO_SLOT) x
    ≡ false =
    (λ k h. let inside : k < i = omega arith in rw (get_or-take i all k NO_SLOT inside)
    (apart k i NO_SLOT inside below)) in
    rw (
      add-one i,
      take-suc all i NO_SLOT below,
      pairs-push (take i all) x,
      competes-all (take i all) x NO_SLOT others,
    ) (λ j. counted j + here j)

-- of elements that are first seen no two are the same
first_seen-apart : {T : Type 0} (same : T → T → Bool) (xs : List T)
    → AllPairs (λ a b. same a b ≡ false) (first_seen same xs)
first_seen-apart same [] = λ i j d low high. absurd (omega arith)
first_seen-apart {T} same (x ∷ xs) =
    let others = first_seen same xs in
    AllPairs-cons (λ a b. same a b ≡ false) x (filter (λ y. not (same x y)) others)
    (λ k d below. not-true (same x (get_or (filter (λ y. not (same x y)) others) k d))
    (filter_passes (λ y. not (same x y)) others k d below))
    (AllPairs-filter (λ a b. same a b ≡ false) (λ y. not (same x y)) others
    (first_seen-apart same xs))
  where
    not-true : (b : Bool) → not b ≡ true → b ≡ false
    not-true true h = absurd (false≢true h)
    not-true false h = refl

-- each slot of a route stands once
pub slots-distinct : (route : RouteText) → AreDistinct (slots route)
slots-distinct route = first_seen-apart same_slot (channel_slots route.nets)
