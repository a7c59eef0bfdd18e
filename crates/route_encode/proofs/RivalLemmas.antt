-- The slots of a cell in their order, and the walk from one to the next.
use Rattle.std.proofs.Common.{◌≡◌, ◌≢◌, ℕ, zero, suc, ◌+◌, ◌-◌, ◌<◌, ◌≤◌, Bool, true, false, cond, Option, Some, None, List, [], ◌∷◌, ◌++◌, length, get_or, slice_set, refl, sym, ap, subst, ◌∙◌, arith, inl, inr}
use Rattle.std.specs.Prelude.{nat_lt, filter, filter_map, find, flat_map, map, if◌then◌else◌}
use Rattle.std.specs.List.{enumerate_from, range_with_len, cons_option}
use Rattle.std.specs.Option.{option_map_or}
use Rattle.std.proofs.lemmas.Bool.{cases_lt}
use Rattle.std.proofs.lemmas.Bool.Decides.{nat_tests}
use Rattle.std.specs.BTreeMap.{BTreeMap, get, is_at}
use Rattle.std.proofs.lemmas.List.{append-nil, get_or-set_other, get_or-set_same}
use Rattle.std.proofs.lemmas.List.Elements.{filter-append, filter_map-append}
use Rattle.list_laws.proofs.Members.{from_In-range}
use Rattle.list_laws.proofs.Numbered.{enumerate-map}
use Rattle.list_laws.proofs.Rows.{filter_map-map, rows-alike, rows-map, rows-rows}
use Rattle.list_laws.proofs.Searches.{filter-none}
use Rattle.fpga_types.specs.Fabric.{same_cell}
use Rattle.fpga_types.specs.Slots.{NO_SLOT, compete, pairs, slot_at}
use Rattle.fpga_types.specs.contracts.grid.CellOrd.TheImpl.{cmp-value}
use Rattle.fpga_types.specs.declared.grid.Cell.{Cell}
use Rattle.fpga_types.specs.declared.problem.Slot.{Slot}
use Rattle.fpga_types.proofs.MeetingLemmas.{same_cell-is}
use Rattle.fpga_bounds.specs.Pairs.{AreDistinct}
use Rattle.fpga_bounds.proofs.CellOrder.{cell_order}
use Rattle.fpga_bounds.proofs.PairLemmas.{competes, pair_of, same_cell-swap}
use Rattle.route_encode.specs.Encoding.{below}
use Rattle.route_encode.specs.Rivals.{next_rival, rivals_after, share_cell, slots_from}

-- numbers up to one and from it on
pub range-append : (a m n : ℕ) → range_with_len a (m + n) ≡ range_with_len a m ++ range_with_len
    (a + m) n
range-append a zero n = let e : 0 + n ≡ n = omega arith in let f : a ≡ a + 0 = omega arith in
    λ i. range_with_len (f i) (e i)
range-append a (suc m) n =
    let e : suc m + n ≡ suc (m + n) = omega arith in
    let f : a + 1 + m ≡ a + suc m = omega arith in
    ap (range_with_len a) e ∙ ap (λ (ks : List ℕ). a ∷ ks) (range-append (a + 1) m n
    ∙ ap (λ (b : ℕ). range_with_len (a + 1) m ++ range_with_len b n) f)

-- what a search among numbers finds: it passes, and none before it does
pub record IsFirst (p : ℕ → Bool) (a n b : ℕ) : Type 0 where
  pub low : a ≤ b
  pub high : b < a + n
  pub passes : p b ≡ true
  pub none : filter p (range_with_len a (b - a)) ≡ []

pub found-first : (p : ℕ → Bool) (a n b : ℕ) → find p (range_with_len a n) ≡ Some b
    → IsFirst p a n b
found-first p a zero b h = cc
found-first p a (suc n) b h = go (p a) refl h (found-first p (a + 1) n b)
  where
    go : (t : Bool) → p a ≡ t → cond t (Some a) (find p (range_with_len (a + 1) n)) ≡ Some b
        → (find p (range_with_len (a + 1) n) ≡ Some b → IsFirst p (a + 1) n b)
        → IsFirst p a (suc n) b
    go true e g more =
        let same : a ≡ b = cc in
        let none : b - a ≡ 0 = omega arith in
        record {
          low = omega arith;
          high = omega arith;
          passes =
              subst (λ (k : ℕ). p k ≡ true) same e;
          none = rw none refl;
        }
    go false e g more =
        let r = more g in
        let count : b - a ≡ suc (b - (a + 1)) = omega (arith, r.low) in
        record {
          low = omega (arith, r.low);
          high = omega (arith, r.high);
          passes = r.passes;
          none =
              rw (count, e) r.none;
        }

-- the walk through the rivals of a slot has passed these, and this is the next
pub record IsWalked (all : List Slot) (slot : ℕ) (next : Option ℕ) (done : List ℕ) : Type 0 where
  pub at : ℕ
  pub above : slot < at
  pub within : at ≤ length all
  pub next_is : next ≡ find (share_cell all slot) (slots_from all at)
  pub done_is : done ≡ filter (share_cell all slot) (range_with_len (slot + 1) (at - (slot + 1)))

-- the slots from one place on, up to another and from there
slots-split : (all : List Slot) (a b : ℕ) → a ≤ b → b ≤ length all → slots_from all a
    ≡ range_with_len a (b - a) ++ slots_from all b
slots-split all a b low high =
    let count : length all - a ≡ (b - a) + (length all - b) = omega arith in
    let place : a + (b - a) ≡ b = omega arith in
    ap (range_with_len a) count ∙ range-append a (b - a) (length all - b)
    ∙ ap (λ (k : ℕ). range_with_len a (b - a) ++ range_with_len k (length all - b)) place

pub slots_from-cons : (all : List Slot) (a : ℕ) → a < length all → slots_from all a
    ≡ a ∷ slots_from all (a + 1)
slots_from-cons all a h = let count : length all - a ≡ suc (length all - (a + 1)) = omega arith in
    ap (range_with_len a) count

pub walk-end : (all : List Slot) (slot : ℕ) (done : List ℕ) → IsWalked all slot None done
    → done ≡ rivals_after all slot
walk-end all slot done h =
    let rest : filter (share_cell all slot) (slots_from all h.at) ≡ [] =
    filter-none (share_cell all slot) (slots_from all h.at) (sym h.next_is) in
    h.done_is
    ∙ sym (rw (
      slots-split all (slot + 1) h.at (omega (arith, h.above)) h.within,
      filter-append
          (share_cell all slot) (range_with_len (slot + 1) (h.at - (slot + 1)))
          (slots_from all h.at),
      rest,
    )
    (append-nil (filter (share_cell all slot) (range_with_len (slot + 1) (h.at - (slot + 1))))))

-- the next rivals of the slots from s on, with one slot more before them
pub row-more : (all : List Slot) (row : List (Option ℕ)) (s : ℕ) (x : Option ℕ) → 0 < s
    → s ≤ length all → length row ≡ length all
    → ((k : ℕ) → s ≤ k → k < length all → get_or row k None ≡ next_rival all k)
    → x ≡ next_rival all (s - 1)
    → (k : ℕ) → s - 1 ≤ k → k < length all → get_or (slice_set row (s - 1) x) k None
    ≡ next_rival all k
row-more all row s x some high each before here k low below = elim (cases_lt (s - 1) k) [
  | inl later ↦ (let other : k ≢ s - 1 = omega arith in get_or-set_other row (s - 1) k x None other
      ∙ before k (omega arith) below)
  | inr not_later ↦ (let same : k ≡ s - 1 = omega arith in
      subst (λ (j : ℕ). get_or (slice_set row (s - 1) x) j None ≡ next_rival all j) (sym same)
      (get_or-set_same row (s - 1) x None (omega (arith, some, high, each)) ∙ here))
]

-- the next rival of the slot before s is the first from s on that takes its cell
pub rival-first : (all : List Slot) (s : ℕ) → 0 < s
    → find (share_cell all (s - 1)) (slots_from all s) ≡ next_rival all (s - 1)
rival-first all s some = let place : s ≡ s - 1 + 1 = omega arith in
    ap (λ (k : ℕ). find (share_cell all (s - 1)) (slots_from all k)) place

-- the first slot in each cell, with one slot more
pub first-more : (all : List Slot) (s : ℕ) (old new : BTreeMap Cell ℕ) → 0 < s → s ≤ length all
    → ((c : Cell) → get cmp-value.it old c ≡ find (λ b. same_cell (slot_at all b).cell c)
    (slots_from all s))
    → ((q : Cell) → get cmp-value.it new q
    ≡ cond (is_at (cmp-value.it (slot_at all (s - 1)).cell) q) (Some (s - 1))
    (get cmp-value.it old q))
    → (c : Cell) → get cmp-value.it new c ≡ find (λ b. same_cell (slot_at all b).cell c)
    (slots_from all (s - 1))
first-more all s old new some high before after c =
    let place : s - 1 + 1 ≡ s = omega arith in
    rw (
      after c,
      cell_order (slot_at all (s - 1)).cell c,
      before c,
      slots_from-cons all (s - 1)
          (omega arith),
      place,
    ) refl

-- a step of the walk
same-cell-rivals : (all : List Slot) (slot b : ℕ) (ks : List ℕ) → share_cell all slot b ≡ true
    → find (share_cell all b) ks ≡ find (share_cell all slot) ks
same-cell-rivals all slot b ks h =
    let same : (slot_at all b).cell ≡ (slot_at all slot).cell =
    same_cell-is (slot_at all b).cell (slot_at all slot).cell h in
    ap (λ (c : Cell). find (λ j. same_cell (slot_at all j).cell c) ks) same

-- where the walk is at a slot, that is a later one of the cell, the walk goes on with its next
-- rival, and it is one of the rivals behind those that were passed
pub record IsStep (all : List Slot) (slot b : ℕ) (done : List ℕ) : Type 0 where
  pub later : slot < b
  pub within : b < length all
  pub on : IsWalked all slot (next_rival all b) (done ++ b ∷ [])
  pub split : rivals_after all slot ≡ (done ++ b ∷ []) ++ filter (share_cell all slot)
      (slots_from all (b + 1))

pub walk-step : (all : List Slot) (slot b : ℕ) (done : List ℕ) → IsWalked all slot (Some b) done
    → IsStep all slot b done
walk-step all slot b done h =
    let first = found-first (share_cell all slot) h.at (length all - h.at) b (sym h.next_is) in
    let inside : b < length all = omega (arith, first.high, h.within) in
    let low : slot < b = omega (arith, h.above, first.low) in
    let p : ℕ → Bool = share_cell all slot in
    let count : b + 1 - (slot + 1) ≡ (h.at - (slot + 1)) + ((b - h.at) + 1) =
    omega (arith, h.above, first.low) in
    let at_next : slot + 1 + (h.at - (slot + 1)) ≡ h.at = omega (arith, h.above) in
    let at_b : h.at + (b - h.at) ≡ b = omega (arith, first.low) in
    let passed : done ++ b ∷ [] ≡ filter p (range_with_len (slot + 1) (b + 1 - (slot + 1))) =
    sym (rw (
      count,
      range-append (slot + 1) (h.at - (slot + 1)) ((b - h.at) + 1),
      at_next,
      range-append h.at (b - h.at) 1,
      at_b,
      filter-append p (range_with_len (slot + 1) (h.at - (slot + 1)))
          (range_with_len h.at (b - h.at) ++ b ∷ []),
      filter-append p (range_with_len h.at (b - h.at)) (b ∷ []),
      first.none,
      first.passes,
    ) (ap (λ (ks : List ℕ). ks ++ b ∷ []) (sym h.done_is))) in
    record {
      later = low;
      within = inside;
      on = record {
        at = b + 1;
        above = omega (arith, low);
        within = omega (arith, inside);
        next_is = same-cell-rivals all slot b (slots_from all (b + 1)) first.passes;
        done_is = passed;
      };
      split = rw (
        slots-split all (slot + 1) (b + 1) (omega (arith, low))
            (omega (arith, inside)),
        filter-append p (range_with_len (slot + 1) (b + 1 - (slot + 1)))
            (slots_from all (b + 1)),
        passed,
      ) refl;
    }

-- the next rival is a later slot
pub next-later : (all : List Slot) (b c : ℕ) → next_rival all b ≡ Some c → b < c
next-later all b c h = let first =
    found-first (share_cell all b) (b + 1) (length all - (b + 1)) c h in omega (arith, first.low)

module _ (all : List Slot) (distinct : AreDistinct all) (a : ℕ) where
  earlier-none : (k n : ℕ) → k + n ≤ a + 1
      → filter_map (λ b. pair_of (a, slot_at all a) (b, slot_at all b)) (range_with_len k n) ≡ []
  earlier-none k zero h = refl
  earlier-none k (suc n) h =
      rw (not_below a k (omega arith), earlier-none (k + 1) n (omega arith)) refl
    where
      not_below : (x y : ℕ) → y ≤ x → nat_lt x y ≡ false
      not_below x y g = grind (arith, nat_tests)

  later-rivals : (k n : ℕ) → a < k → k + n ≤ length all
      → filter_map (λ b. pair_of (a, slot_at all a) (b, slot_at all b)) (range_with_len k n)
      ≡ map (λ b. (a, b)) (filter (share_cell all a) (range_with_len k n))
  later-rivals k zero low high = refl
  later-rivals k (suc n) low high =
      rw (is_below a k low, rival k low (omega arith))
      (go (share_cell all a k) (later-rivals (k + 1) n (omega arith) (omega arith)))
    where
      is_below : (x y : ℕ) → x < y → nat_lt x y ≡ true
      is_below x y g = grind (arith, nat_tests)

      rival : (b : ℕ) → a < b → b < length all → compete (slot_at all a) (slot_at all b)
          ≡ share_cell all a b
      rival b before within =
          competes (slot_at all a) (slot_at all b) (distinct a b NO_SLOT before within)
          ∙ same_cell-swap (slot_at all a).cell (slot_at all b).cell

      go : (t : Bool) → filter_map (λ b. pair_of (a, slot_at all a) (b, slot_at all b))
          (range_with_len (k + 1) n)
          ≡ map (λ b. (a, b)) (filter (share_cell all a) (range_with_len (k + 1) n))
          → cons_option (if t then Some (a, k) else None)
          (filter_map (λ b. pair_of (a, slot_at all a) (b, slot_at all b))
          (range_with_len (k + 1) n))
          ≡ map (λ b. (a, b)) (cond t (k ∷ filter (share_cell all a) (range_with_len (k + 1) n))
          (filter (share_cell all a) (range_with_len (k + 1) n)))
      go true h = ap (λ (ys : List (ℕ × ℕ)). (a, k) ∷ ys) h
      go false h = h

  -- the pairs of slot a are those with its rivals
  pairs-of : a < length all → filter_map (pair_of (a, slot_at all a)) (enumerate_from 0 all)
      ≡ map (λ b. (a, b)) (rivals_after all a)
  pairs-of low =
      let count : length all ≡ (a + 1) + (length all - (a + 1)) = omega arith in
      let place : 0 + (a + 1) ≡ a + 1 = omega arith in
      let later : List ℕ = range_with_len (a + 1) (length all - (a + 1)) in
      let split : below (length all) ≡ range_with_len 0 (a + 1) ++ later =
      ap (range_with_len 0) count ∙ range-append 0 (a + 1) (length all - (a + 1))
      ∙ ap (λ (k : ℕ). range_with_len 0 (a + 1) ++ range_with_len k
      (length all - (a + 1))) place in
      let q : ℕ → Option (ℕ × ℕ) = λ b. pair_of (a, slot_at all a) (b, slot_at all b) in
      rw (
        enumerate-map (slot_at all) NO_SLOT 0 all (λ k inside. ap (slot_at all) (let e : k ≡ 0 + k =
            omega arith in e)),
        filter_map-map (pair_of (a, slot_at all a)) (λ i. (i, slot_at all i)) (below (length all)),
        split,
        filter_map-append q (range_with_len 0 (a + 1)) later,
        earlier-none 0 (a + 1) (omega arith),
      )
      (later-rivals (a + 1) (length all - (a + 1)) (omega arith) (omega arith))

-- what is made of each pair, slot by slot and rival by rival
pub pairs-regroup : {C : Type 0} (all : List Slot) → AreDistinct all → (g : ℕ × ℕ → List C)
    → flat_map g (pairs all) ≡ flat_map (λ a. flat_map (λ b. g (a, b)) (rivals_after all a))
    (below (length all))
pairs-regroup {C} all distinct g =
    rows-rows g (λ z. filter_map (pair_of z) (enumerate_from 0 all)) (enumerate_from 0 all)
    ∙ ap (flat_map (λ (z : ℕ × Slot). flat_map g (filter_map (pair_of z) (enumerate_from 0 all))))
    (enumerate-map (slot_at all) NO_SLOT 0 all
    (λ k inside. ap (slot_at all) (let e : k ≡ 0 + k = omega arith in e)))
    ∙ rows-map (λ (z : ℕ × Slot). flat_map g (filter_map (pair_of z) (enumerate_from 0 all)))
    (λ i. (i, slot_at all i)) (below (length all))
    ∙ rows-alike (λ a. flat_map g (filter_map (pair_of (a, slot_at all a)) (enumerate_from 0 all)))
    (λ a. flat_map (λ b. g (a, b)) (rivals_after all a)) (below (length all)) (λ a i.
    let low = from_In-range 0 (length all) a i in
    ap (flat_map g) (pairs-of all distinct a (omega (arith, low.1)))
    ∙ rows-map g (λ b. (a, b)) (rivals_after all a))

-- how many slots are left behind the next one falls
pub fewer-left : (all : List Slot) (b : ℕ) → b < length all → option_map_or (λ c. length all - c)
    (next_rival all b) 0 < length all - b
fewer-left all b inside = go (next_rival all b) refl
  where
    go : (o : Option ℕ) → next_rival all b ≡ o
        → option_map_or (λ c. length all - c) o 0 < length all - b
    go None e = omega arith
    go (Some c) e = let later = next-later all b c e in omega arith
