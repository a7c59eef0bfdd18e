-- How many slots take each cell, slot by slot, and the first cell that the most take.
use Rattle.std.proofs.Common.{◌≡◌, ◌≢◌, ℕ, zero, suc, ◌+◌, ◌<◌, ◌≤◌, Bool, true, false, cond, List, [], ◌∷◌, ◌++◌, length, length-append, get_or, take, length-set, ◌⊎◌, Some, refl, sym, ap, subst, ◌∙◌, inl, inr, arith, append-nil}
use Rattle.std.specs.Prelude.{◌==◌, ◌&&◌, nat_le, not, filter, find, slice_set}
use Rattle.std.specs.List.{list_all, range_with_len}
use Rattle.std.proofs.lemmas.Bool.{cases_lt}
use Rattle.std.proofs.lemmas.Bool.Decides.{Decides-eqb, nat_tests}
use Rattle.std.proofs.lemmas.List.{get_or-set_other, get_or-set_same, get_or-take, length-take, take-append-le, take_all}
use Rattle.std.proofs.lemmas.List.Elements.{filter-append}
use Rattle.std.proofs.lemmas.List.Filters.{length-filter_both}
use Rattle.std.proofs.lemmas.List.FromFn.{length-range_with_len}
use Rattle.list_laws.proofs.Members.{In, In-range, from_In-range}
use Rattle.fpga_types.specs.CellNumbers.{cell_count, number_of_cell}
use Rattle.fpga_types.specs.Size.{Size}
use Rattle.fpga_types.specs.Slots.{slot_at}
use Rattle.fpga_types.specs.declared.problem.Slot.{Slot}
use Rattle.route_encode.specs.Encoding.{below}
use Rattle.route_encode.proofs.CompeteLemmas.{differs}
use Rattle.route_encode.proofs.RivalLemmas.{range-append}
use Rattle.problem_facts.specs.CellCounts.{AreCounted, IsFirstGreatest}
use Rattle.problem_facts.specs.Fullest.{has_most, slots_in}

pub cases-eq : (a b : ℕ) → (a ≡ b) ⊎ (a ≢ b)
cases-eq a b = elim (cases_lt a b) [
  | inl below ↦ inr (λ e. absurd (omega (arith, below, e)))
  | inr not_below ↦ elim (cases_lt b a) [
    | inl above ↦ inr (λ e. absurd (omega (arith, above, e)))
    | inr not_above ↦ inl (omega (arith, not_below, not_above))
  ]
]

pub is-le : (a b : ℕ) → a ≤ b → nat_le a b ≡ true
is-le a b h = grind (arith, nat_tests)

pub not-le : (a b : ℕ) → b < a → nat_le a b ≡ false
not-le a b h = grind (arith, nat_tests)

pub all-pass : (p : ℕ → Bool) (xs : List ℕ) → ((x : ℕ) → In xs x → p x ≡ true)
    → list_all p xs ≡ true
all-pass p [] h = refl
all-pass p (x ∷ xs) h = rw (h x (inl refl)) (all-pass p xs (λ y i. h y (inr i)))

pub one-fails : (p : ℕ → Bool) (xs : List ℕ) (x : ℕ) → In xs x → p x ≡ false → list_all p xs ≡ false
one-fails p [] x i h = absurd i
one-fails p (y ∷ xs) x (inl e) h =
    let here : p y ≡ false = ap p e ∙ h in rw here refl
one-fails p (y ∷ xs) x (inr i) h = rw (one-fails p xs x i h) (and-false (p y))
  where
    and-false : (b : Bool) → (b && false) ≡ false
    and-false true = refl
    and-false false = refl

-- what is found is the first that passes
pub find-first : (p : ℕ → Bool) (a n at : ℕ) → at < n → p (a + at) ≡ true
    → ((k : ℕ) → k < at → p (a + k) ≡ false) → find p (range_with_len a n) ≡ Some (a + at)
find-first p a zero at low h none = absurd (omega (arith, low))
find-first p a (suc n) zero low h none =
    let e : a + 0 ≡ a = omega arith in
    let here : p a ≡ true = subst (λ (k : ℕ). p k ≡ true) e h in
    rw here (ap Some (sym e))
find-first p a (suc n) (suc at) low h none =
    let here : p a ≡ false =
    subst (λ (k : ℕ). p k ≡ false) (let f : a + 0 ≡ a = omega arith in f)
    (none 0 (omega arith)) in
    let e : a + 1 + at ≡ a + suc at = omega arith in
    rw here (find-first p (a + 1) n at (omega (arith, low))
    (subst (λ (k : ℕ). p k ≡ true) (sym e) h)
    (λ k before. subst (λ (j : ℕ). p j ≡ false)
    (let f : a + suc k ≡ a + 1 + k = omega arith in f) (none (suc k) (omega (arith, before))))
    ∙ ap Some e)

-- ---- numbers that pass a test, with one number more

module _ (p : ℕ → Bool) where
  pub passing-more : (i : ℕ) → filter p (below (i + 1)) ≡
      filter p (below i) ++ cond (p i) (i ∷ []) []
  passing-more i =
      ap (filter p) (range-append 0 i 1)
      ∙ filter-append p (below i) (range_with_len (0 + i) 1)
      ∙ ap (λ (k : ℕ). filter p (below i) ++ filter p (k ∷ []))
      (let e : 0 + i ≡ i = omega arith in e)

  pub passing-taken : (i : ℕ) → p i ≡ true → filter p (below (i + 1)) ≡ filter p (below i) ++ i ∷ []
  passing-taken i here =
      passing-more i ∙ ap (λ (b : Bool). filter p (below i) ++ cond b (i ∷ []) []) here

  pub passing-left : (i : ℕ) → p i ≡ false → filter p (below (i + 1)) ≡ filter p (below i)
  passing-left i there =
      passing-more i ∙ ap (λ (b : Bool). filter p (below i) ++ cond b (i ∷ []) []) there
      ∙ append-nil (filter p (below i))

  pub few-passing : (i : ℕ) → length (filter p (below i)) ≤ i
  few-passing i = omega (
    arith,
    length-filter_both p (λ s. not (p s)) (λ s. refl) (below i),
    length-range_with_len 0 i,
  )

  -- of the numbers that pass the first ones, as many as there is room for
  module _ (width i : ℕ) (row : List ℕ) (h : row ≡ take width (filter p (below i))) where
    abbrev before : List ℕ
    before = filter p (below i)

    pub row-taken : length row < width → p i ≡ true
        → row ++ i ∷ [] ≡ take width (filter p (below (i + 1)))
    row-taken few here =
        let count = length-take width before in
        let short : length before < width = omega (arith, few, count, ap length h) in
        let whole : row ≡ before = h ∙ take_all width before (omega (arith, short)) in
        ap (λ (ys : List ℕ). ys ++ i ∷ []) whole
        ∙ sym (ap (take width) (passing-taken i here) ∙ take_all width (before ++ i ∷ [])
        (omega (arith, short, length-append before (i ∷ []))))

    pub row-left : p i ≡ false → row ≡ take width (filter p (below (i + 1)))
    row-left there = h ∙ sym (ap (take width) (passing-left i there))

    pub row-full : width ≤ length row → row ≡ take width (filter p (below (i + 1)))
    row-full full =
        let long : width ≤ length before =
        omega (arith, full, length-take width before, ap length h) in
        h ∙ sym (ap (take width) (passing-more i)
        ∙ take-append-le width before (cond (p i) (i ∷ []) []) long)

-- how many numbers have each key, with one number more
pub counted-more : (key : ℕ → ℕ) (i n : ℕ) (row : List ℕ)
    → ((k : ℕ) → k < length row → get_or row k 0 ≡ length (filter (λ s. key s == k) (below i)))
    → n ≡ key i → n < length row → (k : ℕ) → k < length (slice_set row n (get_or row n 0 + 1))
    → get_or (slice_set row n (get_or row n 0 + 1)) k 0
    ≡ length (filter (λ s. key s == k) (below (i + 1)))
counted-more key i n row h is inside k low = go (cases-eq k n)
  where
    low_before : k < length row
    low_before = omega (arith, low, length-set row n (get_or row n 0 + 1))

    go : (k ≡ n) ⊎ (k ≢ n) → get_or (slice_set row n (get_or row n 0 + 1)) k 0
        ≡ length (filter (λ s. key s == k) (below (i + 1)))
    go (inl same) =
        let here : (key i == k) ≡ true = (Decides-eqb (key i) k).1 (sym is ∙ sym same) in
        let more = ap length (passing-taken (λ s. key s == k) i here) in
        let counts = length-append (filter (λ s. key s == k) (below i)) (i ∷ []) in
        let was : get_or row n 0 ≡ length (filter (λ s. key s == k) (below i)) =
        ap (λ (m : ℕ). get_or row m 0) (sym same) ∙ h k low_before in
        ap (λ (m : ℕ). get_or (slice_set row n (get_or row n 0 + 1)) m 0) same
        ∙ get_or-set_same row n (get_or row n 0 + 1) 0 inside
        ∙ omega (arith, was, counts, more)
    go (inr other) =
        let there : (key i == k) ≡ false = differs (key i) k (λ e. other (sym (is ∙ e))) in
        get_or-set_other row n k (get_or row n 0 + 1) 0 other
        ∙ h k low_before
        ∙ sym (ap length (passing-left (λ s. key s == k) i there))

module _ (grid : Size) (all : List Slot) where
  -- the slot takes the cell with this number
  abbrev pub takes : (number s : ℕ) → Bool
  takes number s = number_of_cell grid (slot_at all s).cell == number

  -- ---- the first cell that the most slots take

  module _ (row : List ℕ) (at : ℕ) (size : length row ≡ cell_count grid)
      (counted : AreCounted grid all (length all) row) (first : IsFirstGreatest row at) where
    crowd : (k : ℕ) → k < length row → get_or row k 0 ≡ length (slots_in grid all k)
    crowd k low = counted k low

    most-is : has_most grid all at ≡ true
    most-is = all-pass
        (λ other. nat_le (length (slots_in grid all other)) (length (slots_in grid all at)))
        (below (cell_count grid)) (λ other i.
        let range = from_In-range 0 (cell_count grid) other i in
        let low : other < length row = omega (arith, range.1, size) in
        is-le (length (slots_in grid all other)) (length (slots_in grid all at))
        (omega (arith, crowd other low, crowd at first.within, first.greatest other low)))

    most-not : (k : ℕ) → k < at → has_most grid all k ≡ false
    most-not k before =
        let low : k < length row = omega (arith, before, first.within) in
        let there : at < cell_count grid = omega (arith, first.within, size) in
        one-fails
        (λ other. nat_le (length (slots_in grid all other)) (length (slots_in grid all k)))
        (below (cell_count grid)) at (In-range 0 (cell_count grid) at (omega arith)
        (omega (arith, there)))
        (not-le (length (slots_in grid all at)) (length (slots_in grid all k))
        (omega (arith, crowd k low, crowd at first.within, first.first k before)))

    pub first-most : find (has_most grid all) (below (cell_count grid)) ≡ Some at
    first-most = find-first (has_most grid all) 0 (cell_count grid) at
        (omega (arith, first.within, size))
        (subst (λ (k : ℕ). has_most grid all k ≡ true) (omega arith) most-is)
        (λ k before. subst (λ (j : ℕ). has_most grid all j ≡ false) (omega arith)
        (most-not k before))
        ∙ (let e : 0 + at ≡ at = omega arith in ap Some e)

  -- the first of a longer row are counted too
  pub counted-front : (n k : ℕ) (row : List ℕ) → AreCounted grid all n row → k ≤ length row
      → AreCounted grid all n (take k row)
  counted-front n k row h low number inside =
      let below_k : number < k = omega (arith, inside, length-take k row) in
      get_or-take k row number 0 below_k ∙ h number (omega (arith, below_k, low))
