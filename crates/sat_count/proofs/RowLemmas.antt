-- Hints of a row of clauses, one for each track, each of which makes the variable of a track false;
-- and why a slot has one of the fewer tracks.
use Rattle.std.proofs.Common.{◌≡◌, ◌≢◌, ℕ, zero, suc, ◌+◌, ◌-◌, ◌<◌, ◌≤◌, ℤ, pos, true, false, Option, Some, None, List, [], ◌∷◌, ◌++◌, All, refl, ap, subst, inl, inr, ◌∙◌, arith}
use Rattle.std.specs.Prelude.{map}
use Rattle.std.specs.List.{range_with_len}
use Rattle.std.proofs.lemmas.Bool.{cases_lt}
use Rattle.sat_clause.specs.declared.cause.Cause.{Cause}
use Rattle.sat_clause.specs.declared.literal.Lit.{Lit}
use Rattle.sat_clause.specs.Literal.{Clause, is_among}
use Rattle.sat_clause.specs.Live.{Live, named}
use Rattle.std.proofs.lemmas.List.Elements.{All-cons, All-nil}
use Rattle.sat_clause.proofs.LiteralLaws.{among_contains, among_here, among_more}
use Rattle.sat_clause.proofs.ReadingLaws.{AllFalse, HasOneOpen, IsFalseOr}
use Rattle.sat_rat.specs.FullRup.{full_rup, lead, resolution_fault}
use Rattle.sat_rat.specs.Groups.{groups_of}
use Rattle.sat_count.specs.Names.{no, yes}
use Rattle.sat_count.specs.Places.{some_clause}
use Rattle.sat_count.proofs.HintLemmas.{lead-conflict, lead-unit, open-second, open-third, over-no, over-yes, past-no, past-yes}

-- the variables of so many tracks from one on are false besides
abbrev pub grown : (x : ℕ → ℕ) → (n a : ℕ) → List Lit → List Lit
grown x zero a set = set
grown x (suc n) a set = grown x n (a + 1) (yes (x a) ∷ set)

-- what is false here is false there
abbrev pub Extends : List Lit → List Lit → Type 0
Extends set more = (l : Lit) → is_among set l ≡ true → is_among more l ≡ true

module _ (x : ℕ → ℕ) where
  pub grown-keeps : (n a : ℕ) (set : List Lit) → Extends set (grown x n a set)
  grown-keeps zero a set l h = h
  grown-keeps (suc n) a set l h =
      grown-keeps n (a + 1) (yes (x a) ∷ set) l (among_more set (yes (x a)) l h)

  pub grown-has : (n a k : ℕ) (set : List Lit) → a ≤ k → k < a + n
      → is_among (grown x n a set) (yes (x k)) ≡ true
  grown-has zero a k set from low = absurd (omega (arith, from, low))
  grown-has (suc n) a k set from low = elim (cases_lt a k) [
    | inl later ↦
        grown-has n (a + 1) k (yes (x a) ∷ set) (omega (arith, later)) (omega (arith, low))
    | inr not_later ↦
        (let same : a ≡ k = omega (arith, from, not_later) in
        subst (λ (j : ℕ). is_among (grown x n (a + 1) (yes (x a) ∷ set)) (yes (x j)) ≡ true)
        same
        (grown-keeps n (a + 1) (yes (x a) ∷ set) (yes (x a)) (among_here set (yes (x a)))))
  ]

  pub grown-lacks-no : (n a y : ℕ) (set : List Lit) → is_among set (no y) ≡ false
      → is_among (grown x n a set) (no y) ≡ false
  grown-lacks-no zero a y set h = h
  grown-lacks-no (suc n) a y set h =
      grown-lacks-no n (a + 1) y (yes (x a) ∷ set) (over-yes set (x a) y h)

  pub grown-lacks-yes : (n a y : ℕ) (set : List Lit) → is_among set (yes y) ≡ false
      → ((k : ℕ) → a ≤ k → k < a + n → x k ≢ y) → is_among (grown x n a set) (yes y) ≡ false
  grown-lacks-yes zero a y set h other = h
  grown-lacks-yes (suc n) a y set h other =
      grown-lacks-yes n (a + 1) y (yes (x a) ∷ set)
      (past-yes set (x a) y (other a (omega arith) (omega arith)) h)
      (λ k from low. other k (omega (arith, from)) (omega (arith, low)))

  -- each clause of a row has the variable of its track as its one open literal
  pub lead-row : (live : Live) (id : ℕ → ℕ) (clause : ℕ → Clause) (end : List Lit → Option Cause)
      (rest : List ℤ) (n a : ℕ) (set : List Lit)
      → ((k : ℕ) → a ≤ k → k < a + n → named live (pos (id k)) ≡ Some (clause k))
      → ((k : ℕ) (s : List Lit) → a ≤ k → k < a + n → Extends set s
      → is_among s (no (x k)) ≡ false → HasOneOpen s (no (x k)) (clause k))
      → ((k : ℕ) → a ≤ k → k < a + n → is_among set (no (x k)) ≡ false)
      → ((k : ℕ) → a ≤ k → k < a + n → is_among set (yes (x k)) ≡ false)
      → ((j k : ℕ) → a ≤ j → j < k → k < a + n → x j ≢ x k)
      → lead live set (map (λ k. pos (id k)) (range_with_len a n) ++ rest) end
      ≡ lead live (grown x n a set) rest end
  lead-row live id clause end rest zero a set there one free other differ = refl
  lead-row live id clause end rest (suc n) a set there one free other differ =
      lead-unit live set (id a) (map (λ k. pos (id k)) (range_with_len (a + 1) n) ++ rest) end
      (clause a) (no (x a)) (there a (omega arith) (omega arith))
      (one a set (omega arith) (omega arith) (λ l h. h) (free a (omega arith) (omega arith)))
      (other a (omega arith) (omega arith))
      ∙ lead-row live id clause end rest n (a + 1) (yes (x a) ∷ set)
      (λ k from low. there k (omega (arith, from)) (omega (arith, low)))
      (λ k s from low more. one k s (omega (arith, from)) (omega (arith, low))
      (λ l h. more l (among_more set (yes (x a)) l h)))
      (λ k from low. over-yes set (x a) (x k)
      (free k (omega (arith, from)) (omega (arith, low))))
      (λ k from low. past-yes set (x a) (x k)
      (differ a k (omega arith) (omega (arith, from)) (omega (arith, low)))
      (other k (omega (arith, from)) (omega (arith, low))))
      (λ j k from before low. differ j k (omega (arith, from)) before (omega (arith, low)))

-- ---- the clause that one of so many variables in a row is true

pub row-some : (a n : ℕ) → 1 ≤ n → some_clause a n ≢ []
row-some a zero some = absurd (omega (arith, some))
row-some a (suc n) some = λ e. cc

pub row-among : (a n k : ℕ) → a ≤ k → k < a + n → is_among (some_clause a n) (yes k) ≡ true
row-among a zero k from low = absurd (omega (arith, from, low))
row-among a (suc n) k from low = elim (cases_lt a k) [
  | inl later ↦
      among_more (some_clause (a + 1) n) (yes a) (yes k)
      (row-among (a + 1) n k (omega (arith, later)) (omega (arith, low)))
  | inr not_later ↦
      (let same : a ≡ k = omega (arith, from, not_later) in
      subst (λ (j : ℕ). is_among (some_clause a (suc n)) (yes j) ≡ true) same
      (among_here (some_clause (a + 1) n) (yes a)))
]

pub row-lacks-no : (a n y : ℕ) → is_among (some_clause a n) (no y) ≡ false
row-lacks-no a zero y = refl
row-lacks-no a (suc n) y = over-yes (some_clause (a + 1) n) a y (row-lacks-no (a + 1) n y)

pub row-lacks-yes : (a n y : ℕ) → y < a → is_among (some_clause a n) (yes y) ≡ false
row-lacks-yes a zero y below = refl
row-lacks-yes a (suc n) y below =
    past-yes (some_clause (a + 1) n) a y (omega (arith, below))
    (row-lacks-yes (a + 1) n y (omega (arith, below)))

pub row-all : (P : Lit → Type 0) (a n : ℕ) → ((k : ℕ) → a ≤ k → k < a + n → P (yes k))
    → All P (some_clause a n)
row-all P a zero each = All-nil P
row-all P a (suc n) each =
    All-cons P (yes a) (some_clause (a + 1) n) (each a (omega arith) (omega arith))
    (row-all P (a + 1) n (λ k from low. each k (omega (arith, from)) (omega (arith, low))))

-- all but the last are false
row-open : (s : List Lit) (a m : ℕ)
    → ((k : ℕ) → a ≤ k → k < a + m → is_among s (yes k) ≡ true)
    → is_among s (yes (a + m)) ≡ false → HasOneOpen s (yes (a + m)) (some_clause a (suc m))
row-open s a m false_ones free = record {
  has = among_contains (some_clause a (suc m)) (yes (a + m))
      (row-among a (suc m) (a + m) (omega arith) (omega arith));
  free = free;
  rest = row-all (λ (l : Lit). IsFalseOr s (yes (a + m)) l) a (suc m) (λ k from low.
      elim (cases_lt k (a + m)) [
        | inl before ↦ inl (false_ones k from before)
        | inr not_before ↦
            (let same : k ≡ a + m = omega (arith, low, not_before) in inr (ap yes same))
      ]);
}

row-false : (s : List Lit) (a n : ℕ)
    → ((k : ℕ) → a ≤ k → k < a + n → is_among s (yes k) ≡ true) → AllFalse s (some_clause a n)
row-false s a n false_ones = row-all (λ (l : Lit). is_among s l ≡ true) a n false_ones

-- ---- a slot has one of the fewer tracks: if not, it had none of them, and so the last one; then
-- the last slot had none of them, and not the last one either. The variables of the slot follow v
-- now, and followed x before; those of the last slot followed b.

module _ (live : Live) (m v x b : ℕ) (id1 id2 : ℕ → ℕ) (had apart ended : ℕ)
    (by_kept : (k : ℕ) → k < m → named live (pos (id1 k)) ≡ Some (yes (v + k) ∷ no (x + k) ∷ []))
    (some : named live (pos had) ≡ Some (some_clause x (suc m)))
    (by_moved : (k : ℕ) → k < m
    → named live (pos (id2 k)) ≡ Some (yes (v + k) ∷ no (x + m) ∷ no (b + k) ∷ []))
    (not_both : named live (pos apart) ≡ Some (no (x + m) ∷ no (b + m) ∷ []))
    (last : named live (pos ended) ≡ Some (some_clause b (suc m)))
    (xv : x + m < v) (bv : b + m < v)
    (differ : (t u : ℕ) → t ≤ m → u ≤ m → x + t ≢ b + u)
  where
    abbrev xs : ℕ → ℕ
    xs k = x + k

    abbrev bs : ℕ → ℕ
    bs k = b + k

    abbrev p : ℕ
    p = x + m

    abbrev q : ℕ
    q = b + m

    abbrev s0 : List Lit
    s0 = some_clause v m

    abbrev s1 : List Lit
    s1 = grown xs m 0 s0

    abbrev s2 : List Lit
    s2 = no p ∷ s1

    abbrev s3 : List Lit
    s3 = grown bs m 0 s2

    abbrev s4 : List Lit
    s4 = yes q ∷ s3

    abbrev tail_hints : List ℤ
    tail_hints = pos apart ∷ pos ended ∷ []

    abbrev moved_hints : List ℤ
    moved_hints = map (λ k. pos (id2 k)) (range_with_len 0 m) ++ tail_hints

    abbrev pub some_hints : List ℤ
    some_hints = map (λ k. pos (id1 k)) (range_with_len 0 m) ++ (pos had ∷ moved_hints)

    abbrev end : List Lit → Option Cause
    end = resolution_fault live s0 (groups_of some_hints)

    new-false : (k : ℕ) → k < m → is_among s0 (yes (v + k)) ≡ true
    new-false k low = row-among v m (v + k) (omega arith) (omega (arith, low))

    -- none of the fewer
    first-row : lead live s0 some_hints end ≡ lead live s1 (pos had ∷ moved_hints) end
    first-row = lead-row xs live id1 (λ k. yes (v + k) ∷ no (x + k) ∷ []) end
        (pos had ∷ moved_hints) m 0 s0
        (λ k from low. by_kept k (omega (arith, low)))
        (λ k s from low more free. open-second s (yes (v + k)) (no (x + k))
        (more (yes (v + k)) (new-false k (omega (arith, low)))) free)
        (λ k from low. row-lacks-no v m (x + k))
        (λ k from low. row-lacks-yes v m (x + k) (omega (arith, low, xv)))
        (λ j k from before low. omega (arith, before))

    old-false : (k : ℕ) → x ≤ k → k < x + m → is_among s1 (yes k) ≡ true
    old-false k from low =
        let e : x + (k - x) ≡ k = omega (arith, from) in
        subst (λ (j : ℕ). is_among s1 (yes j) ≡ true) e
        (grown-has xs m 0 (k - x) s0 (omega arith) (omega (arith, from, low)))

    free-p : is_among s1 (yes p) ≡ false
    free-p = grown-lacks-yes xs m 0 p s0 (row-lacks-yes v m p xv)
        (λ k from low. omega (arith, low))

    -- so the last one
    then-last : lead live s1 (pos had ∷ moved_hints) end ≡ lead live s2 moved_hints end
    then-last = lead-unit live s1 had moved_hints end (some_clause x (suc m)) (yes p) some
        (row-open s1 x m old-false free-p)
        (grown-lacks-no xs m 0 p s0 (row-lacks-no v m p))

    lacks-b : (k : ℕ) → k ≤ m → is_among s1 (yes (b + k)) ≡ false
    lacks-b k low = grown-lacks-yes xs m 0 (b + k) s0
        (row-lacks-yes v m (b + k) (omega (arith, low, bv)))
        (λ j from below. differ j k (omega (arith, below)) low)

    -- the last slot had none of the fewer
    second-row : lead live s2 moved_hints end ≡ lead live s3 tail_hints end
    second-row = lead-row bs live id2 (λ k. yes (v + k) ∷ no p ∷ no (b + k) ∷ []) end
        tail_hints m 0 s2
        (λ k from low. by_moved k (omega (arith, low)))
        (λ k s from low more free. open-third s (yes (v + k)) (no p) (no (b + k))
        (more (yes (v + k)) (among_more s1 (no p) (yes (v + k))
        (grown-keeps xs m 0 s0 (yes (v + k)) (new-false k (omega (arith, low))))))
        (more (no p) (among_here s1 (no p))) free)
        (λ k from low. past-no s1 p (b + k) (differ m k (omega arith) (omega (arith, low)))
        (grown-lacks-no xs m 0 (b + k) s0 (row-lacks-no v m (b + k))))
        (λ k from low. over-no s1 p (b + k) (lacks-b k (omega (arith, low))))
        (λ j k from before low. omega (arith, before))

    free-q : is_among s3 (no q) ≡ false
    free-q = grown-lacks-no bs m 0 q s2
        (past-no s1 p q (differ m m (omega arith) (omega arith))
        (grown-lacks-no xs m 0 q s0 (row-lacks-no v m q)))

    other-q : is_among s3 (yes q) ≡ false
    other-q = grown-lacks-yes bs m 0 q s2 (over-no s1 p q (lacks-b m (omega arith)))
        (λ k from low. omega (arith, low))

    has-p : is_among s3 (no p) ≡ true
    has-p = grown-keeps bs m 0 s2 (no p) (among_here s1 (no p))

    -- and not the last one either
    not-last : lead live s3 tail_hints end ≡ lead live s4 (pos ended ∷ []) end
    not-last = lead-unit live s3 apart (pos ended ∷ []) end (no p ∷ no q ∷ []) (no q) not_both
        (open-second s3 (no p) (no q) has-p free-q) other-q

    last-false : (k : ℕ) → b ≤ k → k < b + suc m → is_among s4 (yes k) ≡ true
    last-false k from low = elim (cases_lt k q) [
      | inl before ↦
          (let e : b + (k - b) ≡ k = omega (arith, from) in
          among_more s3 (yes q) (yes k)
          (subst (λ (j : ℕ). is_among s3 (yes j) ≡ true) e
          (grown-has bs m 0 (k - b) s2 (omega arith) (omega (arith, from, before)))))
      | inr not_before ↦
          (let same : q ≡ k = omega (arith, low, not_before) in
          subst (λ (j : ℕ). is_among s4 (yes j) ≡ true) same (among_here s3 (yes q)))
    ]

    pub some-follows : full_rup live s0 some_hints ≡ None
    some-follows = first-row ∙ then-last ∙ second-row ∙ not-last
        ∙ lead-conflict live s4 ended end (some_clause b (suc m)) last
        (row-false s4 b (suc m) last-false)
