-- Clauses added one behind another, and the room that is left.
use Rattle.std.proofs.Common.{◌≡◌, ℕ, zero, suc, ◌+◌, ◌-◌, ◌<◌, ◌≤◌, List, [], ◌∷◌, ◌++◌, length, take, drop, get_or, refl, sym, ap, subst, ◌∙◌, arith, add-one, append_assoc, length-append}
use Rattle.std.specs.Prelude.{flat_map}
use Rattle.std.proofs.Math.Seq.{take-suc}
use Rattle.std.proofs.lemmas.Grind.{flat_map-append}
use Rattle.std.proofs.lemmas.List.{append-nil}
use Rattle.std.specs.List.{range_with_len}
use Rattle.std.proofs.lemmas.List.FromFn.{get_or-range_with_len, length-range_with_len}
use Rattle.std.proofs.lemmas.List.Sums.{sum_by-append}
use Rattle.list_laws.proofs.Places.{split-at}
use Rattle.sat_clause.specs.FormulaStore.{FormulaState, reserved}
use Rattle.sat_clause.specs.Literal.{Clause}
use Rattle.route_encode.specs.Encoding.{below}
use Rattle.route_encode.specs.Adding.{Adds, HasRoom, lit_count}

-- nothing was added
pub adds-none : (s : FormulaState) → Adds s [] s
adds-none s = record {
  vars = refl;
  clauses = sym (append-nil s.cnf.clauses);
  clause_room =
      omega arith;
  lit_room = omega arith;
}

-- some clauses were added, and then others
pub adds-both : (a b c : FormulaState) (xs ys : List Clause) → Adds a xs b → Adds b ys c
    → Adds a (xs ++ ys) c
adds-both a b c xs ys f g = record {
  vars = g.vars ∙ f.vars;
  clauses = g.clauses ∙ (rw f.clauses (append_assoc a.cnf.clauses xs ys));
  clause_room = omega (arith, f.clause_room, g.clause_room, length-append xs ys);
  lit_room = omega (arith, f.lit_room, g.lit_room, sum_by-append length xs ys);
}

-- room for two rows of clauses is room for the first
pub room-first : (a : FormulaState) (xs ys : List Clause) → HasRoom a (xs ++ ys) → HasRoom a xs
room-first a xs ys h = record {
  clause_room = omega (arith, h.clause_room, length-append xs ys);
  lit_room = omega (arith, h.lit_room, sum_by-append length xs ys);
}

-- and once the first were added, for the second
pub room-second : (a b : FormulaState) (xs ys : List Clause) → HasRoom a (xs ++ ys) → Adds a xs b
    → HasRoom b ys
room-second a b xs ys h f = record {
  clause_room = omega (arith, h.clause_room, length-append xs ys, f.clause_room);
  lit_room = omega (arith, h.lit_room, sum_by-append length xs ys, f.lit_room);
}

-- clauses that are added part by part
module _ {X : Type 0} (g : X → List Clause) (xs : List X) (k : ℕ) (d : X)
    (inside : k < length xs) where
  -- there is room for the next part
  pub room-next : (a b : FormulaState) → HasRoom a (flat_map g xs)
      → Adds a (flat_map g (take k xs)) b → HasRoom b (g (get_or xs k d))
  room-next a b h f =
      let x : X = get_or xs k d in
      let later : List Clause = flat_map g (drop (suc k) xs) in
      let whole : flat_map g xs ≡ flat_map g (take k xs) ++ (g x ++ later) =
      ap (flat_map g) (split-at xs k d inside)
      ∙ flat_map-append g (take k xs) (x ∷ drop (suc k) xs) in
      room-first b (g x) later (room-second a b (flat_map g (take k xs)) (g x ++ later)
      (subst (HasRoom a) whole h) f)

  -- what one part more makes
  pub rows-more : flat_map g (take (k + 1) xs) ≡ flat_map g (take k xs) ++ g (get_or xs k d)
  rows-more = rw (
    add-one,
    take-suc xs k d inside,
    flat_map-append g (take k xs)
        (get_or xs k d ∷ []),
    append-nil (g (get_or xs k d)),
  ) refl

  -- one part more was added
  pub adds-more : (a b c : FormulaState) → Adds a (flat_map g (take k xs)) b
      → Adds b (g (get_or xs k d)) c → Adds a (flat_map g (take (k + 1) xs)) c
  adds-more a b c f h =
      subst (λ (ys : List Clause). Adds a ys c) (sym rows-more)
      (adds-both a b c (flat_map g (take k xs)) (g (get_or xs k d)) f h)

-- the first numbers from a on
take-range : (a n k : ℕ) → k ≤ n → take k (range_with_len a n) ≡ range_with_len a k
take-range a n zero h = refl
take-range a zero (suc k) h = absurd (omega arith)
take-range a (suc n) (suc k) h = ap (λ (ks : List ℕ). a ∷ ks) (take-range (a + 1) n k (omega arith))

-- clauses that are added number by number, from a on
module _ (g : ℕ → List Clause) (a n x : ℕ) (low : a ≤ x) (high : x < a + n) where
  at_x : get_or (range_with_len a n) (x - a) 0 ≡ x
  at_x = get_or-range_with_len a n (x - a) 0 (omega arith) ∙ omega arith

  within : x - a < length (range_with_len a n)
  within = omega (arith, length-range_with_len a n)

  pub range-room : (b c : FormulaState) → HasRoom b (flat_map g (range_with_len a n))
      → Adds b (flat_map g (range_with_len a (x - a))) c → HasRoom c (g x)
  range-room b c h f =
      subst (λ (y : ℕ). HasRoom c (g y)) at_x
      (room-next g (range_with_len a n) (x - a) 0 within b c h
      (subst (λ (ks : List ℕ). Adds b (flat_map g ks) c)
      (sym (take-range a n (x - a) (omega arith))) f))

  pub range-more : (b c d : FormulaState) → Adds b (flat_map g (range_with_len a (x - a))) c
      → Adds c (g x) d → Adds b (flat_map g (range_with_len a (x + 1 - a))) d
  range-more b c d f h =
      let more = adds-more g (range_with_len a n) (x - a) 0 within b c d
      (subst (λ (ks : List ℕ). Adds b (flat_map g ks) c)
      (sym (take-range a n (x - a) (omega arith))) f)
      (subst (λ (y : ℕ). Adds c (g y) d) (sym at_x) h) in
      let count : x - a + 1 ≡ x + 1 - a = omega arith in
      subst (λ (ks : List ℕ). Adds b (flat_map g ks) d) (take-range a n (x - a + 1) (omega arith)
      ∙ ap (range_with_len a) count) more

-- the same for the numbers below n
module _ (g : ℕ → List Clause) (n x : ℕ) (high : x < n) where
  pub below-room : (b c : FormulaState) → HasRoom b (flat_map g (below n))
      → Adds b (flat_map g (below x)) c → HasRoom c (g x)
  below-room b c h f =
      range-room g 0 n x (omega arith) (omega arith) b c h
      (subst (λ (k : ℕ). Adds b (flat_map g (below k)) c) (let e : x ≡ x - 0 = omega arith in e) f)

  pub below-more : (b c d : FormulaState) → Adds b (flat_map g (below x)) c → Adds c (g x) d
      → Adds b (flat_map g (below (x + 1))) d
  below-more b c d f h =
      subst (λ (k : ℕ). Adds b (flat_map g (below k)) d) (let e : x + 1 - 0 ≡ x + 1 = omega arith in
      e)
      (range-more g 0 n x (omega arith) (omega arith) b c d
      (subst (λ (k : ℕ). Adds b (flat_map g (below k)) c) (let e : x ≡ x - 0 = omega arith in
      e) f) h)

-- four rows of clauses, one behind another
module _ (a b d e : List Clause) (s0 : FormulaState) where
  pub four-first : HasRoom s0 (a ++ b ++ d ++ e) → HasRoom s0 a
  four-first h = room-first s0 a b (room-first s0 (a ++ b) d (room-first s0 (a ++ b ++ d) e h))

  pub four-second : (s1 : FormulaState) → HasRoom s0 (a ++ b ++ d ++ e) → Adds s0 a s1
      → HasRoom s1 b
  four-second s1 h f =
      room-second s0 s1 a b (room-first s0 (a ++ b) d (room-first s0 (a ++ b ++ d) e h)) f

  pub four-third : (s1 s2 : FormulaState) → HasRoom s0 (a ++ b ++ d ++ e) → Adds s0 a s1
      → Adds s1 b s2 → HasRoom s2 d
  four-third s1 s2 h f g = room-second s0 s2 (a ++ b) d (room-first s0 (a ++ b ++ d) e h)
      (adds-both s0 s1 s2 a b f g)

  pub four-fourth : (s1 s2 s3 : FormulaState) → HasRoom s0 (a ++ b ++ d ++ e) → Adds s0 a s1
      → Adds s1 b s2 → Adds s2 d s3 → HasRoom s3 e
  four-fourth s1 s2 s3 h f g k =
      room-second s0 s3 (a ++ b ++ d) e h
      (adds-both s0 s2 s3 (a ++ b) d (adds-both s0 s1 s2 a b f g) k)

  pub four-all : (s1 s2 s3 s4 : FormulaState) → Adds s0 a s1 → Adds s1 b s2 → Adds s2 d s3
      → Adds s3 e s4 → Adds s0 (a ++ b ++ d ++ e) s4
  four-all s1 s2 s3 s4 f g k m =
      adds-both s0 s3 s4 (a ++ b ++ d) e
      (adds-both s0 s2 s3 (a ++ b) d (adds-both s0 s1 s2 a b f g) k) m

-- what was reserved is room
pub room-reserved : (s after : FormulaState) (vars clauses lits : ℕ) (row : List Clause)
    → after ≡ reserved s vars clauses lits
    → length row ≤ clauses → lit_count row ≤ lits → HasRoom after row
room-reserved s after vars clauses lits row e f g =
    subst (λ (t : FormulaState). HasRoom t row) (sym e)
    (record { clause_room = omega (arith, f); lit_room = omega (arith, g) })

-- clauses that were added to a new formula are its clauses
pub adds-new : (fresh made after : FormulaState) (vars clauses lits : ℕ) (row : List Clause)
    → fresh.cnf.clauses ≡ [] → made ≡ reserved fresh vars clauses lits → Adds made row after
    → after.cnf ≡ record { vars = vars; clauses = row }
adds-new fresh made after vars clauses lits row empty e h =
    let n : after.cnf.vars ≡ vars = h.vars ∙ ap (λ (s : FormulaState). s.cnf.vars) e in
    let c : after.cnf.clauses ≡ row =
    h.clauses ∙ ap (λ (cs : List Clause). cs ++ row) (ap (λ (s : FormulaState). s.cnf.clauses) e
    ∙ empty) in
    λ i. record { vars = n i; clauses = c i }

-- what was reserved of a new formula beyond the clauses that were added is the room that is left
pub room-left : (fresh made after : FormulaState) (vars clauses lits more more_lits : ℕ)
    (row : List Clause) → fresh.clause_room ≡ 0 → fresh.lit_room ≡ 0
    → made ≡ reserved fresh vars (clauses + more) (lits + more_lits) → Adds made row after
    → clauses ≡ length row → lits ≡ lit_count row
    → (after.clause_room ≡ more) × (after.lit_room ≡ more_lits)
room-left fresh made after vars clauses lits more more_lits row no_clauses no_lits e h f g = (
  omega (arith, h.clause_room, ap (λ (s : FormulaState). s.clause_room) e),
  omega (arith, h.lit_room, ap (λ (s : FormulaState). s.lit_room) e),
)
