-- The names of blocks and of nets differ, and so do the places of blocks.
use Rattle.std.proofs.Common.{◌≡◌, ◌≢◌, ℕ, zero, suc, ◌+◌, ◌<◌, ◌≤◌, ◌^◌, Bool, true, false, cond, Some, ◌∷◌, refl, sym, ap, ◌∙◌, inl, inr, arith}
use Rattle.std.specs.Prelude.{bytes_eq, decimal, find, map, ◌==◌, ◌&&◌}
use Rattle.std.specs.List.{list_any, range_with_len}
use Rattle.std.proofs.lemmas.Bool.{cases_Bool, cases_eq, ne_eqb}
use Rattle.std.proofs.lemmas.Slice.Eq.{bytes_eq-Decides}
use Rattle.fpga_text.specs.Numbers.{whole_number_of}
use Rattle.fpga_text.proofs.PrintedWords.{whole_number_of-decimal}
use Rattle.route_gen.specs.Draws.{location_of}
use Rattle.route_gen.specs.Netlists.{block_name, net_name}

-- two numbers with one decimal are one
decimal-alone : (m n : ℕ) → m < 2 ^ 64 → n < 2 ^ 64 → decimal m ≡ decimal n → m ≡ n
decimal-alone m n m_fits n_fits same =
    let both : Some m ≡ Some n = sym (whole_number_of-decimal m m_fits)
    ∙ ap whole_number_of same ∙ whole_number_of-decimal n n_fits in
    cc

-- two names of one beginning and a number each
names-other : (first m n : ℕ) → m < 2 ^ 64 → n < 2 ^ 64 → m ≢ n →
    bytes_eq (first ∷ decimal m) (first ∷ decimal n) ≡ false
names-other first m n m_fits n_fits other =
    grind (arith, cases_Bool, decimal-alone, bytes_eq-Decides)

-- a block has its name, and no other block has it
pub name-same : (block : ℕ) → bytes_eq (block_name block) (block_name block) ≡ true
name-same block = (bytes_eq-Decides (block_name block) (block_name block)).1 refl

pub name-other : (m n : ℕ) → m < 2 ^ 64 → n < 2 ^ 64 → m ≢ n →
    bytes_eq (block_name m) (block_name n) ≡ false
name-other = names-other 98

-- the same of nets
pub net-same : (net : ℕ) → bytes_eq (net_name net) (net_name net) ≡ true
net-same net = (bytes_eq-Decides (net_name net) (net_name net)).1 refl

pub net-other : (m n : ℕ) → m < 2 ^ 64 → n < 2 ^ 64 → m ≢ n →
    bytes_eq (net_name m) (net_name n) ≡ false
net-other = names-other 110

-- two blocks stand at two places
pub place-other : (side m n : ℕ) → 1 ≤ side → m ≢ n →
    ((location_of side m).column == (location_of side n).column
    && (location_of side m).row == (location_of side n).row) ≡ false
place-other side m n some other = grind (arith, cases_eq, ne_eqb)

module _ {T : Type 0} (p : T → Bool) (f : ℕ → T) where
  -- a search among what the numbers of a range make finds the one that passes
  pub find-made : (a n i : ℕ) → a ≤ i → i < a + n →
      ((k : ℕ) → a ≤ k → k < i → p (f k) ≡ false) → p (f i) ≡ true →
      find p (map f (range_with_len a n)) ≡ Some (f i)
  find-made a zero i above below before here = absurd (omega arith)
  find-made a (suc n) i above below before here = elim (cases_eq a i) [
    | inl first ↦
        let passes : p (f a) ≡ true = ap (λ (k : ℕ). p (f k)) first ∙ here in
        ap (λ (b : Bool). cond b (Some (f a)) (find p (map f (range_with_len (a + 1) n)))) passes
        ∙ ap (λ (k : ℕ). Some (f k)) first
    | inr later ↦
        let fails : p (f a) ≡ false = before a (omega arith) (omega (arith, later)) in
        ap (λ (b : Bool). cond b (Some (f a)) (find p (map f (range_with_len (a + 1) n)))) fails
        ∙ find-made (a + 1) n i (omega (arith, later)) (omega arith)
        (λ k low high. before k (omega arith) high) here
  ]

  -- where none passes, none is found
  pub any-none : (a n : ℕ) → ((k : ℕ) → a ≤ k → k < a + n → p (f k) ≡ false) →
      list_any p (map f (range_with_len a n)) ≡ false
  any-none a zero none = refl
  any-none a (suc n) none =
      grind (arith, (any-none (a + 1) n (λ k low high. none k (omega arith) (omega arith))))

-- two tables are one where they agree at each number of a range
pub same-made : {T : Type 0} (f g : ℕ → T) (a n : ℕ) → ((k : ℕ) → k < a + n → f k ≡ g k) →
    map f (range_with_len a n) ≡ map g (range_with_len a n)
same-made f g a zero same = refl
same-made f g a (suc n) same =
    grind (arith, (same-made f g (a + 1) n (λ k below. same k (omega arith))))
