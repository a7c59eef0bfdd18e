-- What is in one of two sets, as one of them changes.
use Rattle.std.proofs.Common.{◌≡◌, ◌⊎◌, inl, inr, ℕ, zero, suc, Bool, true, false, ◌||◌, List, [], ◌∷◌, length, get_or, set, replicate, refl, sym, ap, arith}
use Rattle.std.proofs.lemmas.Bool.{both_ways}
use Rattle.sat_order.specs.Order.{joined}

pub length-joined : (xs ys : List Bool) → length (joined xs ys) ≡ length xs
length-joined [] ys = refl
length-joined (x ∷ xs) [] = refl
length-joined (x ∷ xs) (y ∷ ys) = ap suc (length-joined xs ys)

-- all of a set
pub joined-all : (xs : List Bool) → joined xs (replicate (length xs) true) ≡
    replicate (length xs) true
joined-all [] = refl
joined-all (false ∷ xs) = ap (λ l. true ∷ l) (joined-all xs)
joined-all (true ∷ xs) = ap (λ l. true ∷ l) (joined-all xs)

pub in_one : (xs ys : List Bool) (i : ℕ) → get_or (joined xs ys) i false ≡ true →
    (get_or xs i false ≡ true) ⊎ (get_or ys i false ≡ true)
in_one [] ys i is = inl is
in_one (x ∷ xs) [] i is = inl is
in_one (true ∷ xs) (y ∷ ys) zero is = inl refl
in_one (false ∷ xs) (y ∷ ys) zero is = inr is
in_one (x ∷ xs) (y ∷ ys) (suc i) is = in_one xs ys i is

pub in_first : (xs ys : List Bool) (i : ℕ) → get_or xs i false ≡ true →
    get_or (joined xs ys) i false ≡ true
in_first [] ys i is = is
in_first (x ∷ xs) [] i is = is
in_first (true ∷ xs) (y ∷ ys) zero is = refl
in_first (false ∷ xs) (y ∷ ys) zero is = absurd (both_ways true (sym is) refl)
in_first (x ∷ xs) (y ∷ ys) (suc i) is = in_first xs ys i is

pub in_second : (xs ys : List Bool) (i : ℕ) → length ys ≡ length xs → get_or ys i false ≡ true →
    get_or (joined xs ys) i false ≡ true
in_second [] [] i long is = is
in_second [] (y ∷ ys) i long is = absurd (omega (arith, long))
in_second (x ∷ xs) [] i long is = absurd (omega (arith, long))
in_second (true ∷ xs) (y ∷ ys) zero long is = refl
in_second (false ∷ xs) (y ∷ ys) zero long is = is
in_second (x ∷ xs) (y ∷ ys) (suc i) long is = in_second xs ys i (omega (arith, long)) is

pub in_none : (xs ys : List Bool) (i : ℕ) → get_or xs i false ≡ false →
    get_or ys i false ≡ false → get_or (joined xs ys) i false ≡ false
in_none [] ys i out out' = refl
in_none (x ∷ xs) [] i out out' = out
in_none (true ∷ xs) (y ∷ ys) zero out out' = out
in_none (false ∷ xs) (y ∷ ys) zero out out' = out'
in_none (x ∷ xs) (y ∷ ys) (suc i) out out' = in_none xs ys i out out'

-- one comes into the first set, or into the second
pub put_first : (xs ys : List Bool) (i : ℕ) → joined (set xs i true) ys ≡ set (joined xs ys) i true
put_first [] ys i = refl
put_first (x ∷ xs) [] zero = refl
put_first (x ∷ xs) [] (suc i) = refl
put_first (x ∷ xs) (y ∷ ys) zero = refl
put_first (x ∷ xs) (y ∷ ys) (suc i) = ap (λ l. (x || y) ∷ l) (put_first xs ys i)

pub put_second : (xs ys : List Bool) (i : ℕ) → length ys ≡ length xs →
    joined xs (set ys i true) ≡ set (joined xs ys) i true
put_second [] ys i long = refl
put_second (x ∷ xs) [] i long = absurd (omega (arith, long))
put_second (true ∷ xs) (y ∷ ys) zero long = refl
put_second (false ∷ xs) (y ∷ ys) zero long = refl
put_second (x ∷ xs) (y ∷ ys) (suc i) long =
    ap (λ l. (x || y) ∷ l) (put_second xs ys i (omega (arith, long)))

-- one goes out of the set that it was in
pub take_first : (xs ys : List Bool) (i : ℕ) → get_or ys i false ≡ false →
    joined (set xs i false) ys ≡ set (joined xs ys) i false
take_first [] ys i out = refl
take_first (x ∷ xs) [] zero out = refl
take_first (x ∷ xs) [] (suc i) out = refl
take_first (x ∷ xs) (y ∷ ys) zero out = ap (λ (b : Bool). b ∷ joined xs ys) out
take_first (x ∷ xs) (y ∷ ys) (suc i) out = ap (λ l. (x || y) ∷ l) (take_first xs ys i out)

pub take_second : (xs ys : List Bool) (i : ℕ) → length ys ≡ length xs → get_or xs i false ≡ false →
    joined xs (set ys i false) ≡ set (joined xs ys) i false
take_second [] ys i long out = refl
take_second (x ∷ xs) [] i long out = absurd (omega (arith, long))
take_second (true ∷ xs) (y ∷ ys) zero long out = absurd (both_ways true out refl)
take_second (false ∷ xs) (y ∷ ys) zero long out = refl
take_second (x ∷ xs) (y ∷ ys) (suc i) long out =
    ap (λ l. (x || y) ∷ l) (take_second xs ys i (omega (arith, long)) out)

-- one goes from the second set to the first
pub move_over : (xs ys : List Bool) (i : ℕ) → get_or ys i false ≡ true →
    joined (set xs i true) (set ys i false) ≡ joined xs ys
move_over [] ys i there = refl
move_over (x ∷ xs) [] i there = absurd (both_ways true (sym there) refl)
move_over (true ∷ xs) (y ∷ ys) zero there = refl
move_over (false ∷ xs) (y ∷ ys) zero there = ap (λ (b : Bool). b ∷ joined xs ys) (sym there)
move_over (x ∷ xs) (y ∷ ys) (suc i) there = ap (λ l. (x || y) ∷ l) (move_over xs ys i there)
