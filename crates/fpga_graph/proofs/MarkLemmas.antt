-- A row of marks, in which one place more is marked.
use Rattle.std.proofs.Common.{◌≡◌, ◌≢◌, ℕ, zero, suc, ◌+◌, ◌<◌, Bool, true, false, List, [], ◌∷◌, ◌++◌, length, get_or, set, replicate, refl, sym, ap, ◌∙◌, arith}
use Rattle.std.specs.Prelude.{◌==◌, ◌||◌}
use Rattle.std.specs.List.{list_any, range_with_len}
use Rattle.std.proofs.Math.Bool.{or-false, or-true}
use Rattle.std.proofs.lemmas.Bool.{false≢true}
use Rattle.std.proofs.lemmas.Bool.Decides.{Decides-eqb}
use Rattle.std.proofs.lemmas.List.{get_or-set_other, get_or-set_same}
use Rattle.std.proofs.lemmas.List.Folds.{list_any-append}
use Rattle.list_laws.proofs.Ranges.{range-push}

-- no place is marked
pub unmarked : (n t : ℕ) → get_or (replicate n false) t false ≡ false
unmarked zero t = refl
unmarked (suc n) zero = refl
unmarked (suc n) (suc t) = unmarked n t

-- one number more is looked at
any-push : (p : ℕ → Bool) (n : ℕ) → list_any p (range_with_len 0 (n + 1))
    ≡ (list_any p (range_with_len 0 n) || p n)
any-push p n =
    let more : n + 1 ≡ suc n = omega arith in
    let last_is : 0 + n ≡ n = omega arith in
    ap (λ (m : ℕ). list_any p (range_with_len 0 m)) more
    ∙ ap (list_any p) (range-push 0 n ∙ ap (λ (m : ℕ). range_with_len 0 n ++ m ∷ []) last_is)
    ∙ list_any-append p (range_with_len 0 n) (n ∷ []) ∙ one (p n) (list_any p (range_with_len 0 n))
  where
    one : (b a : Bool) → (a || (b || false)) ≡ (a || b)
    one true a = refl
    one false a = refl

-- the places of the first values are marked, and then that of one value more
pub marked-more : (f : ℕ → ℕ) (n : ℕ) (row : List Bool) → f n < length row
    → ((t : ℕ) → get_or row t false ≡ list_any (λ k. f k == t) (range_with_len 0 n))
    → (t : ℕ) → get_or (set row (f n) true) t false
    ≡ list_any (λ k. f k == t) (range_with_len 0 (n + 1))
marked-more f n row inside h t =
    go (f n == t) refl ∙ sym (any-push (λ k. f k == t) n)
  where
    go : (b : Bool) → (f n == t) ≡ b → get_or (set row (f n) true) t false
        ≡ (list_any (λ k. f k == t) (range_with_len 0 n) || (f n == t))
    go true e =
        let same : f n ≡ t = (Decides-eqb (f n) t).0 e in
        rw (← same) (get_or-set_same row (f n) true false inside
        ∙ sym (rw ((Decides-eqb (f n) (f n)).1 refl) (or-true _)))
    go false e =
        let other : t ≢ f n =
        λ same. false≢true (sym e ∙ (Decides-eqb (f n) t).1 (sym same)) in
        get_or-set_other row (f n) t true false other ∙ h t ∙ sym (rw e (or-false _))
