-- The trees of a crowd stand by slots, so that all of them count in an order.
use Rattle.std.proofs.Common.{◌≡◌, ℕ, ◌<◌, Bool, true, cond, List, [], ◌∷◌, length, refl, ap, ◌∙◌, inl, inr, arith}
use Rattle.std.specs.Prelude.{nat_lt, filter}
use Rattle.std.proofs.lemmas.Bool.Decides.{nat_tests}
use Rattle.list_laws.proofs.Members.{In, In-all}
use Rattle.fpga_types.specs.Problem.{RoutingProblem}
use Rattle.fpga_types.specs.Slots.{slots}
use Rattle.problem_facts.specs.Crowd.{IsCrowd}
use Rattle.route_ordered.specs.Ordered.{slots_among}

-- what passes in each place is kept
all-kept : (count : ℕ) (row : List ℕ) → ((s : ℕ) → In row s → s < count)
    → filter (λ s. nat_lt s count) row ≡ row
all-kept count [] low = refl
all-kept count (x ∷ xs) low =
    let here : nat_lt x count ≡ true = is-below x (low x (inl refl)) in
    ap (λ (b : Bool). cond b (x ∷ filter (λ s. nat_lt s count) xs)
    (filter (λ s. nat_lt s count) xs)) here
    ∙ ap (λ (ys : List ℕ). x ∷ ys) (all-kept count xs (λ s i. low s (inr i)))
  where
    is-below : (a : ℕ) → a < count → nat_lt a count ≡ true
    is-below a h = grind (arith, nat_tests)

pub among-crowd : (p : RoutingProblem) (crowd : List ℕ) → IsCrowd p crowd
    → slots_among p crowd ≡ crowd
among-crowd p crowd is = all-kept (length (slots p.route)) crowd
    (λ s i. In-all (λ t. t < length (slots p.route)) crowd s is.within i)
