-- The marks of the clauses that a refutation uses, and of the nets of which they speak.
use Rattle.std.proofs.Common.{◌≡◌, ◌<◌, ◌+◌, ◌-◌, ℕ, suc, ℤ, pos, Bool, true, false, cond, List, [], ◌∷◌, ◌++◌, length, get_or, take, Some, refl, sym, ap, subst, ◌∙◌, inl, inr, arith, append-nil, All}
use Rattle.std.specs.Prelude.{◌||◌, ◌&&◌, filter, slice_get}
use Rattle.std.specs.List.{list_any, range_with_len}
use Rattle.std.specs.Ordering.{int_eq}
use Rattle.std.proofs.lemmas.List.{get_or_default}
use Rattle.std.proofs.lemmas.List.Elements.{filter-append}
use Rattle.std.proofs.lemmas.List.Folds.{list_any-append}
use Rattle.list_laws.proofs.Members.{In, from_In-range}
use Rattle.fpga_types.specs.Problem.{RoutingProblem}
use Rattle.fpga_types.specs.Slots.{NO_SLOT, slots}
use Rattle.fpga_types.specs.declared.problem.Slot.{Slot}
use Rattle.fpga_types.specs.declared.route.RouteText.{RouteText}
use Rattle.sat_clause.specs.Formula.{Cnf}
use Rattle.sat_clause.specs.Literal.{Clause}
use Rattle.sat_clause.specs.Live.{numbered}
use Rattle.sat_clause.specs.Step.{Step, Added, Erased}
use Rattle.route_encode.specs.Encoding.{below}
use Rattle.route_encode.proofs.RivalLemmas.{range-append}
use Rattle.route_core.specs.Blamed.{blamed, is_blamed, is_hint, speaks_of, used_places}
use Rattle.route_core.specs.Blaming.{blames_at}
use Rattle.route_core.specs.Trimmed.{has_hint}
use Rattle.route_core.proofs.CoreLemmas.{net-there}
use Rattle.route_core.proofs.ListedLemmas.{take-next}

-- ---- the inputs that are hints

-- one step more
hint-more : (steps : List Step) (at : ℕ) (step : Step) → slice_get steps at ≡ Some step → (id : ℕ)
    → is_hint (take (at + 1) steps) id
    ≡ (is_hint (take at steps) id || (has_hint (pos id) step || false))
hint-more steps at step is id =
    ap (list_any (has_hint (pos id))) (take-next steps at step is)
    ∙ list_any-append (has_hint (pos id)) (take at steps) (step ∷ [])

or-none : (b : Bool) → (b || false) ≡ b
or-none true = refl
or-none false = refl

pub hint-added : (steps : List Step) (at id : ℕ) (clause : Clause) (hints : List ℤ)
    → slice_get steps at ≡ Some (Added id clause hints) → (k : ℕ)
    → (is_hint (take at steps) (suc k) || list_any (λ h. int_eq h (pos (suc k))) hints)
    ≡ is_hint (take (at + 1) steps) (suc k)
hint-added steps at id clause hints is k =
    ap (λ (b : Bool). is_hint (take at steps) (suc k) || b)
    (sym (or-none (list_any (λ h. int_eq h (pos (suc k))) hints)))
    ∙ sym (hint-more steps at (Added id clause hints) is (suc k))

pub hint-erased : (steps : List Step) (at id : ℕ) (ids : List ℤ)
    → slice_get steps at ≡ Some (Erased id ids) → (k : ℕ)
    → is_hint (take at steps) (suc k) ≡ is_hint (take (at + 1) steps) (suc k)
hint-erased steps at id ids is k =
    sym (hint-more steps at (Erased id ids) is (suc k) ∙ or-none (is_hint (take at steps) (suc k)))

-- ---- over the numbers below one

any-below : (p : ℕ → Bool) (n : ℕ)
    → list_any p (below (n + 1)) ≡ (list_any p (below n) || p n)
any-below p n =
    ap (list_any p) (range-append 0 n 1)
    ∙ list_any-append p (below n) (range_with_len (0 + n) 1)
    ∙ ap (λ (b : Bool). list_any p (below n) || b)
    (ap (λ (k : ℕ). p k || false) (let e : 0 + n ≡ n = omega arith in e) ∙ or-none (p n))

pub any-more : (p : ℕ → Bool) (n : ℕ) (b : Bool) → p n ≡ b
    → (list_any p (below n) || b) ≡ list_any p (below (n + 1))
any-more p n b h = sym (any-below p n ∙ ap (λ (c : Bool). list_any p (below n) || c) h)

pub any-left : (p : ℕ → Bool) (n : ℕ) → p n ≡ false
    → list_any p (below n) ≡ list_any p (below (n + 1))
any-left p n h = sym (or-none (list_any p (below n))) ∙ any-more p n false h

filter-below : (p : ℕ → Bool) (n : ℕ)
    → filter p (below (n + 1)) ≡ filter p (below n) ++ cond (p n) (n ∷ []) []
filter-below p n =
    ap (filter p) (range-append 0 n 1)
    ∙ filter-append p (below n) (range_with_len (0 + n) 1)
    ∙ ap (λ (k : ℕ). filter p (below n) ++ filter p (k ∷ []))
    (let e : 0 + n ≡ n = omega arith in e)

pub filter-passed : (p : ℕ → Bool) (n : ℕ) → p n ≡ true
    → filter p (below n) ++ n ∷ [] ≡ filter p (below (n + 1))
filter-passed p n h =
    sym (filter-below p n ∙ ap (λ (b : Bool). filter p (below n) ++ cond b (n ∷ []) []) h)

pub filter-failed : (p : ℕ → Bool) (n : ℕ) → p n ≡ false
    → filter p (below n) ≡ filter p (below (n + 1))
filter-failed p n h =
    sym (filter-below p n ∙ ap (λ (b : Bool). filter p (below n) ++ cond b (n ∷ []) []) h
    ∙ append-nil (filter p (below n)))

any-same : (p q : ℕ → Bool) (xs : List ℕ) → ((x : ℕ) → In xs x → p x ≡ q x)
    → list_any p xs ≡ list_any q xs
any-same p q [] h = refl
any-same p q (x ∷ xs) h =
    ap (λ (b : Bool). b || list_any p xs) (h x (inl refl))
    ∙ ap (λ (b : Bool). q x || b) (any-same p q xs (λ y i. h y (inr i)))

filter-same : (p q : ℕ → Bool) (xs : List ℕ) → ((x : ℕ) → In xs x → p x ≡ q x)
    → filter p xs ≡ filter q xs
filter-same p q [] h = refl
filter-same p q (x ∷ xs) h =
    ap (λ (b : Bool). cond b (x ∷ filter p xs) (filter p xs)) (h x (inl refl))
    ∙ ap (λ (ys : List ℕ). cond (q x) (x ∷ ys) ys) (filter-same p q xs (λ y i. h y (inr i)))

-- the inputs with their ids, by their positions
any-inputs : (f : ℕ → Clause → Bool) (k : ℕ) (clauses : List Clause)
    → list_any (λ at. f (suc at) (get_or clauses (at - k) [])) (range_with_len k (length clauses))
    ≡ list_any (λ (input : ℕ × Clause). f input.0 input.1) (numbered (suc k) clauses)
any-inputs f k [] = refl
any-inputs f k (c ∷ clauses) =
    ap (λ (n : ℕ). f (suc k) (get_or (c ∷ clauses) n [])
    || list_any (λ at. f (suc at) (get_or (c ∷ clauses) (at - k) []))
    (range_with_len (k + 1) (length clauses))) (let e : k - k ≡ 0 = omega arith in e)
    ∙ ap (λ (b : Bool). f (suc k) c || b)
    (any-same (λ at. f (suc at) (get_or (c ∷ clauses) (at - k) []))
    (λ at. f (suc at) (get_or clauses (at - (k + 1)) []))
    (range_with_len (k + 1) (length clauses)) (λ at i.
    let range = from_In-range (k + 1) (length clauses) at i in
    ap (λ (n : ℕ). f (suc at) (get_or (c ∷ clauses) n []))
    (let e : at - k ≡ suc (at - (k + 1)) = omega (arith, range.0) in e))
    ∙ any-inputs f (k + 1) clauses
    ∙ ap (λ (n : ℕ). list_any (λ (input : ℕ × Clause). f input.0 input.1) (numbered n clauses))
    (let e : suc (k + 1) ≡ suc (suc k) = omega arith in e))

-- ---- the clauses that are used

pub places-are : (small : List Step) (count : ℕ) (used : List Bool) → length used ≡ count
    → ((at : ℕ) → at < count → get_or used at false ≡ is_hint small (suc at))
    → filter (λ at. get_or used at false) (below (length used)) ≡ used_places count small
places-are small count used many marked =
    ap (λ (n : ℕ). filter (λ at. get_or used at false) (below n)) many
    ∙ filter-same (λ at. get_or used at false) (λ at. is_hint small (suc at)) (below count)
    (λ at i.
    let range = from_In-range 0 count at i in
    marked at (omega (arith, range.1)))

-- ---- the nets to blame

module _ (width : ℕ) (p : RoutingProblem) (formula : Cnf) (small : List Step) (used : List Bool)
    (count : length used ≡ length formula.clauses)
    (marked : (at : ℕ) → at < length used → get_or used at false ≡ is_hint small (suc at)) where
  abbrev clauses : List Clause
  clauses = formula.clauses

  abbrev all : List Slot
  all = slots p.route

  blamed-is : (net : ℕ) → list_any (blames_at used clauses width all net) (below (length used))
      ≡ is_blamed width p formula small net
  blamed-is net =
      any-same (blames_at used clauses width all net)
      (λ at. is_hint small (suc at) && speaks_of width all net (get_or clauses (at - 0) []))
      (below (length used)) (λ at i.
      let range = from_In-range 0 (length used) at i in
      ap (λ (b : Bool). b && speaks_of width all net (get_or clauses at []))
      (marked at (omega (arith, range.1)))
      ∙ ap (λ (n : ℕ). is_hint small (suc at) && speaks_of width all net (get_or clauses n []))
      (let e : at ≡ at - 0 = omega arith in e))
      ∙ ap (λ (n : ℕ). list_any (λ at. is_hint small (suc at)
      && speaks_of width all net (get_or clauses (at - 0) [])) (below n)) count
      ∙ any-inputs (λ id clause. is_hint small id && speaks_of width all net clause) 0 clauses

  pub nets-are : (marks : List Bool) → length marks ≡ length p.route.nets
      → ((net : ℕ) → net < length marks → get_or marks net false
      ≡ list_any (blames_at used clauses width all net) (below (length used)))
      → filter (λ net. get_or marks net false) (below (length marks))
      ≡ blamed width p formula small
  nets-are marks many is =
      filter-same (λ net. get_or marks net false) (is_blamed width p formula small)
      (below (length marks)) (λ net i.
      let range = from_In-range 0 (length marks) net i in
      is net (omega (arith, range.1)) ∙ blamed-is net)
      ∙ ap (λ (n : ℕ). filter (is_blamed width p formula small) (below n)) many

-- the nets of slots are nets of the route
pub nets-there : (route : RouteText) → All (λ slot. slot.net < length route.nets) (slots route)
nets-there route k d low =
    subst (λ (s : Slot). s.net < length route.nets)
    (get_or_default (slots route) k NO_SLOT d low) (net-there route k low)
