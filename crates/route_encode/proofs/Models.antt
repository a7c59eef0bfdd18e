-- What values that satisfy the clauses of a route say of each slot and track.
use Rattle.std.proofs.Common.{◌≡◌, ◌⊎◌, ℕ, zero, suc, ◌+◌, ◌-◌, ◌*◌, ◌<◌, Bool, true, false, List, [], ◌∷◌, ◌++◌, length, get_or, Option, Some, None, refl, sym, ap, subst, ◌∙◌, inl, inr, arith}
use Rattle.std.specs.Prelude.{All, IsTrue, not, map, flat_map, filter, option_map, option_to_list}
use Rattle.std.proofs.lemmas.Bool.{false≢true}
use Rattle.std.proofs.lemmas.List.Elements.{All-append}
use Rattle.list_laws.proofs.Members.{In, In-all, In-any, In-append_left, In-append_right, In-filter, In-flat_map, In-map, In-range, all-from_In, any-from_In, from_In-filter, from_In-flat_map, from_In-map, from_In-range}
use Rattle.fpga_types.specs.Slots.{pairs, pin_steps, slots, steps}
use Rattle.fpga_types.specs.declared.grid.Cell.{Cell}
use Rattle.fpga_types.specs.declared.grid.PinAt.{PinAt}
use Rattle.fpga_types.specs.declared.problem.PinStep.{PinStep}
use Rattle.fpga_types.specs.declared.problem.RouteStep.{RouteStep}
use Rattle.fpga_types.specs.declared.route.RouteText.{RouteText}
use Rattle.sat_clause.specs.declared.literal.Lit.{Lit}
use Rattle.sat_clause.specs.Formula.{Cnf, IsTrueClause, Satisfies, makes_true}
use Rattle.sat_clause.specs.Literal.{Clause}
use Rattle.route_encode.specs.Encoding.{above, apart_track, below, encoding, has, joined_track, lacks, no_higher_track, not_both, one_track, open_track, place_of, some_track, track_after}
use Rattle.route_encode.specs.Said.{says}
use Rattle.route_encode.proofs.BitLemmas.{place-inside}

-- ---- what holds of each element that is made of others

module _ {A B : Type 0} (P : B → Type 0) where
  pub of-map : (f : A → B) (xs : List A) → All P (map f xs) → (x : A) → In xs x → P (f x)
  of-map f xs h x i = In-all P (map f xs) (f x) h (In-map f xs x i)

  pub to-map : (f : A → B) (xs : List A) → ((x : A) → In xs x → P (f x)) → All P (map f xs)
  to-map f xs h = all-from_In P (map f xs) (λ y i.
      let r = from_In-map f xs y i in subst P r.2 (h r.0 r.1))

  pub of-rows : (f : A → List B) (xs : List A) → All P (flat_map f xs) → (x : A) → In xs x
      → All P (f x)
  of-rows f xs h x i = all-from_In P (f x) (λ y j.
      In-all P (flat_map f xs) y h (In-flat_map f xs x y i j))

  pub to-rows : (f : A → List B) (xs : List A) → ((x : A) → In xs x → All P (f x))
      → All P (flat_map f xs)
  to-rows f xs h = all-from_In P (flat_map f xs) (λ y i.
      let r = from_In-flat_map f xs y i in In-all P (f r.0) y (h r.0 r.1) r.2)

pub of-both : {B : Type 0} (P : B → Type 0) (xs ys : List B) → All P (xs ++ ys)
    → All P xs × All P ys
of-both P xs ys h = (
  all-from_In P xs (λ x i. In-all P (xs ++ ys) x h (In-append_left xs ys x i)),
  all-from_In P ys (λ y i. In-all P (xs ++ ys) y h (In-append_right xs ys y i)),
)

pub in-below : (n k : ℕ) → k < n → In (below n) k
in-below n k h = In-range 0 n k (omega arith) (omega arith)

pub of-below : (n k : ℕ) → In (below n) k → k < n
of-below n k i = let r = from_In-range 0 n k i in omega (arith, r.1)

-- ---- what makes a clause true

-- a value that is true without one past the end is true with it
pub true_anyway : (values : List Bool) (k : ℕ) → get_or values k false ≡ true → get_or values k true
    ≡ true
true_anyway [] k h = refl
true_anyway (v ∷ values) zero h = h
true_anyway (v ∷ values) (suc k) h = true_anyway values k h

-- a value within the list does not depend on what stands past the end
pub one_value : (values : List Bool) (k : ℕ) → k < length values →
    get_or values k true ≡ get_or values k false
one_value [] k h = absurd (omega arith)
one_value (v ∷ values) zero h = refl
one_value (v ∷ values) (suc k) h = one_value values k (omega arith)

pub not-true : (b : Bool) → not b ≡ true → b ≡ false
not-true true h = absurd (false≢true h)
not-true false h = refl

module _ (values : List Bool) where
  abbrev pub IsTrueLit : Lit → Type 0
  IsTrueLit l = IsTrue (makes_true values l)

  pub none : IsTrueClause values [] → ⊥
  none h = absurd (In-any IsTrueLit [] h).1

  pub true-here : (l : Lit) (ls : Clause) → IsTrueLit l → IsTrueClause values (l ∷ ls)
  true-here l ls h = any-from_In IsTrueLit (l ∷ ls) l (inl refl) h

  pub true-later : (l : Lit) (ls : Clause) → IsTrueClause values ls → IsTrueClause values (l ∷ ls)
  true-later l ls h =
      let m = In-any IsTrueLit ls h in any-from_In IsTrueLit (l ∷ ls) m.0 (inr m.1) m.2

  pub true-cases : (l : Lit) (ls : Clause) → IsTrueClause values (l ∷ ls) →
      IsTrueLit l ⊎ IsTrueClause values ls
  true-cases l ls h =
      let m = In-any IsTrueLit (l ∷ ls) h in
      elim m.1 [
        | inl e ↦ inl (subst IsTrueLit (sym e) m.2)
        | inr i ↦ inr (any-from_In IsTrueLit ls m.0 i m.2)
      ]

module _ (values : List Bool) (width : ℕ) where
  -- where a slot has a track, a clause that says that it lacks it has another true literal
  pub unless : (s t : ℕ) (rest : Clause) → IsTrueClause values (lacks width s t ∷ rest) →
      says values width s t ≡ true → IsTrueClause values rest
  unless s t rest h f = elim (true-cases values (lacks width s t) rest h) [
    | inl l ↦ absurd (false≢true (sym (not-true (get_or values (place_of width s t) true) l)
        ∙ true_anyway values (place_of width s t) f))
    | inr r ↦ r
  ]

  -- and a clause that has one is true whether or not the slot has the track
  pub unless-had : (s t : ℕ) (rest : Clause) → place_of width s t < length values →
      (says values width s t ≡ true → IsTrueClause values rest) →
      IsTrueClause values (lacks width s t ∷ rest)
  unless-had s t rest inside h = go (says values width s t) refl
    where
      go : (c : Bool) → says values width s t ≡ c → IsTrueClause values (lacks width s t ∷ rest)
      go true e = true-later values (lacks width s t) rest (h e)
      go false e = true-here values (lacks width s t) rest
          (ap not (one_value values (place_of width s t) inside ∙ e))

  -- of two tracks one is not had exactly where one is lacked
  pub two-lack : (a t b u : ℕ) → IsTrueClause values (not_both width a t b u) →
      says values width a t ≡ true → says values width b u ≡ true → ⊥
  two-lack a t b u h f g = none values (unless b u [] (unless a t (lacks width b u ∷ []) h f) g)

  pub lack-two : (a t b u : ℕ) → place_of width a t < length values
      → place_of width b u < length values →
      (says values width a t ≡ true → says values width b u ≡ true → ⊥) →
      IsTrueClause values (not_both width a t b u)
  lack-two a t b u in_a in_b h =
      unless-had a t (lacks width b u ∷ []) in_a (λ f. unless-had b u [] in_b (λ g. absurd (h f g)))

  -- the track that a clause leads on to, and that it leads on to one that is had
  pub leads-on : (to : ℕ) (after : Option ℕ) →
      IsTrueClause values (option_to_list (option_map (has width to) after)) →
      (u : ℕ) × (after ≡ Some u) × (says values width to u ≡ true)
  leads-on to None h = absurd (none values h)
  leads-on to (Some u) h = elim (true-cases values (has width to u) [] h) [
    | inl l ↦ (u, refl, l)
    | inr r ↦ absurd (none values r)
  ]

  pub lead-on : (to : ℕ) (after : Option ℕ) → (u : ℕ) × (after ≡ Some u)
      × (says values width to u ≡ true) →
      IsTrueClause values (option_to_list (option_map (has width to) after))
  lead-on to after r =
      subst (λ (o : Option ℕ). IsTrueClause values (option_to_list (option_map (has width to) o)))
      (sym r.1) (true-here values (has width to r.0) [] r.2)

-- ---- what all clauses say

-- what the clauses say of each slot, step, pin step and pair
pub record Obeys
    (across : Cell → Cell → ℕ → Option ℕ) (opens : PinAt → ℕ → Bool) (width : ℕ)
    (route : RouteText) (values : List Bool) : Type 0 where
  pub many : length values ≡ length (slots route) * width
  pub some : (s : ℕ) → s < length (slots route) → (t : ℕ) × (t < width)
      × (says values width s t ≡ true)
  pub one : (s t u : ℕ) → s < length (slots route) → t < u → u < width → says values width s t
      ≡ true → says values width s u ≡ true → ⊥
  pub open_to : (p : PinStep) (t : ℕ) → In (pin_steps route) p → t < width → opens p.pin t ≡ false
      → says values width p.slot t ≡ true → ⊥
  pub joined : (step : RouteStep) (t : ℕ) → In (steps route) step → t < width
      → says values width step.from t ≡ true
      → (u : ℕ) × (track_after across (slots route) step t ≡ Some u)
      × (says values width step.to u ≡ true)
  pub apart : (p : ℕ × ℕ) (t : ℕ) → In (pairs (slots route)) p → t < width → says values width p.0 t
      ≡ true → says values width p.1 t ≡ true → ⊥

module _ (across : Cell → Cell → ℕ → Option ℕ) (opens : PinAt → ℕ → Bool) (width : ℕ)
    (route : RouteText) where
  abbrev count : ℕ
  count = length (slots route)

  -- the formula of the clauses
  abbrev pub cnf_by : Cnf
  cnf_by = record { vars = count * width; clauses = encoding across opens width route }

  abbrev first : List Clause
  first = map (some_track width) (below count)

  abbrev second : List Clause
  second = flat_map (one_track width) (below count)

  abbrev third : List Clause
  third = flat_map (open_track opens width) (pin_steps route)

  abbrev fourth : List Clause
  fourth = flat_map (joined_track across width (slots route)) (steps route)

  abbrev fifth : List Clause
  fifth = flat_map (apart_track width) (pairs (slots route))

  -- the tracks that a pin does not open, and what a step says of a track
  abbrev closed_tracks : PinStep → List ℕ
  closed_tracks p = filter (λ t. not (opens p.pin t)) (below width)

  abbrev led_to : RouteStep → ℕ → Clause
  led_to step t =
      option_to_list (option_map (has width step.to) (track_after across (slots route) step t))

  -- the clauses that values satisfy are obeyed
  pub satisfies-obeys : (values : List Bool) → Satisfies values cnf_by →
      Obeys across opens width route values
  satisfies-obeys values h =
      let P : Clause → Type 0 = IsTrueClause values in
      let four = of-both P (first ++ second ++ third ++ fourth) fifth h.each_clause in
      let three = of-both P (first ++ second ++ third) fourth four.0 in
      let two = of-both P (first ++ second) third three.0 in
      let one = of-both P first second two.0 in
      record {
        many = h.one_each;
        some = λ s low.
            let clause = of-map P (some_track width) (below count) one.0 s (in-below count s low) in
            let m = In-any (IsTrueLit values) (some_track width s) clause in
            let t = from_In-map (has width s) (below width) m.0 m.1 in
            (t.0, of-below width t.0 t.1, subst (IsTrueLit values) (sym t.2) m.2);
        one = λ s t u low order high f g.
            let rows = of-rows P (one_track width) (below count) one.1 s (in-below count s low) in
            let row = of-rows P (no_higher_track width s) (below width) rows t
            (in-below width t (omega arith)) in
            let among = In-range (t + 1) (width - t - 1) u (omega arith) (omega arith) in
            two-lack values width s t s u
            (of-map P (λ v. not_both width s t s v) (above t width) row u among) f g;
        open_to = λ p t inside low closed f.
            let row = of-rows P (open_track opens width) (pin_steps route) two.1 p inside in
            let among = In-filter (λ v. not (opens p.pin v)) (below width) t (in-below width t low)
            (ap not closed) in
            none values (unless values width p.slot t []
            (of-map P (λ v. lacks width p.slot v ∷ []) (closed_tracks p) row t among) f);
        joined = λ step t inside low f.
            let row = of-rows P (joined_track across width (slots route)) (steps route) three.1 step
            inside in
            leads-on values width step.to (track_after across (slots route) step t)
            (unless values width step.from t (led_to step t)
            (of-map P (λ v. lacks width step.from v ∷ led_to step v) (below width) row t
            (in-below width t low)) f);
        apart = λ p t inside low f g.
            let row = of-rows P (apart_track width) (pairs (slots route)) four.1 p inside in
            two-lack values width p.0 t p.1 t
            (of-map P (λ v. not_both width p.0 v p.1 v) (below width) row t
            (in-below width t low)) f g;
      }

  -- values that obey the clauses satisfy them, where all that is named is there
  module _ (steps_in : (step : RouteStep) → In (steps route) step → (step.from < count)
      × (step.to < count))
      (pins_in : (p : PinStep) (t : ℕ) → In (pin_steps route) p → opens p.pin t ≡ false
      → p.slot < count)
      (pairs_in : (p : ℕ × ℕ) → In (pairs (slots route)) p → (p.0 < count) × (p.1 < count)) where
    pub obeys-satisfies : (values : List Bool) → Obeys across opens width route values →
        Satisfies values cnf_by
    obeys-satisfies values h = record {
      one_each = h.many;
      each_clause =
          All-append (IsTrueClause values) (first ++ second ++ third ++ fourth) fifth
          (All-append (IsTrueClause values) (first ++ second ++ third) fourth
          (All-append (IsTrueClause values) (first ++ second) third
          (All-append (IsTrueClause values) first second some_each one_each) open_each)
          joined_each) apart_each;
    }
      where
        room : (s t : ℕ) → s < count → t < width → place_of width s t < length values
        room s t f g =
            subst (λ (n : ℕ). place_of width s t < n) (sym h.many)
            (place-inside count width s t f g)

        some_each : All (IsTrueClause values) first
        some_each = to-map (IsTrueClause values) (some_track width) (below count) (λ s i.
            let m = h.some s (of-below count s i) in
            any-from_In (IsTrueLit values) (some_track width s) (has width s m.0)
            (In-map (has width s) (below width) m.0 (in-below width m.0 m.1)) m.2)

        one_each : All (IsTrueClause values) second
        one_each = to-rows (IsTrueClause values) (one_track width) (below count) (λ s i.
            to-rows (IsTrueClause values) (no_higher_track width s) (below width) (λ t j.
            to-map (IsTrueClause values) (λ u. not_both width s t s u) (above t width) (λ u k.
            let low = of-below count s i in
            let below_t = of-below width t j in
            let range = from_In-range (t + 1) (width - t - 1) u k in
            let below_u : u < width = omega (arith, range.1, below_t) in
            lack-two values width s t s u (room s t low below_t) (room s u low below_u)
            (h.one s t u low (omega (arith, range.0)) below_u))))

        open_each : All (IsTrueClause values) third
        open_each = to-rows (IsTrueClause values) (open_track opens width) (pin_steps route) (λ p i.
            to-map (IsTrueClause values) (λ t. lacks width p.slot t ∷ []) (closed_tracks p) (λ t j.
            let kept = from_In-filter (λ v. not (opens p.pin v)) (below width) t j in
            let low = of-below width t kept.0 in
            let closed : opens p.pin t ≡ false = not-true (opens p.pin t) kept.1 in
            unless-had values width p.slot t [] (room p.slot t (pins_in p t i closed) low)
            (λ f. absurd (h.open_to p t i low closed f))))

        joined_each : All (IsTrueClause values) fourth
        joined_each = to-rows (IsTrueClause values) (joined_track across width (slots route))
            (steps route) (λ step i.
            to-map (IsTrueClause values) (λ t. lacks width step.from t ∷ led_to step t)
            (below width) (λ t j.
            let low = of-below width t j in
            unless-had values width step.from t (led_to step t)
            (room step.from t (steps_in step i).0 low)
            (λ f. lead-on values width step.to (track_after across (slots route) step t)
            (h.joined step t i low f))))

        apart_each : All (IsTrueClause values) fifth
        apart_each = to-rows (IsTrueClause values) (apart_track width) (pairs (slots route)) (λ p i.
            to-map (IsTrueClause values) (λ t. not_both width p.0 t p.1 t) (below width) (λ t j.
            let low = of-below width t j in
            lack-two values width p.0 t p.1 t (room p.0 t (pairs_in p i).0 low)
            (room p.1 t (pairs_in p i).1 low) (h.apart p t i low)))
