-- How many clauses and literals an encoding has.
use Rattle.std.proofs.Common.{◌≡◌, ℕ, zero, suc, ◌+◌, ◌-◌, ◌*◌, ◌/◌, Bool, List, [], ◌∷◌, ◌++◌, length, Option, Some, refl, ap, ◌∙◌, inl, inr, arith, length-append}
use Rattle.std.specs.Prelude.{map, filter, flat_map, not, option_map, option_to_list}
use Rattle.std.specs.List.{range_with_len}
use Rattle.std.proofs.lemmas.List.{length-map}
use Rattle.std.proofs.lemmas.List.FromFn.{length-map-range_with_len, length-range_with_len}
use Rattle.std.proofs.lemmas.List.Sums.{sum_by-append, sum_by-cons}
use Rattle.list_laws.proofs.Members.{In}
use Rattle.list_laws.proofs.Rows.{length-rows}
use Rattle.fpga_types.specs.Slots.{pairs, pin_steps, slots, steps}
use Rattle.fpga_types.specs.declared.grid.Cell.{Cell}
use Rattle.fpga_types.specs.declared.grid.PinAt.{PinAt}
use Rattle.fpga_types.specs.declared.problem.RouteStep.{RouteStep}
use Rattle.fpga_types.specs.declared.route.RouteText.{RouteText}
use Rattle.sat_clause.specs.Literal.{Clause}
use Rattle.route_encode.specs.Adding.{lit_count}
use Rattle.route_encode.specs.Encoding.{above, apart_track, below, encoding, has, joined_track, lacks, no_higher_track, not_both, one_track, open_track, some_track, track_after}

-- each clause has so many literals
abbrev HaveEach : ℕ → List Clause → Type 0
HaveEach k clauses = lit_count clauses ≡ k * length clauses

each-append : (k : ℕ) (xs ys : List Clause) → HaveEach k xs → HaveEach k ys → HaveEach k (xs ++ ys)
each-append k xs ys f g = rw (sum_by-append length xs ys, length-append xs ys, f, g) (omega arith)

each-rows : {A : Type 0} (k : ℕ) (g : A → List Clause) (xs : List A)
    → ((x : A) → In xs x → HaveEach k (g x)) → HaveEach k (flat_map g xs)
each-rows k g [] h = omega arith
each-rows k g (x ∷ xs) h =
    each-append k (g x) (flat_map g xs) (h x (inl refl)) (each-rows k g xs (λ y i. h y (inr i)))

lits-each : {A : Type 0} (f : A → Clause) (m : ℕ) (xs : List A) → ((x : A) → length (f x) ≡ m)
    → lit_count (map f xs) ≡ length xs * m
lits-each f m [] h = omega arith
lits-each f m (x ∷ xs) h = rw (sum_by-cons length (f x) (map f xs), h x, lits-each f m xs h)
    (omega arith)

each-map : {A : Type 0} (k : ℕ) (f : A → Clause) (xs : List A) → ((x : A) → length (f x) ≡ k)
    → HaveEach k (map f xs)
each-map k f xs h = rw (lits-each f k xs h, length-map xs f) (omega arith)

-- the clauses that forbid two tracks of a slot, from track a on
no-two : (width s a n : ℕ) → a + n ≡ width
    → 2 * length (flat_map (no_higher_track width s) (range_with_len a n)) + n ≡ n * n
no-two width s a zero h = omega arith
no-two width s a (suc n) h =
    let first : length (no_higher_track width s a) ≡ n =
    length-map-range_with_len (λ u. not_both width s a s u) (a + 1) (width - a - 1)
    ∙ omega arith in
    let rest = no-two width s (a + 1) n (omega arith) in
    rw (
      length-append (no_higher_track width s a)
          (flat_map (no_higher_track width s) (range_with_len (a + 1) n)),
      first,
    )
    (omega (arith, rest))

length-one_track : (width s : ℕ) → length (one_track width s) ≡ width * (width - 1) / 2
length-one_track width s =
    halves width (length (one_track width s)) (no-two width s 0 width (omega arith))
  where
    halves : (w l : ℕ) → 2 * l + w ≡ w * w → l ≡ w * (w - 1) / 2
    halves zero l h = omega arith
    halves (suc w) l h = let less : suc w - 1 ≡ w = omega arith in let e : suc w * w ≡ 2 * l =
        omega (arith, h) in rw (less, e) (omega arith)

module _ (across : Cell → Cell → ℕ → Option ℕ) (open_at : PinAt → ℕ → Bool) (width : ℕ)
    (route : RouteText) where
  abbrev count : ℕ
  count = length (slots route)

  abbrev first : List Clause
  first = map (some_track width) (below count)

  abbrev second : List Clause
  second = flat_map (one_track width) (below count)

  abbrev third : List Clause
  third = flat_map (open_track open_at width) (pin_steps route)

  abbrev fourth : List Clause
  fourth = flat_map (joined_track across width (slots route)) (steps route)

  abbrev fifth : List Clause
  fifth = flat_map (apart_track width) (pairs (slots route))

  -- how many clauses have two literals
  abbrev pub of_two : ℕ
  of_two = count * (width * (width - 1) / 2) + length (steps route) * width
      + length (pairs (slots route)) * width

  length-first : length first ≡ count
  length-first = length-map-range_with_len (some_track width) 0 count

  length-second : length second ≡ count * (width * (width - 1) / 2)
  length-second = length-rows (one_track width) (width * (width - 1) / 2) (below count)
      (length-one_track width)
      ∙ ap (λ (n : ℕ). n * (width * (width - 1) / 2)) (length-range_with_len 0 count)

  length-fourth : length fourth ≡ length (steps route) * width
  length-fourth = length-rows (joined_track across width (slots route)) width (steps route)
      (λ step. length-map-range_with_len
      (λ t. lacks width step.from t ∷ option_to_list
      (option_map (has width step.to) (track_after across (slots route) step t))) 0 width)

  length-fifth : length fifth ≡ length (pairs (slots route)) * width
  length-fifth = length-rows (apart_track width) width (pairs (slots route))
      (λ p. length-map-range_with_len (λ t. not_both width p.0 t p.1 t) 0 width)

  -- how many clauses there are
  pub length-encoding_by : length (encoding across open_at width route)
      ≡ count + length third + of_two
  length-encoding_by = rw (
    length-append (first ++ second ++ third ++ fourth) fifth,
    length-append (first ++ second ++ third) fourth,
    length-append (first ++ second) third,
    length-append first second,
    length-first,
    length-second,
    length-fourth,
    length-fifth,
  ) (omega arith)

  -- how many literals they have, where the tracks of each step are joined to some
  pub lits-encoding_by : ((step : RouteStep) → In (steps route) step
      → (t : ℕ) → (u : ℕ) × (track_after across (slots route) step t ≡ Some u))
      → lit_count (encoding across open_at width route)
      ≡ count * width + length third + 2 * of_two
  lits-encoding_by joins =
      let lits_a : lit_count first ≡ count * width =
      lits-each (some_track width) width (below count)
      (λ s. length-map-range_with_len (has width s) 0 width)
      ∙ ap (λ (n : ℕ). n * width) (length-range_with_len 0 count) in
      let two_b : HaveEach 2 second =
      each-rows 2 (one_track width) (below count) (λ s i.
      each-rows 2 (no_higher_track width s) (below width) (λ t j.
      each-map 2 (λ u. not_both width s t s u) (above t width) (λ u. refl))) in
      let one_c : HaveEach 1 third =
      each-rows 1 (open_track open_at width) (pin_steps route) (λ p i.
      each-map 1 (λ t. lacks width p.slot t ∷ [])
      (filter (λ t. not (open_at p.pin t)) (below width)) (λ t. refl)) in
      let two_d : HaveEach 2 fourth =
      each-rows 2 (joined_track across width (slots route)) (steps route) (λ step i.
      each-map 2 (λ t. lacks width step.from t ∷ option_to_list
      (option_map (has width step.to) (track_after across (slots route) step t))) (below width)
      (λ t. ap (λ (o : Option ℕ). length (lacks width step.from t ∷ option_to_list
      (option_map (has width step.to) o))) (joins step i t).1)) in
      let two_e : HaveEach 2 fifth =
      each-rows 2 (apart_track width) (pairs (slots route)) (λ p i.
      each-map 2 (λ t. not_both width p.0 t p.1 t) (below width) (λ t. refl)) in
      rw (
        sum_by-append length (first ++ second ++ third ++ fourth) fifth,
        sum_by-append length (first ++ second ++ third) fourth,
        sum_by-append length (first ++ second) third,
        sum_by-append length first second,
        lits_a,
        two_b,
        one_c,
        two_d,
        two_e,
        length-second,
        length-fourth,
        length-fifth,
      )
      (omega arith)
