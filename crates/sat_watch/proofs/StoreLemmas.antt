-- How a trail lies, with one more entry and with one less.
use Rattle.std.proofs.Common.{◌≡◌, ◌≢◌, ◌<◌, ◌≤◌, ◌+◌, ◌-◌, ◌*◌, ◌==◌, inl, inr, Bool, ℕ, suc, set, length-set, replicate, true, false, List, [], ◌∷◌, ◌++◌, length, slice_index_or, reverse, Some, Vec, refl, sym, ap, ◌∙◌, subst, arith}
use Rattle.std.specs.Prelude.{vec_len, vec_capacity}
use Rattle.std.specs.Global.{Global}
use Rattle.std.specs.Vec.{with_item, with_items}
use Rattle.std.specs.Prelude.{if◌then◌else◌}
use Rattle.std.proofs.lemmas.Bool.{eqb-false, eqb-true}
use Rattle.std.proofs.lemmas.List.{get_or-replicate, get_or-set_same, get_or-set_other}
use Rattle.std.proofs.lemmas.List.{length-reverse, reverse-append, with_items_is}
use Rattle.std.proofs.lemmas.List.Elements.{All-pop, All-push, All-tail}
use Rattle.sat_clause.specs.declared.literal.Lit.{Lit}
use Rattle.sat_clause.specs.Literal.{IsWithin, is_among, negation, variable}
use Rattle.sat_watch.specs.declared.entry.TrailEntry.{TrailEntry}
use Rattle.sat_watch.specs.Trail.{AreWithin, IsOnce, IsOpen, IsTrail, falses, place_in}
use Rattle.sat_watch.specs.TrailStore.{ArePlacesOf, AreTold, IsTrailStore, place_of, trail_state, truth_by, truth_in}
use Rattle.sat_watch.proofs.LevelLemmas.{not_both, not_own_negation}
use Rattle.sat_watch.proofs.WatchLemmas.{lit_tells}
use Rattle.sat_watch.proofs.FewLemmas.{longer_trail}
use Rattle.sat_watch.proofs.PlaceLemmas.{none_placed}
use Rattle.sat_watch.proofs.TableLemmas.{place_within, places_apart}
use Rattle.sat_clause.proofs.LiteralLaws.{among_here, among_other, negation-negation, variable_negation}
use Rattle.sat_watch.proofs.TrailLemmas.{open_negation, open_not_false, open_not_true}

reverse-push : {X : Type 0} (xs : List X) (x : X) → reverse (xs ++ x ∷ []) ≡ x ∷ reverse xs
reverse-push xs x = reverse-append xs (x ∷ [])

module _ (vars : ℕ) (truths : List ℕ) (wide : length truths ≡ suc (vars * 2)) where
  set_same : (a : Lit) (x : ℕ) → IsWithin vars a →
      slice_index_or (set truths (place_of vars a) x) (place_of vars a) 0 ≡ x
  set_same a x within =
      get_or-set_same truths (place_of vars a) x 0
      (let below = place_within vars a within in omega arith)

  set_other : (a l : Lit) (x : ℕ) → IsWithin vars a → IsWithin vars l → l ≢ a →
      slice_index_or (set truths (place_of vars a) x) (place_of vars l) 0 ≡ slice_index_or truths
      (place_of vars l) 0
  set_other a l x within l_within ne =
      get_or-set_other truths (place_of vars a) (place_of vars l) x 0
      (places_apart vars l a l_within within ne)

-- the truth of a literal is 1 where it is true
pub truth_one : (entries : List TrailEntry) (l : Lit) (truth : ℕ) → 1 ≤ variable l →
    IsOnce entries → truth ≡ truth_in entries l →
    (truth == 1) ≡ is_among (falses entries) (negation l)
truth_one entries l truth some once is =
    by (is_among (falses entries) l) (is_among (falses entries) (negation l)) refl refl is
  where
    by : (out true_now : Bool) → is_among (falses entries) l ≡ out →
        is_among (falses entries) (negation l) ≡ true_now → truth ≡ truth_by out true_now →
        (truth == 1) ≡ true_now
    by true true eo et e = absurd (not_both entries l some once eo et)
    by true false eo et e = rw e refl
    by false true eo et e = rw e refl
    by false false eo et e = rw e refl

-- at the start each literal is open
pub none_told : (vars : ℕ) → AreTold vars [] (replicate (vars * 2 + 1) 0)
none_told vars l within =
    get_or-replicate {A = ℕ} (vars * 2 + 1) (place_of vars l) 0 0
    (let below = place_within vars l within in omega arith)

-- the table after a change of a literal and its negation
module _ (vars : ℕ) (truths : List ℕ) (wide : length truths ≡ suc (vars * 2)) (a : Lit) (x y : ℕ)
    (within : IsWithin vars a) where
  negated : IsWithin vars (negation a)
  negated = rw (variable_negation a) within

  abbrev pub both : List ℕ
  both = set (set truths (place_of vars a) x) (place_of vars (negation a)) y

  wide' : length (set truths (place_of vars a) x) ≡ suc (vars * 2)
  wide' = length-set truths (place_of vars a) x ∙ wide

  both_own : slice_index_or both (place_of vars a) 0 ≡ x
  both_own =
      set_other vars (set truths (place_of vars a) x) wide' (negation a) a y negated within
      (not_own_negation a within.0) ∙ set_same vars truths wide a x within

  both_negation : slice_index_or both (place_of vars (negation a)) 0 ≡ y
  both_negation = set_same vars (set truths (place_of vars a) x) wide' (negation a) y negated

  both_other : (l : Lit) → IsWithin vars l → l ≢ a → l ≢ negation a →
      slice_index_or both (place_of vars l) 0 ≡ slice_index_or truths (place_of vars l) 0
  both_other l l_within na nn =
      set_other vars (set truths (place_of vars a) x) wide' (negation a) l y negated l_within
      nn ∙ set_other vars truths wide a l x within l_within na

module _ (vars : ℕ) (older : List TrailEntry) (e : TrailEntry) (truths : List ℕ)
    (within : IsWithin vars e.lit) (free : IsOpen older e.lit)
    (wide : length truths ≡ suc (vars * 2)) where
  truth_other : (l : Lit) → l ≢ e.lit → l ≢ negation e.lit →
      truth_in (e ∷ older) l ≡ truth_in older l
  truth_other l na nn =
      let out = among_other (falses older) (negation e.lit) l (λ same. nn (sym same)) in
      let is = among_other (falses older) (negation e.lit) (negation l)
      (λ same. na (sym (negation-negation l) ∙ (ap negation (sym same) ∙ negation-negation e.lit)))
      in
      λ k. truth_by (out k) (is k)

  truth_own : truth_in (e ∷ older) e.lit ≡ 1
  truth_own =
      let out : is_among (negation e.lit ∷ falses older) e.lit ≡ false =
      among_other (falses older) (negation e.lit) e.lit
      (λ same. not_own_negation e.lit within.0 (sym same)) ∙ open_not_false older e.lit free in
      let is : is_among (negation e.lit ∷ falses older) (negation e.lit) ≡ true =
      among_here (falses older) (negation e.lit) in
      λ k. truth_by (out k) (is k)

  truth_negation : truth_in (e ∷ older) (negation e.lit) ≡ 2
  truth_negation =
      ap (λ b. truth_by b (is_among (falses (e ∷ older)) (negation (negation e.lit))))
      (among_here (falses older) (negation e.lit))

  open_truth : (l : Lit) → IsOpen older l → truth_in older l ≡ 0
  open_truth l l_free =
      let out = open_not_false older l l_free in let is = open_not_true older l l_free in
      λ k. truth_by (out k) (is k)

  push_told : AreTold vars older truths →
      AreTold vars (e ∷ older) (both vars truths wide e.lit 1 2 within)
  push_told told l l_within = elim (lit_tells l e.lit) [
    | inl same ↦ subst (λ (m : Lit). slice_index_or (both vars truths wide e.lit 1 2 within)
        (place_of vars m) 0 ≡ truth_in (e ∷ older) m) (sym same.1)
        (both_own vars truths wide e.lit 1 2 within ∙ sym truth_own)
    | inr na ↦ elim (lit_tells l (negation e.lit)) [
      | inl same ↦ subst (λ (m : Lit). slice_index_or (both vars truths wide e.lit 1 2 within)
          (place_of vars m) 0 ≡ truth_in (e ∷ older) m) (sym same.1)
          (both_negation vars truths wide e.lit 1 2 within ∙ sym truth_negation)
      | inr nn ↦ both_other vars truths wide e.lit 1 2 within l l_within na.1
          nn.1 ∙ (told l l_within ∙ sym (truth_other l na.1 nn.1))
    ]
  ]

  pop_told : AreTold vars (e ∷ older) truths →
      AreTold vars older (both vars truths wide e.lit 0 0 within)
  pop_told told l l_within = elim (lit_tells l e.lit) [
    | inl same ↦ subst (λ (m : Lit). slice_index_or (both vars truths wide e.lit 0 0 within)
        (place_of vars m) 0 ≡ truth_in older m) (sym same.1)
        (both_own vars truths wide e.lit 0 0 within ∙ sym (open_truth e.lit free))
    | inr na ↦ elim (lit_tells l (negation e.lit)) [
      | inl same ↦ subst (λ (m : Lit). slice_index_or (both vars truths wide e.lit 0 0 within)
          (place_of vars m) 0 ≡ truth_in older m) (sym same.1)
          (both_negation vars truths wide e.lit 0 0 within ∙ sym
          (open_truth (negation e.lit) (open_negation older e.lit free)))
      | inr nn ↦ both_other vars truths wide e.lit 0 0 within l l_within na.1
          nn.1 ∙ (told l l_within ∙ truth_other l na.1 nn.1)
    ]
  ]

  push_places : (places : List ℕ) → length places ≡ vars → ArePlacesOf vars older places →
      ArePlacesOf vars (e ∷ older) (set places (variable e.lit - 1) (length older))
  push_places places many are l l_within n is = by (variable e.lit == variable l) refl is
    where
      by : (b : Bool) → (variable e.lit == variable l) ≡ b →
          (if b then Some (length older) else place_in older l) ≡ Some n →
          slice_index_or (set places (variable e.lit - 1) (length older)) (variable l - 1) 0 ≡ n
      by true same at =
          let one = eqb-true (variable e.lit) (variable l) same in
          let place : length older ≡ n = cc in
          subst (λ (v : ℕ). slice_index_or (set places (variable e.lit - 1) (length older))
          (v - 1) 0 ≡ n) one
          (get_or-set_same places (variable e.lit - 1) (length older) 0
          (omega (arith, within.0, within.1, many)) ∙ place)
      by false other at =
          let ne = eqb-false (variable e.lit) (variable l) other in
          get_or-set_other places (variable e.lit - 1) (variable l - 1) (length older) 0
          (λ same. ne (omega (arith, same, within.0, l_within.0))) ∙ are l l_within n at

  pop_places : (places : List ℕ) → ArePlacesOf vars (e ∷ older) places →
      ArePlacesOf vars older places
  pop_places places are l l_within n is = are l l_within n (by (variable e.lit == variable l) refl)
    where
      by : (b : Bool) → (variable e.lit == variable l) ≡ b →
          (if b then Some (length older) else place_in older l) ≡ Some n
      by true same = absurd (none_placed older e.lit l n free
          (sym (eqb-true (variable e.lit) (variable l) same)) is)
      by false other = is

module _ (vars : ℕ) (entries next : Vec TrailEntry Global) (truths places : Vec ℕ Global)
    (e : TrailEntry) (store : IsTrailStore vars entries truths places) where
  wide_is : length truths.items ≡ suc (vars * 2)
  wide_is = omega (arith, store.wide, truths.ok.0)

  many_is : length places.items ≡ vars
  many_is = omega (arith, store.many, places.ok.0)

  -- with one more entry there are no more than variables, so there is room for it
  pub has_room : IsWithin vars e.lit → IsOpen (reverse entries.items) e.lit →
      vec_len entries < vec_capacity entries
  has_room within free =
      let longer = longer_trail (trail_state vars entries)
      (record { vars = vars; entries = e ∷ reverse entries.items }) e refl refl within free
      store.trail in
      let few = longer.few in
      omega (arith, few, length-reverse entries.items, entries.ok.0, store.room)

  -- the table of truths with other ones for the literal and its negation
  abbrev told_as : ℕ → ℕ → List ℕ
  told_as x y = set (set truths.items (place_of vars e.lit) x) (place_of vars (negation e.lit)) y

  told_items : (x y : ℕ) (told : List ℕ) → told ≡ told_as x y →
      (with_items truths told).items ≡ told_as x y
  told_items x y told is =
      let inner = set truths.items (place_of vars e.lit) x in
      let long = length-set inner (place_of vars (negation e.lit)) y ∙
      (length-set truths.items (place_of vars e.lit) x ∙ sym truths.ok.0) in
      with_items_is truths told (ap length is ∙ long) ∙ is

  -- one more entry
  pub push_store : IsWithin vars e.lit → IsOpen (reverse entries.items) e.lit →
      (told : List ℕ) → told ≡ told_as 1 2 →
      next.items ≡ entries.items ++ e ∷ [] → vec_capacity next ≡ vec_capacity entries →
      IsTrailStore vars next (with_items truths told)
      (with_item places (variable e.lit - 1) (length (reverse entries.items)))
  push_store within free told told_is items capacity =
      let turned : reverse next.items ≡ e ∷ reverse entries.items =
      ap reverse items ∙ reverse-push entries.items e in
      record {
        trail =
            longer_trail (trail_state vars entries) (trail_state vars next) e refl turned within
            free
            store.trail;
        within =
            rw items (All-push (λ (x : TrailEntry). IsWithin vars x.lit) entries.items e
            store.within within);
        room = omega (arith, capacity, store.room);
        wide = store.wide;
        many = store.many;
        told =
            subst (λ (p : List TrailEntry × List ℕ). AreTold vars p.0 p.1)
            (λ x. (sym turned x, sym (told_items 1 2 told told_is) x))
            (push_told vars (reverse entries.items) e truths.items within free wide_is
            store.told);
        placed =
            rw turned (push_places vars (reverse entries.items) e truths.items within free wide_is
            places.items many_is store.placed);
      }

  -- one less
  pub pop_store : (told : List ℕ) → told ≡ told_as 0 0 → entries.items ≡ next.items ++ e ∷ [] →
      vec_capacity next ≡ vec_capacity entries →
      IsTrailStore vars next (with_items truths told) places
  pop_store told told_is items capacity =
      let turned : reverse entries.items ≡ e ∷ reverse next.items =
      ap reverse items ∙ reverse-push next.items e in
      let before : IsTrail (record { vars = vars; entries = e ∷ reverse next.items }) =
      subst (λ l. IsTrail (record { vars = vars; entries = l })) turned store.trail in
      let within = before.within 0 e (omega arith) in
      let once = before.once in
      let few = before.few in
      record {
        trail = record {
          few_vars = before.few_vars;
          within =
              All-tail (λ (x : TrailEntry). IsWithin vars x.lit) e (reverse next.items)
              before.within;
          once = once.1;
          few = omega (arith, few);
        };
        within =
            (All-pop (λ (x : TrailEntry). IsWithin vars x.lit) (next.items ++ e ∷ []) next.items
            (Some e) refl (subst (AreWithin vars) items store.within)).0;
        room = omega (arith, capacity, store.room);
        wide = store.wide;
        many = store.many;
        told =
            subst (AreTold vars (reverse next.items)) (sym (told_items 0 0 told told_is))
            (pop_told vars (reverse next.items) e truths.items within once.0 wide_is
            (subst (λ t. AreTold vars t truths.items) turned store.told));
        placed =
            pop_places vars (reverse next.items) e truths.items within once.0 wide_is places.items
            (subst (λ t. ArePlacesOf vars t places.items) turned store.placed);
      }
