-- Levels that stand, and why the clauses of the level below follow.
use Rattle.std.proofs.Common.{◌≡◌, ◌≢◌, ℕ, suc, ◌+◌, ◌*◌, ◌<◌, ◌≤◌, pos, Option, None, Some, List, [], ◌∷◌, All, get_or, refl, sym, subst, ap, inr, ◌∙◌, add-one, arith}
use Rattle.std.specs.Prelude.{IsSome}
use Rattle.std.proofs.Math.Nat.{mul-le-mul_right}
use Rattle.std.proofs.lemmas.Bool.{false≢true}
use Rattle.std.proofs.lemmas.List.Elements.{All-cons, All-nil}
use Rattle.sat_clause.specs.declared.cause.Cause.{Cause}
use Rattle.sat_clause.specs.declared.literal.Lit.{Lit}
use Rattle.sat_clause.specs.Literal.{Clause, IsWithin}
use Rattle.sat_clause.specs.Live.{named}
use Rattle.sat_clause.proofs.LiteralLaws.{among_here, among_more}
use Rattle.sat_clause.proofs.ReadingLaws.{HasOneOpen, IsFalseOr}
use Rattle.sat_rat.specs.FullRup.{full_rup, resolution_fault}
use Rattle.sat_rat.specs.Groups.{groups_of}
use Rattle.sat_count.specs.Descending.{AreFirsts, AreHelped, IsGround, IsReadyFor, apart_hints_of, apart_of, given_at, help_at, helped, helped_hints_of, kept_at, meaning_at, moved_at, pair_clause, some_hints_of, some_of}
use Rattle.sat_count.specs.Levels.{Stands}
use Rattle.sat_count.specs.Names.{no, yes}
use Rattle.sat_count.specs.Places.{apart_id, name, not_both, pair_place, some_clause, some_id}
use Rattle.sat_count.specs.Refuting.{AreLive, Erases, Grows, Holds, IsMeaning, RefutationState, live_of}
use Rattle.sat_count.specs.Rows.{AddsPairs, DefinesRows}
use Rattle.sat_count.specs.declared.descent.PairKind.{PairKind}
use Rattle.sat_count.specs.declared.descent.PairKind.TheVariants.{Apart, Helped}
use Rattle.sat_count.specs.declared.ground.Ground.{Ground}
use Rattle.sat_count.proofs.GrowLemmas.{live-grows, meaning-grows, more-rows}
use Rattle.sat_count.proofs.HintLemmas.{false-two, lead-conflict, lead-unit, over-no, past-no}
use Rattle.sat_count.proofs.RowLemmas.{row-all, some-follows}
use Rattle.sat_count.proofs.StepLemmas.{apart-follows, help-follows}
use Rattle.sat_count.proofs.VariableLemmas.{within-no, within-three, within-two, within-yes}

-- ---- what stands goes on to stand

pub level-grows : (a b : RefutationState) (tracks behind : ℕ) (firsts : List ℕ) → Grows a b
    → Stands a tracks behind firsts → Stands b tracks behind firsts
level-grows a b tracks behind firsts grows level = record {
  some = λ place low. grows.kept (some_id behind place)
      (some_clause (get_or firsts place 0) tracks) (level.some place low);
  apart = λ lower higher track order low inside.
      grows.kept (apart_id behind tracks lower higher track)
      (not_both (name firsts lower track) (name firsts higher track))
      (level.apart lower higher track order low inside);
  differ = level.differ;
  low = λ place low. let was = level.low place low in omega (arith, was, grows.variables);
  behind_last = omega (arith, level.behind_last, grows.ids);
  live = live-grows a b behind grows level.live;
}

pub ground-grows : (a b : RefutationState) (g : Ground) → Grows a b → IsGround a g → IsGround b g
ground-grows a b g grows ground = record {
  level = level-grows a b g.above.now.tracks g.above.now.behind g.above.now.firsts.items grows
      ground.level;
  meaning = λ place track low inside. meaning-grows a b (meaning_at g place track)
      (name g.firsts.now place track) (kept_at g.above.now place track)
      (moved_at g.above.now g.tracks place track) (given_at g.above.now g.tracks place track)
      grows (ground.meaning place track low inside);
  fresh = ground.fresh;
  low = λ place low. let was = ground.low place low in omega (arith, was, grows.variables);
}

pub ready-grows : (a b : RefutationState) (kind : PairKind) (g : Ground) → Grows a b
    → IsReadyFor kind a g → IsReadyFor kind b g
ready-grows a b Helped g grows ready = tt
ready-grows a b Apart g grows ready = record {
  helps = λ lower higher track order low inside. grows.kept (help_at g lower higher track)
      (helped g lower higher track) (ready.helps lower higher track order low inside);
}

-- ---- the clauses of the level below

module _ (r : RefutationState) (g : Ground) (ground : IsGround r g)
    (fewer : g.tracks + 1 ≡ g.above.now.tracks) where
  abbrev m : ℕ
  m = g.tracks

  abbrev old : (place track : ℕ) → ℕ
  old place track = name g.above.now.firsts.items place track

  abbrev new : (place track : ℕ) → ℕ
  new place track = name g.firsts.now place track

  fresh-name : (place t o u : ℕ) → place ≤ m → o ≤ m + 1 → u ≤ m → new place t ≢ old o u
  fresh-name place t o u low under few =
      let above = ground.fresh place o low under in omega (arith, above, few)

  old-differ : (lower higher t u : ℕ) → lower < higher → higher ≤ m + 1 → t ≤ m → u ≤ m
      → old lower t ≢ old higher u
  old-differ lower higher t u order low t_few u_few =
      ground.level.differ lower higher t u order (omega (arith, low, fewer))
      (omega (arith, t_few, fewer)) (omega (arith, u_few, fewer))

  old-apart : (lower higher track : ℕ) → lower < higher → higher ≤ m + 1 → track ≤ m
      → Holds r (apart_id g.above.now.behind g.above.now.tracks lower higher track)
      (not_both (old lower track) (old higher track))
  old-apart lower higher track order low few =
      ground.level.apart lower higher track order (omega (arith, low, fewer))
      (omega (arith, few, fewer))

  flip : (a b : ℕ) → a ≢ b → b ≢ a
  flip a b other e = other (sym e)

  module _ (lower higher track : ℕ) (order : lower < higher) (low : higher ≤ m)
      (inside : track < m) where
    pub helped-follows : full_rup (live_of r) (helped g lower higher track)
        (helped_hints_of g lower higher track) ≡ None
    helped-follows = help-follows (live_of r)
        (apart_id g.above.now.behind g.above.now.tracks lower higher track)
        (apart_id g.above.now.behind g.above.now.tracks lower (m + 1) track)
        (meaning_at g higher track + 4)
        (new lower track) (new higher track) (old lower track) (old higher track)
        (old (m + 1) track)
        (old-apart lower higher track order (omega (arith, low)) (omega (arith, inside))).there
        (old-apart lower (m + 1) track (omega (arith, order, low)) (omega arith)
        (omega (arith, inside))).there
        (ground.meaning higher track low inside).or_given.there
        (fresh-name lower track higher track (omega (arith, order, low)) (omega (arith, low))
        (omega (arith, inside)))
        (fresh-name higher track higher track low (omega (arith, low)) (omega (arith, inside)))
        (old-differ lower higher track track order (omega (arith, low)) (omega (arith, inside))
        (omega (arith, inside)))
        (fresh-name lower track (m + 1) track (omega (arith, order, low)) (omega arith)
        (omega (arith, inside)))
        (fresh-name higher track (m + 1) track low (omega arith) (omega (arith, inside)))
        (old-differ lower (m + 1) track track (omega (arith, order, low)) (omega arith)
        (omega (arith, inside)) (omega (arith, inside)))
        (old-differ higher (m + 1) track track (omega (arith, low)) (omega arith)
        (omega (arith, inside)) (omega (arith, inside)))

    old-low : (place t : ℕ) → place ≤ m + 1 → t ≤ m → old place t < r.last_variable
    old-low place t under few =
        let was = ground.level.low place (omega (arith, under, fewer)) in
        omega (arith, was, few, fewer)

    new-low : (place : ℕ) → place ≤ m → new place track < r.last_variable
    new-low place under = let was = ground.low place under in omega (arith, was, inside)

    pub helped-within : All (IsWithin r.last_variable) (helped g lower higher track)
    helped-within = within-three r.last_variable (no (new lower track)) (no (new higher track))
        (no (old lower track))
        (within-no r.last_variable (new lower track) (new-low lower (omega (arith, order, low))))
        (within-no r.last_variable (new higher track) (new-low higher low))
        (within-no r.last_variable (old lower track)
        (old-low lower track (omega (arith, order, low)) (omega (arith, inside))))

    pub apart-within : All (IsWithin r.last_variable) (apart_of g lower higher track)
    apart-within = within-two r.last_variable (no (new lower track)) (no (new higher track))
        (within-no r.last_variable (new lower track) (new-low lower (omega (arith, order, low))))
        (within-no r.last_variable (new higher track) (new-low higher low))

    pub apart-holds : AreHelped r g → full_rup (live_of r) (apart_of g lower higher track)
        (apart_hints_of g lower higher track) ≡ None
    apart-holds help =
        let lower_low : lower ≤ m = omega (arith, order, low) in
        let lower_under : lower < m + 1 = omega (arith, order, low) in
        let higher_under : higher < m + 1 = omega (arith, low) in
        let lower_old : lower ≤ m + 1 = omega (arith, order, low) in
        let higher_old : higher ≤ m + 1 = omega (arith, low) in
        let last_old : m + 1 ≤ m + 1 = omega arith in
        let few : track ≤ m = omega (arith, inside) in
        let all : m ≤ m = omega arith in
        let v : ℕ = new lower track in
        let w : ℕ = new higher track in
        let x : ℕ = old lower track in
        let y : ℕ = old higher track in
        let b : ℕ = old (m + 1) track in
        let p : ℕ = old lower m in
        let q : ℕ = old higher m in
        apart-follows (live_of r) (help_at g lower higher track) (meaning_at g lower track + 3)
        (meaning_at g lower track + 4)
        (apart_id g.above.now.behind g.above.now.tracks higher (m + 1) track)
        (meaning_at g higher track + 3)
        (apart_id g.above.now.behind g.above.now.tracks lower higher m) v w x y b p q
        (help.helps lower higher track order low inside).there
        (ground.meaning lower track lower_low inside).or_moved.there
        (ground.meaning lower track lower_low inside).or_given.there
        (old-apart higher (m + 1) track higher_under last_old few).there
        (ground.meaning higher track low inside).or_moved.there
        (old-apart lower higher m order higher_old all).there
        (fresh-name lower track lower track lower_low lower_old few)
        (fresh-name higher track lower track low lower_old few)
        (omega (arith, inside))
        (fresh-name lower track lower m lower_low lower_old all)
        (fresh-name higher track lower m low lower_old all)
        (old-differ lower (m + 1) track track lower_under last_old few few)
        (old-differ lower (m + 1) m track lower_under last_old all few)
        (fresh-name lower track (m + 1) track lower_low last_old few)
        (fresh-name higher track (m + 1) track low last_old few)
        (flip y b (old-differ higher (m + 1) track track higher_under last_old few few))
        (old-differ lower higher m track order higher_old all few)
        (fresh-name lower track higher track lower_low higher_old few)
        (fresh-name higher track higher track low higher_old few)
        (old-differ lower higher track track order higher_old few few)
        (omega (arith, inside))
        (old-differ lower higher track m order higher_old few all)
        (flip q b (old-differ higher (m + 1) m track higher_under last_old all few))
        (old-differ lower higher m m order higher_old all all)
        (fresh-name lower track higher m lower_low higher_old all)
        (fresh-name higher track higher m low higher_old all)

  pub some-within : (place : ℕ) → place ≤ m → All (IsWithin r.last_variable) (some_of g place)
  some-within place low =
      let last = ground.low place low in
      row-all (λ (l : Lit). IsWithin r.last_variable l) (get_or g.firsts.now place 0) m
      (λ k from under. within-yes r.last_variable k (omega (arith, under, last)))

  pub some-holds : (place : ℕ) → place ≤ m
      → full_rup (live_of r) (some_of g place) (some_hints_of g place) ≡ None
  some-holds place low =
      let more : g.above.now.tracks ≡ suc m = sym fewer ∙ add-one m in
      some-follows (live_of r) m (get_or g.firsts.now place 0)
      (get_or g.above.now.firsts.items place 0) (get_or g.above.now.firsts.items (m + 1) 0)
      (λ k. meaning_at g place k + 1) (λ k. meaning_at g place k + 2)
      (some_id g.above.now.behind place)
      (apart_id g.above.now.behind g.above.now.tracks place (m + 1) m)
      (some_id g.above.now.behind (m + 1))
      (λ k inside. (ground.meaning place k low inside).by_kept.there)
      (subst (λ (n : ℕ). Holds r (some_id g.above.now.behind place)
      (some_clause (get_or g.above.now.firsts.items place 0) n)) more
      (ground.level.some place (omega (arith, low, fewer)))).there
      (λ k inside. (ground.meaning place k low inside).by_moved.there)
      (old-apart place (m + 1) m (omega (arith, low)) (omega arith) (omega arith)).there
      (subst (λ (n : ℕ). Holds r (some_id g.above.now.behind (m + 1))
      (some_clause (get_or g.above.now.firsts.items (m + 1) 0) n)) more
      (ground.level.some (m + 1) (omega (arith, fewer)))).there
      (ground.fresh place place low (omega (arith, low)))
      (ground.fresh place (m + 1) low (omega arith))
      (λ t u t_few u_few. old-differ place (m + 1) t u (omega (arith, low)) (omega arith) t_few
      u_few)

-- ---- one track

pub ends : (r : RefutationState) (behind : ℕ) (firsts : List ℕ) → Stands r 1 behind firsts
    → full_rup (live_of r) [] (pos (some_id behind 0) ∷ pos (some_id behind 1)
    ∷ pos (apart_id behind 1 0 1 0) ∷ []) ≡ None
ends r behind firsts level =
    let a : ℕ = get_or firsts 0 0 in
    let b : ℕ = get_or firsts 1 0 in
    let end : List Lit → Option Cause = resolution_fault (live_of r) []
    (groups_of (pos (some_id behind 0) ∷ pos (some_id behind 1)
    ∷ pos (apart_id behind 1 0 1 0) ∷ [])) in
    let first : HasOneOpen [] (yes a) (yes a ∷ []) = record {
      has = (0, omega arith, refl);
      free = refl;
      rest = All-cons (IsFalseOr [] (yes a)) (yes a) [] (inr refl) (All-nil (IsFalseOr [] (yes a)));
    } in
    let set : List Lit = no a ∷ [] in
    let second : HasOneOpen set (yes b) (yes b ∷ []) = record {
      has = (0, omega arith, refl);
      free = over-no [] a b refl;
      rest = All-cons (IsFalseOr set (yes b)) (yes b) [] (inr refl)
          (All-nil (IsFalseOr set (yes b)));
    } in
    let a_zero : a + 0 ≡ a = omega arith in
    let b_zero : b + 0 ≡ b = omega arith in
    let id : ℕ = apart_id behind 1 0 1 0 in
    let apart : named (live_of r) (pos id) ≡ Some (no a ∷ no b ∷ []) =
    subst (λ (n : ℕ). named (live_of r) (pos id) ≡ Some (no n ∷ no b ∷ [])) a_zero
    (subst (λ (n : ℕ). named (live_of r) (pos id) ≡ Some (no (a + 0) ∷ no n ∷ [])) b_zero
    (level.apart 0 1 0 (omega arith) (omega arith) (omega arith)).there) in
    lead-unit (live_of r) [] (some_id behind 0) (pos (some_id behind 1) ∷ pos id ∷ []) end
    (yes a ∷ []) (yes a) (level.some 0 (omega arith)).there first refl
    ∙ lead-unit (live_of r) set (some_id behind 1) (pos id ∷ []) end (yes b ∷ []) (yes b)
    (level.some 1 (omega arith)).there second
    (past-no [] a b (old-names (level.differ 0 1 0 0 (omega arith) (omega arith) (omega arith)
    (omega arith))) refl)
    ∙ lead-conflict (live_of r) (no b ∷ set) id end (no a ∷ no b ∷ []) apart
    (false-two (no b ∷ set) (no a) (no b) (among_more set (no b) (no a) (among_here [] (no a)))
    (among_here set (no b)))
  where
    old-names : name firsts 0 0 ≢ name firsts 1 0 → get_or firsts 0 0 ≢ get_or firsts 1 0
    old-names other e = other (ap (λ (n : ℕ). n + 0) e)

-- ---- the way down

pub live-erased : (old new : RefutationState) (last : ℕ) → Erases old new last → (id : ℕ)
    → last < id → IsSome (named (live_of old) (pos id)) → IsSome (named (live_of new) (pos id))
live-erased old new last erases id past some = go (named (live_of old) (pos id)) refl some
  where
    go : (o : Option Clause) → named (live_of old) (pos id) ≡ o → IsSome o
        → IsSome (named (live_of new) (pos id))
    go None e h = absurd (false≢true h)
    go (Some c) e h = subst IsSome (sym (erases.kept id c past (record { there = e })).there) refl

module _ (r0 r1 : RefutationState) (g : Ground) (fewer : g.tracks + 1 ≡ g.above.now.tracks)
    (above : Stands r0 g.above.now.tracks g.above.now.behind g.above.now.firsts.items)
    (meanings_is : g.meanings ≡ r0.last_id)
    (firsts : AreFirsts r0.last_variable g.tracks g.firsts.now)
    (defined : DefinesRows r0 r1 (g.tracks + 1) g.tracks (kept_at g.above.now)
    (moved_at g.above.now g.tracks) (given_at g.above.now g.tracks))
  where
    first-at : (place : ℕ) → place ≤ g.tracks
        → get_or g.firsts.now place 0 ≡ r0.last_variable + place * g.tracks
    first-at place low = firsts place (omega (arith, low))

    pub ground-stands : IsGround r1 g
    ground-stands = record {
      level = level-grows r0 r1 g.above.now.tracks g.above.now.behind g.above.now.firsts.items
          defined.grows above;
      meaning = λ place track low inside.
          let kept : ℕ = kept_at g.above.now place track in
          let moved : ℕ = moved_at g.above.now g.tracks place track in
          let given : ℕ = given_at g.above.now g.tracks place track in
          let at : r0.last_id + 4 * (place * g.tracks + track) ≡ meaning_at g place track =
          omega (arith, meanings_is) in
          let named_as : r0.last_variable + (place * g.tracks + track)
          ≡ name g.firsts.now place track = omega (arith, first-at place low) in
          subst (λ (n : ℕ). IsMeaning r1 n (name g.firsts.now place track) kept moved given) at
          (subst (λ (n : ℕ). IsMeaning r1 (r0.last_id + 4 * (place * g.tracks + track)) n kept
          moved given) named_as
          (defined.meaning place track (omega (arith, low)) inside));
      fresh = λ place old low under.
          let was = above.low old (omega (arith, under, fewer)) in
          let now = first-at place low in omega (arith, was, now, fewer);
      low = λ place low.
          let now = first-at place low in
          let rows : place * g.tracks ≤ g.tracks * g.tracks = mul-le-mul_right g.tracks low in
          let more : (g.tracks + 1) * g.tracks ≡ g.tracks * g.tracks + g.tracks =
          more-rows g.tracks g.tracks in
          omega (arith, now, rows, more, defined.variables);
    }

pub erase-live : (r : RefutationState) (behind mid : ℕ) → AreLive r behind r.last_id
    → mid ≤ r.last_id → AreLive r behind mid
erase-live r behind mid live low = record {
  each = λ id past last. live.each id past (omega (arith, last, low));
}

-- the clauses that help stand behind them
pub helped-stand : (a b c : RefutationState) (g : Ground) → g.helps ≡ a.last_id
    → AddsPairs a b (g.tracks + 1) g.tracks (pair_clause Helped g) → Grows b c → AreHelped c g
helped-stand a b c g is help grows = record {
  helps = λ lower higher track order low inside. grows.kept (help_at g lower higher track)
      (helped g lower higher track)
      (subst (λ (n : ℕ). Holds b (n + pair_place g.tracks lower higher track + 1)
      (helped g lower higher track)) (sym is)
      (help.holds lower higher track order (omega (arith, low)) inside));
}
