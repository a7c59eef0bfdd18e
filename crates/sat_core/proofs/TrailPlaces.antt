-- The places of a trail: which entries stand there, at which levels, and with which reasons.
use Rattle.std.proofs.Common.{inl, inr, ◌⊎◌, ◌≡◌, ◌≢◌, ◌<◌, ◌≤◌, ℕ, zero, suc, true, false, List, [], ◌∷◌, ◌++◌, length, reverse, Option, None, Some, get_or, pos, slice_get, Contains, refl, sym, ap, ◌∙◌, subst, arith}
use Rattle.std.proofs.lemmas.Bool.{eq-eqb, ne_eqb}
use Rattle.std.proofs.lemmas.Bool.Decides.{eqb_tells}
use Rattle.std.proofs.lemmas.List.{length-reverse, reverse-append, reverse-reverse}
use Rattle.std.proofs.lemmas.List.Elements.{All-contains}
use Rattle.std.proofs.lemmas.Option.{slice_get_read, slice_get_within}
use Rattle.list_laws.proofs.Places.{get-cases, get-front, get-last, some_is}
use Rattle.sat_clause.specs.declared.literal.Lit.{Lit}
use Rattle.sat_clause.specs.Literal.{IsWithin, lit, negation, variable}
use Rattle.sat_clause.proofs.LiteralLaws.{among_cases, among_here, among_more, variable_negation}
use Rattle.sat_arena.specs.declared.clause_ref.ClauseRef.{ClauseRef}
use Rattle.sat_watch.specs.declared.entry.TrailEntry.{TrailEntry}
use Rattle.sat_watch.specs.Trail.{AreWithin, IsOnce, falses, place_in, value_in}
use Rattle.sat_watch.specs.Watched.{is_false}
use Rattle.sat_watch.specs.Watches.{Attached, HasCause, HasLevels, WatchState, is_attached, lits_at}
use Rattle.sat_watch.proofs.LevelLemmas.{not_both}
use Rattle.sat_watch.proofs.PlaceLemmas.{place_entry, placed}
use Rattle.sat_watch.proofs.TrailLemmas.{false_is_other}
use Rattle.sat_core.specs.Analysis.{HasLevel, HasReason, IsAt, IsReasonPlace, reason_lits}
use Rattle.sat_core.proofs.WatchLaws.{lit_cases}

-- ENTRIES

pub at_within : (trail : List TrailEntry) (p : ℕ) (e : TrailEntry) → IsAt trail p e →
    p < length trail
at_within trail p e at =
    let lt = slice_get_within (reverse trail) p e at in omega (arith, lt, length-reverse trail)

pub at_one : (trail : List TrailEntry) (p : ℕ) (e f : TrailEntry) → IsAt trail p e →
    IsAt trail p f → e ≡ f
at_one trail p e f at at' = some_is (sym at ∙ at')

turned : (e : TrailEntry) (older : List TrailEntry) → reverse (e ∷ older) ≡ reverse older ++ e ∷ []
turned e older = reverse-append (e ∷ []) older

pub at_newest : (e : TrailEntry) (older : List TrailEntry) → IsAt (e ∷ older) (length older) e
at_newest e older =
    ap (λ (xs : List TrailEntry). slice_get xs (length older)) (turned e older)
    ∙ get-last (reverse older) e (length older) (sym (length-reverse older))

pub at_older : (e : TrailEntry) (older : List TrailEntry) (p : ℕ) (x : TrailEntry) →
    IsAt older p x → IsAt (e ∷ older) p x
at_older e older p x at =
    let lt = slice_get_within (reverse older) p x at in
    ap (λ (xs : List TrailEntry). slice_get xs p) (turned e older)
    ∙ get-front (reverse older) e p (omega (arith, lt)) ∙ at

-- the newest entry, or one of the older ones
pub at_cases : (e : TrailEntry) (older : List TrailEntry) (p : ℕ) (x : TrailEntry) →
    IsAt (e ∷ older) p x → ((p ≡ length older) × (e ≡ x)) ⊎ IsAt older p x
at_cases e older p x at =
    elim (get-cases (reverse older) e x p (ap (λ (xs : List TrailEntry). slice_get xs p)
    (sym (turned e older)) ∙ at)) [
      | inl last ↦ inl (last.0 ∙ length-reverse older, last.1)
      | inr earlier ↦ inr earlier
    ]

pub at_there : (trail : List TrailEntry) (p : ℕ) → p < length trail →
    (e : TrailEntry) × IsAt trail p e
at_there [] p lt = absurd (omega (arith, lt))
at_there (e ∷ older) p lt = elim (eqb_tells p (length older)) [
  | inl last ↦ (e, subst (λ (n : ℕ). IsAt (e ∷ older) n e) (sym last.1) (at_newest e older))
  | inr other ↦
      let rest = at_there older p (omega (arith, lt, other.1)) in
      (rest.0, at_older e older p rest.0 rest.1)
]

pub at_contains : (trail : List TrailEntry) (p : ℕ) (e : TrailEntry) → IsAt trail p e →
    Contains trail e
at_contains [] p e at = absurd (omega (arith, at_within [] p e at))
at_contains (x ∷ older) p e at = elim (at_cases x older p e at) [
  | inl last ↦ (zero, omega arith, last.1)
  | inr later ↦ (let rest = at_contains older p e later in
      (suc rest.0, omega (arith, rest.1), rest.2))
]

-- the entry that is read at a place
abbrev pub no_entry : TrailEntry
no_entry = record { lit = lit (pos 0); level = 0; reason = None }

pub read_at : (items trail : List TrailEntry) (p : ℕ) (e : TrailEntry) → reverse items ≡ trail →
    p < length trail → e ≡ get_or items p e → IsAt trail p e
read_at items trail p e is lt read =
    let same : reverse trail ≡ items = ap reverse (sym is) ∙ reverse-reverse items in
    ap (λ (xs : List TrailEntry). slice_get xs p) same
    ∙ slice_get_read items (length items) p e refl
    (omega (arith, lt, length-reverse items, ap length is)) read

-- it has a reason where the entry at the place has one
pub has_some : (trail : List TrailEntry) (p : ℕ) (e : TrailEntry) → IsAt trail p e →
    HasReason trail p → e.reason ≢ None
has_some trail p e at (r, (f, there, some)) none =
    let one : f ≡ e = at_one trail p f e there at in
    let bad : Some r ≡ None = sym some ∙ ap (λ (x : TrailEntry). x.reason) one ∙ none in cc

-- LEVELS

pub level_one : (trail : List TrailEntry) (m n p : ℕ) → HasLevel trail m p → HasLevel trail n p →
    m ≡ n
level_one trail m n p (e, at, is) (f, at', is') =
    sym is ∙ ap (λ (x : TrailEntry). x.level) (at_one trail p e f at at') ∙ is'

-- no entry is above the current level
pub level_most : (ks : List Attached) (level : ℕ) (trail : List TrailEntry) (p : ℕ)
    (e : TrailEntry) → HasLevels ks level trail → IsAt trail p e → e.level ≤ level
level_most ks level [] p e levels at = absurd (omega (arith, at_within [] p e at))
level_most ks level (x ∷ older) p e levels at = elim (at_cases x older p e at) [
  | inl last ↦ (let here : x.level ≡ e.level = ap (λ (y : TrailEntry). y.level) last.1 in
      omega (arith, here, levels.0))
  | inr later ↦ by x.reason levels.1 (λ n rest. level_most ks n older p e rest later)
]
  where
    by : (r : Option ClauseRef) → HasCause ks level x.lit older r (λ n. HasLevels ks n older) →
        ((n : ℕ) → HasLevels ks n older → e.level ≤ n) → e.level ≤ level
    by None cause most = let low = most cause.0 cause.2 in omega (arith, low, cause.1)
    by (Some r) cause most = most level cause.2

-- nor is an older one above a newer one
pub level_rises : (ks : List Attached) (level : ℕ) (trail : List TrailEntry) (p q : ℕ)
    (e f : TrailEntry) → HasLevels ks level trail → p ≤ q → IsAt trail p e → IsAt trail q f →
    e.level ≤ f.level
level_rises ks level [] p q e f levels le at at' = absurd (omega (arith, at_within [] p e at))
level_rises ks level (x ∷ older) p q e f levels le at at' = elim (at_cases x older q f at') [
  | inl last ↦ (let most = level_most ks level (x ∷ older) p e levels at in
      let here : x.level ≡ f.level = ap (λ (y : TrailEntry). y.level) last.1 in
      omega (arith, most, here, levels.0))
  | inr later ↦ elim (at_cases x older p e at) [
    | inl first ↦ (let lt = at_within older q f later in absurd (omega (arith, le, lt, first.0)))
    | inr deeper ↦ by x.reason levels.1 (λ n rest. level_rises ks n older p q e f rest le deeper
        later)
  ]
]
  where
    by : (r : Option ClauseRef) → HasCause ks level x.lit older r (λ n. HasLevels ks n older) →
        ((n : ℕ) → HasLevels ks n older → e.level ≤ f.level) → e.level ≤ f.level
    by None cause most = most cause.0 cause.2
    by (Some r) cause most = most level cause.2

-- REASONS

-- what HasLevels says of one entry: it has a reason whose others are false by older entries, or it
-- is above all of them
abbrev pub IsCaused : List Attached → List TrailEntry → ℕ → TrailEntry → Option ClauseRef → Type 0
IsCaused ks trail p e None = (1 ≤ e.level) × ((q : ℕ) (f : TrailEntry) → q < p → IsAt trail q f →
    f.level < e.level)
IsCaused ks trail p e (Some r) = (is_attached ks r ≡ true) × Contains (lits_at ks r) e.lit
    × ((m : Lit) → Contains (lits_at ks r) m → m ≢ e.lit → (q : ℕ) × (q < p)
    × (place_in trail m ≡ Some q) × (is_false trail m ≡ true))

-- a false literal has a place
pub false_placed : (trail : List TrailEntry) (m : Lit) → is_false trail m ≡ true →
    (q : ℕ) × (place_in trail m ≡ Some q)
false_placed trail m is =
    placed trail m (λ none. (let some : value_in trail m ≡ Some false = rw is refl in
    let bad : None ≡ Some false = sym none ∙ some in cc))

-- which an entry more does not change
place_stays : (e : TrailEntry) (older : List TrailEntry) (m : Lit) → IsOnce (e ∷ older) →
    is_false older m ≡ true → place_in (e ∷ older) m ≡ place_in older m
place_stays e older m once is =
    let ne = false_is_other older e.lit m once.0 is in
    rw (ne_eqb (variable e.lit) (variable m) (λ same. ne (sym same))) refl

false_stays : (e : TrailEntry) (older : List TrailEntry) (m : Lit) → is_false older m ≡ true →
    is_false (e ∷ older) m ≡ true
false_stays e older m is = among_more (falses older) (negation e.lit) m is

pub caused_at : (ks : List Attached) (level : ℕ) (trail : List TrailEntry) (p : ℕ)
    (e : TrailEntry) → HasLevels ks level trail → IsOnce trail → IsAt trail p e →
    IsCaused ks trail p e e.reason
caused_at ks level [] p e levels once at = absurd (omega (arith, at_within [] p e at))
caused_at ks level (x ∷ older) p e levels once at = elim (at_cases x older p e at) [
  | inl last ↦
      subst (λ (y : TrailEntry). IsCaused ks (x ∷ older) p y y.reason) last.1
      (subst (λ (n : ℕ). IsCaused ks (x ∷ older) n x x.reason) (sym last.0)
      (newest x.reason levels.1))
  | inr later ↦ deeper (at_within older p e later) e.reason
      (elder x.reason levels.1 (λ n rest. caused_at ks n older p e rest once.1 later))
]
  where
    newest : (r : Option ClauseRef) →
        HasCause ks level x.lit older r (λ n. HasLevels ks n older) →
        IsCaused ks (x ∷ older) (length older) x r
    newest None cause = (
      omega (arith, levels.0, cause.1),
      λ q f lt at'. elim (at_cases x older q f at') [
        | inl last ↦ absurd (omega (arith, lt, last.0))
        | inr before ↦ (let most = level_most ks cause.0 older q f cause.2 before in
            omega (arith, most, levels.0, cause.1))
      ],
    )
    newest (Some r) cause = (
      cause.0,
      cause.1.has,
      λ m has other.
          let is = cause.1.others m has other in
          let q = false_placed older m is in
          let f = place_entry older m q.0 q.1 in (
            q.0,
            at_within older q.0 f.0 f.1,
            place_stays x older m once is ∙ q.1,
            false_stays x older m is,
          ),
    )

    elder : {Y : Type 0} (r : Option ClauseRef) →
        HasCause ks level x.lit older r (λ n. HasLevels ks n older) →
        ((n : ℕ) → HasLevels ks n older → Y) → Y
    elder None cause rest = rest cause.0 cause.2
    elder (Some r) cause rest = rest level cause.2

    deeper : p < length older → (r : Option ClauseRef) → IsCaused ks older p e r →
        IsCaused ks (x ∷ older) p e r
    deeper lt None cause = (
      cause.0,
      λ q f below at'. elim (at_cases x older q f at') [
        | inl last ↦ absurd (omega (arith, lt, below, last.0))
        | inr before ↦ cause.1 q f below before
      ],
    )
    deeper lt (Some r) cause = (
      cause.0,
      cause.1,
      λ m has other.
          let q = cause.2 m has other in
          (q.0, q.1, place_stays x older m once q.3 ∙ q.2, false_stays x older m q.3),
    )

-- what an entry makes false
pub negated_false : (trail : List TrailEntry) (p : ℕ) (e : TrailEntry) → IsAt trail p e →
    is_false trail (negation e.lit) ≡ true
negated_false [] p e at = absurd (omega (arith, at_within [] p e at))
negated_false (x ∷ older) p e at = elim (at_cases x older p e at) [
  | inl last ↦ subst (λ (y : TrailEntry). is_false (x ∷ older) (negation y.lit) ≡ true) last.1
      (among_here (falses older) (negation x.lit))
  | inr later ↦ false_stays x older (negation e.lit) (negated_false older p e later)
]

-- a false literal is the negation of the entry at its place
pub place_negates : (trail : List TrailEntry) (m : Lit) (q : ℕ) (f : TrailEntry) → IsOnce trail →
    is_false trail m ≡ true → place_in trail m ≡ Some q → IsAt trail q f → negation f.lit ≡ m
place_negates [] m q f once is at there = cc
place_negates (x ∷ older) m q f once is at there =
    elim (among_cases (falses older) (negation x.lit) m is) [
      | inl here ↦
          let same : variable x.lit ≡ variable m =
          sym (variable_negation x.lit) ∙ ap variable here in
          let at' : Some (length older) ≡ Some q =
          rw (eq-eqb (variable x.lit) (variable m) same) at at in
          let one : x ≡ f = at_one (x ∷ older) q x f
          (subst (λ (n : ℕ). IsAt (x ∷ older) n x) (some_is at') (at_newest x older)) there in
          ap (λ (y : TrailEntry). negation y.lit) (sym one) ∙ here
      | inr later ↦
          let before : place_in older m ≡ Some q = sym (place_stays x older m once later) ∙ at in
          let e = place_entry older m q before in
          let one : e.0 ≡ f = at_one (x ∷ older) q e.0 f (at_older x older q e.0 e.1) there in
          place_negates older m q f once.1 later before
          (subst (λ (y : TrailEntry). IsAt older q y) one e.1)
    ]

-- AT THE CURRENT LEVEL, AND AT LEVEL 0

module _ (w : WatchState) (levels : HasLevels w.clauses w.level w.trail) (once : IsOnce w.trail)
  where
    -- where an older entry is of the current level, this one has a reason
    pub later_reason : (p k : ℕ) → HasLevel w.trail w.level p → p < k → k < length w.trail →
        HasReason w.trail k
    later_reason p k (e, at, is) below lt =
        let f = at_there w.trail k lt in
        by f.0 f.1 f.0.reason refl (caused_at w.clauses w.level w.trail k f.0 levels once f.1)
      where
        by : (f : TrailEntry) → IsAt w.trail k f → (r : Option ClauseRef) → f.reason ≡ r →
            IsCaused w.clauses w.trail k f r → HasReason w.trail k
        by f there None none cause =
            let low = cause.1 p e below at in
            let most = level_most w.clauses w.level w.trail k f levels there in
            absurd (omega (arith, low, most, is))
        by f there (Some r) some cause = (r, (f, there, some))

    pub zero_reason : (p : ℕ) → HasLevel w.trail 0 p → HasReason w.trail p
    zero_reason p (e, at, is) =
        by e.reason refl (caused_at w.clauses w.level w.trail p e levels once at)
      where
        by : (r : Option ClauseRef) → e.reason ≡ r → IsCaused w.clauses w.trail p e r →
            HasReason w.trail p
        by None none cause = absurd (omega (arith, cause.0, is))
        by (Some r) some cause = (r, (e, at, some))

    -- the false literals of a reason stand before its entry
    pub reason_below : AreWithin w.vars w.trail → (p q : ℕ) → IsReasonPlace w p q → q < p
    reason_below within p q (e, at, from) =
        by e.reason from.1 (caused_at w.clauses w.level w.trail p e levels once at)
      where
        l : Lit
        l = from.0

        by : (r : Option ClauseRef) → Contains (reason_lits w.clauses r) l →
            IsCaused w.clauses w.trail p e r → q < p
        by None (k, inside, same) cause = absurd (omega (arith, inside))
        by (Some r) in_reason cause = elim (lit_cases l e.lit) [
          | inl same ↦
              let some = All-contains (λ (x : TrailEntry). IsWithin w.vars x.lit) w.trail e within
              (at_contains w.trail p e at) in
              absurd (not_both w.trail e.lit some.0 once
              (subst (λ (m : Lit). is_false w.trail m ≡ true) same from.2)
              (negated_false w.trail p e at))
          | inr other ↦
              let r = cause.2 l in_reason other in
              subst (λ (n : ℕ). n < p) (some_is (sym r.2 ∙ from.3)) r.1
        ]
