-- The steps of a search through merged clauses, moved behind lemmas, are a log of a search through
-- the formula.
use Rattle.std.proofs.Common.{inl, inr, ◌≡◌, ◌≢◌, ◌∙◌, ◌⊎◌, ◌+◌, ◌*◌, ◌≤◌, ◌==◌, ◌-◌, ℕ, zero, suc, ℤ, Bool, true, false, List, [], ◌∷◌, ◌++◌, length, take, map, fold, Option, None, Some, slice_get, All, Contains, refl, sym, ap, subst, arith, add-zero, append_assoc}
use Rattle.std.specs.Prelude.{Ok, if◌then◌else◌, is_some}
use Rattle.std.proofs.lemmas.Bool.{cases_lt, ne_eqb}
use Rattle.std.proofs.lemmas.List.{map-append, take-append-le, take-map}
use Rattle.std.proofs.lemmas.List.Elements.{All-contains, All-take, All-weaker}
use Rattle.std.proofs.lemmas.List.Sums.{fold-append}
use Rattle.std.proofs.lemmas.Option.{slice_get_within}
use Rattle.std.proofs.Math.Seq.{take-append-add}
use Rattle.list_laws.proofs.Places.{get-map}
use Rattle.sat_clause.specs.declared.literal.Lit.{Lit}
use Rattle.sat_clause.specs.declared.cause.Cause.{Cause}
use Rattle.sat_clause.specs.declared.cause.Cause.TheVariants.{DeletesNotLive, NoEmptyClause}
use Rattle.sat_clause.specs.declared.reading.Reading.{Reading}
use Rattle.sat_clause.specs.declared.reading.Reading.TheVariants.{Conflict, Unit, Satisfied, Unresolved}
use Rattle.sat_clause.specs.Formula.{Cnf}
use Rattle.sat_clause.specs.Judge.{Accepts, Refused, after, erase_fault, fault, inputs, is_empty_clause, judge_from, judge_step, take_out}
use Rattle.sat_clause.specs.Learned.{EachAdded, EachErased, IsFresh, IsRelevant, IsSimple, LearnedNew, Relevant, Sparse, AreAddedFrom, added_count, added_since, deletions}
use Rattle.sat_clause.specs.Literal.{Clause, negation}
use Rattle.sat_clause.specs.Live.{Live, clause_at, named, put}
use Rattle.sat_clause.specs.Rup.{after_conflict, follow, lead_on, reading_of, rup}
use Rattle.sat_clause.specs.Step.{Step, Added, Erased}
use Rattle.sat_core.specs.declared.answer.Answer.TheVariants.{Refuted}
use Rattle.sat_core.specs.Answer.{EndsEmpty, IsRefutation}
use Rattle.sat_core.specs.SearchLog.{AreNumbered, DeletesSome, EndsAtEmpty, IsSearchLog}
use Rattle.sat_core.specs.Stands.{AreGood, live_after}
use Rattle.sat_core.specs.Underway.{HasSearched}
use Rattle.sat_core.proofs.EarlierLaw.{hints_are_earlier}
use Rattle.sat_core.proofs.LogLemmas.{ends_behind, good_accepted, good_behind, good_so_far, step_all}
use Rattle.sat_merge.specs.Lemmas.{AreLemmas}
use Rattle.sat_merge.specs.Moved.{AllMove, IsMoved, MayMove, PlaceState, Replaces, StandsFurther, moved, moved_id}
use Rattle.sat_merge.specs.Rewritten.{AreKept, IsMerged, SameSteps, bare}
use Rattle.sat_merge.proofs.MovedLaws.{added_to, all_named, fault_moved, further_steps, good_moved, moved_same, moved_steps, moves_at}
use Rattle.sat_merge.proofs.RenamedLaws.{renamed-relevant}
use Rattle.sat_merge.proofs.RewrittenLaws.{inputs_past, same_counts, same_deletes, same_end, same_ends, same_front, same_live, same_numbered, same_sparse}

-- A GOOD LOG

module _ (live : Live) where
  -- no hints are refused for want of an empty clause
  not_wanting : (set : List Lit) (hints : List ℤ) → rup live set hints ≢ Some NoEmptyClause
  not_wanting set [] is = cc
  not_wanting set (h ∷ hints) is =
      by (λ s. not_wanting s hints) (named live h) is
    where
      behind : (more : List ℤ) → after_conflict more ≢ Some NoEmptyClause
      behind [] e = cc
      behind (g ∷ more) e = cc

      lead : ((s : List Lit) → rup live s hints ≢ Some NoEmptyClause) → (r : Reading) →
          lead_on r hints (λ l. rup live (negation l ∷ set) hints) ≢ Some NoEmptyClause
      lead later Conflict bad = behind hints bad
      lead later (Unit l) bad = later (negation l ∷ set) bad
      lead later Satisfied bad = cc
      lead later Unresolved bad = cc

      by : ((s : List Lit) → rup live s hints ≢ Some NoEmptyClause) → (o : Option Clause) →
          follow set o hints (λ l. rup live (negation l ∷ set) hints) ≢ Some NoEmptyClause
      by later None bad = cc
      by later (Some c) bad = lead later (reading_of set c) bad

not_wanting_erased : (live : Live) (ids : List ℤ) → erase_fault live ids ≢ Some NoEmptyClause
not_wanting_erased live [] is = cc
not_wanting_erased live (h ∷ ids) is =
    by (is_some (named live h)) is (not_wanting_erased (take_out live h) ids)
  where
    by : (b : Bool) →
        (if b then erase_fault (take_out live h) ids else Some DeletesNotLive) ≡ Some NoEmptyClause →
        erase_fault (take_out live h) ids ≢ Some NoEmptyClause → ⊥
    by true bad later = later bad
    by false bad later = cc

not_wanting_step : (live : Live) (step : Step) → fault live step ≢ Some NoEmptyClause
not_wanting_step live (Added id c hints) is = not_wanting live c hints is
not_wanting_step live (Erased id ids) is = not_wanting_erased live ids is

-- where nothing is refused but for want of an empty clause, and that one ends the steps, they are
-- all good
pub good_of : (n : ℕ) (live : Live) (log : List Step) →
    ((m : ℕ) (cause : Cause) → judge_from n live log ≡ Refused m cause → cause ≡ NoEmptyClause) →
    EndsAtEmpty log → AreGood live log
good_of n live [] so_far ends = tt
good_of n live (step ∷ log) so_far ends =
    let good = first (fault live step) refl in (
      good,
      elim (is_empty_clause step) as (λ b. is_empty_clause step ≡ b →
          AreGood (after live step) log) [
            | true ↦ λ e. subst (AreGood (after live step)) (sym (ends.0 e)) tt
            | false ↦ λ e.
                good_of (suc n) (after live step) log
                (λ m cause is. so_far m cause
                (ap (λ (f : Option Cause). judge_step n f (is_empty_clause step)
                (judge_from (suc n) (after live step) log)) good
                ∙ ap (λ (b : Bool). judge_step n None b
                (judge_from (suc n) (after live step) log)) e ∙ is)) ends.1
          ] refl,
    )
  where
    first : (o : Option Cause) → fault live step ≡ o → fault live step ≡ None
    first None is = is
    first (Some cause) is =
        let e = so_far n cause
        (ap (λ (f : Option Cause). judge_step n f (is_empty_clause step)
        (judge_from (suc n) (after live step) log)) is) in
        absurd (not_wanting_step live step (is ∙ ap (λ (c : Cause). Some c) e))

-- STEPS BEHIND OTHERS

split_get : (a b : List Step) (k : ℕ) (x : Step) → slice_get (a ++ b) k ≡ Some x →
    (slice_get a k ≡ Some x)
    ⊎ ((t : ℕ) × (k ≡ length a + t) × (slice_get b t ≡ Some x))
split_get [] b k x is = inr (k, omega arith, is)
split_get (y ∷ a) b zero x is = inl is
split_get (y ∷ a) b (suc k) x is = elim (split_get a b k x is) [
  | inl front ↦ inl front
  | inr back ↦ inr (back.0, omega (arith, back.1), back.2)
]

-- each clause that is added has a property where it has it in both parts
each_behind : (P : Live → Clause → List ℤ → Type 0) (formula : Cnf) (a b : List Step) →
    EachAdded P formula a →
    ((t id : ℕ) (c : Clause) (hints : List ℤ) → slice_get b t ≡ Some (Added id c hints) →
    P (fold after (live_after formula a) (take t b)) c hints) → EachAdded P formula (a ++ b)
each_behind P formula a b front back k id c hints is =
    elim (split_get a b k (Added id c hints) is) [
      | inl here ↦
          let within = slice_get_within a k (Added id c hints) here in
          let same : take k (a ++ b) ≡ take k a = take-append-le k a b (omega (arith, within)) in
          rw same (front k id c hints here)
      | inr later ↦
          let same : fold after (inputs formula) (take k (a ++ b))
          ≡ fold after (live_after formula a) (take later.0 b) =
          rw (later.1, take-append-add a b later.0)
          (fold-append after (inputs formula) a (take later.0 b)) in
          subst (λ (live : Live). P live c hints) (sym same) (back later.0 id c hints later.2)
    ]

never_erased : (log : List Step) (k id : ℕ) (ids : List ℤ) → deletions log ≡ 0 →
    slice_get log k ≡ Some (Erased id ids) → ⊥
never_erased [] k id ids none is = cc
never_erased (Added n c h ∷ log) zero id ids none is = cc
never_erased (Added n c h ∷ log) (suc k) id ids none is = never_erased log k id ids none is
never_erased (Erased n others ∷ log) k id ids none is = absurd (omega (arith, none))

-- and so has each deletion, where the first part has none
each_erased_behind : (P : List Step → List ℤ → Type 0) (a b : List Step) → deletions a ≡ 0 →
    ((t id : ℕ) (ids : List ℤ) → slice_get b t ≡ Some (Erased id ids) → P (a ++ take t b) ids) →
    EachErased P (a ++ b)
each_erased_behind P a b none back k id ids is =
    elim (split_get a b k (Erased id ids) is) [
      | inl here ↦ absurd (never_erased a k id ids none here)
      | inr later ↦
          rw (later.1, take-append-add a b later.0) (back later.0 id ids later.2)
    ]

numbered_behind : (id : ℕ) (a b : List Step) → AreNumbered id a →
    AreNumbered (id + added_count a) b → AreNumbered id (a ++ b)
numbered_behind id [] b front back = rw add-zero at back
numbered_behind id (Added n c h ∷ a) b front back = (
  front.0,
  numbered_behind (suc id) a b front.1
      (subst (λ (m : ℕ). AreNumbered m b) (omega arith) back),
)
numbered_behind id (Erased n ids ∷ a) b front back =
    (front.0, front.1, numbered_behind id a b front.2 back)

deletions_behind : (a b : List Step) → deletions a ≡ 0 → deletions (a ++ b) ≡ deletions b
deletions_behind [] b none = refl
deletions_behind (Added n c h ∷ a) b none = deletions_behind a b none
deletions_behind (Erased n ids ∷ a) b none = absurd (omega (arith, none))

added_behind : (a b : List Step) → added_count (a ++ b) ≡ added_count a + added_count b
added_behind [] b = omega arith
added_behind (Added n c h ∷ a) b = let rest = added_behind a b in omega (arith, rest)
added_behind (Erased n ids ∷ a) b = added_behind a b

since_behind : (n : ℕ) (a b : List Step) → deletions a ≡ 0 →
    added_since n (a ++ b) ≡ added_since (n + added_count a) b
since_behind n [] b none = ap (λ (m : ℕ). added_since m b) (omega arith)
since_behind n (Added i c h ∷ a) b none =
    since_behind (suc n) a b none ∙ ap (λ (m : ℕ). added_since m b) (omega arith)
since_behind n (Erased i ids ∷ a) b none = absurd (omega (arith, none))

since_more : (n k : ℕ) (log : List Step) → added_since n log ≤ added_since (n + k) log
since_more n k [] = omega arith
since_more n k (Added i c h ∷ log) =
    subst (λ (m : ℕ). added_since (suc n) log ≤ added_since m log) (omega arith)
    (since_more (suc n) k log)
since_more n k (Erased i ids ∷ log) = omega arith

-- no clause stands behind those that were added
none_past : (m id : ℕ) (log : List Step) (live : Live) → AreAddedFrom m log →
    deletions log ≡ 0 → m + added_count log ≤ id → clause_at live id ≡ None →
    clause_at (fold after live log) id ≡ None
none_past m id [] live numbered none past there = there
none_past m id (Added n c h ∷ log) live numbered none past there =
    let apart : (id == n) ≡ false = ne_eqb id n (omega (arith, past, numbered.0)) in
    none_past (suc m) id log (put live n c) numbered.1 none (omega (arith, past)) (rw apart there)
none_past m id (Erased n ids ∷ log) live numbered none past there =
    absurd (omega (arith, none))

-- STEPS THAT WERE MOVED

module _ (p : PlaceState) where
  erased_moved : (step : Step) (id : ℕ) (others : List ℤ) → moved p step ≡ Erased id others →
      (own : ℕ) × (ids : List ℤ) × (step ≡ Erased own ids) × (map (moved_id p) ids ≡ others)
  erased_moved (Added own d hints) id others is = cc
  erased_moved (Erased own ids) id others is = (own, ids, refl, cc)

  numbered_moved : (id : ℕ) (log : List Step) → AreNumbered id log →
      AreNumbered (id + p.lemmas) (map (moved p) log)
  numbered_moved id [] numbered = tt
  numbered_moved id (Added n c h ∷ log) numbered = (
    omega (arith, numbered.0),
    subst (λ (m : ℕ). AreNumbered m (map (moved p) log)) (omega arith)
        (numbered_moved (suc id) log numbered.1),
  )
  numbered_moved id (Erased n ids ∷ log) numbered = (
    omega (arith, numbered.0),
    omega (arith, numbered.1),
    numbered_moved id log numbered.2,
  )

  deletions-moved : (log : List Step) → deletions (map (moved p) log) ≡ deletions log
  deletions-moved [] = refl
  deletions-moved (Added n c h ∷ log) = deletions-moved log
  deletions-moved (Erased n ids ∷ log) = ap suc (deletions-moved log)

  added-moved : (log : List Step) → added_count (map (moved p) log) ≡ added_count log
  added-moved [] = refl
  added-moved (Added n c h ∷ log) = ap suc (added-moved log)
  added-moved (Erased n ids ∷ log) = added-moved log

  since-moved : (n : ℕ) (log : List Step) →
      added_since n (map (moved p) log) ≡ added_since n log
  since-moved n [] = refl
  since-moved n (Added i c h ∷ log) = since-moved (suc n) log
  since-moved n (Erased i ids ∷ log) = since-moved 0 log

  empty-moved : (step : Step) → is_empty_clause (moved p step) ≡ is_empty_clause step
  empty-moved (Added id [] h) = refl
  empty-moved (Added id (l ∷ ls) h) = refl
  empty-moved (Erased id ids) = refl

  ends_moved : (log : List Step) → EndsAtEmpty log → EndsAtEmpty (map (moved p) log)
  ends_moved [] ends = tt
  ends_moved (step ∷ log) ends = (
    λ is. ap (λ (steps : List Step). map (moved p) steps)
        (ends.0 (sym (empty-moved step) ∙ is)),
    ends_moved log ends.1,
  )

  some_moved : (ids : List ℤ) → ids ≢ [] → map (moved_id p) ids ≢ []
  some_moved [] some is = some refl
  some_moved (h ∷ ids) some is = cc

-- THE WHOLE LOG

module _ {keeps : Lit → Bool} {formula merged : Cnf} {p : PlaceState} {lemmas : List Step}
    (merge : IsMerged keeps formula merged) (are : AreLemmas keeps formula merged p lemmas) where
  at_start : IsMoved p (inputs merged) (live_after formula lemmas) (inputs merged)
      (live_after formula lemmas)
  at_start = record {
    start = λ id within. refl;
    front = λ id within. refl;
    further = λ id over.
        none_past (suc (length formula.clauses)) (id + p.lemmas) lemmas (inputs formula)
        are.open_log.numbered are.none_deleted (omega (arith, over, are.inputs, are.many))
        (inputs_past formula (id + p.lemmas) (omega (arith, over, are.inputs)))
        ∙ sym (inputs_past merged id (omega (arith, over, are.inputs, merge.many)));
  }

  -- a new clause of kept literals is new behind the lemmas
  fresh : (old new : Live) → IsMoved p (inputs merged) (live_after formula lemmas) old new →
      (c : Clause) → AreKept keeps c → IsFresh old c → IsFresh new c
  fresh old new is c kept none i own at all =
      let own_kept : AreKept keeps own =
      All-weaker (Contains c) (λ l. keeps l ≡ true)
      (λ l has. All-contains (λ (x : Lit). keeps x ≡ true) c l kept has) own all in
      elim (cases_lt (p.inputs + p.lemmas) i) [
        | inl over ↦
            let s : ℕ = i - p.lemmas in
            let e : s + p.lemmas ≡ i = omega (arith, over) in
            none s own
            (sym (is.further s (omega (arith, over)))
            ∙ ap (λ (n : ℕ). clause_at new n) e ∙ at) all
        | inr within ↦
            let there = are.covered i own (sym (is.front i within) ∙ at) own_kept in
            none there.0 there.1 (is.start there.0 there.2 ∙ there.3)
            (All-weaker (Contains own) (Contains c)
            (λ l has. All-contains (Contains c) own l all has) there.1 there.4)
      ]

  own_start : StandsFurther p [] (fold after [] lemmas)
  own_start id over =
      none_past (suc (length formula.clauses)) (id + p.lemmas) lemmas [] are.open_log.numbered
      are.none_deleted (omega (arith, over, are.inputs, are.many)) refl

  module _ (steps tail : List Step) (may : All (MayMove keeps p) steps)
      (moves : AllMove p (live_after formula lemmas) steps tail) where
    -- the log is one of the same steps as where each hint has an id
    alike : SameSteps tail (map (moved p) steps)
    alike = moved_same p (live_after formula lemmas) steps tail moves

    all_alike : SameSteps (lemmas ++ tail) (lemmas ++ map (moved p) steps)
    all_alike =
        map-append bare lemmas tail
        ∙ ap (λ (more : List Step). map bare lemmas ++ more) alike
        ∙ sym (map-append bare lemmas (map (moved p) steps))

    -- what is live before each step was moved
    at_step : (t : ℕ) → IsMoved p (inputs merged) (live_after formula lemmas)
        (fold after (inputs merged) (take t steps))
        (fold after (live_after formula lemmas) (take t tail))
    at_step t =
        rw (
          same_live (live_after formula lemmas) (take t tail) (take t (map (moved p) steps))
              (same_front t tail (map (moved p) steps) alike),
          take-map (moved p) t steps,
        )
        (moved_steps p keeps (inputs merged) (live_after formula lemmas) (take t steps)
        (inputs merged) (live_after formula lemmas)
        (All-take (MayMove keeps p) t steps may) at_start)

    module _ (logged : IsSearchLog merged steps) where
      -- the step of the search at the place of one that was moved
      place_of : (t id : ℕ) (c : Clause) (h : List ℤ) → slice_get tail t ≡ Some (Added id c h) →
          (own : ℕ) × (hints : List ℤ) × (slice_get steps t ≡ Some (Added own c hints))
          × Replaces p (fold after (live_after formula lemmas) (take t tail)) c hints h
      place_of t id c h is =
          let live : Live = fold after (live_after formula lemmas) (take t tail) in
          let there = moves_at p (live_after formula lemmas) steps tail moves t (Added id c h) is in
          let step = added_to p live there.0 id c h there.2 in
          (step.0, step.1, there.1 ∙ ap (λ (s : Step). Some s) step.2, step.3)

      good : AreGood (inputs formula) (lemmas ++ tail)
      good =
          good_behind (inputs formula) lemmas tail are.open_log.good
          (good_moved p keeps (inputs merged) (live_after formula lemmas) are.hand steps tail
          (inputs merged) (live_after formula lemmas) may at_start
          (good_of 1 (inputs merged) steps logged.good logged.ends) moves)

      new : LearnedNew formula (lemmas ++ tail)
      new =
          each_behind
          (λ live c h. c ≢ [] → IsSimple formula.vars c × IsFresh live c) formula lemmas tail
          are.open_log.new (λ t id c h is some.
          let there = place_of t id c h is in
          let found = logged.new t there.0 c there.1 there.2 some in
          let own = step_all (MayMove keeps p) steps t (Added there.0 c there.1) may there.2 in (
            subst (λ (n : ℕ). IsSimple n c) merge.vars found.0,
            fresh (fold after (inputs merged) (take t steps))
                (fold after (live_after formula lemmas) (take t tail)) (at_step t) c own.1
                found.1,
          ))

      relevant : Relevant formula (lemmas ++ tail)
      relevant =
          each_behind IsRelevant formula lemmas tail are.relevant (λ t id c h is.
          let there = place_of t id c h is in
          let old : Live = fold after (inputs merged) (take t steps) in
          let now : Live = fold after (live_after formula lemmas) (take t tail) in
          elim there.3 [
            | inl named ↦
                rw named.1
                (renamed-relevant old now (moved_id p) c there.1
                (all_named p keeps (inputs merged) (live_after formula lemmas) are.hand old now
                (at_step t) there.1 named.0) (logged.relevant t there.0 c there.1 there.2))
            | inr others ↦ others.relevant
          ])

      numbered_virtual : AreNumbered (suc (length formula.clauses)) (lemmas ++ map (moved p) steps)
      numbered_virtual =
          numbered_behind (suc (length formula.clauses)) lemmas (map (moved p) steps) are.numbered
          (subst (λ (m : ℕ). AreNumbered m (map (moved p) steps))
          (omega (arith, are.many, merge.many))
          (numbered_moved p (suc (length merged.clauses)) steps logged.numbered))

      numbered : AreNumbered (suc (length formula.clauses)) (lemmas ++ tail)
      numbered =
          same_numbered (suc (length formula.clauses)) (lemmas ++ tail)
          (lemmas ++ map (moved p) steps) all_alike numbered_virtual

      -- the deletion of the search at the place of one that was moved
      erased_at : (t id : ℕ) (others : List ℤ) →
          slice_get (map (moved p) steps) t ≡ Some (Erased id others) →
          (own : ℕ) × (ids : List ℤ) × (slice_get steps t ≡ Some (Erased own ids))
          × (map (moved_id p) ids ≡ others)
      erased_at t id others is =
          let there = get-map (moved p) steps t (Erased id others) is in
          let step = erased_moved p there.0 id others there.2 in
          (step.0, step.1, there.1 ∙ ap (λ (s : Step). Some s) step.2, step.3)

      sparse : Sparse (lemmas ++ map (moved p) steps)
      sparse =
          each_erased_behind
          (λ before ids. (erase_fault (fold after [] before) ids ≡ None)
          × (1000 * suc (deletions before) ≤ added_since 0 before))
          lemmas (map (moved p) steps) are.none_deleted (λ t id others is.
          let there = erased_at t id others is in
          let ids : List ℤ = there.1 in
          let own = step_all (MayMove keeps p) steps t (Erased there.0 ids) may there.2 in
          let before : List Step = take t steps in
          let live : Live = fold after [] lemmas in
          let further : StandsFurther p (fold after [] before)
          (fold after live (map (moved p) before)) =
          further_steps p keeps before [] live (All-take (MayMove keeps p) t steps may) own_start in
          let found = logged.sparse t there.0 ids there.2 in
          let fault : erase_fault (fold after live (map (moved p) before)) (map (moved_id p) ids)
          ≡ None =
          fault_moved p ids (fold after [] before) (fold after live (map (moved p) before)) own
          further ∙ found.0 in
          let many = deletions_behind lemmas (map (moved p) before) are.none_deleted in
          let same = deletions-moved p before in
          let since = since_behind 0 lemmas (map (moved p) before) are.none_deleted in
          let moved_since = since-moved p (added_count lemmas) before in
          let more = since_more 0 (added_count lemmas) before in
          rw (take-map (moved p) t steps, sym there.3) (
            rw (fold-append after [] lemmas (map (moved p) before)) fault,
            late before many same since moved_since more found.1,
          ))
        where
          late : (before : List Step) →
              deletions (lemmas ++ map (moved p) before) ≡ deletions (map (moved p) before) →
              deletions (map (moved p) before) ≡ deletions before →
              added_since 0 (lemmas ++ map (moved p) before)
              ≡ added_since (0 + added_count lemmas) (map (moved p) before) →
              added_since (added_count lemmas) (map (moved p) before)
              ≡ added_since (added_count lemmas) before →
              added_since 0 before ≤ added_since (0 + added_count lemmas) before →
              1000 * suc (deletions before) ≤ added_since 0 before →
              1000 * suc (deletions (lemmas ++ map (moved p) before))
              ≤ added_since 0 (lemmas ++ map (moved p) before)
          late before many same since moved_since more found =
              let zero_more : 0 + added_count lemmas ≡ added_count lemmas = omega arith in
              let one = rw zero_more at since in
              let two = rw zero_more at more in
              omega (arith, many, same, one, moved_since, two, found)

      deletes : DeletesSome (lemmas ++ map (moved p) steps)
      deletes =
          each_erased_behind (λ before ids. ids ≢ []) lemmas (map (moved p) steps) are.none_deleted
          (λ t id others is.
          let there = erased_at t id others is in
          subst (λ (ids : List ℤ). ids ≢ []) there.3
          (some_moved p there.1 (logged.deletes t there.0 there.1 there.2)))

      -- it is a search's log of the formula
      pub behind_log : IsSearchLog formula (lemmas ++ tail)
      behind_log = record {
        good = good_so_far 1 (inputs formula) (lemmas ++ tail) good;
        ends = ends_behind lemmas tail are.open_log.none_empty
            (same_ends tail (map (moved p) steps) alike (ends_moved p steps logged.ends));
        numbered = numbered;
        earlier = hints_are_earlier formula (lemmas ++ tail) good numbered;
        new = new;
        relevant = relevant;
        sparse = same_sparse (lemmas ++ tail) (lemmas ++ map (moved p) steps) all_alike sparse;
        deletes = same_deletes (lemmas ++ tail) (lemmas ++ map (moved p) steps) all_alike deletes;
      }

      added_all : added_count (lemmas ++ tail) ≡ p.lemmas + added_count steps
      added_all =
          let counts = same_counts (lemmas ++ tail) (lemmas ++ map (moved p) steps) all_alike in
          let both = added_behind lemmas (map (moved p) steps) in
          let moved_count = added-moved p steps in
          omega (arith, counts.0, both, moved_count, are.many)

      -- and refutes it where the search has refuted the merged clauses
      refutes : {budget most : ℕ} → IsRefutation merged budget steps →
          p.lemmas + added_count steps ≤ most → IsRefutation formula most (lemmas ++ tail)
      refutes {budget} {most} is few =
          let last = is.last in
          let before : List Step = lemmas ++ map (moved p) last.before in
          let stop : Step = moved p (Added last.id [] last.hints) in
          let parts : lemmas ++ map (moved p) steps ≡ before ++ stop ∷ [] =
          ap (λ (log : List Step). lemmas ++ map (moved p) log) last.is
          ∙ ap (λ (log : List Step). lemmas ++ log)
          (map-append (moved p) last.before (Added last.id [] last.hints ∷ []))
          ∙ sym (append_assoc lemmas (map (moved p) last.before) (stop ∷ [])) in
          let end : EndsEmpty (lemmas ++ tail) =
          same_end (lemmas ++ tail) before (last.id + p.lemmas) (map (moved_id p) last.hints)
          (all_alike ∙ ap (λ (log : List Step). map bare log) parts) in
          let all_good : AreGood (inputs formula) (end.before ++ Added end.id [] end.hints ∷ []) =
          subst (AreGood (inputs formula))
          {y = end.before ++ Added end.id [] end.hints ∷ []} end.is good in
          record {
            accepts = subst (Accepts formula)
                {x = end.before ++ Added end.id [] end.hints ∷ []}
                (sym {b = end.before ++ Added end.id [] end.hints ∷ []} end.is)
                (good_accepted 1 (inputs formula) end.before end.id end.hints all_good);
            within = omega (arith, added_all, few);
            last = end;
          }

    -- so what a search through the merged clauses refutes, one through the formula may
    pub behind_searched : {budget : ℕ} {keep : Bool} →
        HasSearched merged budget keep steps (Ok Refuted) →
        p.lemmas + added_count steps ≤ budget →
        HasSearched formula budget keep (lemmas ++ tail) (Ok Refuted)
    behind_searched {budget} {keep} searched few =
        let all = added_all searched.logged in
        let counts = same_counts (lemmas ++ tail) (lemmas ++ map (moved p) steps) all_alike in
        record {
          answer = refutes searched.logged searched.answer few;
          logged = behind_log searched.logged;
          within = omega (arith, all, few);
          kept = λ is.
              counts.1 ∙ deletions_behind lemmas (map (moved p) steps) are.none_deleted
              ∙ deletions-moved p steps ∙ searched.kept is;
        }
