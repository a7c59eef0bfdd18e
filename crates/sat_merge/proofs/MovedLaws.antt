-- What is live behind steps that were moved, and that these are good where they were.
use Rattle.std.proofs.Common.{◌≡◌, ◌≢◌, ◌∙◌, ◌+◌, ◌++◌, nat_abs, ◌<◌, ◌≤◌, ◌==◌, ℕ, zero, suc, ℤ, pos, negsuc, Bool, true, false, cond, List, [], ◌∷◌, map, fold, take, slice_get, All, Option, None, Some, refl, sym, ap, subst, inl, inr, arith}
use Rattle.std.specs.Prelude.{IsTrue, nat_lt, slice_index_or}
use Rattle.std.proofs.lemmas.Bool.{cases_lt, ne_eqb}
use Rattle.std.proofs.lemmas.Bool.Decides.{nat_tests}
use Rattle.std.proofs.lemmas.List.Elements.{All-cons, All-head, All-nil, All-tail, All-weaker}
use Rattle.list_laws.proofs.Places.{some_is}
use Rattle.sat_clause.specs.declared.literal.Lit.{Lit}
use Rattle.sat_clause.specs.Judge.{after, erase, erase_fault, take_out}
use Rattle.sat_clause.specs.Literal.{Clause, is_above_zero}
use Rattle.sat_clause.specs.Live.{Live, clause_at, named, put, without}
use Rattle.sat_clause.specs.Rup.{rup}
use Rattle.sat_clause.specs.Step.{Step, Added, Erased}
use Rattle.sat_clause.specs.declared.log.StepView.{StepView}
use Rattle.sat_clause.specs.Learned.{added_count}
use Rattle.sat_check.specs.Verdict.{step_of}
use Rattle.sat_core.proofs.ErasedLaws.{added_count-erase}
use Rattle.sat_core.proofs.LogLemmas.{added_count-push}
use lib.Signed.{lt_z}
use Rattle.sat_clause.proofs.LiveLaws.{clause_at-without}
use Rattle.sat_core.specs.Stands.{AreGood, IsAbove}
use Rattle.sat_merge.specs.Moved.{AllMove, AreAtHand, HasPlace, IsMoved, MayMove, MovesTo, PlaceState, Replaces, SameUpTo, StandsFurther, moved, moved_id, now_of}
use Rattle.sat_merge.specs.Rewritten.{SameSteps, bare}
use Rattle.sat_merge.proofs.RenamedLaws.{IsRenamed, renamed-good}

-- NUMBERS

is_below : (a b : ℕ) → a < b → nat_lt a b ≡ true
is_below a b h = grind (arith, nat_tests)

not_below : (a b : ℕ) → b ≤ a → nat_lt a b ≡ false
not_below a b h = grind (arith, nat_tests)

eqb_further : (a b k : ℕ) → ((a + k) == (b + k)) ≡ (a == b)
eqb_further a b k = grind (arith, nat_tests)

some_above : (v : ℕ) → IsTrue (is_above_zero (pos v)) → 1 ≤ v
some_above zero is = cc
some_above (suc v) is = omega arith

pub named_at : (live : Live) (n : ℕ) → 1 ≤ n → named live (pos n) ≡ clause_at live n
named_at live zero some = absurd (omega (arith, some))
named_at live (suc n) some = refl

-- UP TO AN ID

same_put : (n id : ℕ) (c : Clause) (one other : Live) → n < id → SameUpTo n one other →
    SameUpTo n (put one id c) other
same_put n id c one other over same i within =
    let apart : (i == id) ≡ false = ne_eqb i id (omega (arith, over, within)) in
    rw apart (same i within)

same_out : (n : ℕ) (h : ℤ) (one other : Live) → IsAbove n h → SameUpTo n one other →
    SameUpTo n (take_out one h) other
same_out n (pos out) one other above same i within =
    let k : ℕ = above.0 in
    let is : out ≡ k = cc in
    let apart : (out == i) ≡ false = ne_eqb out i (omega (arith, is, above.2, within)) in
    clause_at-without one out i ∙ rw apart (same i within)
same_out n (negsuc out) one other above same i within = same i within

same_erase : (n : ℕ) (ids : List ℤ) (one other : Live) → All (IsAbove n) ids →
    SameUpTo n one other → SameUpTo n (erase one ids) other
same_erase n [] one other above same = same
same_erase n (h ∷ ids) one other above same =
    same_erase n ids (take_out one h) other (All-tail (IsAbove n) h ids above)
    (same_out n h one other (All-head (IsAbove n) h ids above) same)

module _ (p : PlaceState) where
  over_id : (n : ℕ) → p.inputs < n → moved_id p (pos n) ≡ pos (n + p.lemmas)
  over_id n over = rw (is_below p.inputs n over) refl

  input_id : (n : ℕ) → n ≤ p.inputs → moved_id p (pos n) ≡ pos (slice_index_or p.ids n 0)
  input_id n within = rw (not_below p.inputs n within) refl

  -- an id behind the inputs is one behind the lemmas
  pub above_moved : (h : ℤ) → IsAbove p.inputs h → IsAbove (p.inputs + p.lemmas) (moved_id p h)
  above_moved (pos n) above =
      let k : ℕ = above.0 in
      let is : n ≡ k = cc in
      let over : p.inputs < n = omega (arith, is, above.2) in
      (n + p.lemmas, over_id n over, omega (arith, over))
  above_moved (negsuc n) above = let bad : negsuc n ≡ pos above.0 = above.1 in cc

  pub all_moved : (ids : List ℤ) → All (IsAbove p.inputs) ids →
      All (IsAbove (p.inputs + p.lemmas)) (map (moved_id p) ids)
  all_moved [] above = All-nil (IsAbove (p.inputs + p.lemmas))
  all_moved (h ∷ ids) above =
      All-cons (IsAbove (p.inputs + p.lemmas)) (moved_id p h) (map (moved_id p) ids)
      (above_moved h (All-head (IsAbove p.inputs) h ids above))
      (all_moved ids (All-tail (IsAbove p.inputs) h ids above))

  -- BEHIND THE LEMMAS

  further_put : (n : ℕ) (c : Clause) (old new : Live) → StandsFurther p old new →
      StandsFurther p (put old n c) (put new (n + p.lemmas) c)
  further_put n c old new further id over =
      rw (eqb_further id n p.lemmas)
      (ap (λ (o : Option Clause). cond (id == n) (Some c) o) (further id over))

  further_without : (n : ℕ) (old new : Live) → StandsFurther p old new →
      StandsFurther p (without old n) (without new (n + p.lemmas))
  further_without n old new further id over =
      let same : cond ((n + p.lemmas) == (id + p.lemmas)) None (clause_at new (id + p.lemmas))
      ≡ cond (n == id) None (clause_at old id) =
      rw (eqb_further n id p.lemmas)
      (ap (λ (o : Option Clause). cond (n == id) None o) (further id over)) in
      clause_at-without new (n + p.lemmas) (id + p.lemmas) ∙ same
      ∙ sym (clause_at-without old n id)

  further_out : (h : ℤ) (old new : Live) → IsAbove p.inputs h → StandsFurther p old new →
      StandsFurther p (take_out old h) (take_out new (moved_id p h))
  further_out (pos n) old new above further =
      let k : ℕ = above.0 in
      let is : n ≡ k = cc in
      subst (λ (h : ℤ). StandsFurther p (without old n) (take_out new h))
      (sym (over_id n (omega (arith, is, above.2)))) (further_without n old new further)
  further_out (negsuc n) old new above further =
      let bad : negsuc n ≡ pos above.0 = above.1 in cc

  further_erase : (ids : List ℤ) (old new : Live) → All (IsAbove p.inputs) ids →
      StandsFurther p old new →
      StandsFurther p (erase old ids) (erase new (map (moved_id p) ids))
  further_erase [] old new above further = further
  further_erase (h ∷ ids) old new above further =
      further_erase ids (take_out old h) (take_out new (moved_id p h))
      (All-tail (IsAbove p.inputs) h ids above)
      (further_out h old new (All-head (IsAbove p.inputs) h ids above) further)

  named_further : (h : ℤ) (old new : Live) → IsAbove p.inputs h → StandsFurther p old new →
      named new (moved_id p h) ≡ named old h
  named_further (pos n) old new above further =
      let k : ℕ = above.0 in
      let is : n ≡ k = cc in
      let over : p.inputs < n = omega (arith, is, above.2) in
      rw (over_id n over)
      (named_at new (n + p.lemmas) (omega (arith, over)) ∙ further n over
      ∙ sym (named_at old n (omega (arith, over))))
  named_further (negsuc n) old new above further =
      let bad : negsuc n ≡ pos above.0 = above.1 in cc

  -- as many ids name no live clause
  pub fault_moved : (ids : List ℤ) (old new : Live) → All (IsAbove p.inputs) ids →
      StandsFurther p old new → erase_fault new (map (moved_id p) ids) ≡ erase_fault old ids
  fault_moved [] old new above further = refl
  fault_moved (h ∷ ids) old new above further =
      let head = All-head (IsAbove p.inputs) h ids above in
      rw (
        named_further h old new head further,
        fault_moved ids (take_out old h) (take_out new (moved_id p h))
            (All-tail (IsAbove p.inputs) h ids above) (further_out h old new head further),
      ) refl

  module _ (keeps : Lit → Bool) where
    further_step : (step : Step) (old new : Live) → MayMove keeps p step →
        StandsFurther p old new → StandsFurther p (after old step) (after new (moved p step))
    further_step (Added id c hints) old new may further = further_put id c old new further
    further_step (Erased id ids) old new may further = further_erase ids old new may further

    pub further_steps : (steps : List Step) (old new : Live) → All (MayMove keeps p) steps →
        StandsFurther p old new →
        StandsFurther p (fold after old steps) (fold after new (map (moved p) steps))
    further_steps [] old new may further = further
    further_steps (step ∷ steps) old new may further =
        further_steps steps (after old step) (after new (moved p step))
        (All-tail (MayMove keeps p) step steps may)
        (further_step step old new (All-head (MayMove keeps p) step steps may) further)

    module _ (merged lemmas : Live) where
      moved_step : (step : Step) (old new : Live) → MayMove keeps p step →
          IsMoved p merged lemmas old new →
          IsMoved p merged lemmas (after old step) (after new (moved p step))
      moved_step (Added id c hints) old new may is = record {
        start = same_put p.inputs id c old merged may.0 is.start;
        front = same_put (p.inputs + p.lemmas) (id + p.lemmas) c new lemmas
            (omega (arith, may.0)) is.front;
        further = further_put id c old new is.further;
      }
      moved_step (Erased id ids) old new may is = record {
        start = same_erase p.inputs ids old merged may is.start;
        front = same_erase (p.inputs + p.lemmas) (map (moved_id p) ids) new lemmas
            (all_moved ids may) is.front;
        further = further_erase ids old new may is.further;
      }

      pub moved_steps : (steps : List Step) (old new : Live) → All (MayMove keeps p) steps →
          IsMoved p merged lemmas old new →
          IsMoved p merged lemmas (fold after old steps) (fold after new (map (moved p) steps))
      moved_steps [] old new may is = is
      moved_steps (step ∷ steps) old new may is =
          moved_steps steps (after old step) (after new (moved p step))
          (All-tail (MayMove keeps p) step steps may)
          (moved_step step old new (All-head (MayMove keeps p) step steps may) is)

      module _ (hand : AreAtHand p merged lemmas) where
        -- the clause of a hint stands under its id now
        pub moved_named : (old new : Live) → IsMoved p merged lemmas old new → (h : ℤ) →
            HasPlace p h → IsRenamed old new (moved_id p) h
        moved_named old new is (pos zero) place c there = cc
        moved_named old new is (pos (suc n)) place c there =
            elim (cases_lt p.inputs (suc n)) [
              | inl over ↦
                  rw (over_id (suc n) over)
                  (named_at new (suc n + p.lemmas) (omega (arith, over))
                  ∙ is.further (suc n) over ∙ there)
              | inr within ↦
                  let v : ℕ = slice_index_or p.ids (suc n) 0 in
                  let some : 1 ≤ v = some_above v (rw (input_id (suc n) within) at place) in
                  rw (input_id (suc n) within)
                  (named_at new v some ∙ is.front v (hand.within (suc n))
                  ∙ hand.stands (suc n) c some (sym (is.start (suc n) within) ∙ there))
            ]
        moved_named old new is (negsuc n) place c there = cc

        -- and so does that of each hint
        pub all_named : (old new : Live) → IsMoved p merged lemmas old new → (hints : List ℤ) →
            All (HasPlace p) hints → All (IsRenamed old new (moved_id p)) hints
        all_named old new is hints places =
            All-weaker (HasPlace p) (IsRenamed old new (moved_id p))
            (λ h place. moved_named old new is h place) hints places

        -- what becomes of good steps is good
        pub good_moved : (steps log : List Step) (old new : Live) →
            All (MayMove keeps p) steps → IsMoved p merged lemmas old new → AreGood old steps →
            AllMove p new steps log → AreGood new log
        good_moved [] [] old new may is good moves = tt
        good_moved [] (now ∷ log) old new may is good moves = absurd moves
        good_moved (step ∷ steps) [] old new may is good moves = absurd moves
        good_moved (Added id c hints ∷ steps) (now ∷ log) old new may is good moves =
            let step : Step = Added id c hints in
            let own : List ℤ = moves.0.0 in
            let head = All-head (MayMove keeps p) step steps may in
            let led : rup new c own ≡ None =
            elim moves.0.2 [
              | inl same ↦
                  rw same.1
                  (renamed-good old new (moved_id p) c hints
                  (all_named old new is hints same.0) good.0)
              | inr others ↦ others.good
            ] in
            let next : IsMoved p merged lemmas (after old step) (after new now) =
            rw moves.0.1 (moved_step step old new head is) in (
              rw moves.0.1 led,
              good_moved steps log (after old step) (after new now)
                  (All-tail (MayMove keeps p) step steps may) next good.1 moves.1,
            )
        good_moved (Erased id ids ∷ steps) (now ∷ log) old new may is good moves =
            let step : Step = Erased id ids in
            let head = All-head (MayMove keeps p) step steps may in
            let next : IsMoved p merged lemmas (after old step) (after new now) =
            rw moves.0 (moved_step step old new head is) in (
              rw moves.0 (fault_moved ids old new head is.further ∙ good.0),
              good_moved steps log (after old step) (after new now)
                  (All-tail (MayMove keeps p) step steps may) next good.1 moves.1,
            )

  -- WHAT BECOMES OF STEPS

  -- the same steps under other ids, whatever their hints are
  pub moved_same : (live : Live) (steps log : List Step) → AllMove p live steps log →
      SameSteps log (map (moved p) steps)
  moved_same live [] [] moves = refl
  moved_same live [] (now ∷ log) moves = absurd moves
  moved_same live (step ∷ steps) [] moves = absurd moves
  moved_same live (Added id c hints ∷ steps) (now ∷ log) moves =
      let rest = moved_same (after live now) steps log moves.1 in
      let head : bare now ≡ Added (id + p.lemmas) c [] = ap bare moves.0.1 in
      ap (λ (s : Step). s ∷ map bare log) head
      ∙ ap (λ (more : List Step). Added (id + p.lemmas) c [] ∷ more) rest
  moved_same live (Erased id ids ∷ steps) (now ∷ log) moves =
      let rest = moved_same (after live now) steps log moves.1 in
      let head : bare now ≡ bare (moved p (Erased id ids)) = ap bare moves.0 in
      ap (λ (s : Step). s ∷ map bare log) head
      ∙ ap (λ (more : List Step). bare (moved p (Erased id ids)) ∷ more) rest

  -- one more step
  pub moves_push : (live : Live) (steps log : List Step) (step now : Step) →
      AllMove p live steps log → MovesTo p (fold after live log) step now →
      AllMove p live (steps ++ step ∷ []) (log ++ now ∷ [])
  moves_push live [] [] step now moves to = (to, tt)
  moves_push live [] (there ∷ log) step now moves to = absurd moves
  moves_push live (own ∷ steps) [] step now moves to = absurd moves
  moves_push live (own ∷ steps) (there ∷ log) step now moves to =
      (moves.0, moves_push (after live there) steps log step now moves.1 to)

  -- what the step at a place has become
  pub moves_at : (live : Live) (steps log : List Step) → AllMove p live steps log → (k : ℕ)
      (now : Step) → slice_get log k ≡ Some now →
      (step : Step) × (slice_get steps k ≡ Some step)
      × MovesTo p (fold after live (take k log)) step now
  moves_at live [] [] moves k now is = cc
  moves_at live [] (there ∷ log) moves k now is = absurd moves
  moves_at live (own ∷ steps) [] moves k now is = absurd moves
  moves_at live (own ∷ steps) (there ∷ log) moves zero now is =
      let same : there ≡ now = some_is is in
      (own, refl, subst (λ (n : Step). MovesTo p live own n) same moves.0)
  moves_at live (own ∷ steps) (there ∷ log) moves (suc k) now is =
      moves_at (after live there) steps log moves.1 k now is

  -- a clause that is added comes of one that was
  pub added_to : (live : Live) (step : Step) (id : ℕ) (c : Clause) (h : List ℤ) →
      MovesTo p live step (Added id c h) →
      (own : ℕ) × (hints : List ℤ) × (step ≡ Added own c hints) × Replaces p live c hints h
  added_to live (Added own d hints) id c h moves =
      let both : Added id c h ≡ Added (own + p.lemmas) d moves.0 = moves.1 in
      let clauses : d ≡ c = cc in
      let same : moves.0 ≡ h = cc in (
        own,
        hints,
        ap (λ (e : Clause). Added own e hints) clauses,
        subst (λ (e : Clause). Replaces p live e hints h) clauses
            (subst (λ (g : List ℤ). Replaces p live d hints g) same moves.2),
      )
  added_to live (Erased own ids) id c h moves =
      let both : Added id c h ≡ Erased (own + p.lemmas) (map (moved_id p) ids) = moves in cc

-- THE ID OF A HINT

module _ (p : PlaceState) (h : ℤ) (v : ℕ) (above : lt_z h (pos 1) ≡ false)
    (is : v ≡ now_of p (nat_abs h)) where
  pub moved_of : pos v ≡ moved_id p h
  moved_of = by h above is
    where
      by : (z : ℤ) → lt_z z (pos 1) ≡ false → v ≡ now_of p (nat_abs z) → pos v ≡ moved_id p z
      by (pos n) over same = ap pos same
      by (negsuc n) over same = cc

  pub place_of_moved : v ≢ 0 → HasPlace p h
  place_of_moved some =
      subst (λ (z : ℤ). IsTrue (is_above_zero z)) moved_of (over v some)
    where
      over : (n : ℕ) → n ≢ 0 → is_above_zero (pos n) ≡ true
      over zero other = absurd (other refl)
      over (suc n) other = refl

-- HOW MANY CLAUSES A STEP ADDS

pub added_one : (log : List Step) (view : StepView) → view.erase ≡ false →
    added_count (log ++ step_of view ∷ []) ≡ suc (added_count log)
added_one log view is = rw is (added_count-push log view.id view.lits.now view.hints.now)

pub added_none : (log : List Step) (view : StepView) → view.erase ≡ true →
    added_count (log ++ step_of view ∷ []) ≡ added_count log
added_none log view is = rw is (added_count-erase log view.id view.hints.now)
