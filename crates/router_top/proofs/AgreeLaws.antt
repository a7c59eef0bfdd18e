-- Outcomes that are true of the same words and files by one crowd agree: they are one, or one of
-- them says that a search was left open.
use Rattle.std.specs.Prelude.{◌*◌, Bool, MatchResult, Option, None, is_some}
use Rattle.std.proofs.Common.{true, false, ◌≡◌, ◌∙◌, ◌⊎◌, ℕ, zero, suc, ◌<◌, ◌≤◌, List, length, Some, Ok, Err, Result, refl, sym, ap, subst, inl, inr, arith}
use Rattle.fpga_problem.proofs.FileLemmas.{one-problem}
use Rattle.fpga_problem.proofs.SourceLemmas.{reads-alike}
use Rattle.fpga_types.specs.Slots.{slots}
use Rattle.fpga_types.specs.declared.limits.TheConstants.{SLOT_LIMIT}
use Rattle.fpga_types.specs.Problem.{PlacedNetlist}
use Rattle.list_laws.proofs.Places.{some_is}
use Rattle.route_sweep.specs.Found.{IsHeld}
use Rattle.route_ways.specs.Way.{copies_by, is_limited}
use Rattle.sat_clause.specs.declared.limits.TheConstants.{CLAUSE_LIMIT}
use Rattle.router_words.specs.Refusal.{code_of}
use Rattle.router_words.specs.declared.fault.Refusal.{Refusal}
use Rattle.run_placed.specs.Bound.{IsTrueOfCut, bound_outcome}
use Rattle.run_checks.specs.Check.{ChecksTo, JudgesTo, VerifiesTo}
use Rattle.run_clauses.specs.Decode.{IsTrueOfModel}
use Rattle.run_made.specs.Generated.{IsTooLarge, Makes, HasRoom, IsTooMany}
use Rattle.run_clauses.specs.Method.{HasNone, clauses_by, IsCrowdFor}
use Rattle.run_checks.specs.Placed.{IsJudgement, JudgesPlaced, ReadsRouted}
use Rattle.router_top.specs.Search.{Search, clauses_held, core_search, route_search, sweep_of, sweep_search, clauses_at}
use Rattle.run_outcome.specs.Stopped.{are_timed, is_asked_timed, is_timed}
use Rattle.run_clauses.specs.Suited.{IsLeastUnsuited, IsTrueOfSuited, IsUnsuited, Suits, is_suited, obstacle_to}
use Rattle.run_outcome.specs.Agrees.{Agrees, AreBounds, IsOpenBelow}
use Rattle.router_top.specs.Truth.{IsOpenAt, IsReached, IsTrueAt, IsTrueOfDecoding, IsTrueOfEncoding, IsTrueOfJob, IsTrueOfSearch, IsTrueOfSuitedSearch, IsTrueOfWork, IsTrueOfCount, IsTrueBy}
use Rattle.run_outcome.specs.Subject.{FileMap, FileNames, IsHalted, RoutingProblem, job_of, Blames, Bounds, CheckAsked, Checks, Decodes, Encodes, Generates, JobAsked, JudgeAsked, Judges, Negotiates, RecipeAsked, Routes, Sweeps, TrialAsked, Tries, Verifies, VerifyAsked, Word, Method, Narrows}
use Rattle.run_outcome.specs.declared.outcome.Outcome.{Outcome}
use Rattle.run_outcome.specs.declared.outcome.Outcome.TheVariants.{Done, NotSymmetric, Undecided, Usage}
use Rattle.run_outcome.specs.declared.outcome.Obstacle.{Obstacle}
use Rattle.run_made.proofs.GeneratedLaws.{one-made}
use Rattle.run_outcome.proofs.PlacedLaws.{placed-agrees}
use Rattle.run_placed.proofs.GlobalLaws.{global-agrees}
use Rattle.run_placed.proofs.LeastLaws.{least-agrees}
use Rattle.router_top.proofs.ServeLaws.{limited-said}
use Rattle.run_outcome.proofs.StopLaws.{lack-poses, one-lack}
use Rattle.run_outcome.specs.declared.size_cause.SizeCause.{SizeCause}
use Rattle.run_outcome.specs.declared.size_cause.SizeCause.TheVariants.{ClausesOfTurns, FormulaClauses}

-- two true outcomes of the work on a problem are one, or both are true of one problem
work-agrees : (timed : Bool) (files : FileMap) (names : FileNames)
    (says : RoutingProblem → Outcome → Type 0) (a b : Outcome) → IsTrueOfWork names says (Some files) a
    → IsTrueOfWork names says (Some files) b
    → ((p : RoutingProblem) → says p a → says p b → Agrees timed a b) → Agrees timed a b
work-agrees timed files names says a b (inl h) (inl g) agree =
    inl (one-lack files names a b h g)
work-agrees timed files names says a b (inl h) (inr g) agree =
    absurd (lack-poses files names g.0 a h g.1)
work-agrees timed files names says a b (inr h) (inl g) agree =
    absurd (lack-poses files names h.0 b g h.1)
work-agrees timed files names says a b (inr h) (inr g) agree =
    agree h.0 h.2 (subst (λ (p : RoutingProblem). says p b)
    (one-problem files names g.0 h.0 g.1 h.1) g.2)

-- so of what is true of so many clauses
counts-agree : (cause : SizeCause) (count : ℕ) (says : Outcome → Type 0) (a b : Outcome)
    → IsTrueOfCount cause count (says a) a → IsTrueOfCount cause count (says b) b
    → (says a → says b → Agrees false a b) → Agrees false a b
counts-agree cause count says a b (inl h) (inl g) agree = inl (h.1 ∙ sym g.1)
counts-agree cause count says a b (inl h) (inr g) agree = absurd (omega (arith, h.0, g.0))
counts-agree cause count says a b (inr h) (inl g) agree = absurd (omega (arith, g.0, h.0))
counts-agree cause count says a b (inr h) (inr g) agree = agree h.1 g.1

-- ---- a search

-- two numbers in their order
order : (k n : ℕ) → (k < n) ⊎ (k ≡ n) ⊎ (n < k)
order zero zero = inr (inl refl)
order zero (suc n) = inl (omega arith)
order (suc k) zero = inr (inr (omega arith))
order (suc k) (suc n) = next (order k n)
  where
    next : (k < n) ⊎ (k ≡ n) ⊎ (n < k) → (suc k < suc n) ⊎ (suc k ≡ suc n) ⊎ (suc n < suc k)
    next (inl less) = inl (omega (arith, less))
    next (inr (inl same)) = inr (inl (ap suc same))
    next (inr (inr more)) = inr (inr (omega (arith, more)))

-- a number is not past the limit and within it
past-limit : (n : ℕ) → CLAUSE_LIMIT < n → n ≤ CLAUSE_LIMIT → ⊥
past-limit n more few = omega (arith, more, few)

module _ (search : Search) (p : RoutingProblem) where
  -- what is true of the clauses at a width
  abbrev IsTrueThere : (width : ℕ) → Outcome → Type 0
  IsTrueThere width outcome =
      IsTrueOfCount FormulaClauses (length (clauses_at search width p).clauses)
      (IsTrueOfCount ClausesOfTurns (clauses_held search width p)
      (IsTrueAt search p width outcome) outcome) outcome

  -- the search was left open, and came to another outcome at the same width or at a higher one
  open-below : (width higher : ℕ) (a b : Outcome) → width ≤ higher → IsOpenAt search width a
      → IsTrueThere higher b → IsOpenBelow (is_limited search.way) a b
  open-below width higher a b low (learned, ends, is_open) there =
      subst (λ (o : Outcome). IsOpenBelow (is_limited search.way) o b) (sym is_open) (go there)
    where
      left : Outcome → Type 0
      left o = IsOpenBelow (is_limited search.way) (Undecided width learned) o

      go : IsTrueThere higher b → IsOpenBelow (is_limited search.way) (Undecided width learned) b
      go (inl h) = subst left (sym h.1) (inl refl)
      go (inr (few, inl h)) = subst left (sym h.1) (inr refl)
      go (inr (few, inr (held, inl h))) = subst left (sym h.1) low
      go (inr (few, inr (held, inr (inl h)))) = subst left (sym h.2) low
      go (inr (few, inr (held, inr (inr (others, ends_too, is))))) = subst left (sym is) (
        low,
        λ unlimited. ends.unlimited unlimited ∙ sym (ends_too.unlimited unlimited),
      )

  -- a search that went on behind a width with another outcome was left open there with this one
  was-open : (width higher : ℕ) (a : Outcome) → IsReached search p width
      → IsReached search p higher → width < higher → IsTrueThere width a
      → IsOpenAt search width a
  was-open width higher a at on low there =
      let shown = on.lower width at.from low in go shown.0 shown.1 there
    where
      go : IsHeld (copies_by search.way) (clauses_at search width p)
          → HasNone search.method width p → IsTrueThere width a
          → IsOpenAt search width a
      go room none (inl h) = absurd (omega (arith, room.few, h.0))
      go room none (inr (few, inl h)) =
          absurd (past-limit (clauses_held search width p) h.0 room.all)
      go room none (inr (few, inr (held, inl h))) = absurd (none h.0.0 h.0.1)
      go room none (inr (few, inr (held, inr (inl h)))) =
          absurd (omega (arith, h.1, low, on.to))
      go room none (inr (few, inr (held, inr (inr h)))) = h

  -- two outcomes at one width
  one-width : (width : ℕ) (a b : Outcome) → IsTrueThere width a → IsTrueThere width b
      → Agrees (is_limited search.way) a b
  one-width width a b (inl h) (inl g) = inl (h.1 ∙ sym g.1)
  one-width width a b (inl h) (inr g) = absurd (omega (arith, h.0, g.0))
  one-width width a b (inr h) (inl g) = absurd (omega (arith, g.0, h.0))
  one-width width a b (inr (few, inl h)) (inr (so, inl g)) = inl (h.1 ∙ sym g.1)
  one-width width a b (inr (few, inl h)) (inr (so, inr g)) =
      absurd (past-limit (clauses_held search width p) h.0 g.0)
  one-width width a b (inr (few, inr h)) (inr (so, inl g)) =
      absurd (past-limit (clauses_held search width p) g.0 h.0)
  one-width width a b (inr (few, inr (held, inl h))) (inr (so, inr (less, inl g))) =
      inl (h.1 ∙ sym g.1)
  one-width width a b (inr (few, inr (held, inl h))) (inr (so, inr (less, inr (inl g)))) =
      absurd (g.0 h.0.0 h.0.1)
  one-width width a b (inr (few, inr (held, inr (inl h)))) (inr (so, inr (less, inl g))) =
      absurd (h.0 g.0.0 g.0.1)
  one-width width a b (inr (few, inr (held, inr (inl h)))) (inr (so, inr (less, inr (inl g)))) =
      inl (h.2 ∙ sym g.2)
  one-width width a b (inr (few, inr (held, inr (inr h)))) (inr (so, inr g)) =
      inr (inl (open-below width width a b (omega arith) h (inr (so, inr g))))
  one-width width a b (inr (few, inr h)) (inr (so, inr (less, inr (inr g)))) =
      inr (inr (inl (open-below width width b a (omega arith) g (inr (few, inr h)))))

  search-agrees : (a b : Outcome) → IsTrueOfSearch search p a → IsTrueOfSearch search p b
      → Agrees (is_limited search.way) a b
  search-agrees a b (width, at, h) (other, on, g) = go (order width other)
    where
      go : (width < other) ⊎ (width ≡ other) ⊎ (other < width) → Agrees (is_limited search.way) a b
      go (inl less) = inr (inl (open-below width other a b (omega (arith, less))
          (was-open width other a at on less h) g))
      go (inr (inl same)) =
          one-width width a b h (subst (λ (n : ℕ). IsTrueThere n b) (sym same) g)
      go (inr (inr more)) = inr (inr (inl (open-below other width b a (omega (arith, more))
          (was-open other width b on at more g) h)))

-- ---- a method that does not suit the problem

-- a method does not suit a problem and suit it
not-suited : (method : Method) (width : ℕ) (p : RoutingProblem) → is_suited method width p ≡ false
    → is_suited method width p ≡ true → ⊥
not-suited method width p unsuited suited = cc

module _ (method : Method) (first last : ℕ) (p : RoutingProblem) where
  -- there is one least width at which the method does not suit the problem
  one-least : (width other : ℕ) (why why_other : Obstacle)
      → IsLeastUnsuited method first last p width why
      → IsLeastUnsuited method first last p other why_other → width ≡ other
  one-least width other why why_other h g = go (order width other)
    where
      go : (width < other) ⊎ (width ≡ other) ⊎ (other < width) → width ≡ other
      go (inl less) = absurd (not-suited method width p h.unsuited (g.lower width h.from less))
      go (inr (inl same)) = same
      go (inr (inr more)) =
          absurd (not-suited method other p g.unsuited (h.lower other g.from more))

  -- and one obstacle there
  one-reason : (width other : ℕ) (why why_other : Obstacle)
      → IsLeastUnsuited method first last p width why
      → IsLeastUnsuited method first last p other why_other → width ≡ other → why ≡ why_other
  one-reason width other why why_other h g same =
      some_is (sym h.because ∙ ap (λ (n : ℕ). obstacle_to method n p) same ∙ g.because)

  one-unsuited : (a b : Outcome) → IsUnsuited method first last p a
      → IsUnsuited method first last p b → a ≡ b
  one-unsuited a b (width, why, h, is) (other, why_other, g, is_other) =
      let same = one-least width other why why_other h g in
      let reason = one-reason width other why why_other h g same in
      is ∙ (λ i. NotSymmetric (same i) (reason i)) ∙ sym is_other

  not-both-suit : (a : Outcome) → IsUnsuited method first last p a
      → Suits method first last p → ⊥
  not-both-suit a (width, why, h, is) suits =
      not-suited method width p h.unsuited (suits width h.from h.to)

  suited-agrees : (timed : Bool) (says : Outcome → Type 0) (a b : Outcome)
      → IsTrueOfSuited method first last p (says a) a
      → IsTrueOfSuited method first last p (says b) b → (says a → says b → Agrees timed a b)
      → Agrees timed a b
  suited-agrees timed says a b (inl h) (inl g) agree = inl (one-unsuited a b h g)
  suited-agrees timed says a b (inl h) (inr g) agree = absurd (not-both-suit a h g.0)
  suited-agrees timed says a b (inr h) (inl g) agree = absurd (not-both-suit b g h.0)
  suited-agrees timed says a b (inr h) (inr g) agree = agree h.1 g.1

check-agrees : (job : CheckAsked) (files : FileMap) (a b : Outcome)
    → ChecksTo (IsHalted (Some files)) (Some files) job a
    → ChecksTo (IsHalted (Some files)) (Some files) job b → a ≡ b
check-agrees job files a b h g = reads-alike files h g
    (λ cnf h g. reads-alike files h g (λ log is other. is ∙ sym other))

verify-agrees : (job : VerifyAsked) (files : FileMap) (a b : Outcome)
    → VerifiesTo (IsHalted (Some files)) (Some files) job a
    → VerifiesTo (IsHalted (Some files)) (Some files) job b → Agrees false a b
verify-agrees job files a b h g =
    work-agrees false files job.files (JudgesTo (IsHalted (Some files)) (Some files) job) a b h g
    (λ p h g. inl (reads-alike files h g (λ found is other. is ∙ sym other)))

judge-agrees : (job : JudgeAsked) (files : FileMap) (a b : Outcome)
    → JudgesPlaced (IsHalted (Some files)) (Some files) job (IsJudgement job) a
    → JudgesPlaced (IsHalted (Some files)) (Some files) job (IsJudgement job) b → Agrees false a b
judge-agrees job files a b h g =
    placed-agrees false files job.files
    (ReadsRouted (IsHalted (Some files)) (Some files) job (IsJudgement job)) a b h g
    (λ placed h g. inl (reads-alike files h g (λ found is other. is ∙ sym other)))

-- ---- a cut of a placement

bounds-agree : (placed : PlacedNetlist) (a b : Outcome) → IsTrueOfCut placed a
    → IsTrueOfCut placed b → Agrees false a b
bounds-agree placed a b (cut, best, is) (other, best_other, is_other) =
    inr (inr (inr (inl (subst (λ (o : Outcome). AreBounds o b) (sym is)
    (subst (λ (o : Outcome). AreBounds (bound_outcome cut) o) (sym is_other) tt)))))

-- ---- a generated problem

not-both : (nets blocks : ℕ) → blocks < nets → nets ≤ blocks → ⊥
not-both nets blocks more few = omega (arith, more, few)

recipe-agrees : (recipe : RecipeAsked) (says : Outcome → Type 0) (a b : Outcome)
    → IsTooMany recipe a ⊎ (HasRoom recipe × says a)
    → IsTooMany recipe b ⊎ (HasRoom recipe × says b)
    → (says a → says b → Agrees false a b) → Agrees false a b
recipe-agrees recipe says a b (inl h) (inl g) agree = inl (h.1 ∙ sym g.1)
recipe-agrees recipe says a b (inl h) (inr g) agree =
    absurd (not-both recipe.nets (recipe.side * recipe.side) h.0 g.0)
recipe-agrees recipe says a b (inr h) (inl g) agree =
    absurd (not-both recipe.nets (recipe.side * recipe.side) g.0 h.0)
recipe-agrees recipe says a b (inr h) (inr g) agree = agree h.1 g.1

module _ (crowd : List ℕ) (job : TrialAsked) where
  -- what is true of a problem that was made
  abbrev IsTrueOfMade : Outcome → Type 0
  IsTrueOfMade outcome = (p : RoutingProblem) × Makes job.recipe p
      × IsTrueOfSearch (sweep_search (sweep_of job) crowd) p outcome

  -- a problem is not too large and small enough
  not-large : (a b : Outcome) → IsTooLarge job.recipe a → IsTrueOfMade b → ⊥
  not-large a b h g =
      let few = subst (λ (p : RoutingProblem). length (slots p.route) ≤ SLOT_LIMIT)
      (one-made job.recipe g.0 h.0 g.1.made h.1) g.1.few in
      omega (arith, few, h.2)

  trial-agrees : (files : Option FileMap) (a b : Outcome) → IsTrueOfJob crowd (Tries job) files a
      → IsTrueOfJob crowd (Tries job) files b → Agrees (is_timed (Tries job)) a b
  trial-agrees files a b (inl h) (inl g) = inl (h.1 ∙ sym g.1)
  trial-agrees files a b (inl h) (inr (inl g)) =
      absurd (not-both job.recipe.nets (job.recipe.side * job.recipe.side) h.0 g.1.room)
  trial-agrees files a b (inl h) (inr (inr g)) =
      absurd (not-both job.recipe.nets (job.recipe.side * job.recipe.side) h.0 g.1.made.room)
  trial-agrees files a b (inr (inl h)) (inl g) =
      absurd (not-both job.recipe.nets (job.recipe.side * job.recipe.side) g.0 h.1.room)
  trial-agrees files a b (inr (inl h)) (inr (inl g)) = inl (h.3 ∙ sym g.3)
  trial-agrees files a b (inr (inl h)) (inr (inr g)) = absurd (not-large a b h g)
  trial-agrees files a b (inr (inr h)) (inl g) =
      absurd (not-both job.recipe.nets (job.recipe.side * job.recipe.side) g.0 h.1.made.room)
  trial-agrees files a b (inr (inr h)) (inr (inl g)) = absurd (not-large b a g h)
  trial-agrees files a b (inr (inr h)) (inr (inr g)) =
      subst (λ (timed : Bool). Agrees timed a b) (limited-said job.search None crowd)
      (search-agrees (sweep_search (sweep_of job) crowd) h.0 a b h.2
      (subst (λ (p : RoutingProblem). IsTrueOfSearch (sweep_search (sweep_of job) crowd) p b)
      (one-made job.recipe g.0 h.0 g.1.made h.1.made) g.2))

job-agrees : (crowd : List ℕ) (job : JobAsked) (files : FileMap) (a b : Outcome)
    → IsTrueOfJob crowd job (Some files) a → IsTrueOfJob crowd job (Some files) b
    → Agrees (is_timed job) a b
job-agrees crowd (Routes job) files a b h g =
    work-agrees (is_some job.search.seconds) files job.files
    (IsTrueOfSuitedSearch (route_search job crowd)) a b h g
    (λ p u v. suited-agrees job.search.method job.search.width job.search.width p
    (is_some job.search.seconds) (IsTrueOfSearch (route_search job crowd) p) a b u v
    (λ s t. subst (λ (timed : Bool). Agrees timed a b)
    (limited-said job.search job.members crowd)
    (search-agrees (route_search job crowd) p a b s t)))
job-agrees crowd (Sweeps job) files a b h g =
    work-agrees (is_some job.search.seconds) files job.files
    (IsTrueOfSuitedSearch (sweep_search job crowd)) a b h g
    (λ p u v. suited-agrees job.search.method 1 job.search.width p (is_some job.search.seconds)
    (IsTrueOfSearch (sweep_search job crowd) p) a b u v
    (λ s t. subst (λ (timed : Bool). Agrees timed a b)
    (limited-said job.search job.members crowd)
    (search-agrees (sweep_search job crowd) p a b s t)))
job-agrees crowd (Encodes job) files a b h g =
    work-agrees false files job.files (IsTrueOfEncoding job crowd) a b h g
    (λ p u v. suited-agrees job.method job.width job.width p false
    (λ said. IsCrowdFor job.method false crowd p × IsTrueOfCount FormulaClauses
    (length (clauses_by job.method crowd job.width p).clauses) (said ≡ Done) said) a b u v
    (λ s t. counts-agree FormulaClauses
    (length (clauses_by job.method crowd job.width p).clauses)
    (λ said. said ≡ Done) a b s.1 t.1 (λ e f. inl (e ∙ sym f))))
job-agrees crowd (Decodes job) files a b h g =
    work-agrees false files job.files (IsTrueOfDecoding job crowd (Some files)) a b h g
    (λ p u v. suited-agrees job.method job.width job.width p false
    (λ said. IsCrowdFor job.method false crowd p × IsTrueOfCount FormulaClauses
    (length (clauses_by job.method crowd job.width p).clauses)
    (IsTrueOfModel (IsHalted (Some files)) (Some files) job
    (clauses_by job.method crowd job.width p) said) said) a b u v
    (λ s t. counts-agree FormulaClauses
    (length (clauses_by job.method crowd job.width p).clauses)
    (IsTrueOfModel (IsHalted (Some files)) (Some files) job
    (clauses_by job.method crowd job.width p)) a b s.1 t.1
    (λ h g. inl (reads-alike files h g (λ literals is other. is ∙ sym other)))))
job-agrees crowd (Blames job) files a b h g =
    work-agrees (is_some job.seconds) files job.files
    (IsTrueOfSuitedSearch (core_search job crowd)) a b h g
    (λ p u v. suited-agrees job.method job.width job.width p (is_some job.seconds)
    (IsTrueOfSearch (core_search job crowd) p) a b u v
    (search-agrees (core_search job crowd) p a b))
job-agrees crowd (Checks job) files a b h g = inl (check-agrees job files a b h g)
job-agrees crowd (Verifies job) files a b h g = verify-agrees job files a b h g
job-agrees crowd (Judges job) files a b h g = judge-agrees job files a b h g
job-agrees crowd (Bounds job) files a b h g =
    placed-agrees false files job.files IsTrueOfCut a b h g (λ placed h g. bounds-agree placed a b h g)
job-agrees crowd (Negotiates job) files a b h g = global-agrees (is_some job.seconds) job files a b h g
job-agrees crowd (Narrows job) files a b h g = least-agrees (is_some job.seconds) job files a b h g
job-agrees crowd (Generates job) files a b h g =
    recipe-agrees job.recipe (λ said. said ≡ Done) a b h g (λ s t. inl (s ∙ sym t))
job-agrees crowd (Tries job) files a b h g = trial-agrees crowd job (Some files) a b h g

pub outcomes-agree : (crowd : List ℕ) (words : List Word) (files : FileMap) (a b : Outcome)
    → IsTrueBy crowd words (Some files) a → IsTrueBy crowd words (Some files) b
    → Agrees (are_timed words) a b
outcomes-agree crowd words files a b h g = go (job_of words) h g
  where
    go : (asked : Result JobAsked Refusal)
        → MatchResult asked (λ job. IsTrueOfJob crowd job (Some files) a)
        (λ cause. a ≡ Usage (code_of cause))
        → MatchResult asked (λ job. IsTrueOfJob crowd job (Some files) b)
        (λ cause. b ≡ Usage (code_of cause)) → Agrees (is_asked_timed asked) a b
    go (Ok job) h g = job-agrees crowd job files a b h g
    go (Err cause) h g = inl (h ∙ sym g)
