-- How slots are come to by steps, and that they are of the tree of the slot before.
use Rattle.std.proofs.Common.{◌≡◌, ℕ, zero, suc, ◌+◌, ◌<◌, ◌≤◌, Bool, true, false, cond, Option, Some, None, List, [], ◌∷◌, ◌++◌, length, get_or, drop, length-set, refl, sym, ap, subst, ◌∙◌, inl, inr, arith, All}
use Rattle.std.specs.Prelude.{◌==◌, ◌&&◌, nat_lt, find, slice_get, slice_set}
use Rattle.std.specs.Option.{option_map_or}
use Rattle.std.proofs.Math.ListN.{get_or-append}
use Rattle.std.proofs.Math.Seq.{drop-cons}
use Rattle.std.proofs.lemmas.Bool.{cases_lt}
use Rattle.std.proofs.lemmas.Bool.Decides.{Decides-eqb, nat_tests}
use Rattle.std.proofs.lemmas.List.{get_or-append-add, get_or-set_other, get_or-set_same, get_or_default, get_or_past}
use Rattle.std.proofs.lemmas.Option.{slice_get-get_or, slice_get_within}
use Rattle.list_laws.proofs.Members.{find-In}
use Rattle.fpga_types.specs.declared.limits.TheConstants.{STEP_LIMIT}
use Rattle.fpga_types.specs.declared.problem.RouteStep.{RouteStep}
use Rattle.fpga_types.proofs.MeetingLemmas.{both_true}
use Rattle.route_encode.proofs.CompeteLemmas.{differs}
use Rattle.problem_facts.proofs.CellCountLemmas.{cases-eq}
use Rattle.problem_facts.specs.Trees.{earlier_of, later_of, leads_to, reached_from, roots_of}
use Rattle.problem_facts.proofs.TreeLemmas.{length-roots, roots-low, roots-within}
use Rattle.problem_facts.specs.Leads.{AreLeads, AreTrees, IsLead, TreesState}
use Rattle.problem_facts.specs.declared.trees.Lead.{Lead}

-- ---- the first step that leads to a slot

pub none-lead : (steps : List RouteStep) (leads : List (Option Lead))
    → All (λ lead. lead ≡ None) leads → AreLeads steps (length steps) leads
none-lead steps leads none s inside =
    subst (λ (o : Option Lead). IsLead steps (length steps) s o) (sym (none s None inside))
    (ap (find (leads_to s)) (all-dropped steps))
  where
    all-dropped : (xs : List RouteStep) → drop (length xs) xs ≡ []
    all-dropped [] = refl
    all-dropped (x ∷ xs) = all-dropped xs

module _ (steps : List RouteStep) (k : ℕ) (step : RouteStep) (leads : List (Option Lead))
    (low : k < length steps) (at : step ≡ get_or steps k step)
    (after : AreLeads steps (k + 1) leads)
  where
    front : drop k steps ≡ step ∷ drop (k + 1) steps
    front =
        let next : suc k ≡ k + 1 = omega arith in
        drop-cons steps k step low
        ∙ (λ j. sym at j ∷ drop (next j) steps)

    there : slice_get steps k ≡ Some step
    there = slice_get-get_or steps k step low ∙ ap (λ (q : RouteStep). Some q) (sym at)

    found-as : (s : ℕ) (b : Bool) → leads_to s step ≡ b → find (leads_to s) (drop k steps)
        ≡ cond b (Some step) (find (leads_to s) (drop (k + 1) steps))
    found-as s b e = ap (find (leads_to s)) front
        ∙ ap (λ (c : Bool). cond c (Some step) (find (leads_to s) (drop (k + 1) steps))) e

    lead-kept : (s : ℕ) (lead : Option Lead) → leads_to s step ≡ false
        → IsLead steps (k + 1) s lead → IsLead steps k s lead
    lead-kept s None aside is = found-as s false aside ∙ is
    lead-kept s (Some lead) aside is = (is.0, found-as s false aside ∙ is.1, is.2, is.3)

    -- a step from a slot to itself leads nowhere
    pub leads-skip : earlier_of step ≡ later_of step → AreLeads steps k leads
    leads-skip level s inside =
        lead-kept s (get_or leads s None) (nowhere (earlier_of step) (later_of step) level)
        (after s inside)
      where
        nowhere : (a b : ℕ) → a ≡ b → (b == s && nat_lt a s) ≡ false
        nowhere a b e = grind (arith, nat_tests)

    -- another one leads to the later slot
    pub leads-note : earlier_of step < later_of step → later_of step < length leads
        → AreLeads steps k (slice_set leads (later_of step)
        (Some (record { from = earlier_of step; step = k })))
    leads-note rises room s inside = elim (cases-eq s (later_of step)) [
      | inl same ↦
          subst (λ (o : Option Lead). IsLead steps k s o)
          (sym (ap (λ (n : ℕ). get_or (slice_set leads (later_of step) (Some lead)) n None) same
          ∙ get_or-set_same leads (later_of step) (Some lead) None room))
          (step, found-as s true (comes s same), there, refl)
      | inr other ↦
          subst (λ (o : Option Lead). IsLead steps k s o)
          (sym (get_or-set_other leads (later_of step) s (Some lead) None other))
          (lead-kept s (get_or leads s None)
          (rw (differs (later_of step) s (λ e. other (sym e))) refl)
          (after s (omega (arith, inside, length-set leads (later_of step) (Some lead)))))
    ]
      where
        lead : Lead
        lead = record { from = earlier_of step; step = k }

        comes : (n : ℕ) → n ≡ later_of step → leads_to n step ≡ true
        comes n same = rw (
          (Decides-eqb (later_of step) n).1 (sym same),
          below (earlier_of step) n (omega (arith, same, rises)),
        ) refl
          where
            below : (a b : ℕ) → a < b → nat_lt a b ≡ true
            below a b h = grind (arith, nat_tests)

-- ---- the slots that stand for trees

module _ (steps : List RouteStep) where
  pub early : (s : ℕ) (step : RouteStep) → find (leads_to s) steps ≡ Some step → earlier_of step < s
  early s step e =
      let found = find-In (leads_to s) steps step e in
      below (earlier_of step) s
      (both_true (later_of step == s) (nat_lt (earlier_of step) s) found.1).1
    where
      below : (a b : ℕ) → nat_lt a b ≡ true → a < b
      below a b h = grind (arith, nat_tests)

  abbrev roots : ℕ → List ℕ
  roots n = roots_of steps n

  abbrev newest : ℕ → ℕ
  newest n = get_or (roots n) (reached_from steps n) n

  roots-kept : (n k : ℕ) → k < n → get_or (roots (suc n)) k 0 ≡ get_or (roots n) k 0
  roots-kept n k low =
      get_or-append (roots n) (newest n ∷ []) 0 k (omega (arith, low, length-roots steps n))

  roots-newest : (n : ℕ) → get_or (roots (suc n)) n 0 ≡ newest n
  roots-newest n =
      let at : n ≡ length (roots n) + 0 = omega (arith, length-roots steps n) in
      ap (λ (m : ℕ). get_or (roots n ++ newest n ∷ []) m 0) at
      ∙ get_or-append-add (roots n) (newest n ∷ []) 0 0

  pub newest-first : (n : ℕ) → find (leads_to n) steps ≡ None → newest n ≡ n
  newest-first n none =
      ap (λ (o : Option RouteStep). get_or (roots n) (option_map_or earlier_of o n) n) none
      ∙ get_or_past (roots n) n n (omega (arith, length-roots steps n))

  pub newest-led : (n : ℕ) (step : RouteStep) → find (leads_to n) steps ≡ Some step
      → newest n ≡ get_or (roots n) (earlier_of step) 0
  newest-led n step found =
      let before = early n step found in
      ap (λ (o : Option RouteStep). get_or (roots n) (option_map_or earlier_of o n) n) found
      ∙ get_or_default (roots n) (earlier_of step) n 0
      (omega (arith, before, length-roots steps n))

  -- a slot to which no step leads stands for its tree
  pub root-first : (n s : ℕ) → s < n → find (leads_to s) steps ≡ None → get_or (roots n) s 0 ≡ s
  root-first zero s low none = absurd (omega (arith, low))
  root-first (suc n) s low none = elim (cases_lt s n) [
    | inl before ↦ roots-kept n s before ∙ root-first n s before none
    | inr not_before ↦
        (let same : n ≡ s = omega (arith, low, not_before) in
        subst (λ (m : ℕ). get_or (roots (suc n)) m 0 ≡ m) same
        (roots-newest n ∙ newest-first n
        (subst (λ (m : ℕ). find (leads_to m) steps ≡ None) (sym same) none)))
  ]

  -- another one is of the tree of the slot before
  pub root-led : (n s : ℕ) (step : RouteStep) → s < n → find (leads_to s) steps ≡ Some step
      → get_or (roots n) (earlier_of step) 0 ≡ get_or (roots n) s 0
  root-led zero s step low found = absurd (omega (arith, low))
  root-led (suc n) s step low found =
      let before : earlier_of step < s = early s step found in
      elim (cases_lt s n) [
        | inl inside ↦
            roots-kept n (earlier_of step) (omega (arith, before, inside))
            ∙ root-led n s step inside found ∙ sym (roots-kept n s inside)
        | inr not_inside ↦
            (let same : n ≡ s = omega (arith, low, not_inside) in
            subst (λ (m : ℕ). get_or (roots (suc n)) (earlier_of step) 0
            ≡ get_or (roots (suc n)) m 0) same
            (roots-kept n (earlier_of step) (omega (arith, before, same))
            ∙ sym (roots-newest n ∙ newest-led n step
            (subst (λ (m : ℕ). find (leads_to m) steps ≡ Some step) (sym same) found))))
      ]

-- the slot that stands for a tree stands for its own
module _ (steps : List RouteStep) (n : ℕ) where
  abbrev root : ℕ → ℕ
  root s = get_or (roots_of steps n) s 0

  root-root-below : (m k : ℕ) → k < m → k < n → root (root k) ≡ root k
  root-root-below zero k before low = absurd (omega (arith, before))
  root-root-below (suc m) k before low =
      go (λ j inside there. root-root-below m j inside there) (find (leads_to k) steps) refl
    where
      go : ((j : ℕ) → j < m → j < n → root (root j) ≡ root j) → (o : Option RouteStep)
          → find (leads_to k) steps ≡ o → root (root k) ≡ root k
      go earlier None e = ap root (root-first steps n k low e)
      go earlier (Some step) e =
          let first : earlier_of step < k = early steps k step e in
          let same : root (earlier_of step) ≡ root k = root-led steps n k step low e in
          let there : root (root (earlier_of step)) ≡ root (earlier_of step) =
          earlier (earlier_of step) (omega (arith, first, before))
          (omega (arith, first, low)) in
          ap root (sym same) ∙ there ∙ same

  pub root-root : (k : ℕ) → k < n → root (root k) ≡ root k
  root-root k low = root-root-below (suc k) k (omega arith) low

-- the slots and how they are come to make trees
pub are-trees : (steps : List RouteStep) (n : ℕ) (t : TreesState) → length steps ≤ STEP_LIMIT
    → length t.leads ≡ n → t.roots ≡ roots_of steps n → AreLeads steps 0 t.leads → AreTrees t
are-trees steps n t few count are leads =
    let size : length t.roots ≡ n = ap length are ∙ length-roots steps n in record {
      each = count ∙ sym size;
      low = λ s low. subst (λ (xs : List ℕ). get_or xs s 0 ≤ s) (sym are)
          (roots-low steps n s (omega (arith, low, size)));
      within = subst (λ (m : ℕ). All (λ root. root < m) t.roots) (sym size)
          (subst (λ (xs : List ℕ). All (λ root. root < n) xs) (sym are) (roots-within steps n));
      first = λ s low none.
          let is : find (leads_to s) steps ≡ None =
          subst (λ (o : Option Lead). IsLead steps 0 s o) none
          (leads s (omega (arith, low, size, count))) in
          ap (λ (xs : List ℕ). get_or xs s 0) are
          ∙ root-first steps n s (omega (arith, low, size)) is;
      led = λ s lead low some.
          let is = subst (λ (o : Option Lead). IsLead steps 0 s o) some
          (leads s (omega (arith, low, size, count))) in
          let before = early steps s is.0 is.1 in
          let inside = slice_get_within steps lead.step is.0 is.2 in (
            omega (arith, before, is.3),
            omega (arith, inside, few),
            ap (λ (xs : List ℕ). get_or xs lead.from 0) are
                ∙ ap (λ (m : ℕ). get_or (roots_of steps n) m 0) is.3
                ∙ root-led steps n s is.0 (omega (arith, low, size)) is.1
                ∙ ap (λ (xs : List ℕ). get_or xs s 0) (sym are),
          );
    }
