-- What the slots that stand for trees are.
use Rattle.std.proofs.Common.{◌≡◌, ℕ, zero, suc, ◌+◌, ◌<◌, ◌≤◌, true, Option, Some, None, List, [], ◌∷◌, ◌++◌, length, length-append, get_or, refl, ap, ◌∙◌, inl, inr, arith, All}
use Rattle.std.specs.Prelude.{◌==◌, nat_lt, find}
use Rattle.std.specs.Option.{option_map_or}
use Rattle.std.proofs.lemmas.Bool.{cases_lt}
use Rattle.std.proofs.lemmas.Bool.Decides.{nat_tests}
use Rattle.std.proofs.Math.ListN.{get_or-append}
use Rattle.std.proofs.lemmas.List.{get_or-append-add, get_or_default, get_or_past}
use Rattle.std.proofs.lemmas.List.Elements.{All-from_get_or}
use Rattle.list_laws.proofs.Members.{find-In}
use Rattle.fpga_types.specs.declared.problem.RouteStep.{RouteStep}
use Rattle.fpga_types.proofs.MeetingLemmas.{both_true}
use Rattle.problem_facts.specs.Trees.{earlier_of, later_of, leads_to, reached_from, roots_of}

-- a slot is reached from an earlier one, or is the first of its tree
pub reached-early : (steps : List RouteStep) (s : ℕ) → reached_from steps s ≤ s
reached-early steps s = go (find (leads_to s) steps) refl
  where
    go : (o : Option RouteStep) → find (leads_to s) steps ≡ o → option_map_or earlier_of o s ≤ s
    go None e = omega arith
    go (Some step) e =
        let found = find-In (leads_to s) steps step e in
        below (earlier_of step) s
        (both_true (later_of step == s) (nat_lt (earlier_of step) s) found.1).1
      where
        below : (a b : ℕ) → nat_lt a b ≡ true → a ≤ b
        below a b h = grind (arith, nat_tests)

pub length-roots : (steps : List RouteStep) (n : ℕ) → length (roots_of steps n) ≡ n
length-roots steps zero = refl
length-roots steps (suc n) =
    let more = length-append (roots_of steps n)
    (get_or (roots_of steps n) (reached_from steps n) n ∷ []) in
    omega (arith, more, length-roots steps n)

one-more : (steps : List RouteStep) (n k : ℕ) → k < suc n
    → ((j : ℕ) → j < n → get_or (roots_of steps n) j 0 ≤ j)
    → get_or (roots_of steps (suc n)) k 0 ≤ k
one-more steps n k low early = elim (cases_lt k n) [
  | inl before ↦
      (let e = get_or-append xs last 0 k (omega (arith, before, length-roots steps n)) in
      omega (arith, e, early k before))
  | inr not_before ↦
      (let same : k ≡ length xs + 0 = omega (arith, low, not_before, length-roots steps n) in
      let here : get_or (xs ++ last) k 0 ≡ get_or xs q n =
      ap (λ (m : ℕ). get_or (xs ++ last) m 0) same ∙ get_or-append-add xs last 0 0 in
      omega (arith, here, same, length-roots steps n, low-root))
]
  where
    xs : List ℕ
    xs = roots_of steps n

    q : ℕ
    q = reached_from steps n

    last : List ℕ
    last = get_or xs q n ∷ []

    low-root : get_or xs q n ≤ n
    low-root = elim (cases_lt q n) [
      | inl before ↦
          (let e = get_or_default xs q n 0 (omega (arith, before, length-roots steps n)) in
          omega (arith, e, early q before, before))
      | inr not_before ↦
          (let e = get_or_past xs q n (omega (arith, not_before, length-roots steps n)) in
          omega (arith, e))
    ]

-- none stands behind its tree's slots
pub roots-low : (steps : List RouteStep) (n k : ℕ) → k < n → get_or (roots_of steps n) k 0 ≤ k
roots-low steps zero k low = absurd (omega (arith, low))
roots-low steps (suc n) k low =
    one-more steps n k low (λ j inside. roots-low steps n j inside)

pub roots-within : (steps : List RouteStep) (n : ℕ) → All (λ root. root < n) (roots_of steps n)
roots-within steps n =
    All-from_get_or (λ root. root < n) (roots_of steps n) 0 (λ k low.
    let inside : k < n = omega (arith, low, length-roots steps n) in
    omega (arith, roots-low steps n k inside, inside))
