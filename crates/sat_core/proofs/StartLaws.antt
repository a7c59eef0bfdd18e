-- How a clause stands at level 0, by the first positions whose literals are not false.
use Rattle.std.specs.Prelude.{is_some, max, unwrap_or}
use Rattle.std.proofs.Common.{inl, inr, ◌≡◌, ◌≢◌, ◌+◌, ℕ, pos, Bool, true, false, List, [], ◌∷◌, Option, None, Some, Contains, refl, sym, ◌∙◌, subst, arith}
use Rattle.std.proofs.lemmas.Bool.{cases_eq, cases_lt}
use Rattle.std.proofs.lemmas.List.Elements.{All-contains}
use Rattle.sat_clause.specs.declared.literal.Lit.{Lit}
use Rattle.sat_clause.specs.Learned.{IsSimple}
use Rattle.sat_clause.specs.Literal.{Clause, IsWithin, lit, negation}
use Rattle.sat_watch.specs.declared.entry.TrailEntry.{TrailEntry}
use Rattle.sat_watch.specs.Chains.{lit_at}
use Rattle.sat_watch.specs.Choice.{FreeSays}
use Rattle.sat_watch.specs.Trail.{value_in}
use Rattle.sat_watch.specs.Watched.{AreFalse, is_false, true_at}
use Rattle.sat_watch.specs.Watches.{HasOneTrue, HasTwoFree, IsOnlyOne, WatchState, highest}
use Rattle.sat_watch.proofs.ChoiceLemmas.{at_contains, contained_at, other_at}
use Rattle.sat_watch.proofs.LevelLemmas.{true_level}
use Rattle.sat_watch.proofs.StoredLemmas.{default_free}
use Rattle.sat_core.specs.SearchStore.{IsLeveled}
use Rattle.sat_core.specs.Start.{IsUnit}
use Rattle.sat_core.proofs.AttachLaws.{level_zero, true_none, value_says}
use Rattle.sat_core.proofs.DecideLaws.{none_is_open}

-- a literal whose value is not false is not false, and one whose value is, is
pub free_value : (trail : List TrailEntry) (l : Lit) (o : Option Bool) → value_in trail l ≡ o →
    unwrap_or o true ≡ true → is_false trail l ≡ false
free_value trail l None is free = (value_says trail l None is).0
free_value trail l (Some true) is free = (value_says trail l (Some true) is).0
free_value trail l (Some false) is free = cc

pub false_value : (trail : List TrailEntry) (l : Lit) (o : Option Bool) → value_in trail l ≡ o →
    unwrap_or o true ≡ false → is_false trail l ≡ true
false_value trail l None is not_free = cc
false_value trail l (Some true) is not_free = cc
false_value trail l (Some false) is not_free = value_says trail l (Some false) is

-- no position is free
pub all_false : (trail : List TrailEntry) (lits : Clause) → FreeSays trail lits 0 None →
    AreFalse trail lits
all_false trail lits none k d within =
    subst (λ (m : Lit). is_false trail m ≡ true) (default_free lits k (lit (pos 0)) d within)
    (none k (omega arith) within)

-- at level 0 what is false became so there
highest_start : (s : WatchState) (lits : Clause) → IsLeveled s → s.level ≡ 0 →
    highest s.trail lits ≡ 0
highest_start s [] leveled level = refl
highest_start s (l ∷ ls) leveled level =
    by (true_at s.trail (negation l)) refl (highest_start s ls leveled level)
  where
    by : (o : Option ℕ) → true_at s.trail (negation l) ≡ o → highest s.trail ls ≡ 0 →
        max (unwrap_or o 0) (highest s.trail ls) ≡ 0
    by None is rest = omega (arith, rest)
    by (Some n) is rest =
        let low : n ≡ 0 = level_zero s (negation l) n leveled level is in
        omega (arith, rest, low)

-- two positions are free
two_positions : (n : ℕ) (trail : List TrailEntry) (lits : Clause) (i j : ℕ) →
    IsSimple n lits → FreeSays trail lits 0 (Some i) → FreeSays trail lits (i + 1) (Some j) →
    HasTwoFree trail lits
two_positions n trail lits i j simple first second =
    let low = second.0 in (
      lit_at lits i,
      lit_at lits j,
      at_contains lits i first.1,
      at_contains lits j second.1,
      other_at n lits j i simple second.1 first.1 (omega (arith, low)),
      first.2,
      second.2,
    )

-- a second free position is found, or none
pub second_found : (n : ℕ) (trail : List TrailEntry) (lits : Clause) (i : ℕ) (o : Option ℕ) →
    IsSimple n lits → FreeSays trail lits 0 (Some i) → FreeSays trail lits (i + 1) o →
    is_some o ≡ true → HasTwoFree trail lits
second_found n trail lits i None simple first second some = cc
second_found n trail lits i (Some j) simple first second some =
    two_positions n trail lits i j simple first second

pub second_missing : (trail : List TrailEntry) (lits : Clause) (i : ℕ) (o : Option ℕ) →
    FreeSays trail lits (i + 1) o → is_some o ≡ false → FreeSays trail lits (i + 1) None
second_missing trail lits i None second none = second
second_missing trail lits i (Some j) second none = cc

-- one position is free
module _ (s : WatchState) (lits : Clause) (i : ℕ) (simple : IsSimple s.vars lits)
    (level : s.level ≡ 0) (leveled : IsLeveled s) (first : FreeSays s.trail lits 0 (Some i))
    (second : FreeSays s.trail lits (i + 1) None) where
  others : (m : Lit) → Contains lits m → m ≢ lit_at lits i → is_false s.trail m ≡ true
  others m has other =
      let at = contained_at lits m has in
      let p : ℕ = at.0 in
      subst (λ (x : Lit). is_false s.trail x ≡ true) at.2
      (elim (cases_lt p i) [
        | inl before ↦ first.3 p (omega arith) before
        | inr behind ↦ elim (cases_eq p i) [
          | inl same ↦ absurd (other (subst (λ (k : ℕ). m ≡ lit_at lits k) same (sym at.2)))
          | inr apart ↦ second p (omega (arith, behind, apart)) at.1
        ]
      ])

  only_position : IsOnlyOne s.trail lits (lit_at lits i)
  only_position = (at_contains lits i first.1, first.2, others)

  -- its literal is true
  pub true_position : value_in s.trail (lit_at lits i) ≡ Some true → HasOneTrue s.trail lits
  true_position is =
      let l : Lit = lit_at lits i in
      let says = value_says s.trail l (Some true) is in
      let at = true_level s.trail l says.1 in
      let low : at.0 ≡ 0 = level_zero s l at.0 leveled level at.1 in
      (l, at.0, only_position, at.1, omega (arith, low))

  -- a free literal with a value is true
  pub some_position : (o : Option Bool) → value_in s.trail (lit_at lits i) ≡ o → o ≢ None →
      HasOneTrue s.trail lits
  some_position None is some = absurd (some refl)
  some_position (Some true) is some = true_position is
  some_position (Some false) is some =
      let bad = value_says s.trail (lit_at lits i) (Some false) is in
      let free = first.2 in
      let clash : true ≡ false = sym bad ∙ free in cc

  -- its literal is open
  pub open_position : value_in s.trail (lit_at lits i) ≡ None → IsUnit s lits (lit_at lits i)
  open_position is =
      let l : Lit = lit_at lits i in
      let says = value_says s.trail l None is in
      record {
        within = All-contains (IsWithin s.vars) lits l simple.within (at_contains lits i first.1);
        is_open = none_is_open s.trail l is;
        others = record { has = at_contains lits i first.1; others = others };
        one_open = (
          l,
          only_position,
          true_none s.trail l says.1,
          level ∙ sym (highest_start s lits leveled level),
        );
      }
