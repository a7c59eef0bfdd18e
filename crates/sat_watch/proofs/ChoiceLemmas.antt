-- Which positions of a new clause are chosen, and what is known of the literals there.
use Rattle.std.proofs.Common.{◌≡◌, ◌≢◌, ℕ, zero, suc, pos, ◌<◌, ◌≤◌, true, false, List, [], ◌∷◌, length, get_or, Option, None, Some, Contains, refl, sym, ap, ◌∙◌, subst, arith}
use Rattle.std.specs.Prelude.{IsPermutation, max, unwrap_or}
use Rattle.std.specs.List.{swap}
use Rattle.std.proofs.Math.Nat.{le-max_left, le-max_right}
use Rattle.std.proofs.lemmas.List.Edits.{swapped_from_swap}
use Rattle.std.proofs.lemmas.List.Sorted.{IsPermutation-swap, IsPermutation-trans}
use Rattle.sat_clause.specs.declared.literal.Lit.{Lit}
use Rattle.sat_clause.specs.Learned.{IsSimple}
use Rattle.sat_clause.specs.Literal.{Clause, lit, negation, variable}
use Rattle.sat_watch.specs.declared.entry.TrailEntry.{TrailEntry}
use Rattle.sat_watch.specs.Chains.{lit_at}
use Rattle.sat_watch.specs.Choice.{after_first, level_at}
use Rattle.sat_watch.specs.Watched.{is_false, true_at}
use Rattle.sat_watch.specs.Watches.{IsOnlyOne, highest}
use Rattle.sat_watch.proofs.LevelLemmas.{negation_true_is_false, true_level}
use Rattle.sat_watch.proofs.StoredLemmas.{default_free}
use Rattle.sat_watch.proofs.WatchLemmas.{apart_at, length_swap, simple_swap}
use Rattle.sat_clause.proofs.LiteralLaws.{negation-negation}
use Rattle.sat_watch.proofs.TrailLemmas.{never}

-- a false literal's negation is true at a level
pub false_at_level : (entries : List TrailEntry) (l : Lit) → is_false entries l ≡ true →
    (n : ℕ) × (true_at entries (negation l) ≡ Some n)
false_at_level entries l is =
    true_level entries (negation l)
    (subst (λ (x : Lit). is_false entries x ≡ true) (sym (negation-negation l)) is)

pub false_level_is : (entries : List TrailEntry) (l : Lit) (n : ℕ) → is_false entries l ≡ true →
    ((k : ℕ) → true_at entries (negation l) ≡ Some k → n ≡ k) →
    n ≡ unwrap_or (true_at entries (negation l)) 0
false_level_is entries l n is tells =
    let known = false_at_level entries l is in
    tells known.0 known.1 ∙ ap (λ (o : Option ℕ). unwrap_or o 0) (sym known.1)

-- and that of a literal that is not false is not true
pub free_level : (entries : List TrailEntry) (l : Lit) → is_false entries l ≡ false →
    true_at entries (negation l) ≡ None
free_level entries l free = by_option (true_at entries (negation l)) refl where
  by_option : (o : Option ℕ) → true_at entries (negation l) ≡ o →
      true_at entries (negation l) ≡ None
  by_option None e = e
  by_option (Some n) e = absurd (never _ (negation_true_is_false entries l n e) free)

pub free_level_zero : (entries : List TrailEntry) (l : Lit) → is_false entries l ≡ false →
    unwrap_or (true_at entries (negation l)) 0 ≡ 0
free_level_zero entries l free = ap (λ (o : Option ℕ). unwrap_or o 0) (free_level entries l free)

pub at_contains : (lits : Clause) (k : ℕ) → k < length lits → Contains lits (lit_at lits k)
at_contains lits k lt = (k, lt, default_free lits k (lit_at lits k) (lit (pos 0)) lt)

pub other_at : (n : ℕ) (lits : Clause) (i k : ℕ) → IsSimple n lits → i < length lits →
    k < length lits → k ≢ i → lit_at lits k ≢ lit_at lits i
other_at n lits i k simple li lk ne e =
    apart_at n lits k i (lit (pos 0)) simple lk li ne (ap variable e)

pub others_false : (n : ℕ) (entries : List TrailEntry) (lits : Clause) (i k : ℕ) → IsSimple n lits →
    IsOnlyOne entries lits (lit_at lits i) → i < length lits → k < length lits → k ≢ i →
    is_false entries (lit_at lits k) ≡ true
others_false n entries lits i k simple only li lk ne =
    only.2 (lit_at lits k) (at_contains lits k lk) (other_at n lits i k simple li lk ne)

max_le : (a b n : ℕ) → a ≤ n → b ≤ n → max a b ≤ n
max_le a b n la lb = omega arith

highest_le : (entries : List TrailEntry) (lits : Clause) (n : ℕ) →
    ((k : ℕ) → k < length lits → level_at entries lits k ≤ n) → highest entries lits ≤ n
highest_le entries [] n all = omega arith
highest_le entries (l ∷ ls) n all =
    max_le (unwrap_or (true_at entries (negation l)) 0) (highest entries ls) n (all 0 (omega arith))
    (highest_le entries ls n (λ k lt. all (suc k) (omega arith)))

pub le_highest : (entries : List TrailEntry) (lits : Clause) (k : ℕ) → k < length lits →
    level_at entries lits k ≤ highest entries lits
le_highest entries [] k lt = absurd (omega arith)
le_highest entries (l ∷ ls) zero lt =
    le-max_left (unwrap_or (true_at entries (negation l)) 0) (highest entries ls)
le_highest entries (l ∷ ls) (suc k) lt =
    let rest = le_highest entries ls k (omega arith) in
    let up = le-max_right (unwrap_or (true_at entries (negation l)) 0) (highest entries ls) in
    omega arith

-- a false literal at a level that no other one exceeds is false since the highest level
pub highest_at : (entries : List TrailEntry) (lits : Clause) (best : ℕ) → best < length lits →
    is_false entries (lit_at lits best) ≡ true →
    ((k : ℕ) → k < length lits → level_at entries lits k ≤ level_at entries lits best) →
    true_at entries (negation (lit_at lits best)) ≡ Some (highest entries lits)
highest_at entries lits best lt is all =
    let known = false_at_level entries (lit_at lits best) is in
    let here : level_at entries lits best ≡ known.0 =
    ap (λ (o : Option ℕ). unwrap_or o 0) known.1 in
    let low = highest_le entries lits (level_at entries lits best) all in
    let high = le_highest entries lits best lt in
    let same : known.0 ≡ highest entries lits = omega arith in
    known.1 ∙ ap Some same

-- the order in which the literals at positions i and j come first and second
module _ (lits : Clause) (i j : ℕ) (li : i < length lits) (lj : j < length lits) where
  abbrev pub ahead : Clause
  ahead = swap (swap lits 0 i) 1 (after_first i j)

  once : length (swap lits 0 i) ≡ length lits
  once = length_swap lits 0 i

  after_within : after_first i j < length lits
  after_within = by_j j lj where
    by_j : (m : ℕ) → m < length lits → after_first i m < length lits
    by_j zero lt = li
    by_j (suc m) lt = lt

  pub ahead_same : 2 ≤ length lits → IsPermutation lits ahead
  ahead_same two =
      IsPermutation-trans lits (swap lits 0 i) ahead
      (IsPermutation-swap lits (swap lits 0 i) 0 i (omega arith) li refl)
      (IsPermutation-swap (swap lits 0 i) ahead 1 (after_first i j) (omega (arith, once))
      (omega (arith, once, after_within)) refl)

  pub ahead_simple : (n : ℕ) → 2 ≤ length lits → IsSimple n lits → IsSimple n ahead
  ahead_simple n two simple =
      simple_swap n (swap lits 0 i) 1 (after_first i j) (omega (arith, once))
      (omega (arith, once, after_within)) (simple_swap n lits 0 i (omega arith) li simple)

  first_swap : (d : Lit) →
      (get_or (swap lits 0 i) 0 d ≡ get_or lits i d)
      × (get_or (swap lits 0 i) i d ≡ get_or lits 0 d)
      × ((m : ℕ) → m ≢ 0 → m ≢ i → get_or (swap lits 0 i) m d ≡ get_or lits m d)
  first_swap d = swapped_from_swap lits (swap lits 0 i) 0 i d (omega arith) li refl

  second_swap : (d : Lit) → 2 ≤ length lits →
      (get_or ahead 1 d ≡ get_or (swap lits 0 i) (after_first i j) d)
      × (get_or ahead (after_first i j) d ≡ get_or (swap lits 0 i) 1 d)
      × ((m : ℕ) → m ≢ 1 → m ≢ after_first i j → get_or ahead m d ≡ get_or (swap lits 0 i) m d)
  second_swap d two =
      swapped_from_swap (swap lits 0 i) ahead 1 (after_first i j) d (omega (arith, once))
      (omega (arith, once, after_within)) refl

  pub ahead_first : 2 ≤ length lits → j ≢ i → lit_at ahead 0 ≡ lit_at lits i
  ahead_first two ne =
      (second_swap (lit (pos 0)) two).2 0 (λ e. omega (arith, e))
      (not_first j ne) ∙ (first_swap (lit (pos 0))).0 where
        not_first : (m : ℕ) → m ≢ i → 0 ≢ after_first i m
        not_first zero m_ne = m_ne
        not_first (suc m) m_ne = λ e. omega (arith, e)

  pub ahead_second : 2 ≤ length lits → j ≢ i → lit_at ahead 1 ≡ lit_at lits j
  ahead_second two ne = (second_swap (lit (pos 0)) two).0 ∙ moved j ne where
    moved : (m : ℕ) → m ≢ i →
        get_or (swap lits 0 i) (after_first i m) (lit (pos 0)) ≡ get_or lits m (lit (pos 0))
    moved zero m_ne = (first_swap (lit (pos 0))).1
    moved (suc m) m_ne = (first_swap (lit (pos 0))).2 (suc m) (λ e. omega (arith, e)) m_ne

-- where there is one literal, which is not false, no level is above 0
pub single_highest : (entries : List TrailEntry) (lits : Clause) (i : ℕ) → length lits < 2 →
    i < length lits → is_false entries (lit_at lits i) ≡ false → highest entries lits ≡ 0
single_highest entries lits i one li free =
    let low = highest_le entries lits 0 (λ k lk.
    let same : k ≡ i = omega arith in
    let none : level_at entries lits k ≡ 0 =
    ap (level_at entries lits) same ∙ free_level_zero entries (lit_at lits i) free in omega arith)
    in
    omega arith

-- what is contained stands at a position
pub contained_at : (lits : Clause) (l : Lit) → Contains lits l →
    (p : ℕ) × (p < length lits) × (lit_at lits p ≡ l)
contained_at lits l has = (has.0, has.1, default_free lits has.0 (lit (pos 0)) l has.1 ∙ has.2)
