-- Refutations that grow, by a clause, a row of clauses or rows of them.
use Rattle.std.proofs.Common.{◌≡◌, ℕ, suc, ◌+◌, ◌*◌, Option, None, Some, refl, sym, subst, ap, inl, inr, ◌∙◌, add-one, arith, pos}
use Rattle.std.specs.Prelude.{IsSome}
use Rattle.std.proofs.Math.Nat.{add-mul, suc-mul}
use Rattle.std.proofs.lemmas.Bool.{cases_lt, false≢true}
use Rattle.sat_clause.specs.Literal.{Clause}
use Rattle.sat_clause.specs.Live.{named}
use Rattle.sat_count.specs.Places.{pair_place, pairs_below}
use Rattle.sat_count.specs.Refuting.{Adds, AreLive, Defines, Grows, Holds, IsMeaning, RefutationState, live_of}
use Rattle.sat_count.specs.Rows.{AddsPairs, AddsRow, AddsRows, DefinesRow, DefinesRows}

pub grows-none : (r : RefutationState) → Grows r r
grows-none r = record {
  cnf = refl;
  ids = omega arith;
  variables = omega arith;
  kept = λ id clause h. h;
  added = record { each = λ id behind last. absurd (omega (arith, behind, last)) };
}

live-kept : (old new : RefutationState) → Grows old new → (id : ℕ)
    → IsSome (named (live_of old) (pos id)) → IsSome (named (live_of new) (pos id))
live-kept old new grows id some = go (named (live_of old) (pos id)) refl some
  where
    go : (o : Option Clause) → named (live_of old) (pos id) ≡ o → IsSome o
        → IsSome (named (live_of new) (pos id))
    go None e h = absurd (false≢true h)
    go (Some c) e h = subst IsSome (sym (grows.kept id c (record { there = e })).there) refl

pub live-grows : (old new : RefutationState) (behind : ℕ) → Grows old new
    → AreLive old behind old.last_id → AreLive new behind new.last_id
live-grows old new behind grows live = record {
  each = λ id past last. elim (cases_lt old.last_id id) [
    | inl later ↦ grows.added.each id later last
    | inr before ↦ live-kept old new grows id (live.each id past (omega (arith, before)))
  ];
}

pub grows-on : (a b c : RefutationState) → Grows a b → Grows b c → Grows a c
grows-on a b c first second = record {
  cnf = second.cnf ∙ first.cnf;
  ids = omega (arith, first.ids, second.ids);
  variables = omega (arith, first.variables, second.variables);
  kept = λ id clause h. second.kept id clause (first.kept id clause h);
  added = live-grows b c a.last_id second first.added;
}

pub meaning-grows : (a b : RefutationState) (behind name kept moved given : ℕ) → Grows a b
    → IsMeaning a behind name kept moved given → IsMeaning b behind name kept moved given
meaning-grows a b behind name kept moved given grows m = record {
  by_kept = grows.kept (behind + 1) _ m.by_kept;
  by_moved = grows.kept (behind + 2) _ m.by_moved;
  or_moved = grows.kept (behind + 3) _ m.or_moved;
  or_given = grows.kept (behind + 4) _ m.or_given;
}

-- a clause under an id that is told otherwise
pub holds-at : (r : RefutationState) (i j : ℕ) (clause : Clause) → i ≡ j → Holds r i clause
    → Holds r j clause
holds-at r i j clause e h = subst (λ (n : ℕ). Holds r n clause) e h

-- ---- a row

pub row-none : (r : RefutationState) (f : ℕ → Clause) → AddsRow r r 0 f
row-none r f = record {
  last = omega arith;
  variables = refl;
  holds = λ k low. absurd (omega (arith, low));
  grows = grows-none r;
}

pub row-more : (a b c : RefutationState) (n : ℕ) (f : ℕ → Clause) → AddsRow a b n f
    → Adds b c (f n) → AddsRow a c (n + 1) f
row-more a b c n f row add = record {
  last = omega (arith, row.last, add.last);
  variables = add.variables ∙ row.variables;
  holds = λ k low. elim (cases_lt k n) [
    | inl before ↦ add.grows.kept (a.last_id + k + 1) (f k) (row.holds k before)
    | inr not_before ↦
        (let same : n ≡ k = omega (arith, low, not_before) in
        subst (λ (j : ℕ). Holds c (a.last_id + j + 1) (f j)) same
        (holds-at c (suc b.last_id) (a.last_id + n + 1) (f n) (omega (arith, row.last)) add.holds))
  ];
  grows = grows-on a b c row.grows add.grows;
}

-- ---- rows

pub rows-none : (r : RefutationState) (width : ℕ) (f : ℕ → ℕ → Clause) → AddsRows r r 0 width f
rows-none r width f = record {
  last = omega (arith, none);
  variables = refl;
  holds = λ i k low inside. absurd (omega (arith, low));
  grows = grows-none r;
}
  where
    none : 0 * width ≡ 0
    none = omega arith

pub more-rows : (n width : ℕ) → (n + 1) * width ≡ n * width + width
more-rows n width = ap (λ (m : ℕ). m * width) (add-one n) ∙ suc-mul n width

pub rows-more : (a b c : RefutationState) (n width : ℕ) (f : ℕ → ℕ → Clause)
    → AddsRows a b n width f → AddsRow b c width (f n) → AddsRows a c (n + 1) width f
rows-more a b c n width f rows row = record {
  last = omega (arith, rows.last, row.last, more-rows n width);
  variables = row.variables ∙ rows.variables;
  holds = λ i k low inside. elim (cases_lt i n) [
    | inl before ↦
        row.grows.kept (a.last_id + (i * width + k) + 1) (f i k) (rows.holds i k before inside)
    | inr not_before ↦
        (let same : n ≡ i = omega (arith, low, not_before) in
        subst (λ (j : ℕ). Holds c (a.last_id + (j * width + k) + 1) (f j k)) same
        (holds-at c (b.last_id + k + 1) (a.last_id + (n * width + k) + 1) (f n k)
        (omega (arith, rows.last)) (row.holds k inside)))
  ];
  grows = grows-on a b c rows.grows row.grows;
}

-- ---- pairs

pub pairs-none : (r : RefutationState) (tracks : ℕ) (f : ℕ → ℕ → ℕ → Clause)
    → AddsPairs r r 0 tracks f
pairs-none r tracks f = record {
  last = omega (arith, none);
  variables = refl;
  holds = λ lower higher track order low inside. absurd (omega (arith, low));
  grows = grows-none r;
}
  where
    none : 0 * tracks ≡ 0
    none = omega arith

pub more-pairs : (n : ℕ) → pairs_below (n + 1) ≡ pairs_below n + n
more-pairs n = ap pairs_below (add-one n)

pub pairs-more : (a b c : RefutationState) (n tracks : ℕ) (f : ℕ → ℕ → ℕ → Clause)
    → AddsPairs a b n tracks f → AddsRows b c n tracks (λ lower track. f lower n track)
    → AddsPairs a c (n + 1) tracks f
unfolding pair_place
pairs-more a b c n tracks f pairs rows = record {
  last =
      let more = ap (λ (m : ℕ). m * tracks) (more-pairs n) ∙ add-mul (pairs_below n) n tracks in
      omega (arith, pairs.last, rows.last, more);
  variables = rows.variables ∙ pairs.variables;
  holds = λ lower higher track order low inside. elim (cases_lt higher n) [
    | inl before ↦
        rows.grows.kept (a.last_id + pair_place tracks lower higher track + 1)
        (f lower higher track) (pairs.holds lower higher track order before inside)
    | inr not_before ↦
        (let same : n ≡ higher = omega (arith, low, not_before) in
        subst (λ (h : ℕ). Holds c (a.last_id + pair_place tracks lower h track + 1)
        (f lower h track)) same
        (let place = add-mul (pairs_below n) lower tracks in
        holds-at c (b.last_id + (lower * tracks + track) + 1)
        (a.last_id + pair_place tracks lower n track + 1) (f lower n track)
        (omega (arith, pairs.last, place))
        (rows.holds lower track (omega (arith, order, same)) inside)))
  ];
  grows = grows-on a b c pairs.grows rows.grows;
}

-- ---- variables

pub defined-none : (r : RefutationState) (kept moved given : ℕ → ℕ)
    → DefinesRow r r 0 kept moved given
defined-none r kept moved given = record {
  last = omega arith;
  variables = omega arith;
  meaning = λ k low. absurd (omega (arith, low));
  grows = grows-none r;
}

meaning-at : (r : RefutationState) (i j name other kept moved given : ℕ) → i ≡ j → name ≡ other
    → IsMeaning r i name kept moved given → IsMeaning r j other kept moved given
meaning-at r i j name other kept moved given e g m =
    subst (λ (n : ℕ). IsMeaning r n other kept moved given) e
    (subst (λ (v : ℕ). IsMeaning r i v kept moved given) g m)

pub defined-more : (a b c : RefutationState) (n : ℕ) (kept moved given : ℕ → ℕ)
    → DefinesRow a b n kept moved given → Defines b c (kept n) (moved n) (given n)
    → DefinesRow a c (n + 1) kept moved given
defined-more a b c n kept moved given row one = record {
  last = omega (arith, row.last, one.last);
  variables = omega (arith, row.variables, one.variables);
  meaning = λ k low. elim (cases_lt k n) [
    | inl before ↦
        meaning-grows b c (a.last_id + 4 * k) (a.last_variable + k) (kept k) (moved k) (given k)
        one.grows (row.meaning k before)
    | inr not_before ↦
        (let same : n ≡ k = omega (arith, low, not_before) in
        subst (λ (j : ℕ). IsMeaning c (a.last_id + 4 * j) (a.last_variable + j) (kept j) (moved j)
        (given j)) same
        (meaning-at c b.last_id (a.last_id + 4 * n) b.last_variable (a.last_variable + n) (kept n)
        (moved n) (given n) (omega (arith, row.last)) row.variables one.meaning))
  ];
  grows = grows-on a b c row.grows one.grows;
}

pub all-none : (r : RefutationState) (width : ℕ) (kept moved given : ℕ → ℕ → ℕ)
    → DefinesRows r r 0 width kept moved given
all-none r width kept moved given = record {
  last = omega (arith, none);
  variables = omega (arith, none);
  meaning = λ i k low inside. absurd (omega (arith, low));
  grows = grows-none r;
}
  where
    none : 0 * width ≡ 0
    none = omega arith

pub all-more : (a b c : RefutationState) (n width : ℕ) (kept moved given : ℕ → ℕ → ℕ)
    → DefinesRows a b n width kept moved given
    → DefinesRow b c width (kept n) (moved n) (given n)
    → DefinesRows a c (n + 1) width kept moved given
all-more a b c n width kept moved given rows row = record {
  last = omega (arith, rows.last, row.last, more-rows n width);
  variables = omega (arith, rows.variables, row.variables, more-rows n width);
  meaning = λ i k low inside. elim (cases_lt i n) [
    | inl before ↦
        meaning-grows b c (a.last_id + 4 * (i * width + k)) (a.last_variable + (i * width + k))
        (kept i k) (moved i k) (given i k) row.grows (rows.meaning i k before inside)
    | inr not_before ↦
        (let same : n ≡ i = omega (arith, low, not_before) in
        subst (λ (j : ℕ). IsMeaning c (a.last_id + 4 * (j * width + k))
        (a.last_variable + (j * width + k)) (kept j k) (moved j k) (given j k)) same
        (meaning-at c (b.last_id + 4 * k) (a.last_id + 4 * (n * width + k)) (b.last_variable + k)
        (a.last_variable + (n * width + k)) (kept n k) (moved n k) (given n k)
        (omega (arith, rows.last)) (omega (arith, rows.variables)) (row.meaning k inside)))
  ];
  grows = grows-on a b c rows.grows row.grows;
}
