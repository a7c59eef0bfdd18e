-- Variables with values over a trail, and levels where it grows.
use Rattle.std.specs.Prelude.{if◌then◌else◌, is_some, option_map, unwrap_or}
use Rattle.std.proofs.Common.{inl, inr, ◌⊎◌, ◌≡◌, ◌≢◌, ◌<◌, ℕ, zero, suc, ℤ, pos, negsuc, neg_ℤ, nat_abs, Bool, true, false, not, List, [], ◌∷◌, ◌++◌, Option, None, Some, slice_index_or, All, refl, sym, ap, ◌∙◌, subst, arith}
use Rattle.std.proofs.lemmas.Bool.{both_ways}
use Rattle.std.proofs.lemmas.List.Elements.{All-head, All-tail}
use Rattle.sat_clause.specs.declared.literal.Lit.{Lit}
use Rattle.sat_clause.specs.Formula.{makes_number_true}
use Rattle.sat_clause.specs.Literal.{is_among, negation, positive, variable}
use Rattle.sat_clause.specs.Trail.{IsClosed, IsOpen}
use Rattle.sat_clause.proofs.LiteralLaws.{among_here, among_more, negation-negation, same_variable}
use Rattle.sat_clause.proofs.TrailLaws.{is_open}
use Rattle.sat_watch.specs.declared.entry.TrailEntry.{TrailEntry}
use Rattle.sat_watch.specs.Trail.{falses, lits_of, value_in}
use Rattle.std.proofs.lemmas.List.Sorted.{IsPermutation-refl, IsPermutation-trans}
use Rattle.sat_arena.specs.declared.clause_ref.ClauseRef.{ClauseRef}
use Rattle.sat_watch.specs.Watches.{Attached, Propagates, SameClauses, WatchState, assumed, id_at, implied, lits_at}
use Rattle.sat_core.specs.Deciding.{AreValuesOf, GoesOn, HaveValues}
use Rattle.sat_core.specs.Levels.{AreLevels, after_entry, level_of}
use Rattle.sat_core.specs.SearchStore.{IsLeveled, assigned_in}

-- a literal without a value is open
value_none : (trail : List TrailEntry) (l : Lit) → value_in trail l ≡ None →
    (is_among (falses trail) l ≡ false) × (is_among (falses trail) (negation l) ≡ false)
value_none trail l none = by (is_among (falses trail) l) (is_among (falses trail) (negation l)) none
  where
    by : (a b : Bool) → (if a then Some false else if b then Some true else None) ≡ None
        → (a ≡ false) × (b ≡ false)
    by true b e = cc
    by false true e = cc
    by false false e = (refl, refl)

pub none_is_open : (trail : List TrailEntry) (l : Lit) → value_in trail l ≡ None
    → IsOpen (lits_of trail) l
none_is_open trail l none = let both = value_none trail l none in
    is_open (lits_of trail) l both.0 both.1

-- a literal with a value is false, or its negation is
value_some : (trail : List TrailEntry) (l : Lit) → value_in trail l ≢ None →
    (is_among (falses trail) l ≡ true) ⊎ (is_among (falses trail) (negation l) ≡ true)
value_some trail l some = by (is_among (falses trail) l) (is_among (falses trail) (negation l)) some
  where
    by : (a b : Bool) → (if a then Some false else if b then Some true else None) ≢ None
        → (a ≡ true) ⊎ (b ≡ true)
    by true b e = inl refl
    by false true e = inr refl
    by false false e = absurd (e refl)

some_value : (trail : List TrailEntry) (l : Lit)
    → (is_among (falses trail) l ≡ true) ⊎ (is_among (falses trail) (negation l) ≡ true) →
    value_in trail l ≢ None
some_value trail l some none =
    let both = value_none trail l none in
    elim some [ inl is ↦ both_ways _ both.0 is | inr is ↦ both_ways _ both.1 is ]

-- values stay where the trail grows
pub value_stays : (added trail : List TrailEntry) (l : Lit) → value_in trail l ≢ None →
    value_in (added ++ trail) l ≢ None
value_stays [] trail l some = some
value_stays (e ∷ added) trail l some =
    let rest = value_stays added trail l some in
    some_value (e ∷ (added ++ trail)) l (elim (value_some (added ++ trail) l rest) [
      | inl is ↦ inl (among_more (falses (added ++ trail)) (negation e.lit) l is)
      | inr is ↦ inr (among_more (falses (added ++ trail)) (negation e.lit) (negation l) is)
    ])

-- where all variables have values each literal is false or its negation is
pub closed_values : (vars n : ℕ) (trail : List TrailEntry) → HaveValues trail n → vars < n
    → IsClosed vars (lits_of trail)
closed_values vars n trail have most l within not_false =
    let k : ℕ = variable l in
    elim (value_some trail (positive k) (have k within.0 (omega (arith, within.1, most)))) [
      | inl is ↦ by (same_variable (positive k) l refl) is
      | inr is ↦ by_negation (same_variable (positive k) l refl) is
    ]
  where
    by : (positive (variable l) ≡ l) ⊎ (positive (variable l) ≡ negation l)
        → is_among (falses trail) (positive (variable l)) ≡ true →
        is_among (falses trail) (negation l) ≡ true
    by (inl same) is = absurd (both_ways _ not_false (subst (λ (x : Lit). is_among (falses trail) x
        ≡ true) same is))
    by (inr other) is = subst (λ (x : Lit). is_among (falses trail) x ≡ true) other is

    by_negation : (positive (variable l) ≡ l) ⊎ (positive (variable l) ≡ negation l)
        → is_among (falses trail) (negation (positive (variable l))) ≡ true →
        is_among (falses trail) (negation l) ≡ true
    by_negation (inl same) is = subst (λ (x : Lit). is_among (falses trail) (negation x)
        ≡ true) same is
    by_negation (inr other) is =
        absurd (both_ways _ not_false (subst (λ (x : Lit). is_among (falses trail) x
        ≡ true) (ap negation other ∙ negation-negation l) is))

-- the test of a value
pub is_none_none : {X : Type 0} (o : Option X) → is_some o ≡ false → o ≡ None
is_none_none None is = refl
is_none_none (Some x) is = absurd (both_ways true is refl)

pub is_some_some : {X : Type 0} (o : Option X) → is_some o ≡ true → o ≢ None
is_some_some None is none = both_ways false refl is
is_some_some (Some x) is none = cc

-- LEVELS

-- the level behind an entry does not depend on the id of its reason
after_any : (f g : ClauseRef → ℕ) (r : Option ClauseRef) (a b : ℕ) → a ≡ b →
    after_entry (option_map f r) a ≡ after_entry (option_map g r) b
after_any f g None a b same = ap suc same
after_any f g (Some c) a b same = same

level_any : (ks more : List Attached) (trail : List TrailEntry)
    → level_of (assigned_in ks trail) ≡ level_of (assigned_in more trail)
level_any ks more [] = refl
level_any ks more (e ∷ older) =
    after_any (id_at ks) (id_at more) e.reason (level_of (assigned_in ks older)) (level_of
    (assigned_in more older)) (level_any ks more older)

levels_any : (ks more : List Attached) (trail : List TrailEntry) → AreLevels (assigned_in ks trail)
    → AreLevels (assigned_in more trail)
levels_any ks more [] levels = tt
levels_any ks more (e ∷ older) levels = (
  levels.0 ∙ level_any ks more (e
      ∷ older),
  levels_any ks more older levels.1,
)

-- other clauses, the same trail
pub leveled_any : (old new : WatchState) → new.trail ≡ old.trail → new.level ≡ old.level
    → IsLeveled old → IsLeveled new
leveled_any old new trail level leveled = record {
  levels = rw trail (levels_any old.clauses new.clauses old.trail leveled.levels);
  current = rw trail (level ∙ leveled.current ∙ level_any old.clauses new.clauses old.trail);
}

-- entries with reasons are of the current level
after_reason : (f : ClauseRef → ℕ) (r : Option ClauseRef) (n : ℕ) → is_some r ≡ true
    → after_entry (option_map f r) n ≡ n
after_reason f None n some = absurd (both_ways false refl some)
after_reason f (Some c) n some = refl

level_added : (ks : List Attached) (level : ℕ) (added trail : List TrailEntry)
    → All (λ e. (e.level ≡ level) × (is_some e.reason ≡ true)) added →
    level_of (assigned_in ks (added ++ trail)) ≡ level_of (assigned_in ks trail)
level_added ks level [] trail all = refl
level_added ks level (e ∷ added) trail all =
    let P = λ (x : TrailEntry). (x.level ≡ level) × (is_some x.reason ≡ true) in
    after_reason (id_at ks) e.reason (level_of (assigned_in ks (added ++ trail)))
    (All-head P e added all).1
    ∙ level_added ks level added trail (All-tail P e added all)

levels_added : (ks : List Attached) (level : ℕ) (added trail : List TrailEntry)
    → All (λ e. (e.level ≡ level) × (is_some e.reason ≡ true)) added →
    level ≡ level_of (assigned_in ks trail) → AreLevels (assigned_in ks trail)
    → AreLevels (assigned_in ks (added ++ trail))
levels_added ks level [] trail all current levels = levels
levels_added ks level (e ∷ added) trail all current levels =
    let P = λ (x : TrailEntry). (x.level ≡ level) × (is_some x.reason ≡ true) in
    let here = All-head P e added all in (
      here.0 ∙ current ∙ sym (level_added ks level (e ∷ added) trail all),
      levels_added ks level added trail (All-tail P e added all) current levels,
    )

leveled_added : (old new : WatchState) (added : List TrailEntry) → new.trail ≡ added ++ old.trail
    → new.level ≡ old.level →
    All (λ e. (e.level ≡ old.level) × (is_some e.reason ≡ true)) added → IsLeveled old
    → IsLeveled new
leveled_added old new added trail level all leveled =
    let ks = new.clauses in
    let current : old.level ≡ level_of (assigned_in ks old.trail) =
    leveled.current ∙ level_any old.clauses ks old.trail in
    let levels : AreLevels (assigned_in ks old.trail) =
    levels_any old.clauses ks old.trail leveled.levels in
    record {
      levels = rw trail (levels_added ks old.level added old.trail all current levels);
      current = rw trail (level ∙ current ∙ sym (level_added ks old.level added old.trail all));
    }

-- STEPS

pub goes_propagated : {old new : WatchState} → Propagates old new → GoesOn old new
goes_propagated {old} {new} step = record {
  vars = step.vars;
  pending = step.pending;
  clauses = step.clauses;
  leveled = leveled_added old new step.added step.trail step.level step.added_level;
}

-- a decision
leveled_assumed : (s : WatchState) (l : Lit) → IsLeveled s → IsLeveled (assumed l s)
leveled_assumed s l leveled = record {
  levels = (ap suc leveled.current, leveled.levels);
  current = ap suc leveled.current;
}

pub goes_assumed : {old s : WatchState} (l : Lit) → GoesOn old s → GoesOn old (assumed l s)
goes_assumed {old} {s} l goes = record {
  vars = goes.vars;
  pending = goes.pending;
  clauses = goes.clauses;
  leveled = λ leveled. leveled_assumed s l (goes.leveled leveled);
}

pub leveled_implied : (s : WatchState) (l : Lit) (c : ClauseRef) → IsLeveled s
    → IsLeveled (implied l c s)
leveled_implied s l c leveled = record {
  levels = (leveled.current, leveled.levels);
  current = leveled.current;
}

same_refl : (ks : List Attached) → SameClauses ks ks
same_refl ks = record {
  count = refl;
  places = λ stand. stand;
  attached = λ c. refl;
  ids = λ c. refl;
  lits = λ c. IsPermutation-refl (lits_at ks c);
  holders = λ l. refl;
}

pub goes_refl : (s : WatchState) → s.pending ≡ None → GoesOn s s
goes_refl s pending = record {
  vars = refl;
  pending = pending;
  clauses = same_refl s.clauses;
  leveled =
      λ leveled. leveled;
}

pub goes_then : {a b c : WatchState} → GoesOn a b → GoesOn b c → GoesOn a c
goes_then {a} {b} {c} first second = record {
  vars = second.vars ∙ first.vars;
  pending = second.pending;
  clauses = record {
    count = second.clauses.count ∙ first.clauses.count;
    places = λ stand. second.clauses.places (first.clauses.places stand);
    attached = λ r. second.clauses.attached r ∙ first.clauses.attached r;
    ids = λ r. second.clauses.ids r ∙ first.clauses.ids r;
    lits = λ r. IsPermutation-trans (lits_at a.clauses r) (lits_at b.clauses r)
        (lits_at c.clauses r) (first.clauses.lits r) (second.clauses.lits r);
    holders = λ l. second.clauses.holders l ∙ first.clauses.holders l;
  };
  leveled = λ leveled. second.leveled (first.leveled leveled);
}

-- VALUES

-- values that are those of the trail make true what is not false
pub values_of : (trail : List TrailEntry) (vars : ℕ) (values : List Bool) →
    ((k : ℕ) (d : Bool) → k < vars → slice_index_or values k d
    ≡ unwrap_or (value_in trail (positive (suc k))) false) →
    AreValuesOf trail vars values
values_of trail vars values read closed l within not_false =
    go l.code refl
  where
    false_is : (m : Lit) → is_among (falses trail) m ≡ true → value_in trail m ≡ Some false
    false_is m is = rw is refl

    true_is : (m : Lit) → is_among (falses trail) m ≡ false
        → is_among (falses trail) (negation m) ≡ true → value_in trail m ≡ Some true
    true_is m out is = rw (out, is) refl

    go : (z : ℤ) → l.code ≡ z → makes_number_true values z ≡ true
    go (pos zero) is = let none : variable l ≡ 0 = ap nat_abs is in
        absurd (omega (arith, none, within.0))
    go (pos (suc n)) is =
        let same : l ≡ positive (suc n) = ap (λ (z : ℤ). record { code = z }) is in
        let below : n < vars = (let at : variable l ≡ suc n = ap nat_abs is in
        omega (arith, at, within.1)) in
        let value : value_in trail (positive (suc n)) ≡ Some true =
        subst (λ (x : Lit). value_in trail x ≡ Some true) same (true_is l not_false
        (closed l within not_false)) in
        read n false below ∙ ap (λ (o : Option Bool). unwrap_or o false) value
    go (negsuc n) is =
        let same : negation l ≡ positive (suc n) = ap (λ (z : ℤ). record { code = neg_ℤ z }) is in
        let below : n < vars = (let at : variable l ≡ suc n = ap nat_abs is in
        omega (arith, at, within.1)) in
        let value : value_in trail (positive (suc n)) ≡ Some false =
        subst (λ (x : Lit). value_in trail x ≡ Some false) same (false_is (negation l)
        (closed l within not_false)) in
        ap not (read n true below ∙ ap (λ (o : Option Bool). unwrap_or o false) value)

-- the variable of the newest entry has a value
-- a variable has a value where a literal of it has one
pub variable_value : (trail : List TrailEntry) (l : Lit) → value_in trail l ≢ None →
    value_in trail (positive (variable l)) ≢ None
variable_value trail l some = elim (same_variable (positive (variable l)) l refl) [
  | inl same ↦ subst (λ (x : Lit). value_in trail x ≢ None) (sym same) some
  | inr other ↦
      subst (λ (x : Lit). value_in trail x ≢ None) (sym other)
      (some_value trail (negation l) (elim (value_some trail l some) [
        | inl is ↦ inr (subst (λ (x : Lit). is_among (falses trail) x ≡ true)
            (sym (negation-negation l)) is)
        | inr is ↦ inl is
      ]))
]

pub value_assumed : (trail : List TrailEntry) (e : TrailEntry)
    → value_in (e ∷ trail) (positive (variable e.lit)) ≢ None
value_assumed trail e =
    some_value (e ∷ trail) (positive (variable e.lit)) (by (same_variable (positive
    (variable e.lit)) e.lit refl))
  where
    by : (positive (variable e.lit) ≡ e.lit) ⊎ (positive (variable e.lit) ≡ negation e.lit) →
        (is_among (falses (e ∷ trail)) (positive (variable e.lit))
        ≡ true) ⊎ (is_among (falses (e ∷ trail)) (negation (positive (variable e.lit))) ≡ true)
    by (inl same) = inr (subst (λ (x : Lit). is_among (falses (e ∷ trail)) (negation x)
        ≡ true) (sym same) (among_here (falses trail) (negation e.lit)))
    by (inr other) = inl (subst (λ (x : Lit). is_among (falses (e ∷ trail)) x
        ≡ true) (sym other) (among_here (falses trail) (negation e.lit)))
