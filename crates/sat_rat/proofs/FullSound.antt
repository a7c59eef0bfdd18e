-- Where a log of full LRAT is accepted, no list of truth values satisfies the formula; and a log
-- that needs no resolution is accepted as before.
use Rattle.std.specs.Prelude.{if◌then◌else◌}
use Rattle.std.proofs.Common.{◌≡◌, ◌⊎◌, ℕ, zero, suc, ◌≤◌, ℤ, pos, negsuc, neg_ℤ, nat_abs, Bool, true, false, not, cond, ◌&&◌, ◌||◌, ◌==◌, List, [], ◌∷◌, ◌++◌, Option, None, Some, All, refl, sym, ap, subst, slice_index_or, arith, inl, inr}
use Rattle.std.specs.List.{list_any}
use Rattle.std.specs.Option.{option_or}
use Rattle.std.specs.Ordering.{int_eq}
use Rattle.std.proofs.lemmas.Bool.{both_ways, or_cases, or_parts, or_left, or_right, eqb-true, eq-eqb}
use Rattle.std.proofs.lemmas.Bool.Decides.{Decides-int_eq}
use Rattle.std.proofs.lemmas.List.Folds.{list_any_at}
use Rattle.std.proofs.lemmas.List.Elements.{All-contains, All-head, All-weaker}
use Rattle.sat_clause.specs.declared.literal.Lit.{Lit}
use Rattle.sat_clause.specs.declared.cause.Cause.{Cause}
use Rattle.sat_clause.specs.declared.cause.Cause.TheVariants.{MissingGroup, WrongGroup, NoConflictInGroup}
use Rattle.sat_clause.specs.declared.reading.Reading.TheVariants.{Conflict, Unit, Satisfied, Unresolved}
use Rattle.sat_clause.specs.Formula.{Cnf, IsTrueClause, IsUnsat, makes_number_true, makes_true}
use Rattle.sat_clause.specs.Judge.{Accepts, after, fault, inputs, is_empty_clause}
use Rattle.sat_clause.specs.Literal.{Clause, IsLiteral, is_among, lit, negation}
use Rattle.sat_clause.specs.Live.{Live, clause_at, named}
use Rattle.sat_clause.specs.Rup.{after_conflict, follow, lead_on, reading_of, rup}
use Rattle.sat_clause.specs.Step.{Added, Erased, HasLiterals, HaveLiterals, Step}
use Rattle.sat_clause.proofs.EachLive.{EachLive, each_erased, each_numbered, each_put, named_is}
use Rattle.sat_clause.proofs.JudgeLaws.{accepted_by_more, never_accepted}
use Rattle.sat_clause.proofs.LiteralLaws.{among_cases, among_contains, among_here, among_more, negation-negation}
use Rattle.sat_clause.proofs.ReadingLaws.{IsFalseOr, conflict_all, unit_is_open}
use Rattle.sat_rat.specs.FullJudge.{FullAccepts, full_fault}
use Rattle.sat_rat.specs.FullRup.{full_rup, group_fault, groups_fault, has_id, is_left_out, is_satisfied, lead, others, resolution_fault, resolvent_fault}
use Rattle.sat_rat.specs.Groups.{Group, groups_of}

-- a value for each variable: that of variable n + 1 at n
abbrev Values : Type 0
Values = ℕ → Bool

abbrev number_true : Values → ℤ → Bool
number_true v (pos zero) = false
number_true v (pos (suc n)) = v n
number_true v (negsuc n) = not (v n)

abbrev lit_true : Values → Lit → Bool
lit_true v l = number_true v l.code

abbrev clause_true : Values → List Lit → Bool
clause_true v ls = list_any (lit_true v) ls

abbrev IsTrue : Values → Clause → Type 0
IsTrue v clause = clause_true v clause ≡ true

-- each live clause has a true literal
abbrev AllTrue : Values → Live → Type 0
AllTrue v live = EachLive (IsTrue v) live

-- ---- literals

not_true : (b : Bool) → not b ≡ true → b ≡ false
not_true true h = absurd (both_ways _ refl h)
not_true false h = refl

not_false : (b : Bool) → not b ≡ false → b ≡ true
not_false true h = refl
not_false false h = absurd (both_ways _ h refl)

-- a true literal's negation is false, and of the two literals of a variable one is true
not_both : (v : Values) (z : ℤ) → number_true v z ≡ true → number_true v (neg_ℤ z) ≡ false
not_both v (pos zero) h = refl
not_both v (pos (suc n)) h = rw h refl
not_both v (negsuc n) h = not_true (v n) h

one_is : (v : Values) (z : ℤ) → 1 ≤ nat_abs z → number_true v z ≡ false →
    number_true v (neg_ℤ z) ≡ true
one_is v (pos zero) some h = absurd (omega arith)
one_is v (pos (suc n)) some h = rw h refl
one_is v (negsuc n) some h = not_false (v n) h

-- a literal of the clause is true
record HasTrue (v : Values) (c : Clause) : Type 0 where
  lit : Lit
  has : is_among c lit ≡ true
  is : lit_true v lit ≡ true

true_one : (v : Values) (c : Clause) → clause_true v c ≡ true → HasTrue v c
true_one v [] h = absurd (both_ways _ refl h)
true_one v (m ∷ c) h =
    elim (or_cases (lit_true v m) (clause_true v c) h) [
      | inl here ↦ record { lit = m; has = among_here c m; is = here }
      | inr later ↦
          let one = true_one v c later in
          record { lit = one.lit; has = among_more c m one.lit one.has; is = one.is }
    ]

one_true : (v : Values) (c : Clause) (l : Lit) → is_among c l ≡ true → lit_true v l ≡ true →
    clause_true v c ≡ true
one_true v [] l has is = absurd (both_ways _ refl has)
one_true v (m ∷ c) l has is =
    elim (among_cases c m l has) [
      | inl same ↦ or_left _ _ (subst (λ (x : Lit). lit_true v x ≡ true) (sym same) is)
      | inr later ↦ or_right _ _ (one_true v c l later is)
    ]

each_false : (v : Values) (c : Clause) (l : Lit) → clause_true v c ≡ false → is_among c l ≡ true →
    lit_true v l ≡ false
each_false v c l none has = by (lit_true v l) refl where
  by : (b : Bool) → lit_true v l ≡ b → b ≡ false
  by true is = absurd (both_ways _ none (one_true v c l has is))
  by false is = refl

among_append : (xs ys : List Lit) (l : Lit) → is_among (xs ++ ys) l ≡ true →
    (is_among xs l ≡ true) ⊎ (is_among ys l ≡ true)
among_append [] ys l h = inr h
among_append (x ∷ xs) ys l h =
    elim (among_cases (xs ++ ys) x l h) [
      | inl same ↦ inl (subst (λ (y : Lit). is_among (x ∷ xs) y ≡ true) same (among_here xs x))
      | inr later ↦ elim (among_append xs ys l later) [
        | inl first ↦ inl (among_more xs x l first)
        | inr second ↦ inr second
      ]
    ]

-- ---- hints

module _ (v : Values) (live : Live) (all : AllTrue v live) (Q : Lit → Type 0)
    (are_false : (l : Lit) → Q l → lit_true v l ≡ false)
    (negated : (l : Lit) → lit_true v l ≡ true → Q (negation l)) where
  abbrev Each : List Lit → Type 0
  Each set = (l : Lit) → is_among set l ≡ true → Q l

  no_conflict : (set : List Lit) (c : Clause) → Each set → clause_true v c ≡ true →
      reading_of set c ≡ Conflict → ⊥
  no_conflict set c each is e =
      let one = true_one v c is in
      let here = All-contains (λ (x : Lit). is_among set x ≡ true) c one.lit (conflict_all set c e)
      (among_contains c one.lit one.has) in
      both_ways _ (are_false one.lit (each one.lit here)) one.is

  unit_true : (set : List Lit) (c : Clause) (l : Lit) → Each set → clause_true v c ≡ true →
      reading_of set c ≡ Unit l → lit_true v l ≡ true
  unit_true set c l each is e =
      let one = true_one v c is in
      elim (All-contains (IsFalseOr set l) c one.lit (unit_is_open set l c e).0.rest
      (among_contains c one.lit one.has)) [
        | inl shut ↦ absurd (both_ways _ (are_false one.lit (each one.lit shut)) one.is)
        | inr same ↦ subst (λ (x : Lit). lit_true v x ≡ true) same one.is
      ]

  each_more : (set : List Lit) (l : Lit) → Each set → lit_true v l ≡ true →
      Each (negation l ∷ set)
  each_more set l each is x has =
      elim (among_cases set (negation l) x has)
      [ inl same ↦ subst Q same (negated l is) | inr later ↦ each x later ]

  -- where each live clause is true, hints meet no conflict, and lead to literals that are false
  lead_sound : (set : List Lit) (hints : List ℤ) (end : List Lit → Option Cause) → Each set →
      lead live set hints end ≡ None → (left : List Lit) × Each left × (end left ≡ None)
  lead_sound set [] end each good = (set, each, good)
  lead_sound set (negsuc n ∷ hints) end each good = (set, each, good)
  lead_sound set (pos n ∷ hints) end each good =
      elim (named live (pos n)) as
      (λ o. named live (pos n) ≡ o
      → follow set o hints (λ l. lead live (negation l ∷ set) hints end) ≡ None
      → (left : List Lit) × Each left × (end left ≡ None)) [
        | None ↦ λ _ e. cc
        | Some c ↦ λ is.
            elim (reading_of set c) as
            (λ r. reading_of set c ≡ r
            → lead_on r hints (λ l. lead live (negation l ∷ set) hints end) ≡ None
            → (left : List Lit) × Each left × (end left ≡ None)) [
              | Conflict ↦ λ e _. absurd
                  (no_conflict set c each (named_is (IsTrue v) live (pos n) all c is) e)
              | Unit l ↦ λ e good. lead_sound (negation l ∷ set) hints end (each_more set l each
                  (unit_true set c l each (named_is (IsTrue v) live (pos n) all c is) e)) good
              | Satisfied ↦ λ _ e. cc
              | Unresolved ↦ λ _ e. cc
            ] refl
      ] refl good

-- ---- groups

-- where none is left out, each live clause with the literal has one of the ids
left_in : (l : Lit) (ids : List ℕ) (live : Live) → is_left_out l ids live ≡ false →
    (id : ℕ) (c : Clause) → clause_at live id ≡ Some c → is_among c l ≡ true →
    has_id ids id ≡ true
left_in l ids [] none id c at has = cc
left_in l ids (entry ∷ live) none id c at has =
    let parts = or_parts (not (has_id ids entry.0) && is_among entry.1 l) _ none in
    elim (id == entry.0) as
    (λ b. (id == entry.0) ≡ b → cond b (Some entry.1) (clause_at live id) ≡ Some c
    → has_id ids id ≡ true) [
      | true ↦ λ same here.
          let clause : entry.1 ≡ c = cc in
          let own : is_among entry.1 l ≡ true =
          subst (λ (x : Clause). is_among x l ≡ true) (sym clause) has in
          subst (λ (n : ℕ). has_id ids n ≡ true) (sym (eqb-true id entry.0 same))
          (both _ _ parts.0 own)
      | false ↦ λ apart later.
          or_second _ _ apart (left_in l (entry.0 ∷ ids) live parts.1 id c later has)
    ] refl at
  where
    both : (a b : Bool) → (not a && b) ≡ false → b ≡ true → a ≡ true
    both true b e is = refl
    both false b e is = absurd (both_ways _ e is)

    or_second : (a b : Bool) → a ≡ false → (a || b) ≡ true → b ≡ true
    or_second true b e h = absurd (both_ways _ e refl)
    or_second false b e h = h

-- a literal but this one passes a test that shows it to be true
satisfied_true : (v : Values) (l : Lit) (f : Lit → Bool) →
    ((m : Lit) → f m ≡ true → lit_true v m ≡ true) → (ls : List Lit) →
    list_any (λ m. not (int_eq m.code l.code) && f m) ls ≡ true → clause_true v (others l ls) ≡ true
satisfied_true v l f gives [] h = absurd (both_ways _ refl h)
satisfied_true v l f gives (m ∷ ls) h =
    by (int_eq m.code l.code) h (satisfied_true v l f gives ls)
  where
    by : (b : Bool) →
        (not b && f m || list_any (λ m. not (int_eq m.code l.code) && f m) ls) ≡ true →
        (list_any (λ m. not (int_eq m.code l.code) && f m) ls ≡ true →
        clause_true v (others l ls) ≡ true) →
        clause_true v (if not b then m ∷ others l ls else others l ls) ≡ true
    by true h rest = rest h
    by false h rest =
        elim (or_cases (f m) _ h) [
          | inl here ↦ or_left _ _ (gives m here)
          | inr later ↦ or_right _ _ (rest later)
        ]

-- the ids with one more
has_more : (ids : List ℕ) (id q : ℕ) → has_id (ids ++ id ∷ []) q ≡ true →
    (has_id ids q ≡ true) ⊎ (q ≡ id)
has_more [] id q is =
    elim (or_cases (q == id) false is) [
      | inl same ↦ inr (eqb-true q id same)
      | inr none ↦ absurd (both_ways _ refl none)
    ]
has_more (k ∷ ids) id q is =
    elim (or_cases (q == k) (has_id (ids ++ id ∷ []) q) is) [
      | inl same ↦ inl (or_left _ _ same)
      | inr later ↦ elim (has_more ids id q later) [
        | inl before ↦ inl (or_right _ _ before)
        | inr last ↦ inr last
      ]
    ]

module _ (v : Values) (live : Live) (all : AllTrue v live) (set : List Lit)
    (denied : (l : Lit) → is_among set l ≡ true → lit_true v (negation l) ≡ true) where
  denied_false : (l : Lit) → lit_true v (negation l) ≡ true → lit_true v l ≡ false
  denied_false l is =
      subst (λ (x : Lit). lit_true v x ≡ false) (negation-negation l)
      (not_both v (negation l).code is)

  -- the clause of a good group has a true literal other than this one
  resolvent_good : (l : Lit) (c : Clause) (hints : List ℤ) →
      resolvent_fault live set l c hints ≡ None → clause_true v (others l c) ≡ true
  resolvent_good l c hints good = by (is_satisfied set l c) refl good where
    by : (b : Bool) → is_satisfied set l c ≡ b →
        (if b then after_conflict hints
        else lead live (others l c ++ set) hints (λ _. Some NoConflictInGroup)) ≡ None →
        clause_true v (others l c) ≡ true
    by true is e =
        satisfied_true v l (λ m. is_among set (negation m)) (λ m in_set.
        subst (λ (x : Lit). lit_true v x ≡ true) (negation-negation m)
        (denied (negation m) in_set)) c is
    by false is e = of (clause_true v (others l c)) refl where
      of : (b : Bool) → clause_true v (others l c) ≡ b → b ≡ true
      of true t = refl
      of false none =
          let led = lead_sound v live all (λ x. lit_true v x ≡ false) (λ x f. f)
          (λ x t. not_both v x.code t) (others l c ++ set) hints (λ _. Some NoConflictInGroup)
          (λ x has. elim (among_append (others l c) set x has) [
            | inl first ↦ each_false v (others l c) x none first
            | inr second ↦ denied_false x (denied x second)
          ]) e in
          let bad : Some NoConflictInGroup ≡ None = led.2 in cc

  -- good groups serve each live clause with the literal
  groups_cover : (l : Lit) (had : List ℕ) (groups : List Group) →
      groups_fault live set l had groups ≡ None →
      (id : ℕ) (c : Clause) → clause_at live id ≡ Some c → is_among c l ≡ true →
      (has_id had id ≡ true) ⊎ (clause_true v (others l c) ≡ true)
  groups_cover l had [] good id c at has = by (is_left_out l had live) refl good where
    by : (b : Bool) → is_left_out l had live ≡ b →
        (if b then Some MissingGroup else None) ≡ None →
        (has_id had id ≡ true) ⊎ (clause_true v (others l c) ≡ true)
    by true is e = cc
    by false is e = inl (left_in l had live is id c at has)
  groups_cover l had (group ∷ groups) good id c at has =
      let parts = both_none (group_fault live set l had group (clause_at live group.id))
      (groups_fault live set l (had ++ group.id ∷ []) groups) good in
      elim (groups_cover l (had ++ group.id ∷ []) groups parts.1 id c at has) [
        | inl served ↦ elim (has_more had group.id id served) [
          | inl before ↦ inl before
          | inr same ↦
              let named_here : clause_at live group.id ≡ Some c =
              subst (λ (n : ℕ). clause_at live n ≡ Some c) same at in
              inr (of_group group (subst (λ (o : Option Clause).
              group_fault live set l had group o ≡ None) named_here parts.0))
        ]
        | inr good ↦ inr good
      ]
    where
      both_none : (a b : Option Cause) → option_or a b ≡ None → (a ≡ None) × (b ≡ None)
      both_none None b e = (refl, e)
      both_none (Some x) b e = cc

      of_group : (group : Group) → group_fault live set l had group (Some c) ≡ None →
          clause_true v (others l c) ≡ true
      of_group group e = by (has_id had group.id || not (is_among c l)) e where
        by : (b : Bool) →
            (if b then Some WrongGroup else resolvent_fault live set l c group.hints) ≡ None →
            clause_true v (others l c) ≡ true
        by true e = cc
        by false e = resolvent_good l c group.hints e

-- ---- the literal that a clause is resolved on becomes true

abbrev flip : Values → ℤ → Values
flip v (pos zero) = v
flip v (pos (suc k)) = λ n. if n == k then true else v n
flip v (negsuc k) = λ n. if n == k then false else v n

flip_here : (v : Values) (z : ℤ) → 1 ≤ nat_abs z → number_true (flip v z) z ≡ true
flip_here v (pos zero) some = absurd (omega arith)
flip_here v (pos (suc k)) some =
    let same : (k == k) ≡ true = eq-eqb k k refl in rw same refl
flip_here v (negsuc k) some =
    let same : (k == k) ≡ true = eq-eqb k k refl in rw same refl

-- each other true literal but the negation stays true
flip_other : (v : Values) (z x : ℤ) → number_true v x ≡ true → (x ≡ neg_ℤ z → ⊥) →
    number_true (flip v z) x ≡ true
flip_other v (pos zero) x is other = is
flip_other v (pos (suc k)) (pos zero) is other = is
flip_other v (pos (suc k)) (pos (suc n)) is other = by (n == k) where
  by : (b : Bool) → (if b then true else v n) ≡ true
  by true = refl
  by false = is
flip_other v (pos (suc k)) (negsuc n) is other = by (n == k) refl where
  by : (b : Bool) → (n == k) ≡ b → not (if b then true else v n) ≡ true
  by true same = absurd (other (ap negsuc (eqb-true n k same)))
  by false apart = is
flip_other v (negsuc k) (pos zero) is other = is
flip_other v (negsuc k) (pos (suc n)) is other = by (n == k) refl where
  by : (b : Bool) → (n == k) ≡ b → (if b then false else v n) ≡ true
  by true same = absurd (other (ap (λ m. pos (suc m)) (eqb-true n k same)))
  by false apart = is
flip_other v (negsuc k) (negsuc n) is other = by (n == k) where
  by : (b : Bool) → not (if b then false else v n) ≡ true
  by true = refl
  by false = is

flipped_clause : (v : Values) (p : Lit) (c : Clause) (l : Lit) → is_among c l ≡ true →
    lit_true v l ≡ true → (l.code ≡ neg_ℤ p.code → ⊥) → clause_true (flip v p.code) c ≡ true
flipped_clause v p c l has is other =
    one_true (flip v p.code) c l has (flip_other v p.code l.code is other)

others_in : (l : Lit) (c : Clause) (m : Lit) → is_among (others l c) m ≡ true →
    (is_among c m ≡ true) × (int_eq m.code l.code ≡ false)
others_in l [] m has = absurd (both_ways _ refl has)
others_in l (x ∷ c) m has = by (int_eq x.code l.code) refl has (others_in l c m)
  where
    by : (b : Bool) → int_eq x.code l.code ≡ b →
        is_among (if not b then x ∷ others l c else others l c) m ≡ true →
        (is_among (others l c) m ≡ true →
        (is_among c m ≡ true) × (int_eq m.code l.code ≡ false)) →
        (is_among (x ∷ c) m ≡ true) × (int_eq m.code l.code ≡ false)
    by true same h rest = let later = rest h in (among_more c x m later.0, later.1)
    by false apart h rest =
        elim (among_cases (others l c) x m h) [
          | inl is ↦ (
            subst (λ (y : Lit). is_among (x ∷ c) y ≡ true) is (among_here c x),
            subst (λ (y : Lit). int_eq y.code l.code ≡ false) is apart,
          )
          | inr later ↦ let more = rest later in (among_more c x m more.0, more.1)
        ]

-- ---- one step

-- values that make each live clause true, and this one
record HaveTrue (live : Live) (c : Clause) : Type 0 where
  values : Values
  all : AllTrue values live
  added : clause_true values c ≡ true

apart_codes : (m l : Lit) → int_eq m.code l.code ≡ false → m.code ≡ l.code → ⊥
apart_codes m l apart same = both_ways _ apart ((Decides-int_eq m.code l.code).1 same)

denied_literals : (v : Values) (c : Clause) → All IsLiteral c → clause_true v c ≡ false →
    (l : Lit) → is_among c l ≡ true → lit_true v (negation l) ≡ true
denied_literals v c literals none l has =
    one_is v l.code (All-contains IsLiteral c l literals (among_contains c l has)).0
    (each_false v c l none has)

by_resolution : (v : Values) (live : Live) → AllTrue v live → (c : Clause) (hints : List ℤ) →
    All IsLiteral c → clause_true v c ≡ false → full_rup live c hints ≡ None → HaveTrue live c
by_resolution v live all c hints literals none good =
    let led = lead_sound v live all (λ l. lit_true v (negation l) ≡ true)
    (λ l is. subst (λ (x : Lit). lit_true v x ≡ false) (negation-negation l)
    (not_both v (negation l).code is))
    (λ l is. subst (λ (x : Lit). lit_true v x ≡ true) (sym (negation-negation l)) is)
    c hints (resolution_fault live c (groups_of hints)) (denied_literals v c literals none) good in
    of c literals led.0 led.1 (groups_of hints) led.2
  where
    of : (c : Clause) → All IsLiteral c → (set : List Lit) →
        ((l : Lit) → is_among set l ≡ true → lit_true v (negation l) ≡ true) →
        (groups : List Group) → resolution_fault live c groups set ≡ None → HaveTrue live c
    of [] literals set denied [] e = cc
    of [] literals set denied (g ∷ groups) e = cc
    of (p ∷ ls) literals set denied groups e = record {
      values = flip v p.code;
      all = λ id d at. serve id d at (is_among d (negation p)) refl;
      added = or_left _ _ (flip_here v p.code (All-head IsLiteral p ls literals).0);
    } where
      serve : (id : ℕ) (d : Clause) → clause_at live id ≡ Some d → (b : Bool) →
          is_among d (negation p) ≡ b → clause_true (flip v p.code) d ≡ true
      serve id d at true has =
          elim (groups_cover v live all set denied (negation p) [] groups e id d at has) [
            | inl had ↦ absurd (both_ways _ refl had)
            | inr good ↦
                let one = true_one v (others (negation p) d) good in
                let within = others_in (negation p) d one.lit one.has in
                flipped_clause v p d one.lit within.0 one.is
                (apart_codes one.lit (negation p) within.1)
          ]
      serve id d at false lacks =
          let one = true_one v d (all id d at) in
          flipped_clause v p d one.lit one.has one.is
          (λ same. both_ways _ lacks (subst (λ (x : Lit). is_among d x ≡ true) (ap lit same)
          one.has))

-- a good added clause can be made true beside the live ones
added_sound : (v : Values) (live : Live) → AllTrue v live → (c : Clause) (hints : List ℤ) →
    All IsLiteral c → full_rup live c hints ≡ None → HaveTrue live c
added_sound v live all c hints literals good = by (clause_true v c) refl where
  by : (b : Bool) → clause_true v c ≡ b → HaveTrue live c
  by true is = record { values = v; all = all; added = is }
  by false none = by_resolution v live all c hints literals none good

-- some values make each live clause true
abbrev AreTrue : Live → Type 0
AreTrue live = (v : Values) × AllTrue v live

after_true : (live : Live) (step : Step) → HasLiterals step → AreTrue live →
    full_fault live step ≡ None → AreTrue (after live step)
after_true live (Added id c hints) literals are good =
    let have = added_sound are.0 live are.1 c hints literals good in
    (have.values, each_put (IsTrue have.values) live id c have.all have.added)
after_true live (Erased id ids) literals are good =
    (are.0, each_erased (IsTrue are.0) live ids are.1)

-- the empty clause is not good where each live clause can be true
no_empty_clause : (live : Live) (step : Step) → HasLiterals step → AreTrue live →
    full_fault live step ≡ None → is_empty_clause step ≡ true → ⊥
no_empty_clause live (Added id [] hints) literals are good is =
    both_ways _ refl (added_sound are.0 live are.1 [] hints literals good).added
no_empty_clause live (Added id (l ∷ ls) hints) literals are good is = both_ways _ refl is
no_empty_clause live (Erased id ids) literals are good is = both_ways _ refl is

-- ---- values for the variables of a formula are values for all

-- each other variable is false
abbrev extended : List Bool → Values
extended values n = slice_index_or values n false

read_either : (values : List Bool) (n : ℕ) → slice_index_or values n true ≡ false →
    slice_index_or values n false ≡ false
read_either [] n h = refl
read_either (v ∷ values) zero h = h
read_either (v ∷ values) (suc n) h = read_either values n h

still_true : (values : List Bool) (z : ℤ) → makes_number_true values z ≡ true →
    number_true (extended values) z ≡ true
still_true values (pos zero) h = h
still_true values (pos (suc n)) h = h
still_true values (negsuc n) h =
    let f : slice_index_or values n false ≡ false = read_either values n (not_true _ h) in rw f refl

still_true_clause : (values : List Bool) (c : Clause) → IsTrueClause values c →
    clause_true (extended values) c ≡ true
still_true_clause values c here =
    list_any_at (lit_true (extended values)) c here.0 here.1 here.2
    (still_true values _ (subst (λ (x : Lit). makes_true values x ≡ true) (sym here.3) here.4))

-- where a log of full LRAT is accepted, the formula is unsatisfiable
pub full_refutes : (formula : Cnf) (log : List Step) → HaveLiterals log → FullAccepts formula log →
    IsUnsat formula
full_refutes formula log literals accepted values satisfies =
    let begun : AreTrue (inputs formula) = (
      extended values,
      each_numbered (IsTrue (extended values)) 1 formula.clauses (All-weaker (IsTrueClause values)
          (IsTrue (extended values)) (still_true_clause values) formula.clauses
          satisfies.each_clause),
    ) in
    never_accepted full_fault (λ live steps. HaveLiterals steps × AreTrue live)
    (λ live step steps kept good.
    (kept.0.1, after_true live step kept.0.0 kept.1 good))
    (λ live step steps kept good. no_empty_clause live step kept.0.0 kept.1 good) 1
    (inputs formula) log (literals, begun) accepted

-- ---- a log without resolution

lead_more : (live : Live) (set : List Lit) (hints : List ℤ) (end : List Lit → Option Cause) →
    rup live set hints ≡ None → lead live set hints end ≡ None
lead_more live set [] end good = cc
lead_more live set (negsuc n ∷ hints) end good = cc
lead_more live set (pos n ∷ hints) end good =
    elim (named live (pos n)) as
    (λ o. follow set o hints (λ l. rup live (negation l ∷ set) hints) ≡ None
    → follow set o hints (λ l. lead live (negation l ∷ set) hints end) ≡ None) [
      | None ↦ λ e. e
      | Some c ↦ elim (reading_of set c) as
          (λ r. lead_on r hints (λ l. rup live (negation l ∷ set) hints) ≡ None
          → lead_on r hints (λ l. lead live (negation l ∷ set) hints end) ≡ None) [
            | Conflict ↦ λ e. e
            | Unit l ↦ λ e. lead_more live (negation l ∷ set) hints end e
            | Satisfied ↦ λ e. e
            | Unresolved ↦ λ e. e
          ]
    ] good

fault_more : (live : Live) (step : Step) → fault live step ≡ None → full_fault live step ≡ None
fault_more live (Added id c hints) good =
    lead_more live c hints (resolution_fault live c (groups_of hints)) good
fault_more live (Erased id ids) good = good

-- a log that is accepted without resolution is accepted with it
pub accepts_more : (formula : Cnf) (log : List Step) → Accepts formula log →
    FullAccepts formula log
accepts_more formula log accepted =
    accepted_by_more fault full_fault fault_more 1 (inputs formula) log accepted
