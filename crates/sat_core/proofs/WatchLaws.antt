-- What a search over watches knows by ids: its clauses, its trail, and that they are propagated.
use Rattle.std.specs.Prelude.{nat_le, option_map}
use Rattle.std.proofs.Common.{inl, inr, ◌⊎◌, ◌≡◌, ◌≢◌, ◌==◌, ℕ, Bool, true, false, cond, List, [], ◌∷◌, ◌++◌, length, reverse, Option, None, Some, Contains, refl, sym, ap, ◌∙◌, subst, arith}
use Rattle.std.specs.Ordering.{int_eq}
use Rattle.std.proofs.lemmas.Bool.{both_ways, eqb-true}
use Rattle.std.proofs.lemmas.Bool.Decides.{Decides-int_eq}
use Rattle.std.proofs.lemmas.List.{append_assoc, length-reverse, map-append}
use Rattle.std.proofs.lemmas.List.Elements.{All-contains_itself, All-weaker}
use Rattle.std.proofs.lemmas.Option.{slice_get_within}
use Rattle.sat_clause.specs.declared.literal.Lit.{Lit}
use Rattle.sat_clause.specs.declared.reading.Reading.TheVariants.{Unit}
use Rattle.sat_clause.specs.Learned.{SameLiterals}
use Rattle.sat_clause.specs.Literal.{Clause, lit, negation}
use Rattle.sat_clause.specs.Live.{Live, clause_at, put}
use Rattle.sat_clause.specs.Rup.{reading_of}
use Rattle.sat_clause.specs.Settled.{IsQuiet}
use Rattle.sat_clause.proofs.ReadingLaws.{IsFalseOr, open_is_unit}
use Rattle.sat_clause.proofs.TrailLaws.{open_not_false, open_not_true}
use Rattle.sat_arena.specs.declared.clause_ref.ClauseRef.{ClauseRef}
use Rattle.sat_watch.specs.declared.entry.TrailEntry.{TrailEntry}
use Rattle.sat_watch.specs.Levels.{upto}
use Rattle.sat_watch.specs.Trail.{IsOnce, falses, lits_of as watch_lits}
use Rattle.sat_watch.specs.Watched.{IsReason}
use Rattle.sat_watch.specs.Watches.{Attached, HasCause, HasLevels, IsPropagatedAt, SameClauses, WatchState, id_at, is_attached, lits_at}
use Rattle.sat_core.specs.Kept.{AreAmong, SameLive}
use Rattle.sat_core.specs.Levels.{AreCaused, ArePropagated, Assigned, HasCause as HasCauseById, IsPropagatedAt as IsPropagatedAtById, lits_of, made_false, up_to}
use Rattle.sat_core.specs.SearchStore.{AreTaken, IsKeeping, IsLeveled, assigned, assigned_in, live_of}
use Rattle.sat_core.proofs.AttachedLaws.{found, origin, same_permuted, simple_permuted}
use Rattle.sat_core.proofs.LevelLaws.{up_to_current}
use Rattle.sat_core.proofs.ListLaws.{position_of}
use Rattle.sat_core.proofs.SameLaws.{same_back, same_itself, same_quiet, same_then, same_unit}

-- THE TRAIL

pub lits_in : (ks : List Attached) (trail : List TrailEntry)
    → lits_of (assigned_in ks trail) ≡ watch_lits trail
lits_in ks [] = refl
lits_in ks (e ∷ older) = ap (λ (ls : List Lit). e.lit ∷ ls) (lits_in ks older)

pub falses_in : (ks : List Attached) (trail : List TrailEntry)
    → made_false (assigned_in ks trail) ≡ falses trail
falses_in ks [] = refl
falses_in ks (e ∷ older) = ap (λ (ls : List Lit). negation e.lit ∷ ls) (falses_in ks older)

pub up_to_in : (ks : List Attached) (j : ℕ) (trail : List TrailEntry)
    → up_to j (assigned_in ks trail) ≡ assigned_in ks (upto j trail)
up_to_in ks j [] = refl
up_to_in ks j (e ∷ older) = by (nat_le e.level j) refl (up_to_in ks j older)
  where
    by : (b : Bool) → nat_le e.level j ≡ b → up_to j (assigned_in ks older)
        ≡ assigned_in ks (upto j older) →
        up_to j (assigned_in ks (e ∷ older)) ≡ assigned_in ks (upto j (e ∷ older))
    by true is rest = rw is (ap (λ (t : List Assigned). assigned ks e ∷ t) rest)
    by false is rest = rw is rest

-- two literals are one or not
pub lit_cases : (m l : Lit) → (m ≡ l) ⊎ (m ≢ l)
lit_cases m l = by (int_eq m.code l.code) refl
  where
    by : (b : Bool) → int_eq m.code l.code ≡ b → (m ≡ l) ⊎ (m ≢ l)
    by true same = inl (ap lit ((Decides-int_eq m.code l.code).0 same))
    by false other = inr (λ same. both_ways _ other ((Decides-int_eq m.code l.code).1 (ap (λ
        (x : Lit). x.code) same)))

-- a clause whose other literals are false makes its open literal true
reason_reads : (older : List TrailEntry) (c : Clause) (l : Lit) → IsReason older c l
    → IsOnce (record { lit = l; level = 0; reason = None } ∷ older) →
    reading_of (falses older) c ≡ Unit l
reason_reads older c l why once =
    open_is_unit (falses older) l c (record {
      has = why.has;
      free = open_not_false (watch_lits older) l once.0;
      rest = All-weaker (Contains c) (IsFalseOr (falses older) l)
          (λ m has. elim (lit_cases m l) [
            | inl same ↦ inr same
            | inr other ↦ inl
                (why.others m has other)
          ]) c (All-contains_itself c);
    }) (open_not_true (watch_lits older) l once.0)

-- CLAUSES BY IDS

append_some : (xs ys : Live) (id : ℕ) (x : Clause) → clause_at xs id ≡ Some x
    → clause_at (xs ++ ys) id ≡ Some x
append_some [] ys id x at = cc
append_some (entry ∷ xs) ys id x at = by (id == entry.0) at (append_some xs ys id x)
  where
    by : (b : Bool) → cond b (Some entry.1) (clause_at xs id) ≡ Some x → (clause_at xs id ≡ Some x
        → clause_at (xs ++ ys) id ≡ Some x) →
        cond b (Some entry.1) (clause_at (xs ++ ys) id) ≡ Some x
    by true at rest = at
    by false at rest = rest at

pub append_none : (xs ys : Live) (id : ℕ) → clause_at xs id ≡ None
    → clause_at (xs ++ ys) id ≡ clause_at ys id
append_none [] ys id at = refl
append_none (entry ∷ xs) ys id at = by (id == entry.0) at (append_none xs ys id)
  where
    by : (b : Bool) → cond b (Some entry.1) (clause_at xs id) ≡ None → (clause_at xs id ≡ None
        → clause_at (xs ++ ys) id ≡ clause_at ys id) →
        cond b (Some entry.1) (clause_at (xs ++ ys) id) ≡ clause_at ys id
    by true at rest = cc
    by false at rest = rest at

-- the single clauses come first
pub single_found : (singles : Live) (ks : List Attached) (id : ℕ) (x : Clause)
    → clause_at singles id ≡ Some x →
    clause_at (singles ++ live_of ks) id ≡ Some x
single_found singles ks id x at = append_some singles (live_of ks) id x at

-- what stands under an id
pub value_origin : {vars : ℕ} {singles : Live} {ks : List Attached} → IsKeeping vars singles ks
    → (id : ℕ) (x : Clause) →
    clause_at (singles ++ live_of ks) id ≡ Some x →
    (clause_at singles id ≡ Some x) ⊎ ((c : ClauseRef) × (is_attached ks c ≡ true) × (id_at ks c
    ≡ id) × (lits_at ks c ≡ x))
value_origin {singles} {ks} keeps id x at = by (clause_at singles id) refl
  where
    by : (o : Option Clause) → clause_at singles id ≡ o →
        (clause_at singles id ≡ Some x) ⊎ ((c : ClauseRef) × (is_attached ks c ≡ true) × (id_at ks c
        ≡ id) × (lits_at ks c ≡ x))
    by None none = inr (origin 0 ks id x keeps.stand (sym (append_none singles (live_of ks) id none)
        ∙ at))
    by (Some y) some = inl (some ∙ sym (append_some singles (live_of ks) id y some) ∙ at)

-- an attached clause is found by its id, as a set of literals
pub value_found : {vars : ℕ} {singles : Live} {ks : List Attached} → IsKeeping vars singles ks
    → (c : ClauseRef) → is_attached ks c ≡ true →
    (x : Clause) × (clause_at (singles ++ live_of ks) (id_at ks c)
    ≡ Some x) × SameLiterals x (lits_at ks c)
value_found {singles} {ks} keeps c is = by (clause_at singles (id_at ks c)) refl
  where
    by : (o : Option Clause) → clause_at singles (id_at ks c) ≡ o →
        (x : Clause) × (clause_at (singles ++ live_of ks) (id_at ks c)
        ≡ Some x) × SameLiterals x (lits_at ks c)
    by None none = (
      lits_at ks c,
      append_none singles (live_of ks) (id_at ks c) none
          ∙ found 0 ks c keeps.stand (λ d d_is one. keeps.ids c d is d_is none one) is,
      same_itself
          (lits_at ks c),
    )
    by (Some x) some = (
      x,
      append_some singles (live_of ks)
          (id_at ks c) x some,
      keeps.agree c x is some,
    )

-- THE SAME CLAUSES IN OTHER ORDERS

pub keeping_same : (vars : ℕ) (singles : Live) (ks now : List Attached) → SameClauses ks now
    → IsKeeping vars singles ks → IsKeeping vars singles now
keeping_same vars singles ks now same keeps = record {
  stand = same.places keeps.stand;
  ids = λ c d c_is d_is alone one.
      keeps.ids c d (sym (same.attached c) ∙ c_is) (sym (same.attached d)
      ∙ d_is) (ap (clause_at singles) (sym (same.ids c)) ∙ alone)
      (sym (same.ids c) ∙ one ∙ same.ids d);
  agree = λ c x is at.
      same_then x (lits_at ks c) (lits_at now c)
      (keeps.agree c x (sym (same.attached c) ∙ is) (ap (clause_at singles) (sym (same.ids c))
      ∙ at))
      (same_permuted (lits_at ks c) (lits_at now c) (same.lits c));
  simple = λ c is. simple_permuted vars (lits_at ks c) (lits_at now c) (same.lits c) (keeps.simple c
      (sym (same.attached c) ∙ is));
}

module _ (vars : ℕ) (singles : Live) (ks now : List Attached) (same : SameClauses ks now)
    (keeps : IsKeeping vars singles ks) where
  pub among_same : AreAmong (singles ++ live_of ks) (singles ++ live_of now)
  among_same id x at =
      elim (value_origin keeps id x at) [
        | inl single ↦ (x, append_some singles (live_of now) id x single, same_itself x)
        | inr from ↦
            let c : ClauseRef = from.0 in
            let y = value_found (keeping_same vars singles ks now same keeps) c
            (same.attached c ∙ from.1) in (
              y.0,
              ap (clause_at (singles ++ live_of now)) (sym (same.ids c ∙ from.2)) ∙ y.1,
              same_back y.0 x (same_then y.0 (lits_at now c) x y.2 (subst (SameLiterals
                  (lits_at now c)) from.3 (same_back (lits_at ks c) (lits_at now c) (same_permuted
                  (lits_at ks c) (lits_at now c) (same.lits c))))),
            )
      ]

  pub same_among : AreAmong (singles ++ live_of now) (singles ++ live_of ks)
  same_among id x at =
      elim (value_origin (keeping_same vars singles ks now same keeps) id x at) [
        | inl single ↦ (x, append_some singles (live_of ks) id x single, same_itself x)
        | inr from ↦
            let c : ClauseRef = from.0 in
            let y = value_found keeps c (sym (same.attached c) ∙ from.1) in (
              y.0,
              ap (clause_at (singles ++ live_of ks)) (sym (sym (same.ids c) ∙ from.2)) ∙ y.1,
              same_back y.0 x (same_then y.0 (lits_at ks c) x y.2 (subst (SameLiterals
                  (lits_at ks c)) from.3 (same_permuted (lits_at ks c) (lits_at now c)
                  (same.lits c)))),
            )
      ]

-- causes
caused_in : (vars level : ℕ) (singles : Live) (ks : List Attached) (trail : List TrailEntry)
    → IsKeeping vars singles ks → HasLevels ks level trail → IsOnce trail →
    AreCaused (singles ++ live_of ks) (assigned_in ks trail)
caused_in vars level singles ks [] keeps levels once = tt
caused_in vars level singles ks (e ∷ older) keeps levels once =
    by e.reason levels.1 (λ n rest. caused_in vars n singles ks older keeps rest once.1)
  where
    by : (r : Option ClauseRef) → HasCause ks level e.lit older r (λ n. HasLevels ks n older) →
        ((n : ℕ) → HasLevels ks n older
        → AreCaused (singles ++ live_of ks) (assigned_in ks older)) →
        HasCauseById (singles ++ live_of ks) (assigned_in ks older) e.lit (option_map
        (id_at ks) r) × AreCaused (singles ++ live_of ks) (assigned_in ks older)
    by None cause deeper = (tt, deeper cause.0 cause.2)
    by (Some c) cause deeper =
        let x = value_found keeps c cause.0 in
        let reads : reading_of (falses older) (lits_at ks c) ≡ Unit e.lit =
        reason_reads older (lits_at ks c) e.lit cause.1 once in
        let reads_x : reading_of (falses older) x.0 ≡ Unit e.lit =
        same_unit (falses older) e.lit (lits_at ks c) x.0 (same_back x.0
        (lits_at ks c) x.2) reads in
        (rw (x.1, falses_in ks older) reads_x, deeper level cause.2)

-- propagated where all single clauses are attached
module _ (singles : Live) (taken : ℕ) (w : WatchState) (keeps : IsKeeping w.vars singles w.clauses)
    (all : AreTaken taken singles w.clauses) (whole : taken ≡ length singles) where
  attached_for : (id : ℕ) (x : Clause) → clause_at (singles ++ live_of w.clauses) id ≡ Some x →
      (c : ClauseRef) × (is_attached w.clauses c ≡ true) × SameLiterals (lits_at w.clauses c) x
  attached_for id x at =
      elim (value_origin keeps id x at) [
        | inl single ↦
            let place = position_of singles id x single in
            let within = slice_get_within (reverse singles) place.0 (id, x) place.1 in
            let c = all place.0 id x (omega (arith, within, length-reverse singles, whole)) place.1
            in (
              c.0,
              c.1,
              same_back x (lits_at w.clauses c.0) (keeps.agree c.0 x c.1 (ap
                  (clause_at singles) c.2 ∙ single)),
            )
        | inr from ↦ (
          from.0,
          from.1,
          subst (SameLiterals (lits_at w.clauses from.0)) from.3
              (same_itself (lits_at w.clauses from.0)),
        )
      ]

  pub propagated_in : (j : ℕ) → IsPropagatedAt w j
      → IsPropagatedAtById (singles ++ live_of w.clauses) (assigned_in w.clauses w.trail) j
  propagated_in j propagated id x at =
      let c = attached_for id x at in
      let quiet : IsQuiet (reading_of (falses (upto j w.trail)) x) =
      same_quiet (falses (upto j w.trail)) (lits_at w.clauses c.0) x c.2 (propagated c.0 c.1) in
      rw (up_to_in w.clauses j w.trail, falses_in w.clauses (upto j w.trail)) quiet

  pub propagated_here : IsLeveled w → IsPropagatedAt w w.level
      → ArePropagated (singles ++ live_of w.clauses) (made_false (assigned_in w.clauses w.trail))
  propagated_here leveled propagated =
      subst (λ (t : List Assigned). ArePropagated (singles ++ live_of w.clauses) (made_false t))
      (up_to_current w.level (assigned_in w.clauses w.trail) leveled.levels (omega
      (arith, leveled.current)))
      (propagated_in w.level propagated)

pub caused_here : (vars level : ℕ) (singles : Live) (ks : List Attached) (trail : List TrailEntry)
    → IsKeeping vars singles ks → HasLevels ks level trail → IsOnce trail →
    AreCaused (singles ++ live_of ks) (assigned_in ks trail)
caused_here = caused_in

-- ONE MORE CLAUSE

-- behind the others by their ids
live_added : (singles : Live) (ks : List Attached) (k : Attached) →
    singles ++ live_of (ks ++ k ∷ []) ≡ (singles ++ live_of ks) ++ (k.id, k.lits) ∷ []
live_added singles ks k =
    ap (λ (l : Live). singles ++ l) (map-append (λ (x : Attached). (x.id, x.lits)) ks (k ∷ []))
    ∙ sym (append_assoc singles (live_of ks) ((k.id, k.lits) ∷ []))

-- what an entry more gives where there was this
abbrev or_last : Option Clause → Bool → Clause → Option Clause
or_last (Some x) b c = Some x
or_last None true c = Some c
or_last None false c = None

last_at : (xs : Live) (id : ℕ) (c : Clause) (n : ℕ) → (o : Option Clause) → clause_at xs n ≡ o →
    clause_at (xs ++ (id, c) ∷ []) n ≡ or_last o (n == id) c
last_at xs id c n None none = append_none xs ((id, c) ∷ []) n none ∙ by (n == id)
  where
    by : (b : Bool) → cond b (Some c) None ≡ or_last None b c
    by true = refl
    by false = refl
last_at xs id c n (Some x) some = append_some xs ((id, c) ∷ []) n x some

-- under an id that none has
pub value_added : (singles : Live) (ks : List Attached) (k : Attached)
    → clause_at (singles ++ live_of ks) k.id ≡ None →
    SameLive (put (singles ++ live_of ks) k.id k.lits) (singles ++ live_of (ks ++ k ∷ []))
value_added singles ks k new n =
    by (clause_at (singles ++ live_of ks) n) refl (n == k.id) refl
    ∙ ap (λ (l : Live). clause_at l n) (sym (live_added singles ks k))
  where
    by : (o : Option Clause) → clause_at (singles ++ live_of ks) n ≡ o → (b : Bool)
        → (n == k.id) ≡ b →
        cond b (Some k.lits) (clause_at (singles ++ live_of ks) n)
        ≡ clause_at ((singles ++ live_of ks) ++ (k.id, k.lits) ∷ []) n
    by None none true same = sym (last_at (singles ++ live_of ks) k.id k.lits n None none
        ∙ ap (λ (b : Bool). or_last None b k.lits) same)
    by None none false other = none ∙ sym (last_at (singles ++ live_of ks) k.id k.lits n None none
        ∙ ap (λ (b : Bool). or_last None b k.lits) other)
    by (Some x) some true same =
        let none : clause_at (singles ++ live_of ks) n ≡ None =
        ap (clause_at (singles ++ live_of ks)) (eqb-true n k.id same) ∙ new in
        let bad : None ≡ Some x = sym none ∙ some in cc
    by (Some x) some false other = some ∙ sym (append_some (singles ++ live_of ks) ((k.id, k.lits)
        ∷ []) n x some)

-- or under that of a single clause, which comes first
pub value_again : (singles : Live) (ks : List Attached) (k : Attached) (x : Clause)
    → clause_at singles k.id ≡ Some x →
    SameLive (singles ++ live_of ks) (singles ++ live_of (ks ++ k ∷ []))
value_again singles ks k x single n =
    by (clause_at (singles ++ live_of ks) n) refl (n == k.id) refl
    ∙ ap (λ (l : Live). clause_at l n) (sym (live_added singles ks k))
  where
    by : (o : Option Clause) → clause_at (singles ++ live_of ks) n ≡ o → (b : Bool)
        → (n == k.id) ≡ b →
        clause_at (singles ++ live_of ks) n ≡ clause_at ((singles ++ live_of ks) ++ (k.id, k.lits)
        ∷ []) n
    by None none true same =
        let some : clause_at (singles ++ live_of ks) n ≡ Some x =
        ap (clause_at (singles ++ live_of ks)) (eqb-true n k.id same)
        ∙ append_some singles (live_of ks) k.id x single in
        let bad : None ≡ Some x = sym none ∙ some in cc
    by None none false other = none ∙ sym (last_at (singles ++ live_of ks) k.id k.lits n None none
        ∙ ap (λ (b : Bool). or_last None b k.lits) other)
    by (Some y) some b is = some ∙ sym (append_some (singles ++ live_of ks) ((k.id, k.lits)
        ∷ []) n y some)
