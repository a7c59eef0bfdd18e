-- Which clauses may be deleted: what a reason is, the way over the clauses, and parts of a list.
use Rattle.std.specs.Prelude.{◌&&◌, nat_lt, not, if◌then◌else◌}
use Rattle.std.specs.List.{filter}
use Rattle.std.proofs.Common.{inl, inr, ◌≡◌, ◌≢◌, ◌<◌, ◌==◌, ◌+◌, ℕ, zero, suc, Bool, true, false, cond, List, [], ◌∷◌, ◌++◌, length, take, Option, None, Some, All, AllPairs, Contains, get_or, refl, sym, ap, ◌∙◌, subst, arith, append_assoc}
use Rattle.std.proofs.lemmas.Bool.{eq-eqb, eqb-true, lt-ltb, ltb-true}
use Rattle.std.proofs.lemmas.Bool.Decides.{eqb_tells}
use Rattle.std.proofs.lemmas.List.{map-append, map_more}
use Rattle.std.proofs.lemmas.List.Elements.{All-cons, All-head, All-nil, All-tail, All-weaker}
use Rattle.std.proofs.lemmas.List.Kept.{AllPairs-cons, AllPairs-filter}
use Rattle.list_laws.proofs.Places.{some_is}
use Rattle.sat_clause.specs.declared.literal.Lit.{Lit}
use Rattle.sat_clause.specs.Literal.{variable}
use Rattle.sat_arena.specs.declared.clause_ref.ClauseRef.{ClauseRef}
use Rattle.sat_arena.specs.Store.{ref}
use Rattle.sat_watch.specs.declared.entry.TrailEntry.{TrailEntry}
use Rattle.sat_watch.specs.Delete.{IsNoReason}
use Rattle.sat_watch.specs.Trail.{IsOnce, IsOpen, lits_of, place_in}
use Rattle.sat_watch.specs.Watches.{AreInPlace, Attached, HasCause, HasLevels, WatchState, attached_behind, first_attached, id_at, is_attached, lits_at}
use Rattle.sat_watch.proofs.PlaceLemmas.{place_entry}
use Rattle.sat_core.specs.declared.choosing.Candidate.{Candidate}
use Rattle.sat_core.specs.Analysis.{IsAt}
use Rattle.sat_core.specs.Deletable.{ArePartOf, IsDeletable, are_same, deletable, is_reason, is_deletable, places_of, reason_in, refs_of}
use Rattle.sat_core.proofs.AttachedLaws.{here_attached, later_attached, later_word, other_word}
use Rattle.sat_core.proofs.TrailPlaces.{at_cases, at_newest, at_one, at_within}

-- a choice where both ways are known
either : (b x : Bool) → x ≡ true → (if b then true else x) ≡ true
either true x is = refl
either false x is = is

both_true : (a b : Bool) → (a && b) ≡ true → (a ≡ true) × (b ≡ true)
both_true true b is = (refl, is)
both_true false b is = cc

not_true : (b : Bool) → not b ≡ true → b ≡ false
not_true true is = cc
not_true false is = refl

-- REASONS

same_is : (o : Option ClauseRef) (c : ClauseRef) → are_same o c ≡ true → o ≡ Some c
same_is None c is = cc
same_is (Some r) c is = let word = eqb-true r.word c.word is in λ i. Some (ref (word i))

is_same : (c : ClauseRef) → are_same (Some c) c ≡ true
is_same c = eq-eqb c.word c.word refl

-- the test says whether a clause is a reason
pub no_reason : (trail : List TrailEntry) (c : ClauseRef) → is_reason trail c ≡ false →
    IsNoReason trail c
no_reason [] c none = All-nil (λ (e : TrailEntry). e.reason ≢ Some c)
no_reason (e ∷ older) c none = by (are_same e.reason c) refl none (no_reason older c)
  where
    by : (b : Bool) → are_same e.reason c ≡ b → (if b then true else is_reason older c) ≡ false →
        (is_reason older c ≡ false → IsNoReason older c) → IsNoReason (e ∷ older) c
    by true same none rest = let clash : true ≡ false = none in cc
    by false other none rest =
        All-cons (λ (x : TrailEntry). x.reason ≢ Some c) e older
        (λ is. let same : are_same e.reason c ≡ true =
        subst (λ o. are_same o c ≡ true) (sym is) (is_same c) in
        let clash : true ≡ false = sym same ∙ other in cc)
        (rest none)

pub is_no_reason : (trail : List TrailEntry) (c : ClauseRef) → IsNoReason trail c →
    is_reason trail c ≡ false
is_no_reason [] c none = refl
is_no_reason (e ∷ older) c none =
    by (are_same e.reason c) refl
    (is_no_reason older c (All-tail (λ (x : TrailEntry). x.reason ≢ Some c) e older none))
  where
    by : (b : Bool) → are_same e.reason c ≡ b → is_reason older c ≡ false →
        is_reason (e ∷ older) c ≡ false
    by true same rest =
        absurd (All-head (λ (x : TrailEntry). x.reason ≢ Some c) e older none
        (same_is e.reason c same))
    by false other rest = rw other rest

-- an open variable has no reason
pub open_no_reason : (trail : List TrailEntry) (m l : Lit) → IsOpen trail m →
    variable l ≡ variable m → reason_in trail l ≡ None
open_no_reason [] m l free same = refl
open_no_reason (e ∷ older) m l free same = elim (eqb_tells (variable e.lit) (variable l)) [
  | inl here ↦ absurd (All-head (λ (x : Lit). variable x ≢ variable m) e.lit (lits_of older) free
      (here.1 ∙ same))
  | inr other ↦ rw other.0 (open_no_reason older m l
      (All-tail (λ (x : Lit). variable x ≢ variable m) e.lit (lits_of older) free) same)
]

-- another one has the reason of the entry at its place
pub reason_at : (trail : List TrailEntry) (l : Lit) (p : ℕ) (e : TrailEntry) →
    place_in trail l ≡ Some p → IsAt trail p e → reason_in trail l ≡ e.reason
reason_at [] l p e place at = cc
reason_at (x ∷ older) l p e place at = elim (eqb_tells (variable x.lit) (variable l)) [
  | inl here ↦
      let last : length older ≡ p = some_is (rw here.0 at place) in
      let one : x ≡ e = at_one (x ∷ older) p x e
      (subst (λ (n : ℕ). IsAt (x ∷ older) n x) last (at_newest x older)) at in
      rw here.0 (ap (λ (y : TrailEntry). y.reason) one)
  | inr other ↦
      let rest : place_in older l ≡ Some p = rw other.0 at place in
      let stands = place_entry older l p rest in
      let low = at_within older p stands.0 stands.1 in
      elim (at_cases x older p e at) [
        | inl last ↦ absurd (omega (arith, low, last.0))
        | inr later ↦ rw other.0 (reason_at older l p e rest later)
      ]
]

-- a clause that is the reason for a variable's value is a reason
pub is_found : (trail : List TrailEntry) (l : Lit) (c : ClauseRef) →
    are_same (reason_in trail l) c ≡ true → is_reason trail c ≡ true
is_found [] l c is = cc
is_found (e ∷ older) l c is = elim (eqb_tells (variable e.lit) (variable l)) [
  | inl here ↦ (let same : are_same e.reason c ≡ true = rw here.0 at is in rw same refl)
  | inr other ↦ either (are_same e.reason c) (is_reason older c)
      (is_found older l c (rw other.0 at is))
]

-- and one that is that for no variable of its literals is none
pub none_found : (ks : List Attached) (level : ℕ) (trail : List TrailEntry) (c : ClauseRef) →
    HasLevels ks level trail → IsOnce trail →
    ((l : Lit) → Contains (lits_at ks c) l → are_same (reason_in trail l) c ≡ false) →
    is_reason trail c ≡ false
none_found ks level [] c levels once none = refl
none_found ks level (e ∷ older) c levels once none =
    by (are_same e.reason c) refl
    (below e.reason levels.1 (λ n rest. none_found ks n older c rest once.1 older_none))
  where
    older_none : (l : Lit) → Contains (lits_at ks c) l → are_same (reason_in older l) c ≡ false
    older_none l has = elim (eqb_tells (variable e.lit) (variable l)) [
      | inl here ↦ rw (open_no_reason older e.lit l once.0 (sym here.1)) refl
      | inr other ↦ rw other.0 at (none l has)
    ]

    below : (r : Option ClauseRef) → HasCause ks level e.lit older r (λ n. HasLevels ks n older) →
        ((n : ℕ) → HasLevels ks n older → is_reason older c ≡ false) →
        is_reason older c ≡ false
    below None cause go = go cause.0 cause.2
    below (Some r) cause go = go level cause.2

    by : (b : Bool) → are_same e.reason c ≡ b → is_reason older c ≡ false →
        is_reason (e ∷ older) c ≡ false
    by true same rest =
        let cause : HasCause ks level e.lit older (Some c) (λ n. HasLevels ks n older) =
        subst (λ r. HasCause ks level e.lit older r (λ n. HasLevels ks n older))
        (same_is e.reason c same) levels.1 in
        let has = cause.1.has in
        let here = eq-eqb (variable e.lit) (variable e.lit) refl in
        let other : are_same e.reason c ≡ false = rw here at (none e.lit has) in
        let clash : true ≡ false = sym same ∙ other in cc
    by false other rest = rw other rest

-- THE WAY OVER THE CLAUSES

-- the clauses from the one with a reference on
abbrev pub from_on : List Attached → Option ClauseRef → List Attached
from_on [] o = []
from_on (k ∷ ks) None = []
from_on (k ∷ ks) (Some c) = if k.place.word == c.word then k ∷ ks else from_on ks (Some c)

pub from_first : (ks : List Attached) → from_on ks (first_attached ks) ≡ ks
from_first [] = refl
from_first (k ∷ ks) = rw (eq-eqb k.place.word k.place.word refl) refl

pub first_is : (ks : List Attached) (d : ClauseRef) → first_attached ks ≡ Some d →
    is_attached ks d ≡ true
first_is [] d is = cc
first_is (k ∷ ks) d is =
    let same : k.place ≡ d = some_is is in
    rw (eq-eqb k.place.word d.word (ap (λ (c : ClauseRef). c.word) same)) refl

pub behind_is : (ks : List Attached) (c d : ClauseRef) →
    first_attached (attached_behind ks c) ≡ Some d → is_attached ks d ≡ true
behind_is [] c d is = cc
behind_is (k ∷ ks) c d is = elim (eqb_tells k.place.word c.word) [
  | inl same ↦ later_attached k ks d (first_is ks d (rw same.0 at is))
  | inr other ↦ later_attached k ks d (behind_is ks c d (rw other.0 at is))
]

-- the clause itself comes first, and then those behind it
from_here : (ks : List Attached) (c : ClauseRef) → is_attached ks c ≡ true →
    (k : Attached) × (from_on ks (Some c) ≡ k ∷ attached_behind ks c) × (k.place ≡ c)
from_here [] c is = cc
from_here (k ∷ ks) c is = elim (eqb_tells k.place.word c.word) [
  | inl same ↦ (k, rw same.0 refl, ap ref same.1)
  | inr other ↦ (let rest = from_here ks c (rw other.0 at is) in
      (rest.0, rw other.0 rest.1, rest.2))
]

none_on : (ks : List Attached) → from_on ks None ≡ []
none_on [] = refl
none_on (k ∷ ks) = refl

skips : (at : ℕ) (k : Attached) (ks : List Attached) (o : Option ClauseRef) →
    AreInPlace at (k ∷ ks) → ((d : ClauseRef) → o ≡ Some d → is_attached ks d ≡ true) →
    from_on (k ∷ ks) o ≡ from_on ks o
skips at k ks None stand are = sym (none_on ks)
skips at k ks (Some d) stand are = rw (other_word at k ks d stand (are d refl)) refl

from_behind : (at : ℕ) (ks : List Attached) (c : ClauseRef) → AreInPlace at ks →
    is_attached ks c ≡ true →
    from_on ks (first_attached (attached_behind ks c)) ≡ attached_behind ks c
from_behind at [] c stand is = refl
from_behind at (k ∷ ks) c stand is = elim (eqb_tells k.place.word c.word) [
  | inl same ↦ rw same.0
      (skips at k ks (first_attached ks) stand (first_is ks) ∙ from_first ks)
  | inr other ↦ rw other.0
      (skips at k ks (first_attached (attached_behind ks c)) stand (behind_is ks c)
      ∙ from_behind (at + (length k.lits + 6)) ks c stand.1 (rw other.0 at is))
]

-- of a list before which some are found already
one_passes : {X : Type 0} (p : X → Bool) (x : X) (xs front all : List X) →
    front ++ filter p (x ∷ xs) ≡ all → p x ≡ true → (front ++ x ∷ []) ++ filter p xs ≡ all
one_passes p x xs front all found is =
    append_assoc front (x ∷ []) (filter p xs) ∙ rw is at found

one_fails : {X : Type 0} (p : X → Bool) (x : X) (xs front all : List X) →
    front ++ filter p (x ∷ xs) ≡ all → p x ≡ false → front ++ filter p xs ≡ all
one_fails p x xs front all found is = rw is at found

-- one clause further, with what was found of the clauses before it
pub record Advances (w : WatchState) (above : ℕ) (front : List ClauseRef) (c : ClauseRef)
    (now next : Option ClauseRef) : Type 0 where
  pub attached : (d : ClauseRef) → next ≡ Some d → is_attached w.clauses d ≡ true
  pub taken : is_deletable w above c ≡ true → (front ++ c ∷ [])
      ++ filter (is_deletable w above) (places_of (from_on w.clauses next)) ≡ deletable w above
  pub passed : is_deletable w above c ≡ false → front
      ++ filter (is_deletable w above) (places_of (from_on w.clauses next)) ≡ deletable w above
  pub smaller : length (from_on w.clauses next) < length (from_on w.clauses now)

pub advances : (w : WatchState) (above : ℕ) (front : List ClauseRef) (c : ClauseRef)
    (now next : Option ClauseRef) → AreInPlace 0 w.clauses → is_attached w.clauses c ≡ true →
    now ≡ Some c → next ≡ first_attached (attached_behind w.clauses c) →
    front ++ filter (is_deletable w above) (places_of (from_on w.clauses now))
    ≡ deletable w above →
    Advances w above front c now next
advances w above front c now next stand is now_is next_is found =
    let here = from_here w.clauses c is in
    let rest = places_of (attached_behind w.clauses c) in
    let ahead : from_on w.clauses now ≡ here.0 ∷ attached_behind w.clauses c =
    ap (from_on w.clauses) now_is ∙ here.1 in
    let behind : from_on w.clauses next ≡ attached_behind w.clauses c =
    ap (from_on w.clauses) next_is ∙ from_behind 0 w.clauses c stand is in
    let split : places_of (from_on w.clauses now) ≡ c ∷ rest =
    ap places_of ahead ∙ ap (λ d. d ∷ rest) here.2 in
    let whole : front ++ filter (is_deletable w above) (c ∷ rest) ≡ deletable w above =
    ap (λ xs. front ++ filter (is_deletable w above) xs) (sym split) ∙ found in
    record {
      attached = λ d same. behind_is w.clauses c d (sym next_is ∙ same);
      taken = λ may. ap
          (λ ks. (front ++ c ∷ []) ++ filter (is_deletable w above) (places_of ks)) behind
          ∙ one_passes (is_deletable w above) c rest front (deletable w above) whole may;
      passed = λ may. ap (λ ks. front ++ filter (is_deletable w above) (places_of ks)) behind
          ∙ one_fails (is_deletable w above) c rest front (deletable w above) whole may;
      smaller = omega (arith, ap length ahead, ap length behind);
    }

-- THOSE THAT MAY GO

all_attached : (ks : List Attached) → All (λ c. is_attached ks c ≡ true) (places_of ks)
all_attached [] = All-nil (λ c. is_attached [] c ≡ true)
all_attached (k ∷ ks) =
    All-cons (λ c. is_attached (k ∷ ks) c ≡ true) k.place (places_of ks)
    (here_attached k ks)
    (All-weaker (λ c. is_attached ks c ≡ true) (λ c. is_attached (k ∷ ks) c ≡ true)
    (later_attached k ks) (places_of ks) (all_attached ks))

places_rise : (at : ℕ) (ks : List Attached) → AreInPlace at ks →
    AllPairs (λ (a b : ClauseRef). a.word < b.word) (places_of ks)
places_rise at [] stand = λ i j d lt inside. absurd (omega (arith, inside))
places_rise at (k ∷ ks) stand =
    AllPairs-cons (λ (a b : ClauseRef). a.word < b.word) k.place (places_of ks)
    (All-weaker (λ c. is_attached ks c ≡ true) (λ (c : ClauseRef). k.place.word < c.word)
    (λ c is. omega (arith, stand.0, later_word (at + (length k.lits + 6)) ks c stand.1 is))
    (places_of ks) (all_attached ks))
    (places_rise (at + (length k.lits + 6)) ks stand.1)

pub deletable_rise : (w : WatchState) (above : ℕ) → AreInPlace 0 w.clauses →
    AllPairs (λ (a b : ClauseRef). a.word < b.word) (deletable w above)
deletable_rise w above stand =
    AllPairs-filter (λ (a b : ClauseRef). a.word < b.word) (is_deletable w above)
    (places_of w.clauses)
    (places_rise 0 w.clauses stand)

filter_all : {X : Type 0} (P : X → Type 0) (p : X → Bool) (xs : List X) →
    All (λ x. p x ≡ true → P x) xs → All P (filter p xs)
filter_all P p [] all = All-nil P
filter_all P p (x ∷ xs) all =
    by (p x) refl (filter_all P p xs (All-tail (λ y. p y ≡ true → P y) x xs all))
  where
    by : (b : Bool) → p x ≡ b → All P (filter p xs) →
        All P (cond b (x ∷ filter p xs) (filter p xs))
    by true is rest =
        All-cons P x (filter p xs) (All-head (λ y. p y ≡ true → P y) x xs all is) rest
    by false is rest = rest

may_by_test : (w : WatchState) (above : ℕ) (c : ClauseRef) → is_attached w.clauses c ≡ true →
    is_deletable w above c ≡ true → IsDeletable w above c
may_by_test w above c is test =
    let both = both_true (nat_lt above (id_at w.clauses c)) (not (is_reason w.trail c)) test in
    record {
      attached = is;
      learned = ltb-true above (id_at w.clauses c) both.0;
      no_reason = no_reason w.trail c (not_true (is_reason w.trail c) both.1);
    }

pub all_deletable : (w : WatchState) (above : ℕ) →
    All (IsDeletable w above) (deletable w above)
all_deletable w above =
    filter_all (IsDeletable w above) (is_deletable w above) (places_of w.clauses)
    (All-weaker (λ c. is_attached w.clauses c ≡ true)
    (λ c. is_deletable w above c ≡ true → IsDeletable w above c) (may_by_test w above)
    (places_of w.clauses)
    (all_attached w.clauses))

filter_rest : {X : Type 0} (p : X → Bool) (x : X) (xs : List X) → filter p (x ∷ xs) ≡ [] →
    filter p xs ≡ []
filter_rest p x xs none = by (p x) none
  where
    by : (b : Bool) → cond b (x ∷ filter p xs) (filter p xs) ≡ [] → filter p xs ≡ []
    by true none = let clash : x ∷ filter p xs ≡ [] = none in cc
    by false none = none

none_passes : (p : ClauseRef → Bool) (ks : List Attached) (c : ClauseRef) →
    is_attached ks c ≡ true → p c ≡ true → filter p (places_of ks) ≡ [] → ⊥
none_passes p [] c is test none = let clash : false ≡ true = is in cc
none_passes p (k ∷ ks) c is test none = elim (eqb_tells k.place.word c.word) [
  | inl same ↦
      let at_k : p k.place ≡ true = subst (λ d. p d ≡ true) (sym (ap ref same.1)) test in
      let clash : k.place ∷ filter p (places_of ks) ≡ [] = rw at_k at none in cc
  | inr other ↦ none_passes p ks c (rw other.0 at is) test
      (filter_rest p k.place (places_of ks) none)
]

pub none_deletable : (w : WatchState) (above : ℕ) → deletable w above ≡ [] → (c : ClauseRef) →
    IsDeletable w above c → ⊥
none_deletable w above none c may =
    let test : is_deletable w above c ≡ true =
    λ i. lt-ltb above (id_at w.clauses c) may.learned i
    && not (is_no_reason w.trail c may.no_reason i) in
    none_passes (is_deletable w above) w.clauses c may.attached test none

-- PARTS OF A LIST

part_none : {X : Type 0} (xs : List X) → ArePartOf [] xs
part_none [] = refl
part_none (x ∷ xs) = inl (part_none xs)

pub part_passed : {X : Type 0} (part xs : List X) (x : X) → ArePartOf part xs →
    ArePartOf part (xs ++ x ∷ [])
part_passed part [] x is = inl is
part_passed part (y ∷ ys) x is = elim is [
  | inl later ↦ inl (part_passed part ys x later)
  | inr first ↦ inr (first.0, first.1, part_passed first.0 ys x first.2)
]

pub part_taken : {X : Type 0} (part xs : List X) (x : X) → ArePartOf part xs →
    ArePartOf (part ++ x ∷ []) (xs ++ x ∷ [])
part_taken part [] x is = inr ([], ap (λ ys. ys ++ x ∷ []) is, refl)
part_taken part (y ∷ ys) x is = elim is [
  | inl later ↦ inl (part_taken part ys x later)
  | inr first ↦ inr (
    first.0 ++ x ∷ [],
    ap (λ zs. zs ++ x ∷ []) first.1,
    part_taken first.0 ys x first.2,
  )
]

pub part_all : {X : Type 0} (P : X → Type 0) (part xs : List X) → ArePartOf part xs → All P xs →
    All P part
part_all P part [] is all = subst (All P) (sym is) (All-nil P)
part_all P part (x ∷ xs) is all = elim is [
  | inl later ↦ part_all P part xs later (All-tail P x xs all)
  | inr first ↦ subst (All P) (sym first.1) (All-cons P x first.0 (All-head P x xs all)
      (part_all P first.0 xs first.2 (All-tail P x xs all)))
]

pairs_tail : {X : Type 0} (R : X → X → Type 0) (x : X) (xs : List X) → AllPairs R (x ∷ xs) →
    AllPairs R xs
pairs_tail R x xs all = λ i j d lt inside. all (suc i) (suc j) d (omega arith) (omega arith)

pairs_head : {X : Type 0} (R : X → X → Type 0) (x : X) (xs : List X) → AllPairs R (x ∷ xs) →
    All (R x) xs
pairs_head R x xs all = λ k d inside. all zero (suc k) d (omega arith) (omega arith)

pub part_pairs : {X : Type 0} (R : X → X → Type 0) (part xs : List X) → ArePartOf part xs →
    AllPairs R xs → AllPairs R part
part_pairs R part [] is all = subst (AllPairs R) (sym is) all
part_pairs R part (x ∷ xs) is all = elim is [
  | inl later ↦ part_pairs R part xs later (pairs_tail R x xs all)
  | inr first ↦ subst (AllPairs R) (sym first.1) (AllPairs-cons R x first.0
      (part_all (R x) first.0 xs first.2 (pairs_head R x xs all))
      (part_pairs R first.0 xs first.2 (pairs_tail R x xs all)))
]

-- the candidate at an index alone
pub one_part : (ks : List Candidate) (k : ℕ) (d : Candidate) → k < length ks →
    ArePartOf ((get_or ks k d).clause ∷ []) (refs_of ks)
one_part [] k d inside = absurd (omega (arith, inside))
one_part (y ∷ ys) zero d inside = inr ([], refl, part_none (refs_of ys))
one_part (y ∷ ys) (suc k) d inside = inl (one_part ys k d (omega (arith, inside)))

-- the first ones, and whether the next one goes with them
pub one_passed : (part : List ClauseRef) (ks : List Candidate) (i : ℕ) → i < length ks →
    ArePartOf part (refs_of (take i ks)) → ArePartOf part (refs_of (take (i + 1) ks))
one_passed part [] i inside is = absurd (omega (arith, inside))
one_passed part (d ∷ ks) i inside is =
    subst (ArePartOf part) (sym (map_more (λ (k : Candidate). k.clause) (d ∷ ks) i d inside))
    (part_passed part (refs_of (take i (d ∷ ks))) (get_or (d ∷ ks) i d).clause is)

pub one_taken : (part : List ClauseRef) (ks : List Candidate) (i : ℕ) (d : Candidate) →
    i < length ks → ArePartOf part (refs_of (take i ks)) →
    ArePartOf (part ++ (get_or ks i d).clause ∷ []) (refs_of (take (i + 1) ks))
one_taken part ks i d inside is =
    subst (ArePartOf (part ++ (get_or ks i d).clause ∷ []))
    (sym (map_more (λ (k : Candidate). k.clause) ks i d inside))
    (part_taken part (refs_of (take i ks)) (get_or ks i d).clause is)

-- one candidate more
pub one_more : (ks : List Candidate) (k : Candidate) (c : ClauseRef) → k.clause ≡ c →
    refs_of (ks ++ k ∷ []) ≡ refs_of ks ++ c ∷ []
one_more ks k c same =
    map-append (λ (j : Candidate). j.clause) ks (k ∷ []) ∙ ap (λ d. refs_of ks ++ d ∷ []) same

-- WHAT IS CHOSEN

-- a clause none of whose literals has it as its reason
pub none_in : (w : WatchState) (c : ClauseRef) (items : List Lit) → items ≡ lits_at w.clauses c →
    HasLevels w.clauses w.level w.trail → IsOnce w.trail →
    ((k : ℕ) (d : Lit) → k < length items →
    are_same (reason_in w.trail (get_or items k d)) c ≡ false) →
    is_reason w.trail c ≡ false
none_in w c items same levels once all =
    none_found w.clauses w.level w.trail c levels once
    (λ l has. let here : Contains items l = subst (λ xs. Contains xs l) (sym same) has in
    subst (λ m. are_same (reason_in w.trail m) c ≡ false) here.2 (all here.0 l here.1))

-- some of the clauses that may be deleted
pub record IsChosen (w : WatchState) (above : ℕ) (refs : List ClauseRef) : Type 0 where
  pub attached : All (λ c. is_attached w.clauses c ≡ true) refs
  pub learned : All (λ c. above < id_at w.clauses c) refs
  pub no_reason : All (IsNoReason w.trail) refs
  pub apart : AllPairs (λ (a b : ClauseRef). a.word < b.word) refs

pub part_chosen : (w : WatchState) (above : ℕ) (refs all : List ClauseRef) →
    all ≡ deletable w above → ArePartOf refs all →
    AllPairs (λ (a b : ClauseRef). a.word < b.word) (deletable w above) → IsChosen w above refs
part_chosen w above refs all is part rise =
    let some : ArePartOf refs (deletable w above) = subst (ArePartOf refs) is part in
    let may = part_all (IsDeletable w above) refs (deletable w above) some
    (all_deletable w above) in
    record {
      attached = All-weaker (IsDeletable w above) (λ c. is_attached w.clauses c ≡ true)
          (λ c m. m.attached) refs may;
      learned = All-weaker (IsDeletable w above) (λ c. above < id_at w.clauses c)
          (λ c m. m.learned) refs may;
      no_reason = All-weaker (IsDeletable w above) (IsNoReason w.trail)
          (λ c m. m.no_reason) refs may;
      apart = part_pairs (λ (a b : ClauseRef). a.word < b.word) refs (deletable w above) some
          rise;
    }
