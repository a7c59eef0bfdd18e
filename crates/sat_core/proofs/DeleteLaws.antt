-- Behind clauses that are deleted: how the search lies, and what it knows by ids.
use Rattle.std.specs.Prelude.{Err, Ok, Result, if◌then◌else◌, map, option_map}
use Rattle.std.specs.declared.alloc.AllocError.{AllocError}
use Rattle.std.proofs.Common.{inl, inr, ◌⊎◌, ◌≡◌, ◌≢◌, ◌==◌, ◌<◌, ◌≤◌, ◌+◌, ℕ, zero, suc, ℤ, pos, Bool, true, false, List, [], ◌∷◌, ◌++◌, length, Option, None, Some, get_or, All, AllPairs, refl, sym, ap, ◌∙◌, subst, arith}
use Rattle.std.proofs.lemmas.Bool.{both_ways, eq-eqb, eqb-true}
use Rattle.std.proofs.lemmas.List.Elements.{All-head, All-map, All-tail}
use Rattle.std.proofs.lemmas.List.Kept.{AllPairs-cons}
use Rattle.list_laws.proofs.Members.{In, In-all, In-map, from_In-map}
use Rattle.list_laws.proofs.Places.{none_is_not_some, some_is}
use Rattle.sat_clause.specs.declared.literal.Lit.{Lit}
use Rattle.sat_clause.specs.Judge.{erase}
use Rattle.sat_clause.specs.Learned.{SameLiterals}
use Rattle.sat_clause.specs.Literal.{Clause, is_among, negation}
use Rattle.sat_clause.specs.Live.{Live, clause_at}
use Rattle.sat_clause.specs.Step.{Step}
use Rattle.sat_clause.specs.Trail.{falses}
use Rattle.sat_arena.specs.declared.clause_ref.ClauseRef.{ClauseRef}
use Rattle.sat_arena.specs.Store.{ref}
use Rattle.sat_watch.specs.declared.entry.TrailEntry.{TrailEntry}
use Rattle.sat_watch.specs.Chains.{is_in}
use Rattle.sat_watch.specs.Delete.{IsNoReason, OthersMove, entry_moved, deleted, moved_to, placed_anew, reason_moved, without}
use Rattle.sat_watch.specs.Trail.{value_in}
use Rattle.sat_watch.specs.Watches.{AreInPlace, Attached, HasCause, HasLevels, WatchState, gone_back, id_at, is_attached, lits_at}
use Rattle.sat_core.specs.ClauseList.{ClauseListState}
use Rattle.sat_core.specs.Deciding.{GoesOn}
use Rattle.sat_core.specs.Delete.{Deletes, HasErased, HasDeleted, IsLast, IsNamed, MayGo, ids_of}
use Rattle.sat_core.specs.Kept.{SameLive}
use Rattle.sat_core.specs.Levels.{AreLevels, level_of, lits_of}
use Rattle.sat_core.specs.Ranking.{IsRanked}
use Rattle.sat_core.specs.SearchStore.{IsKeeping, IsSearchStore, assigned_in, live_of, search_value}
use Rattle.sat_core.specs.Stands.{IsAbove}
use Rattle.sat_core.proofs.AttachedLaws.{found, here_attached, later_attached, origin, other_word}
use Rattle.sat_core.proofs.ErasedLaws.{erase_named, erase_none, erase_other}
use Rattle.sat_core.proofs.ListLaws.{position_of}
use Rattle.sat_core.proofs.RankingLaws.{ranked_more}
use Rattle.sat_core.proofs.SearchLaws.{kept_propagated, store_propagated}
use Rattle.sat_core.proofs.WatchLaws.{append_none, lits_in, single_found, value_found, value_origin}
use Rattle.sat_order.specs.Order.{OrderState}

-- REFERENCES

in_refs : (refs : List ClauseRef) (c : ClauseRef) → is_in refs c ≡ true → In refs c
in_refs [] c is = cc
in_refs (d ∷ refs) c is = by (d.word == c.word) refl is (in_refs refs c)
  where
    by : (b : Bool) → (d.word == c.word) ≡ b → (if b then true else is_in refs c) ≡ true →
        (is_in refs c ≡ true → In refs c) → In (d ∷ refs) c
    by true same is rest = inl (ap ref (eqb-true d.word c.word same))
    by false other is rest = inr (rest is)

refs_in : (refs : List ClauseRef) (c : ClauseRef) → In refs c → is_in refs c ≡ true
refs_in [] c is = absurd is
refs_in (d ∷ refs) c (inl same) =
    rw (eq-eqb d.word c.word (ap (λ (r : ClauseRef). r.word) same)) refl
refs_in (d ∷ refs) c (inr later) = by (d.word == c.word) (refs_in refs c later)
  where
    by : (b : Bool) → is_in refs c ≡ true → (if b then true else is_in refs c) ≡ true
    by true is = refl
    by false is = is

placed_stand : (at : ℕ) (ks : List Attached) → AreInPlace at (placed_anew at ks)
placed_stand at [] = tt
placed_stand at (k ∷ ks) = (refl, placed_stand (at + (length k.lits + 6)) ks)

-- a clause that is left was one before, and has moved to where it is
record Came (refs : List ClauseRef) (at : ℕ) (ks : List Attached) (d : ClauseRef) : Type 0 where
  pub from : ClauseRef
  pub attached : is_attached ks from ≡ true
  pub out : is_in refs from ≡ false
  pub moved : moved_to at (without refs ks) from ≡ Some d

came : (refs : List ClauseRef) (before at : ℕ) (ks : List Attached) (d : ClauseRef) →
    AreInPlace before ks → is_attached (placed_anew at (without refs ks)) d ≡ true →
    Came refs at ks d
came refs before at [] d stand is = absurd (both_ways false refl is)
came refs before at (k ∷ ks) d stand is =
    by (is_in refs k.place) refl is
    (came refs (before + (length k.lits + 6)) at ks d stand.1)
    (came refs (before + (length k.lits + 6)) (at + (length k.lits + 6)) ks d stand.1)
  where
    here : (b : Bool) → (at == d.word) ≡ b → is_in refs k.place ≡ false →
        (if b then true
        else is_attached (placed_anew (at + (length k.lits + 6)) (without refs ks)) d) ≡ true →
        (is_attached (placed_anew (at + (length k.lits + 6)) (without refs ks)) d ≡ true →
        Came refs (at + (length k.lits + 6)) ks d) → Came refs at (k ∷ ks) d
    here true same stays there rest = record {
      from = k.place;
      attached = here_attached k ks;
      out = stays;
      moved = rw (stays, eq-eqb k.place.word k.place.word refl)
          (ap (λ (n : ℕ). Some (ref n)) (eqb-true at d.word same));
    }
    here false other stays there rest =
        let c = rest there in record {
          from = c.from;
          attached = later_attached k ks c.from c.attached;
          out = c.out;
          moved = rw (stays, other_word before k ks c.from stand c.attached) c.moved;
        }

    by : (b : Bool) → is_in refs k.place ≡ b →
        is_attached (placed_anew at (if b then without refs ks else k ∷ without refs ks)) d ≡ true →
        (is_attached (placed_anew at (without refs ks)) d ≡ true → Came refs at ks d) →
        (is_attached (placed_anew (at + (length k.lits + 6)) (without refs ks)) d ≡ true →
        Came refs (at + (length k.lits + 6)) ks d) → Came refs at (k ∷ ks) d
    by true gone there earlier later =
        let c = earlier there in record {
          from = c.from;
          attached = later_attached k ks c.from c.attached;
          out = c.out;
          moved = rw gone c.moved;
        }
    by false stays there earlier later = here (at == d.word) refl stays there later

-- THE TRAIL

-- each reason stays under its id
module _ (refs : List ClauseRef) (ks now : List Attached) (moves : OthersMove refs ks now) where
  abbrev to : ClauseRef → Option ClauseRef
  to = moved_to 0 (without refs ks)

  trail_moved : (trail : List TrailEntry) (level : ℕ) → HasLevels ks level trail →
      ((e : TrailEntry) → In trail e → (r : ClauseRef) → e.reason ≡ Some r →
      is_in refs r ≡ false) →
      assigned_in now (map (entry_moved to) trail) ≡ assigned_in ks trail
  trail_moved [] level levels out = refl
  trail_moved (e ∷ older) level levels out =
      let both = by e.reason refl levels.1
      (λ n rest. trail_moved older n rest (λ f within. out f (inr within))) in
      λ i. record { lit = e.lit; level = e.level; reason = both.0 i } ∷ both.1 i
    where
      by : (r : Option ClauseRef) → e.reason ≡ r →
          HasCause ks level e.lit older r (λ n. HasLevels ks n older) →
          ((n : ℕ) → HasLevels ks n older →
          assigned_in now (map (entry_moved to) older) ≡ assigned_in ks older) →
          (option_map (id_at now) (reason_moved to r) ≡ option_map (id_at ks) r)
          × (assigned_in now (map (entry_moved to) older) ≡ assigned_in ks older)
      by None is cause rest = (refl, rest cause.0 cause.2)
      by (Some c) is cause rest =
          let m = moves c cause.0 (out e (inl refl) c is) in
          (ap (option_map (id_at now)) m.moved ∙ ap Some m.id, rest level cause.2)

pub trail_stays : (refs : List ClauseRef) (w now : WatchState) →
    HasLevels w.clauses w.level w.trail → All (IsNoReason w.trail) refs → now ≡ deleted refs w →
    OthersMove refs w.clauses now.clauses →
    assigned_in now.clauses now.trail ≡ assigned_in w.clauses w.trail
trail_stays refs w now levels none is moves =
    ap (assigned_in now.clauses) (ap (λ (s : WatchState). s.trail) is)
    ∙ trail_moved refs w.clauses now.clauses moves w.trail w.level levels
    (λ e within r reason. out e within r reason (is_in refs r) refl)
  where
    out : (e : TrailEntry) → In w.trail e → (r : ClauseRef) → e.reason ≡ Some r → (b : Bool) →
        is_in refs r ≡ b → b ≡ false
    out e within r reason false there = refl
    out e within r reason true there =
        absurd (In-all (λ (f : TrailEntry). f.reason ≢ Some r) w.trail e
        (In-all (IsNoReason w.trail) refs r none (in_refs refs r there)) within reason)

-- so each literal keeps its value
value_same : (ks now : List Attached) (trail older : List TrailEntry) (l : Lit) →
    assigned_in now trail ≡ assigned_in ks older → value_in trail l ≡ value_in older l
value_same ks now trail older l same =
    ap (λ (ls : List Lit). if is_among (falses ls) l then Some false
    else if is_among (falses ls) (negation l) then Some true else None)
    (sym (lits_in now trail) ∙ ap lits_of same ∙ lits_in ks older)

-- IDS

named_at : (live : Live) (n : ℕ) (x : Clause) → 1 ≤ n → clause_at live n ≡ Some x →
    IsNamed live (pos n)
named_at live zero x some at = absurd (omega (arith, some))
named_at live (suc n) x some at = (x, at)

module _ {i a t above : ℕ} {s : ClauseListState} {w now : WatchState} {refs : List ClauseRef}
    (store : IsSearchStore i a t s w) (may : MayGo w above refs)
    (is : now ≡ deleted refs w) (moves : OthersMove refs w.clauses now.clauses)
    (trail : assigned_in now.clauses now.trail ≡ assigned_in w.clauses w.trail)
    (least : i ≤ above) (last : IsLast above s.clauses) where
  abbrev old : Live
  old = s.clauses ++ live_of w.clauses

  abbrev new : Live
  new = s.clauses ++ live_of now.clauses

  abbrev ids : List ℤ
  ids = ids_of w.clauses refs

  vars_same : now.vars ≡ w.vars
  vars_same = ap (λ (x : WatchState). x.vars) is

  level_same : now.level ≡ w.level
  level_same = ap (λ (x : WatchState). x.level) is

  clauses_are : now.clauses ≡ placed_anew 0 (without refs w.clauses)
  clauses_are = ap (λ (x : WatchState). x.clauses) is

  -- of what was laid aside nothing goes
  aside_below : (n : ℕ) (x : Clause) → clause_at s.clauses n ≡ Some x → n ≤ above
  aside_below n x at = let p = position_of s.clauses n x at in last p.0 n x p.1

  not_aside : (n : ℕ) → above < n → clause_at s.clauses n ≡ None
  not_aside n over = by (clause_at s.clauses n) refl
    where
      by : (o : Option Clause) → clause_at s.clauses n ≡ o → o ≡ None
      by None at = refl
      by (Some x) at = let low = aside_below n x at in absurd (omega (arith, low, over))

  -- each of those that go is attached, with an id above
  goes_attached : (c : ClauseRef) → In refs c → is_attached w.clauses c ≡ true
  goes_attached c within =
      In-all (λ (r : ClauseRef). is_attached w.clauses r ≡ true) refs c may.attached within

  goes_above : (c : ClauseRef) → In refs c → above < id_at w.clauses c
  goes_above c within =
      In-all (λ (r : ClauseRef). above < id_at w.clauses r) refs c may.learned within

  stays : (c : ClauseRef) → id_at w.clauses c ≤ above → (b : Bool) → is_in refs c ≡ b → b ≡ false
  stays c low false there = refl
  stays c low true there =
      let over = goes_above c (in_refs refs c there) in absurd (omega (arith, low, over))

  -- where a clause that is left was before
  record IsFrom (d : ClauseRef) : Type 0 where
    pub from : ClauseRef
    pub attached : is_attached w.clauses from ≡ true
    pub out : is_in refs from ≡ false
    pub moved : moved_to 0 (without refs w.clauses) from ≡ Some d
    pub id : id_at now.clauses d ≡ id_at w.clauses from
    pub lits : lits_at now.clauses d ≡ lits_at w.clauses from

  from_old : (d : ClauseRef) → is_attached now.clauses d ≡ true → IsFrom d
  from_old d there =
      let c = came refs 0 0 w.clauses d store.keeps.stand
      (subst (λ (ks : List Attached). is_attached ks d ≡ true) clauses_are there) in
      let m = moves c.from c.attached c.out in
      let same : m.to ≡ d = some_is (sym m.moved ∙ c.moved) in
      record {
        from = c.from;
        attached = c.attached;
        out = c.out;
        moved = c.moved;
        id = ap (id_at now.clauses) (sym same) ∙ m.id;
        lits = ap (lits_at now.clauses) (sym same) ∙ m.lits;
      }

  keeps_left : IsKeeping now.vars s.clauses now.clauses
  keeps_left = record {
    stand = subst (AreInPlace 0) (sym clauses_are) (placed_stand 0 (without refs w.clauses));
    ids = λ c d c_is d_is alone one.
        let f = from_old c c_is in
        let g = from_old d d_is in
        let same : f.from ≡ g.from = store.keeps.ids f.from g.from f.attached g.attached
        (ap (clause_at s.clauses) (sym f.id) ∙ alone) (sym f.id ∙ one ∙ g.id) in
        some_is (sym f.moved ∙ ap (moved_to 0 (without refs w.clauses)) same ∙ g.moved);
    agree = λ c x c_is at.
        let f = from_old c c_is in
        subst (SameLiterals x) (sym f.lits)
        (store.keeps.agree f.from x f.attached (ap (clause_at s.clauses) (sym f.id) ∙ at));
    simple = λ c c_is.
        let f = from_old c c_is in
        rw (vars_same, f.lits) (store.keeps.simple f.from f.attached);
  }

  -- an attached clause that is not laid aside is alone under its id
  alone_at : (c : ClauseRef) → is_attached w.clauses c ≡ true →
      clause_at s.clauses (id_at w.clauses c) ≡ None →
      clause_at old (id_at w.clauses c) ≡ Some (lits_at w.clauses c)
  alone_at c c_is none =
      append_none s.clauses (live_of w.clauses) (id_at w.clauses c) none
      ∙ found 0 w.clauses c store.keeps.stand
      (λ d d_is one. store.keeps.ids c d c_is d_is none one) c_is

  -- what is left was there, and is not among those that go
  left_stays : (n : ℕ) (x : Clause) → clause_at new n ≡ Some x →
      (clause_at old n ≡ Some x) × (In ids (pos n) → ⊥)
  left_stays n x at = by (clause_at s.clauses n) refl
    where
      by : (o : Option Clause) → clause_at s.clauses n ≡ o →
          (clause_at old n ≡ Some x) × (In ids (pos n) → ⊥)
      by (Some y) aside =
          let same : y ≡ x = some_is (sym (single_found s.clauses now.clauses n y aside) ∙ at) in (
            single_found s.clauses w.clauses n y aside ∙ ap Some same,
            λ goes.
                let r = from_In-map (λ c. pos (id_at w.clauses c)) refs (pos n) goes in
                let one : pos (id_at w.clauses r.0) ≡ pos n = r.2 in
                let id : id_at w.clauses r.0 ≡ n = cc in
                let low = aside_below n y aside in
                let over = goes_above r.0 r.1 in
                omega (arith, id, low, over),
          )
      by None none =
          let d = origin 0 now.clauses n x keeps_left.stand
          (sym (append_none s.clauses (live_of now.clauses) n none) ∙ at) in
          let f = from_old d.0 d.1 in
          let id : id_at w.clauses f.from ≡ n = sym f.id ∙ d.2 in
          let none_from : clause_at s.clauses (id_at w.clauses f.from) ≡ None =
          ap (clause_at s.clauses) id ∙ none in (
            ap (clause_at old) (sym id) ∙ alone_at f.from f.attached none_from
                ∙ ap Some (sym f.lits ∙ d.3),
            λ goes.
                let r = from_In-map (λ c. pos (id_at w.clauses c)) refs (pos n) goes in
                let one : pos (id_at w.clauses r.0) ≡ pos n = r.2 in
                let r_id : id_at w.clauses r.0 ≡ n = cc in
                let same : f.from ≡ r.0 = store.keeps.ids f.from r.0 f.attached
                (goes_attached r.0 r.1) none_from (id ∙ sym r_id) in
                both_ways _ f.out (ap (is_in refs) same ∙ refs_in refs r.0 r.1),
          )

  -- what was there goes, or is left
  goes_or_left : (n : ℕ) (x : Clause) → clause_at old n ≡ Some x →
      In ids (pos n) ⊎ ((y : Clause) × (clause_at new n ≡ Some y))
  goes_or_left n x at = elim (value_origin store.keeps n x at) [
    | inl single ↦ inr (x, single_found s.clauses now.clauses n x single)
    | inr c ↦ by c.0 c.1 c.2 (is_in refs c.0) refl
  ]
    where
      by : (c : ClauseRef) → is_attached w.clauses c ≡ true → id_at w.clauses c ≡ n → (b : Bool) →
          is_in refs c ≡ b → In ids (pos n) ⊎ ((y : Clause) × (clause_at new n ≡ Some y))
      by c c_is id true there =
          inl (subst (λ (m : ℕ). In ids (pos m)) id
          (In-map (λ r. pos (id_at w.clauses r)) refs c (in_refs refs c there)))
      by c c_is id false out =
          let m = moves c c_is out in
          let y = value_found keeps_left m.to m.attached in
          inr (y.0, ap (clause_at new) (sym (m.id ∙ id)) ∙ y.1)

  clauses_left : SameLive (erase old ids) new
  clauses_left n = by (clause_at new n) refl
    where
      gone : (p : Option Clause) → clause_at old n ≡ p → clause_at new n ≡ None →
          clause_at (erase old ids) n ≡ None
      gone None none left = erase_none old ids n none
      gone (Some x) at left = elim (goes_or_left n x at) [
        | inl goes ↦ erase_named old ids n goes
        | inr stays ↦ absurd (none_is_not_some (sym left ∙ stays.1))
      ]

      by : (o : Option Clause) → clause_at new n ≡ o → clause_at (erase old ids) n ≡ clause_at new n
      by None left = gone (clause_at old n) refl left ∙ sym left
      by (Some x) at =
          let there = left_stays n x at in
          erase_other old ids n there.1 ∙ there.0 ∙ sym at

  pub store_deleted : IsSearchStore i a t s now
  store_deleted = record {
    few_ids = store.few_ids;
    few = store.few;
    few_vars = rw vars_same store.few_vars;
    same_vars = store.same_vars ∙ sym vars_same;
    below = λ n x at. store.below n x (left_stays n x at).0;
    few_taken = store.few_taken;
    once = store.once;
    keeps = keeps_left;
    taken_are = λ k n x lt at.
        let c = store.taken_are k n x lt at in
        let low = last k n x at in
        let m = moves c.0 c.1
        (stays c.0 (omega (arith, low, c.2)) (is_in refs c.0) refl) in
        (m.to, m.attached, m.id ∙ c.2);
    waiting = elim store.waiting [
      | inl all ↦ inl all
      | inr low ↦ inr (level_same ∙ low)
    ];
    leveled = record {
      levels = subst AreLevels (sym trail) store.leveled.levels;
      current = level_same ∙ store.leveled.current ∙ ap level_of (sym trail);
    };
    none_pending = ap (λ (x : WatchState). x.pending) is ∙ store.none_pending;
  }

  pub ranked_deleted : {order : OrderState} → IsRanked w.vars w.trail order →
      IsRanked now.vars now.trail order
  ranked_deleted ranked =
      rw vars_same (ranked_more now.trail
      (λ l some. rw (value_same w.clauses now.clauses now.trail w.trail l trail) some) ranked)

  ids_apart : (rs : List ClauseRef) → All (λ c. is_attached w.clauses c ≡ true) rs →
      All (λ c. above < id_at w.clauses c) rs → AllPairs (λ a b. a.word < b.word) rs →
      AllPairs (λ g h. g ≢ h) (ids_of w.clauses rs)
  ids_apart [] attached learned apart = λ j k d below within. absurd (omega (arith, within))
  ids_apart (c ∷ rs) attached learned apart =
      let Is = λ (r : ClauseRef). is_attached w.clauses r ≡ true in
      let Over = λ (r : ClauseRef). above < id_at w.clauses r in
      let c_is = All-head Is c rs attached in
      let over = All-head Over c rs learned in
      AllPairs-cons (λ g h. g ≢ h) (pos (id_at w.clauses c)) (ids_of w.clauses rs)
      (All-map (λ h. pos (id_at w.clauses c) ≢ h) (λ r. pos (id_at w.clauses r)) rs
      (λ k d within same.
      let r : ClauseRef = get_or rs k d in
      let one : id_at w.clauses c ≡ id_at w.clauses r = cc in
      let ref_same : c ≡ r = store.keeps.ids c r c_is (All-tail Is c rs attached k d within)
      (not_aside (id_at w.clauses c) over) one in
      let words = ap (λ (x : ClauseRef). x.word) ref_same in
      let less = apart 0 (suc k) d (omega arith) (omega (arith, within)) in
      omega (arith, words, less)))
      (ids_apart rs (All-tail Is c rs attached) (All-tail Over c rs learned)
      (λ j k d below within.
      apart (suc j) (suc k) d (omega (arith, below)) (omega (arith, within))))

  pub deletes : Deletes (search_value i a s w) (search_value i a s now) ids
  deletes = record {
    named = All-map (IsNamed old) (λ c. pos (id_at w.clauses c)) refs
        (λ k d within.
        let c : ClauseRef = get_or refs k d in
        let x = value_found store.keeps c (may.attached k d within) in
        let over = may.learned k d within in
        named_at old (id_at w.clauses c) x.0 (omega (arith, over)) x.1);
    added = All-map (IsAbove i) (λ c. pos (id_at w.clauses c)) refs
        (λ k d within.
        let over = may.learned k d within in
        (id_at w.clauses (get_or refs k d), refl, omega (arith, over, least)));
    apart = ids_apart refs may.attached may.learned may.apart;
    same_vars = vars_same;
    same_inputs = refl;
    same_added = refl;
    same_trail = trail;
    clauses = clauses_left;
  }

-- FROM THE START

none_named : (ks : List Attached) (refs : List ClauseRef) → refs ≢ [] → ids_of ks refs ≢ []
none_named ks [] some none = some refl
none_named ks (c ∷ refs) some none = cc

-- propagated at level 0, and then clauses are deleted
module _ {i a t above : ℕ} {s : ClauseListState} {old w now : WatchState}
    {before after : List Step} (store : IsSearchStore i a t s old)
    (goes : GoesOn (gone_back 0 old) w) (level : w.level ≡ 0) (least : i ≤ above)
    (last : IsLast above s.clauses) (erased : HasErased w now before after above (i + a)) where
  pub store_left : IsSearchStore i a t s now
  store_left =
      store_deleted (store_propagated store goes level) erased.may erased.is erased.others
      erased.trail least last

  pub ranked_left : {order : OrderState} → IsRanked w.vars w.trail order →
      IsRanked now.vars now.trail order
  ranked_left =
      ranked_deleted (store_propagated store goes level) erased.may erased.is erased.others
      erased.trail least last

  pub has_deleted : HasDeleted (search_value i a s old) (search_value i a s now) before after
  has_deleted = record {
    propagated = search_value i a s w;
    same = kept_propagated store goes level;
    ids = ids_of w.clauses erased.refs;
    some = none_named w.clauses erased.refs erased.some;
    deletes = deletes (store_propagated store goes level) erased.may erased.is erased.others
        erased.trail least last;
    step = erased.step;
  }

-- it comes to that or not
pub whether : {P : Type 0} → (r : Result Bool AllocError) → (r ≡ Ok true → P) →
    (r ≢ Ok true → P) → P
whether (Ok true) is_so is_not = is_so refl
whether (Ok false) is_so is_not = is_not (λ e. cc)
whether (Err x) is_so is_not = is_not (λ e. cc)
