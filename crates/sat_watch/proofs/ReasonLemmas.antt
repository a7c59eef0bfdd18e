-- A trail whose reasons have moved is the same but for them.
use Rattle.std.proofs.Common.{◌≡◌, ℕ, ◌<◌, true, false, inl, inr, List, [], ◌∷◌, ◌++◌, length, map, reverse, slice_index_or, Option, None, Some, Vec, All, Contains, refl, sym, ap, ◌∙◌, subst, arith}
use Rattle.std.specs.Global.{Global}
use Rattle.std.specs.Vec.{with_items}
use Rattle.std.proofs.lemmas.List.{length-map, map-append, reverse-append, with_items_is}
use Rattle.std.proofs.lemmas.List.Elements.{All-head, All-map, All-tail}
use Rattle.sat_clause.specs.declared.literal.Lit.{Lit}
use Rattle.sat_clause.specs.Literal.{Clause, IsWithin, is_among, negation}
use Rattle.sat_clause.specs.Trail.{falses as falses_of, IsOnce as IsOnceOn}
use Rattle.sat_arena.specs.declared.clause_ref.ClauseRef.{ClauseRef}
use Rattle.sat_arena.specs.Store.{Stored, is_held, stored_at}
use Rattle.sat_arena.proofs.StoreLaws.{same_or_other}
use Rattle.sat_watch.specs.declared.entry.TrailEntry.{TrailEntry}
use Rattle.sat_watch.specs.Chains.{is_in}
use Rattle.sat_watch.specs.Delete.{IsNoReason, entry_moved, reason_moved}
use Rattle.sat_watch.specs.Levels.{AreLeveled, IsLeveledBy, IsWatchStore, IsWatched}
use Rattle.sat_watch.specs.Trail.{AreWithin, IsTrail, TrailState, lits_of, place_in}
use Rattle.sat_watch.specs.TrailStore.{ArePlacesOf, AreTold, IsTrailStore, trail_state, truth_by, truth_in}
use Rattle.sat_watch.specs.Watched.{IsReason, is_false, true_at}
use Rattle.sat_watch.proofs.WatchLemmas.{lit_tells}

module _ (to : ClauseRef → Option ClauseRef) where
  abbrev pub moved_all : List TrailEntry → List TrailEntry
  moved_all entries = map (entry_moved to) entries

  pub lits_moved : (entries : List TrailEntry) → lits_of (moved_all entries) ≡ lits_of entries
  lits_moved [] = refl
  lits_moved (e ∷ older) = ap (λ l. e.lit ∷ l) (lits_moved older)

  pub false_moved : (entries : List TrailEntry) (l : Lit) →
      is_false (moved_all entries) l ≡ is_false entries l
  false_moved entries l = ap (λ ls. is_among (falses_of ls) l) (lits_moved entries)

  pub true_moved : (entries : List TrailEntry) (l : Lit) →
      true_at (moved_all entries) l ≡ true_at entries l
  true_moved [] l = refl
  true_moved (e ∷ older) l = elim (lit_tells e.lit l) [
    | inl same ↦ rw same.0 refl
    | inr other ↦ rw other.0 (true_moved older l)
  ]

  pub place_moved : (entries : List TrailEntry) (l : Lit) →
      place_in (moved_all entries) l ≡ place_in entries l
  place_moved [] l = refl
  place_moved (e ∷ older) l =
      rw (length-map older (entry_moved to), place_moved older l) refl

  pub truth_moved : (entries : List TrailEntry) (l : Lit) →
      truth_in (moved_all entries) l ≡ truth_in entries l
  truth_moved entries l =
      λ i. truth_by (false_moved entries l i) (false_moved entries (negation l) i)

  pub trail_moved : (old new : TrailState) → new.vars ≡ old.vars →
      new.entries ≡ moved_all old.entries → IsTrail old → IsTrail new
  trail_moved old new vars is t =
      let few = t.few in
      rw (vars, is) (record {
        few_vars = t.few_vars;
        within =
            All-map (λ (e : TrailEntry). IsWithin old.vars e.lit) (entry_moved to) old.entries
            t.within;
        once = subst IsOnceOn (sym (lits_moved old.entries)) t.once;
        few = omega (arith, length-map old.entries (entry_moved to));
      })

  reverse_map : (xs : List TrailEntry) → reverse (moved_all xs) ≡ moved_all (reverse xs)
  reverse_map [] = refl
  reverse_map (x ∷ xs) =
      reverse-append (entry_moved to x ∷ []) (moved_all xs) ∙
      (ap (λ l. l ++ entry_moved to x ∷ []) (reverse_map xs) ∙
      (sym (map-append (entry_moved to) (reverse xs) (x ∷ [])) ∙
      ap moved_all (sym (reverse-append (x ∷ []) xs))))

  -- so do its entries where they lie
  module _ (entries : Vec TrailEntry Global) (ws : List TrailEntry)
      (is : ws ≡ moved_all entries.items) where
    items_moved : (with_items entries ws).items ≡ moved_all entries.items
    items_moved =
        let long : length ws ≡ entries.len =
        ap length is ∙ (length-map entries.items (entry_moved to) ∙ sym entries.ok.0) in
        with_items_is entries ws long ∙ is

    pub turned_moved : reverse (with_items entries ws).items ≡ moved_all (reverse entries.items)
    turned_moved = ap reverse items_moved ∙ reverse_map entries.items

    pub store_moved : (vars : ℕ) (truths places : Vec ℕ Global) →
        IsTrailStore vars entries truths places →
        IsTrailStore vars (with_items entries ws) truths places
    store_moved vars truths places h = record {
      trail = trail_moved (trail_state vars entries) (trail_state vars (with_items entries ws)) refl
          turned_moved h.trail;
      within =
          subst (AreWithin vars) (sym items_moved)
          (All-map (λ (e : TrailEntry). IsWithin vars e.lit) (entry_moved to) entries.items
          h.within);
      room = h.room;
      wide = h.wide;
      many = h.many;
      told =
          subst (λ t. AreTold vars t truths.items) (sym turned_moved)
          (λ l within. h.told l within ∙ sym (truth_moved (reverse entries.items) l));
      placed =
          subst (λ t. ArePlacesOf vars t places.items) (sym turned_moved)
          (λ l within n at. h.placed l within n (sym (place_moved (reverse entries.items) l) ∙ at));
    }

  -- a clause of this reference is held at the new one, with its literals
  pub record IsKept (ks new : List Stored) (r : ClauseRef) : Type 0 where
    pub at : ClauseRef
    pub is : to r ≡ Some at
    pub held : is_held new at ≡ true
    pub lits : (stored_at new at).lits ≡ (stored_at ks r).lits

  -- each reason of the entries is
  abbrev pub AreKept : (ks new : List Stored) → List TrailEntry → Type 0
  AreKept ks new entries =
      All (λ e. (r : ClauseRef) → e.reason ≡ Some r → is_held ks r ≡ true → IsKept ks new r) entries

  module _ (ks new : List Stored) where
    reason_kept : (older : List TrailEntry) (l : Lit) (r : ClauseRef) (kept : IsKept ks new r) →
        IsReason older (stored_at ks r).lits l →
        IsReason (moved_all older) (stored_at new kept.at).lits l
    reason_kept older l r kept why = record {
      has = subst (λ c. Contains c l) (sym kept.lits) why.has;
      others = λ m has ne. false_moved older m ∙
          why.others m (subst (λ c. Contains c m) kept.lits has) ne;
    }

    leveled_moved : (level : ℕ) (entries : List TrailEntry) → AreKept ks new entries →
        AreLeveled ks level entries → AreLeveled new level (moved_all entries)
    leveled_moved level [] kept is = is
    leveled_moved level (e ∷ older) kept is =
        let P = λ (x : TrailEntry). (r : ClauseRef) → x.reason ≡ Some r → is_held ks r ≡ true →
        IsKept ks new r in (
          is.0,
          by_reason e.reason refl (All-head P e older kept) is.1
              (λ k below. leveled_moved k older (All-tail P e older kept) below),
        )
      where
        by_reason : (o : Option ClauseRef) → e.reason ≡ o →
            ((r : ClauseRef) → e.reason ≡ Some r → is_held ks r ≡ true → IsKept ks new r) →
            IsLeveledBy ks level e.lit older o (λ k. AreLeveled ks k older) →
            ((k : ℕ) → AreLeveled ks k older → AreLeveled new k (moved_all older)) →
            IsLeveledBy new level e.lit (moved_all older) (reason_moved to o)
            (λ k. AreLeveled new k (moved_all older))
        by_reason None is kept by go = (by.0, by.1, go by.0 by.2)
        by_reason (Some r) is kept by go =
            let k = kept r is by.0 in
            subst (λ o. IsLeveledBy new level e.lit (moved_all older) o
            (λ n. AreLeveled new n (moved_all older))) (sym k.is)
            (k.held, reason_kept older e.lit r k by.1, go level by.2)

    watched_moved : (entries : List TrailEntry) (lits : Clause) → IsWatched entries entries lits →
        IsWatched (moved_all entries) (moved_all entries) lits
    watched_moved entries lits w = record {
      some = w.some;
      alone = λ a is. true_moved entries a ∙ w.alone a is;
      guarded = λ v l o n lt at at_o is.
          let g = w.guarded v l o n lt at at_o (sym (true_moved entries (negation l)) ∙ is) in
          (g.0, true_moved entries o ∙ g.1, g.2);
    }

    -- what the watches know at level 0 once clauses are gone that are no reasons
    pub store_moved_on : (entries : List TrailEntry) → IsWatchStore ks entries 0 0 None →
        AreKept ks new entries →
        ((d : ClauseRef) → is_held new d ≡ true →
        (c : ClauseRef) × (is_held ks c ≡ true)
        × ((stored_at new d).lits ≡ (stored_at ks c).lits)) →
        IsWatchStore new (moved_all entries) 0 0 None
    store_moved_on entries h kept back = record {
      few = omega arith;
      leveled = leveled_moved 0 entries kept h.leveled;
      current = λ k d lt. absurd (omega arith);
      watched = λ d held ne.
          let from = back d held in
          subst (IsWatched (moved_all entries) (moved_all entries)) (sym from.2)
          (watched_moved entries (stored_at ks from.0).lits
          (h.watched from.0 from.1 (λ x. let clash : None ≡ Some from.0 = x in cc)));
      pending_is = tt;
    }

-- what is no reason is none of the entries' reasons
pub not_among : (entries : List TrailEntry) (refs : List ClauseRef) →
    All (IsNoReason entries) refs → (e : TrailEntry) (k : ℕ) → k < length entries →
    slice_index_or entries k e ≡ e → (r : ClauseRef) → e.reason ≡ Some r → is_in refs r ≡ false
not_among entries [] none e k lt at r is = refl
not_among entries (c ∷ refs) none e k lt at r is = elim (same_or_other c r) [
  | inl same ↦ absurd (All-head (IsNoReason entries) c refs none k e lt
      (subst (λ (x : TrailEntry). x.reason ≡ Some c) (sym at) (is ∙ ap Some (sym same.1))))
  | inr other ↦ rw other.0
      (not_among entries refs (All-tail (IsNoReason entries) c refs none) e k lt at r is)
]
