-- What is left once clauses are taken out of an arena, and what contracts see of it.
use Rattle.std.proofs.Common.{◌≡◌, ◌<◌, ◌^◌, ◌==◌, ℕ, ◌+◌, ◌*◌, Bool, IfSome, true, false, inl, inr, List, [], ◌∷◌, map, get_or, Option, None, Some, All, refl, sym, ap, ◌∙◌, subst}
use Rattle.std.specs.Prelude.{if◌then◌else◌, replicate}
use Rattle.std.proofs.lemmas.Bool.{both_ways}
use Rattle.std.proofs.lemmas.List.Elements.{All-head, All-tail}
use Rattle.sat_clause.specs.Learned.{IsSimple}
use Rattle.sat_arena.specs.declared.clause_ref.ClauseRef.{ClauseRef}
use Rattle.sat_arena.specs.declared.moves.Move.{Move}
use Rattle.sat_arena.specs.Compact.{Leads, moved_by, moves_from, moves_of, placed_from, unmarked, with_place}
use Rattle.sat_arena.specs.Store.{ArePlaced, Stored, is_held, ref, size_of, stored_at, with_mark}
use Rattle.sat_arena.proofs.CompactLemmas.{comes, leads, true_or_false, unmarked_marked, unmarked_other}
use Rattle.sat_arena.proofs.StoreLaws.{same_or_other}
use Rattle.sat_watch.specs.Chains.{AreChained, AreUnmarked, ChainsState, IsChained, is_in}
use Rattle.sat_watch.specs.Delete.{HasMoved, IsNoReason, OthersMove, OthersStay, entry_moved, deleted, moved_to, placed_anew, without}
use Rattle.sat_watch.specs.Relinking.{AreNear, AreRefsOf, AreUnlinked, marked, stored_without}
use Rattle.sat_watch.specs.Levels.{IsWatchStore}
use Rattle.sat_watch.specs.Trail.{TrailState}
use Rattle.sat_watch.specs.Watches.{IsWatches, attached, id_at, is_attached, lits_at, watch_state}
use Rattle.sat_watch.proofs.ReasonLemmas.{AreKept, IsKept, moved_all, not_among, store_moved_on, trail_moved}
use Rattle.sat_watch.proofs.StoredLemmas.{default_free}
use Rattle.sat_watch.proofs.RelinkLemmas.{marked_held}
use Rattle.sat_watch.proofs.WatchesLemmas.{attached_held, attached_id, attached_lits}

-- a mark changes nothing else
pub marked_lits : (on : Bool) (refs : List ClauseRef) (ks : List Stored) (c : ClauseRef) →
    (stored_at (marked on refs ks) c).lits ≡ (stored_at ks c).lits
marked_lits on refs [] c = refl
marked_lits on refs (k ∷ ks) c = elim (same_or_other k.place c) [
  | inl same ↦ rw same.0 refl
  | inr other ↦ rw other.0 (marked_lits on refs ks c)
]

marked_id : (on : Bool) (refs : List ClauseRef) (ks : List Stored) (c : ClauseRef) →
    (stored_at (marked on refs ks) c).id ≡ (stored_at ks c).id
marked_id on refs [] c = refl
marked_id on refs (k ∷ ks) c = elim (same_or_other k.place c) [
  | inl same ↦ rw same.0 refl
  | inr other ↦ rw other.0 (marked_id on refs ks c)
]

marked_placed : (on : Bool) (refs : List ClauseRef) (at : ℕ) (ks : List Stored) →
    ArePlaced at ks → ArePlaced at (marked on refs ks)
marked_placed on refs at [] placed = tt
marked_placed on refs at (k ∷ ks) placed =
    (placed.0, marked_placed on refs (at + size_of k) ks placed.1)

-- the marks of clauses that were not marked, taken away again
again : (b : Bool) (k : Stored) → k.mark ≡ false →
    with_mark (if b then false else (if b then true else k.mark)) k ≡ k
again true k out = λ x. with_mark (sym out x) k
again false k out = refl

pub unmarked_again : (refs : List ClauseRef) (ks : List Stored) → AreUnmarked ks →
    marked false refs (marked true refs ks) ≡ ks
unmarked_again refs [] un = refl
unmarked_again refs (k ∷ ks) un =
    λ x. again (is_in refs k.place) k un.0 x ∷ unmarked_again refs ks un.1 x

-- a clause that is not among them has no mark
pub stays_unmarked : (refs : List ClauseRef) (ks : List Stored) (c : ClauseRef) → AreUnmarked ks →
    is_in refs c ≡ false → (stored_at (marked true refs ks) c).mark ≡ false
stays_unmarked refs [] c un out = refl
stays_unmarked refs (k ∷ ks) c un out = elim (same_or_other k.place c) [
  | inl same ↦
      let here : is_in refs k.place ≡ false = ap (is_in refs) same.1 ∙ out in
      rw same.0 (ap (λ b. if b then true else k.mark) here ∙ un.0)
  | inr other ↦ rw other.0 (stays_unmarked refs ks c un.1 out)
]

-- and one without a mark is not among them
not_marked : (refs : List ClauseRef) (ks : List Stored) (c : ClauseRef) → is_held ks c ≡ true →
    (stored_at (marked true refs ks) c).mark ≡ false → is_in refs c ≡ false
not_marked refs [] c held out = cc
not_marked refs (k ∷ ks) c held out = elim (same_or_other k.place c) [
  | inl same ↦ ap (is_in refs) (sym same.1) ∙ by_test (is_in refs k.place) refl (rw same.0 at out)
  | inr other ↦ not_marked refs ks c (rw other.0 at held) (rw other.0 at out)
]
  where
    by_test : (b : Bool) → is_in refs k.place ≡ b →
        (if is_in refs k.place then true else k.mark) ≡ false → is_in refs k.place ≡ false
    by_test false e mark = e
    by_test true e mark =
        absurd (both_ways true (ap (λ b. if b then true else k.mark) (sym e) ∙ mark) refl)

-- what compaction leaves
left_placed : (at : ℕ) (us : List Stored) → ArePlaced at (placed_from at us)
left_placed at [] = tt
left_placed at (k ∷ us) = (refl, left_placed (at + size_of k) us)

left_unmarked : (at : ℕ) (us : List Stored) → AreUnmarked us → AreUnmarked (placed_from at us)
left_unmarked at [] un = tt
left_unmarked at (k ∷ us) un = (un.0, left_unmarked (at + size_of k) us un.1)

are_unmarked : (ks : List Stored) → AreUnmarked (unmarked ks)
are_unmarked [] = tt
are_unmarked (k ∷ ks) = elim (true_or_false k.mark) [
  | inl m ↦ subst AreUnmarked (sym (unmarked_marked k ks m)) (are_unmarked ks)
  | inr m ↦ subst AreUnmarked (sym (unmarked_other k ks m)) (m, are_unmarked ks)
]

refs_after : (at : ℕ) (us : List Stored) → AreRefsOf (placed_from at us) (moves_from at us)
refs_after at [] = refl
refs_after at (k ∷ us) = ap (λ l. ref at ∷ l) (refs_after (at + size_of k) us)

module _ (n : ℕ) (ks : List Stored) (heads : List (Option ClauseRef)) (h : IsChained n ks heads)
    (refs : List ClauseRef) where
  placed_marked : ArePlaced 0 (marked true refs ks)
  placed_marked = marked_placed true refs 0 ks h.placed

  -- a clause that is left was one before
  pub record Was (d : ClauseRef) : Type 0 where
    pub from : ClauseRef
    pub held : is_held ks from ≡ true
    pub out : is_in refs from ≡ false
    pub lits : (stored_at (stored_without refs ks) d).lits ≡ (stored_at ks from).lits
    pub id : (stored_at (stored_without refs ks) d).id ≡ (stored_at ks from).id

  pub was : (d : ClauseRef) → is_held (stored_without refs ks) d ≡ true → Was d
  was d held =
      let came = comes (marked true refs ks) d placed_marked held in
      let led = leads (marked true refs ks) came.from placed_marked came.held came.stays in
      let same : led.to ≡ d = (let e : Some led.to ≡ Some d = sym led.pair ∙ came.pair in cc) in
      let held : is_held ks came.from ≡ true =
      sym (marked_held true refs ks came.from) ∙ came.held in
      record {
        from = came.from;
        held = held;
        out = not_marked refs ks came.from held came.stays;
        id =
            ap (λ r. (stored_at (stored_without refs ks) r).id) (sym same) ∙
            (ap (λ (k : Stored). k.id) led.same ∙ marked_id true refs ks came.from);
        lits =
            ap (λ r. (stored_at (stored_without refs ks) r).lits) (sym same) ∙
            (ap (λ (k : Stored). k.lits) led.same ∙ marked_lits true refs ks came.from);
      }

  pub unlinked_without : (fronts : List (Option ClauseRef)) → fronts ≡ replicate (n * 2 + 1) None →
      AreUnlinked n (stored_without refs ks) fronts
  unlinked_without fronts empty = record {
    few = h.few;
    empty = empty;
    placed = left_placed 0 (unmarked (marked true refs ks));
    unmarked =
        left_unmarked 0 (unmarked (marked true refs ks)) (are_unmarked (marked true refs ks));
    simple = λ d held. let from = was d held in
        subst (IsSimple n) (sym from.lits) (h.simple from.from from.held);
  }

  pub refs_without : AreRefsOf (stored_without refs ks) (moves_of (marked true refs ks))
  refs_without = refs_after 0 (unmarked (marked true refs ks))

-- what contracts see of the clauses that are left
attached_placed : (at : ℕ) (us : List Stored) →
    map attached (placed_from at us) ≡ placed_anew at (map attached us)
attached_placed at [] = refl
attached_placed at (k ∷ us) =
    ap (λ l. attached (with_place (ref at) k) ∷ l) (attached_placed (at + size_of k) us)

attached_unmarked : (refs : List ClauseRef) (ks : List Stored) → AreUnmarked ks →
    map attached (unmarked (marked true refs ks)) ≡ without refs (map attached ks)
attached_unmarked refs [] un = refl
attached_unmarked refs (k ∷ ks) un =
    by_test (is_in refs k.place) refl (attached_unmarked refs ks un.1)
  where
    by_test : (b : Bool) → is_in refs k.place ≡ b →
        map attached (unmarked (marked true refs ks)) ≡ without refs (map attached ks) →
        map attached (unmarked (marked true refs (k ∷ ks))) ≡ without refs (map attached (k ∷ ks))
    by_test true e rest = rw e rest
    by_test false e rest = rw (e, un.0) (ap (λ l. attached k ∷ l) rest)

pub attached_without : (refs : List ClauseRef) (ks : List Stored) → AreUnmarked ks →
    map attached (stored_without refs ks) ≡ placed_anew 0 (without refs (map attached ks))
attached_without refs ks un =
    attached_placed 0 (unmarked (marked true refs ks)) ∙
    ap (placed_anew 0) (attached_unmarked refs ks un)

moved_is : (at : ℕ) (us : List Stored) (c : ClauseRef) →
    moved_by (moves_from at us) c ≡ moved_to at (map attached us) c
moved_is at [] c = refl
moved_is at (k ∷ us) c = elim (same_or_other k.place c) [
  | inl same ↦ rw same.0 refl
  | inr other ↦ rw other.0 (moved_is (at + size_of k) us c)
]

pub moved_without : (refs : List ClauseRef) (ks : List Stored) (c : ClauseRef) → AreUnmarked ks →
    moved_by (moves_of (marked true refs ks)) c ≡ moved_to 0 (without refs (map attached ks)) c
moved_without refs ks c un =
    moved_is 0 (unmarked (marked true refs ks)) c ∙
    ap (λ l. moved_to 0 l c) (attached_unmarked refs ks un)

-- the clauses and the trail once clauses were taken out, which are no reasons
module _ (n : ℕ) (ks : List Stored) (heads : List (Option ClauseRef)) (h : IsChained n ks heads)
    (refs : List ClauseRef) (new : List Stored)
    (left : map attached new ≡ map attached (stored_without refs ks)) where
  now_held : (d : ClauseRef) → is_held new d ≡ is_held (stored_without refs ks) d
  now_held d =
      sym (attached_held new d) ∙ (ap (λ l. is_attached l d) left ∙
      attached_held (stored_without refs ks) d)

  now_lits : (d : ClauseRef) → (stored_at new d).lits ≡ (stored_at (stored_without refs ks) d).lits
  now_lits d =
      sym (attached_lits new d) ∙ (ap (λ l. lits_at l d) left ∙
      attached_lits (stored_without refs ks) d)

  now_id : (d : ClauseRef) → (stored_at new d).id ≡ (stored_at (stored_without refs ks) d).id
  now_id d =
      sym (attached_id new d) ∙ (ap (λ l. id_at l d) left ∙
      attached_id (stored_without refs ks) d)

  pub comes_from : (d : ClauseRef) → is_held new d ≡ true →
      (c : ClauseRef) × (is_held ks c ≡ true) × ((stored_at new d).lits ≡ (stored_at ks c).lits)
  comes_from d held =
      let w = was n ks heads h refs d (sym (now_held d) ∙ held) in
      (w.from, w.held, now_lits d ∙ w.lits)

  pub others_stay : OthersStay refs (map attached ks) (map attached new)
  others_stay d is =
      let w = was n ks heads h refs d (sym (now_held d) ∙ (sym (attached_held new d) ∙ is)) in
      record {
        from = w.from;
        attached = attached_held ks w.from ∙ w.held;
        out = w.out;
        lits = attached_lits new d ∙ (now_lits d ∙ (w.lits ∙ sym (attached_lits ks w.from)));
        id = attached_id new d ∙ (now_id d ∙ (w.id ∙ sym (attached_id ks w.from)));
      }

  module _ (c : ClauseRef) (held : is_held ks c ≡ true) (out : is_in refs c ≡ false) where
    led : Leads (marked true refs ks) c
    led =
        leads (marked true refs ks) c (placed_marked n ks heads h refs)
        (marked_held true refs ks c ∙ held) (stays_unmarked refs ks c h.unmarked out)

    pub is_kept : (to : ClauseRef → Option ClauseRef) →
        to c ≡ moved_by (moves_of (marked true refs ks)) c → IsKept to ks new c
    is_kept to same = record {
      at = led.to;
      is = same ∙ led.pair;
      held = now_held led.to ∙ led.held;
      lits =
          now_lits led.to ∙ (ap (λ (k : Stored). k.lits) led.same ∙ marked_lits true refs ks c);
    }

    pub has_moved : HasMoved refs (map attached ks) (map attached new) c
    has_moved = record {
      to = led.to;
      moved = sym (moved_without refs ks c h.unmarked) ∙ led.pair;
      attached = attached_held new led.to ∙ (now_held led.to ∙ led.held);
      lits =
          attached_lits new led.to ∙ (now_lits led.to ∙
          (ap (λ (k : Stored). k.lits) led.same ∙
          (marked_lits true refs ks c ∙ sym (attached_lits ks c))));
      id =
          attached_id new led.to ∙ (now_id led.to ∙
          (ap (λ (k : Stored). k.id) led.same ∙
          (marked_id true refs ks c ∙ sym (attached_id ks c))));
    }

  pub others_move : OthersMove refs (map attached ks) (map attached new)
  others_move c is out = has_moved c (sym (attached_held ks c) ∙ is) out

module _ (c c' : ChainsState) (t t' : TrailState) (refs : List ClauseRef)
    (to : ClauseRef → Option ClauseRef)
    (same : (r : ClauseRef) → to r ≡ moved_by (moves_of (marked true refs c.clauses)) r)
    (chained : AreChained c) (vars : c'.vars ≡ c.vars)
    (left : map attached c'.clauses ≡ map attached (stored_without refs c.clauses))
    (entries : t'.entries ≡ moved_all to t.entries) where
  -- what the watches know then
  pub watches_deleted : IsWatches c t 0 0 None → AreChained c' → t'.vars ≡ t.vars →
      All (IsNoReason t.entries) refs → IsWatches c' t' 0 0 None
  watches_deleted h chained' trail_vars none = record {
    whole = record {
      vars = trail_vars ∙ (h.whole.vars ∙ sym vars);
      chained = chained';
      trail = trail_moved to t t' trail_vars entries h.whole.trail;
    };
    store =
        subst (λ es. IsWatchStore c'.clauses es 0 0 None) (sym entries)
        (store_moved_on to c.clauses c'.clauses t.entries h.store kept
        (comes_from c.vars c.clauses c.heads chained refs c'.clauses left));
  }
    where
      kept : AreKept to c.clauses c'.clauses t.entries
      kept k d lt r is held =
          let e = get_or t.entries k d in
          is_kept c.vars c.clauses c.heads chained refs c'.clauses left r held
          (not_among t.entries refs none e k lt (default_free t.entries k e d lt) r is) to (same r)

  -- and what contracts see
  pub state_deleted : (q level : ℕ) (pending : Option ClauseRef) →
      watch_state c' t' q level pending ≡ deleted refs (watch_state c t q level pending)
  state_deleted q level pending = λ x. record {
    vars = vars x;
    clauses = clauses x;
    trail = trail x;
    queued = q;
    level = level;
    pending = pending;
  }
    where
      clauses : map attached c'.clauses ≡ placed_anew 0 (without refs (map attached c.clauses))
      clauses = left ∙ attached_without refs c.clauses chained.unmarked

      trail : t'.entries
          ≡ map (entry_moved (moved_to 0 (without refs (map attached c.clauses)))) t.entries
      trail =
          entries ∙
          (λ x. map
          (entry_moved (λ r. (same r ∙ moved_without refs c.clauses r chained.unmarked) x))
          t.entries)

-- where clauses are moved near, each of them is
pub near_moved : (ms : List Move) (c : ClauseRef) → AreNear ms →
    IfSome (moved_by ms c) (λ d. d.word < 2 ^ 63)
near_moved [] c all = tt
near_moved (m ∷ ms) c all =
    by (m.before.word == c.word)
    (near_moved ms c (All-tail (λ (x : Move). x.after.word < 2 ^ 63) m ms all))
  where
    by : (b : Bool) → IfSome (moved_by ms c) (λ d. d.word < 2 ^ 63) →
        IfSome (if b then Some m.after else moved_by ms c) (λ d. d.word < 2 ^ 63)
    by true rest = All-head (λ (x : Move). x.after.word < 2 ^ 63) m ms all
    by false rest = rest
