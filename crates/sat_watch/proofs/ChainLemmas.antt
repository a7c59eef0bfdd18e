-- The chains stay whole where a watch moves.
use Rattle.std.proofs.Common.{◌≡◌, ◌≢◌, ℕ, zero, suc, ◌+◌, ◌*◌, ◌<◌, ◌≤◌, pos, true, false, ◌⊎◌, inl, inr, List, [], ◌∷◌, ◌++◌, length, set, replicate, get_or, Option, None, Some, refl, sym, ap, ◌∙◌, subst, arith, length-set}
use Rattle.std.proofs.lemmas.List.{length-replicate, get_or-set_same, get_or-set_other}
use Rattle.std.specs.List.{swap}
use Rattle.sat_clause.specs.declared.literal.Lit.{Lit}
use Rattle.sat_clause.specs.Learned.{IsSimple}
use Rattle.sat_clause.specs.Literal.{IsWithin, is_among, lit}
use Rattle.sat_arena.specs.declared.clause_ref.ClauseRef.{ClauseRef}
use Rattle.sat_arena.specs.Store.{ArePlaced, Stored, changed, is_held, link_of, stored_at, with_link, with_swap}
use Rattle.sat_watch.specs.declared.place.Place.{Place}
use Rattle.sat_watch.specs.Chains.{holders, AreUnmarked, ChainsState, AreOnce, HasCursor, HasHead, IsPath, is_in, HasChain, IsChained, IsCursor, IsPlaceOf, IsRewatched, MayBePlaceOf, clause_of, head_in, head_of, lit_at, next_in, next_on, unlinked, unlinked_heads, with_watch}
use Rattle.sat_arena.proofs.StoreLaws.{same_or_other}
use Rattle.sat_watch.proofs.PathLemmas.{at_first, last_in_all, once_before, PutsFirst, TakesOut, head_behind, put_first, same_chain, take_out, whole_chain}
use Rattle.sat_arena.proofs.StoreLaws.{changed_other, changed_same, held_changed}
use Rattle.sat_watch.proofs.StoredLemmas.{counted_changed, link_id, link_lits, link_mark, link_place, placed_changed, unmarked_changed, ids_changed, length_changed, next_is_held}
use Rattle.sat_watch.proofs.WatchLemmas.{among_swap, length_swap, Moves, link_other, link_own, lit_tells, moves, simple_swap, goes_on}
use Rattle.sat_watch.proofs.TableLemmas.{place_within, places_apart}
use Rattle.sat_watch.proofs.TrailLemmas.{never}
use Rattle.sat_watch.specs.TrailStore.{place_of}

pub head_set_same : (n : ℕ) (heads : List (Option ClauseRef)) (l : Lit) (o : Option ClauseRef) →
    length heads ≡ n * 2 + 1 → IsWithin n l →
    head_in n (set heads (place_of n l) o) l ≡ o
head_set_same n heads l o many within =
    let at = place_within n l within in get_or-set_same heads (place_of n l) o None (omega arith)

pub head_set_other : (n : ℕ) (heads : List (Option ClauseRef)) (l m : Lit) (o : Option ClauseRef) →
    IsWithin n l → IsWithin n m → l ≢ m →
    head_in n (set heads (place_of n m) o) l ≡ head_in n heads l
head_set_other n heads l m o wl wm ne =
    get_or-set_other heads (place_of n m) (place_of n l) o None (places_apart n l m wl wm ne)

-- what the code does is to move the watch
pub rewatched_is : (ks : List Stored) (before : Option Place) (at : Place) (i : ℕ)
    (after head : Option ClauseRef) →
    is_held ks at.clause ≡ true →
    ((p : Place) → before ≡ Some p → (is_held ks p.clause ≡ true) × (p.clause ≢ at.clause)) →
    IsRewatched ks (changed (with_link at.which head) at.clause
    (changed (with_swap at.which i) at.clause (unlinked before after ks))) before at i after head
rewatched_is ks before at i after head held placed = of_before before placed where
  twice : (l : List Stored) → is_held l at.clause ≡ true →
      stored_at (changed (with_link at.which head) at.clause
      (changed (with_swap at.which i) at.clause l)) at.clause ≡ with_watch at.which i head
      (stored_at l at.clause)
  twice l h =
      changed_same (with_link at.which head) at.clause (changed (with_swap at.which i) at.clause l)
      (link_place at.which head)
      (held_changed (with_swap at.which i) at.clause at.clause l (λ k. refl) ∙ h)
      ∙ ap (with_link at.which head) (changed_same (with_swap at.which i) at.clause l (λ k. refl) h)

  twice_other : (l : List Stored) (d : ClauseRef) → d ≢ at.clause →
      stored_at (changed (with_link at.which head) at.clause
      (changed (with_swap at.which i) at.clause l)) d ≡ stored_at l d
  twice_other l d ne =
      changed_other (with_link at.which head) at.clause d
      (changed (with_swap at.which i) at.clause l) (link_place at.which head) ne
      ∙ changed_other (with_swap at.which i) at.clause d l (λ k. refl) ne

  twice_held : (l : List Stored) (d : ClauseRef) →
      is_held (changed (with_link at.which head) at.clause
      (changed (with_swap at.which i) at.clause l)) d ≡ is_held l d
  twice_held l d =
      held_changed (with_link at.which head) at.clause d
      (changed (with_swap at.which i) at.clause l) (link_place at.which head)
      ∙ held_changed (with_swap at.which i) at.clause d l (λ k. refl)

  twice_ids : (l : List Stored) (d : ClauseRef) →
      (stored_at (changed (with_link at.which head) at.clause
      (changed (with_swap at.which i) at.clause l)) d).id ≡ (stored_at l d).id
  twice_ids l d =
      ids_changed (with_link at.which head) at.clause d (changed (with_swap at.which i) at.clause l)
      (link_place at.which head) (link_id at.which head)
      ∙ ids_changed (with_swap at.which i) at.clause d l (λ k. refl) (λ k. refl)

  twice_count : (l : List Stored) →
      length (changed (with_link at.which head) at.clause
      (changed (with_swap at.which i) at.clause l)) ≡ length l
  twice_count l =
      length_changed (with_link at.which head) at.clause
      (changed (with_swap at.which i) at.clause l) ∙ length_changed (with_swap at.which i) at.clause
      l

  of_before : (b : Option Place) →
      ((p : Place) → b ≡ Some p → (is_held ks p.clause ≡ true) × (p.clause ≢ at.clause)) →
      IsRewatched ks (changed (with_link at.which head) at.clause
      (changed (with_swap at.which i) at.clause (unlinked b after ks))) b at i after head
  of_before None placed = record {
    moved = twice ks held;
    relinked = λ p e. let clash : None ≡ Some p = e in cc;
    others = λ d ne nb. twice_other ks d ne;
    held = twice_held ks;
    ids = twice_ids ks;
    count = twice_count ks;
  }
  of_before (Some p) placed =
      let this = placed p refl in
      let l = changed (with_link p.which after) p.clause ks in
      record {
        moved =
            twice l (held_changed (with_link p.which after) p.clause at.clause ks
            (link_place p.which after) ∙ held)
            ∙ ap (with_watch at.which i head)
            (changed_other (with_link p.which after) p.clause at.clause ks
            (link_place p.which after) (λ e. this.1 (sym e)));
        relinked = λ q e. let same : p ≡ q = cc in
            subst (λ r. stored_at
            (changed (with_link at.which head) at.clause
            (changed (with_swap at.which i) at.clause l)) r.clause ≡ with_link r.which after
            (stored_at ks r.clause)) same
            (twice_other l p.clause this.1 ∙ changed_same (with_link p.which after) p.clause ks
            (link_place p.which after) this.0);
        others =
            λ d ne nb. twice_other l d ne ∙ changed_other (with_link p.which after) p.clause d ks
            (link_place p.which after) (λ e. nb (ap Some (sym e)));
        held =
            λ d. twice_held l d ∙ held_changed (with_link p.which after) p.clause d ks
            (link_place p.which after);
        ids =
            λ d. twice_ids l d ∙ ids_changed (with_link p.which after) p.clause d ks
            (link_place p.which after) (link_id p.which after);
        count = twice_count l ∙ length_changed (with_link p.which after) p.clause ks;
      }

module _ (n : ℕ) (ks new : List Stored) (f : Lit) (before : Option Place) (at : Place) (i : ℕ)
    (after head : Option ClauseRef)
    (simple : (c : ClauseRef) → is_held ks c ≡ true → IsSimple n (stored_at ks c).lits)
    (place : IsPlaceOf ks f at) (places : MayBePlaceOf ks f before) (low : 2 ≤ i)
    (high : i < length (stored_at ks at.clause).lits)
    (is : IsRewatched ks new before at i after head) where
  abbrev m : Lit
  m = lit_at (stored_at ks at.clause).lits i

  moved_by : Moves (stored_at ks at.clause) (with_watch at.which i head (stored_at ks at.clause)) f
      m head
  moved_by =
      moves n (stored_at ks at.clause) at.which i head f (simple at.clause place.held) place.which
      low high place.watch

  -- the clause before is one whose link in f's chain is set
  before_is : (o : Option Place) → before ≡ o → MayBePlaceOf ks f o → (d : ClauseRef) →
      clause_of o ≡ Some d →
      (next_on new f d ≡ Some after) × ((l : Lit) → l ≢ f → next_on new l d ≡ next_on ks l d)
  before_is None e ok d same = let clash : None ≡ Some d = same in cc
  before_is (Some p) e ok d same =
      let here : p.clause ≡ d = cc in
      let fits = simple p.clause ok.held in
      let now = is.relinked p e in
      subst (λ r. (next_on new f r ≡ Some after)
      × ((l : Lit) → l ≢ f → next_on new l r ≡ next_on ks l r)) here (
        ap (λ k. next_in k f) now ∙ link_own n after (stored_at ks p.clause) f fits p.which ok.which
            ok.watch,
        λ l ne. ap (λ k. next_in k l) now ∙ link_other n after (stored_at ks p.clause) f fits
            p.which l ok.which ok.watch ne,
      )

  before_tells : (d : ClauseRef) → (clause_of before ≡ Some d) ⊎ (clause_of before ≢ Some d)
  before_tells d = of_option (clause_of before) refl where
    of_option : (o : Option ClauseRef) → clause_of before ≡ o →
        (clause_of before ≡ Some d) ⊎ (clause_of before ≢ Some d)
    of_option None e = inr (λ s. let clash : None ≡ Some d = sym e ∙ s in cc)
    of_option (Some q) e = elim (same_or_other q d) [
      | inl same ↦ inl (e ∙ ap Some same.1)
      | inr other ↦ inr (λ s. other.1 (let qd : Some q ≡ Some d = sym e ∙ s in cc))
    ]

  pub takes_out : TakesOut (next_on ks f) (next_on new f) at.clause (clause_of before) after
  takes_out = record {
    gone = ap (λ k. next_in k f) is.moved ∙ moved_by.gone;
    relinked = λ p e. (before_is before refl places p e).0;
    same = λ d ne nb. ap (λ k. next_in k f) (is.others d ne nb);
  }

  pub puts_first : PutsFirst (next_on ks m) (next_on new m) at.clause head
  puts_first = record {
    fresh = moved_by.fresh;
    first = ap (λ k. next_in k m) is.moved ∙ moved_by.first;
    same = λ d ne. elim (before_tells d) [
      | inl b ↦ (before_is before refl places d b).1 m (λ e. moved_by.other (sym e))
      | inr nb ↦ ap (λ k. next_in k m) (is.others d ne nb)
    ];
  }

  pub stays_same : (l : Lit) → l ≢ f → l ≢ m → (d : ClauseRef) → next_on new l d ≡ next_on ks l d
  stays_same l lf lm d = elim (same_or_other d at.clause) [
    | inl same ↦ subst (λ r. next_on new l r ≡ next_on ks l r) (sym same.1)
        (ap (λ k. next_in k l) is.moved ∙ moved_by.same l lf lm)
    | inr other ↦ elim (before_tells d) [
      | inl b ↦ (before_is before refl places d b).1 l lf
      | inr nb ↦ ap (λ k. next_in k l) (is.others d other.1 nb)
    ]
  ]

  pub other_literal : f ≢ m
  other_literal = moved_by.other

  pub goes_after : next_on ks f at.clause ≡ Some (link_of (stored_at ks at.clause) at.which)
  goes_after =
      goes_on n after (stored_at ks at.clause) f (simple at.clause place.held) at.which place.which
      place.watch

  pub lits_moved : (stored_at new at.clause).lits ≡ swap (stored_at ks at.clause).lits at.which i
  lits_moved =
      ap (λ (k : Stored). k.lits) is.moved ∙ link_lits at.which head
      (with_swap at.which i (stored_at ks at.clause))

  pub lits_stay : (d : ClauseRef) → d ≢ at.clause → (stored_at new d).lits ≡ (stored_at ks d).lits
  lits_stay d ne = elim (before_tells d) [
    | inl b ↦ of_before before refl b
    | inr nb ↦ ap (λ (k : Stored). k.lits) (is.others d ne nb)
  ]
    where
      of_before : (o : Option Place) → before ≡ o → clause_of o ≡ Some d →
          (stored_at new d).lits ≡ (stored_at ks d).lits
      of_before None e same = let clash : None ≡ Some d = same in cc
      of_before (Some p) e same =
          let here : p.clause ≡ d = cc in
          subst (λ r. (stored_at new r).lits ≡ (stored_at ks r).lits) here
          (ap (λ (k : Stored). k.lits) (is.relinked p e) ∙ link_lits p.which after
          (stored_at ks p.clause))

  pub still_simple : (c : ClauseRef) → is_held new c ≡ true → IsSimple n (stored_at new c).lits
  still_simple c held = elim (same_or_other c at.clause) [
    | inl same ↦ subst (λ r. IsSimple n (stored_at new r).lits) (sym same.1)
        (let which = place.which in
        rw lits_moved (simple_swap n (stored_at ks at.clause).lits at.which i (omega arith) high
        (simple at.clause place.held)))
    | inr other ↦ rw (lits_stay c other.1) (simple c (sym (is.held c) ∙ held))
  ]

  module _ (heads : List (Option ClauseRef)) (many : length heads ≡ n * 2 + 1) (wf : IsWithin n f)
      (head_is : head ≡ head_in n heads m) where
    abbrev pub heads_now : List (Option ClauseRef)
    heads_now = set (unlinked_heads n f before after heads) (place_of n m) (Some at.clause)

    wm : IsWithin n m
    wm = (simple at.clause place.held).within i (lit (pos 0)) high

    pub many_unlinked : length (unlinked_heads n f before after heads) ≡ n * 2 + 1
    many_unlinked = of_option before where
      of_option : (o : Option Place) → length (unlinked_heads n f o after heads) ≡ n * 2 + 1
      of_option None = length-set heads (place_of n f) after ∙ many
      of_option (Some p) = many

    pub head_of_f : head_in n heads_now f ≡ head_behind (clause_of before) (head_in n heads f) after
    head_of_f =
        head_set_other n (unlinked_heads n f before after heads) f m (Some at.clause) wf wm
        other_literal ∙ of_option before where
          of_option : (o : Option Place) →
              head_in n (unlinked_heads n f o after heads) f
              ≡ head_behind (clause_of o) (head_in n heads f) after
          of_option None = head_set_same n heads f after many wf
          of_option (Some p) = refl

    pub head_of_other : (l : Lit) → IsWithin n l → l ≢ f →
        head_in n (unlinked_heads n f before after heads) l ≡ head_in n heads l
    head_of_other l wl lf = of_option before where
      of_option : (o : Option Place) →
          head_in n (unlinked_heads n f o after heads) l ≡ head_in n heads l
      of_option None = head_set_other n heads l f after wl wf lf
      of_option (Some p) = refl

    pub chained_again : (kept rest : List ClauseRef) → ArePlaced 0 new → AreUnmarked new →
        IsChained n ks heads →
        IsCursor (next_on ks f) (head_in n heads f) kept (at.clause ∷ rest) (clause_of before)
        (Some at.clause) →
        link_of (stored_at ks at.clause) at.which ≡ after → IsChained n new heads_now
    chained_again kept rest placed unmarked h cursor goes = record {
      few = h.few;
      placed = placed;
      unmarked = unmarked;
      many =
          length-set (unlinked_heads n f before after heads) (place_of n m)
          (Some at.clause) ∙ many_unlinked;
      simple = still_simple;
      chains = λ l wl. elim (lit_tells l f) [
        | inl same ↦ subst (λ x. HasChain (next_on new x) (head_in n heads_now x)) (sym same.1)
            (rw head_of_f (whole_chain (next_on new f)
            (head_behind (clause_of before) (head_in n heads f) after) kept rest (clause_of before)
            after
            (take_out (next_on ks f) (next_on new f) (head_in n heads f) kept rest at.clause
            (clause_of before) after cursor (goes_after ∙ ap Some goes) takes_out)))
        | inr lf ↦ elim (lit_tells l m) [
          | inl same ↦ subst (λ x. HasChain (next_on new x) (head_in n heads_now x)) (sym same.1)
              (rw (head_set_same n (unlinked_heads n f before after heads) m (Some at.clause)
              many_unlinked wm)
              (put_first (next_on ks m) (next_on new m) head at.clause
              (subst (HasChain (next_on ks m)) (sym head_is) (h.chains m wm)) puts_first))
          | inr lm ↦ rw (head_set_other n (unlinked_heads n f before after heads) l m
              (Some at.clause) wl wm lm.1 ∙ head_of_other l wl lf.1)
              (same_chain (next_on ks l) (next_on new l) (head_in n heads l) (stays_same l lf.1
              lm.1)
              (h.chains l wl))
        ]
      ];
    }

    -- the place in the chain stays where it is, with the clause behind it gone
    pub cursor_again : (kept rest : List ClauseRef) →
        IsCursor (next_on ks f) (head_in n heads f) kept (at.clause ∷ rest) (clause_of before)
        (Some at.clause) →
        link_of (stored_at ks at.clause) at.which ≡ after →
        IsCursor (next_on new f) (head_in n heads_now f) kept rest (clause_of before) after
    cursor_again kept rest cursor goes =
        rw head_of_f (take_out (next_on ks f) (next_on new f) (head_in n heads f) kept rest
        at.clause
        (clause_of before) after cursor (goes_after ∙ ap Some goes) takes_out)

-- the clause at a place that is not the end is held, and so is the head of a chain
path_held : (ks : List Stored) (l : Lit) (from : Option ClauseRef) (cs : List ClauseRef)
    (d : ClauseRef) → IsPath (next_on ks l) from cs None → from ≡ Some d → is_held ks d ≡ true
path_held ks l from [] d path e = let clash : None ≡ Some d = sym path ∙ e in cc
path_held ks l from (c ∷ cs) d path e =
    let same : c ≡ d = cc in next_is_held ks l d path.1.0 (ap (next_on ks l) (sym same) ∙ path.1.1)

pub head_held : (n : ℕ) (ks : List Stored) (heads : List (Option ClauseRef)) (l : Lit)
    (d : ClauseRef) → IsChained n ks heads → IsWithin n l →
    head_in n heads l ≡ Some d → is_held ks d ≡ true
head_held n ks heads l d h within e =
    let chain = h.chains l within in path_held ks l (head_in n heads l) chain.refs d chain.is.back e

pub after_held : (n : ℕ) (ks : List Stored) (f : Lit) (head before after : Option ClauseRef)
    (at : Place) →
    ((c : ClauseRef) → is_held ks c ≡ true → IsSimple n (stored_at ks c).lits) → IsPlaceOf ks f at →
    HasCursor (next_on ks f) head before (Some at.clause) →
    link_of (stored_at ks at.clause) at.which ≡ after →
    (d : ClauseRef) → after ≡ Some d → is_held ks d ≡ true
after_held n ks f head before after at simple place cursor goes d e =
    let first = at_first (next_on ks f) head cursor.kept cursor.rest before at.clause cursor.is in
    let back : IsPath (next_on ks f) (Some at.clause) (at.clause ∷ first.0) None =
    subst (λ l. IsPath (next_on ks f) (Some at.clause) l None) first.1 cursor.is.back in
    let own = goes_on n after (stored_at ks at.clause) f (simple at.clause place.held) at.which
    place.which place.watch in
    let same : back.1.0 ≡ after =
    (let x : Some back.1.0 ≡ Some (link_of (stored_at ks at.clause) at.which) =
    sym back.1.1 ∙ own in let y : back.1.0 ≡ link_of (stored_at ks at.clause) at.which = cc in
    y ∙ goes) in
    path_held ks f back.1.0 first.0 d back.1.2 (same ∙ e)

-- the clause before a place is another one
pub before_apart : (ks : List Stored) (f : Lit) (head : Option ClauseRef) (before : Option Place)
    (at : ClauseRef) →
    HasCursor (next_on ks f) head (clause_of before) (Some at) → (p : Place) → before ≡ Some p →
    p.clause ≢ at
before_apart ks f head before at cursor p e same =
    let first = at_first (next_on ks f) head cursor.kept cursor.rest (clause_of before) at
    cursor.is in
    let once : AreOnce (cursor.kept ++ at ∷ first.0) =
    subst (λ l. AreOnce (cursor.kept ++ l)) first.1 cursor.is.once in
    let there : is_in cursor.kept p.clause ≡ true =
    last_in_all cursor.kept p.clause (cursor.is.last ∙ ap clause_of e) in
    never (is_in cursor.kept at) (subst (λ r. is_in cursor.kept r ≡ true) same there)
    (once_before cursor.kept at first.0 once)

-- what is linked anew before a place leaves the clause at the place
pub unlinked_at : (ks : List Stored) (before : Option Place) (after : Option ClauseRef)
    (at : ClauseRef) → ((p : Place) → before ≡ Some p → p.clause ≢ at) →
    stored_at (unlinked before after ks) at ≡ stored_at ks at
unlinked_at ks None after at apart = refl
unlinked_at ks (Some p) after at apart =
    changed_other (with_link p.which after) p.clause at ks (link_place p.which after)
    (λ e. apart p refl (sym e))

pub unlinked_held : (ks : List Stored) (before : Option Place) (after : Option ClauseRef)
    (d : ClauseRef) → is_held (unlinked before after ks) d ≡ is_held ks d
unlinked_held ks None after d = refl
unlinked_held ks (Some p) after d =
    held_changed (with_link p.which after) p.clause d ks (link_place p.which after)

-- what moving a watch asks for
pub record CanRewatch (n : ℕ) (ks : List Stored) (heads : List (Option ClauseRef)) (f : Lit)
    (before : Option Place) (at : Place) (i : ℕ) (after : Option ClauseRef) : Type 0 where
  pub chained : IsChained n ks heads
  pub within : IsWithin n f
  pub place : IsPlaceOf ks f at
  pub places : MayBePlaceOf ks f before
  pub low : 2 ≤ i
  pub high : i < length (stored_at ks at.clause).lits
  pub cursor : HasCursor (next_on ks f) (head_in n heads f) (clause_of before) (Some at.clause)
  pub goes : link_of (stored_at ks at.clause) at.which ≡ after

module _ {n : ℕ} {ks : List Stored} {heads : List (Option ClauseRef)} {f : Lit}
    {before : Option Place} {at : Place} {i : ℕ} {after : Option ClauseRef}
    (can : CanRewatch n ks heads f before at i after) where
  abbrev pub target : Lit
  target = lit_at (stored_at ks at.clause).lits i

  apart : (p : Place) → before ≡ Some p → p.clause ≢ at.clause
  apart = before_apart ks f (head_in n heads f) before at.clause can.cursor

  pub target_within : IsWithin n target
  target_within = (can.chained.simple at.clause can.place.held).within i (lit (pos 0)) can.high

  pub same_clause : stored_at (unlinked before after ks) at.clause ≡ stored_at ks at.clause
  same_clause = unlinked_at ks before after at.clause apart

  places_held : (o : Option Place) → MayBePlaceOf ks f o → (p : Place) → o ≡ Some p →
      is_held ks p.clause ≡ true
  places_held None ok p e = let clash : None ≡ Some p = e in cc
  places_held (Some q) ok p e =
      let same : q ≡ p = cc in subst (λ (r : Place). is_held ks r.clause ≡ true) same ok.held

  -- the clauses and heads that the code makes
  abbrev pub clauses_after : List Stored
  clauses_after =
      changed (with_link at.which (head_in n heads target)) at.clause
      (changed (with_swap at.which i) at.clause (unlinked before after ks))

  abbrev pub heads_after : List (Option ClauseRef)
  heads_after = set (unlinked_heads n f before after heads) (place_of n target) (Some at.clause)

  pub rewatched : IsRewatched ks clauses_after before at i after (head_in n heads target)
  rewatched =
      rewatched_is ks before at i after (head_in n heads target) can.place.held
      (λ p e. (places_held before can.places p e, apart p e))

  moved : Moves (stored_at ks at.clause)
      (with_watch at.which i (head_in n heads target) (stored_at ks at.clause)) f target
      (head_in n heads target)
  moved =
      moves n (stored_at ks at.clause) at.which i (head_in n heads target) f
      (can.chained.simple at.clause can.place.held) can.place.which can.low can.high can.place.watch

  pub target_head :
      head_in n (unlinked_heads n f before after heads) target ≡ head_in n heads target
  target_head = of_option before where
    of_option : (o : Option Place) →
        head_in n (unlinked_heads n f o after heads) target ≡ head_in n heads target
    of_option None =
        head_set_other n heads target f after target_within can.within (λ e. moved.other (sym e))
    of_option (Some p) = refl

  pub unlinked_many : length (unlinked_heads n f before after heads) ≡ n * 2 + 1
  unlinked_many = of_option before where
    of_option : (o : Option Place) → length (unlinked_heads n f o after heads) ≡ n * 2 + 1
    of_option None = length-set heads (place_of n f) after ∙ can.chained.many
    of_option (Some p) = can.chained.many

  placed_unlinked : (b : Option Place) → ArePlaced 0 (unlinked b after ks)
  placed_unlinked None = can.chained.placed
  placed_unlinked (Some p) =
      placed_changed (with_link p.which after) p.clause 0 ks (link_place p.which after)
      (λ k. ap length (link_lits p.which after k)) can.chained.placed

  placed_swapped : ArePlaced 0 (changed (with_swap at.which i) at.clause (unlinked before after ks))
  placed_swapped =
      placed_changed (with_swap at.which i) at.clause 0 (unlinked before after ks) (λ k. refl)
      (λ k. length_swap k.lits at.which i) (placed_unlinked before)

  pub now_placed : ArePlaced 0 clauses_after
  now_placed =
      placed_changed (with_link at.which (head_in n heads target)) at.clause 0
      (changed (with_swap at.which i) at.clause (unlinked before after ks))
      (link_place at.which (head_in n heads target))
      (λ k. ap length (link_lits at.which (head_in n heads target) k)) placed_swapped

  held_unlinked : is_held (unlinked before after ks) at.clause ≡ true
  held_unlinked = unlinked_held ks before after at.clause ∙ can.place.held

  -- as many clauses hold a literal as before
  pub now_holders : (l : Lit) → holders l clauses_after ≡ holders l ks
  now_holders l =
      counted_changed (λ (k : Stored). is_among k.lits l)
      (with_link at.which (head_in n heads target)) at.clause 0
      (changed (with_swap at.which i) at.clause (unlinked before after ks)) placed_swapped
      (held_changed (with_swap at.which i) at.clause at.clause (unlinked before after ks)
      (λ k. refl) ∙ held_unlinked)
      (ap (λ x. is_among x l)
      (link_lits at.which (head_in n heads target)
      (stored_at (changed (with_swap at.which i) at.clause (unlinked before after ks)) at.clause)))
      ∙ (counted_changed (λ (k : Stored). is_among k.lits l) (with_swap at.which i) at.clause 0
      (unlinked before after ks) (placed_unlinked before) held_unlinked
      (let which = can.place.which in let low = can.low in let high = can.high in
      rw same_clause (among_swap (stored_at ks at.clause).lits at.which i l (omega arith) high))
      ∙ of_before before can.places)
    where
      of_before : (b : Option Place) → MayBePlaceOf ks f b →
          holders l (unlinked b after ks) ≡ holders l ks
      of_before None ok = refl
      of_before (Some p) ok =
          counted_changed (λ (k : Stored). is_among k.lits l) (with_link p.which after) p.clause 0
          ks can.chained.placed ok.held
          (ap (λ x. is_among x l) (link_lits p.which after (stored_at ks p.clause)))

  now_unmarked : AreUnmarked clauses_after
  now_unmarked =
      unmarked_changed (with_link at.which (head_in n heads target)) at.clause
      (changed (with_swap at.which i) at.clause (unlinked before after ks))
      (link_mark at.which (head_in n heads target))
      (unmarked_changed (with_swap at.which i) at.clause (unlinked before after ks) (λ k. refl)
      (of_before before)) where
        of_before : (b : Option Place) → AreUnmarked (unlinked b after ks)
        of_before None = can.chained.unmarked
        of_before (Some p) =
            unmarked_changed (with_link p.which after) p.clause ks (link_mark p.which after)
            can.chained.unmarked

  pub now_chained : IsChained n clauses_after heads_after
  now_chained =
      let first = at_first (next_on ks f) (head_in n heads f) can.cursor.kept can.cursor.rest
      (clause_of before) at.clause can.cursor.is in
      chained_again n ks clauses_after f before at i after (head_in n heads target)
      can.chained.simple
      can.place can.places can.low can.high rewatched
      heads can.chained.many can.within (refl {a = head_in n heads target}) can.cursor.kept first.0
      now_placed now_unmarked can.chained
      (subst (λ l. IsCursor (next_on ks f) (head_in n heads f) can.cursor.kept l (clause_of before)
      (Some at.clause)) first.1 can.cursor.is) can.goes

  pub now_cursor : (kept rest : List ClauseRef) →
      IsCursor (next_on ks f) (head_in n heads f) kept (at.clause ∷ rest) (clause_of before)
      (Some at.clause) →
      IsCursor (next_on clauses_after f) (head_in n heads_after f) kept rest (clause_of before)
      after
  now_cursor kept rest cursor =
      cursor_again n ks clauses_after f before at i after (head_in n heads target)
      can.chained.simple
      can.place can.places can.low can.high rewatched
      heads can.chained.many can.within (refl {a = head_in n heads target}) kept rest cursor
      can.goes

  module _ (k1 : List Stored) (h1 : List (Option ClauseRef)) (ek : k1 ≡ unlinked before after ks)
      (eh : h1 ≡ unlinked_heads n f before after heads) where
    pub same_stored : stored_at k1 at.clause ≡ stored_at ks at.clause
    same_stored = ap (λ l. stored_at l at.clause) ek ∙ same_clause

    same_target : lit_at (stored_at k1 at.clause).lits i ≡ target
    same_target = ap (λ (k : Stored). lit_at k.lits i) same_stored

    pub still_held : is_held k1 at.clause ≡ true
    still_held =
        ap (λ l. is_held l at.clause)
        ek ∙ (unlinked_held ks before after at.clause ∙ can.place.held)

    pub still_high : i < length (stored_at k1 at.clause).lits
    still_high = rw same_stored can.high

    pub still_wide : length h1 ≡ n * 2 + 1
    still_wide = ap length eh ∙ unlinked_many

    pub still_head : HasHead n k1 h1 at.clause i
    still_head =
        record {
          within = subst (IsWithin n) (sym same_target) target_within;
          held = λ d e.
              let there : head_in n heads target ≡ Some d =
              sym target_head ∙ ((λ j. head_in n (sym eh j) (sym same_target j)) ∙ e) in
              ap (λ l. is_held l d)
              ek ∙ (unlinked_held ks before after d ∙ head_held n ks heads target d can.chained
              target_within there);
        }

    pub code_clauses : (new : List Stored) →
        new ≡ changed (with_link at.which (head_in n h1 (lit_at (stored_at k1 at.clause).lits i)))
        at.clause (changed (with_swap at.which i) at.clause k1) →
        new ≡ clauses_after
    code_clauses new e =
        e ∙ ((λ j. changed (with_link at.which (head_in n (eh j) (same_target j))) at.clause
        (changed (with_swap at.which i) at.clause (ek j)))
        ∙ ap (λ o. changed (with_link at.which o) at.clause
        (changed (with_swap at.which i) at.clause (unlinked before after ks))) target_head)

    pub code_heads : (new : List (Option ClauseRef)) →
        new ≡ set h1 (place_of n (lit_at (stored_at k1 at.clause).lits i)) (Some at.clause) →
        new ≡ heads_after
    code_heads new e = e ∙ (λ j. set (eh j) (place_of n (same_target j)) (Some at.clause))

pub can_rewatch : (s t : ChainsState) (f : Lit) (before : Option Place) (at : Place) (i : ℕ)
    (after : Option ClauseRef) → s ≡ t → IsChained s.vars s.clauses s.heads →
    IsWithin t.vars f → IsPlaceOf t.clauses f at → MayBePlaceOf t.clauses f before → 2 ≤ i →
    i < length (stored_at t.clauses at.clause).lits →
    HasCursor (next_on t.clauses f) (head_of t f) (clause_of before) (Some at.clause) →
    link_of (stored_at t.clauses at.clause) at.which ≡ after →
    CanRewatch s.vars s.clauses s.heads f before at i after
can_rewatch s t f before at i after e h within place places low high cursor goes =
    subst (λ (x : ChainsState). CanRewatch x.vars x.clauses x.heads f before at i after) (sym e)
    (record {
      chained = subst (λ (x : ChainsState). IsChained x.vars x.clauses x.heads) e h;
      within = within;
      place = place;
      places = places;
      low = low;
      high = high;
      cursor = cursor;
      goes = goes;
    })

get_none : (n i : ℕ) → get_or {A = Option ClauseRef} (replicate n None) i None ≡ None
get_none zero i = refl
get_none (suc n) zero = refl
get_none (suc n) (suc i) = get_none n i

-- without clauses all chains are empty
pub empty_chained : (n : ℕ) (ks : List Stored) (heads : List (Option ClauseRef)) → n ≤ 100000000 →
    ks ≡ [] → heads ≡ replicate (n * 2 + 1) None → IsChained n ks heads
empty_chained n ks heads few none is = rw (none, is) (record {
  few = few;
  placed = tt;
  unmarked = tt;
  many = length-replicate {A = Option ClauseRef} (n * 2 + 1) None;
  simple = λ c held. let clash : false ≡ true = held in cc;
  chains = λ l within. record {
    refs = [];
    is = record {
      front = refl;
      back = get_none (n * 2 + 1) (place_of n l);
      last = refl;
      once = tt;
      whole = λ c a goes. let clash : None ≡ Some a = goes in cc;
    };
  };
})
