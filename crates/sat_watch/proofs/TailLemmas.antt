-- The tails of chains: what they are made of, and that they stay where the chains go on.
use Rattle.std.proofs.Common.{◌≡◌, ◌≢◌, ℕ, zero, suc, ◌+◌, ◌-◌, ◌<◌, ◌≤◌, true, false, inl, inr, List, [], ◌∷◌, ◌++◌, length, take, drop, slice_index, slice_index_or, slice_range, Option, None, Some, All, Contains, refl, sym, ap, ◌∙◌, subst, arith, length-append}
use Rattle.std.proofs.lemmas.List.{drop-append-le, get_or_append_left, length-drop, length-map, map-append, take-append-le}
use Rattle.std.proofs.lemmas.List.Elements.{All-cons, All-nil, All-append, All-weaker}
use Rattle.std.proofs.Math.Seq.{drop-append_seam, get_or-append_seam, take-length}
use Rattle.sat_clause.specs.declared.literal.Lit.{Lit}
use Rattle.sat_clause.specs.Learned.{IsSimple}
use Rattle.sat_clause.specs.Literal.{Clause, IsWithin, negation}
use Rattle.sat_arena.specs.declared.clause_ref.ClauseRef.{ClauseRef}
use Rattle.sat_arena.specs.Store.{Stored, is_held, link_of, ref, stored_at}
use Rattle.sat_watch.specs.declared.place.Place.{Place}
use Rattle.sat_watch.specs.Chains.{AreChained, ChainsState, GoesOn, HasCursor, IsChained, IsCursor, IsLast, IsPath, IsPlaceOf, clause_of, head_in, head_of, is_in, lit_at, next_in, next_on, watch_of}
use Rattle.sat_watch.proofs.AttachLemmas.{held_push_other, push_other}
use Rattle.sat_watch.proofs.ChainLemmas.{CanRewatch, clauses_after, lits_stay, puts_first, rewatched, stays_same, takes_out, target}
use Rattle.sat_watch.proofs.PathLemmas.{PutsFirst, TakesOut, advance, at_first, before_leads, in_cases}
use Rattle.sat_watch.proofs.GoesLemmas.{rest_length}
use Rattle.sat_watch.proofs.TrailLemmas.{never}
use Rattle.sat_watch.proofs.VisitLemmas.{other_at, other_true, watch_contains, watch_within}
use Rattle.sat_watch.proofs.WatchLemmas.{goes_on, lit_tells}
use Rattle.sat_watch.specs.Tails.{HasTail, HasTails, IsPairOf, IsPart, IsTail, TailTable, part_of, refs, tail_end, with_tail}
use Rattle.sat_watch.specs.TrailStore.{place_of}
use Rattle.sat_watch.specs.Watched.{IsReason, OtherIsTrue, chain_length, is_false, other_of}
use Rattle.sat_watch.specs.declared.entry.TrailEntry.{TrailEntry}
use Rattle.sat_watch.specs.declared.tails.TailEnd.{TailEnd}

-- the part of a list that ends within it is the same in a longer one
slice_same : {X : Type 0} (xs ys : List X) (from to : ℕ) → to ≤ length xs →
    slice_range (xs ++ ys) from to ≡ slice_range xs from to
slice_same xs ys from to le = of_zero (to - from) refl where
  of_zero : (n : ℕ) → to - from ≡ n → take n (drop from (xs ++ ys)) ≡ take n (drop from xs)
  of_zero zero e = refl
  of_zero (suc n) e =
      ap (take (suc n)) (drop-append-le from xs ys (omega arith)) ∙
      take-append-le (suc n) (drop from xs) ys (omega (arith, length-drop from xs))

-- what is put behind a list is its last part
slice_last : {X : Type 0} (xs ys : List X) →
    slice_range (xs ++ ys) (length xs) (length xs + length ys) ≡ ys
slice_last xs ys =
    let many : length xs + length ys - length xs ≡ length ys = omega arith in
    ap (λ n. take n (drop (length xs) (xs ++ ys))) many ∙
    (ap (take (length ys)) (drop-append_seam xs ys) ∙ take-length ys)

-- one more pair at the end of a tail
pub tail_append : (ks : List Stored) (l : Lit) (from : Option ClauseRef) (os : List Lit)
    (cs : List ClauseRef) (o : Lit) (c : ClauseRef) (after : Option ClauseRef) →
    IsTail ks l from os cs (Some c) → IsPairOf ks l o c → next_on ks l c ≡ Some after →
    IsTail ks l from (os ++ o ∷ []) (cs ++ c ∷ []) after
tail_append ks l from [] [] o c after is pair goes = (is, pair, (after, goes, refl))
tail_append ks l from [] (d ∷ cs) o c after is pair goes = absurd is
tail_append ks l from (p ∷ os) [] o c after is pair goes = absurd is
tail_append ks l from (p ∷ os) (d ∷ cs) o c after is pair goes = (
  is.0,
  is.1,
  (is.2.0, is.2.1, tail_append ks l is.2.0 os cs o c after is.2.2 pair goes),
)

-- the clause at a place of the chain, which has two literals, ends a tail that leads to it
pub tail_taken : (n : ℕ) (ks : List Stored) (heads : List (Option ClauseRef)) (l : Lit) (at : Place)
    (after from : Option ClauseRef) (os : List Lit) (ws : List ℕ) → IsChained n ks heads →
    IsPlaceOf ks l at → link_of (stored_at ks at.clause) at.which ≡ after →
    length (stored_at ks at.clause).lits ≡ 2 → IsTail ks l from os (refs ws) (Some at.clause) →
    IsTail ks l from (os ++ lit_at (stored_at ks at.clause).lits (1 - at.which) ∷ [])
    (refs (ws ++ at.clause.word ∷ [])) after
tail_taken n ks heads l at after from os ws chained place goes two is =
    let which = place.which in
    let lits = (stored_at ks at.clause).lits in
    subst (λ cs. IsTail ks l from (os ++ lit_at lits (1 - at.which) ∷ []) cs after)
    (sym (map-append ref ws (at.clause.word ∷ [])))
    (tail_append ks l from os (refs ws) (lit_at lits (1 - at.which)) at.clause after is
    (record {
      held = place.held;
      two = two;
      which = at.which;
      low = place.which;
      own = place.watch;
      is_other = other_at lits at.which place.which (omega (arith, two));
    })
    (goes_on n after (stored_at ks at.clause) l (chained.simple at.clause place.held) at.which
    place.which place.watch ∙ ap Some goes))

-- a walk along a chain goes on behind the clause at its place, and less is left of the chain
pub record GoesBehind (s : ChainsState) (l : Lit) (next after : Option ClauseRef) : Type 0 where
  pub before : Option ClauseRef
  pub cursor : HasCursor (next_on s.clauses l) (head_of s l) before after
  pub shorter : chain_length (length s.clauses) (next_on s.clauses l) after
      < chain_length (length s.clauses) (next_on s.clauses l) next

module _ (s : ChainsState) (l : Lit) (before next : Option ClauseRef) (c : ClauseRef)
    (cursor : HasCursor (next_on s.clauses l) (head_of s l) before next)
    (is : next ≡ Some c) where
  here : HasCursor (next_on s.clauses l) (head_of s l) before (Some c)
  here = subst (HasCursor (next_on s.clauses l) (head_of s l) before) is cursor

  first : (others : List ClauseRef) × (here.rest ≡ c ∷ others)
  first =
      at_first (next_on s.clauses l) (head_of s l) here.kept here.rest before c here.is

  cursor_first : IsCursor (next_on s.clauses l) (head_of s l) here.kept (c ∷ first.0) before
      (Some c)
  cursor_first =
      subst (λ r. IsCursor (next_on s.clauses l) (head_of s l) here.kept r before (Some c))
      first.1 here.is

  pub place_goes_on : GoesOn (next_on s.clauses l c)
  place_goes_on = let back = cursor_first.back in subst GoesOn (sym back.1.1) tt

  pub goes_behind : (at : Place) (after : Option ClauseRef) → AreChained s →
      IsPlaceOf s.clauses l at → at.clause ≡ c →
      after ≡ link_of (stored_at s.clauses at.clause) at.which → GoesBehind s l next after
  goes_behind at after chained place same link =
      let own : next_on s.clauses l c ≡ Some after =
      ap (next_on s.clauses l) (sym same) ∙
      (goes_on s.vars after (stored_at s.clauses at.clause) l
      (chained.simple at.clause place.held) at.which place.which place.watch
      ∙ ap Some (sym link)) in
      let on = advance (next_on s.clauses l) (head_of s l) here.kept first.0 c before after
      cursor_first own in
      let was = rest_length s.clauses l (head_of s l) here.kept (c ∷ first.0) before (Some c)
      cursor_first in
      let now = rest_length s.clauses l (head_of s l) (here.kept ++ c ∷ []) first.0 (Some c)
      after on in
      record {
        before = Some c;
        cursor = record { kept = here.kept ++ c ∷ []; rest = first.0; is = on };
        shorter = rw (is, was, now) (omega arith);
      }

-- a tail has as many literals as clauses
pub tail_length : (ks : List Stored) (l : Lit) (from : Option ClauseRef) (os : List Lit)
    (cs : List ClauseRef) (to : Option ClauseRef) → IsTail ks l from os cs to →
    length cs ≡ length os
tail_length ks l from [] [] to is = refl
tail_length ks l from [] (d ∷ cs) to is = absurd is
tail_length ks l from (p ∷ os) [] to is = absurd is
tail_length ks l from (p ∷ os) (d ∷ cs) to is =
    ap suc (tail_length ks l is.2.0 os cs to is.2.2)

pub tail_many : (ks : List Stored) (l : Lit) (from : Option ClauseRef) (os : List Lit)
    (ws : List ℕ) (to : Option ClauseRef) → IsTail ks l from os (refs ws) to →
    length ws ≡ length os
tail_many ks l from os ws to is = sym (length-map ws ref) ∙ tail_length ks l from os (refs ws) to is

-- each of its clauses is a pair of its literal
pub tail_pair : (ks : List Stored) (l : Lit) (from : Option ClauseRef) (os : List Lit)
    (ws : List ℕ) (to : Option ClauseRef) (i : ℕ) → IsTail ks l from os (refs ws) to →
    i < length os → IsPairOf ks l (lit_at os i) (ref (slice_index ws i))
tail_pair ks l from [] ws to i is lt = absurd (omega arith)
tail_pair ks l from (p ∷ os) [] to i is lt = absurd is
tail_pair ks l from (p ∷ os) (w ∷ ws) to zero is lt = is.1
tail_pair ks l from (p ∷ os) (w ∷ ws) to (suc i) is lt =
    tail_pair ks l is.2.0 os ws to i is.2.2 (omega arith)

-- the chain leads over a tail to its end
pub tail_rest : (ks : List Stored) (l : Lit) (from : Option ClauseRef) (os : List Lit)
    (cs rest : List ClauseRef) → IsTail ks l from os cs None
    → IsPath (next_on ks l) from rest None → rest ≡ cs
tail_rest ks l from [] [] [] is path = refl
tail_rest ks l from [] [] (r ∷ rest) is path = let clash : None ≡ Some r = sym is ∙ path.0 in cc
tail_rest ks l from [] (d ∷ cs) rest is path = absurd is
tail_rest ks l from (p ∷ os) [] rest is path = absurd is
tail_rest ks l from (p ∷ os) (d ∷ cs) [] is path =
    let clash : None ≡ Some d = sym path ∙ is.0 in cc
tail_rest ks l from (p ∷ os) (d ∷ cs) (r ∷ rest) is path =
    let here : Some r ≡ Some d = sym path.0 ∙ is.0 in
    let same : r ≡ d = cc in
    let goes : Some path.1.0 ≡ Some is.2.0 = sym path.1.1 ∙ (ap (next_on ks l) same ∙ is.2.1) in
    let after : path.1.0 ≡ is.2.0 = cc in
    let later = tail_rest ks l is.2.0 os cs rest is.2.2
    (subst (λ a. IsPath (next_on ks l) a rest None) after path.1.2) in
    (λ j. same j ∷ later j)

-- a tail stays where each of its clauses stays a pair and leads on as before
pub tail_same : (ks new : List Stored) (l : Lit) →
    ((o : Lit) (c : ClauseRef) → IsPairOf ks l o c → IsPairOf new l o c) →
    ((o : Lit) (c : ClauseRef) → IsPairOf ks l o c → next_on new l c ≡ next_on ks l c) →
    (from : Option ClauseRef) (os : List Lit) (cs : List ClauseRef) (to : Option ClauseRef) →
    IsTail ks l from os cs to → IsTail new l from os cs to
tail_same ks new l pairs goes from [] [] to is = is
tail_same ks new l pairs goes from [] (d ∷ cs) to is = is
tail_same ks new l pairs goes from (p ∷ os) [] to is = is
tail_same ks new l pairs goes from (p ∷ os) (d ∷ cs) to is = (
  is.0,
  pairs p d is.1,
  (is.2.0, goes p d is.1 ∙ is.2.1, tail_same ks new l pairs goes is.2.0 os cs to is.2.2),
)

-- there are no tails in an empty table
pub no_tails : (n : ℕ) (ks : List Stored) → HasTails n ks
    (record { ends = []; others = []; words = [] })
no_tails n ks = record {
  many = refl;
  low = All-nil (λ (e : TailEnd). e.end ≤ 0);
  last = refl;
  tails = λ l within lt. absurd (omega arith);
}

-- the tails of a table stay where those of each literal do
pub tails_same : (n : ℕ) (ks new : List Stored) (t : TailTable) →
    ((l : Lit) → IsWithin n l → (from : Option ClauseRef) (os : List Lit) (cs : List ClauseRef) →
    IsTail ks l from os cs None → IsTail new l from os cs None) →
    HasTails n ks t → HasTails n new t
tails_same n ks new t stay h = record {
  many = h.many;
  low = h.low;
  last = h.last;
  tails = λ l within lt. let has = h.tails l within lt in record {
    from = has.from;
    is = stay l within has.from (part_of t (place_of n l) t.others)
        (refs (part_of t (place_of n l) t.words)) has.is;
    first = has.first;
  };
}

-- the first clause of a tail stands at the first word
tail_first : (ks : List Stored) (l : Lit) (from : Option ClauseRef) (os : List Lit) (ws : List ℕ)
    (c : ClauseRef) → IsTail ks l from os (refs ws) None → from ≡ Some c →
    slice_index_or ws 0 0 ≡ c.word
tail_first ks l from [] [] c is e = let clash : None ≡ Some c = sym is ∙ e in cc
tail_first ks l from [] (w ∷ ws) c is e = absurd is
tail_first ks l from (o ∷ os) [] c is e = absurd is
tail_first ks l from (o ∷ os) (w ∷ ws) c is e =
    let here : Some (ref w) ≡ Some c = sym is.0 ∙ e in
    let same : ref w ≡ c = cc in ap (λ (r : ClauseRef). r.word) same

-- a tail whose first clause is told
tail_named : (ks : List Stored) (l : Lit) (from : Option ClauseRef) (os : List Lit) (ws : List ℕ)
    (c : ClauseRef) → 1 ≤ length os → IsTail ks l from os (refs ws) None →
    ((d : ClauseRef) → from ≡ Some d → d.word ≡ c.word) → IsTail ks l (Some c) os (refs ws) None
tail_named ks l from [] ws c some is named = absurd (omega arith)
tail_named ks l from (o ∷ os) [] c some is named = absurd is
tail_named ks l from (o ∷ os) (w ∷ ws) c some is named =
    (ap (λ n. Some (ref n)) (sym (named (ref w) is.0)), is.1, is.2)

-- what the table has under a literal's number is the tail of the literal's chain
pub tail_at : (n : ℕ) (ks : List Stored) (t : TailTable) (l : Lit) (c : ClauseRef) (os : List Lit)
    (ws : List ℕ) → HasTails n ks t → IsWithin n l → IsPart t (place_of n l) c.word os ws →
    IsTail ks l (Some c) os (refs ws) None
tail_at n ks t l c os ws h within part =
    let has = h.tails l within part.within in
    tail_named ks l has.from os ws c part.some
    (rw (part.others_are, part.words_are) has.is)
    (λ d e. sym (has.first d e) ∙ part.first)

module _ (n : ℕ) (ks : List Stored) (t : TailTable) (os : List Lit) (ws : List ℕ)
    (h : HasTails n ks t) (many : length ws ≡ length os)
    (tail : (l : Lit) → IsWithin n l → place_of n l ≡ length t.ends - 1 →
    (from : Option ClauseRef) × IsTail ks l from os (refs ws) None) where
  abbrev more : TailTable
  more = with_tail os ws t

  abbrev newest : TailEnd
  newest = record { end = length t.others + length os; first = slice_index_or ws 0 0 }

  end_before : (p : ℕ) → p < length t.ends → tail_end more p ≡ tail_end t p
  end_before p lt =
      get_or_append_left t.ends (newest ∷ []) (record { end = 0; first = 0 }) p lt

  end_newest : tail_end more (length t.ends) ≡ newest
  end_newest = get_or-append_seam t.ends newest [] (record { end = 0; first = 0 })

  end_low : (p : ℕ) → p < length t.ends → (tail_end t p).end ≤ length t.others
  end_low p lt = h.low p (record { end = 0; first = 0 }) lt

  part_before : {X : Type 0} (xs ys : List X) (p : ℕ) → suc p < length t.ends →
      length t.others ≤ length xs → part_of more p (xs ++ ys) ≡ part_of t p xs
  part_before xs ys p lt long =
      let low = end_low (suc p) lt in
      (λ j. slice_range (xs ++ ys) (end_before p (omega arith) j).end (end_before (suc p) lt j).end)
      ∙ slice_same xs ys (tail_end t p).end (tail_end t (suc p)).end (omega arith)

  part_newest : {X : Type 0} (xs ys : List X) (p : ℕ) → suc p ≡ length t.ends →
      length xs ≡ length t.others → length ys ≡ length os → part_of more p (xs ++ ys) ≡ ys
  part_newest xs ys p is long many =
      let at : p ≡ length t.ends - 1 = omega arith in
      let begins : (tail_end more p).end ≡ length xs =
      ap (λ (e : TailEnd). e.end) (end_before p (omega arith)) ∙
      (ap (λ k. (tail_end t k).end) at ∙ (h.last ∙ sym long)) in
      let ends : (tail_end more (suc p)).end ≡ length xs + length ys =
      ap (λ k. (tail_end more k).end) is ∙ (ap (λ (e : TailEnd). e.end) end_newest ∙
      omega (arith, long, many)) in
      (λ j. slice_range (xs ++ ys) (begins j) (ends j)) ∙ slice_last xs ys

  -- one more tail is that of the next literal
  pub tails_more : HasTails n ks more
  tails_more = record {
    many = omega (arith, h.many, many, length-append t.words ws, length-append t.others os);
    low = All-append (λ (e : TailEnd). e.end ≤ length (t.others ++ os)) t.ends (newest ∷ [])
        (All-weaker (λ (e : TailEnd). e.end ≤ length t.others)
        (λ (e : TailEnd). e.end ≤ length (t.others ++ os))
        (λ e le. omega (arith, length-append t.others os)) t.ends h.low)
        (All-cons (λ (e : TailEnd). e.end ≤ length (t.others ++ os)) newest []
        (omega (arith, length-append t.others os)) (All-nil _));
    last =
        let at : length (t.ends ++ newest ∷ []) - 1 ≡ length t.ends =
        omega (arith, length-append t.ends (newest ∷ [])) in
        ap (λ k. (tail_end more k).end) at ∙
        (ap (λ (e : TailEnd). e.end) end_newest ∙ sym (length-append t.others os));
    tails = λ l within lt. by_gap l within (length t.ends - suc (place_of n l)) refl lt;
  }
    where
      old : (l : Lit) → IsWithin n l → suc (place_of n l) < length t.ends →
          HasTail ks l more (place_of n l)
      old l within lt =
          let has = h.tails l within lt in
          record {
            from = has.from;
            is = rw (
              part_before t.others os (place_of n l) lt (omega arith),
              part_before t.words ws (place_of n l) lt (omega (arith, h.many)),
            ) has.is;
            first = λ c e. ap (λ (x : TailEnd). x.first) (end_before (suc (place_of n l)) lt) ∙
                has.first c e;
          }

      new : (l : Lit) → IsWithin n l → suc (place_of n l) ≡ length t.ends →
          HasTail ks l more (place_of n l)
      new l within is =
          let has = tail l within (omega arith) in
          record {
            from = has.0;
            is = rw (
              part_newest t.others os (place_of n l) is refl refl,
              part_newest t.words ws (place_of n l) is h.many many,
            ) has.1;
            first = λ c e. ap (λ k. (tail_end more k).first) is ∙
                (ap (λ (x : TailEnd). x.first) end_newest ∙ tail_first ks l has.0 os ws c has.1 e);
          }

      by_gap : (l : Lit) → IsWithin n l → (gap : ℕ) → length t.ends - suc (place_of n l) ≡ gap →
          suc (place_of n l) < length (t.ends ++ newest ∷ []) → HasTail ks l more (place_of n l)
      by_gap l within zero e lt =
          new l within (omega (arith, length-append t.ends (newest ∷ [])))
      by_gap l within (suc gap) e lt = old l within (omega arith)

-- the tails stay where a clause is put behind the others
pub tails_added : (n : ℕ) (ks all : List Stored) (k : Stored) (c : ClauseRef) (t : TailTable) →
    IsLast ks all k c → HasTails n ks t → HasTails n all t
tails_added n ks all k c t last h =
    tails_same n ks all t
    (λ l within from os cs is. tail_same ks all l (λ o d pair. stays l o d pair)
    (λ o d pair. ap (λ x. next_in x l) (stored d pair.held)) from os cs None is) h
  where
    apart : (d : ClauseRef) → is_held ks d ≡ true → d ≢ k.place
    apart d held same =
        never (is_held ks d) held
        (subst (λ r. is_held ks r ≡ false) (sym (same ∙ last.place)) last.fresh)

    stored : (d : ClauseRef) → is_held ks d ≡ true → stored_at all d ≡ stored_at ks d
    stored d held = rw last.is (push_other ks k d (apart d held))

    stays : (l o : Lit) (d : ClauseRef) → IsPairOf ks l o d → IsPairOf all l o d
    stays l o d pair =
        let same = ap (λ (x : Stored). x.lits) (stored d pair.held) in
        record {
          held = rw last.is (held_push_other ks k d (apart d pair.held) ∙ pair.held);
          two = rw same pair.two;
          which = pair.which;
          low = pair.low;
          own = rw same pair.own;
          is_other = rw same pair.is_other;
        }

-- the tails stay where a watch is moved
module _ {n : ℕ} {ks : List Stored} {heads : List (Option ClauseRef)} {f : Lit}
    {before : Option Place} {at : Place} {i : ℕ} {after : Option ClauseRef}
    (can : CanRewatch n ks heads f before at i after) where
  -- a pair is not the clause whose watch moves
  pair_apart : (l o : Lit) (d : ClauseRef) → IsPairOf ks l o d → d ≢ at.clause
  pair_apart l o d pair same =
      let two : length (stored_at ks at.clause).lits ≡ 2 =
      subst (λ r. length (stored_at ks r).lits ≡ 2) same pair.two in
      let low = can.low in let high = can.high in absurd (omega arith)

  stays_pair : (l o : Lit) (d : ClauseRef) → IsPairOf ks l o d →
      IsPairOf (clauses_after can) l o d
  stays_pair l o d pair =
      let is = rewatched can in
      let same = lits_stay n ks (clauses_after can) f before at i after
      (head_in n heads (target can))
      can.chained.simple can.place can.places can.low can.high is d (pair_apart l o d pair) in
      record {
        held = is.held d ∙ pair.held;
        two = rw same pair.two;
        which = pair.which;
        low = pair.low;
        own = rw same pair.own;
        is_other = rw same pair.is_other;
      }

  takes : TakesOut (next_on ks f) (next_on (clauses_after can) f) at.clause (clause_of before) after
  takes =
      takes_out n ks (clauses_after can) f before at i after (head_in n heads (target can))
      can.chained.simple can.place can.places can.low can.high (rewatched can)

  puts : PutsFirst (next_on ks (target can)) (next_on (clauses_after can) (target can)) at.clause
      (head_in n heads (target can))
  puts =
      puts_first n ks (clauses_after can) f before at i after (head_in n heads (target can))
      can.chained.simple can.place can.places can.low can.high (rewatched can)

  -- no tail leads to that clause
  no_tail_there : (from : Option ClauseRef) (os : List Lit) (cs : List ClauseRef) →
      from ≡ Some at.clause → IsTail ks f from os cs None → ⊥
  no_tail_there from [] [] e is = let clash : None ≡ Some at.clause = sym is ∙ e in cc
  no_tail_there from [] (c ∷ cs) e is = is
  no_tail_there from (o ∷ os) [] e is = is
  no_tail_there from (o ∷ os) (c ∷ cs) e is =
      let here : Some c ≡ Some at.clause = sym is.0 ∙ e in
      let same : c ≡ at.clause = cc in pair_apart f o c is.1 same

  -- so what stands before it is in no tail
  own_tail : (from : Option ClauseRef) (os : List Lit) (cs : List ClauseRef) →
      IsTail ks f from os cs None → IsTail (clauses_after can) f from os cs None
  own_tail from [] [] is = is
  own_tail from [] (c ∷ cs) is = is
  own_tail from (o ∷ os) [] is = is
  own_tail from (o ∷ os) (c ∷ cs) is =
      let leads = λ (e : clause_of before ≡ Some c).
      before_leads (next_on ks f) (head_in n heads f) can.cursor.kept can.cursor.rest
      (clause_of before) (Some at.clause) c can.cursor.is e in
      let apart : clause_of before ≢ Some c =
      λ e. no_tail_there is.2.0 os cs
      (let two : Some is.2.0 ≡ Some (Some at.clause) = sym is.2.1 ∙ leads e in cc) is.2.2 in (
        is.0,
        stays_pair f o c is.1,
        (
          is.2.0,
          takes.same c (pair_apart f o c is.1) apart ∙ is.2.1,
          own_tail is.2.0 os cs is.2.2,
        ),
      )

  pub tails_rewatched : (t : TailTable) → HasTails n ks t → HasTails n (clauses_after can) t
  tails_rewatched t h =
      tails_same n ks (clauses_after can) t (λ l within from os cs is. elim (lit_tells l f) [
        | inl same ↦ subst (λ x. IsTail ks x from os cs None → IsTail (clauses_after can) x from os
            cs None) (sym same.1) (own_tail from os cs) is
        | inr lf ↦ tail_same ks (clauses_after can) l (λ o c. stays_pair l o c)
            (λ o c pair. elim (lit_tells l (target can)) [
              | inl same ↦ subst (λ x. next_on (clauses_after can) x c ≡ next_on ks x c)
                  (sym same.1) (puts.same c (pair_apart l o c pair))
              | inr lm ↦ stays_same n ks (clauses_after can) f before at i after
                  (head_in n heads (target can)) can.chained.simple can.place can.places can.low
                  can.high (rewatched can) l lf.1 lm.1 c
            ])
            from os cs None is
      ]) h

-- a pair of two literals has these alone
pair_of : (lits : Clause) (w : ℕ) (l o : Lit) → length lits ≡ 2 → watch_of lits w ≡ Some l →
    watch_of lits (other_of w) ≡ Some o → w < 2 → (m : Lit) → Contains lits m → m ≢ o → m ≡ l
pair_of [] w l o two own is_other lw m has ne = absurd (omega arith)
pair_of (a ∷ []) w l o two own is_other lw m has ne = absurd (omega arith)
pair_of (a ∷ b ∷ []) zero l o two own is_other lw m has ne = each has.0 has.1 has.2 where
  each : (k : ℕ) → k < 2 → slice_index_or (a ∷ b ∷ []) k m ≡ m → m ≡ l
  each zero lt is = let first : a ≡ l = cc in sym is ∙ first
  each (suc zero) lt is = let second : b ≡ o = cc in absurd (ne (sym is ∙ second))
  each (suc (suc k)) lt is = absurd (omega arith)
pair_of (a ∷ b ∷ []) (suc w) l o two own is_other lw m has ne = each has.0 has.1 has.2 where
  each : (k : ℕ) → k < 2 → slice_index_or (a ∷ b ∷ []) k m ≡ m → m ≡ l
  each zero lt is = let first : a ≡ o = cc in absurd (ne (sym is ∙ first))
  each (suc zero) lt is = let second : b ≡ l = cc in sym is ∙ second
  each (suc (suc k)) lt is = absurd (omega arith)
pair_of (a ∷ b ∷ d ∷ ls) w l o two own is_other lw m has ne = absurd (omega arith)

-- where its literal is false, a pair makes the other one true
pub pair_reason : (ks : List Stored) (l o : Lit) (c : ClauseRef) (entries : List TrailEntry) →
    IsPairOf ks l o c → is_false entries l ≡ true → IsReason entries (stored_at ks c).lits o
pair_reason ks l o c entries pair is_false_l =
    let lits = (stored_at ks c).lits in
    record {
      has = watch_contains lits (other_of pair.which) o pair.is_other;
      others = λ m has ne.
          subst (λ x. is_false entries x ≡ true)
          (sym (pair_of lits pair.which l o pair.two pair.own pair.is_other pair.low m has ne))
          is_false_l;
    }

-- its other literal is of a variable
pub pair_within : (n : ℕ) (s : ChainsState) (l o : Lit) (c : ClauseRef) →
    IsChained n s.clauses s.heads → IsPairOf s.clauses l o c → IsWithin n o
pair_within n s l o c chained pair =
    watch_within n (stored_at s.clauses c).lits (other_of pair.which) o
    (chained.simple c pair.held) pair.is_other

-- where its other literal is true, it can be left alone
pub pair_true : (n : ℕ) (ks : List Stored) (l o : Lit) (c : ClauseRef)
    (entries : List TrailEntry) → IsSimple n (stored_at ks c).lits → IsPairOf ks l o c →
    is_false entries (negation o) ≡ true → OtherIsTrue entries (stored_at ks c).lits l
pair_true n ks l o c entries simple pair is_true =
    other_true n entries (stored_at ks c).lits pair.which l simple pair.low pair.own
    (λ m at. let same : o ≡ m = (let e : Some o ≡ Some m = sym pair.is_other ∙ at in cc) in
    subst (λ x. is_false entries (negation x) ≡ true) same is_true)

-- what holds of the other literals of a tail holds of that of each clause in it
pub tail_all : (ks : List Stored) (l : Lit) (P : Lit → Type 0) (from : Option ClauseRef)
    (os : List Lit) (cs : List ClauseRef) (to : Option ClauseRef) (c : ClauseRef) →
    IsTail ks l from os cs to → All P os → is_in cs c ≡ true →
    (o : Lit) × IsPairOf ks l o c × P o
tail_all ks l P from [] [] to c is all there = let clash : false ≡ true = there in cc
tail_all ks l P from [] (d ∷ cs) to c is all there = absurd is
tail_all ks l P from (p ∷ os) [] to c is all there = absurd is
tail_all ks l P from (p ∷ os) (d ∷ cs) to c is all there = elim (in_cases c d cs there) [
  | inl same ↦ (p, subst (IsPairOf ks l p) same is.1, all 0 p (omega arith))
  | inr later ↦ tail_all ks l P is.2.0 os cs to c is.2.2
      (λ k e lt. all (suc k) e (omega arith)) later
]
