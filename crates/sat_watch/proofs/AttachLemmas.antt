-- The chains stay whole where a clause is put behind the others and first in its two chains.
use Rattle.std.proofs.Common.{◌≡◌, ◌≢◌, ℕ, ◌+◌, ◌*◌, ◌<◌, ◌≤◌, pos, true, false, inl, inr, List, [], ◌∷◌, ◌++◌, length, set, Option, None, Some, refl, sym, ap, ◌∙◌, subst, arith, length-set}
use Rattle.std.specs.List.{swap}
use Rattle.sat_clause.specs.declared.literal.Lit.{Lit}
use Rattle.sat_clause.specs.Learned.{IsSimple}
use Rattle.sat_clause.specs.Literal.{Clause, IsWithin, lit}
use Rattle.sat_arena.specs.declared.clause_ref.ClauseRef.{ClauseRef}
use Rattle.sat_arena.specs.Store.{ArePlaced, Stored, changed, is_held, new_clause, ref, size_all, size_of, stored_at, with_link}
use Rattle.sat_watch.specs.Chains.{HasChain, HasHead, IsAdded, IsChained, IsLast, head_at, head_in, lit_at, next_by, next_in, next_on, with_head, with_order}
use Rattle.sat_watch.specs.TrailStore.{place_of}
use Rattle.sat_watch.proofs.ChainLemmas.{head_held, head_set_other, head_set_same}
use Rattle.sat_arena.proofs.StoreLaws.{held_push, push_held, same_or_other}
use Rattle.sat_watch.proofs.PathLemmas.{PutsFirst, put_first, same_chain}
use Rattle.sat_arena.proofs.StoreLaws.{not_held}
use Rattle.sat_watch.proofs.StoredLemmas.{unmarked_append}
use Rattle.sat_watch.proofs.WatchLemmas.{apart_first, length_swap, lit_tells, no_next, own_next, simple_swap}

pub absent : (at : ℕ) (ks : List Stored) (c : ClauseRef) → ArePlaced at ks →
    at + size_all ks ≤ c.word → is_held ks c ≡ false
absent at [] c placed le = refl
absent at (k ∷ ks) c placed le = elim (same_or_other k.place c) [
  | inl same ↦ absurd (omega
      (arith, ap (λ (r : ClauseRef). r.word) placed.0, ap (λ (r : ClauseRef). r.word) same.1))
  | inr other ↦ rw other.0 (absent (at + size_of k) ks c placed.1 (omega arith))
]

pub placed_push : (at : ℕ) (ks : List Stored) (k : Stored) → ArePlaced at ks →
    k.place ≡ ref (at + size_all ks) → ArePlaced at (ks ++ k ∷ [])
placed_push at [] k placed is = let same : at + 0 ≡ at = omega arith in (is ∙ ap ref same, tt)
placed_push at (x ∷ ks) k placed is =
    let same : at + (size_of x + size_all ks) ≡ at + size_of x + size_all ks = omega arith in
    (placed.0, placed_push (at + size_of x) ks k placed.1 (is ∙ ap ref same))

pub push_other : (ks : List Stored) (k : Stored) (d : ClauseRef) → d ≢ k.place →
    stored_at (ks ++ k ∷ []) d ≡ stored_at ks d
push_other [] k d ne = elim (same_or_other k.place d) [
  | inl same ↦ absurd (ne (sym same.1))
  | inr other ↦ rw other.0 refl
]
push_other (x ∷ ks) k d ne = elim (same_or_other x.place d) [
  | inl same ↦ rw same.0 refl
  | inr other ↦ rw other.0 (push_other ks k d ne)
]

pub found_behind : (ks : List Stored) (k : Stored) (more : List Stored) →
    is_held ks k.place ≡ false → stored_at (ks ++ k ∷ more) k.place ≡ k
found_behind [] k more out = elim (same_or_other k.place k.place) [
  | inl same ↦ rw same.0 refl
  | inr other ↦ absurd (other.1 refl)
]
found_behind (x ∷ ks) k more out = elim (same_or_other x.place k.place) [
  | inl same ↦ (let clash : true ≡ false = rw same.0 at out in cc)
  | inr other ↦ rw other.0 (found_behind ks k more (rw other.0 at out))
]

pub push_same : (ks : List Stored) (k : Stored) → is_held ks k.place ≡ false →
    stored_at (ks ++ k ∷ []) k.place ≡ k
push_same ks k out = found_behind ks k [] out

pub held_push_other : (ks : List Stored) (k : Stored) (d : ClauseRef) → d ≢ k.place →
    is_held (ks ++ k ∷ []) d ≡ is_held ks d
held_push_other [] k d ne = elim (same_or_other k.place d) [
  | inl same ↦ absurd (ne (sym same.1))
  | inr other ↦ rw other.0 refl
]
held_push_other (x ∷ ks) k d ne = elim (same_or_other x.place d) [
  | inl same ↦ rw same.0 refl
  | inr other ↦ rw other.0 (held_push_other ks k d ne)
]

module _ (n : ℕ) (ks : List Stored) (heads : List (Option ClauseRef)) (k : Stored)
    (h : IsChained n ks heads) (simple : IsSimple n k.lits) (unmarked : k.mark ≡ false)
    (place : k.place ≡ ref (size_all ks)) where
  fresh : is_held ks k.place ≡ false
  fresh =
      absent 0 ks k.place h.placed (let at = ap (λ (r : ClauseRef). r.word) place in omega arith)

  now_simple : (c : ClauseRef) → is_held (ks ++ k ∷ []) c ≡ true →
      IsSimple n (stored_at (ks ++ k ∷ []) c).lits
  now_simple c held = elim (same_or_other c k.place) [
    | inl same ↦ subst (λ r. IsSimple n (stored_at (ks ++ k ∷ []) r).lits) (sym same.1)
        (rw (push_same ks k fresh) simple)
    | inr other ↦ rw (push_other ks k c other.1)
        (h.simple c (sym (held_push_other ks k c other.1) ∙ held))
  ]

  was_none : (l : Lit) → next_on ks l k.place ≡ None
  was_none l = ap (λ (x : Stored). next_in x l) (not_held ks k.place fresh)

  now_placed : ArePlaced 0 (ks ++ k ∷ [])
  now_placed = placed_push 0 ks k h.placed (place ∙ ap ref (omega arith))

  -- a clause of one literal is in no chain
  pub short_attached : length k.lits < 2 → IsChained n (ks ++ k ∷ []) heads
  short_attached lt = record {
    few = h.few;
    many = h.many;
    placed = now_placed;
    unmarked = unmarked_append ks (k ∷ []) h.unmarked (unmarked, tt);
    simple = now_simple;
    chains =
        λ l within. same_chain (next_on ks l) (next_on (ks ++ k ∷ []) l) (head_in n heads l)
        (λ d. elim (same_or_other d k.place) [
          | inl same ↦ subst (λ r. next_on (ks ++ k ∷ []) l r ≡ next_on ks l r) (sym same.1)
              (ap (λ (x : Stored). next_in x l)
              (push_same ks k fresh) ∙ (none_of k.lits lt l ∙ sym (was_none l)))
          | inr other ↦ ap (λ (x : Stored). next_in x l) (push_other ks k d other.1)
        ]) (h.chains l within);
  }
    where
      none_of : (lits : Clause) → length lits < 2 → (l : Lit) →
          next_by lits l k.link0 k.link1 ≡ None
      none_of [] lt l = refl
      none_of (a ∷ []) lt l = refl
      none_of (a ∷ b ∷ ls) lt l = absurd (omega arith)

  -- a longer one comes first in the chains of its first two literals
  pub long_attached : (a b : Lit) (ls : Clause) → k.lits ≡ a ∷ b ∷ ls →
      k.link0 ≡ head_in n heads a → k.link1 ≡ head_in n heads b →
      IsChained n (ks ++ k ∷ [])
      (set (set heads (place_of n a) (Some k.place)) (place_of n b) (Some k.place))
  long_attached a b ls is to_a to_b =
      let simple' : IsSimple n (a ∷ b ∷ ls) = subst (IsSimple n) is simple in
      let ab = apart_first n a b ls simple' in
      let wa : IsWithin n a = simple'.within 0 a (omega arith) in
      let wb : IsWithin n b = simple'.within 1 a (omega arith) in
      let own_a = own_next n (a ∷ b ∷ ls) 0 a k.link0 k.link1 simple' (omega arith) refl in
      let own_b = own_next n (a ∷ b ∷ ls) 1 b k.link0 k.link1 simple' (omega arith) refl in
      let many_a : length (set heads (place_of n a) (Some k.place)) ≡ n * 2 + 1 =
      length-set heads (place_of n a) (Some k.place) ∙ h.many in
      record {
        few = h.few;
        many =
            length-set (set heads (place_of n a) (Some k.place)) (place_of n b) (Some k.place) ∙
            many_a;
        placed = now_placed;
        unmarked = unmarked_append ks (k ∷ []) h.unmarked (unmarked, tt);
        simple = now_simple;
        chains = λ l within. elim (lit_tells l b) [
          | inl same ↦ subst (λ x. HasChain (next_on (ks ++ k ∷ []) x)
              (head_in n (set (set heads (place_of n a) (Some k.place)) (place_of n b)
              (Some k.place)) x))
              (sym same.1)
              (rw (head_set_same n (set heads (place_of n a) (Some k.place)) b (Some k.place) many_a
              wb)
              (put_first (next_on ks b) (next_on (ks ++ k ∷ []) b) (head_in n heads b) k.place
              (h.chains b wb) (puts b (head_in n heads b) (by_lits b ∙ (own_b ∙ ap Some to_b)))))
          | inr lb ↦ elim (lit_tells l a) [
            | inl same ↦ subst (λ x. HasChain (next_on (ks ++ k ∷ []) x)
                (head_in n (set (set heads (place_of n a) (Some k.place)) (place_of n b)
                (Some k.place)) x))
                (sym same.1)
                (rw (head_set_other n (set heads (place_of n a) (Some k.place)) a b (Some k.place)
                wa wb ab ∙ head_set_same n heads a (Some k.place) h.many wa)
                (put_first (next_on ks a) (next_on (ks ++ k ∷ []) a) (head_in n heads a) k.place
                (h.chains a wa) (puts a (head_in n heads a) (by_lits a ∙ (own_a ∙ ap Some to_a)))))
            | inr la ↦ rw (head_set_other n (set heads (place_of n a) (Some k.place)) l b
                (Some k.place) within wb lb.1 ∙ head_set_other n heads l a (Some k.place) within wa
                la.1)
                (same_chain (next_on ks l) (next_on (ks ++ k ∷ []) l) (head_in n heads l)
                (others l (λ e. la.1 (sym e)) (λ e. lb.1 (sym e))) (h.chains l within))
          ]
        ];
      }
    where
      by_lits : (l : Lit) → next_in k l ≡ next_by (a ∷ b ∷ ls) l k.link0 k.link1
      by_lits l = ap (λ x. next_by x l k.link0 k.link1) is

      puts : (l : Lit) (head : Option ClauseRef) → next_in k l ≡ Some head →
          PutsFirst (next_on ks l) (next_on (ks ++ k ∷ []) l) k.place head
      puts l head goes = record {
        fresh = was_none l;
        first = ap (λ (x : Stored). next_in x l) (push_same ks k fresh) ∙ goes;
        same = λ d ne. ap (λ (x : Stored). next_in x l) (push_other ks k d ne);
      }

      others : (l : Lit) → a ≢ l → b ≢ l → (d : ClauseRef) →
          next_on (ks ++ k ∷ []) l d ≡ next_on ks l d
      others l na nb d = elim (same_or_other d k.place) [
        | inl same ↦ subst (λ r. next_on (ks ++ k ∷ []) l r ≡ next_on ks l r) (sym same.1)
            (ap (λ (x : Stored). next_in x l)
            (push_same ks k fresh) ∙
            (by_lits l ∙ (no_next a b ls l k.link0 k.link1 na nb ∙ sym (was_none l))))
        | inr other ↦ ap (λ (x : Stored). next_in x l) (push_other ks k d other.1)
      ]

-- a change of one clause among others
changed_absent : (f : Stored → Stored) (c : ClauseRef) (ks : List Stored) → is_held ks c ≡ false →
    changed f c ks ≡ ks
changed_absent f c [] out = refl
changed_absent f c (k ∷ ks) out = elim (same_or_other k.place c) [
  | inl same ↦ (let clash : true ≡ false = rw same.0 at out in cc)
  | inr other ↦ rw other.0 (ap (λ l. k ∷ l) (changed_absent f c ks (rw other.0 at out)))
]

pub changed_behind : (f : Stored → Stored) (ks : List Stored) (k : Stored) (more : List Stored) →
    is_held ks k.place ≡ false → is_held more k.place ≡ false →
    changed f k.place (ks ++ k ∷ more) ≡ ks ++ f k ∷ more
changed_behind f [] k more out later = elim (same_or_other k.place k.place) [
  | inl same ↦ rw same.0 (ap (λ l. f k ∷ l) (changed_absent f k.place more later))
  | inr other ↦ absurd (other.1 refl)
]
changed_behind f (x ∷ ks) k more out later = elim (same_or_other x.place k.place) [
  | inl same ↦ (let clash : true ≡ false = rw same.0 at out in cc)
  | inr other ↦ rw other.0
      (ap (λ l. x ∷ l) (changed_behind f ks k more (rw other.0 at out) later))
]

pub last_pushed : (ks all : List Stored) (k : Stored) (c : ClauseRef) → ArePlaced 0 ks →
    k.place ≡ ref (size_all ks) → c ≡ ref (size_all ks) → all ≡ ks ++ k ∷ [] → IsLast ks all k c
last_pushed ks all k c placed at here is = record {
  is = is;
  place = at ∙ sym here;
  fresh = absent 0 ks c placed (let w = ap (λ (r : ClauseRef). r.word) here in omega arith);
}

pub last_held : (ks all : List Stored) (k : Stored) (c : ClauseRef) → IsLast ks all k c →
    is_held all c ≡ true
last_held ks all k c h = subst (λ r. is_held all r ≡ true) h.place (rw h.is (push_held ks k))

pub last_stored : (ks all : List Stored) (k : Stored) (c : ClauseRef) → IsLast ks all k c →
    stored_at all c ≡ k
last_stored ks all k c h =
    subst (λ r. stored_at all r ≡ k) h.place
    (rw h.is (push_same ks k (subst (λ r. is_held ks r ≡ false) (sym h.place) h.fresh)))

pub last_changed : (f : Stored → Stored) (ks all new : List Stored) (k : Stored) (c : ClauseRef) →
    ((x : Stored) → (f x).place ≡ x.place) → IsLast ks all k c → new ≡ changed f c all →
    IsLast ks new (f k) c
last_changed f ks all new k c stays h is = record {
  is =
      is ∙ ((λ x. changed f (sym h.place x) (h.is x)) ∙ changed_behind f ks k []
      (subst (λ r. is_held ks r ≡ false) (sym h.place) h.fresh) refl);
  place = stays k ∙ h.place;
  fresh = h.fresh;
}

-- with its links set and in front of its two chains, the last clause leaves the chains whole
module _ (n : ℕ) (ks all new : List Stored) (heads now : List (Option ClauseRef)) (k : Stored)
    (c : ClauseRef) (h : IsChained n ks heads) (simple : IsSimple n k.lits)
    (unmarked : k.mark ≡ false)
    (two : 2 ≤ length k.lits) (last : IsLast ks all k c) (place : c ≡ ref (size_all ks))
    (links : new ≡ changed (with_link 1 (head_in n heads (lit_at k.lits 1))) c
    (changed (with_link 0 (head_in n heads (lit_at k.lits 0))) c all))
    (fronts : now ≡ set (set heads (place_of n (lit_at k.lits 0)) (Some c))
    (place_of n (lit_at k.lits 1)) (Some c)) where
  abbrev pub linked_clause : Stored
  linked_clause =
      with_link 1 (head_in n heads (lit_at k.lits 1))
      (with_link 0 (head_in n heads (lit_at k.lits 0)) k)

  pub last_linked : IsLast ks new linked_clause c
  last_linked =
      last_changed (with_link 1 (head_in n heads (lit_at k.lits 1))) ks
      (changed (with_link 0 (head_in n heads (lit_at k.lits 0))) c all) new
      (with_link 0 (head_in n heads (lit_at k.lits 0)) k) c (λ x. refl)
      (last_changed (with_link 0 (head_in n heads (lit_at k.lits 0))) ks all
      (changed (with_link 0 (head_in n heads (lit_at k.lits 0))) c all) k c (λ x. refl) last refl)
      links

  pub linked_chained : IsChained n new now
  linked_chained = by_lits k.lits refl two where
    by_lits : (lits : Clause) → k.lits ≡ lits → 2 ≤ length lits → IsChained n new now
    by_lits [] e le = absurd (omega arith)
    by_lits (a ∷ []) e le = absurd (omega arith)
    by_lits (a ∷ b ∷ ls) e le =
        let first : lit_at k.lits 0 ≡ a = ap (λ l. lit_at l 0) e in
        let second : lit_at k.lits 1 ≡ b = ap (λ l. lit_at l 1) e in
        let at : linked_clause.place ≡ ref (size_all ks) = last_linked.place ∙ place in
        let whole = long_attached n ks heads linked_clause h simple unmarked at a b ls e
        (ap (head_in n heads) first) (ap (head_in n heads) second) in
        let heads_are : now ≡ set (set heads (place_of n a) (Some linked_clause.place))
        (place_of n b) (Some linked_clause.place) =
        fronts ∙ (λ x. set (set heads (place_of n (first x)) (Some (sym last_linked.place x)))
        (place_of n (second x)) (Some (sym last_linked.place x))) in
        subst (λ (p : List Stored × List (Option ClauseRef)). IsChained n p.0 p.1)
        (λ x. (sym last_linked.is x, sym heads_are x)) whole

-- a clause was put behind the others, with its literals in order
pub record IsPutLast (n : ℕ) (ks all : List Stored) (heads : List (Option ClauseRef))
    (lits : Clause) (id i j : ℕ) (c : ClauseRef) : Type 0 where
  pub chained : IsChained n ks heads
  pub simple : IsSimple n lits
  pub i_in : i < length lits
  pub j_in : j < length lits
  pub two : 2 ≤ length lits
  pub last : IsLast ks all (with_order i j (new_clause (ref (size_all ks)) id lits)) c
  pub place : c ≡ ref (size_all ks)

-- what is known then
module _ {n : ℕ} {ks all : List Stored} {heads : List (Option ClauseRef)} {lits : Clause}
    {id i j : ℕ} {c : ClauseRef} (put : IsPutLast n ks all heads lits id i j c) where
  abbrev pub ordered : Stored
  ordered = with_order i j (new_clause (ref (size_all ks)) id lits)

  stored : stored_at all c ≡ ordered
  stored = last_stored ks all ordered c put.last

  once : length (swap lits 0 i) ≡ length lits
  once = length_swap lits 0 i

  simple_ordered : IsSimple n ordered.lits
  simple_ordered =
      let two = put.two in
      simple_swap n (swap lits 0 i) 1 j (rw once (omega arith)) (rw once put.j_in)
      (simple_swap n lits 0 i (omega arith) put.i_in put.simple)

  long : 2 ≤ length ordered.lits
  long = let twice = length_swap (swap lits 0 i) 1 j in omega (arith, once, twice, put.two)

  pub ordered_held : is_held all c ≡ true
  ordered_held = last_held ks all ordered c put.last

  pub ordered_two : 2 ≤ length (stored_at all c).lits
  ordered_two = rw stored long

  pub ordered_head : (k : ℕ) → k < 2 → HasHead n all heads c k
  ordered_head k lt =
      let within : IsWithin n (lit_at ordered.lits k) =
      simple_ordered.within k (lit (pos 0)) (omega (arith, long)) in
      record {
        within = subst (λ (x : Stored). IsWithin n (lit_at x.lits k)) (sym stored) within;
        held = λ d e. subst (λ l. is_held l d ≡ true) (sym put.last.is)
            (held_push ks ordered d
            (head_held n ks heads (lit_at ordered.lits k) d put.chained within
            (ap (λ (x : Stored). head_in n heads (lit_at x.lits k)) (sym stored) ∙ e)));
      }

  module _ (new : List Stored) (now : List (Option ClauseRef))
      (links : new ≡ changed (with_link 1 (head_at n all heads c 1)) c
      (changed (with_link 0 (head_at n all heads c 0)) c all))
      (fronts : now ≡ with_head n all (with_head n all heads c 0) c 1) where
    links_are : new ≡ changed (with_link 1 (head_in n heads (lit_at ordered.lits 1))) c
        (changed (with_link 0 (head_in n heads (lit_at ordered.lits 0))) c all)
    links_are =
        links ∙ (λ x. changed (with_link 1 (head_in n heads (lit_at (stored x).lits 1))) c
        (changed (with_link 0 (head_in n heads (lit_at (stored x).lits 0))) c all))

    fronts_are : now ≡ set (set heads (place_of n (lit_at ordered.lits 0)) (Some c))
        (place_of n (lit_at ordered.lits 1)) (Some c)
    fronts_are =
        fronts ∙ (λ x. set (set heads (place_of n (lit_at (stored x).lits 0)) (Some c))
        (place_of n (lit_at (stored x).lits 1)) (Some c))

    pub ordered_chained : IsChained n new now
    ordered_chained =
        linked_chained n ks all new heads now ordered c put.chained simple_ordered refl long
        put.last put.place links_are fronts_are

    pub ordered_added : (spare spare' : ℕ) →
        IsAdded (record { vars = n; clauses = ks; spare = spare; heads = heads })
        (record { vars = n; clauses = new; spare = spare'; heads = now })
        (swap (swap lits 0 i) 1 j) id c
    ordered_added spare spare' = record {
      clause =
          linked_clause n ks all new heads now ordered c put.chained simple_ordered refl long
          put.last put.place links_are fronts_are;
      last =
          last_linked n ks all new heads now ordered c put.chained simple_ordered refl long
          put.last put.place links_are fronts_are;
      place = put.place;
      lits = refl;
      is_id = refl;
      vars = refl;
    }
