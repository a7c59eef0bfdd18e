-- Clauses that are marked, and clauses that are linked one after another.
use Rattle.std.proofs.Common.{◌≡◌, ◌≢◌, ℕ, suc, pos, ◌+◌, ◌<◌, ◌≤◌, ◌==◌, Bool, true, false, inl, inr, List, [], ◌∷◌, ◌++◌, length, map, take, drop, get_or, set, Option, None, Some, refl, sym, ap, ◌∙◌, subst, arith, append_assoc, length-append}
use Rattle.std.specs.Prelude.{if◌then◌else◌}
use Rattle.std.proofs.lemmas.List.{get_or-map, length-map, length-take-le}
use Rattle.std.proofs.Math.Seq.{split_at, take-append_seam, take-length}
use Rattle.sat_clause.specs.Learned.{IsSimple}
use Rattle.sat_clause.specs.Literal.{Clause, IsWithin, lit}
use Rattle.sat_arena.specs.declared.clause_ref.ClauseRef.{ClauseRef}
use Rattle.sat_arena.specs.declared.moves.Move.{Move}
use Rattle.sat_arena.specs.Store.{ArePlaced, Stored, changed, is_held, ref, size_all, size_of, stored_at, with_link, with_mark}
use Rattle.sat_arena.proofs.StoreLaws.{same_or_other}
use Rattle.sat_watch.specs.Chains.{AreUnmarked, HasHead, IsChained, head_in, is_in, lit_at, literals}
use Rattle.sat_watch.specs.Relinking.{AreRefsOf, AreUnlinked, IsRelinking, heads_with, linked, marked}
use Rattle.sat_watch.specs.TrailStore.{place_of}
use Rattle.sat_watch.specs.Watches.{Attached, attached, is_attached, lits_at}
use Rattle.sat_watch.proofs.AttachLemmas.{absent, changed_behind, found_behind, long_attached, short_attached}
use Rattle.sat_watch.proofs.ChainLemmas.{empty_chained, head_held}
use Rattle.sat_watch.proofs.PathLemmas.{in_back, in_here}
use Rattle.sat_watch.proofs.StoredLemmas.{placed_changed, unmarked_changed}
use Rattle.sat_watch.proofs.WatchesLemmas.{attached_held, attached_lits}

-- marks change neither references nor literals
pub marked_held : (on : Bool) (refs : List ClauseRef) (ks : List Stored) (c : ClauseRef) →
    is_held (marked on refs ks) c ≡ is_held ks c
marked_held on refs [] c = refl
marked_held on refs (k ∷ ks) c = elim (same_or_other k.place c) [
  | inl same ↦ rw same.0 refl
  | inr other ↦ rw other.0 (marked_held on refs ks c)
]

in_push_other : (refs : List ClauseRef) (c d : ClauseRef) → c ≢ d →
    is_in (refs ++ c ∷ []) d ≡ is_in refs d
in_push_other [] c d ne = elim (same_or_other c d) [
  | inl same ↦ absurd (ne same.1)
  | inr other ↦ rw other.0 refl
]
in_push_other (x ∷ refs) c d ne = elim (same_or_other x d) [
  | inl same ↦ rw same.0 refl
  | inr other ↦ rw other.0 (in_push_other refs c d ne)
]

-- one more clause is marked
pub marked_more : (on : Bool) (refs : List ClauseRef) (c : ClauseRef) (ks : List Stored) →
    changed (with_mark on) c (marked on refs ks) ≡ marked on (refs ++ c ∷ []) ks
marked_more on refs c [] = refl
marked_more on refs c (k ∷ ks) = elim (same_or_other k.place c) [
  | inl same ↦
      let here : is_in (refs ++ c ∷ []) k.place ≡ true =
      in_back k.place refs (c ∷ []) (subst (λ r. is_in (c ∷ []) r ≡ true) (sym same.1)
      (in_here c [])) in
      let rest = marked_more on refs c ks in
      rw same.0 (λ x. with_mark (if sym here x then on else k.mark) k ∷ rest x)
  | inr other ↦
      let out = in_push_other refs c k.place (λ e. other.1 (sym e)) in
      let rest = marked_more on refs c ks in
      rw other.0 (λ x. with_mark (if sym out x then on else k.mark) k ∷ rest x)
]

pub marked_none : (on : Bool) (ks : List Stored) → marked on [] ks ≡ ks
marked_none on [] = refl
marked_none on (k ∷ ks) = ap (λ l. k ∷ l) (marked_none on ks)

changed_first : (f : Stored → Stored) (c : ClauseRef) (k : Stored) (ks : List Stored) →
    (k.place.word == c.word) ≡ true → changed f c (k ∷ ks) ≡ f k ∷ changed f c ks
changed_first f c k ks e = rw e refl

-- two changes of one clause are one change
changed_twice : (f g : Stored → Stored) (c : ClauseRef) (ks : List Stored) →
    ((k : Stored) → (g k).place ≡ k.place) →
    changed f c (changed g c ks) ≡ changed (λ k. f (g k)) c ks
changed_twice f g c [] stays = refl
changed_twice f g c (k ∷ ks) stays = elim (same_or_other k.place c) [
  | inl same ↦ rw same.0
      (changed_first f c (g k) (changed g c ks)
      (ap (λ (r : ClauseRef). r.word == c.word) (stays k) ∙ same.0) ∙
      ap (λ l. f (g k) ∷ l) (changed_twice f g c ks stays))
  | inr other ↦ rw (other.0, other.0) (ap (λ l. k ∷ l) (changed_twice f g c ks stays))
]

changed_nothing : (c : ClauseRef) (ks : List Stored) → changed (λ k. k) c ks ≡ ks
changed_nothing c [] = refl
changed_nothing c (k ∷ ks) = elim (same_or_other k.place c) [
  | inl same ↦ rw same.0 (ap (λ l. k ∷ l) (changed_nothing c ks))
  | inr other ↦ rw other.0 (ap (λ l. k ∷ l) (changed_nothing c ks))
]

-- a clause of two or more literals is linked, and a shorter one left
pub linked_long : (n : ℕ) (lits : Clause) (heads : List (Option ClauseRef)) (c : ClauseRef)
    (ks : List Stored) → 2 ≤ length lits →
    changed (with_link 1 (head_in n heads (lit_at lits 1))) c
    (changed (with_link 0 (head_in n heads (lit_at lits 0))) c ks)
    ≡ changed (linked n lits heads) c ks
linked_long n [] heads c ks two = absurd (omega arith)
linked_long n (a ∷ []) heads c ks two = absurd (omega arith)
linked_long n (a ∷ b ∷ ls) heads c ks two =
    changed_twice (with_link 1 (head_in n heads b)) (with_link 0 (head_in n heads a)) c ks
    (λ k. refl)

pub heads_long : (n : ℕ) (lits : Clause) (c : ClauseRef) (heads : List (Option ClauseRef)) →
    2 ≤ length lits →
    set (set heads (place_of n (lit_at lits 0)) (Some c)) (place_of n (lit_at lits 1)) (Some c)
    ≡ heads_with n lits c heads
heads_long n [] c heads two = absurd (omega arith)
heads_long n (a ∷ []) c heads two = absurd (omega arith)
heads_long n (a ∷ b ∷ ls) c heads two = refl

pub linked_short : (n : ℕ) (lits : Clause) (heads : List (Option ClauseRef)) (c : ClauseRef)
    (ks : List Stored) → length lits < 2 → changed (linked n lits heads) c ks ≡ ks
linked_short n [] heads c ks short = changed_nothing c ks
linked_short n (a ∷ []) heads c ks short = changed_nothing c ks
linked_short n (a ∷ b ∷ ls) heads c ks short = absurd (omega arith)

pub heads_short : (n : ℕ) (lits : Clause) (c : ClauseRef) (heads : List (Option ClauseRef)) →
    length lits < 2 → heads_with n lits c heads ≡ heads
heads_short n [] c heads short = refl
heads_short n (a ∷ []) c heads short = refl
heads_short n (a ∷ b ∷ ls) c heads short = absurd (omega arith)

-- linking changes the links alone
linked_same : {A : Type 0} (n : ℕ) (lits : Clause) (heads : List (Option ClauseRef))
    (f : Stored → A) →
    ((k : Stored) (x y : Option ClauseRef) → f (with_link 1 x (with_link 0 y k)) ≡ f k) →
    (k : Stored) → f (linked n lits heads k) ≡ f k
linked_same n [] heads f stays k = refl
linked_same n (a ∷ []) heads f stays k = refl
linked_same n (a ∷ b ∷ ls) heads f stays k = stays k (head_in n heads b) (head_in n heads a)

attached_changed : (f : Stored → Stored) (c : ClauseRef) (ks : List Stored) →
    ((k : Stored) → attached (f k) ≡ attached k) →
    map attached (changed f c ks) ≡ map attached ks
attached_changed f c [] same = refl
attached_changed f c (k ∷ ks) same = elim (same_or_other k.place c) [
  | inl here ↦ rw here.0 (λ x. same k x ∷ attached_changed f c ks same x)
  | inr other ↦ rw other.0 (ap (λ l. attached k ∷ l) (attached_changed f c ks same))
]

-- a clause in the middle
placed_at : (at : ℕ) (ks : List Stored) (k : Stored) (more : List Stored) →
    ArePlaced at (ks ++ k ∷ more) →
    (k.place ≡ ref (at + size_all ks)) × ArePlaced (at + size_all ks + size_of k) more
placed_at at [] k more placed =
    let same : at + 0 ≡ at = omega arith in
    (placed.0 ∙ ap ref (sym same), subst (λ n. ArePlaced (n + size_of k) more) (sym same) placed.1)
placed_at at (x ∷ ks) k more placed =
    let rest = placed_at (at + size_of x) ks k more placed.1 in
    let same : at + size_of x + size_all ks ≡ at + (size_of x + size_all ks) = omega arith in
    (rest.0 ∙ ap ref same, subst (λ n. ArePlaced (n + size_of k) more) same rest.1)

before_absent : (at : ℕ) (ks : List Stored) (c : ClauseRef) → ArePlaced at ks → c.word < at →
    is_held ks c ≡ false
before_absent at [] c placed lt = refl
before_absent at (k ∷ ks) c placed lt = elim (same_or_other k.place c) [
  | inl same ↦ absurd (omega (
    arith,
    ap (λ (r : ClauseRef). r.word) placed.0,
    ap (λ (r : ClauseRef). r.word) same.1,
  ))
  | inr other ↦ rw other.0 (before_absent (at + size_of k) ks c placed.1 (omega arith))
]

pub append_held : (ks more : List Stored) (d : ClauseRef) → is_held ks d ≡ true →
    is_held (ks ++ more) d ≡ true
append_held [] more d held = cc
append_held (k ∷ ks) more d held = elim (same_or_other k.place d) [
  | inl same ↦ rw same.0 refl
  | inr other ↦ rw other.0 (append_held ks more d (rw other.0 at held))
]

held_behind : (ks : List Stored) (k : Stored) (more : List Stored) →
    is_held (ks ++ k ∷ more) k.place ≡ true
held_behind [] k more = elim (same_or_other k.place k.place) [
  | inl same ↦ rw same.0 refl
  | inr other ↦ absurd (other.1 refl)
]
held_behind (x ∷ ks) k more = elim (same_or_other x.place k.place) [
  | inl same ↦ rw same.0 refl
  | inr other ↦ rw other.0 (held_behind ks k more)
]

module _ {n : ℕ} {done : List Stored} {heads : List (Option ClauseRef)} (k : Stored)
    (todo : List Stored) (h : IsChained n done heads)
    (placed : ArePlaced 0 (done ++ k ∷ todo)) (simple : IsSimple n k.lits)
    (unmarked : k.mark ≡ false) where
  place : k.place ≡ ref (size_all done)
  place = (placed_at 0 done k todo placed).0 ∙ ap ref (omega arith)

  fresh : is_held done k.place ≡ false
  fresh =
      absent 0 done k.place h.placed (let at = ap (λ (r : ClauseRef). r.word) place in omega arith)

  later : is_held todo k.place ≡ false
  later =
      before_absent (0 + size_all done + size_of k) todo k.place (placed_at 0 done k todo placed).1
      (let at = ap (λ (r : ClauseRef). r.word) place in omega arith)

  pub middle_stored : stored_at (done ++ k ∷ todo) k.place ≡ k
  middle_stored = found_behind done k todo fresh

  pub middle_changed : (f : Stored → Stored) →
      changed f k.place (done ++ k ∷ todo) ≡ done ++ f k ∷ todo
  middle_changed f = changed_behind f done k todo fresh later

  -- the clauses before have their chains
  pub middle_head : (x : ℕ) → x < 2 → 2 ≤ length k.lits →
      HasHead n (done ++ k ∷ todo) heads k.place x
  middle_head x lt two =
      let within : IsWithin n (lit_at k.lits x) = simple.within x (lit (pos 0)) (omega arith) in
      record {
        within = subst (λ (s : Stored). IsWithin n (lit_at s.lits x)) (sym middle_stored) within;
        held = λ d e. append_held done (k ∷ todo) d
            (head_held n done heads (lit_at k.lits x) d h within
            (ap (λ (s : Stored). head_in n heads (lit_at s.lits x)) (sym middle_stored) ∙ e));
      }

  -- and so has this one once it is linked
  pub middle_chained : IsChained n (done ++ linked n k.lits heads k ∷ [])
      (heads_with n k.lits k.place heads)
  middle_chained = by_lits k.lits refl where
    by_lits : (lits : Clause) → k.lits ≡ lits →
        IsChained n (done ++ linked n lits heads k ∷ []) (heads_with n lits k.place heads)
    by_lits [] e =
        short_attached n done heads k h simple unmarked place (omega (arith, ap length e))
    by_lits (a ∷ []) e =
        short_attached n done heads k h simple unmarked place (omega (arith, ap length e))
    by_lits (a ∷ b ∷ ls) e =
        long_attached n done heads (linked n (a ∷ b ∷ ls) heads k) h simple unmarked place a b ls e
        refl refl

abbrev pub no_clause : Stored
no_clause =
    record {
      place = ref 0;
      id = 0;
      mark = false;
      lits = [];
      link0 = None;
      link1 = None;
    }

-- before the first one, with the next one, and behind the last
pub relinking_begins : (n : ℕ) (base : List Stored) (heads : List (Option ClauseRef)) →
    AreUnlinked n base heads → IsRelinking n base 0 base heads
relinking_begins n base heads u = record {
  same = refl;
  placed = u.placed;
  unmarked = u.unmarked;
  chained = empty_chained n [] heads u.few refl u.empty;
}

module _ {n : ℕ} {base : List Stored} {p : ℕ} {now : List Stored}
    {heads : List (Option ClauseRef)} (u : (c : ClauseRef) → is_held base c ≡ true →
    IsSimple n (stored_at base c).lits) (r : IsRelinking n base p now heads) (lt : p < length now)
  where
    abbrev next : Stored
    next = get_or now p no_clause

    abbrev done : List Stored
    done = take p now

    abbrev todo : List Stored
    todo = drop (suc p) now

    cut : now ≡ done ++ next ∷ todo
    cut = split_at now p no_clause lt

    next_held : is_held now next.place ≡ true
    next_held = subst (λ l. is_held l next.place ≡ true) (sym cut) (held_behind done next todo)

    next_is : stored_at now next.place ≡ next
    next_is =
        subst (λ l. stored_at l next.place ≡ next) (sym cut)
        (found_behind done next todo (absent 0 done next.place r.chained.placed
        (let at = ap (λ (c : ClauseRef). c.word) (placed_at 0 done next todo placed_cut).0 in
        omega arith)))
      where
        placed_cut : ArePlaced 0 (done ++ next ∷ todo)
        placed_cut = subst (ArePlaced 0) cut r.placed

    next_simple : IsSimple n next.lits
    next_simple =
        let held : is_held base next.place ≡ true =
        sym (attached_held base next.place) ∙ (ap (λ l. is_attached l next.place) (sym r.same)
        ∙ (attached_held now next.place ∙ next_held)) in
        let same : (stored_at base next.place).lits ≡ next.lits =
        sym (attached_lits base next.place) ∙ (ap (λ l. lits_at l next.place) (sym r.same)
        ∙ (attached_lits now next.place ∙ ap (λ (k : Stored). k.lits) next_is)) in
        subst (IsSimple n) same (u next.place held)

    next_unmarked : next.mark ≡ false
    next_unmarked = mark_of done (subst AreUnmarked cut r.unmarked) where
      mark_of : (ks : List Stored) → AreUnmarked (ks ++ next ∷ todo) → next.mark ≡ false
      mark_of [] un = un.0
      mark_of (k ∷ ks) un = mark_of ks un.1

    placed_now : ArePlaced 0 (done ++ next ∷ todo)
    placed_now = subst (ArePlaced 0) cut r.placed

    module _ {c : ClauseRef} (at : c ≡ next.place) where
      pub relink_held : is_held now c ≡ true
      relink_held = subst (λ d. is_held now d ≡ true) (sym at) next_held

      lits_are : literals now c ≡ next.lits
      lits_are = ap (λ d. literals now d) at ∙ ap (λ (k : Stored). k.lits) next_is

      pub relink_head : (x : ℕ) → x < 2 → 2 ≤ length (literals now c) → HasHead n now heads c x
      relink_head x lx two =
          subst (λ (y : List Stored × ClauseRef). HasHead n y.0 heads y.1 x)
          (λ i. (sym cut i, sym at i))
          (middle_head next todo r.chained placed_now next_simple next_unmarked x lx
          (subst (λ (l : Clause). 2 ≤ length l) lits_are two))

      -- one more is linked
      pub relinks_on : (new : List Stored) (fronts : List (Option ClauseRef)) →
          new ≡ changed (linked n (literals now c) heads) c now →
          fronts ≡ heads_with n (literals now c) c heads → IsRelinking n base (suc p) new fronts
      relinks_on new fronts is front_is =
          let f = linked n (literals now c) heads in
          let moved : new ≡ done ++ linked n next.lits heads next ∷ todo =
          is ∙ ((λ i. changed (linked n (lits_are i) heads) (at i) (cut i)) ∙
          middle_changed next todo r.chained placed_now next_simple next_unmarked
          (linked n next.lits heads)) in
          let taken : take (suc p) new ≡ done ++ linked n next.lits heads next ∷ [] =
          ap (take (suc p)) moved ∙ taken_is in
          let fronts_are : fronts ≡ heads_with n next.lits next.place heads =
          front_is ∙ (λ i. heads_with n (lits_are i) (at i) heads) in
          record {
            same =
                ap (map attached) is ∙ (attached_changed f c now
                (linked_same n (literals now c) heads attached (λ k x y. refl)) ∙ r.same);
            placed =
                subst (ArePlaced 0) (sym is)
                (placed_changed f c 0 now
                (linked_same n (literals now c) heads (λ k. k.place) (λ k x y. refl))
                (linked_same n (literals now c) heads (λ k. length k.lits) (λ k x y. refl))
                r.placed);
            unmarked =
                subst AreUnmarked (sym is)
                (unmarked_changed f c now
                (linked_same n (literals now c) heads (λ k. k.mark) (λ k x y. refl)) r.unmarked);
            chained =
                subst (λ (y : List Stored × List (Option ClauseRef)). IsChained n y.0 y.1)
                (λ i. (sym taken i, sym fronts_are i))
                (middle_chained next todo r.chained placed_now next_simple next_unmarked);
          }
        where
          long : length done ≡ p
          long = length-take-le p now (omega arith)

          k' : Stored
          k' = linked n next.lits heads next

          taken_is : take (suc p) (done ++ linked n next.lits heads next ∷ todo)
              ≡ done ++ linked n next.lits heads next ∷ []
          taken_is =
              let x = linked n next.lits heads next in
              let size : length (done ++ x ∷ []) ≡ suc p =
              length-append done (x ∷ []) ∙ omega (arith, long) in
              (λ i. take (sym size i) (sym (append_assoc done (x ∷ []) todo) i)) ∙
              take-append_seam (done ++ x ∷ []) todo

module _ {n : ℕ} {base : List Stored} {p : ℕ} {now : List Stored}
    {heads : List (Option ClauseRef)} (r : IsRelinking n base p now heads) where
  pub relinking_ends : p ≡ length now → IsChained n now heads
  relinking_ends end =
      subst (λ l. IsChained n l heads) (ap (λ m. take m now) end ∙ take-length now) r.chained

  pub count_same : length now ≡ length base
  count_same = sym (length-map now attached) ∙ (ap length r.same ∙ length-map base attached)

pub count_of_moves : (base : List Stored) (moves : List Move) → AreRefsOf base moves →
    length moves ≡ length base
count_of_moves base moves refs =
    sym (length-map moves (λ m. m.after)) ∙ (ap length refs ∙ length-map base (λ k. k.place))

-- the pair at the position leads to the next clause
module _ {n : ℕ} {base : List Stored} {p : ℕ} {now : List Stored}
    {heads : List (Option ClauseRef)} (moves : List Move) (d : Move)
    (r : IsRelinking n base p now heads) (refs : AreRefsOf base moves) (lt : p < length moves) where
  pub pair_few : p < length now
  pair_few = omega (arith, lt, count_of_moves base moves refs, count_same r)

  pub pair_leads : (get_or moves p d).after ≡ (get_or now p no_clause).place
  pair_leads =
      let places : map (λ (k : Stored). k.place) now ≡ map (λ (k : Stored). k.place) base =
      sym (places_of now) ∙ (ap (map (λ (a : Attached). a.place)) r.same ∙ places_of base) in
      sym (get_or-map (λ (x : Move). x.after) moves p d (ref 0) lt) ∙
      (ap (λ l. get_or l p (ref 0)) (refs ∙ sym places) ∙
      get_or-map (λ (k : Stored). k.place) now p no_clause (ref 0) pair_few)
    where
      places_of : (ks : List Stored) →
          map (λ (a : Attached). a.place) (map attached ks) ≡ map (λ (k : Stored). k.place) ks
      places_of [] = refl
      places_of (k ∷ ks) = ap (λ l. k.place ∷ l) (places_of ks)
