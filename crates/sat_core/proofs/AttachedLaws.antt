-- Attached clauses by their ids: which is found, one more, and the same ones in other orders.
use Rattle.std.specs.Prelude.{if◌then◌else◌}
use Rattle.std.proofs.Common.{inl, inr, ◌⊎◌, ◌≡◌, ◌≢◌, ◌==◌, ◌<◌, ◌≤◌, ◌+◌, ℕ, Bool, true, false, cond, List, [], ◌∷◌, ◌++◌, length, None, Some, Contains, IsPermutation, refl, sym, ap, ◌∙◌, subst, arith}
use Rattle.std.proofs.lemmas.Bool.{both_ways, eq-eqb, eqb-true, ne_eqb}
use Rattle.std.proofs.lemmas.List.Elements.{All-contains_itself, All-weaker}
use Rattle.std.specs.List.Sorted.{SwapsInRange, apply_swaps}
use Rattle.sat_watch.proofs.WatchLemmas.{length_swap, simple_swap}
use Rattle.std.proofs.lemmas.List.Sorted.{Contains-permutation, IsPermutation-sym}
use Rattle.sat_clause.specs.Learned.{IsSimple, SameLiterals}
use Rattle.sat_clause.specs.Literal.{Clause}
use Rattle.sat_clause.specs.Live.{Live, clause_at}
use Rattle.sat_arena.specs.declared.clause_ref.ClauseRef.{ClauseRef}
use Rattle.sat_watch.specs.Watches.{Attached, AreInPlace, id_at, is_attached, lits_at, words_in}
use Rattle.sat_core.specs.SearchStore.{IsKeeping, live_of}

-- SETS OF LITERALS

pub same_permuted : (c d : Clause) → IsPermutation c d → SameLiterals c d
same_permuted c d moved = (
  All-weaker (Contains c) (Contains d) (λ x has. Contains-permutation c d x moved has) c
      (All-contains_itself c),
  All-weaker (Contains d) (Contains c) (λ x has. Contains-permutation d c x
      (IsPermutation-sym c d moved) has) d (All-contains_itself d),
)

-- REFERENCES

-- one of the clauses from a word on has no earlier reference
pub later_word : (at : ℕ) (ks : List Attached) (c : ClauseRef) → AreInPlace at ks
    → is_attached ks c ≡ true → at ≤ c.word
later_word at [] c stand is = absurd (both_ways false refl is)
later_word at (k ∷ ks) c stand is =
    by (k.place.word == c.word) refl is (later_word (at + (length k.lits + 6)) ks c stand.1)
  where
    by : (b : Bool) → (k.place.word == c.word) ≡ b → (if b then true else is_attached ks c) ≡ true →
        (is_attached ks c ≡ true → at + (length k.lits + 6) ≤ c.word) → at ≤ c.word
    by true same is rest = let one = eqb-true k.place.word c.word same in
        omega (arith, one, stand.0)
    by false other is rest = let later = rest is in omega (arith, later)

-- so it is another one than the first
pub other_word : (at : ℕ) (k : Attached) (ks : List Attached) (c : ClauseRef) →
    AreInPlace at (k ∷ ks) → is_attached ks c ≡ true → (k.place.word == c.word) ≡ false
other_word at k ks c stand is =
    let rest = later_word (at + (length k.lits + 6)) ks c stand.1 is in
    ne_eqb k.place.word c.word (omega (arith, rest, stand.0))

-- nor one behind the last
earlier_word : (at : ℕ) (ks : List Attached) (c : ClauseRef) → AreInPlace at ks
    → is_attached ks c ≡ true → c.word < at + words_in ks
earlier_word at [] c stand is = absurd (both_ways false refl is)
earlier_word at (k ∷ ks) c stand is =
    by (k.place.word == c.word) refl is (earlier_word (at + (length k.lits + 6)) ks c stand.1)
  where
    by : (b : Bool) → (k.place.word == c.word) ≡ b → (if b then true else is_attached ks c) ≡ true →
        (is_attached ks c ≡ true → c.word < at + (length k.lits + 6) + words_in ks)
        → c.word < at + words_in (k ∷ ks)
    by true same is rest = let one = eqb-true k.place.word c.word same in
        omega (arith, one, stand.0)
    by false other is rest = let earlier = rest is in omega (arith, earlier)

-- the first clause by its reference
pub here_attached : (k : Attached) (ks : List Attached) → is_attached (k ∷ ks) k.place ≡ true
here_attached k ks = rw (eq-eqb k.place.word k.place.word refl) refl

here_id : (k : Attached) (ks : List Attached) → id_at (k ∷ ks) k.place ≡ k.id
here_id k ks = rw (eq-eqb k.place.word k.place.word refl) refl

here_lits : (k : Attached) (ks : List Attached) → lits_at (k ∷ ks) k.place ≡ k.lits
here_lits k ks = rw (eq-eqb k.place.word k.place.word refl) refl

-- a later one
pub later_attached : (k : Attached) (ks : List Attached) (c : ClauseRef) → is_attached ks c ≡ true
    → is_attached (k ∷ ks) c ≡ true
later_attached k ks c is = by (k.place.word == c.word)
  where
    by : (b : Bool) → (if b then true else is_attached ks c) ≡ true
    by true = refl
    by false = is

later_id : (at : ℕ) (k : Attached) (ks : List Attached) (c : ClauseRef) → AreInPlace at (k ∷ ks)
    → is_attached ks c ≡ true →
    id_at (k ∷ ks) c ≡ id_at ks c
later_id at k ks c stand is = rw (other_word at k ks c stand is) refl

later_lits : (at : ℕ) (k : Attached) (ks : List Attached) (c : ClauseRef) → AreInPlace at (k ∷ ks)
    → is_attached ks c ≡ true →
    lits_at (k ∷ ks) c ≡ lits_at ks c
later_lits at k ks c stand is = rw (other_word at k ks c stand is) refl

-- BY IDS

-- what has an id is an attached clause
pub origin : (at : ℕ) (ks : List Attached) (id : ℕ) (x : Clause) → AreInPlace at ks
    → clause_at (live_of ks) id ≡ Some x →
    (c : ClauseRef) × (is_attached ks c ≡ true) × (id_at ks c ≡ id) × (lits_at ks c ≡ x)
origin at [] id x stand is = cc
origin at (k ∷ ks) id x stand is =
    by (id == k.id) refl is (origin (at + (length k.lits + 6)) ks id x stand.1)
  where
    by : (b : Bool) → (id == k.id) ≡ b → cond b (Some k.lits) (clause_at (live_of ks) id) ≡ Some x →
        (clause_at (live_of ks) id ≡ Some x → (c : ClauseRef) × (is_attached ks c
        ≡ true) × (id_at ks c ≡ id) × (lits_at ks c ≡ x)) →
        (c : ClauseRef) × (is_attached (k ∷ ks) c ≡ true) × (id_at (k ∷ ks) c
        ≡ id) × (lits_at (k ∷ ks) c ≡ x)
    by true same is deeper =
        let one : k.lits ≡ x = cc in (
          k.place,
          here_attached k ks,
          here_id k ks ∙ sym (eqb-true id k.id same),
          here_lits k ks
              ∙ one,
        )
    by false other is deeper =
        let rest = deeper is in (
          rest.0,
          later_attached k ks rest.0 rest.1,
          later_id at k ks rest.0 stand rest.1 ∙ rest.2,
          later_lits at k ks rest.0 stand rest.1 ∙ rest.3,
        )

-- and an attached clause is found by its id, where ids differ
pub found : (at : ℕ) (ks : List Attached) (c : ClauseRef) → AreInPlace at ks →
    ((d : ClauseRef) → is_attached ks d ≡ true → id_at ks c ≡ id_at ks d → c ≡ d) →
    is_attached ks c ≡ true → clause_at (live_of ks) (id_at ks c) ≡ Some (lits_at ks c)
found at [] c stand ids is = absurd (both_ways false refl is)
found at (k ∷ ks) c stand ids is =
    by (k.place.word == c.word) refl is (λ there. found (at + (length k.lits + 6)) ks c stand.1
    (λ d d_is same.
    ids d (later_attached k ks d d_is) (later_id at k ks c stand there ∙ same
    ∙ sym (later_id at k ks d stand d_is))) there)
  where
    here : (b : Bool) → (id_at ks c == k.id) ≡ b → is_attached ks c ≡ true
        → (k.place.word == c.word) ≡ false →
        clause_at (live_of ks) (id_at ks c) ≡ Some (lits_at ks c) →
        cond b (Some k.lits) (clause_at (live_of ks) (id_at ks c)) ≡ Some (lits_at ks c)
    here true same is other rest =
        let one : id_at (k ∷ ks) c ≡ id_at (k ∷ ks) k.place =
        later_id at k ks c stand is ∙ eqb-true (id_at ks c) k.id same ∙ sym (here_id k ks) in
        let same_ref : c ≡ k.place = ids k.place (here_attached k ks) one in
        absurd (both_ways _ other (eq-eqb k.place.word c.word (ap (λ (r : ClauseRef). r.word)
        (sym same_ref))))
    here false differ is other rest = rest

    by : (b : Bool) → (k.place.word == c.word) ≡ b → (if b then true else is_attached ks c) ≡ true →
        (is_attached ks c ≡ true → clause_at (live_of ks) (id_at ks c) ≡ Some (lits_at ks c)) →
        clause_at (live_of (k ∷ ks)) (id_at (k ∷ ks) c) ≡ Some (lits_at (k ∷ ks) c)
    by true same is rest =
        let id : id_at (k ∷ ks) c ≡ k.id = rw same refl in
        let lits : lits_at (k ∷ ks) c ≡ k.lits = rw same refl in
        let at_k : clause_at (live_of (k ∷ ks)) k.id ≡ Some k.lits =
        rw (eq-eqb k.id k.id refl) refl in
        ap (clause_at (live_of (k ∷ ks))) id ∙ at_k ∙ ap Some (sym lits)
    by false other is rest =
        let id : id_at (k ∷ ks) c ≡ id_at ks c = rw other refl in
        let lits : lits_at (k ∷ ks) c ≡ lits_at ks c = rw other refl in
        ap (clause_at (live_of (k ∷ ks))) id ∙ here (id_at ks c == k.id) refl is other (rest is)
        ∙ ap Some (sym lits)

-- ONE MORE

module _ (ks : List Attached) (k : Attached) where
  -- an earlier one stays as it is
  added_same : (c : ClauseRef) → is_attached ks c ≡ true → (is_attached (ks ++ k ∷ []) c ≡ true)
      × (id_at (ks ++ k ∷ []) c ≡ id_at ks c) × (lits_at (ks ++ k ∷ []) c ≡ lits_at ks c)
  added_same c is = go ks is where
    go : (xs : List Attached) → is_attached xs c ≡ true → (is_attached (xs ++ k ∷ []) c ≡ true)
        × (id_at (xs ++ k ∷ []) c ≡ id_at xs c) × (lits_at (xs ++ k ∷ []) c ≡ lits_at xs c)
    go [] is = absurd (both_ways false refl is)
    go (x ∷ xs) is = by (x.place.word == c.word) is (go xs) where
      by : (b : Bool) → (if b then true else is_attached xs c) ≡ true →
          (is_attached xs c ≡ true → (is_attached (xs ++ k ∷ []) c ≡ true)
          × (id_at (xs ++ k ∷ []) c ≡ id_at xs c) × (lits_at (xs ++ k ∷ []) c ≡ lits_at xs c)) →
          ((if b then true else is_attached (xs ++ k ∷ []) c) ≡ true)
          × ((if b then x.id else id_at (xs ++ k ∷ []) c) ≡ (if b then x.id else id_at xs c))
          × ((if b then x.lits else lits_at (xs ++ k ∷ []) c)
          ≡ (if b then x.lits else lits_at xs c))
      by true is rest = (refl, refl, refl)
      by false is rest = rest is

  pub added_attached : (c : ClauseRef) → is_attached ks c ≡ true
      → is_attached (ks ++ k ∷ []) c ≡ true
  added_attached c is = (added_same c is).0

  pub added_id : (c : ClauseRef) → is_attached ks c ≡ true → id_at (ks ++ k ∷ []) c ≡ id_at ks c
  added_id c is = (added_same c is).1

  pub added_lits : (c : ClauseRef) → is_attached ks c ≡ true
      → lits_at (ks ++ k ∷ []) c ≡ lits_at ks c
  added_lits c is = (added_same c is).2

  -- the last one, where its reference is new
  pub record IsLast : Type 0 where
    pub attached : is_attached (ks ++ k ∷ []) k.place ≡ true
    pub id : id_at (ks ++ k ∷ []) k.place ≡ k.id
    pub lits : lits_at (ks ++ k ∷ []) k.place ≡ k.lits

  pub last_is : is_attached ks k.place ≡ false → IsLast
  last_is new = record { attached = (go ks new).0; id = (go ks new).1; lits = (go ks new).2 }
    where
      go : (xs : List Attached) → is_attached xs k.place ≡ false →
          (is_attached (xs ++ k ∷ []) k.place ≡ true) × (id_at (xs ++ k ∷ []) k.place
          ≡ k.id) × (lits_at (xs ++ k ∷ []) k.place ≡ k.lits)
      go [] new = (here_attached k [], here_id k [], here_lits k [])
      go (x ∷ xs) new = by (x.place.word == k.place.word) new (go xs) where
        by : (b : Bool) → (if b then true else is_attached xs k.place) ≡ false →
            (is_attached xs k.place ≡ false → (is_attached (xs ++ k ∷ []) k.place
            ≡ true) × (id_at (xs ++ k ∷ []) k.place ≡ k.id) × (lits_at (xs ++ k ∷ []) k.place
            ≡ k.lits)) →
            ((if b then true else is_attached (xs ++ k ∷ []) k.place) ≡ true)
            × ((if b then x.id else id_at (xs ++ k ∷ []) k.place)
            ≡ k.id) × ((if b then x.lits else lits_at (xs ++ k ∷ []) k.place) ≡ k.lits)
        by true is rest = absurd (both_ways true is refl)
        by false is rest = rest is

  -- each is the last or an earlier one
  pub added_cases : (c : ClauseRef) → is_attached (ks ++ k ∷ []) c ≡ true
      → (is_attached ks c ≡ true) ⊎ (k.place ≡ c)
  added_cases c is = go ks is where
    go : (xs : List Attached) → is_attached (xs ++ k ∷ []) c ≡ true
        → (is_attached xs c ≡ true) ⊎ (k.place ≡ c)
    go [] is = by (k.place.word == c.word) refl is where
      by : (b : Bool) → (k.place.word == c.word) ≡ b → (if b then true else false) ≡ true
          → (false ≡ true) ⊎ (k.place ≡ c)
      by true same is = inr (ap (λ (n : ℕ). record {
        word =
            n;
      }) (eqb-true k.place.word c.word same))
      by false other is = inl is
    go (x ∷ xs) is = by (x.place.word == c.word) is (go xs) where
      by : (b : Bool) → (if b then true else is_attached (xs ++ k ∷ []) c) ≡ true →
          (is_attached (xs ++ k ∷ []) c ≡ true → (is_attached xs c ≡ true) ⊎ (k.place ≡ c)) →
          ((if b then true else is_attached xs c) ≡ true) ⊎ (k.place ≡ c)
      by true is rest = inl refl
      by false is rest = rest is

added_stand : (at : ℕ) (ks : List Attached) (k : Attached) → AreInPlace at ks
    → k.place.word ≡ at + words_in ks → AreInPlace at (ks ++ k ∷ [])
added_stand at [] k stand is = (omega (arith, is), tt)
added_stand at (x ∷ xs) k stand is =
    (stand.0, added_stand (at + (length x.lits + 6)) xs k stand.1 (omega (arith, is)))

-- a reference behind all is new
pub new_place : (ks : List Attached) (c : ClauseRef) → AreInPlace 0 ks → c.word ≡ words_in ks
    → is_attached ks c ≡ false
new_place ks c stand is = by (is_attached ks c) refl
  where
    by : (b : Bool) → is_attached ks c ≡ b → b ≡ false
    by true there = let below = earlier_word 0 ks c stand there in absurd (omega (arith, below, is))
    by false none = refl

-- one more clause under an id that none has
pub keeping_added : (vars : ℕ) (singles : Live) (ks : List Attached) (k : Attached)
    → IsKeeping vars singles ks → k.place.word ≡ words_in ks →
    IsSimple vars k.lits → (clause_at singles k.id ≡ None → (c : ClauseRef)
    → is_attached ks c ≡ true → id_at ks c ≢ k.id) →
    ((x : Clause) → clause_at singles k.id ≡ Some x → SameLiterals x k.lits)
    → IsKeeping vars singles (ks ++ k ∷ [])
keeping_added vars singles ks k keeps place simple other agree =
    let last = last_is ks k (new_place ks k.place keeps.stand place) in record {
      stand = added_stand 0 ks k keeps.stand (omega (arith, place));
      ids = λ c d c_is d_is alone same. elim (added_cases ks k c c_is) [
        | inl c_old ↦ elim (added_cases ks k d d_is) [
          | inl d_old ↦
              keeps.ids c d c_old d_old (ap (clause_at singles) (sym (added_id ks k c c_old))
              ∙ alone)
              (sym (added_id ks k c c_old) ∙ same ∙ added_id ks k d d_old)
          | inr d_new ↦
              let one : id_at ks c ≡ k.id = sym (added_id ks k c c_old) ∙ same ∙ ap (id_at (ks ++ k
              ∷ [])) (sym d_new) ∙ last.id in
              absurd (other (ap (clause_at singles) (sym one ∙ sym (added_id ks k c c_old))
              ∙ alone) c c_old one)
        ]
        | inr c_new ↦ elim (added_cases ks k d d_is) [
          | inl d_old ↦
              let c_id : id_at (ks ++ k ∷ []) c ≡ k.id =
              ap (id_at (ks ++ k ∷ [])) (sym c_new) ∙ last.id in
              absurd (other (ap (clause_at singles) (sym c_id)
              ∙ alone) d d_old (sym (added_id ks k d d_old) ∙ sym same ∙ c_id))
          | inr d_new ↦ sym c_new ∙ d_new
        ]
      ];
      agree = λ c x c_is at. elim (added_cases ks k c c_is) [
        | inl c_old ↦
            subst (SameLiterals x) (sym (added_lits ks k c c_old))
            (keeps.agree c x c_old (ap (clause_at singles) (sym (added_id ks k c c_old)) ∙ at))
        | inr c_new ↦
            let id : id_at (ks ++ k ∷ []) c ≡ k.id =
            ap (id_at (ks ++ k ∷ [])) (sym c_new) ∙ last.id in
            let lits : lits_at (ks ++ k ∷ []) c ≡ k.lits =
            ap (lits_at (ks ++ k ∷ [])) (sym c_new) ∙ last.lits in
            subst (SameLiterals x) (sym lits) (agree x (ap (clause_at singles) (sym id) ∙ at))
      ];
      simple = λ c c_is. elim (added_cases ks k c c_is) [
        | inl c_old ↦ subst (IsSimple vars) (sym (added_lits ks k c c_old)) (keeps.simple c c_old)
        | inr c_new ↦
            let lits : lits_at (ks ++ k ∷ []) c ≡ k.lits =
            ap (lits_at (ks ++ k ∷ [])) (sym c_new) ∙ last.lits in
            subst (IsSimple vars) (sym lits) simple
      ];
    }

length_swaps : (moves : List (ℕ × ℕ)) (xs : Clause) → length (apply_swaps xs moves) ≡ length xs
length_swaps [] xs = refl
length_swaps ((i, j) ∷ moves) xs = length_swap (apply_swaps xs moves) i j ∙ length_swaps moves xs

simple_swaps : (n : ℕ) (moves : List (ℕ × ℕ)) (xs : Clause) → SwapsInRange (length xs) moves
    → IsSimple n xs → IsSimple n (apply_swaps xs moves)
simple_swaps n [] xs below simple = simple
simple_swaps n ((i, j) ∷ moves) xs below simple =
    let many = length_swaps moves xs in
    simple_swap n (apply_swaps xs moves) i j (omega (arith, below.0, many)) (omega
    (arith, below.1, many)) (simple_swaps n moves xs below.2 simple)

-- in another order no variable stands twice either
pub simple_permuted : (n : ℕ) (c d : Clause) → IsPermutation c d → IsSimple n c → IsSimple n d
simple_permuted n c d moved simple =
    subst (IsSimple n) (sym moved.is) (simple_swaps n moved.moves c moved.below simple)
