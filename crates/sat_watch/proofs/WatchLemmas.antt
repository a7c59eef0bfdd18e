-- Which chains a clause stands in, where its links and its watched literals change.
use Rattle.std.proofs.Common.{◌≡◌, ◌≢◌, ℕ, zero, suc, ◌<◌, ◌≤◌, pos, Bool, true, false, ◌⊎◌, inl, inr, [], ◌∷◌, length, set, get_or, slice_index_or, Option, None, Some, refl, sym, ap, ◌∙◌, subst, arith, length-set}
use Rattle.std.specs.List.{swap}
use Rattle.std.specs.Ordering.{int_eq}
use Rattle.std.proofs.lemmas.Bool.Decides.{eqb_tells}
use Rattle.std.proofs.lemmas.List.{get_or-set_same, get_or-set_other}
use Rattle.std.proofs.lemmas.Bool.Decides.{Decides-int_eq}
use Rattle.std.proofs.lemmas.List.Edits.{swap_is}
use Rattle.sat_clause.specs.declared.literal.Lit.{Lit}
use Rattle.sat_clause.specs.Learned.{IsSimple}
use Rattle.std.specs.Prelude.{IsPermutation}
use Rattle.std.proofs.lemmas.List.Sorted.{Contains-permutation, IsPermutation-swap, IsPermutation-sym}
use Rattle.sat_clause.specs.Literal.{Clause, IsWithin, is_among, lit, variable}
use Rattle.sat_arena.specs.declared.clause_ref.ClauseRef.{ClauseRef}
use Rattle.sat_arena.specs.Store.{Stored, link_of, with_link}
use Rattle.sat_watch.specs.Chains.{lit_at, next_by, next_in, watch_of, with_watch}
use Rattle.sat_clause.proofs.LiteralLaws.{among_contains, contains_among}

-- a literal is another or the same
pub lit_tells : (a b : Lit) →
    ((int_eq a.code b.code ≡ true) × (a ≡ b)) ⊎ ((int_eq a.code b.code ≡ false) × (a ≢ b))
lit_tells a b = of_test (int_eq a.code b.code) refl where
  of_test : (t : Bool) → int_eq a.code b.code ≡ t →
      ((int_eq a.code b.code ≡ true) × (a ≡ b)) ⊎ ((int_eq a.code b.code ≡ false) × (a ≢ b))
  of_test true is = inl (is, ap lit ((Decides-int_eq a.code b.code).0 is))
  of_test false is =
      inr (
        is,
        λ e. let clash : true ≡ false =
            sym ((Decides-int_eq a.code b.code).1 (ap (λ (x : Lit). x.code) e)) ∙ is in cc,
      )

-- the link at a position
abbrev pub pick : ℕ → Option ClauseRef → Option ClauseRef → Option ClauseRef
pick zero x y = x
pick (suc w) x y = y

-- the first two literals of a clause without a repeated variable differ
pub apart_first : (n : ℕ) (a b : Lit) (ls : Clause) → IsSimple n (a ∷ b ∷ ls) → a ≢ b
apart_first n a b ls simple e = simple.once 0 1 a (omega arith) (omega arith) (ap variable e)

-- and each later one is another than these
pub apart_later : (n : ℕ) (a b : Lit) (ls : Clause) (k : ℕ) (d : Lit) → IsSimple n (a ∷ b ∷ ls) →
    k < length ls →
    (a ≢ slice_index_or ls k d) × (b ≢ slice_index_or ls k d)
apart_later n a b ls k d simple lt = (
  λ e. simple.once 0 (suc (suc k)) d (omega arith) (omega arith) (ap variable e),
  λ e. simple.once 1 (suc (suc k)) d (omega arith) (omega arith) (ap variable e),
)

-- the chain of a watched literal goes on by the link at its position
pub own_next : (n : ℕ) (lits : Clause) (w : ℕ) (f : Lit) (x y : Option ClauseRef) →
    IsSimple n lits → w < 2 → watch_of lits w ≡ Some f →
    next_by lits f x y ≡ Some (pick w x y)
own_next n [] w f x y simple lt is = let clash : None ≡ Some f = is in cc
own_next n (a ∷ []) w f x y simple lt is = let clash : None ≡ Some f = is in cc
own_next n (a ∷ b ∷ ls) zero f x y simple lt is = elim (lit_tells a f) [
  | inl same ↦ rw same.0 refl
  | inr other ↦ absurd (other.1 cc)
]
own_next n (a ∷ b ∷ ls) (suc w) f x y simple lt is = elim (lit_tells a f) [
  | inl same ↦ absurd (apart_first n a b ls simple (let e : b ≡ f = cc in same.1 ∙ sym e))
  | inr other ↦ elim (lit_tells b f) [
    | inl same ↦ rw (other.0, same.0) refl
    | inr ne ↦ absurd (ne.1 cc)
  ]
]

-- another literal's chain does not see that link
pub other_next0 : (lits : Clause) (f l : Lit) (x x' y : Option ClauseRef) →
    watch_of lits 0 ≡ Some f → l ≢ f → next_by lits l x' y ≡ next_by lits l x y
other_next0 [] f l x x' y is ne = refl
other_next0 (a ∷ []) f l x x' y is ne = refl
other_next0 (a ∷ b ∷ ls) f l x x' y is ne = elim (lit_tells a l) [
  | inl same ↦ absurd (ne (let e : a ≡ f = cc in sym same.1 ∙ e))
  | inr other ↦ rw other.0 refl
]

pub other_next1 : (lits : Clause) (f l : Lit) (x y y' : Option ClauseRef) →
    watch_of lits 1 ≡ Some f → l ≢ f → next_by lits l x y' ≡ next_by lits l x y
other_next1 [] f l x y y' is ne = refl
other_next1 (a ∷ []) f l x y y' is ne = refl
other_next1 (a ∷ b ∷ ls) f l x y y' is ne = elim (lit_tells a l) [
  | inl same ↦ rw same.0 refl
  | inr other ↦ elim (lit_tells b l) [
    | inl same ↦ absurd (ne (let e : b ≡ f = cc in sym same.1 ∙ e))
    | inr ne' ↦ rw (other.0, ne'.0) refl
  ]
]

-- a literal that is neither of the first two has no chain here
pub no_next : (a b : Lit) (ls : Clause) (l : Lit) (x y : Option ClauseRef) → a ≢ l → b ≢ l →
    next_by (a ∷ b ∷ ls) l x y ≡ None
no_next a b ls l x y na nb = elim (lit_tells a l) [
  | inl same ↦ absurd (na same.1)
  | inr other ↦ elim (lit_tells b l) [
    | inl same ↦ absurd (nb same.1)
    | inr ne ↦ rw (other.0, ne.0) refl
  ]
]

module _ (n : ℕ) (nx : Option ClauseRef) (k : Stored) (f : Lit) (simple : IsSimple n k.lits) where
  -- a clause with another link: its own chain goes on by it, and the others as before
  pub link_own : (w : ℕ) → w < 2 → watch_of k.lits w ≡ Some f →
      next_in (with_link w nx k) f ≡ Some nx
  link_own zero lt is = own_next n k.lits 0 f nx k.link1 simple lt is
  link_own (suc zero) lt is = own_next n k.lits 1 f k.link0 nx simple lt is
  link_own (suc (suc w)) lt is = absurd (omega arith)

  pub link_other : (w : ℕ) (l : Lit) → w < 2 → watch_of k.lits w ≡ Some f → l ≢ f →
      next_in (with_link w nx k) l ≡ next_in k l
  link_other zero l lt is ne = other_next0 k.lits f l k.link0 nx k.link1 is ne
  link_other (suc zero) l lt is ne = other_next1 k.lits f l k.link0 k.link1 nx is ne
  link_other (suc (suc w)) l lt is ne = absurd (omega arith)

  pub goes_on : (w : ℕ) → w < 2 → watch_of k.lits w ≡ Some f → next_in k f ≡ Some (link_of k w)
  goes_on zero lt is = own_next n k.lits 0 f k.link0 k.link1 simple lt is
  goes_on (suc zero) lt is = own_next n k.lits 1 f k.link0 k.link1 simple lt is
  goes_on (suc (suc w)) lt is = absurd (omega arith)

-- what a clause is once its watch moved from f to the literal m
pub record Moves (k k' : Stored) (f m : Lit) (head : Option ClauseRef) : Type 0 where
  pub gone : next_in k' f ≡ None
  pub fresh : next_in k m ≡ None
  pub first : next_in k' m ≡ Some head
  pub same : (l : Lit) → l ≢ f → l ≢ m → next_in k' l ≡ next_in k l
  pub other : f ≢ m

moves0 : (n : ℕ) (a b : Lit) (ls : Clause) (j : ℕ) (head : Option ClauseRef) (f m : Lit)
    (k k' : Stored) → IsSimple n (a ∷ b ∷ ls) → j < length ls →
    a ≡ f → get_or ls j (lit (pos 0)) ≡ m → k.lits ≡ a ∷ b ∷ ls → k'.lits ≡ m ∷ b ∷ set ls j a →
    k'.link0 ≡ head → k'.link1 ≡ k.link1 → Moves k k' f m head
moves0 n a b ls j head f m k k' simple lt af is lk lk' h0 h1 =
    let far = apart_later n a b ls j (lit (pos 0)) simple lt in
    let am : a ≢ m = λ e. far.0 (e ∙ sym is) in
    let bm : b ≢ m = λ e. far.1 (e ∙ sym is) in
    let ab = apart_first n a b ls simple in
    record {
      gone =
          rw lk' (no_next m b (set ls j a) f k'.link0 k'.link1 (λ e. am (af ∙ sym e))
          (λ e. ab (af ∙ sym e)));
      fresh = rw lk (no_next a b ls m k.link0 k.link1 am bm);
      first = rw lk' first_of;
      same = λ l lf lm. rw (lk, lk', h1) (same_of l lf lm);
      other = λ e. am (af ∙ e);
    }
  where
    first_of : next_by (m ∷ b ∷ set ls j a) m k'.link0 k'.link1 ≡ Some head
    first_of = elim (lit_tells m m) [
      | inl same ↦ rw same.0 (ap Some h0)
      | inr ne ↦ absurd (ne.1 refl)
    ]

    same_of : (l : Lit) → l ≢ f → l ≢ m →
        next_by (m ∷ b ∷ set ls j a) l k'.link0 k.link1 ≡ next_by (a ∷ b ∷ ls) l k.link0 k.link1
    same_of l lf lm = elim (lit_tells m l) [
      | inl same ↦ absurd (lm (sym same.1))
      | inr ne ↦ elim (lit_tells a l) [
        | inl same ↦ absurd (lf (sym same.1 ∙ af))
        | inr ne' ↦ rw (ne.0, ne'.0) refl
      ]
    ]

moves1 : (n : ℕ) (a b : Lit) (ls : Clause) (j : ℕ) (head : Option ClauseRef) (f m : Lit)
    (k k' : Stored) → IsSimple n (a ∷ b ∷ ls) → j < length ls →
    b ≡ f → get_or ls j (lit (pos 0)) ≡ m → k.lits ≡ a ∷ b ∷ ls → k'.lits ≡ a ∷ m ∷ set ls j b →
    k'.link1 ≡ head → k'.link0 ≡ k.link0 → Moves k k' f m head
moves1 n a b ls j head f m k k' simple lt bf is lk lk' h1 h0 =
    let far = apart_later n a b ls j (lit (pos 0)) simple lt in
    let am : a ≢ m = λ e. far.0 (e ∙ sym is) in
    let bm : b ≢ m = λ e. far.1 (e ∙ sym is) in
    let ab = apart_first n a b ls simple in
    record {
      gone =
          rw lk' (no_next a m (set ls j b) f k'.link0 k'.link1 (λ e. ab (e ∙ sym bf))
          (λ e. bm (bf ∙ sym e)));
      fresh = rw lk (no_next a b ls m k.link0 k.link1 am bm);
      first = rw lk' (first_of am);
      same = λ l lf lm. rw (lk, lk', h0) (same_of l lf lm);
      other = λ e. bm (bf ∙ e);
    }
  where
    first_of : a ≢ m → next_by (a ∷ m ∷ set ls j b) m k'.link0 k'.link1 ≡ Some head
    first_of am = elim (lit_tells a m) [
      | inl same ↦ absurd (am same.1)
      | inr ne ↦ elim (lit_tells m m) [
        | inl same ↦ rw (ne.0, same.0) (ap Some h1)
        | inr ne' ↦ absurd (ne'.1 refl)
      ]
    ]

    same_of : (l : Lit) → l ≢ f → l ≢ m →
        next_by (a ∷ m ∷ set ls j b) l k.link0 k'.link1 ≡ next_by (a ∷ b ∷ ls) l k.link0 k.link1
    same_of l lf lm = elim (lit_tells a l) [
      | inl same ↦ rw same.0 refl
      | inr ne ↦ elim (lit_tells m l) [
        | inl same ↦ absurd (lm (sym same.1))
        | inr nm ↦ elim (lit_tells b l) [
          | inl same ↦ absurd (lf (sym same.1 ∙ bf))
          | inr nb ↦ rw (ne.0, nm.0, nb.0) refl
        ]
      ]
    ]

-- a clause whose watch at w is moved to the literal at position i
pub moves : (n : ℕ) (k : Stored) (w i : ℕ) (head : Option ClauseRef) (f : Lit) → IsSimple n k.lits →
    w < 2 → 2 ≤ i → i < length k.lits →
    watch_of k.lits w ≡ Some f → Moves k (with_watch w i head k) f (lit_at k.lits i) head
moves n k w i head f simple lw low high is = by_lits k.lits refl w i simple lw low high is where
  by_lits : (lits : Clause) → k.lits ≡ lits → (w i : ℕ) → IsSimple n lits → w < 2 → 2 ≤ i →
      i < length lits →
      watch_of lits w ≡ Some f → Moves k (with_watch w i head k) f (lit_at lits i) head
  by_lits [] e w i simple lw low high is = absurd (omega arith)
  by_lits (a ∷ []) e w i simple lw low high is = absurd (omega arith)
  by_lits (a ∷ b ∷ ls) e w zero simple lw low high is = absurd (omega arith)
  by_lits (a ∷ b ∷ ls) e w (suc zero) simple lw low high is = absurd (omega arith)
  by_lits (a ∷ b ∷ ls) e zero (suc (suc j)) simple lw low high is =
      let af : a ≡ f = cc in
      moves0 n a b ls j head f (get_or ls j (lit (pos 0))) k (with_watch 0 (suc (suc j)) head k)
      simple (omega arith) af (refl {a = get_or ls j (lit (pos 0))}) e
      (ap (λ l. swap l 0 (suc (suc j))) e ∙ sym
      (swap_is (a ∷ b ∷ ls) 0 (suc (suc j)) (lit (pos 0)) (omega arith) (omega arith))) refl refl
  by_lits (a ∷ b ∷ ls) e (suc zero) (suc (suc j)) simple lw low high is =
      let bf : b ≡ f = cc in
      moves1 n a b ls j head f (get_or ls j (lit (pos 0))) k (with_watch 1 (suc (suc j)) head k)
      simple (omega arith) bf (refl {a = get_or ls j (lit (pos 0))}) e
      (ap (λ l. swap l 1 (suc (suc j))) e ∙ sym
      (swap_is (a ∷ b ∷ ls) 1 (suc (suc j)) (lit (pos 0)) (omega arith) (omega arith))) refl refl
  by_lits (a ∷ b ∷ ls) e (suc (suc w)) (suc (suc j)) simple lw low high is = absurd (omega arith)

-- a swap leaves a clause without a repeated variable
pub length_swap : (xs : Clause) (i j : ℕ) → length (swap xs i j) ≡ length xs
length_swap [] i j = refl
length_swap (x ∷ xs) i j =
    length-set (set (x ∷ xs) i (get_or (x ∷ xs) j x)) j (get_or (x ∷ xs) i x) ∙ length-set (x ∷ xs)
    i (get_or (x ∷ xs) j x)

-- where the element at p of a list with i and j swapped stood before
abbrev StoodAt : (i j p u : ℕ) → Type 0
StoodAt i j p u =
    ((p ≡ j) × (u ≡ i)) ⊎ (((p ≢ j) × ((p ≡ i) × (u ≡ j))) ⊎ ((p ≢ j) × ((p ≢ i) × (u ≡ p))))

record Before (xs ys : Clause) (i j p : ℕ) (d : Lit) : Type 0 where
  place : ℕ
  within : place < length xs
  is : get_or ys p d ≡ get_or xs place d
  stood : StoodAt i j p place

swap_at : (xs : Clause) (i j p : ℕ) (d : Lit) → i < length xs → j < length xs → p < length xs →
    Before xs (swap xs i j) i j p d
swap_at xs i j p d li lj lp =
    subst (λ l. Before xs l i j p d) (swap_is xs i j d li lj)
    (elim (eqb_tells p j) [
      | inl same ↦ record {
        place = i;
        within = li;
        stood = inl (same.1, refl {a = i});
        is = ap (λ n. get_or (set (set xs i (get_or xs j d)) j (get_or xs i d)) n d) same.1
            ∙ get_or-set_same (set xs i (get_or xs j d)) j (get_or xs i d) d
            (rw (length-set xs i (get_or xs j d)) lj);
      }
      | inr ne ↦ elim (eqb_tells p i) [
        | inl same ↦ record {
          place = j;
          within = lj;
          stood = inr (inl (ne.1, (same.1, refl {a = j})));
          is = get_or-set_other (set xs i (get_or xs j d)) j p (get_or xs i d) d ne.1
              ∙ (ap (λ n. get_or (set xs i (get_or xs j d)) n d) same.1 ∙ get_or-set_same xs i
              (get_or xs j d) d li);
        }
        | inr ne' ↦ record {
          place = p;
          within = lp;
          stood = inr (inr (ne.1, (ne'.1, refl {a = p})));
          is =
              get_or-set_other (set xs i (get_or xs j d)) j p (get_or xs i d) d
              ne.1 ∙ get_or-set_other xs i p (get_or xs j d) d ne'.1;
        }
      ]
    ])

stood_apart : (i j p q u v : ℕ) → p ≢ q → StoodAt i j p u → StoodAt i j q v → u ≢ v
stood_apart i j p q u v ne s t e = elim s [
  | inl a ↦ elim t [
    | inl b ↦ ne (a.0 ∙ sym b.0)
    | inr b ↦ elim b [
      | inl x ↦ x.0 (x.1.0 ∙ (sym a.1 ∙ (e ∙ x.1.1)))
      | inr x ↦ x.1.0
          (sym x.1.1 ∙ (sym e ∙ a.1))
    ]
  ]
  | inr a ↦ elim a [
    | inl x ↦ elim t [
      | inl b ↦ x.0 (x.1.0 ∙ (sym b.1 ∙ (sym e ∙ x.1.1)))
      | inr b ↦ elim b [
        | inl y ↦ ne (x.1.0 ∙ sym y.1.0)
        | inr y ↦ y.0 (sym y.1.1 ∙ (sym e ∙ x.1.1))
      ]
    ]
    | inr x ↦ elim t [
      | inl b ↦ x.1.0 (sym x.1.1 ∙ (e ∙ b.1))
      | inr b ↦ elim b [
        | inl y ↦ x.0 (sym x.1.1 ∙ (e ∙ y.1.1))
        | inr y ↦ ne
            (sym x.1.1 ∙ (e ∙ y.1.1))
      ]
    ]
  ]
]

-- two different positions of a clause without a repeated variable hold different variables
pub apart_at : (n : ℕ) (xs : Clause) (u v : ℕ) (d : Lit) → IsSimple n xs → u < length xs →
    v < length xs → u ≢ v →
    variable (get_or xs u d) ≢ variable (get_or xs v d)
apart_at n xs u v d simple lu lv ne =
    elim (order u v ne) [
      | inl lt ↦ simple.once u v d lt lv
      | inr gt ↦ λ e. simple.once v u d gt lu
          (sym e)
    ]
  where
    order : (u v : ℕ) → u ≢ v → (u < v) ⊎ (v < u)
    order zero zero ne = absurd (ne refl)
    order zero (suc v) ne = inl (omega arith)
    order (suc u) zero ne = inr (omega arith)
    order (suc u) (suc v) ne =
        elim (order u v (λ e. ne (ap suc e)))
        [ inl lt ↦ inl (omega arith) | inr gt ↦ inr (omega arith) ]

pub simple_swap : (n : ℕ) (xs : Clause) (i j : ℕ) → i < length xs → j < length xs → IsSimple n xs →
    IsSimple n (swap xs i j)
simple_swap n xs i j li lj simple = record {
  within = λ p d lp.
      let here = swap_at xs i j p d li lj (rw (← length_swap xs i j) lp) in
      subst (IsWithin n) (sym here.is) (simple.within here.place d here.within);
  once = λ p q d lt lq e.
      let long : length (swap xs i j) ≡ length xs = length_swap xs i j in
      let a = swap_at xs i j p d li lj (omega arith) in
      let b = swap_at xs i j q d li lj (omega arith) in
      let ne : p ≢ q = λ same. omega (arith, same) in
      apart_at n xs a.place b.place d simple a.within b.within
      (stood_apart i j p q a.place b.place ne a.stood b.stood)
      (ap variable (sym a.is) ∙ (e ∙ ap variable b.is));
}

-- a swap leaves which literals a clause has
pub among_swap : (xs : Clause) (i j : ℕ) (l : Lit) → i < length xs → j < length xs →
    is_among (swap xs i j) l ≡ is_among xs l
among_swap xs i j l li lj = both (is_among (swap xs i j) l) (is_among xs l)
    (λ is. contains_among xs l
    (Contains-permutation (swap xs i j) xs l (IsPermutation-sym xs (swap xs i j) same)
    (among_contains (swap xs i j) l is)))
    (λ is. contains_among (swap xs i j) l
    (Contains-permutation xs (swap xs i j) l same (among_contains xs l is)))
  where
    same : IsPermutation xs (swap xs i j)
    same = IsPermutation-swap xs (swap xs i j) i j li lj refl

    both : (a b : Bool) → (a ≡ true → b ≡ true) → (b ≡ true → a ≡ true) → a ≡ b
    both true b f g = sym (f refl)
    both false true f g = g refl
    both false false f g = refl
