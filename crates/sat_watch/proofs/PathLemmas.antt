-- Chains with a place in them, over any function that says where a chain goes on.
use Rattle.std.proofs.Common.{◌≡◌, ◌≢◌, Bool, true, false, ◌⊎◌, inl, inr, List, [], ◌∷◌, ◌++◌, Option, None, Some, refl, sym, ap, ◌∙◌, subst, append_assoc}
use Rattle.std.proofs.lemmas.Bool.{both_ways}
use Rattle.sat_arena.specs.declared.clause_ref.ClauseRef.{ClauseRef}
use Rattle.sat_arena.proofs.StoreLaws.{same_or_other}
use Rattle.sat_watch.specs.Chains.{GoesOn, Next, IsPath, is_in, AreOnce, last_or, HasCursor, IsCursor, HasChain}
use Rattle.sat_watch.proofs.TrailLemmas.{never}

pub in_here : (c : ClauseRef) (ds : List ClauseRef) → is_in (c ∷ ds) c ≡ true
in_here c ds = elim (same_or_other c c) [
  | inl same ↦ rw same.0 refl
  | inr other ↦ absurd (other.1 refl)
]

pub in_more : (c d : ClauseRef) (ds : List ClauseRef) → is_in ds c ≡ true → is_in (d ∷ ds) c ≡ true
in_more c d ds is = elim (same_or_other d c) [
  | inl same ↦ rw same.0 refl
  | inr other ↦ rw other.0 is
]

pub in_cases : (c d : ClauseRef) (ds : List ClauseRef) → is_in (d ∷ ds) c ≡ true →
    (d ≡ c) ⊎ (is_in ds c ≡ true)
in_cases c d ds is = elim (same_or_other d c) [
  | inl same ↦ inl same.1
  | inr other ↦ inr (rw other.0 at is)
]

pub not_in_more : (c d : ClauseRef) (ds : List ClauseRef) → d ≢ c → is_in ds c ≡ false →
    is_in (d ∷ ds) c ≡ false
not_in_more c d ds ne out = elim (same_or_other d c) [
  | inl same ↦ absurd (ne same.1)
  | inr other ↦ rw other.0 out
]

pub not_in_cases : (c d : ClauseRef) (ds : List ClauseRef) → is_in (d ∷ ds) c ≡ false →
    (d ≢ c) × (is_in ds c ≡ false)
not_in_cases c d ds out = elim (same_or_other d c) [
  | inl same ↦ absurd (both_ways true (rw same.0 at out) refl)
  | inr other ↦ (other.1, rw other.0 at out)
]

pub in_front : (c : ClauseRef) (xs ys : List ClauseRef) → is_in xs c ≡ true →
    is_in (xs ++ ys) c ≡ true
in_front c [] ys is = cc
in_front c (x ∷ xs) ys is = elim (in_cases c x xs is) [
  | inl same ↦ subst (λ d. is_in (x ∷ (xs ++ ys)) d ≡ true) same (in_here x (xs ++ ys))
  | inr later ↦ in_more c x (xs ++ ys) (in_front c xs ys later)
]

pub in_back : (c : ClauseRef) (xs ys : List ClauseRef) → is_in ys c ≡ true →
    is_in (xs ++ ys) c ≡ true
in_back c [] ys is = is
in_back c (x ∷ xs) ys is = in_more c x (xs ++ ys) (in_back c xs ys is)

pub in_both : (c : ClauseRef) (xs ys : List ClauseRef) → is_in (xs ++ ys) c ≡ true →
    (is_in xs c ≡ true) ⊎ (is_in ys c ≡ true)
in_both c [] ys is = inr is
in_both c (x ∷ xs) ys is = elim (in_cases c x (xs ++ ys) is) [
  | inl same ↦ inl (subst (λ d. is_in (x ∷ xs) d ≡ true) same (in_here x xs))
  | inr later ↦ elim (in_both c xs ys later) [
    | inl front ↦ inl (in_more c x xs front)
    | inr back ↦ inr back
  ]
]

not_in_front : (c : ClauseRef) (xs ys : List ClauseRef) → is_in (xs ++ ys) c ≡ false →
    is_in xs c ≡ false
not_in_front c [] ys out = refl
not_in_front c (x ∷ xs) ys out =
    let parts = not_in_cases c x (xs ++ ys) out in
    not_in_more c x xs parts.0 (not_in_front c xs ys parts.1)

not_in_back : (c : ClauseRef) (xs ys : List ClauseRef) → is_in (xs ++ ys) c ≡ false →
    is_in ys c ≡ false
not_in_back c [] ys out = out
not_in_back c (x ∷ xs) ys out = not_in_back c xs ys (not_in_cases c x (xs ++ ys) out).1

not_in_both : (c : ClauseRef) (xs ys : List ClauseRef) → is_in xs c ≡ false → is_in ys c ≡ false →
    is_in (xs ++ ys) c ≡ false
not_in_both c [] ys out out' = out'
not_in_both c (x ∷ xs) ys out out' =
    let parts = not_in_cases c x xs out in
    not_in_more c x (xs ++ ys) parts.0 (not_in_both c xs ys parts.1 out')

-- what is taken out of the middle stands neither before nor behind, and the others stay once
once_without : (xs : List ClauseRef) (c : ClauseRef) (ys : List ClauseRef) →
    AreOnce (xs ++ c ∷ ys) → AreOnce (xs ++ ys)
once_without [] c ys once = once.1
once_without (x ∷ xs) c ys once = (
  not_in_both x xs ys (not_in_front x xs (c ∷ ys) once.0)
      (not_in_cases x c ys (not_in_back x xs (c ∷ ys) once.0)).1,
  once_without xs c ys once.1,
)

once_behind : (xs : List ClauseRef) (c : ClauseRef) (ys : List ClauseRef) → AreOnce (xs ++ c ∷ ys) →
    is_in ys c ≡ false
once_behind [] c ys once = once.0
once_behind (x ∷ xs) c ys once = once_behind xs c ys once.1

pub once_before : (xs : List ClauseRef) (c : ClauseRef) (ys : List ClauseRef) →
    AreOnce (xs ++ c ∷ ys) → is_in xs c ≡ false
once_before [] c ys once = refl
once_before (x ∷ xs) c ys once =
    not_in_more c x xs (not_sym (not_in_cases x c ys (not_in_back x xs (c ∷ ys) once.0)).0)
    (once_before xs c ys once.1)
  where
    not_sym : {a b : ClauseRef} → a ≢ b → b ≢ a
    not_sym ne e = ne (sym e)

in_without : (xs : List ClauseRef) (c d : ClauseRef) (ys : List ClauseRef) → d ≢ c →
    is_in (xs ++ c ∷ ys) d ≡ true → is_in (xs ++ ys) d ≡ true
in_without xs c d ys ne is = elim (in_both d xs (c ∷ ys) is) [
  | inl front ↦ in_front d xs ys front
  | inr back ↦ elim (in_cases d c ys back) [
    | inl same ↦ absurd (ne (sym same))
    | inr later ↦ in_back d xs ys later
  ]
]

-- where two functions agree on its clauses, a path of one is one of the other
pub path_same : (n n' : Next) (from : Option ClauseRef) (cs : List ClauseRef)
    (to : Option ClauseRef) →
    ((d : ClauseRef) → is_in cs d ≡ true → n' d ≡ n d) → IsPath n from cs to → IsPath n' from cs to
path_same n n' from [] to same path = path
path_same n n' from (c ∷ cs) to same path = (
  path.0,
  (
    path.1.0,
    same c (in_here c cs) ∙ path.1.1,
    path_same n n' path.1.0 cs to (λ d is. same d (in_more d c cs is)) path.1.2,
  ),
)

pub path_append : (n : Next) (from mid to : Option ClauseRef) (xs ys : List ClauseRef) →
    IsPath n from xs mid → IsPath n mid ys to → IsPath n from (xs ++ ys) to
path_append n from mid to [] ys front back =
    subst (λ (o : Option ClauseRef). IsPath n o ys to) (sym front) back
path_append n from mid to (x ∷ xs) ys front back =
    (front.0, (front.1.0, front.1.1, path_append n front.1.0 mid to xs ys front.1.2 back))

-- each clause of a path goes on
pub path_goes_on : (n : Next) (from to : Option ClauseRef) (cs : List ClauseRef) (d : ClauseRef) →
    IsPath n from cs to → is_in cs d ≡ true →
    (after : Option ClauseRef) × (n d ≡ Some after)
path_goes_on n from to [] d path is = absurd (never false is refl)
path_goes_on n from to (c ∷ cs) d path is = elim (in_cases d c cs is) [
  | inl same ↦ (path.1.0, ap n (sym same) ∙ path.1.1)
  | inr later ↦ path_goes_on n path.1.0 to cs d path.1.2 later
]

last_push : (d : Option ClauseRef) (xs : List ClauseRef) (c : ClauseRef) →
    last_or d (xs ++ c ∷ []) ≡ Some c
last_push d [] c = refl
last_push d (x ∷ xs) c = last_push (Some x) xs c

-- the place moves on by one clause, which is kept
pub advance : (n : Next) (head : Option ClauseRef) (kept rest : List ClauseRef) (c : ClauseRef)
    (before after : Option ClauseRef) →
    IsCursor n head kept (c ∷ rest) before (Some c) → n c ≡ Some after →
    IsCursor n head (kept ++ c ∷ []) rest (Some c) after
advance n head kept rest c before after h goes =
    let back = h.back in
    let same : back.1.0 ≡ after = cc in
    let join : (kept ++ c ∷ []) ++ rest ≡ kept ++ c ∷ rest = append_assoc kept (c ∷ []) rest in
    record {
      front = path_append n head (Some c) after kept (c ∷ []) h.front (refl, (after, goes, refl));
      back = subst (λ (o : Option ClauseRef). IsPath n o rest None) same back.1.2;
      last = last_push None kept c;
      once = subst AreOnce (sym join) h.once;
      whole = λ d a is. subst (λ l. is_in l d ≡ true) (sym join) (h.whole d a is);
    }

-- which clause a place is at
pub at_first : (n : Next) (head : Option ClauseRef) (kept rest : List ClauseRef)
    (before : Option ClauseRef) (c : ClauseRef) →
    IsCursor n head kept rest before (Some c) → (others : List ClauseRef) × (rest ≡ c ∷ others)
at_first n head kept [] before c h = let none : Some c ≡ None = h.back in cc
at_first n head kept (d ∷ ds) before c h =
    let back = h.back in (ds, let same : Some c ≡ Some d = back.0 in cc)

-- at its end the chain has no rest
pub at_end : (n : Next) (head : Option ClauseRef) (kept rest : List ClauseRef)
    (before : Option ClauseRef) →
    IsCursor n head kept rest before None → rest ≡ []
at_end n head kept [] before h = refl
at_end n head kept (d ∷ ds) before h = let back = h.back in let clash : None ≡ Some d = back.0 in cc

-- a chain with a place is a chain
pub whole_chain : (n : Next) (head : Option ClauseRef) (kept rest : List ClauseRef)
    (before at : Option ClauseRef) →
    IsCursor n head kept rest before at → HasChain n head
whole_chain n head kept rest before at h = record {
  refs = kept ++ rest;
  is = record {
    front = refl;
    back = path_append n head at None kept rest h.front h.back;
    last = refl;
    once = h.once;
    whole = h.whole;
  };
}

-- the head of a chain whose place was taken out
abbrev pub head_behind : (before head after : Option ClauseRef) → Option ClauseRef
head_behind None head after = after
head_behind (Some p) head after = head

-- what becomes of the chain's function where the clause at its place is taken out
pub record TakesOut (n n' : Next) (c : ClauseRef) (before after : Option ClauseRef) : Type 0 where
  pub gone : n' c ≡ None
  pub relinked : (p : ClauseRef) → before ≡ Some p → n' p ≡ Some after
  pub same : (d : ClauseRef) → d ≢ c → before ≢ Some d → n' d ≡ n d

relink : (n n' : Next) (c p : ClauseRef) (from after : Option ClauseRef) (x : ClauseRef)
    (xs : List ClauseRef) →
    IsPath n from (x ∷ xs) (Some c) → last_or (Some x) xs ≡ Some p → is_in (x ∷ xs) c ≡ false →
    AreOnce (x ∷ xs) →
    n' p ≡ Some after → ((d : ClauseRef) → d ≢ c → d ≢ p → n' d ≡ n d) →
    IsPath n' from (x ∷ xs) after
relink n n' c p from after x [] path last out once goes same =
    let is : x ≡ p = cc in (path.0, (after, ap n' is ∙ goes, refl))
relink n n' c p from after x (y ∷ ys) path last out once goes same =
    let tail = relink n n' c p path.1.0 after y ys path.1.2 last (not_in_cases c x (y ∷ ys) out).1
    once.1 goes same in (
      path.0,
      (
        path.1.0,
        same x (not_in_cases c x (y ∷ ys) out).0
            (not_last x y ys once.0 last) ∙ path.1.1,
        tail,
      ),
    )
  where
    last_in : (y : ClauseRef) (ys : List ClauseRef) (q : ClauseRef) → last_or (Some y) ys ≡ Some q →
        is_in (y ∷ ys) q ≡ true
    last_in y [] q e = let is : y ≡ q = cc in subst (λ r. is_in (y ∷ []) r ≡ true) is (in_here y [])
    last_in y (z ∷ zs) q e = in_more q y (z ∷ zs) (last_in z zs q e)

    not_last : (x y : ClauseRef) (ys : List ClauseRef) → is_in (y ∷ ys) x ≡ false →
        last_or (Some y) ys ≡ Some p → x ≢ p
    not_last x y ys out e is =
        never (is_in (y ∷ ys) x)
        (subst (λ r. is_in (y ∷ ys) r ≡ true) (sym is) (last_in y ys p e)) out

some_last : (x : ClauseRef) (xs : List ClauseRef) → (p : ClauseRef) × (last_or (Some x) xs ≡ Some p)
some_last x [] = (x, refl)
some_last x (y ∷ ys) = some_last y ys

once_kept : (xs ys : List ClauseRef) → AreOnce (xs ++ ys) → AreOnce xs
once_kept [] ys once = tt
once_kept (x ∷ xs) ys once = (not_in_front x xs ys once.0, once_kept xs ys once.1)

once_apart : (xs ys : List ClauseRef) (d : ClauseRef) → AreOnce (xs ++ ys) → is_in ys d ≡ true →
    is_in xs d ≡ false
once_apart [] ys d once is = refl
once_apart (x ∷ xs) ys d once is = elim (same_or_other x d) [
  | inl same ↦ absurd (never (is_in ys x) (subst (λ r. is_in ys r ≡ true) (sym same.1) is)
      (not_in_back x xs ys once.0))
  | inr other ↦ not_in_more d x xs other.1 (once_apart xs ys d once.1 is)
]

last_in_some : (y : ClauseRef) (ys : List ClauseRef) (q : ClauseRef) →
    last_or (Some y) ys ≡ Some q → is_in (y ∷ ys) q ≡ true
last_in_some y [] q e =
    let is : y ≡ q = cc in subst (λ r. is_in (y ∷ []) r ≡ true) is (in_here y [])
last_in_some y (z ∷ zs) q e = in_more q y (z ∷ zs) (last_in_some z zs q e)

pub last_in_all : (xs : List ClauseRef) (q : ClauseRef) → last_or None xs ≡ Some q →
    is_in xs q ≡ true
last_in_all [] q e = let clash : None ≡ Some q = e in cc
last_in_all (x ∷ xs) q e = last_in_some x xs q e

-- the clause before a place in a chain is in it
pub before_goes_on : (n : Next) (head before at : Option ClauseRef) → HasCursor n head before at →
    (d : ClauseRef) → before ≡ Some d → GoesOn (n d)
before_goes_on n head before at cursor d e =
    let there = last_in_all cursor.kept d (cursor.is.last ∙ e) in
    let goes = path_goes_on n head at cursor.kept d cursor.is.front there in
    subst GoesOn (sym goes.1) tt

last_leads : (n : Next) (from at : Option ClauseRef) (x : ClauseRef) (xs : List ClauseRef)
    (d : ClauseRef) → IsPath n from (x ∷ xs) at → last_or (Some x) xs ≡ Some d → n d ≡ Some at
last_leads n from at x [] d path last =
    let is : x ≡ d = cc in ap n (sym is) ∙ (path.1.1 ∙ ap Some path.1.2)
last_leads n from at x (y ∷ ys) d path last = last_leads n path.1.0 at y ys d path.1.2 last

-- the clause before a place leads to it
pub before_leads : (n : Next) (head : Option ClauseRef) (kept rest : List ClauseRef)
    (before at : Option ClauseRef) (d : ClauseRef) → IsCursor n head kept rest before at →
    before ≡ Some d → n d ≡ Some at
before_leads n head [] rest before at d h e = let clash : None ≡ Some d = h.last ∙ e in cc
before_leads n head (x ∷ xs) rest before at d h e =
    last_leads n head at x xs d h.front (h.last ∙ e)

not_before : (xs : List ClauseRef) (b : Option ClauseRef) (d : ClauseRef) → last_or None xs ≡ b →
    is_in xs d ≡ false → b ≢ Some d
not_before xs b d last out e = never (is_in xs d) (last_in_all xs d (last ∙ e)) out

before_or_not : (b : Option ClauseRef) (d : ClauseRef) → (b ≡ Some d) ⊎ (b ≢ Some d)
before_or_not None d = inr (λ e. cc)
before_or_not (Some p) d = elim (same_or_other p d) [
  | inl same ↦ inl (ap Some same.1)
  | inr other ↦ inr (λ e. other.1 cc)
]

-- the clause at the place is taken out
pub take_out : (n n' : Next) (head : Option ClauseRef) (kept rest : List ClauseRef) (c : ClauseRef)
    (before after : Option ClauseRef) →
    IsCursor n head kept (c ∷ rest) before (Some c) → n c ≡ Some after →
    TakesOut n n' c before after →
    IsCursor n' (head_behind before head after) kept rest before after
take_out n n' head kept rest c before after h goes out =
    let back = h.back in
    let same : back.1.0 ≡ after = cc in
    let behind : is_in rest c ≡ false = once_behind kept c rest h.once in
    record {
      front =
          front_of kept before h.front h.last (once_before kept c rest h.once)
          (once_kept kept (c ∷ rest) h.once) out;
      back = path_same n n' after rest None
          (λ d is. out.same d (λ e. never (is_in rest c)
          (subst (λ r. is_in rest r ≡ true) e is) behind)
          (not_before kept before d h.last
          (once_apart kept rest d (once_without kept c rest h.once) is)))
          (subst (λ (o : Option ClauseRef). IsPath n o rest None) same back.1.2);
      last = h.last;
      once = once_without kept c rest h.once;
      whole = λ d a is.
          elim (same_or_other d c) [
            | inl same ↦ let clash : None ≡ Some a = sym out.gone ∙ (ap n' (sym same.1) ∙ is) in cc
            | inr other ↦ elim (before_or_not before d) [
              | inl b ↦ in_front d kept rest (last_in_all kept d (h.last ∙ b))
              | inr nb ↦ in_without kept c d rest other.1
                  (h.whole d a (sym (out.same d other.1 nb) ∙ is))
            ]
          ];
    }
  where
    front_of : (xs : List ClauseRef) (b : Option ClauseRef) → IsPath n head xs (Some c) →
        last_or None xs ≡ b → is_in xs c ≡ false → AreOnce xs → TakesOut n n' c b after →
        IsPath n' (head_behind b head after) xs after
    front_of [] b path last out_c once t =
        let none : b ≡ None = sym last in
        subst (λ (o : Option ClauseRef). head_behind o head after ≡ after) (sym none) refl
    front_of (x ∷ xs) b path last out_c once t =
        let p = some_last x xs in
        let is : b ≡ Some p.0 = sym last ∙ p.1 in
        subst (λ (o : Option ClauseRef). IsPath n' (head_behind o head after) (x ∷ xs) after)
        (sym is)
        (relink n n' c p.0 head after x xs path p.1 out_c once (t.relinked p.0 is)
        (λ d ne ne'. t.same d ne (λ e. let q : d ≡ p.0 = cc in ne' q)))

-- what becomes of a chain's function where a clause is put in front
pub record PutsFirst (n n' : Next) (c : ClauseRef) (head : Option ClauseRef) : Type 0 where
  pub fresh : n c ≡ None
  pub first : n' c ≡ Some head
  pub same : (d : ClauseRef) → d ≢ c → n' d ≡ n d

pub put_first : (n n' : Next) (head : Option ClauseRef) (c : ClauseRef) → HasChain n head →
    PutsFirst n n' c head → HasChain n' (Some c)
put_first n n' head c h puts =
    let is = h.is in
    let absent : is_in h.refs c ≡ false = absent_of (is_in h.refs c) refl in
    record {
      refs = c ∷ h.refs;
      is = record {
        front = refl;
        back = (
          refl,
          (
            head,
            puts.first,
            path_same n n' head h.refs None
                (λ d there. puts.same d
                (λ e. never (is_in h.refs c) (subst (λ r. is_in h.refs r ≡ true) e there)
                absent)) is.back,
          ),
        );
        last = refl;
        once = (absent, is.once);
        whole = λ d a goes. elim (same_or_other c d) [
          | inl same ↦ subst (λ r. is_in (c ∷ h.refs) r ≡ true) same.1 (in_here c h.refs)
          | inr other ↦ in_more d c h.refs
              (is.whole d a (sym (puts.same d (λ e. other.1 (sym e))) ∙ goes))
        ];
      };
    }
  where
    absent_of : (b : Bool) → is_in h.refs c ≡ b → is_in h.refs c ≡ false
    absent_of false e = e
    absent_of true e =
        let goes = path_goes_on n head None h.refs c h.is.back e in
        let clash : None ≡ Some goes.0 = sym puts.fresh ∙ goes.1 in cc

pub same_cursor : (n n' : Next) (head : Option ClauseRef) (kept rest : List ClauseRef)
    (before at : Option ClauseRef) →
    ((d : ClauseRef) → n' d ≡ n d) → IsCursor n head kept rest before at →
    IsCursor n' head kept rest before at
same_cursor n n' head kept rest before at same h = record {
  front = path_same n n' head kept at (λ d is. same d) h.front;
  back = path_same n n' at rest None (λ d is. same d) h.back;
  last = h.last;
  once = h.once;
  whole = λ d a goes. h.whole d a (sym (same d) ∙ goes);
}

pub same_chain : (n n' : Next) (head : Option ClauseRef) → ((d : ClauseRef) → n' d ≡ n d) →
    HasChain n head → HasChain n' head
same_chain n n' head same h =
    record { refs = h.refs; is = same_cursor n n' head [] h.refs None head same h.is }
