-- Steps of a walk follow each other, and a walk visits few clauses.
use Rattle.std.proofs.Common.{◌≡◌, ◌≢◌, ℕ, zero, suc, ◌+◌, ◌<◌, ◌≤◌, ◌==◌, Bool, true, false, inl, inr, List, [], ◌∷◌, ◌++◌, length, Option, None, refl, sym, ap, ◌∙◌, subst, arith, append_assoc}
use Rattle.std.specs.Prelude.{IsPermutation, if◌then◌else◌}
use Rattle.std.proofs.lemmas.Bool.{false_from_ne_true}
use Rattle.std.proofs.lemmas.List.Sorted.{IsPermutation-sym, IsPermutation-trans, Contains-permutation}
use Rattle.sat_clause.specs.declared.literal.Lit.{Lit}
use Rattle.sat_clause.specs.Literal.{Clause, negation}
use Rattle.sat_arena.specs.declared.clause_ref.ClauseRef.{ClauseRef}
use Rattle.sat_arena.specs.Store.{ArePlaced, Stored, is_held, size_of, stored_at}
use Rattle.sat_watch.specs.declared.entry.TrailEntry.{TrailEntry}
use Rattle.sat_watch.specs.Trail.{falses}
use Rattle.sat_watch.specs.Chains.{counted, AreOnce, IsCursor, IsPath, Next, is_in, next_on}
use Rattle.sat_watch.specs.Watched.{AreImplied, Goes, Grows, IsImplied, IsReason, LitsGo, OtherIsTrue, chain_length, is_false}
use Rattle.sat_arena.proofs.StoreLaws.{same_or_other}
use Rattle.sat_watch.proofs.PathLemmas.{in_cases, in_here, in_more, not_in_cases, path_goes_on}
use Rattle.sat_watch.proofs.StoredLemmas.{behind_at, head_at, held_behind, next_is_held}
use Rattle.sat_clause.proofs.LiteralLaws.{among_more}
use Rattle.sat_watch.proofs.TrailLemmas.{never}

false_added : (added old : List TrailEntry) (l : Lit) → is_false old l ≡ true →
    is_false (added ++ old) l ≡ true
false_added [] old l is = is
false_added (e ∷ added) old l is =
    among_more (falses (added ++ old)) (negation e.lit) l (false_added added old l is)

-- what is false stays false where the trail grows
pub grows_false : (ks : List Stored) (level : ℕ) (old new : List TrailEntry) (l : Lit) →
    Grows ks level old new → is_false old l ≡ true → is_false new l ≡ true
grows_false ks level old new l grows is = rw grows.is (false_added grows.added old l is)

grows_not_false : (ks : List Stored) (level : ℕ) (old new : List TrailEntry) (l : Lit) →
    Grows ks level old new → is_false new l ≡ false → is_false old l ≡ false
grows_not_false ks level old new l grows out =
    false_from_ne_true _ (λ is. never _ (grows_false ks level old new l grows is) out)

pub grows_true : (ks : List Stored) (level : ℕ) (old new : List TrailEntry) (lits : Clause)
    (f : Lit) → Grows ks level old new → OtherIsTrue old lits f → OtherIsTrue new lits f
grows_true ks level old new lits f grows is w o lt at at_o =
    grows_false ks level old new (negation o) grows (is w o lt at at_o)

pub reason_moves : (older : List TrailEntry) (lits new : Clause) (l : Lit) →
    IsPermutation lits new → IsReason older lits l → IsReason older new l
reason_moves older lits new l same why = record {
  has = Contains-permutation lits new l same why.has;
  others =
      λ m has ne. why.others m
      (Contains-permutation new lits m (IsPermutation-sym lits new same) has) ne;
}

implied_moves : (ks new : List Stored) (level : ℕ) (older : List TrailEntry) (e : TrailEntry) →
    ((c : ClauseRef) → is_held new c ≡ is_held ks c) →
    ((c : ClauseRef) → IsPermutation (stored_at ks c).lits (stored_at new c).lits) →
    IsImplied ks level older e → IsImplied new level older e
implied_moves ks new level older e held same is = record {
  at_level = is.at_level;
  reason = is.reason;
  is = is.is;
  held = held is.reason ∙ is.held;
  why =
      reason_moves older (stored_at ks is.reason).lits (stored_at new is.reason).lits e.lit
      (same is.reason) is.why;
}

all_implied_move : (ks new : List Stored) (level : ℕ) (added older : List TrailEntry) →
    ((c : ClauseRef) → is_held new c ≡ is_held ks c) →
    ((c : ClauseRef) → IsPermutation (stored_at ks c).lits (stored_at new c).lits) →
    AreImplied ks level added older → AreImplied new level added older
all_implied_move ks new level [] older held same are = tt
all_implied_move ks new level (e ∷ added) older held same are = (
  implied_moves ks new level (added ++ older) e held same are.0,
  all_implied_move ks new level added older held same are.1,
)

implied_append : (ks : List Stored) (level : ℕ) (xs ys older : List TrailEntry) →
    AreImplied ks level xs (ys ++ older) → AreImplied ks level ys older →
    AreImplied ks level (xs ++ ys) older
implied_append ks level [] ys older front back = back
implied_append ks level (e ∷ xs) ys older front back = (
  subst (λ t. IsImplied ks level t e) (sym (append_assoc xs ys older)) front.0,
  implied_append ks level xs ys older front.1 back,
)

lits_trans : (base later : List TrailEntry) (f : Lit) (a b c : Clause) →
    ((l : Lit) → is_false later l ≡ false → is_false base l ≡ false) →
    LitsGo base f a b → LitsGo later f b c → LitsGo base f a c
lits_trans base later f a b c weaker x y = record {
  same = IsPermutation-trans a b c x.same y.same;
  short = λ lt. let ba = x.short lt in y.short (subst (λ l. length l < 2) (sym ba) lt) ∙ ba;
  watch = λ w l lt at. elim (y.watch w l lt at) [
    | inl there ↦ x.watch w l lt there
    | inr moved ↦ elim (x.watch w f lt moved.0) [
      | inl there ↦ inr (there, weaker l moved.1)
      | inr again ↦ inr (again.0, weaker l moved.1)
    ]
  ];
}

-- a step after a walk
module _ {base : List TrailEntry} {level : ℕ} {f : Lit} {a b c : List Stored}
    {now later : List TrailEntry} where
  pub goes_trans : Goes base level f a b base now → Goes now level f b c now later →
      Goes base level f a c base later
  goes_trans x y =
      let front = x.grows in let back = y.grows in record {
        count = y.count ∙ x.count;
        held = λ r. y.held r ∙ x.held r;
        ids = λ r. y.ids r ∙ x.ids r;
        holders_same = λ l. y.holders_same l ∙ x.holders_same l;
        lits =
            λ r. lits_trans base now f (stored_at a r).lits (stored_at b r).lits
            (stored_at c r).lits (λ l out. grows_not_false b level base now l front out) (x.lits r)
            (y.lits r);
        grows = record {
          added = back.added ++ front.added;
          is =
              back.is ∙ (ap (λ t. back.added ++ t) front.is ∙ sym
              (append_assoc back.added front.added base));
          implied = implied_append c level back.added front.added base
              (subst (λ t. AreImplied c level back.added t) front.is back.implied)
              (all_implied_move b c level front.added base y.held (λ r. (y.lits r).same)
              front.implied);
        };
      }

abbrev without : ClauseRef → List ClauseRef → List ClauseRef
without c [] = []
without c (d ∷ ds) = if d.word == c.word then without c ds else d ∷ without c ds

without_absent : (c : ClauseRef) (ds : List ClauseRef) → is_in ds c ≡ false → without c ds ≡ ds
without_absent c [] out = refl
without_absent c (d ∷ ds) out = elim (same_or_other d c) [
  | inl same ↦ absurd ((not_in_cases c d ds out).0 same.1)
  | inr other ↦ rw other.0 (ap (λ l. d ∷ l) (without_absent c ds (not_in_cases c d ds out).1))
]

without_most : (c : ClauseRef) (ds : List ClauseRef) → length (without c ds) ≤ length ds
without_most c [] = omega arith
without_most c (d ∷ ds) = let rest = without_most c ds in elim (same_or_other d c) [
  | inl same ↦ rw same.0 (omega arith)
  | inr other ↦ rw other.0 (omega arith)
]

without_length : (c : ClauseRef) (ds : List ClauseRef) → AreOnce ds →
    length ds ≤ suc (length (without c ds))
without_length c [] once = omega arith
without_length c (d ∷ ds) once = elim (same_or_other d c) [
  | inl same ↦ rw (same.0, without_absent c ds (subst (λ r. is_in ds r ≡ false) same.1 once.0))
      (omega arith)
  | inr other ↦ let rest = without_length c ds once.1 in rw other.0 (omega arith)
]

without_in : (c d : ClauseRef) (ds : List ClauseRef) → is_in (without c ds) d ≡ true →
    (d ≢ c) × (is_in ds d ≡ true)
without_in c d [] is = let clash : false ≡ true = is in cc
without_in c d (x ∷ xs) is = elim (same_or_other x c) [
  | inl same ↦ let rest = without_in c d xs (rw same.0 at is) in (rest.0, in_more d x xs rest.1)
  | inr other ↦ elim (in_cases d x (without c xs) (rw other.0 at is)) [
    | inl here ↦ (λ e. other.1 (here ∙ e), subst (λ r. is_in (x ∷ xs) r ≡ true) here (in_here x xs))
    | inr later ↦ let rest = without_in c d xs later in (rest.0, in_more d x xs rest.1)
  ]
]

without_out : (c d : ClauseRef) (ds : List ClauseRef) → is_in ds d ≡ false →
    is_in (without c ds) d ≡ false
without_out c d ds out = false_from_ne_true _ (λ is. never _ (without_in c d ds is).1 out)

without_once : (c : ClauseRef) (ds : List ClauseRef) → AreOnce ds → AreOnce (without c ds)
without_once c [] once = tt
without_once c (d ∷ ds) once = elim (same_or_other d c) [
  | inl same ↦ rw same.0 (without_once c ds once.1)
  | inr other ↦ rw other.0 (without_out c d ds once.0, without_once c ds once.1)
]

-- different references of clauses that pass a test are no more than these clauses
pub few_refs : (p : Stored → Bool) (ks : List Stored) (refs : List ClauseRef) → AreOnce refs →
    ((d : ClauseRef) → is_in refs d ≡ true → (is_held ks d ≡ true) × (p (stored_at ks d) ≡ true)) →
    length refs ≤ counted p ks
few_refs p [] [] once all = omega arith
few_refs p [] (d ∷ ds) once all = let clash : false ≡ true = (all d (in_here d ds)).0 in cc
few_refs p (k ∷ ks) refs once all =
    let c = k.place in
    let less = few_refs p ks (without c refs) (without_once c refs once) (λ d is.
    let parts = without_in c d refs is in let known = all d parts.1 in
    elim (same_or_other c d) [
      | inl same ↦ absurd (parts.0 (sym same.1))
      | inr other ↦ (rw other.0 at known.0, subst (λ x. p x ≡ true) (rw other.0 refl) known.1)
    ]) in
    by_in (is_in refs c) refl less
  where
    by_in : (b : Bool) → is_in refs k.place ≡ b → length (without k.place refs) ≤ counted p ks →
        length refs ≤ counted p (k ∷ ks)
    by_in true is less =
        let passes : p k ≡ true = elim (same_or_other k.place k.place) [
          | inl same ↦ subst (λ x. p x ≡ true) (rw same.0 refl) (all k.place is).1
          | inr other ↦ absurd (other.1 refl)
        ] in
        let long = without_length k.place refs once in rw passes (omega arith)
    by_in false out less =
        let same = ap length (without_absent k.place refs out) in by_test (p k) refl (omega arith)
      where
        by_test : (t : Bool) → p k ≡ t → length refs ≤ counted p ks →
            length refs ≤ counted p (k ∷ ks)
        by_test true e le = rw e (omega arith)
        by_test false e le = rw e le

without_fewer : (c : ClauseRef) (ds : List ClauseRef) → is_in ds c ≡ true →
    suc (length (without c ds)) ≤ length ds
without_fewer c [] is = let clash : false ≡ true = is in cc
without_fewer c (d ∷ ds) is = elim (same_or_other d c) [
  | inl same ↦ let rest = without_most c ds in rw same.0 (omega arith)
  | inr other ↦ let rest = without_fewer c ds (rw other.0 at is) in rw other.0 (omega arith)
]

without_keeps : (c d : ClauseRef) (ds : List ClauseRef) → d ≢ c → is_in ds d ≡ true →
    is_in (without c ds) d ≡ true
without_keeps c d [] ne is = is
without_keeps c d (x ∷ xs) ne is = elim (in_cases d x xs is) [
  | inl here ↦ elim (same_or_other x c) [
    | inl same ↦ absurd (ne (sym here ∙ same.1))
    | inr other ↦ rw other.0 (subst (λ r. is_in (x ∷ without c xs) r ≡ true) here
        (in_here x (without c xs)))
  ]
  | inr later ↦ let rest = without_keeps c d xs ne later in elim (same_or_other x c) [
    | inl same ↦ rw same.0 rest
    | inr other ↦ rw other.0 (in_more d x (without c xs) rest)
  ]
]

-- where the references of all clauses that pass a test are among these, there are no more of them
pub few_passing : (p : Stored → Bool) (at : ℕ) (ks : List Stored) (refs : List ClauseRef) →
    ArePlaced at ks →
    ((d : ClauseRef) → is_held ks d ≡ true → p (stored_at ks d) ≡ true → is_in refs d ≡ true) →
    counted p ks ≤ length refs
few_passing p at [] refs placed all = omega arith
few_passing p at (k ∷ ks) refs placed all =
    let later : (d : ClauseRef) → is_held ks d ≡ true → p (stored_at ks d) ≡ true →
    is_in refs d ≡ true =
    λ d held passes.
    let there = behind_at k ks d (held_behind at k ks d placed held) in
    all d (there.0 ∙ held) (rw there.1 passes) in
    by_test (p k) refl
    (few_passing p (at + size_of k) ks (without k.place refs) placed.1
    (λ d held passes. without_keeps k.place d refs
    (λ e. held_behind at k ks d placed held (sym e)) (later d held passes)))
    (few_passing p (at + size_of k) ks refs placed.1 later)
  where
    by_test : (b : Bool) → p k ≡ b → counted p ks ≤ length (without k.place refs) →
        counted p ks ≤ length refs → counted p (k ∷ ks) ≤ length refs
    by_test true is less all_behind =
        let own = head_at k ks k.place refl in
        let fewer = without_fewer k.place refs (all k.place own.0 (rw own.1 is)) in
        rw is (omega arith)
    by_test false is less all_behind = rw is all_behind

pub counted_most : (p : Stored → Bool) (ks : List Stored) → counted p ks ≤ length ks
counted_most p [] = omega arith
counted_most p (k ∷ ks) = let rest = counted_most p ks in by_test (p k) refl rest where
  by_test : (b : Bool) → p k ≡ b → counted p ks ≤ length ks → counted p (k ∷ ks) ≤ length (k ∷ ks)
  by_test true is le = rw is (omega arith)
  by_test false is le = rw is (omega arith)

counted_all : (ks : List Stored) → counted (λ k. true) ks ≡ length ks
counted_all [] = refl
counted_all (k ∷ ks) = ap suc (counted_all ks)

-- with enough allowed, the length of a chain is that of its path
path_length : (next : Next) (most : ℕ) (from : Option ClauseRef) (refs : List ClauseRef) →
    IsPath next from refs None → length refs ≤ most → chain_length most next from ≡ length refs
path_length next zero from [] path le = refl
path_length next (suc most) from [] path le = rw path refl
path_length next zero from (c ∷ cs) path le = absurd (omega arith)
path_length next (suc most) from (c ∷ cs) path le =
    rw (path.0, path.1.1) (ap suc (path_length next most path.1.0 cs path.1.2 (omega arith)))

once_back : (xs ys : List ClauseRef) → AreOnce (xs ++ ys) → AreOnce ys
once_back [] ys once = once
once_back (x ∷ xs) ys once = once_back xs ys once.1

pub rest_length : (ks : List Stored) (f : Lit) (head : Option ClauseRef)
    (kept rest : List ClauseRef) (before at : Option ClauseRef) →
    IsCursor (next_on ks f) head kept rest before at →
    chain_length (length ks) (next_on ks f) at ≡ length rest
rest_length ks f head kept rest before at cursor =
    let le = few_refs (λ k. true) ks rest (once_back kept rest cursor.once)
    (λ d is. let goes = path_goes_on (next_on ks f) at None rest d cursor.back is in
    (next_is_held ks f d goes.0 goes.1, refl)) in
    path_length (next_on ks f) (length ks) at rest cursor.back (rw (← counted_all ks) le)
