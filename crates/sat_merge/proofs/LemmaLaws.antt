-- One more lemma behind the others.
use Rattle.std.proofs.Common.{inl, inr, ◌≡◌, ◌≢◌, ◌∙◌, ◌+◌, ◌-◌, ◌<◌, ◌≤◌, ◌==◌, ℕ, zero, suc, ℤ, pos, Bool, true, false, cond, eqb, List, [], ◌∷◌, ◌++◌, length, get_or, replicate, set, None, Some, slice_get, All, Contains, AllPairs, refl, sym, ap, subst, arith}
use Rattle.std.specs.Prelude.{IsTrue, is_some}
use Rattle.std.specs.Map.{lookup}
use Rattle.std.proofs.lemmas.Bool.{both_ways, eq-eqb, ne_eqb}
use Rattle.std.proofs.lemmas.Bool.Decides.{eqb_tells}
use Rattle.std.proofs.lemmas.List.{get_or-set_other, get_or-set_same}
use Rattle.std.proofs.lemmas.List.Elements.{All-contains, All-contains_itself, All-head, All-nil, All-push, All-tail, All-weaker}
use Rattle.std.proofs.lemmas.Option.{slice_get_within}
use Rattle.list_laws.proofs.Places.{some_is}
use Rattle.sat_clause.specs.declared.limits.TheConstants.{LITERAL_LIMIT}
use Rattle.sat_clause.specs.declared.literal.Lit.{Lit}
use Rattle.sat_clause.specs.Formula.{Cnf}
use Rattle.sat_clause.specs.Judge.{inputs, is_empty_clause}
use Rattle.sat_clause.specs.Learned.{IsFresh, IsRelevant, IsSimple, added_count}
use Rattle.sat_clause.specs.Literal.{Clause, IsLiteral, IsWithin, lit, variable}
use Rattle.sat_clause.specs.Live.{Live, clause_at, put}
use Rattle.sat_clause.specs.Step.{Step, Added}
use Rattle.sat_clause.proofs.LiveLaws.{inputs_at, inputs_none}
use Rattle.sat_check.specs.Finder.{Finds}
use Rattle.sat_check.specs.LiveStore.{LiveState, live_at}
use Rattle.sat_core.specs.Stands.{live_after}
use Rattle.sat_core.proofs.LogLemmas.{added_count-push, added_from_push, deletions-push, each_added_push, good_behind, inputs_live, live_after-push, not_empty_step, numbered_push, spares_push}
use Rattle.sat_merge.specs.Known.{AreNoted, IsFree, IsNoted, KnownState, KnowsMore, is_asked, is_known, key_of}
use Rattle.sat_merge.specs.Lemmas.{AreLemmas}
use Rattle.sat_merge.specs.Moved.{AreAtHand, AreCovered, PlaceState}
use Rattle.sat_merge.specs.Placing.{AddsLemma, AreTaken, has_lemma, placed}
use Rattle.sat_merge.specs.Rewritten.{AreKept, IsJustified, IsMerged}

-- WHAT IS KNOWN

pub noted_more : (old new : KnownState) (c : Clause) → KnowsMore old new → IsNoted old c →
    IsNoted new c
noted_more old new [] more noted = noted
noted_more old new (l ∷ []) more noted = λ asked.
    more.known (key_of l l)
    (noted (subst (λ (w : List Bool). IsTrue (is_asked w l)) more.wanted asked))
noted_more old new (l ∷ m ∷ ls) more noted = λ asked also.
    more.known (key_of l m)
    (noted (subst (λ (w : List Bool). IsTrue (is_asked w l)) more.wanted asked)
    (subst (λ (w : List Bool). IsTrue (is_asked w m)) more.wanted also))

-- the literals of a clause within a free one are not known
within_free : (s : KnownState) (own c : Clause) → IsNoted s own → IsFree s c →
    All (Contains c) own → ⊥
within_free s [] c noted free all = noted
within_free s (l ∷ []) c noted free all =
    let has = All-head (Contains c) l [] all in
    let asked = All-contains (λ (x : Lit). IsTrue (is_asked s.wanted x)) c l free.asked has in
    let none = All-contains (λ (x : Lit). All (λ m. is_known s (key_of x m) ≡ false) c) c l free.free
    has in
    both_ways _ (All-contains (λ (m : Lit). is_known s (key_of l m) ≡ false) c l none has)
    (noted asked)
within_free s (l ∷ m ∷ ls) c noted free all =
    let has = All-head (Contains c) l (m ∷ ls) all in
    let also = All-head (Contains c) m ls (All-tail (Contains c) l (m ∷ ls) all) in
    let asked = All-contains (λ (x : Lit). IsTrue (is_asked s.wanted x)) c l free.asked has in
    let asked_too = All-contains (λ (x : Lit). IsTrue (is_asked s.wanted x)) c m free.asked also in
    let none = All-contains (λ (x : Lit). All (λ n. is_known s (key_of x n) ≡ false) c) c l free.free
    has in
    both_ways _ (All-contains (λ (n : Lit). is_known s (key_of l n) ≡ false) c m none also)
    (noted asked asked_too)

-- so no live clause is within it
pub free_fresh : (keeps : Lit → Bool) (s : KnownState) (live : Live) (c : Clause) →
    AreNoted keeps s live → AreKept keeps c → IsFree s c → IsFresh live c
free_fresh keeps s live c noted kept free id own at all =
    let own_kept : AreKept keeps own =
    All-weaker (Contains c) (λ l. keeps l ≡ true)
    (λ l has. All-contains (λ (x : Lit). keeps x ≡ true) c l kept has) own all in
    within_free s own c (noted id own at own_kept) free all

-- what is live is noted with one more clause that is
pub noted_put : (keeps : Lit → Bool) (old new : KnownState) (live : Live) (id : ℕ) (c : Clause) →
    AreNoted keeps old live → KnowsMore old new → IsNoted new c → AreNoted keeps new (put live id c)
noted_put keeps old new live id c noted more also i own at kept =
    by (i == id) at
  where
    by : (b : Bool) → cond b (Some c) (clause_at live i) ≡ Some own → IsNoted new own
    by true is = subst (IsNoted new) (some_is is) also
    by false is = noted_more old new own more (noted i own is kept)

-- two literals at most of different variables
pub few_once : (c : Clause) → length c ≤ 2 →
    (length c ≡ 2 → variable (get_or c 0 (lit (pos 0))) ≢ variable (get_or c 1 (lit (pos 0)))) →
    AllPairs (λ a b. variable a ≢ variable b) c
few_once [] few apart i j d below within = absurd (omega (arith, within))
few_once (l ∷ []) few apart i j d below within = absurd (omega (arith, below, within))
few_once (l ∷ m ∷ []) few apart zero (suc zero) d below within = apart refl
few_once (l ∷ m ∷ []) few apart zero zero d below within = absurd (omega (arith, below))
few_once (l ∷ m ∷ []) few apart zero (suc (suc j)) d below within =
    absurd (omega (arith, within))
few_once (l ∷ m ∷ []) few apart (suc i) j d below within =
    absurd (omega (arith, below, within))
few_once (l ∷ m ∷ n ∷ c) few apart i j d below within = absurd (omega (arith, few))

-- WHERE MERGED CLAUSES STAND

hand_set : (p : PlaceState) (merged live : Live) (h v : ℕ) → AreAtHand p merged live →
    h < length p.ids → v ≤ p.inputs + p.lemmas →
    ((c : Clause) → clause_at merged h ≡ Some c → clause_at live v ≡ Some c) →
    AreAtHand (placed p h v) merged live
hand_set p merged live h v hand room few there = record {
  within = λ n.
      elim (eqb_tells n h) [
        | inl same ↦
            subst (λ (m : ℕ). get_or (set p.ids h v) m 0 ≤ p.inputs + p.lemmas) (sym same.1)
            (rw (get_or-set_same p.ids h v 0 room) few)
        | inr other ↦
            rw (get_or-set_other p.ids h n v 0 (λ is. other.1 is)) (hand.within n)
      ];
  stands = λ n c some at.
      elim (eqb_tells n h) [
        | inl same ↦
            let is : get_or (set p.ids h v) n 0 ≡ v =
            ap (λ (m : ℕ). get_or (set p.ids h v) m 0) same.1
            ∙ get_or-set_same p.ids h v 0 room in
            rw is (there c (sym (ap (λ (m : ℕ). clause_at merged m) same.1) ∙ at))
        | inr other ↦
            let is : get_or (set p.ids h v) n 0 ≡ get_or p.ids n 0 =
            get_or-set_other p.ids h n v 0 (λ e. other.1 e) in
            rw is (hand.stands n c (rw is at some) at)
      ];
}

-- each input has a merged clause within it where its literals are kept
kept_covered : (keeps : Lit → Bool) (formula merged : Cnf) → IsMerged keeps formula merged →
    AreCovered keeps (length formula.clauses) (inputs merged) (inputs formula)
kept_covered keeps formula merged merge zero c at kept =
    let bad : None ≡ Some c = sym (inputs_none formula) ∙ at in cc
kept_covered keeps formula merged merge (suc i) c at kept =
    let there : slice_get formula.clauses i ≡ Some c = sym (inputs_at formula i) ∙ at in
    let within = slice_get_within formula.clauses i c there in (
      suc i,
      c,
      omega (arith, within),
      inputs_at merged i ∙ merge.same i c there kept,
      All-contains_itself c,
    )

-- a log without steps has no lemma
pub lemmas_none : (keeps : Lit → Bool) (formula merged : Cnf) (n : ℕ) →
    IsMerged keeps formula merged →
    AreLemmas keeps formula merged
    (record { inputs = length formula.clauses; lemmas = 0; ids = replicate n 0 }) []
lemmas_none keeps formula merged n merge = record {
  inputs = refl;
  many = refl;
  none_deleted = refl;
  open_log = record {
    good = tt;
    none_empty = All-nil (λ (s : Step). is_empty_clause s ≡ false);
    numbered = tt;
    new = λ k id c h is. cc;
    spares = λ k id ids is. cc;
  };
  numbered = tt;
  relevant = λ k id c h is. cc;
  covered = kept_covered keeps formula merged merge;
  hand = record {
    within = λ k. rw (none_placed n k) (omega arith);
    stands = λ k c some at.
        let none = rw (none_placed n k) at some in absurd (omega (arith, none));
  };
}
  where
    none_placed : (m k : ℕ) → ◌≡◌ {A = ℕ} (get_or (replicate {A = ℕ} m 0) k 0) 0
    none_placed zero k = refl
    none_placed (suc m) zero = refl
    none_placed (suc m) (suc k) = none_placed m k

module _ {keeps : Lit → Bool} {formula merged : Cnf} {p : PlaceState} {log : List Step}
    (are : AreLemmas keeps formula merged p log) where
  -- an input may have the id of what it was merged to, if that is live
  pub lemmas_placed : (h v : ℕ) → h < length p.ids → v ≤ p.inputs + p.lemmas →
      ((c : Clause) → clause_at (inputs merged) h ≡ Some c →
      clause_at (live_after formula log) v ≡ Some c) →
      AreLemmas keeps formula merged (placed p h v) log
  lemmas_placed h v room few there = record {
    inputs = are.inputs;
    many = are.many;
    none_deleted = are.none_deleted;
    open_log = are.open_log;
    numbered = are.numbered;
    relevant = are.relevant;
    covered = are.covered;
    hand = hand_set p (inputs merged) (live_after formula log) h v are.hand room few there;
  }

  -- its own, if it was kept
  pub kept_placed : (i : ℕ) (own : Clause) → IsMerged keeps formula merged →
      slice_get formula.clauses i ≡ Some own → AreKept keeps own → suc i < length p.ids →
      AreLemmas keeps formula merged (placed p (suc i) (suc i)) log
  kept_placed i own merge is kept room =
      let within = slice_get_within formula.clauses i own is in
      lemmas_placed (suc i) (suc i) room (omega (arith, within, are.inputs)) (λ c at.
      let same : own ≡ c =
      some_is (sym (merge.same i own is kept) ∙ sym (inputs_at merged i) ∙ at) in
      inputs_live formula log are.open_log.numbered are.open_log.spares i c
      (is ∙ ap (λ (d : Clause). Some d) same))

  -- or that of another one that was merged to the same
  pub shared_placed : (h i : ℕ) (c : Clause) → h < length p.ids →
      slice_get merged.clauses i ≡ Some c → clause_at (inputs merged) h ≡ Some c →
      1 ≤ get_or p.ids (suc i) 0 →
      AreLemmas keeps formula merged (placed p h (get_or p.ids (suc i) 0)) log
  shared_placed h i c room is own some =
      lemmas_placed h (get_or p.ids (suc i) 0) room (are.hand.within (suc i)) (λ d at.
      let same : c ≡ d = some_is (sym own ∙ at) in
      are.hand.stands (suc i) d some
      (inputs_at merged i ∙ is ∙ ap (λ (e : Clause). Some e) same))

  -- the same of an input by its id
  pub kept_at : (input : ℕ) (own : Clause) → IsMerged keeps formula merged → 1 ≤ input →
      slice_get formula.clauses (input - 1) ≡ Some own → AreKept keeps own →
      input < length p.ids → AreLemmas keeps formula merged (placed p input input) log
  kept_at zero own merge some is kept room = absurd (omega (arith, some))
  kept_at (suc i) own merge some is kept room =
      let e : suc i - 1 ≡ i = omega arith in
      kept_placed i own merge (ap (slice_get formula.clauses) (sym e) ∙ is) kept room

  pub twin_at : (h other : ℕ) (c : Clause) → 1 ≤ h → 1 ≤ other →
      slice_get merged.clauses (h - 1) ≡ Some c → slice_get merged.clauses (other - 1) ≡ Some c →
      1 ≤ get_or p.ids other 0 → h < length p.ids →
      AreLemmas keeps formula merged (placed p h (get_or p.ids other 0)) log
  twin_at zero other c one two own is some room = absurd (omega (arith, one))
  twin_at (suc n) zero c one two own is some room = absurd (omega (arith, two))
  twin_at (suc n) (suc i) c one two own is some room =
      let e : suc n - 1 ≡ n = omega arith in
      let f : suc i - 1 ≡ i = omega arith in
      shared_placed (suc n) i c room (ap (slice_get merged.clauses) (sym f) ∙ is)
      (inputs_at merged n ∙ ap (slice_get merged.clauses) (sym e) ∙ own) some

  -- a lemma more
  pub lemmas_more : (id h : ℕ) (c : Clause) (hints : List ℤ) →
      id ≡ p.inputs + p.lemmas + 1 → h < length p.ids → h ≤ p.inputs →
      clause_at (inputs merged) h ≡ Some c → c ≢ [] → IsSimple formula.vars c →
      AreKept keeps c → IsFresh (live_after formula log) c →
      IsJustified (live_after formula log) c hints →
      AreLemmas keeps formula merged (has_lemma p h id) (log ++ Added id c hints ∷ [])
  lemmas_more id h c hints next room few own some simple kept fresh good =
      let live : Live = live_after formula log in
      let now : live_after formula (log ++ Added id c hints ∷ []) ≡ put live id c =
      live_after-push formula log (Added id c hints) in
      let m : ℕ = length formula.clauses in
      let after_all : id ≡ suc m + added_count log =
      omega (arith, next, are.inputs, are.many) in
      let older : AreAtHand (record { inputs = p.inputs; lemmas = p.lemmas + 1; ids = p.ids })
      (inputs merged) (put live id c) =
      record {
        within = λ n. let few_now = are.hand.within n in omega (arith, few_now);
        stands = λ n d some_now at.
            let few_now = are.hand.within n in
            let apart : (get_or p.ids n 0 == id) ≡ false =
            ne_eqb (get_or p.ids n 0) id (omega (arith, few_now, next)) in
            rw apart (are.hand.stands n d some_now at);
      } in
      record {
        inputs = are.inputs;
        many = added_count-push log id c hints ∙ omega (arith, are.many);
        none_deleted = deletions-push log id c hints ∙ are.none_deleted;
        open_log = record {
          good = good_behind (inputs formula) log (Added id c hints ∷ []) are.open_log.good
              (good.good, tt);
          none_empty = All-push (λ (s : Step). is_empty_clause s ≡ false) log (Added id c hints)
              are.open_log.none_empty (not_empty_step id c hints some);
          numbered = added_from_push (suc m) id log c hints are.open_log.numbered after_all;
          new = each_added_push
              (λ l d g. d ≢ [] → IsSimple formula.vars d × IsFresh l d) formula log id c hints
              are.open_log.new (λ full. (simple, fresh));
          spares = spares_push m log id c hints are.open_log.spares;
        };
        numbered = numbered_push (suc m) id log c hints are.numbered after_all;
        relevant = each_added_push IsRelevant formula log id c hints are.relevant good.relevant;
        covered = rw now (λ i d at d_kept. covers i d at d_kept (i == id) at);
        hand = rw now
            (hand_set (record { inputs = p.inputs; lemmas = p.lemmas + 1; ids = p.ids })
            (inputs merged) (put live id c) h id older room (omega (arith, next)) (λ d at.
            let here : (id == id) ≡ true = eq-eqb id id refl in
            rw here (sym own ∙ at)));
      }
    where
      covers : (i : ℕ) (d : Clause) →
          clause_at (put (live_after formula log) id c) i ≡ Some d → AreKept keeps d → (b : Bool) →
          cond b (Some c) (clause_at (live_after formula log) i) ≡ Some d →
          (n : ℕ) × (e : Clause) × (n ≤ p.inputs) × (clause_at (inputs merged) n ≡ Some e)
          × All (Contains d) e
      covers i d at d_kept true is_c =
          (h, c, few, own, subst (λ (e : Clause). All (Contains e) c) (some_is is_c) (All-contains_itself c))
      covers i d at d_kept false is_old = are.covered i d is_old d_kept

module _ {keeps : Lit → Bool} {formula merged : Cnf} {p : PlaceState} {s : KnownState}
    {live : LiveState} {log : List Step} (are : AreTaken keeps formula merged p s live log) where
  -- and what is live behind it is noted
  pub taken_more : (more : KnownState) (new : LiveState) (now : List Step) (id h : ℕ)
      (c : Clause) → KnowsMore s more → IsNoted more c → AddsLemma keeps formula new log now id c →
      id ≡ p.inputs + p.lemmas + 1 → h < length p.ids → h ≤ p.inputs →
      clause_at (inputs merged) h ≡ Some c → c ≢ [] → IsSimple formula.vars c → IsFree s c →
      AreTaken keeps formula merged (has_lemma p h id) more new now
  taken_more more new now id h c knows noted adds next room few own some simple free =
      let before : Live = live_after formula log in
      let step : Step = Added id c adds.hints in
      record {
        lemmas = rw adds.step
            (lemmas_more are.lemmas id h c adds.hints next room few own some simple adds.kept
            (free_fresh keeps s before c are.noted adds.kept free) adds.justified);
        noted = rw (adds.step, live_after-push formula log step)
            (noted_put keeps s more before id c are.noted knows noted);
        found = adds.found;
      }

  -- an input has an id
  pub taken_placed : (q : PlaceState) → AreLemmas keeps formula merged q log →
      AreTaken keeps formula merged q s live log
  taken_placed q lemmas = record { lemmas = lemmas; noted = are.noted; found = are.found }

-- no lemma
pub taken_none : (keeps : Lit → Bool) (formula merged : Cnf) (n : ℕ) (s : KnownState)
    (live : LiveState) → IsMerged keeps formula merged → AreNoted keeps s (inputs formula) →
    Finds (live_at live) (inputs formula) →
    AreTaken keeps formula merged
    (record { inputs = length formula.clauses; lemmas = 0; ids = replicate n 0 }) s live []
taken_none keeps formula merged n s live merge noted found =
    record { lemmas = lemmas_none keeps formula merged n merge; noted = noted; found = found }

-- one more number is known
pub known_put : (old new : List (ℕ × ℕ)) (wanted : List Bool) (key v : ℕ) →
    ((q : ℕ) → lookup (eqb q) new ≡ cond (eqb key q) (Some v) (lookup (eqb q) old)) →
    KnowsMore (record { ids = old; wanted = wanted }) (record { ids = new; wanted = wanted })
known_put old new wanted key v updates = record {
  wanted = refl;
  known = λ q is. ap is_some (updates q) ∙ by q (eqb key q) is;
}
  where
    by : (q : ℕ) (b : Bool) → is_some (lookup (eqb q) old) ≡ true →
        is_some (cond b (Some v) (lookup (eqb q) old)) ≡ true
    by q true is = refl
    by q false is = is

-- of the clauses of a formula, each is noted
pub noted_inputs : (formula : Cnf) (s : KnownState) →
    ((i : ℕ) (clause : Clause) → i < length formula.clauses →
    slice_get formula.clauses i ≡ Some clause → IsNoted s clause) →
    (keeps : Lit → Bool) → AreNoted keeps s (inputs formula)
noted_inputs formula s each keeps zero clause at kept =
    let bad : None ≡ Some clause = sym (inputs_none formula) ∙ at in cc
noted_inputs formula s each keeps (suc i) clause at kept =
    let there : slice_get formula.clauses i ≡ Some clause = sym (inputs_at formula i) ∙ at in
    each i clause (slice_get_within formula.clauses i clause there) there

-- what a merged clause is by the id of its input
pub own_at : (merged : Cnf) (input : ℕ) (c : Clause) → 1 ≤ input →
    slice_get merged.clauses (input - 1) ≡ Some c → clause_at (inputs merged) input ≡ Some c
own_at merged zero c some is = absurd (omega (arith, some))
own_at merged (suc n) c some is =
    let e : suc n - 1 ≡ n = omega arith in
    inputs_at merged n ∙ ap (slice_get merged.clauses) (sym e) ∙ is

-- literals of the variables of a formula are literals
pub literals_within : (n : ℕ) (c : Clause) → n ≤ LITERAL_LIMIT → All (IsWithin n) c → All IsLiteral c
literals_within n c few within =
    All-weaker (IsWithin n) IsLiteral (λ l is. (is.0, omega (arith, is.1, few))) c within
