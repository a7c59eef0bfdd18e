-- What a deletion leaves: of clauses by their ids, of what is kept, and of a log.
use Rattle.std.proofs.Common.{inl, inr, ◌≡◌, ◌≢◌, ◌==◌, ◌<◌, ◌≤◌, ◌+◌, ◌*◌, ℕ, zero, suc, ℤ, pos, negsuc, Bool, true, false, cond, List, [], ◌∷◌, ◌++◌, length, take, fold, Option, None, Some, slice_get, get_or, All, AllPairs, refl, sym, ap, ◌∙◌, subst, arith}
use Rattle.std.proofs.lemmas.Bool.{ne_eqb, eq-eqb}
use Rattle.std.proofs.lemmas.List.{take-append-le, take_at}
use Rattle.std.proofs.lemmas.List.Elements.{All-head, All-push, All-tail}
use Rattle.std.proofs.lemmas.Option.{slice_get_past, slice_get_within}
use Rattle.list_laws.proofs.Members.{In}
use Rattle.list_laws.proofs.Places.{get-cases}
use Rattle.sat_clause.specs.Formula.{Cnf}
use Rattle.sat_clause.specs.Judge.{after, erase, erase_fault, inputs, is_empty_clause, take_out}
use Rattle.sat_clause.specs.Literal.{Clause}
use Rattle.sat_clause.specs.Live.{Live, clause_at, put, without}
use Rattle.sat_clause.specs.Step.{Step, Added, Erased}
use Rattle.sat_clause.proofs.LiveLaws.{clause_at-without, inputs_at}
use Rattle.sat_clause.specs.Learned.{AreAddedFrom, EachAdded, EachErased, IsFresh, IsSimple, SameLiterals, Sparse, added_count, added_since, deletions}
use Rattle.sat_core.specs.Deletions.{AreDeletions, DeletionState}
use Rattle.sat_core.specs.Delete.{Deletes, IsNamed}
use Rattle.sat_core.specs.Kept.{AreKept, HasOnce, is_always_true}
use Rattle.sat_core.specs.SearchLog.{AreNumbered, DeletesSome}
use Rattle.sat_core.specs.Stands.{IsAbove, IsOpenLog, SearchValue, StandsFor, live_after}
use Rattle.sat_core.proofs.KeptLaws.{kept_alike, named_kept}
use Rattle.sat_core.proofs.LogLemmas.{added_count-push, deletions-push, good_behind, live_after-push}

-- CLAUSES BY IDS

none_out : (live : Live) (h : ℤ) (n : ℕ) → clause_at live n ≡ None →
    clause_at (take_out live h) n ≡ None
none_out live (pos m) n none = clause_at-without live m n ∙ by (m == n)
  where
    by : (b : Bool) → cond b None (clause_at live n) ≡ None
    by true = refl
    by false = none
none_out live (negsuc m) n none = none

-- where there is none none comes
pub erase_none : (live : Live) (ids : List ℤ) (n : ℕ) → clause_at live n ≡ None →
    clause_at (erase live ids) n ≡ None
erase_none live [] n none = none
erase_none live (h ∷ ids) n none = erase_none (take_out live h) ids n (none_out live h n none)

out_here : (live : Live) (n : ℕ) → clause_at (without live n) n ≡ None
out_here live n = clause_at-without live n n ∙ rw (eq-eqb n n refl) refl

-- what is named is gone
pub erase_named : (live : Live) (ids : List ℤ) (n : ℕ) → In ids (pos n) →
    clause_at (erase live ids) n ≡ None
erase_named live [] n is = absurd is
erase_named live (h ∷ ids) n (inl same) =
    erase_none (take_out live h) ids n
    (ap (λ (g : ℤ). clause_at (take_out live g) n) same ∙ out_here live n)
erase_named live (h ∷ ids) n (inr later) = erase_named (take_out live h) ids n later

out_other : (live : Live) (h : ℤ) (n : ℕ) → h ≢ pos n →
    clause_at (take_out live h) n ≡ clause_at live n
out_other live (pos m) n other =
    clause_at-without live m n ∙ rw (ne_eqb m n (λ same. other (ap pos same))) refl
out_other live (negsuc m) n other = refl

-- and what is not named stays
pub erase_other : (live : Live) (ids : List ℤ) (n : ℕ) → (In ids (pos n) → ⊥) →
    clause_at (erase live ids) n ≡ clause_at live n
erase_other live [] n other = refl
erase_other live (h ∷ ids) n other =
    erase_other (take_out live h) ids n (λ later. other (inr later))
    ∙ out_other live h n (λ same. other (inl same))

-- WHAT IS KEPT

kept_without : (kept live : Live) (id : ℕ) → AreKept kept live →
    AreKept (without kept id) (without live id)
kept_without kept live id are = record {
  are_live = λ n c at.
      let d = live_at n c (id == n) (sym (clause_at-without kept id n) ∙ at) in
      (d.0, clause_at-without live id n ∙ d.1, d.2);
  are_all = λ n d at not_always.
      let c = all_at n d not_always (id == n) (sym (clause_at-without live id n) ∙ at) in
      (c.0, clause_at-without kept id n ∙ c.1, c.2);
  once = λ n c at. once_at n c (id == n) (sym (clause_at-without kept id n) ∙ at);
}
  where
    live_at : (n : ℕ) (c : Clause) (b : Bool) → cond b None (clause_at kept n) ≡ Some c →
        (d : Clause) × (cond b None (clause_at live n) ≡ Some d) × SameLiterals c d
    live_at n c true at = cc
    live_at n c false at = are.are_live n c at

    all_at : (n : ℕ) (d : Clause) → is_always_true d ≡ false → (b : Bool) →
        cond b None (clause_at live n) ≡ Some d →
        (c : Clause) × (cond b None (clause_at kept n) ≡ Some c) × SameLiterals c d
    all_at n d not_always true at = cc
    all_at n d not_always false at = are.are_all n d at not_always

    once_at : (n : ℕ) (c : Clause) (b : Bool) → cond b None (clause_at kept n) ≡ Some c → HasOnce c
    once_at n c true at = cc
    once_at n c false at = are.once n c at

kept_out : (kept live : Live) (h : ℤ) → AreKept kept live →
    AreKept (take_out kept h) (take_out live h)
kept_out kept live (pos id) are = kept_without kept live id are
kept_out kept live (negsuc id) are = are

-- clauses are taken out
kept_erase : (kept live : Live) (ids : List ℤ) → AreKept kept live →
    AreKept (erase kept ids) (erase live ids)
kept_erase kept live [] are = are
kept_erase kept live (h ∷ ids) are =
    kept_erase (take_out kept h) (take_out live h) ids (kept_out kept live h are)

-- A DELETION IS GOOD

still_named : (live : Live) (id h : ℤ) → id ≢ h → IsNamed live h → IsNamed (take_out live id) h
still_named live (negsuc out) h other some = some
still_named live (pos out) (pos zero) other some = let bad : None ≡ Some some.0 = some.1 in cc
still_named live (pos out) (pos (suc n)) other some =
    (some.0, out_other live (pos out) (suc n) other ∙ some.1)
still_named live (pos out) (negsuc n) other some = let bad : None ≡ Some some.0 = some.1 in cc

-- different ids of clauses may be deleted
different_erased : (live : Live) (ids : List ℤ) → All (IsNamed live) ids →
    AllPairs (λ g h. g ≢ h) ids → erase_fault live ids ≡ None
different_erased live [] all apart = refl
different_erased live (id ∷ ids) all apart =
    let here : IsNamed live id = All-head (IsNamed live) id ids all in
    rw here.1 (different_erased (take_out live id) ids
    (λ k d within. still_named live id (get_or ids k d)
    (apart 0 (suc k) d (omega arith) (omega (arith, within)))
    (All-tail (IsNamed live) id ids all k d within))
    (λ i j d below within. apart (suc i) (suc j) d (omega (arith, below)) (omega (arith, within))))

-- above the ids of inputs the steps by themselves leave what they leave of the formula
abbrev SameAbove : ℕ → Live → Live → Type 0
SameAbove m own live = (id : ℕ) → m < id → clause_at own id ≡ clause_at live id

above_put : (m new : ℕ) (own live : Live) (clause : Clause) → SameAbove m own live →
    SameAbove m (put own new clause) (put live new clause)
above_put m new own live clause same id over =
    ap (λ (o : Option Clause). cond (id == new) (Some clause) o) (same id over)

above_out : (m : ℕ) (h : ℤ) (own live : Live) → SameAbove m own live →
    SameAbove m (take_out own h) (take_out live h)
above_out m (pos out) own live same id over =
    clause_at-without own out id
    ∙ ap (λ (o : Option Clause). cond (out == id) None o) (same id over)
    ∙ sym (clause_at-without live out id)
above_out m (negsuc out) own live same id over = same id over

above_erase : (m : ℕ) (ids : List ℤ) (own live : Live) → SameAbove m own live →
    SameAbove m (erase own ids) (erase live ids)
above_erase m [] own live same = same
above_erase m (h ∷ ids) own live same =
    above_erase m ids (take_out own h) (take_out live h) (above_out m h own live same)

above_steps : (m : ℕ) (log : List Step) (own live : Live) → SameAbove m own live →
    SameAbove m (fold after own log) (fold after live log)
above_steps m [] own live same = same
above_steps m (Added id clause hints ∷ log) own live same =
    above_steps m log (put own id clause) (put live id clause)
    (above_put m id own live clause same)
above_steps m (Erased id ids ∷ log) own live same =
    above_steps m log (erase own ids) (erase live ids) (above_erase m ids own live same)

above_start : (formula : Cnf) → SameAbove (length formula.clauses) [] (inputs formula)
above_start formula zero over = absurd (omega (arith, over))
above_start formula (suc i) over =
    sym (inputs_at formula i ∙ slice_get_past formula.clauses i (omega (arith, over)))

named_above : (m : ℕ) (own live : Live) → SameAbove m own live → (h : ℤ) → IsAbove m h →
    IsNamed live h → IsNamed own h
named_above m own live same (pos zero) over some = let bad : None ≡ Some some.0 = some.1 in cc
named_above m own live same (pos (suc n)) over some =
    let k : ℕ = over.0 in
    let is : suc n ≡ k = cc in
    (some.0, same (suc n) (omega (arith, is, over.2)) ∙ some.1)
named_above m own live same (negsuc n) over some = let bad : None ≡ Some some.0 = some.1 in cc

-- ONE MORE STEP

is_earlier : (log : List Step) (last step : Step) (k : ℕ) → slice_get log k ≡ Some step →
    take k (log ++ last ∷ []) ≡ take k log
is_earlier log last step k is =
    let within = slice_get_within log k step is in
    take-append-le k log (last ∷ []) (omega (arith, within))

each_erased_erase : (P : List Step → List ℤ → Type 0) (log : List Step) (own : ℕ) (ids : List ℤ) →
    EachErased P log → P log ids → EachErased P (log ++ Erased own ids ∷ [])
each_erased_erase P log own ids each more k i others is =
    elim (get-cases log (Erased own ids) (Erased i others) k is) [
      | inl last ↦
          let both : Erased own ids ≡ Erased i others = last.1 in
          let same : ids ≡ others = cc in
          let all : take k (log ++ Erased own ids ∷ []) ≡ log =
          take_at log (Erased own ids ∷ []) k (sym last.0) in
          rw (all, sym same) more
      | inr earlier ↦
          rw (is_earlier log (Erased own ids) (Erased i others) k earlier)
          (each k i others earlier)
    ]

pub deletes_erase : (log : List Step) (own : ℕ) (ids : List ℤ) → DeletesSome log → ids ≢ [] →
    DeletesSome (log ++ Erased own ids ∷ [])
deletes_erase log own ids deletes some =
    each_erased_erase (λ before them. them ≢ []) log own ids deletes some

pub each_added_erase : (P : Live → Clause → List ℤ → Type 0) (formula : Cnf) (log : List Step)
    (own : ℕ) (ids : List ℤ) → EachAdded P formula log →
    EachAdded P formula (log ++ Erased own ids ∷ [])
each_added_erase P formula log own ids each k id clause hints is =
    elim (get-cases log (Erased own ids) (Added id clause hints) k is) [
      | inl last ↦ let both : Erased own ids ≡ Added id clause hints = last.1 in cc
      | inr earlier ↦
          rw (is_earlier log (Erased own ids) (Added id clause hints) k earlier)
          (each k id clause hints earlier)
    ]

added_from_erase : (id own : ℕ) (log : List Step) (ids : List ℤ) → AreAddedFrom id log →
    AreAddedFrom id (log ++ Erased own ids ∷ [])
added_from_erase id own [] ids numbered = tt
added_from_erase id own (Added n c h ∷ log) ids numbered =
    (numbered.0, added_from_erase (suc id) own log ids numbered.1)
added_from_erase id own (Erased n others ∷ log) ids numbered =
    added_from_erase id own log ids numbered

pub numbered_erase : (id own : ℕ) (log : List Step) (ids : List ℤ) → AreNumbered id log →
    1 ≤ own → own < id + added_count log → AreNumbered id (log ++ Erased own ids ∷ [])
numbered_erase id own [] ids numbered some below = (some, omega (arith, below), tt)
numbered_erase id own (Added n c h ∷ log) ids numbered some below =
    (numbered.0, numbered_erase (suc id) own log ids numbered.1 some (omega (arith, below)))
numbered_erase id own (Erased n others ∷ log) ids numbered some below =
    (numbered.0, numbered.1, numbered_erase id own log ids numbered.2 some below)

pub added_count-erase : (log : List Step) (own : ℕ) (ids : List ℤ) →
    added_count (log ++ Erased own ids ∷ []) ≡ added_count log
added_count-erase [] own ids = refl
added_count-erase (Added n c h ∷ log) own ids = ap suc (added_count-erase log own ids)
added_count-erase (Erased n others ∷ log) own ids = added_count-erase log own ids

module _ {search new : SearchValue} {formula : Cnf} {log : List Step} {ids : List ℤ} (own : ℕ)
    (stands : StandsFor search formula log) (deletes : Deletes search new ids) where
  named_live : All (IsNamed (live_after formula log)) ids
  named_live k d within =
      let c = deletes.named k d within in
      let x = named_kept search.clauses (live_after formula log) stands.clauses.are_live
      (get_or ids k d) c.0 c.1 in
      (x.0, x.1)

  over : All (IsAbove (length formula.clauses)) ids
  over k d within =
      subst (λ (m : ℕ). IsAbove m (get_or ids k d)) stands.inputs (deletes.added k d within)

  pub open_erased : IsOpenLog formula log → IsOpenLog formula (log ++ Erased own ids ∷ [])
  open_erased is = record {
    good = good_behind (inputs formula) log (Erased own ids ∷ []) is.good
        (different_erased (live_after formula log) ids named_live deletes.apart, tt);
    none_empty = All-push (λ (step : Step). is_empty_clause step ≡ false) log (Erased own ids)
        is.none_empty refl;
    numbered = added_from_erase (suc (length formula.clauses)) own log ids is.numbered;
    new = each_added_erase (λ live c h. c ≢ [] → IsSimple formula.vars c × IsFresh live c) formula
        log own ids is.new;
    spares = each_erased_erase (λ before them. All (IsAbove (length formula.clauses)) them) log own
        ids is.spares over;
  }

  pub sparse_erased : Sparse log → 1000 * suc (deletions log) ≤ added_since 0 log →
      Sparse (log ++ Erased own ids ∷ [])
  sparse_erased sparse late =
      let m : ℕ = length formula.clauses in
      let same = above_steps m log [] (inputs formula) (above_start formula) in
      let good : erase_fault (fold after [] log) ids ≡ None =
      different_erased (fold after [] log) ids
      (λ k d within. named_above m (fold after [] log) (live_after formula log) same
      (get_or ids k d) (over k d within) (named_live k d within)) deletes.apart in
      each_erased_erase (λ before them. (erase_fault (fold after [] before) them ≡ None)
      × (1000 * suc (deletions before) ≤ added_since 0 before)) log own ids sparse (good, late)

  pub stands_erased : StandsFor new formula (log ++ Erased own ids ∷ [])
  stands_erased = record {
    vars = deletes.same_vars ∙ stands.vars;
    inputs = deletes.same_inputs ∙ stands.inputs;
    added = deletes.same_added ∙ stands.added ∙ sym (added_count-erase log own ids);
    clauses = rw (live_after-push formula log (Erased own ids))
        (kept_alike (erase search.clauses ids) new.clauses (erase (live_after formula log) ids)
        (erase (live_after formula log) ids) deletes.clauses (λ n. refl)
        (kept_erase search.clauses (live_after formula log) ids stands.clauses));
  }

-- HOW MANY DELETIONS

since-push : (n : ℕ) (log : List Step) (id : ℕ) (clause : Clause) (hints : List ℤ) →
    added_since n (log ++ Added id clause hints ∷ []) ≡ suc (added_since n log)
since-push n [] id clause hints = refl
since-push n (Added i c h ∷ log) id clause hints = since-push (suc n) log id clause hints
since-push n (Erased i ids ∷ log) id clause hints = since-push 0 log id clause hints

since-erase : (n : ℕ) (log : List Step) (own : ℕ) (ids : List ℤ) →
    added_since n (log ++ Erased own ids ∷ []) ≡ 0
since-erase n [] own ids = refl
since-erase n (Added i c h ∷ log) own ids = since-erase (suc n) log own ids
since-erase n (Erased i others ∷ log) own ids = since-erase 0 log own ids

deletions-erase : (log : List Step) (own : ℕ) (ids : List ℤ) →
    deletions (log ++ Erased own ids ∷ []) ≡ suc (deletions log)
deletions-erase [] own ids = refl
deletions-erase (Added i c h ∷ log) own ids = deletions-erase log own ids
deletions-erase (Erased i others ∷ log) own ids = ap suc (deletions-erase log own ids)

-- a clause is added
pub deletions_added : (log : List Step) (d : DeletionState) (id : ℕ) (clause : Clause)
    (hints : List ℤ) → AreDeletions log d → AreDeletions (log ++ Added id clause hints ∷ []) d
deletions_added log d id clause hints are = record {
  count = deletions-push log id clause hints ∙ are.count;
  added = omega
      (arith, are.added, since-push 0 log id clause hints, added_count-push log id clause hints);
}

-- clauses are deleted
pub deletions_erase : (log : List Step) (d : DeletionState) (own : ℕ) (ids : List ℤ) →
    AreDeletions log d → AreDeletions (log ++ Erased own ids ∷ [])
    (record { count = suc d.count; added = added_count log })
deletions_erase log d own ids are = record {
  count = deletions-erase log own ids ∙ ap suc are.count;
  added = omega (arith, since-erase 0 log own ids, added_count-erase log own ids);
}
