-- The needed steps of an accepted log are a trimmed log.
use Rattle.std.proofs.Common.{◌≡◌, ℕ, zero, suc, ℤ, pos, negsuc, Bool, true, false, cond, ◌==◌, List, [], ◌∷◌, take, Option, None, Some, refl, sym, ap, subst, ◌∙◌, inl, inr, Any}
use Rattle.std.specs.Prelude.{⊤, fold, slice_get}
use Rattle.std.specs.List.{list_any}
use Rattle.std.specs.Ordering.{int_eq}
use Rattle.std.proofs.lemmas.Bool.{false≢true, or_left, or_right}
use Rattle.std.proofs.lemmas.Bool.Decides.{Decides-eqb, Decides-int_eq}
use Rattle.std.proofs.lemmas.List.Folds.{Any-from_list_any}
use Rattle.list_laws.proofs.Members.{In, In-any, any-from_In}
use Rattle.sat_clause.specs.declared.cause.Cause.{Cause}
use Rattle.sat_clause.specs.declared.literal.Lit.{Lit}
use Rattle.sat_clause.specs.declared.reading.Reading.{Reading}
use Rattle.sat_clause.specs.declared.reading.Reading.TheVariants.{Conflict, Unit, Satisfied, Unresolved}
use Rattle.sat_clause.specs.Formula.{Cnf}
use Rattle.sat_clause.specs.Judge.{Accepted, after, erase, fault, inputs, judge_from, judge_step, take_out}
use Rattle.sat_clause.specs.Learned.{EachIsUsed, HintHas}
use Rattle.sat_clause.specs.Literal.{Clause, negation}
use Rattle.sat_clause.specs.Live.{Live, clause_at, named, put}
use Rattle.sat_clause.specs.Rup.{Reads, follow, lead_on, reading_of, rup}
use Rattle.sat_clause.specs.Step.{Step, Added, Erased}
use Rattle.sat_clause.proofs.JudgeLaws.{accepted_by_parts, accepted_parts, refused_not_accepted}
use Rattle.sat_clause.proofs.LiveLaws.{clause_at-without}
use Rattle.route_core.specs.Blamed.{is_hint}
use Rattle.route_core.specs.Needed.{needed_from}
use Rattle.route_core.specs.Trimmed.{AddAlone, AreFrom, EachIsNamed, EndsEmpty, IsSubList, IsTrimmed, has_hint}
use Rattle.route_core.specs.Trimming.{TrimsWell, needed_steps, step_if, trimmed_of}
use Rattle.route_core.proofs.NeededLemmas.{needed-part, needed-serves}

-- ---- where the used clauses are live too

-- under the ids that are hints, what is live in the first list is live in the second
abbrev Keeps : List Step → Live → Live → Type 0
Keeps steps live other = (id : ℕ) (clause : Clause) → is_hint steps id ≡ true
    → clause_at live id ≡ Some clause → clause_at other id ≡ Some clause

-- the same of some hints
abbrev KeepsHints : List ℤ → Live → Live → Type 0
KeepsHints hints live other = (id : ℕ) (clause : Clause)
    → list_any (λ g. int_eq g (pos id)) hints ≡ true
    → clause_at live id ≡ Some clause → clause_at other id ≡ Some clause

module _ (live other : Live) where
  named-kept : (g : ℤ) (hints : List ℤ) (clause : Clause) → KeepsHints (g ∷ hints) live other
      → named live g ≡ Some clause → named other g ≡ Some clause
  named-kept (pos zero) hints clause keeps is = cc
  named-kept (pos (suc n)) hints clause keeps is =
      keeps (suc n) clause (or_left _ _ ((Decides-int_eq (pos (suc n)) (pos (suc n))).1 refl)) is
  named-kept (negsuc n) hints clause keeps is = cc

  keeps-later : (g : ℤ) (hints : List ℤ) → KeepsHints (g ∷ hints) live other
      → KeepsHints hints live other
  keeps-later g hints keeps id clause is at = keeps id clause (or_right _ _ is) at

  -- hints that lead to a false clause do so there too
  rup-kept : (set : List Lit) (hints : List ℤ) → KeepsHints hints live other
      → rup live set hints ≡ None → rup other set hints ≡ None
  rup-kept set [] keeps h = h
  rup-kept set (g ∷ hints) keeps h = at (named live g) refl h
      (λ l e. rup-kept (negation l ∷ set) hints (keeps-later g hints keeps) e)
    where
      by : (r : Reading) → lead_on r hints (λ l. rup live (negation l ∷ set) hints) ≡ None
          → ((l : Lit) → rup live (negation l ∷ set) hints ≡ None
          → rup other (negation l ∷ set) hints ≡ None)
          → lead_on r hints (λ l. rup other (negation l ∷ set) hints) ≡ None
      by Conflict e more = e
      by (Unit l) e more = more l e
      by Satisfied e more = cc
      by Unresolved e more = cc

      at : (o : Option Clause) → named live g ≡ o
          → follow set o hints (λ l. rup live (negation l ∷ set) hints) ≡ None
          → ((l : Lit) → rup live (negation l ∷ set) hints ≡ None
          → rup other (negation l ∷ set) hints ≡ None)
          → follow set (named other g) hints (λ l. rup other (negation l ∷ set) hints) ≡ None
      at None e f more = cc
      at (Some c) e f more =
          ap (λ (o : Option Clause). follow set o hints
          (λ l. rup other (negation l ∷ set) hints)) (named-kept g hints c keeps e)
          ∙ by (reading_of set c) f more

  has-kept : (l : Lit) (hints : List ℤ) → KeepsHints hints live other
      → Any (HintHas live l) hints → Any (HintHas other l) hints
  has-kept l hints keeps any =
      let found = In-any (HintHas live l) hints any in
      let at = found.2 in
      any-from_In (HintHas other l) hints found.0 found.1
      (at.0, one found.0 hints at.0 keeps found.1 at.1, at.2)
    where
      one : (g : ℤ) (hs : List ℤ) (c : Clause) → KeepsHints hs live other → In hs g
          → named live g ≡ Some c → named other g ≡ Some c
      one g (h ∷ hs) c k (inl e) is =
          named-kept g hs c (subst (λ (x : ℤ). KeepsHints (x ∷ hs) live other) e k) is
      one g (h ∷ hs) c k (inr i) is = one g hs c (keeps-later h hs k) i is
      one g [] c k i is = absurd i

  used-kept : (set : List Lit) (hints : List ℤ) → KeepsHints hints live other
      → EachIsUsed live set hints → EachIsUsed other set hints
  used-kept set [] keeps used = tt
  used-kept set (g ∷ []) keeps used = tt
  used-kept set (g ∷ next ∷ hints) keeps used = (
    used.0,
    reads (named live g) refl used.1,
    has-kept (negation used.0) (next ∷ hints) (keeps-later g (next ∷ hints) keeps) used.2,
    used-kept (negation used.0 ∷ set) (next ∷ hints) (keeps-later g (next ∷ hints) keeps) used.3,
  )
    where
      reads : (o : Option Clause) → named live g ≡ o → Reads set o (Unit used.0)
          → Reads set (named other g) (Unit used.0)
      reads None e r = absurd r
      reads (Some c) e r = subst (λ (o : Option Clause). Reads set o (Unit used.0))
          (sym (named-kept g (next ∷ hints) c keeps e)) r

-- ---- one step more

-- each hint of each added step is used
abbrev UsedFrom : Live → List Step → Type 0
UsedFrom live [] = ⊤
UsedFrom live (Added id clause hints ∷ steps) =
    EachIsUsed live clause hints × UsedFrom (put live id clause) steps
UsedFrom live (Erased id ids ∷ steps) = UsedFrom (erase live ids) steps

-- what is shown of the needed steps, over any clauses that keep those that they use
pub record IsTrimming (log small : List Step) (n : ℕ) (live : Live) : Type 0 where
  pub add_alone : AddAlone small
  pub from : AreFrom small log
  pub ends_empty : EndsEmpty small
  pub each_named : EachIsNamed small
  pub accepted : (other : Live) → Keeps small live other → judge_from n other small ≡ Accepted
  pub used : (other : Live) → Keeps small live other → UsedFrom other small

ends-more : (id : ℕ) (clause : Clause) (hints : List ℤ) (later : List Step) → EndsEmpty later
    → EndsEmpty (Added id clause hints ∷ later)
ends-more id clause hints [] h = absurd h
ends-more id clause hints (s ∷ later) h = h

named-more : (id : ℕ) (clause : Clause) (hints : List ℤ) (later : List Step)
    → is_hint later id ≡ true → EndsEmpty later → EachIsNamed later
    → EachIsNamed (Added id clause hints ∷ later)
named-more id clause hints [] is ends h = absurd ends
named-more id clause hints (s ∷ later) is ends h =
    (Any-from_list_any (has_hint (pos id)) (s ∷ later) is, h)

from-skip : (id : ℕ) (clause : Clause) (hints : List ℤ) (small log : List Step)
    → AreFrom small log → AreFrom small (Added id clause hints ∷ log)
from-skip id clause hints [] log h = tt
from-skip id clause hints (s ∷ small) log h = inr h

from-erased : (id : ℕ) (ids : List ℤ) (small log : List Step)
    → AreFrom small log → AreFrom small (Erased id ids ∷ log)
from-erased id ids [] log h = tt
from-erased id ids (s ∷ small) log h = h

-- what is live behind a deletion was live before
pub erased-was : (live : Live) (ids : List ℤ) (q : ℕ) (clause : Clause)
    → clause_at (erase live ids) q ≡ Some clause → clause_at live q ≡ Some clause
erased-was live [] q clause h = h
erased-was live (x ∷ ids) q clause h = one x (erased-was (take_out live x) ids q clause h)
  where
    go : (b : Bool) → cond b None (clause_at live q) ≡ Some clause
        → clause_at live q ≡ Some clause
    go true e = cc
    go false e = e

    one : (z : ℤ) → clause_at (take_out live z) q ≡ Some clause → clause_at live q ≡ Some clause
    one (pos n) e = go (n == q) (sym (clause_at-without live n q) ∙ e)
    one (negsuc n) e = e

module _ (live other : Live) (id : ℕ) (clause : Clause) (later : List Step) where
  -- a step that is kept is put into both
  keeps-put : Keeps later live other → Keeps later (put live id clause) (put other id clause)
  keeps-put keeps q c is at = go (q == id) at
    where
      go : (b : Bool) → cond b (Some clause) (clause_at live q) ≡ Some c
          → cond b (Some clause) (clause_at other q) ≡ Some c
      go true e = e
      go false e = keeps q c is e

  -- a step that is not kept is no hint
  keeps-left : is_hint later id ≡ false → Keeps later live other
      → Keeps later (put live id clause) other
  keeps-left none keeps q c is at = go (q == id) refl at
    where
      go : (b : Bool) → (q == id) ≡ b → cond b (Some clause) (clause_at live q) ≡ Some c
          → clause_at other q ≡ Some c
      go true e f = absurd (false≢true (sym none
          ∙ subst (λ (k : ℕ). is_hint later k ≡ true) ((Decides-eqb q id).0 e) is))
      go false e f = keeps q c is f

module _ (live other : Live) (id : ℕ) (clause : Clause) (hints : List ℤ) (later : List Step)
    (keeps : Keeps (Added id clause hints ∷ later) live other) where
  keeps-hints : KeepsHints hints live other
  keeps-hints q c is at = keeps q c (or_left _ _ is) at

  keeps-behind : Keeps later live other
  keeps-behind q c is at = keeps q c (or_right _ _ is) at

-- the last step
trims-last : (m : ℕ) (live : Live) (id : ℕ) (hints : List ℤ) (steps : List Step)
    → rup live [] hints ≡ None
    → IsTrimming (Added id [] hints ∷ steps)
    (Added id [] (needed_from live [] hints).hints ∷ []) m live
trims-last m live id hints steps good =
    let kept : List ℤ = (needed_from live [] hints).hints in
    let served = needed-serves live [] hints good in
    record {
      add_alone = tt;
      from = inl ((refl, refl, needed-part live [] hints), tt);
      ends_empty = refl;
      each_named = tt;
      accepted = λ other keeps.
          ap (λ (o : Option Cause). judge_step m o true
          (judge_from (suc m) (put other id []) []))
          (rup-kept live other [] kept (keeps-hints live other id [] kept [] keeps) served.good);
      used = λ other keeps. (
        used-kept live other [] kept (keeps-hints live other id [] kept [] keeps) served.used,
        tt,
      );
    }

-- a step that adds a clause which is not empty
trims-step : (m : ℕ) (live : Live) (id : ℕ) (l : Lit) (ls : List Lit) (hints : List ℤ)
    (log later : List Step) → rup live (l ∷ ls) hints ≡ None
    → ((k : ℕ) → IsTrimming log later k (put live id (l ∷ ls)))
    → (b : Bool) → is_hint later id ≡ b
    → IsTrimming (Added id (l ∷ ls) hints ∷ log)
    (step_if b (Added id (l ∷ ls) (needed_from live (l ∷ ls) hints).hints) later) m live
trims-step m live id l ls hints log later good rest true is =
    let clause : Clause = l ∷ ls in
    let kept : List ℤ = (needed_from live clause hints).hints in
    let served = needed-serves live clause hints good in
    let r = rest (suc m) in
    record {
      add_alone = r.add_alone;
      from = inl ((refl, refl, needed-part live clause hints), r.from);
      ends_empty = ends-more id clause kept later r.ends_empty;
      each_named = named-more id clause kept later is r.ends_empty r.each_named;
      accepted = λ other keeps. accepted_by_parts fault m other (Added id clause kept) later
          (record {
            good = rup-kept live other clause kept
                (keeps-hints live other id clause kept later keeps) served.good;
            rest = λ on. r.accepted (put other id clause) (keeps-put live other id clause later
                (keeps-behind live other id clause kept later keeps));
          });
      used = λ other keeps. (
        used-kept live other clause kept (keeps-hints live other id clause kept later keeps)
            served.used,
        r.used (put other id clause) (keeps-put live other id clause later
            (keeps-behind live other id clause kept later keeps)),
      );
    }
trims-step m live id l ls hints log later good rest false is =
    let clause : Clause = l ∷ ls in
    let r = rest m in
    record {
      add_alone = r.add_alone;
      from = from-skip id clause hints later log r.from;
      ends_empty = r.ends_empty;
      each_named = r.each_named;
      accepted = λ other keeps.
          r.accepted other (keeps-left live other id clause later is keeps);
      used = λ other keeps. r.used other (keeps-left live other id clause later is keeps);
    }

trims-erased : (m : ℕ) (live : Live) (id : ℕ) (ids : List ℤ) (log small : List Step)
    → IsTrimming log small m (erase live ids) → IsTrimming (Erased id ids ∷ log) small m live
trims-erased m live id ids log small r = record {
  add_alone = r.add_alone;
  from = from-erased id ids small log r.from;
  ends_empty = r.ends_empty;
  each_named = r.each_named;
  accepted = λ other keeps.
      r.accepted other (λ q c is at. keeps q c is (erased-was live ids q c at));
  used = λ other keeps. r.used other (λ q c is at. keeps q c is (erased-was live ids q c at));
}

trims : (n : ℕ) (live : Live) (log : List Step) → judge_from n live log ≡ Accepted → (m : ℕ)
    → IsTrimming log (needed_steps live log) m live
trims n live [] h m = absurd (refused_not_accepted h)
trims n live (Added id [] hints ∷ log) h m =
    let parts = accepted_parts fault n live (Added id [] hints) log h in
    trims-last m live id hints log parts.good
trims n live (Added id (l ∷ ls) hints ∷ log) h m =
    let parts = accepted_parts fault n live (Added id (l ∷ ls) hints) log h in
    trims-step m live id l ls hints log (needed_steps (put live id (l ∷ ls)) log) parts.good
    (λ k. trims (suc n) (put live id (l ∷ ls)) log (parts.rest refl) k)
    (is_hint (needed_steps (put live id (l ∷ ls)) log) id) refl
trims n live (Erased id ids ∷ log) h m =
    let parts = accepted_parts fault n live (Erased id ids) log h in
    trims-erased m live id ids log (needed_steps (erase live ids) log)
    (trims (suc n) (erase live ids) log (parts.rest refl) m)

-- ---- each added step by its place

abbrev clause_of : Step → Clause
clause_of (Added id clause hints) = clause
clause_of (Erased id ids) = []

abbrev hints_of : Step → List ℤ
hints_of (Added id clause hints) = hints
hints_of (Erased id ids) = ids

each-used : (live : Live) (small : List Step) → UsedFrom live small → (k id : ℕ) (clause : Clause)
    (hints : List ℤ) → slice_get small k ≡ Some (Added id clause hints)
    → EachIsUsed (fold after live (take k small)) clause hints
each-used live [] used k id clause hints h = cc
each-used live (Added i c gs ∷ small) used zero id clause hints h =
    let same : Added i c gs ≡ Added id clause hints = cc in
    subst (λ (d : Clause). EachIsUsed live d hints) (ap clause_of same)
    (subst (λ (hs : List ℤ). EachIsUsed live c hs) (ap hints_of same) used.0)
each-used live (Added i c gs ∷ small) used (suc k) id clause hints h =
    each-used (put live i c) small used.1 k id clause hints h
each-used live (Erased i ids ∷ small) used zero id clause hints h = cc
each-used live (Erased i ids ∷ small) used (suc k) id clause hints h =
    each-used (erase live ids) small used k id clause hints h

pub trims_well : (formula : Cnf) (log : List Step) → TrimsWell formula log
trims_well formula log accepted =
    let r = trims 1 (inputs formula) log accepted 1 in
    let same : Keeps (trimmed_of formula log) (inputs formula) (inputs formula) =
    (λ id clause is at. at) in
    record {
      accepted = r.accepted (inputs formula) same;
      add_alone = r.add_alone;
      from = r.from;
      ends_empty = r.ends_empty;
      each_named = r.each_named;
      each_used = each-used (inputs formula) (trimmed_of formula log)
          (r.used (inputs formula) same);
    }

-- ---- a trimmed log is its own trimmed log

part-itself : {T : Type 0} (xs : List T) → IsSubList xs xs
part-itself [] = tt
part-itself (x ∷ xs) = inl (refl, part-itself xs)

from-itself : (small : List Step) → AddAlone small → AreFrom small small
from-itself [] alone = tt
from-itself (Added id clause hints ∷ small) alone =
    inl ((refl, refl, part-itself hints), from-itself small alone)
from-itself (Erased id ids ∷ small) alone = absurd alone

pub trimmed_itself : (formula : Cnf) (log small : List Step) → IsTrimmed formula log small
    → IsTrimmed formula small small
trimmed_itself formula log small h = record {
  accepted = h.accepted;
  add_alone = h.add_alone;
  from = from-itself small h.add_alone;
  ends_empty = h.ends_empty;
  each_named = h.each_named;
  each_used = h.each_used;
}
