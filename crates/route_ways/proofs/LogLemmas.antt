-- The log of a search reads back as it is printed, deletions and all.
use Rattle.std.proofs.Common.{◌≡◌, ◌≢◌, ◌==◌, ℕ, zero, suc, ◌+◌, ◌≤◌, ℤ, pos, negsuc, Bool, true, false, cond, List, [], ◌∷◌, length, slice_get, take, Option, Some, None, refl, sym, subst, ◌∙◌, All, arith}
use Rattle.std.specs.Prelude.{fold, is_some, max}
use Rattle.std.proofs.lemmas.List.Elements.{All-cons, All-nil}
use Rattle.sat_clause.specs.declared.cause.Cause.TheVariants.{DeletesNotLive}
use Rattle.sat_clause.specs.declared.limits.TheConstants.{ID_LIMIT, VARIABLE_LIMIT}
use Rattle.sat_clause.specs.Formula.{Cnf}
use Rattle.sat_clause.specs.Judge.{after, erase, erase_fault, take_out}
use Rattle.sat_clause.specs.Literal.{Clause, IsWithin}
use Rattle.sat_clause.specs.Live.{Live, clause_at, named, put}
use Rattle.sat_clause.specs.Step.{Step, Added, Erased}
use Rattle.sat_clause.proofs.LiveLaws.{clause_at-without}
use Rattle.sat_clause.specs.Learned.{IsFresh, IsSimple, added_count}
use Rattle.sat_core.specs.Kept.{AreBelow}
use Rattle.sat_core.specs.SearchLog.{AreNumbered, IsEarlier, IsSearchLog}
use Rattle.sat_core.proofs.KeptLaws.{put_below}
use Rattle.sat_text.specs.LratText.{ReadsLrat}
use Rattle.sat_text.specs.Printed.{log_text}
use Rattle.sat_text.specs.ReadBack.{IsIdNumber, IsPrintableLog}
use Rattle.sat_text.proofs.LogBack.{printed_log_reads}

-- each added clause is of these variables, and has earlier hints
abbrev AreOfSearch : ℕ → List Step → Type 0
AreOfSearch vars steps = (k id : ℕ) (clause : Clause) (hints : List ℤ) → slice_get steps k
    ≡ Some (Added id clause hints) → All (IsWithin vars) clause × All (IsEarlier id) hints

-- each deletion names added clauses that are live, where these are at the start
abbrev NameLive : Live → List Step → Type 0
NameLive live steps = (k id : ℕ) (ids : List ℤ) → slice_get steps k ≡ Some (Erased id ids)
    → erase_fault (fold after live (take k steps)) ids ≡ None

learned-within : (vars : ℕ) (live : Live) (clause : Clause)
    → (clause ≢ [] → IsSimple vars clause × IsFresh live clause) → All (IsWithin vars) clause
learned-within vars live [] h = λ k d inside. absurd (omega (arith, inside))
learned-within vars live (l ∷ ls) h = (h (λ e. cc)).0.within

of-search : (formula : Cnf) (log : List Step) → IsSearchLog formula log
    → AreOfSearch formula.vars log
of-search formula log h =
    λ k id clause hints here. (
      learned-within formula.vars _ clause
          (h.new k id clause hints here),
      h.earlier k id clause hints here,
    )

within-more : (n m : ℕ) (clause : Clause) → n ≤ m → All (IsWithin n) clause
    → All (IsWithin m) clause
within-more n m clause more h = λ k d inside. let w =
    h k d inside in (w.0, omega (arith, w.1, more))

earlier-ids : (id : ℕ) (hints : List ℤ) → id ≤ ID_LIMIT → All (IsEarlier id) hints
    → All IsIdNumber hints
earlier-ids id hints few h = λ k d inside. let e = h k d inside in
    record { id = e.number; is = e.is; some = e.some; few = omega (arith, e.before, few) }

-- what is taken out of live clauses leaves ids below this one
out-below : (id : ℕ) (live : Live) (out : ℤ) → AreBelow id live → AreBelow id (take_out live out)
out-below id live (pos out) below n c at = by (out == n) (sym (clause_at-without live out n) ∙ at)
  where
    by : (b : Bool) → cond b None (clause_at live n) ≡ Some c → (1 ≤ n) × (suc n ≤ id)
    by true at = cc
    by false at = below n c at
out-below id live (negsuc out) below n c at = below n c at

erase-below : (id : ℕ) (live : Live) (ids : List ℤ) → AreBelow id live
    → AreBelow id (erase live ids)
erase-below id live [] below = below
erase-below id live (out ∷ ids) below =
    erase-below id (take_out live out) ids (out-below id live out below)

-- what names a live clause is an id
live-id : (above : ℕ) (live : Live) (name : ℤ) → above ≤ ID_LIMIT → AreBelow (suc above) live
    → is_some (named live name) ≡ true → IsIdNumber name
live-id above live (pos zero) few below live_there = cc
live-id above live (pos (suc n)) few below live_there =
    by (clause_at live (suc n)) live_there (below (suc n)) where
      by : (at : Option Clause) → is_some at ≡ true
          → ((c : Clause) → at ≡ Some c → (1 ≤ suc n) × (suc (suc n) ≤ suc above))
          → IsIdNumber (pos (suc n))
      by None none old = cc
      by (Some c) some old = let w = old c refl in record {
        id = suc n;
        is = refl;
        some = w.0;
        few = omega (arith, w.1, few);
      }
live-id above live (negsuc n) few below live_there = cc

-- one id more, by whether it names a live clause
erased-id : (above : ℕ) (live : Live) (name : ℤ) (ids : List ℤ) → above ≤ ID_LIMIT
    → AreBelow (suc above) live → (b : Bool) → is_some (named live name) ≡ b
    → (erase_fault (take_out live name) ids ≡ None → All IsIdNumber ids)
    → cond b (erase_fault (take_out live name) ids) (Some DeletesNotLive) ≡ None
    → All IsIdNumber (name ∷ ids)
erased-id above live name ids few below true there others good =
    All-cons IsIdNumber name ids (live-id above live name few below there) (others good)
erased-id above live name ids few below false gone others good = cc

erased-ids : (above : ℕ) (live : Live) (ids : List ℤ) → above ≤ ID_LIMIT
    → AreBelow (suc above) live → erase_fault live ids ≡ None → All IsIdNumber ids
erased-ids above live [] few below good = All-nil IsIdNumber
erased-ids above live (name ∷ ids) few below good =
    erased-id above live name ids few below (is_some (named live name)) refl
    (erased-ids above (take_out live name) ids few (out-below (suc above) live name below)) good

higher : (a b : ℕ) → b ≡ suc a → max a b ≡ suc a
higher a b e = omega (arith, e)

printable : (vars above : ℕ) (live : Live) (steps : List Step) → vars ≤ VARIABLE_LIMIT
    → AreNumbered (suc above) steps → above + added_count steps ≤ ID_LIMIT
    → AreBelow (suc above) live → AreOfSearch vars steps → NameLive live steps
    → IsPrintableLog above steps
printable vars above live [] few numbered room below each names = tt
printable vars above live (Added id clause hints ∷ steps) few numbered room below each names =
    let here = each 0 id clause hints refl in
    let top : id ≤ ID_LIMIT = omega (arith, numbered.0, room) in
    let below_more : AreBelow (suc (suc above)) (put live id clause) =
    subst (λ (n : ℕ). AreBelow (suc (suc above)) (put live n clause)) (sym numbered.0)
    (put_below (suc above) live clause (omega arith) below) in
    let next : IsPrintableLog (suc above) steps =
    printable vars (suc above) (put live id clause) steps few numbered.1 (omega (arith, room))
    below_more (λ k. each (suc k)) (λ k. names (suc k)) in (
      (
        omega (arith, numbered.0),
        top,
        within-more vars VARIABLE_LIMIT clause few here.0,
        earlier-ids id hints top here.1,
      ),
      subst (λ (n : ℕ). IsPrintableLog n steps) (sym (higher above id numbered.0)) next,
    )
printable vars above live (Erased id ids ∷ steps) few numbered room below each names = (
  (
    numbered.0,
    omega (arith, numbered.1, room),
    erased-ids above live ids (omega (arith, room)) below (names 0 id ids refl),
  ),
  printable vars above (erase live ids) steps few numbered.2 room
      (erase-below (suc above) live ids below) (λ k. each (suc k)) (λ k. names (suc k)),
)

none-below : (id : ℕ) → AreBelow id []
none-below id n c at = cc

module _ (formula : Cnf) (log : List Step) (budget : ℕ) (few : formula.vars ≤ VARIABLE_LIMIT)
    (room : length formula.clauses + budget ≤ ID_LIMIT) (search : IsSearchLog formula log)
    (within : added_count log ≤ budget) where
  -- the log of a search can be printed
  pub log-printable : IsPrintableLog (length formula.clauses) log
  log-printable = printable formula.vars (length formula.clauses) [] log few search.numbered
      (omega (arith, room, within)) (none-below (suc (length formula.clauses)))
      (of-search formula log search) (λ k id ids here. (search.sparse k id ids here).0)

  -- so it reads back
  pub log-reads : ReadsLrat (length formula.clauses) (log_text log) log
  log-reads = printed_log_reads (length formula.clauses) log log-printable
