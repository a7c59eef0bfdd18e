-- What finders answer beside maps of live clauses.
use Rattle.std.proofs.Common.{◌≡◌, ℕ, suc, ◌<◌, ℤ, pos, negsuc, nat_abs, Bool, true, false, cond, eqb, List, length, take, drop, get_or, All, Option, None, Some, refl, sym, ap, ◌∙◌, arith}
use Rattle.std.specs.Prelude.{is_some, if◌then◌else◌}
use Rattle.std.specs.Option.{option_or}
use lib.Signed.{le_z}
use Rattle.std.proofs.Math.Seq.{drop-cons, take-suc}
use Rattle.std.proofs.lemmas.Bool.{both_ways}
use Rattle.std.proofs.lemmas.Bool.Decides.{nat_tests}
use Rattle.std.proofs.lemmas.List.Sums.{fold_push}
use Rattle.sat_clause.specs.declared.cause.Cause.TheVariants.{DeletesNotLive}
use Rattle.sat_clause.specs.Literal.{Clause, IsWithin}
use Rattle.sat_clause.specs.Live.{Live, clause_at, named, put, without}
use Rattle.sat_clause.specs.Judge.{erase, erase_fault, take_out}
use Rattle.sat_clause.proofs.LiveLaws.{clause_at-without}
use Rattle.sat_check.specs.Finder.{AllWithin, Changes, Finder, Finds}
use Rattle.sat_check.specs.LiveStore.{joined}

eqb_sym : (a b : ℕ) → eqb a b ≡ eqb b a
eqb_sym a b = grind (arith, nat_tests)

module _ (find new : Finder) (id : ℕ) (live : Live) (finds : Finds find live) where
  -- a clause that comes under an id is put in
  pub finds_put : (clause : Clause) → Changes find new id (Some clause)
      → Finds new (put live id clause)
  finds_put clause changes q =
      changes q ∙ ap (cond (eqb id q) (Some clause)) (finds q)
      ∙ ap (λ b. cond b (Some clause) (clause_at live q)) (eqb_sym id q)

  -- and where there is none any more, it is out
  finds_without : Changes find new id None → Finds new (without live id)
  finds_without changes q =
      changes q ∙ ap (cond (eqb id q) None) (finds q) ∙ sym (clause_at-without live id q)

pub finds_take_out : (find new : Finder) (id : ℤ) → le_z id (pos 0) ≡ false
    → Changes find new (nat_abs id) None →
    (live : Live) → Finds find live → Finds new (take_out live id)
finds_take_out find new (pos n) above changes live finds =
    finds_without find new n live finds changes
finds_take_out find new (negsuc n) above changes live finds = absurd (both_ways true above refl)

-- what goes out of the first and changes in the second changes in both
pub joined_changes : (a b c d : Finder) (id : ℕ) (value : Option Clause) → Changes a b id None
    → Changes c d id value →
    Changes (joined a c) (joined b d) id value
joined_changes a b c d id value out changes q = rw (out q, changes q) (by (eqb id q)) where
  by : (t : Bool) → option_or (cond t None (a q)) (cond t value (c q))
      ≡ cond t value (option_or (a q) (c q))
  by true = refl
  by false = refl

-- one more deletion: the ids that are left have the fault that they had with this one, which was
-- live
module _ (start : Live) (ids : List ℤ) (i : ℕ) (d : ℤ) (below : i < length ids) where
  pub erase_next : erase start (take (suc i) ids)
      ≡ take_out (erase start (take i ids)) (get_or ids i d)
  erase_next = ap (erase start) (take-suc ids i d below)
      ∙ fold_push take_out start (take i ids) (get_or ids i d)

  pub erase_fault_here : (live : Live) → erase_fault live (drop i ids)
      ≡ (if is_some (named live (get_or ids i d)) then erase_fault (take_out live (get_or ids i d))
      (drop (suc i) ids) else Some DeletesNotLive)
  erase_fault_here live = ap (erase_fault live) (drop-cons ids i d below)

-- where a clause of the variables comes, or goes, all are of the variables still
pub within_changes : (n : ℕ) (find new : Finder) (id : ℕ) (value : Option Clause)
    → Changes find new id value →
    ((clause : Clause) → value ≡ Some clause → All (IsWithin n) clause) → AllWithin n find
    → AllWithin n new
within_changes n find new id value changes here within q clause is =
    by (eqb id q) (sym (changes q) ∙ is)
  where
    by : (b : Bool) → cond b value (find q) ≡ Some clause → All (IsWithin n) clause
    by true e = here clause e
    by false e = within q clause e

-- a change of what is the same is the same change
pub changes_same : (old mid new : Finder) (id : ℕ) (value : Option Clause)
    → ((q : ℕ) → mid q ≡ old q) → Changes mid new id value → Changes old new id value
changes_same old mid new id value same changes q =
    changes q ∙ ap (cond (eqb id q) value) (same q)

pub finds_same : (old new : Finder) (live : Live) → ((q : ℕ) → new q ≡ old q) → Finds old live
    → Finds new live
finds_same old new live same finds q = same q ∙ finds q
