-- Live clauses and the counts of their literals, where a clause comes or goes.
use Rattle.std.proofs.Common.{◌≡◌, ℕ, zero, suc, ◌+◌, ◌<◌, ◌≤◌, add-one, drop, take, get_or, length, ℤ, pos, negsuc, false, true, List, [], ◌∷◌, Some, refl, sym, ap, ◌∙◌, arith}
use Rattle.sat_clause.specs.declared.literal.Lit.{Lit}
use Rattle.std.specs.Prelude.{is_some}
use Rattle.sat_clause.specs.declared.cause.Cause.TheVariants.{DeletesNotLive}
use Rattle.sat_clause.specs.Judge.{erase, erase_fault, take_out}
use Rattle.sat_clause.specs.Literal.{Clause}
use Rattle.sat_clause.specs.Live.{Live, named, put}
use Rattle.sat_check.specs.Finder.{Finder, Finds, named_by}
use Rattle.sat_check.proofs.FinderLaws.{erase_fault_here, erase_next}
use Rattle.sat_check.proofs.HintLaws.{named_found}
use Rattle.sat_rat.specs.Counts.{AreCounted, count_at, held, times, times_in}
use Rattle.sat_rat.proofs.HeldLaws.{held_split, held_without}

-- what stands in a live clause is counted
pub counted_in : (find : Finder) (live : Live) (counts : List ℕ) → Finds find live →
    AreCounted counts live → (id : ℕ) (l : Lit) →
    times_in l (find id) + held l (id ∷ []) live ≡ count_at counts l
counted_in find live counts finds counted id l =
    let split = held_split l live [] id refl in
    rw (finds id) (omega (arith, split, counted l))

-- a clause comes in place of another
pub counted_put : (find : Finder) (live : Live) (old mid new : List ℕ) → Finds find live →
    AreCounted old live → (id : ℕ) (gone clause : Clause) →
    ((l : Lit) → times l gone ≡ times_in l (find id)) →
    ((l : Lit) → count_at mid l ≡ count_at old l + times l clause) →
    ((l : Lit) → times l gone ≤ count_at mid l → count_at new l + times l gone ≡ count_at mid l) →
    AreCounted new (put live id clause)
counted_put find live old mid new finds counted id gone clause same more less l =
    let split = counted_in find live old finds counted id l in
    let some : times l gone ≤ count_at mid l = omega (arith, split, same l, more l) in
    omega (arith, split, same l, less l some, more l)

-- a clause goes
pub counted_out : (find : Finder) (live : Live) (old new : List ℕ) → Finds find live →
    AreCounted old live → (id : ℤ) (gone : Clause) → Some gone ≡ named_by find id →
    ((l : Lit) → times l gone ≤ count_at old l → count_at new l + times l gone ≡ count_at old l) →
    AreCounted new (take_out live id)
counted_out find live old new finds counted (negsuc n) gone at less l = cc
counted_out find live old new finds counted (pos zero) gone at less l = cc
counted_out find live old new finds counted (pos (suc n)) gone at less l =
    let split = counted_in find live old finds counted (suc n) l in
    let same : times l gone ≡ times_in l (find (suc n)) = ap (times_in l) at in
    let some : times l gone ≤ count_at old l = omega (arith, split, same) in
    let out = held_without l live [] (suc n) in
    omega (arith, split, same, less l some, out)

-- ---- deletions, one id after another

module _ (find : Finder) (start : Live) (ids : List ℤ) (i : ℕ) (below : i < length ids)
    (finds : Finds find (erase start (take i ids))) where
  same_name : named (erase start (take i ids)) (get_or ids i (pos 0))
      ≡ named_by find (get_or ids i (pos 0))
  same_name = named_found find (erase start (take i ids)) finds (get_or ids i (pos 0))

  pub erase_step : true ≡ is_some (named_by find (get_or ids i (pos 0))) →
      erase_fault (erase start (take (i + 1) ids)) (drop (i + 1) ids)
      ≡ erase_fault (erase start (take i ids)) (drop i ids)
  erase_step live_one =
      let here = erase_fault_here start ids i (pos 0) below (erase start (take i ids)) in
      let is : is_some (named (erase start (take i ids)) (get_or ids i (pos 0))) ≡ true =
      ap is_some same_name ∙ sym live_one in
      rw (add-one, erase_next start ids i (pos 0) below, here, is) refl

  pub erase_stop : false ≡ is_some (named_by find (get_or ids i (pos 0))) →
      erase_fault (erase start (take i ids)) (drop i ids) ≡ Some DeletesNotLive
  erase_stop none =
      let here = erase_fault_here start ids i (pos 0) below (erase start (take i ids)) in
      let is : is_some (named (erase start (take i ids)) (get_or ids i (pos 0))) ≡ false =
      ap is_some same_name ∙ sym none in
      rw (here, is) refl

pub erase_more : (start : Live) (ids : List ℤ) (i : ℕ) → i < length ids →
    erase start (take (i + 1) ids) ≡ take_out (erase start (take i ids)) (get_or ids i (pos 0))
erase_more start ids i below = rw add-one (erase_next start ids i (pos 0) below)
