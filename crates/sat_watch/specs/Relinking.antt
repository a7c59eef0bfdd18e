-- Clauses that are marked and taken out of an arena, and chains that are made anew.
use Rattle.std.specs.Prelude.{◌≡◌, ℕ, ◌+◌, ◌*◌, ◌^◌, ◌<◌, ◌≤◌, Bool, true, if◌then◌else◌, List, [], ◌∷◌, map, replicate, slice_set, take, Option, None, Some, All}
use Rattle.sat_clause.specs.declared.limits.TheConstants.{VARIABLE_LIMIT}
use Rattle.sat_clause.specs.Learned.{IsSimple}
use Rattle.sat_clause.specs.Literal.{Clause}
use Rattle.sat_arena.specs.declared.clause_ref.ClauseRef.{ClauseRef}
use Rattle.sat_arena.specs.declared.moves.Move.{Move}
use Rattle.sat_arena.specs.Compact.{compacted}
use Rattle.sat_arena.specs.Store.{ArePlaced, Stored, is_held, stored_at, with_link, with_mark}
use Rattle.sat_watch.specs.Chains.{AreUnmarked, IsChained, head_in, is_in}
use Rattle.sat_watch.specs.TrailStore.{place_of}
use Rattle.sat_watch.specs.Watches.{attached}

-- the clauses, of which those with these references are marked, or have their mark taken away
abbrev pub marked : Bool → List ClauseRef → List Stored → List Stored
marked on refs [] = []
marked on refs (k ∷ ks) =
    with_mark (if is_in refs k.place then on else k.mark) k ∷ marked on refs ks

-- what the arena holds once these are taken out
abbrev pub stored_without : List ClauseRef → List Stored → List Stored
stored_without refs ks = compacted (marked true refs ks)

-- a clause with these literals, linked to the first clauses of the chains of its first two
abbrev pub linked : (vars : ℕ) → Clause → List (Option ClauseRef) → Stored → Stored
linked vars [] heads k = k
linked vars (a ∷ []) heads k = k
linked vars (a ∷ b ∷ ls) heads k =
    with_link 1 (head_in vars heads b) (with_link 0 (head_in vars heads a) k)

-- and put first in these chains
abbrev pub heads_with : (vars : ℕ) → Clause → ClauseRef → List (Option ClauseRef) →
    List (Option ClauseRef)
heads_with vars [] c heads = heads
heads_with vars (a ∷ []) c heads = heads
heads_with vars (a ∷ b ∷ ls) c heads =
    slice_set (slice_set heads (place_of vars a) (Some c)) (place_of vars b) (Some c)

-- clauses whose chains are still empty, whatever they link to
pub record AreUnlinked (vars : ℕ) (clauses : List Stored) (heads : List (Option ClauseRef)) : Type 0
  where
    pub few : vars ≤ VARIABLE_LIMIT
    pub empty : heads ≡ replicate (vars * 2 + 1) None
    pub placed : ArePlaced 0 clauses
    pub unmarked : AreUnmarked clauses
    pub simple : (c : ClauseRef) → is_held clauses c ≡ true →
        IsSimple vars (stored_at clauses c).lits

-- of such clauses, which keep references, ids and literals, so many are linked so far
pub record IsRelinking
    (vars : ℕ) (base : List Stored) (count : ℕ) (now : List Stored)
    (heads : List (Option ClauseRef))
    : Type 0 where
  pub same : map attached now ≡ map attached base
  pub placed : ArePlaced 0 now
  pub unmarked : AreUnmarked now
  pub chained : IsChained vars (take count now) heads

-- clauses are moved to words whose numbers have 63 bits at most
abbrev pub AreNear : List Move → Type 0
AreNear moves = All (λ m. m.after.word < 2 ^ 63) moves

-- the pairs lead to the clauses' references, in their order
abbrev pub AreRefsOf : List Stored → List Move → Type 0
AreRefsOf clauses moves = map (λ m. m.after) moves ≡ map (λ k. k.place) clauses
