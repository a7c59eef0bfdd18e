-- Clauses that were added one behind another, told by their places.
use Rattle.std.specs.Prelude.{◌≡◌, ℕ, ◌+◌, ◌*◌, ◌<◌}
use Rattle.sat_clause.specs.Literal.{Clause}
use Rattle.sat_count.specs.Places.{pair_place, pairs_below}
use Rattle.sat_count.specs.Refuting.{Grows, Holds, IsMeaning, RefutationState}

-- so many clauses were added
pub record AddsRow (old new : RefutationState) (count : ℕ) (clause : ℕ → Clause) : Type 0 where
  pub last : new.last_id ≡ old.last_id + count
  pub variables : new.last_variable ≡ old.last_variable
  pub holds : (k : ℕ) → k < count → Holds new (old.last_id + k + 1) (clause k)
  pub grows : Grows old new

-- so many rows of clauses were added
pub record AddsRows (old new : RefutationState) (rows width : ℕ) (clause : ℕ → ℕ → Clause)
    : Type 0 where
  pub last : new.last_id ≡ old.last_id + rows * width
  pub variables : new.last_variable ≡ old.last_variable
  pub holds : (i k : ℕ) → i < rows → k < width
      → Holds new (old.last_id + (i * width + k) + 1) (clause i k)
  pub grows : Grows old new

-- for each two of so many slots, the lower one first, and each track a clause was added
pub record AddsPairs (old new : RefutationState) (slots tracks : ℕ) (clause : ℕ → ℕ → ℕ → Clause)
    : Type 0 where
  pub last : new.last_id ≡ old.last_id + pairs_below slots * tracks
  pub variables : new.last_variable ≡ old.last_variable
  pub holds : (lower higher track : ℕ) → lower < higher → higher < slots → track < tracks
      → Holds new (old.last_id + pair_place tracks lower higher track + 1)
      (clause lower higher track)
  pub grows : Grows old new

-- so many variables were defined
pub record DefinesRow (old new : RefutationState) (count : ℕ) (kept moved given : ℕ → ℕ)
    : Type 0 where
  pub last : new.last_id ≡ old.last_id + 4 * count
  pub variables : new.last_variable ≡ old.last_variable + count
  pub meaning : (k : ℕ) → k < count → IsMeaning new (old.last_id + 4 * k)
      (old.last_variable + k) (kept k) (moved k) (given k)
  pub grows : Grows old new

-- so many rows of variables were defined
pub record DefinesRows (old new : RefutationState) (rows width : ℕ) (kept moved given : ℕ → ℕ → ℕ)
    : Type 0 where
  pub last : new.last_id ≡ old.last_id + 4 * (rows * width)
  pub variables : new.last_variable ≡ old.last_variable + rows * width
  pub meaning : (i k : ℕ) → i < rows → k < width
      → IsMeaning new (old.last_id + 4 * (i * width + k)) (old.last_variable + (i * width + k))
      (kept i k) (moved i k) (given i k)
  pub grows : Grows old new
