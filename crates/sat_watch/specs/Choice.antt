-- Which literals of a new clause are watched.
use Rattle.std.specs.Prelude.{◌≡◌, ℕ, zero, suc, ◌<◌, ◌≤◌, true, false, List, [], ◌∷◌, ◌++◌, length, Option, None, Some, IsPermutation, unwrap_or}
use Rattle.sat_clause.specs.Learned.{IsSimple}
use Rattle.sat_clause.specs.Literal.{Clause, negation}
use Rattle.sat_arena.specs.declared.clause_ref.ClauseRef.{ClauseRef}
use Rattle.sat_watch.specs.declared.entry.TrailEntry.{TrailEntry}
use Rattle.sat_watch.specs.Chains.{ChainsState, IsAdded, lit_at}
use Rattle.sat_watch.specs.Watched.{is_false, true_at}
use Rattle.sat_watch.specs.Watches.{WatchState, highest, words_in}

-- the position is the first one from there on whose literal is not false, or there is none
abbrev pub FreeSays : List TrailEntry → Clause → ℕ → Option ℕ → Type 0
FreeSays entries lits from None =
    (k : ℕ) → from ≤ k → k < length lits → is_false entries (lit_at lits k) ≡ true
FreeSays entries lits from (Some k) =
    (from ≤ k) × (k < length lits) × (is_false entries (lit_at lits k) ≡ false)
    × ((p : ℕ) → from ≤ p → p < k → is_false entries (lit_at lits p) ≡ true)

-- the level at which the literal at a position was made false, and 0 where it was not
abbrev pub level_at : List TrailEntry → Clause → ℕ → ℕ
level_at entries lits k = unwrap_or (true_at entries (negation (lit_at lits k))) 0

-- where what stood at position j stands once the literal at position i has changed places with the
-- first
abbrev pub after_first : (i j : ℕ) → ℕ
after_first i zero = i
after_first i (suc j) = suc j

-- a clause was added, with the literal at position i first and that at position j second
pub record IsAhead (old new : ChainsState) (lits : Clause) (id i j : ℕ) (c : ClauseRef) : Type 0
  where
    pub order : Clause
    pub added : IsAdded old new order id c
    pub simple : IsSimple old.vars order
    pub same : IsPermutation lits order
    pub first : lit_at order 0 ≡ lit_at lits i
    pub second : 2 ≤ length lits → lit_at order 1 ≡ lit_at lits j

-- the clause is attached behind the others, in some order of its literals, and this one is then
-- pending
pub record IsAttachedAs (old new : WatchState) (lits : Clause) (id : ℕ) (pending : Option ClauseRef)
    (c : ClauseRef) : Type 0 where
  pub place : c.word ≡ words_in old.clauses
  pub order : Clause
  pub same : IsPermutation lits order
  pub is : new ≡ record old {
    clauses = old.clauses ++ record { place = c; id = id; lits = order } ∷ [];
    pending = pending;
  }

-- the literal at a position is true, at a level not above the highest of the others
abbrev pub IsTrueAt : List TrailEntry → Clause → ℕ → Type 0
IsTrueAt entries lits i =
    (n : ℕ) × (true_at entries (lit_at lits i) ≡ Some n) × (n ≤ highest entries lits)
