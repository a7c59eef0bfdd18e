-- Tails: the clauses of two literals that a chain comes to at its end, by their other literals.
use Rattle.std.specs.Prelude.{◌≡◌, ℕ, suc, ◌+◌, ◌-◌, ◌<◌, ◌≤◌, true, List, [], ◌∷◌, ◌++◌, length, map, slice_index_or, slice_range, Option, None, Some, All}
use Rattle.sat_clause.specs.declared.literal.Lit.{Lit}
use Rattle.sat_clause.specs.Literal.{IsWithin}
use Rattle.sat_arena.specs.declared.clause_ref.ClauseRef.{ClauseRef}
use Rattle.sat_arena.specs.Store.{Stored, is_held, ref}
use Rattle.sat_watch.specs.Chains.{IsChained, literals, next_on, watch_of}
use Rattle.sat_watch.specs.TrailStore.{place_of}
use Rattle.sat_watch.specs.Watched.{other_of}
use Rattle.sat_watch.specs.declared.tails.TailEnd.{TailEnd}

-- a clause of two literals, this one and the other one
pub record IsPairOf (clauses : List Stored) (l other : Lit) (c : ClauseRef) : Type 0 where
  pub held : is_held clauses c ≡ true
  pub two : length (literals clauses c) ≡ 2
  pub which : ℕ
  pub low : which < 2
  pub own : watch_of (literals clauses c) which ≡ Some l
  pub is_other : watch_of (literals clauses c) (other_of which) ≡ Some other

-- the chain of a literal leads from here over these clauses, which are pairs of it and these other
-- literals, to there
abbrev pub IsTail : List Stored → Lit → (from : Option ClauseRef) → List Lit → List ClauseRef →
    (to : Option ClauseRef) → Type 0
IsTail clauses l from [] [] to = from ≡ to
IsTail clauses l from [] (c ∷ cs) to = ⊥
IsTail clauses l from (o ∷ os) [] to = ⊥
IsTail clauses l from (o ∷ os) (c ∷ cs) to =
    (from ≡ Some c) × IsPairOf clauses l o c
    × ((after : Option ClauseRef) × (next_on clauses l c ≡ Some after)
    × IsTail clauses l after os cs to)

-- the clauses that stand at these words
abbrev pub refs : List ℕ → List ClauseRef
refs words = map ref words

-- the tails of all literals, one behind the other: the other literals, the words at which the
-- clauses stand, and of each tail where it ends and the first of these words
pub record TailTable : Type 0 where
  pub ends : List TailEnd
  pub others : List Lit
  pub words : List ℕ

abbrev pub tail_end : TailTable → ℕ → TailEnd
tail_end t p = slice_index_or t.ends p (record { end = 0; first = 0 })

-- what the tail with this number has of a list: it begins where the one before it ends
abbrev pub part_of : {X : Type 0} → TailTable → ℕ → List X → List X
part_of t p xs = slice_range xs (tail_end t p).end (tail_end t (suc p)).end

-- these literals and words are the tail with this number, which begins with this word
pub record IsPart (t : TailTable) (p word : ℕ) (others : List Lit) (words : List ℕ) : Type 0 where
  pub within : suc p < length t.ends
  pub first : (tail_end t (suc p)).first ≡ word
  pub some : 1 ≤ length others
  pub others_are : others ≡ part_of t p t.others
  pub words_are : words ≡ part_of t p t.words

-- the tail with this number is one of the literal, and its first clause stands at the word that
-- is told
pub record HasTail (clauses : List Stored) (l : Lit) (t : TailTable) (p : ℕ) : Type 0 where
  pub from : Option ClauseRef
  pub is : IsTail clauses l from (part_of t p t.others) (refs (part_of t p t.words)) None
  pub first : (c : ClauseRef) → from ≡ Some c → (tail_end t (suc p)).first ≡ c.word

-- the table has tails of the literals up to some place
pub record HasTails (vars : ℕ) (clauses : List Stored) (t : TailTable) : Type 0 where
  pub many : length t.words ≡ length t.others
  pub low : All (λ e. e.end ≤ length t.others) t.ends
  pub last : (tail_end t (length t.ends - 1)).end ≡ length t.others
  pub tails : (l : Lit) → IsWithin vars l → suc (place_of vars l) < length t.ends →
      HasTail clauses l t (place_of vars l)

-- one more tail behind the others, of these literals and the clauses at these words
abbrev pub with_tail : List Lit → List ℕ → TailTable → TailTable
with_tail others words t = record {
  ends = t.ends ++ record {
    end = length t.others + length others;
    first = slice_index_or words 0 0;
  } ∷ [];
  others = t.others ++ others;
  words = t.words ++ words;
}

-- the chains of all literals are whole, and the table has tails of them
pub record IsChainStore
    (vars : ℕ) (clauses : List Stored) (heads : List (Option ClauseRef)) (table : TailTable)
    : Type 0 where
  pub chained : IsChained vars clauses heads
  pub tails : HasTails vars clauses table
