-- A clause or none, in one word.
use Rattle.std.specs.Prelude.{ℕ, ◌==◌, if◌then◌else◌, Option, None, Some}
use Rattle.sat_arena.specs.declared.clause_ref.ClauseRef.{ClauseRef}
use Rattle.sat_arena.specs.Store.{ref}

-- all bits set stand for none, and any other word for the clause that it is the reference of
abbrev pub clause_by : ℕ → Option ClauseRef
clause_by n = if n == 18446744073709551615 then None else Some (ref n)

abbrev pub word_by : Option ClauseRef → ℕ
word_by None = 18446744073709551615
word_by (Some c) = c.word
