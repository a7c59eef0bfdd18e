-- The definitions computed on worked cases.
use Rattle.std.proofs.Common.{◌≡◌, ℕ, ℤ, pos, neg_ℤ, List, [], ◌∷◌, map, refl, Any, arith}
use Rattle.sat_clause.specs.declared.cause.Cause.TheVariants.{NotLive, StillOpen, AlreadyTrue, NoConflict, HintAfterConflict, DeletesNotLive, NoEmptyClause}
use Rattle.sat_clause.specs.Literal.{lit}
use Rattle.sat_clause.specs.Formula.{Cnf}
use Rattle.sat_clause.specs.Step.{Step, Added, Erased}
use Rattle.sat_clause.specs.Judge.{judge, inputs, Accepted, Refused}
use Rattle.sat_clause.specs.Learned.{IsRelevant, HintHas}

-- a variable, and its negation
abbrev p : ℕ → ℤ
p n = pos n

abbrev m : ℕ → ℤ
m n = neg_ℤ (pos n)

abbrev cnf : ℕ → List (List ℤ) → Cnf
cnf vars clauses = record { vars = vars; clauses = map (map lit) clauses }

abbrev added : ℕ → List ℤ → List ℤ → Step
added id numbers hints = Added id (map lit numbers) hints

-- two variables of which at most one is true, and both have to be
abbrev two_of_one : Cnf
two_of_one = cnf 2 ((p 1 ∷ []) ∷ (p 2 ∷ []) ∷ (m 1 ∷ m 2 ∷ []) ∷ [])

-- 4 0 1 2 3 0
by_all_three : judge two_of_one (added 4 [] (p 1 ∷ p 2 ∷ p 3 ∷ []) ∷ []) ≡ Accepted
by_all_three = refl

-- 4 0 1 1 2 3 0
hint_twice : judge two_of_one (added 4 [] (p 1 ∷ p 1 ∷ p 2 ∷ p 3 ∷ []) ∷ []) ≡ Refused 1 AlreadyTrue
hint_twice = refl

-- 3 d 1 0, then 4 0 1 2 3 0
hint_of_a_deleted_clause :
    judge two_of_one (Erased 3 (p 1 ∷ []) ∷ added 4 [] (p 1 ∷ p 2 ∷ p 3 ∷ []) ∷ [])
    ≡ Refused 2 NotLive
hint_of_a_deleted_clause = refl

-- no step at all
no_step : judge two_of_one [] ≡ Refused 1 NoEmptyClause
no_step = refl

-- 4 0 1 2 0
too_few_hints : judge two_of_one (added 4 [] (p 1 ∷ p 2 ∷ []) ∷ []) ≡ Refused 1 NoConflict
too_few_hints = refl

-- a hint behind a conflict, a clause with two open literals, and an id twice in one deletion
hint_too_many :
    judge two_of_one (added 4 [] (p 1 ∷ p 2 ∷ p 3 ∷ p 9 ∷ []) ∷ []) ≡ Refused 1 HintAfterConflict
hint_too_many = refl

still_open : judge two_of_one (added 4 [] (p 3 ∷ p 1 ∷ p 2 ∷ []) ∷ []) ≡ Refused 1 StillOpen
still_open = refl

deleted_twice : judge two_of_one (Erased 3 (p 2 ∷ p 2 ∷ []) ∷ []) ≡ Refused 1 DeletesNotLive
deleted_twice = refl

-- an id that comes again stands for the later clause, and the number zero names no clause
id_again :
    judge two_of_one (added 1 (m 2 ∷ []) (p 1 ∷ p 3 ∷ []) ∷ added 5 [] (p 1 ∷ p 2 ∷ []) ∷ [])
    ≡ Accepted
id_again = refl

zero_names_none :
    judge two_of_one (added 0 (m 2 ∷ []) (p 1 ∷ p 3 ∷ []) ∷ added 5 [] (p 0 ∷ p 2 ∷ []) ∷ [])
    ≡ Refused 2 NotLive
zero_names_none = refl

-- the copies of a literal in a clause are one open literal
copies_are_one :
    judge (cnf 1 ((p 1 ∷ p 1 ∷ []) ∷ (m 1 ∷ m 1 ∷ m 1 ∷ []) ∷ []))
    (added 3 [] (p 1 ∷ p 2 ∷ []) ∷ []) ≡ Accepted
copies_are_one = refl

-- three nets in one cell with two tracks: each has a track, none has both, and no two share one
abbrev three_on_two : Cnf
three_on_two = cnf 6 ((p 1 ∷ p 2 ∷ []) ∷ (p 3 ∷ p 4 ∷ []) ∷ (p 5 ∷ p 6 ∷ [])
    ∷ (m 1 ∷ m 2 ∷ []) ∷ (m 3 ∷ m 4 ∷ []) ∷ (m 5 ∷ m 6 ∷ [])
    ∷ (m 1 ∷ m 3 ∷ []) ∷ (m 2 ∷ m 4 ∷ []) ∷ (m 1 ∷ m 5 ∷ []) ∷ (m 2 ∷ m 6 ∷ []) ∷ (m 3 ∷ m 5 ∷ [])
    ∷ (m 4 ∷ m 6 ∷ []) ∷ [])

-- 13 -1 0 7 9 2 3 12 0, then 14 0 13 1 8 10 2 3 11 0
by_a_learned_unit : judge three_on_two (
    added 13 (m 1 ∷ []) (p 7 ∷ p 9 ∷ p 2 ∷ p 3 ∷ p 12 ∷ [])
    ∷ added 14 [] (p 13 ∷ p 1 ∷ p 8 ∷ p 10 ∷ p 2 ∷ p 3 ∷ p 11 ∷ []) ∷ []) ≡ Accepted
by_a_learned_unit = refl

-- a net of four cells and one of one cell, with one track: 10 0 2 5 9 0
one_track : judge (cnf 5 ((p 1 ∷ []) ∷ (p 2 ∷ []) ∷ (p 3 ∷ []) ∷ (p 4 ∷ []) ∷ (p 5 ∷ [])
    ∷ (m 1 ∷ p 2 ∷ []) ∷ (m 2 ∷ p 3 ∷ []) ∷ (m 3 ∷ p 4 ∷ []) ∷ (m 2 ∷ m 5 ∷ []) ∷ []))
    (added 10 [] (p 2 ∷ p 5 ∷ p 9 ∷ []) ∷ []) ≡ Accepted
one_track = refl

-- the hints 1 2 3 are all needed: each of the first two makes a literal true whose negation the
-- third has
each_hint_is_used : IsRelevant (inputs two_of_one) [] (p 1 ∷ p 2 ∷ p 3 ∷ [])
each_hint_is_used = record {
  each_literal = λ k d within. absurd (omega arith);
  each_hint = (lit (p 1), refl, later, (lit (p 2), refl, last, tt));
} where
  last : Any (HintHas (inputs two_of_one) (lit (m 2))) (p 3 ∷ [])
  last = (0, p 3, omega arith, refl, (lit (m 1) ∷ lit (m 2) ∷ [], refl, (1, omega arith, refl)))

  later : Any (HintHas (inputs two_of_one) (lit (m 1))) (p 2 ∷ p 3 ∷ [])
  later = (1, p 3, omega arith, refl, (lit (m 1) ∷ lit (m 2) ∷ [], refl, (0, omega arith, refl)))
