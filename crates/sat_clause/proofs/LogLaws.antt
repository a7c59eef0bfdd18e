-- The steps of a log as its heads with their parts: their number, one of them, and one more at the
-- end.
use Rattle.std.proofs.Common.{◌≡◌, ℕ, zero, suc, ℤ, List, [], ◌∷◌, ◌++◌, length, Some, slice_get, refl, sym, ap, ◌∙◌, arith, ◌<◌, get_or}
use Rattle.sat_clause.specs.declared.log.Head.{Head}
use Rattle.sat_clause.specs.Literal.{Clause}
use Rattle.sat_clause.specs.LogStore.{step_of, steps_of, IsLogStore}
use Rattle.sat_clause.specs.Parts.{parts_from}
use Rattle.sat_clause.proofs.PartsLaws.{length-parts_from}
use Rattle.std.specs.Prelude.{Vec, vec_len}
use Rattle.std.specs.Global.{Global}
use Rattle.std.proofs.lemmas.Option.{slice_get_read}
use Rattle.sat_clause.specs.declared.literal.Lit.{Lit}

pub length-steps_of : (heads : List Head) (clauses : List Clause) (lists : List (List ℤ)) →
    length clauses ≡ length heads → length lists ≡ length heads →
    length (steps_of heads clauses lists) ≡ length heads
length-steps_of [] clauses lists e f = refl
length-steps_of (head ∷ heads) [] lists e f = absurd (omega arith)
length-steps_of (head ∷ heads) (clause ∷ clauses) [] e f = absurd (omega arith)
length-steps_of (head ∷ heads) (clause ∷ clauses) (numbers ∷ lists) e f =
    ap suc (length-steps_of heads clauses lists (omega arith) (omega arith))

pub steps_push :
    (heads : List Head) (clauses : List Clause) (lists : List (List ℤ)) (head : Head)
    (clause : Clause) (numbers : List ℤ) →
    length clauses ≡ length heads → length lists ≡ length heads →
    steps_of (heads ++ head ∷ []) (clauses ++ clause ∷ []) (lists ++ numbers ∷ [])
    ≡ steps_of heads clauses lists ++ step_of head clause numbers ∷ []
steps_push [] [] [] head clause numbers e f = refl
steps_push [] [] (n ∷ lists) head clause numbers e f = absurd (omega arith)
steps_push [] (c ∷ clauses) lists head clause numbers e f = absurd (omega arith)
steps_push (h ∷ heads) [] lists head clause numbers e f = absurd (omega arith)
steps_push (h ∷ heads) (c ∷ clauses) [] head clause numbers e f = absurd (omega arith)
steps_push (h ∷ heads) (c ∷ clauses) (n ∷ lists) head clause numbers e f =
    ap (λ steps. step_of h c n ∷ steps)
    (steps_push heads clauses lists head clause numbers (omega arith) (omega arith))

pub step_at :
    (heads : List Head) (clauses : List Clause) (lists : List (List ℤ)) (i : ℕ) (head : Head)
    (clause : Clause) (numbers : List ℤ) →
    slice_get heads i ≡ Some head → slice_get clauses i ≡ Some clause → slice_get lists i
    ≡ Some numbers → slice_get (steps_of heads clauses lists) i
    ≡ Some (step_of head clause numbers)
step_at [] clauses lists i head clause numbers e f g = cc
step_at (h ∷ heads) [] lists i head clause numbers e f g = cc
step_at (h ∷ heads) (c ∷ clauses) [] i head clause numbers e f g = cc
step_at (h ∷ heads) (c ∷ clauses) (n ∷ lists) zero head clause numbers e f g = cc
step_at (h ∷ heads) (c ∷ clauses) (n ∷ lists) (suc i) head clause numbers e f g =
    step_at heads clauses lists i head clause numbers e f g

module _ (heads : Vec Head Global) (lits : Vec Lit Global) (lit_ends : Vec ℕ Global)
    (numbers : Vec ℤ Global) (number_ends : Vec ℕ Global) (step_room number_room : ℕ)
    (store : IsLogStore heads lits lit_ends numbers number_ends step_room number_room) where
  pub lit_parts-many : length (parts_from 0 lits.items lit_ends.items) ≡ length heads.items
  lit_parts-many =
      omega (
        arith,
        store.lit_parts,
        heads.ok.0,
        lit_ends.ok.0,
        length-parts_from 0 lits.items lit_ends.items,
      )

  pub number_parts-many : length (parts_from 0 numbers.items number_ends.items) ≡ length heads.items
  number_parts-many =
      omega (
        arith,
        store.number_parts,
        heads.ok.0,
        number_ends.ok.0,
        length-parts_from 0 numbers.items number_ends.items,
      )

  -- there are as many steps as heads
  pub steps-many :
      length (steps_of heads.items (parts_from 0 lits.items lit_ends.items)
      (parts_from 0 numbers.items number_ends.items)) ≡ vec_len heads
  steps-many = length-steps_of heads.items _ _ lit_parts-many number_parts-many ∙ sym heads.ok.0

  -- a position of a step is one of a head
  pub step_within : (i : ℕ) →
      i < length (steps_of heads.items (parts_from 0 lits.items lit_ends.items)
      (parts_from 0 numbers.items number_ends.items)) →
      i < vec_len heads
  step_within i within = let many = steps-many in omega arith

  -- the step at a position, by the head and the parts there
  pub step_there : (i : ℕ) (head : Head) (clause : Clause) (ids : List ℤ) → i < vec_len heads →
      head ≡ get_or heads.items i head →
      slice_get (parts_from 0 lits.items lit_ends.items) i ≡ Some clause
      → slice_get (parts_from 0 numbers.items number_ends.items) i ≡ Some ids →
      slice_get (steps_of heads.items (parts_from 0 lits.items lit_ends.items)
      (parts_from 0 numbers.items number_ends.items)) i ≡ Some (step_of head clause ids)
  step_there i head clause ids below is =
      step_at heads.items _ _ i head clause ids
      (slice_get_read heads.items (vec_len heads) i head heads.ok.0 below is)
