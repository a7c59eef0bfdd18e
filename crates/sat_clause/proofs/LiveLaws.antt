-- What the map of live clauses answers after a change.
use Rattle.std.proofs.Common.{sym, ◌≡◌, ◌+◌, ◌<◌, ℕ, zero, suc, true, false, not, cond, ◌==◌, List, [], ◌∷◌, Option, None, Some, slice_get, refl, arith}
use Rattle.std.proofs.lemmas.Bool.{eq-eqb, eqb-true, ne_eqb}
use Rattle.std.proofs.lemmas.Bool.Decides.{nat_tests}
use Rattle.sat_clause.specs.Literal.{Clause}
use Rattle.sat_clause.specs.Formula.{Cnf}
use Rattle.sat_clause.specs.Judge.{inputs}
use Rattle.sat_clause.specs.Live.{Live, clause_at, numbered, without}

-- an id that is taken out has no clause, and the others keep theirs
pub clause_at-without : (live : Live) (id n : ℕ) →
    clause_at (without live id) n ≡ cond (id == n) None (clause_at live n)
clause_at-without [] id n =
    elim (id == n) as (λ b. ◌≡◌ {A = Option Clause} None (cond b None None))
    [ true ↦ refl | false ↦ refl ]
clause_at-without (entry ∷ live) id n =
    elim (id == entry.0) as (λ b. (id == entry.0) ≡ b → clause_at
    (cond (not b) (entry ∷ without live id) (without live id)) n
    ≡ cond (id == n) None (cond (n == entry.0) (Some entry.1) (clause_at live n))) [
      | true ↦ λ same.
          let is : entry.0 ≡ id = sym (eqb-true _ _ same) in
          let rest : clause_at (without live id) n ≡ cond (id == n) None (clause_at live n) =
          clause_at-without live id n in
          rw (rest, is) (grind (arith, nat_tests))
      | false ↦ λ other.
          let rest : clause_at (without live id) n ≡ cond (id == n) None (clause_at live n) =
          clause_at-without live id n in
          rw rest (grind (arith, nat_tests))
    ] refl

numbered_at : (n id i : ℕ) (clauses : List Clause) → id ≡ n + i → clause_at (numbered n clauses) id
    ≡ slice_get clauses i
numbered_at n id i [] is = refl
numbered_at n id zero (c ∷ clauses) is =
    let here : (id == n) ≡ true = eq-eqb id n (omega arith) in rw here refl
numbered_at n id (suc i) (c ∷ clauses) is =
    let other : (id == n) ≡ false = ne_eqb id n (omega arith) in
    rw other (numbered_at (suc n) id i clauses (omega arith))

numbered_below : (n id : ℕ) (clauses : List Clause) → id < n → clause_at (numbered n clauses) id
    ≡ None
numbered_below n id [] below = refl
numbered_below n id (c ∷ clauses) below =
    let other : (id == n) ≡ false = ne_eqb id n (omega arith) in
    rw other (numbered_below (suc n) id clauses (omega arith))

-- the input clauses are live at the start, with the ids from 1 on
pub inputs_at : (formula : Cnf) (i : ℕ) → clause_at (inputs formula) (suc i)
    ≡ slice_get formula.clauses i
inputs_at formula i = numbered_at 1 (suc i) i formula.clauses (omega arith)

pub inputs_none : (formula : Cnf) → clause_at (inputs formula) 0 ≡ None
inputs_none formula = numbered_below 1 0 formula.clauses (omega arith)
