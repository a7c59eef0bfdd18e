-- Clauses with their ids: their number, the one at a position, and one more.
use Rattle.std.proofs.Common.{inl, inr, ◌⊎◌, ◌≡◌, ◌==◌, ℕ, zero, suc, Bool, true, false, cond, List, [], ◌∷◌, ◌++◌, length, reverse, None, Some, slice_get, Contains, refl, sym, ap, ◌∙◌, arith}
use Rattle.std.specs.List.{zip}
use Rattle.std.proofs.lemmas.Bool.{eq-eqb, eqb-true}
use Rattle.std.proofs.lemmas.List.{length-append, length-reverse, reverse-append, reverse-reverse}
use Rattle.std.proofs.lemmas.List.Sorted.{Contains-permutation, IsPermutation-reverse}
use Rattle.std.proofs.lemmas.Map.Views.{Contains-from_lookup}
use Rattle.std.proofs.lemmas.Option.{slice_get-get_or, slice_get_within}
use Rattle.std.proofs.lemmas.Slice.Zip.{length-zip}
use Rattle.list_laws.proofs.Places.{get-cases}
use Rattle.sat_clause.specs.Formula.{Cnf}
use Rattle.sat_clause.specs.Literal.{Clause}
use Rattle.sat_clause.specs.Live.{Live, clause_at, put}
use Rattle.sat_core.specs.ClauseList.{IsClauseList, with_ids}

-- there are as many as clauses
pub length-with_ids : (ids : List ℕ) (clauses : List Clause) → length ids ≡ length clauses →
    length (with_ids ids clauses) ≡ length clauses
length-with_ids ids clauses many =
    let reversed = length-reverse (zip ids clauses) in
    let zipped = length-zip ids clauses in
    omega (arith, reversed, zipped, many)

zip_at : (ids : List ℕ) (clauses : List Clause) (i id : ℕ) (c : Clause) → slice_get ids i ≡ Some id
    →
    slice_get clauses i ≡ Some c → slice_get (zip ids clauses) i ≡ Some (id, c)
zip_at [] clauses i id c at is = cc
zip_at (x ∷ ids) [] i id c at is = cc
zip_at (x ∷ ids) (d ∷ clauses) zero id c at is = cc
zip_at (x ∷ ids) (d ∷ clauses) (suc i) id c at is = zip_at ids clauses i id c at is

-- the id and the clause at a position stand there
pub with_ids_at : (ids : List ℕ) (clauses : List Clause) (i id : ℕ) (c : Clause) → slice_get ids i ≡
    Some id →
    slice_get clauses i ≡ Some c → slice_get (reverse (with_ids ids clauses)) i ≡ Some (id, c)
with_ids_at ids clauses i id c at is = rw (reverse-reverse (zip ids clauses))
    (zip_at ids clauses i id c at is)

zip_push : (ids : List ℕ) (clauses : List Clause) (id : ℕ) (c : Clause) → length ids ≡ length
    clauses →
    zip (ids ++ id ∷ []) (clauses ++ c ∷ []) ≡ zip ids clauses ++ (id, c) ∷ []
zip_push [] [] id c many = refl
zip_push [] (d ∷ clauses) id c many = absurd (omega (arith, many))
zip_push (x ∷ ids) [] id c many = absurd (omega (arith, many))
zip_push (x ∷ ids) (d ∷ clauses) id c many =
    ap (λ (rest : Live). (x, d) ∷ rest) (zip_push ids clauses id c (omega (arith, many)))

-- one more
pub with_ids_push : (ids : List ℕ) (clauses : List Clause) (id : ℕ) (c : Clause) → length ids ≡
    length clauses →
    with_ids (ids ++ id ∷ []) (clauses ++ c ∷ []) ≡ put (with_ids ids clauses) id c
with_ids_push ids clauses id c many =
    ap reverse (zip_push ids clauses id c many) ∙ reverse-append (zip ids clauses) ((id, c) ∷ [])

pub list_push : (ids : List ℕ) (cnf now : Cnf) (id : ℕ) (c : Clause) → IsClauseList ids cnf →
    clause_at (with_ids ids cnf.clauses) id ≡ None → now.clauses ≡ cnf.clauses ++ c ∷ [] →
    IsClauseList (ids ++ id ∷ []) now
list_push ids cnf now id c is new more = rw more (record {
  many = omega (arith, is.many, length-append ids (id ∷ []), length-append cnf.clauses (c ∷ []));
  found = λ k n d at there. rw (with_ids_push ids cnf.clauses id c is.many)
      (by k n d (get-cases ids id n k at) (get-cases cnf.clauses c d k there));
})
  where
    older : (n : ℕ) (d : Clause) → clause_at (with_ids ids cnf.clauses) n ≡ Some d → (b : Bool) →
        (n == id) ≡ b →
        cond b (Some c) (clause_at (with_ids ids cnf.clauses) n) ≡ Some d
    older n d at true same =
        let one = eqb-true n id same in
        let none : clause_at (with_ids ids cnf.clauses) n ≡ None = ap
        (clause_at (with_ids ids cnf.clauses)) one ∙ new in
        let bad : None ≡ Some d = sym none ∙ at in cc
    older n d at false other = at

    by : (k n : ℕ) (d : Clause) → ((k ≡ length ids) × (id ≡ n)) ⊎ (slice_get ids k ≡ Some n) →
        ((k ≡ length cnf.clauses) × (c ≡ d)) ⊎ (slice_get cnf.clauses k ≡ Some d) →
        clause_at (put (with_ids ids cnf.clauses) id c) n ≡ Some d
    by k n d (inl last) (inl same) = rw (← last.1, eq-eqb id id refl) (ap Some same.1)
    by k n d (inl last) (inr there) =
        let within = slice_get_within cnf.clauses k d there in absurd
        (omega (arith, last.0, within, is.many))
    by k n d (inr at) (inl same) =
        let within = slice_get_within ids k n at in absurd (omega (arith, same.0, within, is.many))
    by k n d (inr at) (inr there) = older n d (is.found k n d at there) (n == id) refl

-- each clause stands at a position
pub position_of : (clauses : Live) (id : ℕ) (c : Clause) → clause_at clauses id ≡ Some c →
    (k : ℕ) × (slice_get (reverse clauses) k ≡ Some (id, c))
position_of clauses id c at =
    let has : Contains clauses (id, c) = Contains-from_lookup eqb-true id c clauses at in
    let there : Contains (reverse clauses) (id, c) = Contains-permutation clauses (reverse clauses)
    (id, c) (IsPermutation-reverse clauses) has in
    (there.0, slice_get-get_or (reverse clauses) there.0 (id, c) there.1 ∙ ap Some there.2)
