-- A formula to which the clauses of another one are added one by one.
use Rattle.std.proofs.Common.{◌≡◌, ◌∙◌, ◌+◌, ℕ, Bool, Some, List, [], ◌∷◌, ◌++◌, All, ap, arith, get_or, inl, inr, length, refl, slice_get, sym}
use Rattle.std.proofs.lemmas.Bool.Decides.{eqb_tells}
use Rattle.std.proofs.lemmas.List.{length-append}
use Rattle.std.proofs.lemmas.List.Elements.{All-cons, All-nil}
use Rattle.std.proofs.lemmas.Option.{slice_get_within}
use Rattle.list_laws.proofs.Places.{get-front, get-last, some_is}
use Rattle.sat_clause.specs.declared.literal.Lit.{Lit}
use Rattle.sat_clause.specs.Formula.{Cnf}
use Rattle.sat_clause.specs.Literal.{Clause, IsWithin}
use Rattle.sat_merge.specs.Merging.{AreMergedSoFar}
use Rattle.sat_merge.specs.Rewritten.{AreKept, IsMerged}

-- two literals as a clause
pub two_lits : (clause : Clause) (d e : Lit) → length clause ≡ 2 →
    get_or clause 0 d ∷ get_or clause 1 e ∷ [] ≡ clause
two_lits [] d e two = absurd (omega (arith, two))
two_lits (a ∷ []) d e two = absurd (omega (arith, two))
two_lits (a ∷ b ∷ []) d e two = refl
two_lits (a ∷ b ∷ c ∷ rest) d e two = absurd (omega (arith, two))

-- both of them are of the variables
pub within_both : (vars : ℕ) (a b : Lit) → IsWithin vars a → IsWithin vars b →
    All (IsWithin vars) (a ∷ b ∷ [])
within_both vars a b first second =
    All-cons (IsWithin vars) a (b ∷ []) first
    (All-cons (IsWithin vars) b [] second (All-nil (IsWithin vars)))

module _ (keeps : Lit → Bool) (formula merged : Cnf) (count : ℕ)
    (so_far : AreMergedSoFar keeps formula merged count) where
  -- one clause more, which stays where its literals are kept
  pub merged-next : (next : Cnf) (old new : Clause) → next.vars ≡ merged.vars →
      next.clauses ≡ merged.clauses ++ new ∷ [] → slice_get formula.clauses count ≡ Some old →
      (AreKept keeps old → new ≡ old) → AreMergedSoFar keeps formula next (count + 1)
  merged-next next old new vars_same added there stays = record {
    vars = vars_same ∙ so_far.vars;
    many = ap length added ∙ length-append merged.clauses (new ∷ [])
        ∙ ap (λ (n : ℕ). n + 1) so_far.many;
    same = λ k clause below at kept.
        ap (λ (cs : List Clause). slice_get cs k) added
        ∙ elim (eqb_tells k count) [
          | inl here ↦
              let is_old : old ≡ clause =
              some_is (sym there ∙ ap (slice_get formula.clauses) (sym here.1) ∙ at) in
              get-last merged.clauses new k (here.1 ∙ sym so_far.many)
              ∙ ap (λ (c : Clause). Some c) (stays (rw is_old kept) ∙ is_old)
          | inr earlier ↦
              get-front merged.clauses new k (λ is. earlier.1 (is ∙ so_far.many))
              ∙ so_far.same k clause (omega (arith, earlier.1)) at kept
        ];
  }

  -- with each clause added, the formula is merged
  pub merged-whole : count ≡ length formula.clauses → IsMerged keeps formula merged
  merged-whole all = record {
    vars = so_far.vars;
    many = so_far.many ∙ all;
    same = λ k clause at.
        let below = slice_get_within formula.clauses k clause at in
        so_far.same k clause (omega (arith, below)) at;
  }
