-- What is so of each live clause, and stays so as clauses come and go.
use Rattle.std.proofs.Common.{◌≡◌, ℕ, suc, ◌==◌, ℤ, pos, negsuc, zero, true, false, cond, List, [], ◌∷◌, None, Some, All, sym, ◌∙◌, subst}
use Rattle.std.proofs.lemmas.List.Elements.{All-head, All-tail}
use Rattle.sat_clause.specs.Judge.{erase, take_out}
use Rattle.sat_clause.specs.Literal.{Clause}
use Rattle.sat_clause.specs.Live.{Live, clause_at, named, numbered, put}
use Rattle.sat_clause.proofs.LiveLaws.{clause_at-without}

abbrev pub EachLive : (Clause → Type 0) → Live → Type 0
EachLive P live = (n : ℕ) (clause : Clause) → clause_at live n ≡ Some clause → P clause

module _ (P : Clause → Type 0) where
  pub each_put : (live : Live) (id : ℕ) (added : Clause) → EachLive P live → P added
      → EachLive P (put live id added)
  each_put live id added each here n clause =
      elim (n == id) as (λ b. cond b (Some added) (clause_at live n) ≡ Some clause → P clause) [
        | true ↦ λ e. let same : added ≡ clause = cc in subst P same here
        | false ↦ λ e. each n clause e
      ]

  -- what is live after a deletion was live before it
  each_behind : (live : Live) (id : ℤ) → EachLive P live → EachLive P (take_out live id)
  each_behind live (pos id) each n clause is =
      elim (id == n) as (λ b. clause_at (take_out live (pos id)) n ≡ cond b None (clause_at live n)
      → P clause) [
        | true ↦ λ e. let bad : Some clause ≡ None = sym is ∙ e in cc
        | false ↦ λ e. each n clause (sym e ∙ is)
      ] (clause_at-without live id n)
  each_behind live (negsuc id) each n clause is = each n clause is

  pub each_erased : (live : Live) (ids : List ℤ) → EachLive P live → EachLive P (erase live ids)
  each_erased live [] each = each
  each_erased live (id ∷ ids) each =
      each_erased (take_out live id) ids (each_behind live id each)

  pub each_numbered : (first : ℕ) (clauses : List Clause) → All P clauses
      → EachLive P (numbered first clauses)
  each_numbered first [] all = λ n clause is. cc
  each_numbered first (c ∷ clauses) all =
      each_put (numbered (suc first) clauses) first c
      (each_numbered (suc first) clauses (All-tail P c clauses all)) (All-head P c clauses all)

  pub named_is : (live : Live) (hint : ℤ) → EachLive P live → (clause : Clause)
      → named live hint ≡ Some clause → P clause
  named_is live (pos zero) each clause is = cc
  named_is live (pos (suc n)) each clause is = each (suc n) clause is
  named_is live (negsuc n) each clause is = cc
