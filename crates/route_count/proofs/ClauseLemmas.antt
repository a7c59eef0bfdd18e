-- Clauses of a formula by their ids.
use Rattle.std.proofs.Common.{◌≡◌, ◌≢◌, ℕ, suc, ◌≤◌, pos, Some, length, sym, ap, ◌∙◌, arith, All}
use Rattle.std.specs.Bool.{Decides}
use Rattle.std.specs.Ordering.{int_eq}
use Rattle.std.specs.Prelude.{slice_get}
use Rattle.std.proofs.lemmas.Bool.Decides.{Decides-int_eq}
use Rattle.std.proofs.lemmas.Option.{slice_get-get_or}
use Rattle.sat_clause.specs.Formula.{Cnf}
use Rattle.sat_clause.specs.Literal.{Clause, lit}
use Rattle.sat_clause.specs.Live.{Live, named}
use Rattle.sat_clause.specs.declared.literal.Lit.{Lit}
use Rattle.sat_clause.proofs.LiveLaws.{inputs_at}
use Rattle.sat_count.proofs.RefutingLemmas.{begun-holds, live-begun}
use Rattle.route_count.specs.Said.{IsInput}

pub lit-decides : (a b : Lit) → Decides (int_eq a.code b.code) (a ≡ b)
lit-decides a b = (
  λ h. same ((Decides-int_eq a.code b.code).0 h),
  λ e. (Decides-int_eq a.code b.code).1 (ap (λ (l : Lit). l.code) e),
)
  where
    same : a.code ≡ b.code → a ≡ b
    same e = ap lit e

-- what stands at a place
pub input-there : (cnf : Cnf) (i : ℕ) (c : Clause) → slice_get cnf.clauses i ≡ Some c
    → IsInput cnf (suc i) c
input-there cnf i c at = begun-holds cnf i c at

pub input-place : (cnf : Cnf) (i : ℕ) (c : Clause) → IsInput cnf (suc i) c
    → slice_get cnf.clauses i ≡ Some c
input-place cnf i c is =
    sym (ap (λ (live : Live). named live (pos (suc i))) (live-begun cnf) ∙ inputs_at cnf i)
    ∙ is.there

-- if none is it, all are others
pub none-is : (cnf : Cnf) (c : Clause)
    → ((id : ℕ) → 1 ≤ id → id ≤ length cnf.clauses → IsInput cnf id c → ⊥)
    → All (λ d. d ≢ c) cnf.clauses
none-is cnf c none k d low e =
    none (suc k) (omega arith) low
    (input-there cnf k c (slice_get-get_or cnf.clauses k d low
    ∙ ap (λ (x : Clause). Some x) e))
