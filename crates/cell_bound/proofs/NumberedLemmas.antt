-- The ids of a search's log rise.
use Rattle.std.proofs.Common.{ℕ, suc, List, [], ◌∷◌, sym, subst, arith}
use Rattle.sat_clause.specs.Step.{Step, Added, Erased}
use Rattle.sat_core.specs.SearchLog.{AreNumbered}
use Rattle.route_core.specs.Trimmed.{AddedRise}

pub numbered-rise : (n : ℕ) (log : List Step) → AreNumbered (suc n) log → AddedRise n log
numbered-rise n [] h = tt
numbered-rise n (Added id clause hints ∷ log) h =
    let rest = numbered-rise (suc n) log h.1 in
    (omega (arith, h.0), subst (λ (k : ℕ). AddedRise k log) (sym h.0) rest)
numbered-rise n (Erased own ids ∷ log) h = numbered-rise n log h.2
