-- The slots of a cell are slots of the problem; and what a borrowed slice leaves in a vector.
use Rattle.std.proofs.Common.{◌≡◌, ℕ, zero, suc, ◌<◌, List, [], ◌∷◌, ◌++◌, length, take, refl, ap, All, arith}
use Rattle.fpga_types.specs.Problem.{RoutingProblem}
use Rattle.fpga_types.specs.Slots.{slots}
use Rattle.problem_facts.proofs.CrowdLaws.{slots-low}
use Rattle.route_count.specs.Crowded.{slots_of_cell}

pub cell-slots : (p : RoutingProblem) (number : ℕ)
    → All (λ s. s < length (slots p.route)) (slots_of_cell p number)
cell-slots p number = slots-low p.route.grid (slots p.route) number

-- a row that was written at the front, where it takes all places
pub front-written : {T : Type 0} (ys zs : List T) (n : ℕ) → n ≡ length ys → take n (ys ++ zs) ≡ ys
front-written [] zs zero e = refl
front-written [] zs (suc n) e = absurd (omega (arith, e))
front-written (y ∷ ys) zs zero e = absurd (omega (arith, e))
front-written {T} (y ∷ ys) zs (suc n) e =
    ap (λ (xs : List T). y ∷ xs) (front-written ys zs n (omega (arith, e)))
