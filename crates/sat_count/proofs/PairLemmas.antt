-- How many pairs of slots there are, and where their tracks stand.
use Rattle.std.proofs.Common.{◌≡◌, ℕ, zero, suc, ◌+◌, ◌-◌, ◌*◌, refl, arith}
use Rattle.std.specs.Prelude.{◌/◌}
use Rattle.std.proofs.Math.Nat.{mul-suc, suc-mul}
use Rattle.sat_count.specs.Places.{pair_place, pairs_below}

pub twice-pairs : (h : ℕ) → 2 * pairs_below h + h ≡ h * h
twice-pairs zero = refl
twice-pairs (suc h) =
    let square = mul-suc (suc h) h in
    let row = suc-mul h h in
    omega (arith, twice-pairs h, square, row)

pub pairs-value : (h : ℕ) → (h * h - h) / 2 ≡ pairs_below h
pairs-value h = omega (arith, twice-pairs h)

pub place-value : (tracks lower higher track : ℕ)
    → (pairs_below higher + lower) * tracks + track ≡ pair_place tracks lower higher track
unfolding pair_place
place-value tracks lower higher track = refl
