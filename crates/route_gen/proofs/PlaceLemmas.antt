-- Blocks and their places.
use Rattle.std.proofs.Common.{ℕ, ◌+◌, ◌*◌, ◌/◌, ◌<◌, ◌≤◌, arith}
use Rattle.std.proofs.Math.Nat.{div-lt_iff_lt-mul, mul-le-mul_left}

-- a block stands in one of the rows
pub row_within : (side block : ℕ) → 1 ≤ side → block < side * side → block / side < side
row_within side block some below = grind (arith, div-lt_iff_lt-mul)

-- a square grows with its side
pub square : (side most : ℕ) → side ≤ most → side * side ≤ most * most
square side most within = grind (arith, mul-le-mul_left)

-- each place has a block
pub block_within : (side column row : ℕ) → column < side → row < side →
    row * side + column < side * side
block_within side column row c r = grind (arith, mul-le-mul_left)
