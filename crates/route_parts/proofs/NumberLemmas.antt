-- The numbers of wires: each within the count is that of one wire alone.
use Rattle.std.proofs.Common.{◌≡◌, ℕ, ◌+◌, ◌*◌, ◌<◌, ◌≤◌, ap, inl, inr, arith}
use Rattle.std.proofs.Math.Nat.{mul-le-mul_right}
use Rattle.std.proofs.lemmas.Bool.{cases_lt}
use Rattle.fpga_graph.specs.GraphOf.{GraphOf}
use Rattle.fpga_graph.specs.Wires.{IsWire}
use Rattle.fpga_types.specs.CellNumbers.{cell_count, number_of_cell}
use Rattle.fpga_types.specs.Size.{Size}
use Rattle.fpga_types.specs.declared.grid.Wire.{Wire}
use Rattle.fpga_types.proofs.CellLemmas as cells
use Rattle.route_parts.specs.Links.{wire_count, wire_number}

-- the places of a row lie before those of the next
before-next : (n a c b : ℕ) → a < c → b < n → a * n + b < c * n
before-next n a c b below low =
    let step : (a + 1) * n ≤ c * n = mul-le-mul_right n (omega (arith, below)) in
    let wide : (a + 1) * n ≡ a * n + n = omega arith in
    omega (arith, step, wide, low)

-- of a number by rows of n, row and place are fixed
one-place : (n a b c d : ℕ) → b < n → d < n → a * n + b ≡ c * n + d → (a ≡ c) × (b ≡ d)
one-place n a b c d low high e = elim (cases_lt a c) [
  | inl below ↦ absurd (omega (arith, before-next n a c b below low, e))
  | inr not_below ↦ (elim (cases_lt c a) [
    | inl above ↦ absurd (omega (arith, before-next n c a d above high, e))
    | inr not_above ↦ (let same : a ≡ c = omega arith in
        (same, (let row : a * n ≡ c * n = ap (λ (m : ℕ). m * n) same in omega (arith, row, e))))
  ])
]

pub wire-within : (g : GraphOf) (w : Wire) → IsWire g w → wire_number g w < wire_count g
wire-within g w there =
    before-next g.width (number_of_cell g.grid w.cell) (cell_count g.grid) w.track
    (cells.number-within g.grid w.cell.axis w.cell.x w.cell.y there.cell) there.track

pub one-wire : (g : GraphOf) (u v : Wire) → IsWire g u → IsWire g v
    → wire_number g u ≡ wire_number g v → u ≡ v
one-wire g u v there_u there_v e =
    let same = one-place g.width (number_of_cell g.grid u.cell) u.track
    (number_of_cell g.grid v.cell) v.track there_u.track there_v.track e in
    let cell = cells.number-alone g.grid v.cell there_v.cell u.cell there_u.cell same.0 in
    let track = same.1 in
    λ i. record { cell = cell i; track = track i }

-- at most 64 tracks of at most 20200 cells
pub few-wires : (cells width : ℕ) → cells ≤ 20200 → width ≤ 64 → cells * width ≤ 1292800
few-wires cells width few narrow =
    let step : cells * width ≤ 20200 * width = mul-le-mul_right width few in
    omega (arith, step, narrow)

-- at most 100 columns and rows have at most 20200 cells
pub few-cells : (grid : Size) → grid.nx ≤ 100 → grid.ny ≤ 100 → cell_count grid ≤ 20200
few-cells grid few_x few_y =
    let rows : grid.nx * (grid.ny + 1) ≤ 100 * (grid.ny + 1) =
    mul-le-mul_right (grid.ny + 1) few_x in
    let columns : grid.ny * (grid.nx + 1) ≤ 100 * (grid.nx + 1) =
    mul-le-mul_right (grid.nx + 1) few_y in
    omega (arith, rows, columns, few_x, few_y)
