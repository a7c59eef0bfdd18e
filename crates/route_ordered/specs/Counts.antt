-- How many clauses keep the groups of tracks in an order.
use Rattle.std.specs.Prelude.{ℕ, ◌-◌, ◌*◌, ◌/◌}
use Rattle.fpga_types.specs.declared.arch.Pattern.{Pattern}
use Rattle.fpga_types.specs.declared.arch.Pattern.TheVariants.{Subset, Wilton, Universal}

-- the clauses of each slot of a row: one for each track but the first, or three for each pair but
-- one for the first
abbrev pub clauses_per_slot : Pattern → (width : ℕ) → ℕ
clauses_per_slot Subset width = width - 1
clauses_per_slot Wilton width = 0
clauses_per_slot Universal width = 3 * (width / 2) - 2
