-- Numbers by name.
use Rattle.std.specs.Prelude.{◌≡◌, ℕ, bytes_eq, Option, Some, None, if◌then◌else◌}
use Rattle.std.specs.BTreeMap.{BTreeMap, get_by}
use Rattle.std.specs.Borrow.{Bor}
use Rattle.std.specs.Cmp.Lexicographic.{slice_cmp}
use Rattle.std.specs.Option.{option_or}
use Rattle.std.specs.Ordering.{nat_cmp}
use Rattle.fpga_text.specs.Bytes.{Bytes}

-- the number that a name has in a map
abbrev pub number_in : BTreeMap (Bor Bytes) ℕ → Bytes → Option ℕ
number_in numbers name = get_by (λ k. slice_cmp nat_cmp name k.now) numbers

-- the name has this number too, unless it had one
abbrev pub GainsName : BTreeMap (Bor Bytes) ℕ → Bytes → ℕ → BTreeMap (Bor Bytes) ℕ → Type 0
GainsName before name number after = (other : Bytes) → number_in after other
    ≡ option_or (number_in before other) (if bytes_eq name other then Some number else None)
