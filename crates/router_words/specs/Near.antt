-- The range of a reach, and the methods that have none.
use Rattle.std.specs.Prelude.{ℕ, ◌≤◌, Bool, IfSome, Option, None, Some, is_none}
use Rattle.fpga_types.specs.declared.limits.TheConstants.{REACH_LIMIT}
use Rattle.router_words.specs.declared.method.Method.{Method}
use Rattle.router_words.specs.declared.method.Method.TheVariants.{Ordered, Pinned, Strictly, Within}

-- the reach of a method, if it has one
abbrev pub reach_of : Method → Option ℕ
reach_of Strictly = None
reach_of Pinned = None
reach_of Ordered = None
reach_of (Within reach) = Some reach

-- which is from 1 to 64
abbrev pub IsNear : Method → Type 0
IsNear method = IfSome (reach_of method) (λ reach. (1 ≤ reach) × (reach ≤ REACH_LIMIT))

-- each net has one track in each cell of its global route: there is no reach
abbrev pub has_one_track : Method → Bool
has_one_track method = is_none (reach_of method)
