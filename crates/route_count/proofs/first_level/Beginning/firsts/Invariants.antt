-- the variables of the slots so far
use Rattle.std.proofs.Common.{◌≡◌, ◌*◌, map, take}
use Rattle.route_count.proofs.first_level.Beginning.firsts.Given as goal

abbrev pub invariant-loop-place : goal.invariant-loop-place
invariant-loop-place l =
    l.firsts.items ≡ map (λ s. s * l.self.variables.width) (take l.place l.self.row.now)
