use Rattle.std.proofs.Common.{◌≡◌}
use Rattle.sat_watch.proofs.chains.Chains.find_tails.Given as goal

-- the chains are the same to whoever sees them
abbrev pub invariant-loop : goal.invariant-loop
invariant-loop l = record { same : l.self ≡ l.initial.self }
