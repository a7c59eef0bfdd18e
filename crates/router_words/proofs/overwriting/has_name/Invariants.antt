-- none of the names so far is the one that is sought
use Rattle.std.proofs.Common.{◌≡◌, drop, map}
use Rattle.router_words.specs.Overwriting.{has_name}
use Rattle.router_words.proofs.overwriting.has_name.Given as goal

abbrev pub invariant-loop-name : goal.invariant-loop-name
invariant-loop-name l = has_name (map (λ name. name.now) (drop l.name-index l.names)) l.sought
    ≡ has_name (map (λ name. name.now) l.names) l.sought
