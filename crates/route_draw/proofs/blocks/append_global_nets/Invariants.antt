use Rattle.std.specs.Prelude.{string_bytes, take}
use Rattle.route_draw.specs.Blamed.{blame_of}
use Rattle.route_draw.specs.Parts.{Adds, AreParts}
use Rattle.route_draw.specs.Picture.{IsGlobal}
use Rattle.route_draw.proofs.blocks.append_global_nets.Given as goal

-- the parts so far were added
abbrev pub invariant-loop-net : goal.invariant-loop-net
invariant-loop-net l =
    Adds (AreParts (IsGlobal (blame_of l.emphasis)) (take l.net-index l.nets))
    (string_bytes l.initial.out) (string_bytes l.out)
