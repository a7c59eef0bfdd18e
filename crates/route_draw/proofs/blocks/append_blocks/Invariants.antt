use Rattle.std.specs.Prelude.{string_bytes, take}
use Rattle.route_draw.specs.Parts.{Adds, AreParts}
use Rattle.route_draw.specs.Picture.{IsBlock}
use Rattle.route_draw.proofs.blocks.append_blocks.Given as goal

-- the parts so far were added
abbrev pub invariant-loop-block : goal.invariant-loop-block
invariant-loop-block l =
    Adds (AreParts IsBlock (take l.block-index l.blocks)) (string_bytes l.initial.out)
    (string_bytes l.out)
