use Rattle.std.proofs.Common.{ap}
use Rattle.std.specs.Prelude.{option_map}
use Rattle.fpga_net.specs.Begun.{begun_said}
use Rattle.fpga_net.proofs.DraftLemmas.{lists-block}
use Rattle.fpga_net.proofs.draft.Draft.listed_block.Goals as goal

pub returns-clause-ok : goal.returns-clause-ok
returns-clause-ok c =
    let was = ap (option_map begun_said) c.in-Some.is in
    let test = rw c.deref.ensures.value at c.if-misses_pins.ensures in
    rw (c.new.ensures, ← c.self.view_is) (lists-block _ c.pins_of-pins.result.now
    c.in-Ok.words.items c.args.line.now.words (begun_said c.in-Some.begun) was
    c.pins_of-pins.ensures c.in-Ok.ensures test)
