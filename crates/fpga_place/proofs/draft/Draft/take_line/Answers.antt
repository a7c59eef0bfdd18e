use Rattle.fpga_place.proofs.DraftLemmas.{takes_line}
use Rattle.fpga_place.specs.Lines.{block_form}
use Rattle.fpga_place.proofs.draft.Draft.take_line.Goals as goal

pub returns-clause-ok : goal.returns-clause-ok
returns-clause-ok c =
    takes_line c.args.self.now c.in-Some.said.name.now c.in-Some.said.place c.in-Ok.block
    c.in-Ok.ensures.ok c.put.new.self c.args.line.now.number (block_form c.args.line.now.words)
    c.in-Ok-put.ensures c.in-Some.ensures.some
