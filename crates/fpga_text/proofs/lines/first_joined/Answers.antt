use Rattle.std.proofs.Common.{sym, ◌∙◌}
use Rattle.fpga_text.proofs.JoinedLemmas.{first_going_on}
use Rattle.fpga_text.proofs.lines.first_joined.Goals as goal

-- the line goes on
pub returns : goal.returns
returns c =
    first_going_on c.args.raw.now c.args.text.now c.part_of-part.result.said.now
    c.behind_parts-behind.result.text.now c.behind_parts-behind.result.taken
    (sym c.part_of-part.ensures.goes_on ∙ c.if-not-part.false) c.part_of-part.ensures.said
    c.behind_parts-behind.ensures
