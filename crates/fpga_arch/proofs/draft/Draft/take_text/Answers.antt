use Rattle.fpga_arch.proofs.draft.Draft.take_text.Goals as goal

-- the line has this keyword
pub returns : goal.returns
returns c = rw (← c.in-Some.ensures.word, ← c.in-Some-keyword_of.ensures)
    (rw c.in-Some.ensures.after at c.take_line.ensures)
