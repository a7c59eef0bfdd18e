use Rattle.std.proofs.Common.{sym}
use Rattle.std.proofs.lemmas.List.{take-map}
use Rattle.fpga_text.proofs.first_words.FirstWords.as_slice.Goals as goal

pub returns : goal.returns
returns c = rw (← c.self.view_is)
    (sym (take-map (λ w. w.now) c.self.inside.count c.self.inside.words))
