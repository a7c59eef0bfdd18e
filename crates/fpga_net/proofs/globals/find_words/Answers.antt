use Rattle.std.proofs.Common.{rules, ◌≡◌, ◌∙◌}
use Rattle.std.specs.Prelude.{drop}
use Rattle.fpga_net.proofs.GlobalLemmas.{finds-next}
use Rattle.fpga_net.proofs.globals.find_words.Goals as goal

pub loop-word-preserved : goal.loop-word-preserved
loop-word-preserved c = λ name is.
    let behind : c.next_word.new.self.words ≡ drop 1 c.loop-word.line.words = search rules in
    rw behind (finds-next c.args.sought.now c.loop-word.found _ c.loop-word.line.words
    c.in-Some.word.text.now name c.in-Some.ensures.word c.in_ok-find_word.ensures is
    ∙ c.loop-word.invariant name is)
