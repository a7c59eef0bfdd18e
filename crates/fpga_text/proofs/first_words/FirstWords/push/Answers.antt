use Rattle.std.proofs.Common.{◌<◌, length, take, arith, length-take}
use Rattle.std.specs.Prelude.{map}
use Rattle.std.proofs.lemmas.List.{length-map}
use Rattle.fpga_text.proofs.WordLemmas.{take-map-set}
use Rattle.fpga_text.proofs.first_words.FirstWords.push.Goals as goal

pub returns : goal.returns
returns c =
    let short : length (take c.self.inside.count (map (λ w. w.now) c.self.inside.words)) < 8 =
    (rw c.self.view_is c.requires) in
    let within : c.self.inside.count < length c.self.inside.words
    = omega (arith, c.self.told, c.self.invariant, simp (length-take, length-map) at short) in
    rw (← c.self.view_is) (take-map-set (λ w. w.now) c.self.inside.count c.self.inside.words
    c.args.word within)
