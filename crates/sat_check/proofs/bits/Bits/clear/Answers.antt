use Rattle.std.proofs.Common.{◌*◌, ◌<◌, ◌%◌, ℕ, List, length, subst, sym, arith, w64}
use Rattle.std.proofs.lemmas.Nat.Bits.{bit_at_clear_other, bit_at_clear_same}
use Rattle.sat_check.proofs.BitsLaws.{written_here, written_others}
use Rattle.sat_check.proofs.bits.Bits.clear.Goals as goal

pub returns-clause-here : goal.returns-clause-here
returns-clause-here c =
    let words = c.self.inside.words.items in
    let word = c.index_mut.result.now in
    let within = subst (λ (row : List ℕ). c.args.at < 64 * length row)
    (sym c.self.view_is) c.requires in
    written_here words c.args.at word _ within c.index_mut.ensures.value _
    (bit_at_clear_same w64 word (c.args.at % 64) (omega arith))

pub returns-clause-others : goal.returns-clause-others
returns-clause-others c =
    let words = c.self.inside.words.items in
    let word = c.index_mut.result.now in
    let within = subst (λ (row : List ℕ). c.args.at < 64 * length row)
    (sym c.self.view_is) c.requires in
    rw (← c.self.view_is)
    (written_others words c.args.at word _ within c.index_mut.ensures.value
    (λ k below other. bit_at_clear_other w64 word (c.args.at % 64) (omega arith) k below other))
