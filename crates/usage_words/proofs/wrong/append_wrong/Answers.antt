use Rattle.std.proofs.Common.{◌∙◌, ap, arith, string_bytes, sym}
use Rattle.fpga_text.specs.Bytes.{Bytes}
use Rattle.usage_words.proofs.StopLemmas.{stop-said, told-as}
use Rattle.usage_words.specs.Turn.{turn_of}
use Rattle.usage_words.specs.Wrong.{stop_said}
use Rattle.usage_words.proofs.wrong.append_wrong.Goals as goal

pub returns-in_default : goal.returns-in_default
returns-in_default c =
    let words = c.args.words.now in
    let word = c.word-item.result in
    told-as _ _ _ _ _ _
    (c.loop-word.invariant.ahead
    ∙ stop-said c.args.command c.loop-word.standing words c.loop-word.word-index word
    c.turn_of.result (omega (arith)) c.word-item.is
    (c.turn_of.ensures ∙ ap (λ (w : Bytes). turn_of c.args.command c.loop-word.standing w)
    c.as_str.ensures.value) c.in_default.not-Goes
    ∙ ap (λ (w : Bytes). stop_said c.args.command w c.turn_of.result)
    (sym c.as_str-in_default.ensures.value))
    (ap string_bytes (sym c.loop-word.invariant.same)) c.append_stop.ensures
