use Rattle.route_negotiate.proofs.LineLemmas.{text_sound}
use Rattle.std.proofs.Common.{arith}
use Rattle.route_negotiate.proofs.text.route_text.Goals as goal

pub returns-clause-sound : goal.returns-clause-sound
returns-clause-sound c =
    rw (c.of.ensures) (text_sound _ c.net_texts.new.last _ _ c.in_ok-nets.ensures.lines
    (omega (arith, c.in_ok-nets.ensures.each, c.requires.few)) c.in_ok-line_behind.ensures.line
    c.in_ok-line_behind.ensures.few)
