use Rattle.std.proofs.Common.{false, sym, ◌∙◌}
use Rattle.std.specs.Prelude.{map}
use Rattle.std.proofs.lemmas.List.{map-append}
use Rattle.fpga_net.specs.NetUses.{use_said}
use Rattle.fpga_net.specs.Uses.{pad_pin}
use Rattle.fpga_net.proofs.UseLemmas.{next-on, next-open}
use Rattle.fpga_net.proofs.net_use.net_uses.Goals as goal

pub loop-i-preserved-then-is_open : goal.loop-i-preserved-then-is_open
loop-i-preserved-then-is_open c =
    next-open c.args.block c.args.pins.now c.args.words.now c.loop-i.i
    (map use_said c.loop-i.uses.items) (pad_pin false) _ c.loop-i.invariant c.requires
    c.loop-i-test.true (sym c.is_open.ensures ∙ c.if-is_open.true)

pub loop-i-preserved : goal.loop-i-preserved
loop-i-preserved c =
    let on = next-on c.args.block c.args.pins.now c.args.words.now c.loop-i.i
    (map use_said c.loop-i.uses.items) _ _ c.loop-i.invariant c.requires c.loop-i-test.true
    (sym c.is_open.ensures ∙ c.if-is_open.false) in
    rw (c.in_ok-push.ensures.items, c.in-Ok.ensures.1, map-append) on
