use Rattle.std.proofs.Common.{arith}
use Rattle.fpga_arch.specs.declared.keyword.Keyword.TheVariants.{Outpin}
use Rattle.fpga_arch.proofs.DraftLemmas.{draft-pin}
use Rattle.fpga_arch.proofs.draft.Draft.take_output.Goals as goal

-- the pin is sound and agrees with the others
pub invariant_of-self-2 : goal.invariant_of-self-2
invariant_of-self-2 c = rw (c.mark.ensures, c.in-Ok-push.ensures.items)
    (draft-pin c.self.inside.flags c.self.inside.io_rat c.self.inside.pins.items
    c.self.inside.output c.self.inside.input c.self.inside.pad Outpin c.in-Ok.pin c.self.invariant
    (λ e. absurd (omega (arith, e)))
    (rw c.as_slice.ensures.value at c.in-Ok.ensures.ok.room) c.in-Ok.ensures.ok.sound
    (rw c.as_slice.ensures.value at c.in-Ok.ensures.ok.agrees))
