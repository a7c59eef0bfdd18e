use Rattle.std.proofs.Common.{refl, w64}
use Rattle.std.proofs.lemmas.Int.{to_z-of_z}
use Rattle.fpga_text.proofs.FrontLemmas.{number_cut, small_fits}
use Rattle.fpga_text.proofs.line.Line.next_number.Goals as goal

pub returns-clause-number : goal.returns-clause-number
returns-clause-number c =
    rw (
      ← c.self.view_is,
      number_cut c.self.inside.rest.now c.in-Some.front.value
          c.in-Some.ensures.value c.self.invariant,
      c.in-Some.ensures.value,
      to_z-of_z w64 c.in-Some.front.value
          (small_fits c.in-Some.front.value c.in-Some.ensures.small),
    ) refl

pub returns-clause-after : goal.returns-clause-after
returns-clause-after c =
    rw (
      ← c.self.view_is,
      number_cut c.self.inside.rest.now c.in-Some.front.value
          c.in-Some.ensures.value c.self.invariant,
      c.in-Some.ensures.behind,
    ) refl
