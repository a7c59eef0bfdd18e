use Rattle.std.proofs.Common.{refl}
use Rattle.fpga_net.specs.Begun.{begun_said}
use Rattle.fpga_net.proofs.DraftLemmas.{is_some-map}
use Rattle.fpga_net.proofs.EndLemmas.{last_fault-entries}
use Rattle.fpga_net.proofs.draft.Draft.finish.Goals as goal

pub returns-then-lacks_driver : goal.returns-then-lacks_driver
returns-then-lacks_driver c =
    let kept = rw (← c.self.view_is) at c.requires in
    rw (
      c.at-then-lacks_driver.ensures,
      ← c.self.view_is,
      last_fault-entries _ c.args.end kept,
      is_some-map begun_said c.self.inside.begun,
      ← c.if-is_some.ensures,
      ← c.if-lacks_driver.ensures,
    ) refl

pub returns-then-lacks_sink : goal.returns-then-lacks_sink
returns-then-lacks_sink c =
    let kept = rw (← c.self.view_is) at c.requires in
    rw (
      c.at-then-lacks_sink.ensures,
      ← c.self.view_is,
      last_fault-entries _ c.args.end kept,
      is_some-map begun_said c.self.inside.begun,
      ← c.if-is_some.ensures,
      ← c.if-lacks_driver.ensures,
      ← c.if-lacks_sink.ensures,
    ) refl

pub returns : goal.returns
returns c =
    let kept = rw (← c.self.view_is) at c.requires in (
      rw (
        ← c.self.view_is,
        last_fault-entries _ c.args.end kept,
        is_some-map begun_said c.self.inside.begun,
        ← c.if-is_some.ensures,
        ← c.if-lacks_driver.ensures,
        ← c.if-lacks_sink.ensures,
      ) refl,
      c.in-Ok.ensures,
    )
