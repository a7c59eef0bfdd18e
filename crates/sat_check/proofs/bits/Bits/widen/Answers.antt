use Rattle.std.proofs.Common.{rules, ◌∙◌}
use Rattle.sat_check.proofs.BitsLaws.{longer_same}
use Rattle.sat_check.proofs.bits.Bits.widen.Goals as goal

pub loop-self-preserved : goal.loop-self-preserved
loop-self-preserved c = record {
  no_fewer = search rules;
  same = λ at. rw c.in_ok-push.ensures.items
      (longer_same c.loop-self.self-inside.words.items at ∙ c.loop-self.invariant.same at);
}
