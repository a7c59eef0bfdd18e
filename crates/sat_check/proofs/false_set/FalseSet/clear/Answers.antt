use Rattle.std.proofs.Common.{arith}
use Rattle.sat_check.proofs.FalseLaws.{none_is_marked}
use Rattle.sat_check.proofs.false_set.FalseSet.clear.Goals as goal

pub invariant_of-self : goal.invariant_of-self
invariant_of-self c =
    let marks = c.self.inside.marks in
    record {
      many = omega (arith, c.unmark.ensures.many, c.self.invariant.many);
      few = c.self.invariant.few;
      within = rw c.clear.ensures.items (λ k d none. absurd (omega arith));
      marked = rw c.clear.ensures.items
          (none_is_marked marks c.unmark.new.marks c.self.inside.trail.items
          c.self.invariant.marked (simp c.deref.ensures.value at c.unmark.ensures.unmarked)
          c.unmark.ensures.others);
    }
