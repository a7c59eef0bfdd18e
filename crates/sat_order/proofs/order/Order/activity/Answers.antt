use Rattle.std.proofs.Common.{length, refl, subst, ◌∙◌}
use Rattle.sat_order.specs.Heap.{held_of}
use Rattle.sat_order.specs.Order.{OrderState, IsWhole}
use Rattle.sat_order.proofs.JoinedLaws.{length-joined}
use Rattle.sat_order.proofs.SeatLaws.{length-held}
use Rattle.sat_order.proofs.order.Order.activity.Goals as goal

pub returns-clause-whole : goal.returns-clause-whole
returns-clause-whole c =
    let o = c.self.inside in
    subst (λ (t : OrderState). IsWhole t) c.self.view_is (record {
      activities = refl;
      held = length-joined (held_of o.count o.seats) o.idle
          ∙ length-held (length o.activities.items) o.count o.seats c.self.invariant.seated;
    })
