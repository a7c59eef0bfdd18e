use Rattle.std.proofs.Common.{◌≡◌, ◌+◌, ◌-◌, ◌≤◌, ◌<◌, ℕ, Bool, true, List, length, arith, subst, sym, ap, ◌∙◌, set}
use Rattle.std.proofs.lemmas.List.{length-set}
use Rattle.sat_order.specs.Heap.{IsSeated, held_of}
use Rattle.sat_order.specs.Order.{OrderState, joined}
use Rattle.sat_order.proofs.BitLaws.{read-is}
use Rattle.sat_order.proofs.JoinedLaws.{move_over}
use Rattle.sat_order.proofs.OrderLaws.{activity_changes, asleep-raised, late, raised-read, raised-rising, raised-outside}
use Rattle.sat_order.proofs.order.Order.bump.Goals as goal
use Rattle.sat_order.proofs.order.Order.bump.Goals.{After-self}

-- the variable has an activity
in_range : (c : After-self) → c.args.v - 1 < length c.self.inside.activities.items
in_range c =
    let many : length c.self.inside.activities.items ≡ c.args.self.now.vars =
    ap (λ (t : OrderState). t.vars) c.self.view_is in
    omega (arith, many, c.requires.variable.first, c.requires.variable.last)

pub sift_up-requires-clause-rising : goal.sift_up-requires-clause-rising
sift_up-requires-clause-rising c =
    let o = c.self.inside in
    let in_v = in_range (goal.at.sift_up-requires-clause-rising c).After-self in
    let more = raised-read o.activities.items (c.args.v - 1) c.index_mut.result.now c.args.by in_v
    c.index_mut.ensures.value in
    rw (c.deref-then-place-self.ensures.value, c.place-place.ensures.value)
    (raised-rising o.activities.items (c.args.v - 1) (c.index_mut.result.now + c.args.by) in_v more
    o.seats o.count c.self.invariant.seated c.self.invariant.within c.self.invariant.heap)

pub enter-requires-clause-outside : goal.enter-requires-clause-outside
enter-requires-clause-outside c =
    let o = c.self.inside in let inv = c.self.invariant in let x : ℕ = c.args.v - 1 in
    let in_x = in_range (goal.at.enter-requires-clause-outside c).After-self in
    late o.activities.items o.seats o.count inv.seated x in_x
    (inv.apart x (sym c.has.ensures ∙ c.if-has.true))

pub enter-requires-clause-heap : goal.enter-requires-clause-heap
enter-requires-clause-heap c =
    let o = c.self.inside in let inv = c.self.invariant in let x : ℕ = c.args.v - 1 in
    let in_x = in_range (goal.at.enter-requires-clause-heap c).After-self in
    let more = raised-read o.activities.items x c.index_mut.result.now c.args.by in_x
    c.index_mut.ensures.value in
    rw c.deref.ensures.value
    (raised-outside o.activities.items x (c.index_mut.result.now + c.args.by) in_x more
    o.seats o.count inv.seated inv.within inv.heap
    (late o.activities.items o.seats o.count inv.seated x in_x
    (inv.apart x (sym c.has.ensures ∙ c.if-has.true))))

pub invariant_of-self-else-place-self : goal.invariant_of-self-else-place-self
invariant_of-self-else-place-self c =
    let o = c.self.inside in let inv = c.self.invariant in
    let in_v = in_range (goal.at.invariant_of-self-else-place-self c).After-self in
    let more = raised-read o.activities.items (c.args.v - 1) c.index_mut.result.now c.args.by in_v
    c.index_mut.ensures.value in
    let a : ℕ = c.index_mut.result.now + c.args.by in
    let same : length o.activities.items ≡ length (set o.activities.items (c.args.v - 1) a) =
    sym (length-set o.activities.items (c.args.v - 1) a) in
    record {
      few = inv.few;
      seated = subst (λ (n : ℕ). IsSeated n o.seats) same inv.seated;
      within = omega (arith, same, inv.within);
      heap = raised-outside o.activities.items (c.args.v - 1) a in_v more o.seats o.count
          inv.seated inv.within inv.heap
          (subst (λ (p : ℕ). o.count ≤ p) c.place-place.ensures.value c.if-place-self.false);
      whole = inv.whole ∙ same;
      apart = inv.apart;
      asleep = asleep-raised o.activities.items o.idle (c.args.v - 1) a inv.asleep
          (sym c.has.ensures ∙ c.if-has.false);
    }

pub returns-then-has : goal.returns-then-has
returns-then-has c =
    let o = c.self.inside in let x : ℕ = c.args.v - 1 in
    let acts : List ℕ = o.activities.items in let held : List Bool = held_of o.count o.seats in
    let in_x = in_range (goal.at.returns-then-has c).After-self in
    activity_changes acts o.seats c.enter.new.seats o.count (o.count + 1) o.idle c.remove.new.self
    c.args.v c.args.by (c.index_mut.result.now + c.args.by) c.args.self.now c.self.view_is
    (ap (λ (a : ℕ). a + c.args.by)
    (sym (read-is acts x c.index_mut.result.now in_x c.index_mut.ensures.value)))
    (ap (λ (l : List Bool). joined l c.remove.new.self) c.enter.ensures.held
    ∙ ap (joined (set held x true)) c.remove.ensures
    ∙ move_over held o.idle x (sym c.has.ensures ∙ c.if-has.true))
