use Rattle.std.proofs.Common.{◌≡◌, ◌+◌, ◌-◌, ℕ, Bool, false, List, length, get_or, set, refl, sym, ap, ◌∙◌, subst, arith}
use Rattle.sat_order.specs.BitSet.{IsLeast}
use Rattle.sat_order.specs.Heap.{held_of}
use Rattle.sat_order.specs.Order.{OrderState, IsAhead, IsBehind, IsBest, IsEmpty, joined}
use Rattle.sat_order.proofs.JoinedLaws.{take_first, take_second}
use Rattle.sat_order.proofs.OrderLaws.{first-best, first-held, held_changes, idle-best, none-held, out-of-idle}
use Rattle.sat_order.proofs.SeatLaws.{length-held}
use Rattle.sat_order.proofs.order.Order.take_best.Goals as goal

pub returns-then-is_ahead-clause-best : goal.returns-then-is_ahead-clause-best
returns-then-is_ahead-clause-best c =
    let o = c.self.inside in let inv = c.self.invariant in
    subst (λ (t : OrderState). IsBest t (c.leave-first.result + 1)) c.self.view_is
    (first-best o.activities.items o.seats o.count inv.seated inv.within inv.heap o.idle
    c.leave-first.result inv.whole c.leave-first.ensures.first (c.if-is_ahead.ensures.some refl)
    (subst (λ (l : List ℕ). IsAhead l o.seats o.idle) c.deref.ensures.value
    (c.if-is_ahead.ensures.ahead refl)))

pub returns-then-is_ahead-clause-taken : goal.returns-then-is_ahead-clause-taken
returns-then-is_ahead-clause-taken c =
    let o = c.self.inside in let inv = c.self.invariant in
    let best : ℕ = c.leave-first.result in
    let t = c.leave-first.new.seats in
    let back : best + 1 - 1 ≡ best = omega arith in
    let there = first-held o.activities.items o.seats o.count inv.seated inv.within inv.heap best
    c.leave-first.ensures.first (c.if-is_ahead.ensures.some refl) in
    held_changes o.activities.items o.seats t o.count (o.count - 1) o.idle c.is_ahead.new.idle
    (best + 1 - 1) false c.args.self.now c.self.view_is
    (ap (joined (held_of (o.count - 1) t)) c.is_ahead.ensures.idle
    ∙ ap (λ (l : List Bool). joined l o.idle) c.leave-first.ensures.held
    ∙ take_first (held_of o.count o.seats) o.idle best
    (out-of-idle (held_of o.count o.seats) o.idle best inv.apart there.1)
    ∙ ap (λ k. set (joined (held_of o.count o.seats) o.idle) k false) (sym back))

pub returns-in_default-clause-none : goal.returns-in_default-clause-none
returns-in_default-clause-none c =
    let o = c.self.inside in let inv = c.self.invariant in
    subst (λ (t : OrderState). IsEmpty t) c.self.view_is
    (none-held o.activities.items o.seats o.count inv.seated inv.within inv.heap o.idle
    (λ x. ap (λ (l : List Bool). get_or l x false) (sym c.is_ahead.ensures.idle)
    ∙ c.in_default.ensures.none x)
    (subst (λ (l : List ℕ). IsBehind l o.seats o.count o.idle) c.deref.ensures.value
    (c.if-is_ahead.ensures.behind refl)))

pub returns-clause-best : goal.returns-clause-best
returns-clause-best c =
    let o = c.self.inside in let inv = c.self.invariant in
    subst (λ (t : OrderState). IsBest t (c.in-Some.least + 1)) c.self.view_is
    (idle-best o.activities.items o.seats o.count inv.seated inv.within inv.heap o.idle
    c.in-Some.least inv.whole inv.asleep
    (subst (λ (l : List Bool). IsLeast l c.in-Some.least) c.is_ahead.ensures.idle
    c.in-Some.ensures.least)
    (subst (λ (l : List ℕ). IsBehind l o.seats o.count o.idle) c.deref.ensures.value
    (c.if-is_ahead.ensures.behind refl)))

pub returns-clause-taken : goal.returns-clause-taken
returns-clause-taken c =
    let o = c.self.inside in let inv = c.self.invariant in
    let least : ℕ = c.in-Some.least in
    let back : least + 1 - 1 ≡ least = omega arith in
    let is = subst (λ (l : List Bool). IsLeast l least) c.is_ahead.ensures.idle
    c.in-Some.ensures.least in
    held_changes o.activities.items o.seats o.seats o.count o.count o.idle c.remove.new.self
    (least + 1 - 1) false c.args.self.now c.self.view_is
    (ap (joined (held_of o.count o.seats))
    (c.remove.ensures
    ∙ ap (λ (l : List Bool). set l least false) (c.least.ensures.same ∙ c.is_ahead.ensures.idle))
    ∙ take_second (held_of o.count o.seats) o.idle least
    (inv.whole ∙ sym (length-held (length o.activities.items) o.count o.seats inv.seated))
    (inv.apart least is.there)
    ∙ ap (λ k. set (joined (held_of o.count o.seats) o.idle) k false) (sym back))
