use Rattle.std.proofs.Common.{◌≡◌, ◌+◌, ◌-◌, ◌<◌, ℕ, Bool, true, false, List, length, get_or, set, sym, ap, ◌∙◌, subst, arith, rules}
use Rattle.std.proofs.lemmas.List.{set-get_or}
use Rattle.sat_order.specs.Heap.{held_of}
use Rattle.sat_order.specs.Order.{OrderState, joined}
use Rattle.sat_order.proofs.JoinedLaws.{in_first, in_second, put_first, put_second}
use Rattle.sat_order.proofs.OrderLaws.{apart_with, early-in, held_changes, late-out}
use Rattle.sat_order.proofs.SeatLaws.{length-held}
use Rattle.sat_order.proofs.order.Order.put_back.Goals as goal

pub returns-then-has : goal.returns-then-has
returns-then-has c =
    let o = c.self.inside in let inv = c.self.invariant in let x : ℕ = c.args.v - 1 in
    let there : get_or (joined (held_of o.count o.seats) o.idle) x false ≡ true =
    in_second (held_of o.count o.seats) o.idle x
    (inv.whole ∙ sym (length-held (length o.activities.items) o.count o.seats inv.seated))
    (sym c.has.ensures ∙ c.if-has.true) in
    sym c.self.view_is
    ∙ held_changes o.activities.items o.seats o.seats o.count o.count o.idle o.idle x true
    c.args.self.now c.self.view_is
    (sym (set-get_or (joined (held_of o.count o.seats) o.idle) x false)
    ∙ ap (λ (b : Bool). set (joined (held_of o.count o.seats) o.idle) x b) there)

pub invariant_of-self : goal.invariant_of-self
invariant_of-self c =
    let o = c.self.inside in let inv = c.self.invariant in let x : ℕ = c.args.v - 1 in
    let many : length o.activities.items ≡ c.args.self.now.vars =
    ap (λ (t : OrderState). t.vars) c.self.view_is in
    let in_x : x < length o.activities.items =
    omega (arith, many, c.requires.first, c.requires.last) in
    record {
      few = inv.few;
      seated = inv.seated;
      within = inv.within;
      heap = inv.heap;
      whole = search rules;
      apart =
          apart_with (held_of o.count o.seats) o.idle c.insert.new.self x c.insert.ensures inv.apart
          (late-out o.activities.items o.seats o.count inv.seated x in_x
          (rw (← c.place.ensures.value) c.if-place-self.false));
      asleep = search rules;
    }

pub returns-then-place-self : goal.returns-then-place-self
returns-then-place-self c =
    let o = c.self.inside in let inv = c.self.invariant in let x : ℕ = c.args.v - 1 in
    let many : length o.activities.items ≡ c.args.self.now.vars =
    ap (λ (t : OrderState). t.vars) c.self.view_is in
    let in_x : x < length o.activities.items =
    omega (arith, many, c.requires.first, c.requires.last) in
    let there : get_or (joined (held_of o.count o.seats) o.idle) x false ≡ true =
    in_first (held_of o.count o.seats) o.idle x
    (early-in o.activities.items o.seats o.count inv.seated x in_x
    (subst (λ (p : ℕ). p < o.count) c.place.ensures.value c.if-place-self.true)) in
    sym c.self.view_is
    ∙ held_changes o.activities.items o.seats o.seats o.count o.count o.idle o.idle x true
    c.args.self.now c.self.view_is
    (sym (set-get_or (joined (held_of o.count o.seats) o.idle) x false)
    ∙ ap (λ (b : Bool). set (joined (held_of o.count o.seats) o.idle) x b) there)

pub returns-then-index-eq0 : goal.returns-then-index-eq0
returns-then-index-eq0 c =
    let o = c.self.inside in let inv = c.self.invariant in let x : ℕ = c.args.v - 1 in
    held_changes o.activities.items o.seats o.seats o.count o.count o.idle c.insert.new.self x true
    c.args.self.now c.self.view_is
    (ap (joined (held_of o.count o.seats)) c.insert.ensures
    ∙ put_second (held_of o.count o.seats) o.idle x
    (inv.whole ∙ sym (length-held (length o.activities.items) o.count o.seats inv.seated)))

pub returns : goal.returns
returns c =
    let o = c.self.inside in let x : ℕ = c.args.v - 1 in
    held_changes o.activities.items o.seats c.enter.new.seats o.count (o.count + 1) o.idle o.idle x
    true c.args.self.now c.self.view_is
    (ap (λ (l : List Bool). joined l o.idle) c.enter.ensures.held
    ∙ put_first (held_of o.count o.seats) o.idle x)
