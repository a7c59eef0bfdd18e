use Rattle.std.proofs.Common.{◌≡◌, ◌∙◌, length, arith, sym, ap}
use Rattle.std.proofs.lemmas.List.{length-set}
use Rattle.sat_order.specs.Heap.{Seats}
use Rattle.sat_order.proofs.SeatLaws.{IsSeated-read}
use Rattle.sat_order.proofs.seating.Seating.swap.Goals as goal

pub invariant_of-self : goal.invariant_of-self
invariant_of-self c =
    let s = c.self.inside in
    let same : length s.order.items ≡ length c.args.self.now.order =
    ap (λ (t : Seats). length t.order) c.self.view_is in
    IsSeated-read (length s.order.items) _ s.order.items s.places.items c.args.i c.args.j
    c.index-x.result.now c.index-y.result.now
    c.self.invariant (omega (arith, same)) (omega (arith, same)) c.index-x.ensures c.index-y.ensures
    (length-set _ c.args.j _ ∙ length-set s.order.items c.args.i _)

pub returns-clause-seated : goal.returns-clause-seated
returns-clause-seated c =
    let s = c.self.inside in
    let same : length s.order.items ≡ length c.args.self.now.order =
    ap (λ (t : Seats). length t.order) c.self.view_is in
    IsSeated-read (length s.order.items) _ s.order.items s.places.items c.args.i c.args.j
    c.index-x.result.now c.index-y.result.now
    c.self.invariant (omega (arith, same)) (omega (arith, same)) c.index-x.ensures c.index-y.ensures
    (sym same)
