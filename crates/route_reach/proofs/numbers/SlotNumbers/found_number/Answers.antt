use Rattle.std.proofs.Common.{◌≡◌, ◌∙◌, List, ap, subst, sym}
use Rattle.fpga_types.specs.Slots.{slot_at}
use Rattle.fpga_types.specs.declared.problem.Slot.{Slot}
use Rattle.route_encode.specs.Rivals.{next_rival}
use Rattle.route_encode.proofs.RivalLemmas.{fewer-left}
use Rattle.route_reach.proofs.FirstLemmas.{IsSought, off-grid, sought-found, sought-next, sought-none, sought-on}
use Rattle.route_reach.proofs.numbers.SlotNumbers.found_number.Goals as goal

pub returns-then-not-has_cell : goal.returns-then-not-has_cell
returns-then-not-has_cell c =
    sym (rw (← c.self.view_is) (off-grid c.self.inside.grid c.self.inside.slots.now
    c.self.invariant.on_grid c.args.slot (sym c.has_cell.ensures ∙ c.if-not-has_cell.true)))

pub bounds-self-inside-number : goal.bounds-self-inside-number
bounds-self-inside-number c =
    rw c.self.view_is (sought-next c.args.self.now c.args.slot c.in-Some.number
    (subst (IsSought c.args.self.now c.args.slot) c.in-Some.is c.loop-next.invariant)).within

pub returns-then-self-number : goal.returns-then-self-number
returns-then-self-number c =
    let all : List Slot = c.args.self.now in
    let same : (slot_at all c.in-Some.number).net ≡ c.args.slot.net =
    rw (← c.self.view_is) c.if-self-number.true in
    let distinct = rw c.self.view_is at c.self.invariant.distinct in
    sym (sought-found all distinct c.args.slot c.in-Some.number
    (subst (IsSought all c.args.slot) c.in-Some.is c.loop-next.invariant) same)

pub next_after-next-requires : goal.next_after-next-requires
next_after-next-requires c =
    rw (c.self.invariant.chains, c.self.view_is) (sought-next c.args.self.now c.args.slot
    c.in-Some.number
    (subst (IsSought c.args.self.now c.args.slot) c.in-Some.is c.loop-next.invariant)).within

pub loop-next-smaller : goal.loop-next-smaller
loop-next-smaller c =
    let all : List Slot = c.args.self.now in
    let next = sought-next all c.args.slot c.in-Some.number
    (subst (IsSought all c.args.slot) c.in-Some.is c.loop-next.invariant) in
    let later : c.next_after-next.result ≡ next_rival all c.in-Some.number =
    c.next_after-next.ensures ∙ ap (λ (ss : List Slot). next_rival ss c.in-Some.number)
    (c.self.invariant.chains ∙ c.self.view_is) in
    rw (c.in-Some.is, later) (fewer-left all c.in-Some.number next.within)

pub loop-next-preserved : goal.loop-next-preserved
loop-next-preserved c =
    let all : List Slot = c.args.self.now in
    let later : c.next_after-next.result ≡ next_rival all c.in-Some.number =
    c.next_after-next.ensures ∙ ap (λ (ss : List Slot). next_rival ss c.in-Some.number)
    (c.self.invariant.chains ∙ c.self.view_is) in
    subst (IsSought all c.args.slot) (sym later) (sought-on all c.args.slot c.in-Some.number
    (subst (IsSought all c.args.slot) c.in-Some.is c.loop-next.invariant)
    (rw (← c.self.view_is) c.if-self-number.false))

pub returns : goal.returns
returns c =
    sym (sought-none c.args.self.now c.args.slot
    (subst (IsSought c.args.self.now c.args.slot) c.in_default.is c.loop-next.invariant))
