use Rattle.std.proofs.Common.{arith, inl, inr, sym}
use Rattle.route_count.proofs.FirstLemmas.{other-slots, slots-apart}
use Rattle.route_count.proofs.first_level.Beginning.met.Goals as goal

pub apart-requires-clause-there : goal.apart-requires-clause-there
apart-requires-clause-there c =
    let is = c.requires.meeting in
    c.args.self.now.said.apart c.args.meeting.lower c.args.meeting.higher c.args.track
    c.if-meeting.true is.2.higher c.requires.track
    (slots-apart c.args.self.now.slots.now c.args.self.now.trees.now c.args.self.now.nets is.0
    is.1 c.args.meeting is.2) is.2.cells

pub apart-requires-2-clause-lower : goal.apart-requires-2-clause-lower
apart-requires-2-clause-lower c =
    let is = c.requires.meeting in
    let other = other-slots c.args.self.now.slots.now c.args.self.now.trees.now
    c.args.self.now.nets is.0 is.1 c.args.meeting is.2 in
    omega (arith, c.if-meeting.false, other)

pub apart-requires-2-clause-there : goal.apart-requires-2-clause-there
apart-requires-2-clause-there c =
    let is = c.requires.meeting in
    let apart = slots-apart c.args.self.now.slots.now c.args.self.now.trees.now
    c.args.self.now.nets is.0 is.1 c.args.meeting is.2 in
    let other = other-slots c.args.self.now.slots.now c.args.self.now.trees.now
    c.args.self.now.nets is.0 is.1 c.args.meeting is.2 in
    c.args.self.now.said.apart c.args.meeting.higher c.args.meeting.lower c.args.track
    (omega (arith, c.if-meeting.false, other)) is.2.lower c.requires.track
    (λ e. apart (sym e)) (sym is.2.cells)

pub returns-then-meeting-clause-id : goal.returns-then-meeting-clause-id
returns-then-meeting-clause-id c = inl c.apart.ensures.id

pub returns-clause-id : goal.returns-clause-id
returns-clause-id c = inr c.apart-2.ensures.id
