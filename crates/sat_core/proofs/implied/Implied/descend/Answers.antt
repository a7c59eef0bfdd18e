use Rattle.std.proofs.Common.{◌≡◌, ◌<◌, false, get_or, length, subst, sym, arith}
use Rattle.sat_core.specs.Implied.{WalkState}
use Rattle.sat_core.proofs.implied.Implied.descend.Goals as goal
use Rattle.sat_core.proofs.implied.Implied.descend.Goals.{After-meet}

-- there was room, and the place is new
module _ (c : After-meet) where
  room : length c.self.inside.visits.items < length c.self.inside.marks.places
  room =
      subst (λ (t : WalkState). length t.visits < length t.marks.places) (sym c.self.view_is)
      c.requires.room

  more : length c.self.inside.marks.places < length c.meet.new.self.places
  more = c.meet.ensures.more
      (subst (λ (t : WalkState). get_or t.marks.met c.args.place false ≡ false)
      (sym c.self.view_is) c.requires.new)

pub push_reserved-requires-2 : goal.push_reserved-requires-2
push_reserved-requires-2 c =
    let at = (goal.at.push_reserved-requires-2 c).After-meet in
    omega (
      arith,
      room at,
      more at,
      c.meet.ensures.few,
      c.meet.ensures.meets.size,
      c.self.invariant.room,
      c.self.inside.visits.ok.0,
      c.push_reserved.ensures.len,
      c.push_reserved.ensures.capacity,
    )

pub invariant_of-self : goal.invariant_of-self
invariant_of-self c =
    let at = (goal.at.invariant_of-self c).After-meet in
    record {
      few = omega (
        arith,
        room at,
        more at,
        c.self.inside.visits.ok.0,
        c.push_reserved.ensures.len,
        c.push_reserved-2.ensures.len,
      );
      room = omega (
        arith,
        c.self.invariant.room,
        c.meet.ensures.meets.size,
        c.push_reserved.ensures.capacity,
        c.push_reserved-2.ensures.capacity,
      );
    }
