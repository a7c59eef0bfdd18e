use Rattle.std.proofs.Common.{◌≡◌, ◌<◌, ◌∙◌, ◌∷◌, [], ℕ, ℤ, List, None, arith, get_or, length, subst, sym}
use Rattle.fpga_types.specs.declared.problem.Slot.{Slot}
use Rattle.sat_clause.specs.Literal.{Clause}
use Rattle.sat_rat.specs.FullRup.{full_rup}
use Rattle.sat_count.specs.Names.{no}
use Rattle.sat_count.specs.Refuting.{RefutationState, live_of}
use Rattle.sat_count.proofs.VariableLemmas.{within-two}
use Rattle.route_encode.specs.Encoding.{place_of}
use Rattle.problem_facts.specs.Leads.{TreesState}
use Rattle.route_count.specs.Meetings.{IsMeeting}
use Rattle.route_count.specs.Said.{apart_clause}
use Rattle.route_count.specs.declared.meetings.Meeting.{Meeting}
use Rattle.route_count.proofs.FirstLemmas.{apart-justified, met-grows}
use Rattle.route_count.proofs.first_level.Beginning.add_pair.Goals as goal

pub led_track-requires-clause-slot : goal.led_track-requires-clause-slot
led_track-requires-clause-slot c =
    let met = (c.args.self.now.met c.args.lower c.args.higher c.requires.lower
    (omega (arith, c.requires.higher, c.args.self.now.size))).1 c.of-meeting.result
    c.of-meeting.ensures in
    omega (arith, met.lower, c.args.self.now.each)

pub led_track-requires-2-clause-slot : goal.led_track-requires-2-clause-slot
led_track-requires-2-clause-slot c =
    let met = (c.args.self.now.met c.args.lower c.args.higher c.requires.lower
    (omega (arith, c.requires.higher, c.args.self.now.size))).1 c.of-meeting.result
    c.of-meeting.ensures in
    omega (arith, met.higher, c.args.self.now.each)

pub add-requires-clause-within : goal.add-requires-clause-within
add-requires-clause-within c =
    within-two c.args.refutation.now.last_variable c.lacks.result c.lacks-2.result (
      c.lacks.ensures.within.0,
      omega (
        arith,
        c.lacks.ensures.within.1,
        c.args.self.now.room,
        c.requires.begun.variables,
      ),
    ) (
      c.lacks-2.ensures.within.0,
      omega (
        arith,
        c.lacks-2.ensures.within.1,
        c.args.self.now.room,
        c.requires.begun.variables,
      ),
    )

pub add-requires-clause-follows : goal.add-requires-clause-follows
add-requires-clause-follows c =
    let width : ℕ = c.args.self.now.variables.width in
    let t : TreesState = c.args.self.now.trees.now in
    let r : RefutationState = c.args.refutation.now in
    let all : List Slot = c.args.self.now.slots.now in
    let m : Meeting = c.of-meeting.result in
    let a : ℕ = get_or c.args.self.now.row.now c.args.lower 0 in
    let b : ℕ = get_or c.args.self.now.row.now c.args.higher 0 in
    let low : c.args.higher < length c.args.self.now.row.now =
    omega (arith, c.requires.higher, c.args.self.now.size) in
    let met : IsMeeting all t a b m =
    (c.args.self.now.met c.args.lower c.args.higher c.requires.lower low).1 m
    c.of-meeting.ensures in
    let ready = c.requires.ready c.args.lower c.args.higher m c.requires.lower low
    c.of-meeting.ensures in
    let first : c.lacks.result ≡ no (place_of width a c.args.track) = c.lacks.ensures.value in
    let second : c.lacks-2.result ≡ no (place_of width b c.args.track) =
    c.lacks-2.ensures.value in
    let clause : apart_clause width a b c.args.track ≡ c.lacks.result ∷ c.lacks-2.result ∷ [] =
    λ j. sym first j ∷ sym second j ∷ [] in
    subst (λ (found : Clause). full_rup (live_of r) found c.deref.result.now ≡ None) clause
    (subst (λ (hints : List ℤ). full_rup (live_of r) (apart_clause width a b c.args.track) hints
    ≡ None) (sym (c.deref.ensures.0 ∙ c.chained-hints.ensures))
    (apart-justified r t c.args.self.now.are_trees width c.args.track c.requires.track all
    c.args.self.now.nets a b m met c.led_track.result c.led_track-2.result c.met.result
    (c.led_track.ensures.reason r c.requires.begun ready.0)
    (c.led_track-2.ensures.reason r c.requires.begun ready.1)
    (met-grows c.args.self.now.formula.now.cnf r width c.args.track m c.met.result
    c.requires.begun c.met.ensures.id)))
