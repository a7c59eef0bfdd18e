use Rattle.std.proofs.Common.{◌≡◌, ◌<◌, ◌∙◌, ℕ, List, Bool, Option, true, arith, length, length-set, set, subst}
use Rattle.route_count.specs.declared.meetings.Meeting.{Meeting}
use Rattle.route_count.proofs.MarkLemmas.{AreMarkedAt, both-kept, marked-all, marked-keeps, marked-more}
use Rattle.route_count.proofs.first_level.Beginning.mark_meetings_below.Goals as goal

pub loop-lower-init : goal.loop-lower-init
loop-lower-init c = record {
  each = c.requires.each;
  before = c.requires.marked;
  here = λ lower m none there. absurd (omega (arith, none));
}

pub bounds-passed-meeting : goal.bounds-passed-meeting
bounds-passed-meeting c =
    let met = (c.args.self.now.met c.loop-lower.lower c.args.higher c.loop-lower-test.true
    c.requires.higher).1 c.of-meeting.result c.of-meeting.ensures in
    omega (arith, met.lower, c.args.self.now.each, c.loop-lower.invariant.each)

pub bounds-passed-meeting-in-loop-lower : goal.bounds-passed-meeting-in-loop-lower
bounds-passed-meeting-in-loop-lower c =
    let met = (c.args.self.now.met c.loop-lower.lower c.args.higher c.loop-lower-test.true
    c.requires.higher).1 c.of-meeting.result c.of-meeting.ensures in
    omega (
      arith,
      met.higher,
      c.args.self.now.each,
      c.loop-lower.invariant.each,
      length-set c.loop-lower.passed c.of-meeting.result.lower true,
    )

pub loop-lower-preserved : goal.loop-lower-preserved
loop-lower-preserved c =
    let found : List (Option Meeting) = c.args.self.now.meetings.now in
    let m : Meeting = c.of-meeting.result in
    let passed : List Bool = c.loop-lower.passed in
    let met = (c.args.self.now.met c.loop-lower.lower c.args.higher c.loop-lower-test.true
    c.requires.higher).1 m c.of-meeting.ensures in
    let low : m.lower < length passed =
    omega (arith, met.lower, c.args.self.now.each, c.loop-lower.invariant.each) in
    let high : m.higher < length passed =
    omega (arith, met.higher, c.args.self.now.each, c.loop-lower.invariant.each) in
    let once : List Bool = set passed m.lower true in record {
      each = length-set once m.higher true ∙ length-set passed m.lower true
          ∙ c.loop-lower.invariant.each;
      before = marked-keeps c.args.higher found passed (set once m.higher true)
          (both-kept found c.args.higher c.loop-lower.lower m passed c.of-meeting.ensures low high)
          c.loop-lower.invariant.before;
      here = marked-more found c.args.higher c.loop-lower.lower m passed c.of-meeting.ensures low
          high c.loop-lower.invariant.here;
    }

pub returns-clause-marked : goal.returns-clause-marked
returns-clause-marked c =
    let found : List (Option Meeting) = c.args.self.now.meetings.now in
    let all : c.loop-lower.lower ≡ c.args.higher =
    omega (arith, c.loop-lower-test.false, c.loop-lower.auto) in
    marked-all found c.args.higher c.loop-lower.passed c.loop-lower.invariant.before
    (subst (λ (n : ℕ). AreMarkedAt c.args.higher n found c.loop-lower.passed) all
    c.loop-lower.invariant.here)
