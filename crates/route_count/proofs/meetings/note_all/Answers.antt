use Rattle.std.proofs.Common.{◌≡◌, ◌<◌, ℕ, List, Option, arith, get_or, length, subst, sym}
use Rattle.fpga_types.specs.CellNumbers.{cell_count}
use Rattle.route_count.specs.Meetings.{AreFound, AreTaken}
use Rattle.route_count.proofs.MeetingLemmas.{found-more, none-found, none-known, unknown-more}
use Rattle.route_count.proofs.meetings.note_all.Goals as goal

pub loop-at-init : goal.loop-at-init
loop-at-init c = record {
  each = c.requires.each;
  found = none-found c.args.slots.now c.args.trees.now c.args.row.now c.args.found.now;
  unknown = none-known c.args.found.now c.requires.each c.requires.unknown;
}

pub loop-at-preserved : goal.loop-at-preserved
loop-at-preserved c =
    let low : c.loop-at.at < length c.args.row.now = c.loop-at-test.true in
    record {
      each = c.note_meetings.ensures.each;
      found = found-more c.args.grid c.args.slots.now c.args.trees.now c.requires.there
          c.args.row.now c.loop-at.at c.loop-at.found c.note_meetings.new.found
          c.deref.result.now c.requires.meet low c.requires.short
          (subst (λ (xs : List (Option ℕ)). length xs ≡ cell_count c.args.grid)
          (sym c.deref.ensures.value) c.in-Ok.ensures.each)
          (subst (λ (xs : List (Option ℕ)). AreTaken c.args.grid c.args.slots.now
          c.args.trees.now (get_or c.args.row.now c.loop-at.at 0) (length c.args.slots.now) xs)
          (sym c.deref.ensures.value) c.in-Ok.ensures.taken)
          c.note_meetings.ensures.others
          (c.note_meetings.ensures.noted c.args.row.now (omega (arith, low)) c.requires.places)
          c.loop-at.invariant.found;
      unknown = unknown-more c.loop-at.at c.loop-at.found c.note_meetings.new.found
          c.note_meetings.ensures.others c.loop-at.invariant.unknown;
    }

pub returns-clause-found : goal.returns-clause-found
returns-clause-found c =
    let all : c.loop-at.at ≡ length c.args.row.now =
    omega (arith, c.loop-at-test.false, c.loop-at.auto) in
    subst (λ (n : ℕ). AreFound c.args.slots.now c.args.trees.now c.args.row.now n
    c.loop-at.found) all c.loop-at.invariant.found
