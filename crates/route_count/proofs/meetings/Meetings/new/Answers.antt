use Rattle.std.proofs.Common.{List, Option, arith, drop, length, subst, sym}
use Rattle.route_count.specs.Meetings.{AreFound}
use Rattle.route_count.specs.declared.meetings.Meeting.{Meeting}
use Rattle.route_count.proofs.CountedLemmas.{front-written}
use Rattle.route_count.proofs.meetings.Meetings.new.Goals as goal

pub returns : goal.returns
returns c =
    subst (λ (found : List (Option Meeting)). AreFound c.args.slots.now c.args.trees.now
    c.args.row.now (length c.args.row.now) found)
    (sym (front-written c.note_all.new.found
    (drop (length c.note_all.new.found) c.in_ok-found.found.items) c.in_ok-found.found.len
    (omega (arith, c.note_all.ensures.each, c.in_ok-found.ensures.len))))
    c.in-Ok.ensures.found
