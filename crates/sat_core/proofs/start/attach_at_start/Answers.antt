use Rattle.std.proofs.Common.{subst, sym}
use Rattle.sat_watch.specs.Watches.{WatchState}
use Rattle.sat_core.specs.Start.{IsStanding, IsTaken}
use Rattle.sat_core.proofs.AttachLaws.{now_attached, now_reason, taken_free, taken_open}
use Rattle.sat_core.proofs.start.attach_at_start.Goals as goal

pub imply-requires-clause-attached : goal.imply-requires-clause-attached
imply-requires-clause-attached c =
    now_attached c.in_ok-c-in-Unit.ensures.ok c.requires.stand

pub imply-requires-clause-unit : goal.imply-requires-clause-unit
imply-requires-clause-unit c =
    let w = c.args.watches.now in
    let lits = c.args.lits.now in
    let unit = subst (IsStanding w lits) c.in-Unit.is c.how_it_stands.ensures in
    now_reason c.in_ok-c-in-Unit.ensures.ok c.requires.stand c.in-Unit.l unit.others

pub returns-in_ok-attach-in-Free-clause-attached : goal.returns-in_ok-attach-in-Free-clause-attached
returns-in_ok-attach-in-Free-clause-attached c = λ _.
    let w = c.args.watches.now in
    let lits = c.args.lits.now in
    let free = subst (IsStanding w lits) c.in-Free.is c.how_it_stands.ensures in
    taken_free c.in_ok-attach-in-Free.ensures.ok c.requires.stand c.requires.leveled
    c.requires.level free

pub returns-in_ok-c-in-Unit-clause-attached : goal.returns-in_ok-c-in-Unit-clause-attached
returns-in_ok-c-in-Unit-clause-attached c = λ _.
    let w = c.args.watches.now in
    let lits = c.args.lits.now in
    let unit = subst (IsStanding w lits) c.in-Unit.is c.how_it_stands.ensures in
    subst (λ (s : WatchState). IsTaken w s lits c.args.id) (sym c.imply.ensures)
    (taken_open c.in_ok-c-in-Unit.ensures.ok c.requires.stand c.in-Unit.l c.requires.leveled
    c.requires.level unit.one_open)
