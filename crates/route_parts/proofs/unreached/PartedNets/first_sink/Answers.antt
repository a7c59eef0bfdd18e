use Rattle.route_parts.specs.Marks.{parted_of}
use Rattle.route_parts.proofs.FirstLemmas.{first-sink, sinks-all, sinks-more}
use Rattle.route_parts.proofs.unreached.PartedNets.first_sink.Goals as goal

pub returns-then-not-branch : goal.returns-then-not-branch
returns-then-not-branch c =
    first-sink (parted_of c.args.self.now) c.args.net.now c.args.marks.now
    c.as_slice-pin-items.result.now c.as_slice-pin-items.ensures c.requires.parted
    c.requires.marked c.loop-number.number _ c.in_ok-is_sink_reached.field-0
    c.in_ok-is_sink_reached.ensures c.if-not-branch.true c.loop-number-test.true
    c.loop-number.invariant

pub loop-number-preserved : goal.loop-number-preserved
loop-number-preserved c =
    sinks-more (parted_of c.args.self.now) c.args.net.now c.args.marks.now
    c.as_slice-pin-items.result.now c.as_slice-pin-items.ensures c.requires.parted
    c.requires.marked c.loop-number.number _ c.in_ok-is_sink_reached.field-0
    c.in_ok-is_sink_reached.ensures c.if-not-branch.false c.loop-number-test.true
    c.loop-number.invariant

pub returns : goal.returns
returns c =
    sinks-all (parted_of c.args.self.now) c.args.net.now c.args.marks.now
    c.as_slice-pin-items.result.now c.as_slice-pin-items.ensures c.requires.parted
    c.requires.marked c.loop-number.number c.loop-number-test.false c.loop-number.invariant
