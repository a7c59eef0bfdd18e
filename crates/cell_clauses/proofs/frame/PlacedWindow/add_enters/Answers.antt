use Rattle.std.proofs.Common.{arith}
use Rattle.list_laws.proofs.Places.{get-there}
use Rattle.cell_clauses.specs.Clauses.{enters_clauses}
use Rattle.cell_clauses.specs.Held.{frame_in}
use Rattle.cell_clauses.proofs.ExtendLemmas.{extends-numbered, extends-numbered-all}
use Rattle.cell_clauses.proofs.frame.PlacedWindow.add_enters.Goals as goal

pub loop-place-preserved : goal.loop-place-preserved
loop-place-preserved c =
    extends-numbered (enters_clauses (frame_in c.args.self.now))
    c.args.self.now.arrivals.items c.loop-place.place c.index-arrival.result.now c.args.formula.now
    c.loop-place.formula c.add_enter.new.formula
    (get-there c.args.self.now.arrivals.items c.loop-place.place c.index-arrival.result.now
    c.index-arrival.result.now (omega arith) c.index-arrival.ensures) c.loop-place.invariant
    c.in_ok-add_enter.ensures

pub returns : goal.returns
returns c =
    extends-numbered-all (enters_clauses (frame_in c.args.self.now))
    c.args.self.now.arrivals.items c.loop-place.place c.args.formula.now c.loop-place.formula
    (omega arith) c.loop-place.invariant
