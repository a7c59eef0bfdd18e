use Rattle.std.proofs.Common.{arith}
use Rattle.list_laws.proofs.Places.{get-there}
use Rattle.cell_clauses.specs.Clauses.{pair_clauses}
use Rattle.cell_clauses.specs.Held.{frame_in}
use Rattle.cell_clauses.proofs.ExtendLemmas.{extends-numbered, extends-numbered-all}
use Rattle.cell_clauses.proofs.frame.PlacedWindow.add_pairs.Goals as goal

pub loop-place-preserved : goal.loop-place-preserved
loop-place-preserved c =
    extends-numbered (pair_clauses (frame_in c.args.self.now) (c.args.first, c.args.arrival))
    c.args.self.now.arrivals.items c.loop-place.place c.index-second.result.now c.args.formula.now
    c.loop-place.formula c.add_pair.new.formula
    (get-there c.args.self.now.arrivals.items c.loop-place.place c.index-second.result.now
    c.index-second.result.now (omega arith) c.index-second.ensures) c.loop-place.invariant
    c.in_ok-add_pair.ensures

pub returns : goal.returns
returns c =
    extends-numbered-all (pair_clauses (frame_in c.args.self.now) (c.args.first, c.args.arrival))
    c.args.self.now.arrivals.items c.loop-place.place c.args.formula.now c.loop-place.formula
    (omega arith) c.loop-place.invariant
