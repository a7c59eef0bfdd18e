use Rattle.std.proofs.Common.{arith}
use Rattle.list_laws.proofs.Places.{get-there}
use Rattle.cell_clauses.specs.Clauses.{leaves_clauses}
use Rattle.cell_clauses.specs.Held.{frame_in}
use Rattle.cell_clauses.proofs.ExtendLemmas.{extends-numbered, extends-numbered-all}
use Rattle.cell_clauses.proofs.frame.PlacedWindow.add_leaves.Goals as goal

pub loop-place-preserved : goal.loop-place-preserved
loop-place-preserved c =
    extends-numbered (leaves_clauses (frame_in c.args.self.now))
    c.args.self.now.nets.items c.loop-place.place c.index-net.result.now c.args.formula.now
    c.loop-place.formula c.add_leave.new.formula
    (get-there c.args.self.now.nets.items c.loop-place.place c.index-net.result.now
    c.index-net.result.now (omega arith) c.index-net.ensures) c.loop-place.invariant
    c.in_ok-add_leave.ensures

pub returns : goal.returns
returns c =
    extends-numbered-all (leaves_clauses (frame_in c.args.self.now))
    c.args.self.now.nets.items c.loop-place.place c.args.formula.now c.loop-place.formula
    (omega arith) c.loop-place.invariant
