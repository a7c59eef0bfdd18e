use Rattle.std.proofs.Common.{arith}
use Rattle.list_laws.proofs.Places.{get-there}
use Rattle.cell_clauses.specs.Clauses.{held_clauses}
use Rattle.cell_clauses.specs.Held.{frame_in}
use Rattle.cell_clauses.proofs.ExtendLemmas.{extends-numbered, extends-numbered-all}
use Rattle.cell_clauses.proofs.frame.PlacedWindow.add_cells_support.Goals as goal

pub loop-number-preserved : goal.loop-number-preserved
loop-number-preserved c =
    extends-numbered (held_clauses (frame_in c.args.self.now) (c.args.place, c.args.net))
    c.args.self.now.cells.items c.loop-number.number c.index-cell.result.now c.args.formula.now
    c.loop-number.formula c.add_cell_support.new.formula
    (get-there c.args.self.now.cells.items c.loop-number.number c.index-cell.result.now
    c.index-cell.result.now (omega arith) c.index-cell.ensures) c.loop-number.invariant
    c.in_ok-add_cell_support.ensures

pub returns : goal.returns
returns c =
    extends-numbered-all (held_clauses (frame_in c.args.self.now) (c.args.place, c.args.net))
    c.args.self.now.cells.items c.loop-number.number c.args.formula.now c.loop-number.formula
    (omega arith) c.loop-number.invariant
