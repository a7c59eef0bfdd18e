-- the lines so far were taken, behind any others
use Rattle.std.proofs.Common.{◌≡◌, ◌++◌, List, length, take}
use Rattle.fpga_types.specs.CellNumbers.{cell_count}
use Rattle.fpga_types.specs.declared.route.Elem.{Elem}
use Rattle.route_draw.specs.Needs.{AreNeeds, most_asked}
use Rattle.route_draw.proofs.needs.take_lines.Given as goal

abbrev pub invariant-loop-elem : goal.invariant-loop-elem
invariant-loop-elem l = record {
  size : length l.needs ≡ cell_count l.grid;
  needs : (before : List Elem)
      → AreNeeds l.grid (λ cell. most_asked cell before) l.initial.needs
      → AreNeeds l.grid (λ cell. most_asked cell (before ++ take l.elem-index l.elems)) l.needs;
}
