use Rattle.std.proofs.Common.{◌≡◌, Option, subst}
use Rattle.std.specs.Prelude.{IfSome}
use Rattle.std.proofs.lemmas.Result.{IfOk-weaker}
use Rattle.route_bound.specs.Placed.{placed_netlist}
use Rattle.route_bound.specs.Ranges.{corners_of}
use Rattle.cell_clauses.specs.Frames.{frame_of}
use Rattle.cell_clauses.specs.Held.{frame_in}
use Rattle.cell_clauses.specs.declared.frame.PlacedWindow.{PlacedWindow}
use Rattle.cell_bound.specs.Refutations.{IsFoundFor, IsRefuted}
use Rattle.cell_bound.specs.declared.refuting.CellRefutation.{CellRefutation}
use Rattle.cell_bound.proofs.RefutedLemmas.{if-there, is-refuted}
use Rattle.cell_bound.proofs.refuting.Looks.refuted_window.Goals as goal

pub returns : goal.returns
returns g c =
    let placed = placed_netlist c.args.self.now.arch.now c.args.self.now.netlist.now
    c.args.self.now.placement.now in
    let range = c.args.range in
    let width = c.args.self.now.width in
    let window : frame_in c.in-Some.window ≡ frame_of placed (corners_of range) width =
    subst (λ (o : Option PlacedWindow).
    IfSome o (λ w. frame_in w ≡ frame_of placed (corners_of range) width)) c.in-Some.is
    c.in_ok-window.ensures.window in
    let frame = frame_in c.in-Some.window in
    let cnf = c.in_ok-formula.formula.cnf in
    IfOk-weaker c.refuted_formula.result
    (λ (found : Option CellRefutation). IfSome found (IsFoundFor frame range cnf))
    (λ (found : Option CellRefutation). IfSome found (IsRefuted placed width))
    (λ found h. if-there (IsFoundFor frame range cnf) (IsRefuted placed width) found
    (λ r of. is-refuted placed range width frame cnf r window c.in_ok-formula.ensures of) h)
    c.refuted_formula.ensures
