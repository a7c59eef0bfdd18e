use Rattle.std.proofs.Common.{◌≡◌, ℕ, ◌+◌, ◌*◌, List, [], ◌∷◌, ◌++◌, ap, sym, ◌∙◌, arith}
use Rattle.list_laws.proofs.Places.{get-there}
use Rattle.sat_clause.specs.declared.literal.Lit.{Lit}
use Rattle.cell_clauses.specs.Held.{frame_in, near_cells}
use Rattle.cell_clauses.specs.Places.{has, use_place}
use Rattle.cell_clauses.proofs.NearLemmas.{use-none, use-some}
use Rattle.cell_clauses.proofs.frame.PlacedWindow.add_use.Goals as goal

pub returns-then-not-is_near : goal.returns-then-not-is_near
returns-then-not-is_near c =
    let f = frame_in c.args.self.now in
    use-none f (near_cells f c.args.near) c.args.net c.args.place c.index.result.now
    (get-there c.args.self.now.cells.items c.args.place c.index.result.now c.index.result.now
    (omega arith) c.index.ensures) c.args.lits.now.items
    (sym c.is_near.ensures ∙ c.if-not-is_near.true)

pub returns : goal.returns
returns c =
    let f = frame_in c.args.self.now in
    let made = use-some f (near_cells f c.args.near) c.args.net c.args.place c.index.result.now
    (get-there c.args.self.now.cells.items c.args.place c.index.result.now c.index.result.now
    (omega arith) c.index.ensures) (sym c.is_near.ensures ∙ c.if-not-is_near.false) in
    let place : c.use_place.result ≡ use_place f c.args.net c.args.place = c.use_place.ensures.value
    ∙ ap (λ (n : ℕ). c.args.net * n + c.args.place) c.args.self.now.cells_are in
    let lit : c.has_lit.result ≡ has (use_place f c.args.net c.args.place) =
    c.has_lit.ensures ∙ ap has place in
    let pushed = c.in_ok-push.ensures in
    pushed.items ∙ ap (λ (l : Lit). c.args.lits.now.items ++ l ∷ []) lit
    ∙ ap (λ (t : List Lit). c.args.lits.now.items ++ t) (sym made)
