use Rattle.std.proofs.Common.{[], ap, sym, ◌∙◌}
use Rattle.std.proofs.lemmas.Option.{get_or_from_slice_get}
use Rattle.cell_clauses.specs.Demands.{demands}
use Rattle.cell_clauses.specs.Held.{frame_in}
use Rattle.cell_bound.proofs.blaming.demands_at.Goals as goal

pub returns : goal.returns
returns c =
    c.demands.ensures
    ∙ ap (demands (frame_in c.args.window.now) c.args.place)
    (sym (get_or_from_slice_get c.args.formula.now.cnf.clauses c.args.at c.clause.result.now []
    c.clause.ensures.value))
