use Rattle.std.proofs.Common.{inr, subst}
use Rattle.run_placed.specs.Raised.{LeastNames, narrowed_files}
use Rattle.run_outcome.specs.declared.outcome.Outcome.TheVariants.{Narrowed}
use Rattle.run_outcome.specs.Written.{WritesFiles}
use Rattle.run_placed.proofs.narrowed.write_narrowed.Goals as goal

pub returns : goal.returns
returns g c =
    inr (subst (λ (names : LeastNames).
    WritesFiles (Narrowed c.args.raised.now.tracks c.args.at.now.width c.args.cut)
    (narrowed_files names c.args.at.now.found c.args.raised.now.tracks c.args.raised.now.why)
    (g.S.Shelf.state c.args.shelf.now) (g.S.Shelf.state c.write_under.new.shelf)
    c.write_under.result) c.in-Ok.ensures c.write_under.ensures)
