use Rattle.std.proofs.Common.{List, subst, inr}
use Rattle.run_outcome.specs.Written.{WritesFiles, JobFile}
use Rattle.run_made.specs.Generated.{problem_files}
use Rattle.run_outcome.specs.declared.outcome.Outcome.TheVariants.{Done}
use Rattle.run_made.proofs.generating.generate_files.Goals as goal

pub returns : goal.returns
returns g c =
    inr (
      c.in-Ok.ensures.room,
      subst (λ (files : List JobFile). WritesFiles Done files
          (g.S.Shelf.state c.args.shelf.now) (g.S.Shelf.state c.write_texts.new.shelf)
          c.write_texts.result)
          (λ i. problem_files (c.in-Ok-behind.ensures i) (c.in-Ok.ensures.texts i))
          c.write_texts.ensures,
    )
