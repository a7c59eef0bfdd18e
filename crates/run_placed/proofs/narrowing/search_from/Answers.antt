use Rattle.std.proofs.Common.{◌≡◌, ◌∙◌, inl, inr, refl, subst}
use Rattle.run_placed.specs.Raised.{least_names, narrowed_files}
use Rattle.run_outcome.specs.Subject.{ShelfState}
use Rattle.run_outcome.specs.declared.outcome.Outcome.TheVariants.{Narrowed}
use Rattle.run_outcome.specs.Written.{WritesFiles}
use Rattle.run_outcome.proofs.StoppedLaws.{is-unstopped}
use Rattle.run_placed.proofs.narrowing.search_from.Goals as goal

pub returns-clause-leaves : goal.returns-clause-leaves
returns-clause-leaves g c =
    let stays : g.S.Shelf.state c.first_found.new.shelf ≡ g.S.Shelf.state c.args.shelf.now =
    c.first_found.ensures.stays ∙ c.tell_raised.ensures in
    elim c.write_narrowed.ensures [
      | inl short ↦ inl (inr short.0, short.1 ∙ stays)
      | inr writes ↦ inr (
        c.in-Some.at,
        rw c.in-Some.is at c.in-Ok.ensures.at,
        subst (λ (shelf : ShelfState).
            WritesFiles (Narrowed c.args.raised.now.tracks c.in-Some.at.width c.args.cut)
            (narrowed_files (least_names c.args.job.now.prefix.now) c.in-Some.at.found
            c.args.raised.now.tracks c.args.raised.now.why) shelf
            (g.S.Shelf.state c.write_narrowed.new.shelf) c.write_narrowed.result) stays
            (rw c.in-Some.is at writes),
      )
    ]

pub returns-clause-stopped : goal.returns-clause-stopped
returns-clause-stopped g c stopped = elim c.write_narrowed.ensures [
  | inl short ↦ absurd (is-unstopped _ _ short.0 refl stopped)
  | inr writes ↦ elim writes [
    | inl done ↦ absurd (is-unstopped _ _ done.0 refl stopped)
    | inr fails ↦ absurd (is-unstopped _ _ fails.2 refl stopped)
  ]
]
