use Rattle.std.proofs.Common.{inl, inr, refl}
use Rattle.run_outcome.proofs.StoppedLaws.{is-unstopped}
use Rattle.run_placed.proofs.negotiating.search_route.Goals as goal

pub returns-in_default-clause-leaves : goal.returns-in_default-clause-leaves
returns-in_default-clause-leaves g c = inl (inr refl, refl)

pub returns-in_default-route-clause-leaves : goal.returns-in_default-route-clause-leaves
returns-in_default-route-clause-leaves g c =
    inl (
      inl (
        c.in-Ok.searched.rounds,
        c.in-Ok.searched.stopped,
        c.in-Ok.ensures.rounds,
        c.in-Ok.ensures.timed,
        refl,
      ),
      refl,
    )

pub returns-clause-leaves : goal.returns-clause-leaves
returns-clause-leaves g c = elim c.write_found.ensures [
  | inl spent ↦ inl (inr spent.0, spent.1)
  | inr wrote ↦ inr (
    c.in-Some.found,
    rw c.in-Some.is at c.in-Ok.ensures.found,
    rw c.in-Some.is at wrote,
  )
]

pub returns-clause-stopped : goal.returns-clause-stopped
returns-clause-stopped g c stopped = elim c.write_found.ensures [
  | inl spent ↦ absurd (is-unstopped _ _ spent.0 refl stopped)
  | inr wrote ↦ elim wrote [
    | inl done ↦ absurd (is-unstopped _ _ done.0 refl stopped)
    | inr fails ↦ absurd (is-unstopped _ _ fails.2 refl stopped)
  ]
]
