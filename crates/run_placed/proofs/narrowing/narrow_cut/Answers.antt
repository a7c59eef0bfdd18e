use Rattle.std.proofs.Common.{◌≡◌, ap, subst, sym, inl, inr, refl}
use Rattle.fpga_types.specs.declared.netlist.Netlist.{Netlist}
use Rattle.router_words.specs.Job.{least_said}
use Rattle.run_placed.specs.Bound.{cut_lines}
use Rattle.run_placed.specs.Least.{LeavesWidths}
use Rattle.run_outcome.specs.Subject.{FailsToSay, ShelfState, after_say}
use Rattle.run_placed.specs.declared.negotiating.Begun.{Begun}
use Rattle.run_placed.specs.Reasons.{IsUnraised}
use Rattle.run_placed.proofs.ReasonLaws.{raised-behind}
use Rattle.run_outcome.proofs.StoppedLaws.{is-unstopped}
use Rattle.run_placed.proofs.narrowing.narrow_cut.Goals as goal

pub returns-in-Ok-clause-leaves : goal.returns-in-Ok-clause-leaves
returns-in-Ok-clause-leaves g c =
    let before = g.S.Shelf.state c.args.shelf.now in
    let between = g.S.Shelf.state c.say_cut.new.shelf in
    let said = subst (λ (netlist : Netlist).
    between ≡ after_say before (cut_lines netlist c.args.cut.now))
    (ap (λ (begun : Begun). begun.placed.netlist) c.begun.view_is) c.in-Ok.ensures in
    inr (inr (subst (λ (shelf : ShelfState). LeavesWidths (least_said c.args.job.now)
    c.args.begun.now.placed c.args.cut.now shelf (g.S.Shelf.state c.search_widths.new.shelf)
    c.search_widths.result.outcome) said c.search_widths.ensures.leaves))

pub returns-in-Err-clause-leaves : goal.returns-in-Err-clause-leaves
returns-in-Err-clause-leaves g c = elim c.in-Err.ensures [
  | inl short ↦ inl short
  | inr fails ↦ inr (inl (
    subst (λ (netlist : Netlist). FailsToSay (g.S.Shelf.state c.args.shelf.now)
        (cut_lines netlist c.args.cut.now) (g.S.Shelf.state c.say_cut.new.shelf))
        (ap (λ (begun : Begun). begun.placed.netlist) c.begun.view_is) fails.0,
    fails.1,
  ))
]

pub returns-in-Ok-clause-why : goal.returns-in-Ok-clause-why
returns-in-Ok-clause-why g c =
    raised-behind (least_said c.args.job.now) c.args.begun.now.placed c.search_widths.result.outcome
    (g.S.Shelf.state c.args.shelf.now).files (g.S.Shelf.state c.say_cut.new.shelf).files
    (g.S.Shelf.state c.search_widths.new.shelf).files c.search_widths.result.why
    (ap (λ (s : ShelfState). s.files) c.in-Ok.ensures) c.search_widths.ensures.why

pub returns-in-Err-clause-none : goal.returns-in-Err-clause-none
returns-in-Err-clause-none g c none = elim c.in-Err.ensures [
  | inl short ↦ subst IsUnraised (sym short.0) tt
  | inr fails ↦ subst IsUnraised (sym fails.1) tt
]

pub returns-in-Err-clause-stopped : goal.returns-in-Err-clause-stopped
returns-in-Err-clause-stopped g c stopped = elim c.in-Err.ensures [
  | inl short ↦ absurd (is-unstopped _ _ short.0 refl stopped)
  | inr fails ↦ absurd (is-unstopped _ _ fails.1 refl stopped)
]
