use Rattle.std.proofs.Common.{◌≡◌, ℕ, Some, subst, sym, ◌∙◌}
use Rattle.fpga_text.specs.declared.fault.TextFault.TheVariants.{Bad}
use Rattle.fpga_place.specs.Drafts.{FitsNamed, Progress, next_fault}
use Rattle.fpga_place.specs.Lines.{Block}
use Rattle.fpga_place.proofs.DraftLemmas.{fits-at, refused-unknown, repeated-at, shared-at, so_far, unlawful-at}
use Rattle.fpga_place.proofs.draft.Draft.number_for.Goals as goal

pub returns-in_default-clause-err : goal.returns-in_default-clause-err
returns-in_default-clause-err c =
    subst (λ (d : Progress). (line : ℕ) → next_fault d line
    (Block c.args.name.now (Some c.args.place))
    ≡ Some (Bad line 303)) c.self.view_is
    (λ line. refused-unknown (so_far c.self.inside.io_rat c.self.inside.grid c.self.inside.blocks
    c.self.inside.places.items) line c.args.name.now c.args.place (sym c.in_default.ensures.number))

pub returns-then-is_some-clause-err : goal.returns-then-is_some-clause-err
returns-then-is_some-clause-err c =
    subst (λ (d : Progress). (line : ℕ) → next_fault d line
    (Block c.args.name.now (Some c.args.place))
    ≡ Some (Bad line 304)) c.self.view_is
    (repeated-at c.self.inside.io_rat c.self.inside.grid c.self.inside.blocks
    c.self.inside.places.items c.self.inside.taken c.self.invariant c.args.name.now c.args.place
    c.in-Some.number c.in-Some.ensures.number c.in-Some.ensures.within c.index.result.now
    c.index.ensures (sym c.is_some.ensures ∙ c.if-is_some.true))

pub returns-then-not-takes-clause-err : goal.returns-then-not-takes-clause-err
returns-then-not-takes-clause-err c =
    subst (λ (d : Progress). (line : ℕ) → next_fault d line
    (Block c.args.name.now (Some c.args.place))
    ≡ Some (Bad line 306)) c.self.view_is
    (unlawful-at c.self.inside.io_rat c.self.inside.grid c.self.inside.blocks
    c.self.inside.places.items c.self.inside.taken c.self.invariant c.args.name.now c.args.place
    c.in-Some.number c.in-Some.ensures.number c.in-Some.ensures.within c.index.result.now
    c.index.ensures c.as_slice.result.now c.as_slice.ensures c.index-as_slice-number.result
    (sym c.is_some.ensures ∙ c.if-is_some.false) (sym c.takes.ensures ∙ c.if-not-takes.true))

pub returns-then-contains-clause-err : goal.returns-then-contains-clause-err
returns-then-contains-clause-err c =
    subst (λ (d : Progress). (line : ℕ) → next_fault d line
    (Block c.args.name.now (Some c.args.place))
    ≡ Some (Bad line 307)) c.self.view_is
    (shared-at c.self.inside.io_rat c.self.inside.grid c.self.inside.blocks
    c.self.inside.places.items c.self.inside.taken c.self.invariant c.args.name.now c.args.place
    c.in-Some.number c.in-Some.ensures.number c.in-Some.ensures.within c.index.result.now
    c.index.ensures c.as_slice.result.now c.as_slice.ensures c.index-as_slice-number.result
    (sym c.is_some.ensures ∙ c.if-is_some.false) (sym c.takes.ensures ∙ c.if-not-takes.false)
    c.spot.result
    c.spot.ensures (sym c.contains.ensures ∙ c.if-contains.true))

pub returns-clause-ok : goal.returns-clause-ok
returns-clause-ok c =
    subst (λ (d : Progress). FitsNamed d c.args.name.now c.args.place c.in-Some.number)
    c.self.view_is
    (fits-at c.self.inside.io_rat c.self.inside.grid c.self.inside.blocks
    c.self.inside.places.items c.self.inside.taken c.self.invariant c.args.name.now c.args.place
    c.in-Some.number c.in-Some.ensures.number c.in-Some.ensures.within c.index.result.now
    c.index.ensures c.as_slice.result.now c.as_slice.ensures c.index-as_slice-number.result
    (sym c.is_some.ensures ∙ c.if-is_some.false) (sym c.takes.ensures ∙ c.if-not-takes.false)
    c.spot.result
    c.spot.ensures (sym c.contains.ensures ∙ c.if-contains.false))
