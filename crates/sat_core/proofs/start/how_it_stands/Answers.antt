use Rattle.std.proofs.Common.{inl, inr, sym, ◌∙◌, subst}
use Rattle.sat_watch.specs.Choice.{FreeSays}
use Rattle.sat_core.proofs.DecideLaws.{is_none_none, is_some_some}
use Rattle.sat_core.proofs.StartLaws.{all_false, open_position, second_found, second_missing, some_position}
use Rattle.sat_core.proofs.start.how_it_stands.Goals as goal

pub returns-in_default : goal.returns-in_default
returns-in_default c =
    let w = c.args.watches.now in
    let lits = c.args.lits.now in
    all_false w.trail lits
    (subst (λ o. FreeSays w.trail lits 0 o) c.in_default.is c.free_position.ensures)

pub returns-then-is_some : goal.returns-then-is_some
returns-then-is_some c =
    let w = c.args.watches.now in
    let lits = c.args.lits.now in
    inl (second_found w.vars w.trail lits c.in-Some.i c.free_position-2.result c.requires.simple
    (subst (λ o. FreeSays w.trail lits 0 o) c.in-Some.is c.free_position.ensures)
    c.free_position-2.ensures (sym c.is_some.ensures ∙ c.if-is_some.true))

pub returns-then-is_some-2 : goal.returns-then-is_some-2
returns-then-is_some-2 c =
    let w = c.args.watches.now in
    let lits = c.args.lits.now in
    let i = c.in-Some.i in
    let first = subst (λ o. FreeSays w.trail lits 0 o) c.in-Some.is c.free_position.ensures in
    let second = second_missing w.trail lits i c.free_position-2.result c.free_position-2.ensures
    (sym c.is_some.ensures ∙ c.if-is_some.false) in
    inr (some_position w lits i c.requires.simple c.requires.level c.requires.leveled first second
    c.value.result (sym c.value.ensures.value)
    (is_some_some c.value.result (sym c.is_some-2.ensures ∙ c.if-is_some-2.true)))

pub returns : goal.returns
returns c =
    let w = c.args.watches.now in
    let lits = c.args.lits.now in
    let i = c.in-Some.i in
    let first = subst (λ o. FreeSays w.trail lits 0 o) c.in-Some.is c.free_position.ensures in
    let second = second_missing w.trail lits i c.free_position-2.result c.free_position-2.ensures
    (sym c.is_some.ensures ∙ c.if-is_some.false) in
    open_position w lits i c.requires.simple c.requires.level c.requires.leveled first second
    (sym c.value.ensures.value
    ∙ is_none_none c.value.result (sym c.is_some-2.ensures ∙ c.if-is_some-2.false))
