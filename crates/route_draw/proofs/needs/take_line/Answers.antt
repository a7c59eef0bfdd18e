use Rattle.std.proofs.Common.{ℕ, ◌<◌, sym, subst}
use Rattle.route_draw.proofs.NeedLemmas.{asks-less, asks-more, asks-none, asks-outside}
use Rattle.route_draw.proofs.needs.take_line.Goals as goal

pub returns-in_default-clause-needs : goal.returns-in_default-clause-needs
returns-in_default-clause-needs g before = λ are.
    asks-none g.args.grid before g.args.elem g.args.needs.now (sym g.in_default.ensures) are

pub returns-in_default-place_of-clause-needs : goal.returns-in_default-place_of-clause-needs
returns-in_default-place_of-clause-needs g before = λ are.
    asks-outside g.args.grid g.in-Some.cell before g.args.elem g.args.needs.now
    (sym g.in-Some.ensures) (sym g.in_default-place_of.ensures.there) are

pub returns-then-needs-place-clause-needs : goal.returns-then-needs-place-clause-needs
returns-then-needs-place-clause-needs g before = λ are.
    asks-more g.args.grid g.in-Some.cell before g.args.elem g.in-Some-place_of.place
    g.args.needs.now (sym g.in-Some.ensures) (sym g.in-Some-place_of.ensures.there)
    g.in-Some-place_of.ensures.alone g.in-Some-place_of.ensures.place
    (subst (λ (n : ℕ). g.in-Some-place_of.place < n) (sym are.count)
    g.in-Some-place_of.ensures.within) g.if-needs-place.true are

pub returns-else-needs-place-clause-needs : goal.returns-else-needs-place-clause-needs
returns-else-needs-place-clause-needs g before = λ are.
    asks-less g.args.grid g.in-Some.cell before g.args.elem g.in-Some-place_of.place
    g.args.needs.now (sym g.in-Some.ensures) (sym g.in-Some-place_of.ensures.there)
    g.in-Some-place_of.ensures.place g.if-needs-place.false are
