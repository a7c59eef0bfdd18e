use Rattle.std.proofs.Common.{arith}
use Rattle.sat_clause.specs.Literal.{IsLiteral}
use Rattle.sat_clause.proofs.PartsLaws.{parts-all}
use Rattle.sat_clause.proofs.LogLaws.{step_there, step_within}
use Rattle.sat_clause.proofs.log.Log.step.Goals as goal

pub index-head-requires : goal.index-head-requires
index-head-requires c =
    let i = c.self.inside in
    let within = rw (← c.self.view_is) at c.requires in
    step_within i.heads i.lits i.lit_ends i.numbers i.number_ends i.step_room i.number_room
    c.self.invariant c.args.i within

pub part-lits-requires-clause-within : goal.part-lits-requires-clause-within
part-lits-requires-clause-within c =
    let i = c.self.inside in
    let within = rw (← c.self.view_is) at c.requires in
    let below = step_within i.heads i.lits i.lit_ends i.numbers i.number_ends i.step_room
    i.number_room c.self.invariant c.args.i within in
    let parts = c.self.invariant.lit_parts in
    omega arith

pub part-hints-requires-clause-within : goal.part-hints-requires-clause-within
part-hints-requires-clause-within c =
    let i = c.self.inside in
    let within = rw (← c.self.view_is) at c.requires in
    let below = step_within i.heads i.lits i.lit_ends i.numbers i.number_ends i.step_room
    i.number_room c.self.invariant c.args.i within in
    let parts = c.self.invariant.number_parts in
    omega arith

pub returns-then-head-clause-value : goal.returns-then-head-clause-value
returns-then-head-clause-value c =
    let i = c.self.inside in
    let within = rw (← c.self.view_is) at c.requires in
    let below = step_within i.heads i.lits i.lit_ends i.numbers i.number_ends i.step_room
    i.number_room c.self.invariant c.args.i within in
    let lits = rw (c.deref.ensures.value, c.deref-2.ensures.value) at c.part-lits.ensures in
    let ids = rw (c.deref-3.ensures.value, c.deref-4.ensures.value) at c.part-hints.ensures in
    let here = step_there i.heads i.lits i.lit_ends i.numbers i.number_ends i.step_room
    i.number_room c.self.invariant c.args.i c.index-head.result.now c.part-lits.result.now
    c.part-hints.result.now below c.index-head.ensures lits ids in
    rw (← c.self.view_is) (rw c.if-head.true at here)

pub returns-clause-value : goal.returns-clause-value
returns-clause-value c =
    let i = c.self.inside in
    let within = rw (← c.self.view_is) at c.requires in
    let below = step_within i.heads i.lits i.lit_ends i.numbers i.number_ends i.step_room
    i.number_room c.self.invariant c.args.i within in
    let lits = rw (c.deref.ensures.value, c.deref-2.ensures.value) at c.part-lits.ensures in
    let ids = rw (c.deref-3.ensures.value, c.deref-4.ensures.value) at c.part-hints.ensures in
    let here = step_there i.heads i.lits i.lit_ends i.numbers i.number_ends i.step_room
    i.number_room c.self.invariant c.args.i c.index-head.result.now c.part-lits.result.now
    c.part-hints.result.now below c.index-head.ensures lits ids in
    rw (← c.self.view_is) (rw c.if-head.false at here)

pub returns-clause-literals : goal.returns-clause-literals
returns-clause-literals c =
    let is = rw (c.deref.ensures.value, c.deref-2.ensures.value) at c.part-lits.ensures in
    parts-all IsLiteral 0 c.self.inside.lits.items c.self.inside.lit_ends.items
    c.self.invariant.are_literals c.args.i c.part-lits.result.now is
