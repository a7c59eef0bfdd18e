use Rattle.std.proofs.Common.{◌<◌, arith}
use Rattle.sat_clause.specs.declared.limits.TheConstants.{LITERAL_LIMIT}
use Rattle.sat_count.proofs.VariableLemmas.{first-good, four-define, fourth-good, second-good, third-good}
use Rattle.sat_count.proofs.refutation.Refutation.define.Goals as goal

pub add-requires-clause-follows : goal.add-requires-clause-follows
add-requires-clause-follows c =
    let room : c.args.self.now.last_variable < LITERAL_LIMIT =
    omega (arith, c.if-name-ge-LITERAL_LIMIT.false, c.last_variable-name.ensures.value) in
    rw (c.by_kept.ensures, c.widen.ensures, c.last_variable-name.ensures.value)
    (first-good c.args.self.now c.last_variable-name.ensures.good room c.args.kept c.args.moved
    c.args.given c.requires.kept c.requires.moved c.requires.given)

pub add-requires-2-clause-follows : goal.add-requires-2-clause-follows
add-requires-2-clause-follows c =
    let room : c.args.self.now.last_variable < LITERAL_LIMIT =
    omega (arith, c.if-name-ge-LITERAL_LIMIT.false, c.last_variable-name.ensures.value) in
    rw (
      c.by_moved.ensures,
      c.in-Ok.ensures.steps,
      c.by_kept.ensures,
      c.widen.ensures,
      c.last_variable-name.ensures.value,
    )
    (second-good c.args.self.now c.last_variable-name.ensures.good room c.args.kept c.args.moved
    c.args.given c.requires.kept c.requires.moved c.requires.given)

pub add-requires-3-clause-follows : goal.add-requires-3-clause-follows
add-requires-3-clause-follows c =
    let room : c.args.self.now.last_variable < LITERAL_LIMIT =
    omega (arith, c.if-name-ge-LITERAL_LIMIT.false, c.last_variable-name.ensures.value) in
    rw (
      c.or_else.ensures,
      c.groups_behind-groups.ensures,
      c.in-Ok-add.ensures.steps,
      c.by_moved.ensures,
      c.in-Ok.ensures.steps,
      c.by_kept.ensures,
      c.widen.ensures,
      c.last_variable-name.ensures.value,
      c.last_id.ensures,
    )
    (third-good c.args.self.now c.last_variable-name.ensures.good room c.args.kept c.args.moved
    c.args.given c.requires.kept c.requires.moved c.requires.given)

pub add-requires-4-clause-follows : goal.add-requires-4-clause-follows
add-requires-4-clause-follows c =
    let room : c.args.self.now.last_variable < LITERAL_LIMIT =
    omega (arith, c.if-name-ge-LITERAL_LIMIT.false, c.last_variable-name.ensures.value) in
    rw (
      c.or_else-2.ensures,
      c.in-Ok-add-2.ensures.steps,
      c.or_else.ensures,
      c.groups_behind-groups.ensures,
      c.in-Ok-add.ensures.steps,
      c.by_moved.ensures,
      c.in-Ok.ensures.steps,
      c.by_kept.ensures,
      c.widen.ensures,
      c.last_variable-name.ensures.value,
      c.last_id.ensures,
    )
    (fourth-good c.args.self.now c.last_variable-name.ensures.good room c.args.kept c.args.moved
    c.args.given c.requires.kept c.requires.moved c.requires.given)

pub returns : goal.returns
returns c =
    let room : c.args.self.now.last_variable < LITERAL_LIMIT =
    omega (arith, c.if-name-ge-LITERAL_LIMIT.false, c.last_variable-name.ensures.value) in
    rw (
      c.in-Ok-add-3.ensures.steps,
      c.or_else-2.ensures,
      c.in-Ok-add-2.ensures.steps,
      c.or_else.ensures,
      c.groups_behind-groups.ensures,
      c.in-Ok-add.ensures.steps,
      c.by_moved.ensures,
      c.in-Ok.ensures.steps,
      c.by_kept.ensures,
      c.widen.ensures,
      c.last_variable-name.ensures.value,
      c.last_id.ensures,
    )
    (four-define c.args.self.now c.last_variable-name.ensures.good room c.args.kept c.args.moved
    c.args.given c.requires.kept c.requires.moved c.requires.given)
