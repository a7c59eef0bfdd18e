use Rattle.std.proofs.Common.{◌≤◌, ap, refl, ◌∙◌, arith, nat_abs, w64}
use Rattle.std.proofs.lemmas.Int.{to_z-of_z}
use Rattle.sat_text.proofs.LratLemmas.{added_limit-behind}
use Rattle.sat_text.proofs.step_line.added_limit.Goals as goal

pub returns-in-Some : goal.returns-in-Some
returns-in-Some c =
    let size = c.unsigned_abs.ensures.value ∙ ap nat_abs (to_z-of_z w64 c.args.id c.ranges.id) in
    let within : nat_abs c.args.id ≤ 4294967295 =
    omega (arith, c.if-unsigned_abs-gt-MOST_ID.false, size) in
    rw (
      added_limit-behind (nat_abs c.args.id) c.args.lits.now c.args.hints.now within,
      ← c.in-Some.ensures,
    ) refl

pub returns : goal.returns
returns c =
    let size = c.unsigned_abs.ensures.value ∙ ap nat_abs (to_z-of_z w64 c.args.id c.ranges.id) in
    let within : nat_abs c.args.id ≤ 4294967295 =
    omega (arith, c.if-unsigned_abs-gt-MOST_ID.false, size) in
    rw (
      added_limit-behind (nat_abs c.args.id) c.args.lits.now c.args.hints.now within,
      ← c.in_default.ensures,
    ) c.first_past-2.ensures
