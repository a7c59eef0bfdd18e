use Rattle.std.proofs.Common.{length, ap, ◌∙◌, arith}
use Rattle.route_pinned.proofs.EncodeLemmas.{count-row, no-pinned, pinned-made, row-room}
use Rattle.route_pinned.proofs.pinned.PinnedEncoder.build.Goals as goal

pub returns-in_err-formula-clause-none_without_model :
    goal.returns-in_err-formula-clause-none_without_model
returns-in_err-formula-clause-none_without_model c =
    no-pinned c.args.width c.args.problem.now c.pinned_row-row.ensures.given
    c.pinned_row-row.ensures.fits

pub returns-clause-none_without_model : goal.returns-clause-none_without_model
returns-clause-none_without_model c =
    no-pinned c.args.width c.args.problem.now c.pinned_row-row.ensures.given
    c.pinned_row-row.ensures.fits

pub build_with_room-requires-clause-few : goal.build_with_room-requires-clause-few
build_with_room-requires-clause-few c = omega (
  arith,
  count-row c.args.width c.args.problem.now c.pinned_row-row.result.items
      c.pinned_row-row.ensures.row,
  c.requires.few,
  c.len-pins.ensures.value,
)

pub add_row-requires-clause-room : goal.add_row-requires-clause-room
add_row-requires-clause-room c =
    row-room c.args.width c.deref.result.now c.in_ok-formula.formula
    (omega (
      arith,
      c.in_ok-formula.ensures.room.0,
      ap length c.deref.ensures.0,
      c.len-pins.ensures.value,
    ))
    (omega (
      arith,
      c.in_ok-formula.ensures.room.1,
      ap length c.deref.ensures.0,
      c.len-pins.ensures.value,
    ))

pub returns-clause-formula : goal.returns-clause-formula
returns-clause-formula c =
    pinned-made c.args.width c.args.problem.now c.deref.result.now c.in_ok-formula.formula
    c.add_row.new.formula c.in_ok-formula.ensures.formula c.add_row.ensures
    (c.deref.ensures.0 ∙ c.pinned_row-row.ensures.row)
