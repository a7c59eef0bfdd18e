use Rattle.std.proofs.Common.{◌≡◌, arith, refl, sym}
use Rattle.fpga_types.specs.declared.limits.TheConstants.{SLOT_LIMIT}
use Rattle.route_draw.proofs.NeedLemmas.{counted-few}
use Rattle.route_draw.proofs.needs.count_slot.Goals as goal

pub overflow_add-needs : goal.overflow_add-needs
overflow_add-needs c =
    let few = counted-few c.args.grid c.requires.0 c.args.slot c.in-Some.place c.args.needs.now
    c.requires.2 (sym c.in-Some.ensures.there) c.in-Some.ensures.place in
    let most : SLOT_LIMIT ≡ 200000 = refl in
    omega (arith, few, c.requires.1, most)
