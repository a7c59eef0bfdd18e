use Rattle.std.proofs.Common.{◌≡◌, None, length, replicate, ap, ◌∙◌}
use Rattle.fpga_place.proofs.PlaceLemmas.{in_order-none, only-none}
use Rattle.fpga_place.proofs.draft.Draft.new.Goals as goal

pub invariant_of-result : goal.invariant_of-result
invariant_of-result c =
    let items : c.in_ok-places.places.items ≡ replicate (length c.args.blocks) None =
    c.in_ok-places.ensures.items_if_clones_equal (only-none _ (λ p h. h))
    ∙ ap (λ blocks. replicate (length blocks) None) c.as_slice.ensures in
    rw items (in_order-none c.args.io_rat c.args.grid c.args.blocks c.new.result
    c.new.ensures.empty)
