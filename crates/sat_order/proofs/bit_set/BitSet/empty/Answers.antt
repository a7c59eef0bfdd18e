use Rattle.std.proofs.Common.{◌≡◌, ◌+◌, ◌/◌, replicate, rules}
use Rattle.sat_order.proofs.BitLaws.{empty-words}
use Rattle.sat_order.proofs.bit_set.BitSet.empty.Goals as goal

pub returns : goal.returns
returns c =
    let zeros : c.in_ok-vec.field-0.items ≡ replicate (c.args.size / 64 + 1) 0 = search rules in
    (empty-words c.args.size c.in_ok-vec.field-0.items c.requires zeros).0
