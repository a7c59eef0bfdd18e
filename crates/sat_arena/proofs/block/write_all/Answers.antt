use Rattle.std.proofs.Common.{ap, ◌∙◌, length, length-set, arith}
use Rattle.sat_arena.proofs.PlacesLemmas.{begins_next}
use Rattle.sat_arena.proofs.block.write_all.Goals as goal

pub loop-k-preserved : goal.loop-k-preserved
loop-k-preserved c = record {
  row = c.write.ensures.0 ∙ c.loop-k.invariant.row;
  size =
      ap length c.write.ensures.1 ∙ length-set _ _ _ ∙ c.loop-k.invariant.size;
  behind = λ front at h. rw c.write.ensures.1
      (begins_next c.loop-k.places.slots front c.args.words.now c.args.from c.loop-k.k _ at
      (omega arith) (omega (arith, c.loop-k.invariant.size, c.requires.room))
      (c.loop-k.invariant.behind front at h));
}
