use Rattle.sat_watch.proofs.DeleteLemmas.{near_moved}
use Rattle.sat_watch.proofs.trail.moved.Goals as goal

pub of-requires : goal.of-requires
of-requires c = record {
  near = rw c.after.ensures (near_moved c.args.moves.now _ c.requires.near);
}
