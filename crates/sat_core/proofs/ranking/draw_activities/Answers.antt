use Rattle.std.proofs.Common.{add-one, refl, subst, sym, arith}
use Rattle.sat_core.specs.Ranking.{SameHeld}
use Rattle.sat_core.proofs.RankingLaws.{drawn_next, held_then}
use Rattle.sat_core.proofs.ranking.draw_activities.Goals as goal

pub loop-v-preserved : goal.loop-v-preserved
loop-v-preserved c =
    let order = c.loop-v.order in
    record {
      held = held_then c.loop-v.invariant.held
          (subst (SameHeld order) (sym c.bump.ensures) (record { vars = refl; held = refl }));
      so_far = rw (add-one, c.bump.ensures, c.next_draw-draw.ensures)
          (drawn_next c.args.seed c.loop-v.v c.loop-v.draw order
          (omega (arith, c.loop-v.auto.v))
          (omega (
            arith,
            c.loop-v-test.true,
            c.loop-v.invariant.held.vars,
            c.requires.vars,
          )) c.loop-v.invariant.so_far);
    }
