use Rattle.std.proofs.Common.{◌≡◌, ◌+◌, ◌*◌, ◌∙◌, ℕ, ap, arith, length, subst}
use Rattle.std.specs.Prelude.{sum_by}
use Rattle.fpga_types.specs.Problem.{RoutingProblem}
use Rattle.fpga_types.specs.Slots.{slots}
use Rattle.route_encode.specs.Encoding.{below}
use Rattle.route_reach.specs.Encoding.{far_tracks, frame_of}
use Rattle.route_reach.proofs.FarLemmas.{far-more}
use Rattle.route_reach.proofs.count.far_of_all.Goals as goal

pub loop-slot-preserved : goal.loop-slot-preserved
loop-slot-preserved c =
    let w : ℕ = c.args.width in
    let next : (c.loop-slot.slot + 1) * w ≡ c.loop-slot.slot * w + w = omega arith in
    record {
      count = λ reach. far-more w reach c.args.problem.now c.loop-slot.slot c.args.graph.now
          c.requires.graph c.source_row_of.result c.source_row_of.ensures c.loop-slot.count
          c.unmarked-count.result (c.loop-slot.invariant.count reach)
          c.unmarked-count.ensures.value;
      few = omega (arith, next, c.loop-slot.invariant.few, c.unmarked-count.ensures.limit);
    }

pub returns-clause-value : goal.returns-clause-value
returns-clause-value c = λ reach.
    let p : RoutingProblem = c.args.problem.now in
    let whole : c.loop-slot.slot ≡ length c.slots.result.now = omega arith in
    let end : c.loop-slot.slot ≡ length (slots p.route) =
    whole ∙ ap length c.slots.ensures.value in
    subst (λ (n : ℕ). c.loop-slot.count
    ≡ sum_by (λ s. length (far_tracks (frame_of c.args.width reach p) p.route s)) (below n))
    end (c.loop-slot.invariant.count reach)
