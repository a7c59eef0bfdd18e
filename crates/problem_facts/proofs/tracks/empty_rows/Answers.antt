use Rattle.std.proofs.Common.{◌∙◌, List, Bool, ◌∷◌, [], false, length, length-append, replicate, ap, arith}
use Rattle.std.specs.Prelude.{slice_index_or}
use Rattle.fpga_graph.proofs.MarkLemmas.{unmarked}
use Rattle.problem_facts.proofs.ClosedLemmas.{push-empty}
use Rattle.problem_facts.proofs.tracks.empty_rows.Goals as goal

pub loop-preserved : goal.loop-preserved
loop-preserved c =
    let row : List Bool = replicate 64 false in record {
      each =
          let more = length-append c.loop.rows.items (row ∷ []) in
          let count = ap (λ (rs : List (List Bool)). length rs) c.in_ok-push.ensures.items in
          omega (arith, count, more, c.loop.invariant.each);
      none = λ tree t.
          ap (λ (rs : List (List Bool)). slice_index_or (slice_index_or rs tree []) t false)
          c.in_ok-push.ensures.items
          ∙ push-empty c.loop.rows.items row c.loop.invariant.none (unmarked 64) tree t;
    }
