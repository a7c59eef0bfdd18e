use Rattle.std.proofs.Common.{◌≡◌, ℕ, [], ◌∷◌, ◌++◌, ap, sym, ◌∙◌, arith, add-one}
use Rattle.std.specs.Prelude.{slice_set}
use Rattle.route_gen.specs.Draws.{after_rand, drawing, drawn_block, drawn_sink, entry, input_table, next_sink, sinks_of}
use Rattle.route_gen.proofs.DrawLemmas.{has-free, table-length, table-next}
use Rattle.route_gen.proofs.draws.draw_sinks.Goals as goal

pub draw_sink-sink-requires-clause-blocks : goal.draw_sink-sink-requires-clause-blocks
draw_sink-sink-requires-clause-blocks c = grind (arith, table-length)

pub draw_sink-sink-requires-clause-room : goal.draw_sink-sink-requires-clause-room
draw_sink-sink-requires-clause-room c = grind (arith, has-free)

pub loop-net-preserved : goal.loop-net-preserved
loop-net-preserved c =
    let inside = c.loop-net-test.true in
    let before = c.loop-net.invariant in
    let drawn = drawing c.args.seed c.args.side c.loop-net.net in
    let next = sym (add-one c.loop-net.net) in
    let same : c.draw_sink-sink.result ≡ drawn_sink c.args.side c.loop-net.net drawn
    = c.draw_sink-sink.ensures.sink
    ∙ (λ i. next_sink (before.inputs i)
    (drawn_block c.args.side c.loop-net.net (before.state i))) in
    record {
      state = c.draw_sink-sink.ensures.drawn
          ∙ ap (λ (s : ℕ). after_rand (after_rand s)) before.state
          ∙ ap (λ (n : ℕ). (drawing c.args.seed c.args.side n).state) next;
      sinks = c.in_ok-push.ensures.items ∙ (λ i. before.sinks i ++ same i ∷ [])
          ∙ ap (λ (n : ℕ). sinks_of c.args.seed c.args.side n) next;
      inputs = c.draw_sink-sink.ensures.taken
          ∙ (λ i. slice_set (before.inputs i) (same i).block
          (entry (before.inputs i) (same i).block ++ c.loop-net.net ∷ []))
          ∙ table-next c.args.seed c.args.side c.loop-net.net c.requires.side.0
          (omega (arith, inside, c.requires.nets))
          ∙ ap (λ (n : ℕ). input_table c.args.side (sinks_of c.args.seed c.args.side n)) next;
    }

pub returns-clause-sinks : goal.returns-clause-sinks
returns-clause-sinks c =
    let ended = c.loop-net-test.false in
    let all : c.loop-net.net ≡ c.args.nets = omega arith in
    c.loop-net.invariant.sinks ∙ ap (λ (n : ℕ). sinks_of c.args.seed c.args.side n) all

pub returns-clause-inputs : goal.returns-clause-inputs
returns-clause-inputs c =
    let ended = c.loop-net-test.false in
    let all : c.loop-net.net ≡ c.args.nets = omega arith in
    c.loop-net.invariant.inputs
    ∙ ap (λ (n : ℕ). input_table c.args.side (sinks_of c.args.seed c.args.side n)) all
