use Rattle.std.proofs.Common.{◌≡◌, ◌+◌, ◌*◌, ◌++◌, ◌∷◌, [], ◌∙◌, ℕ, List, ap, arith, length-append}
use Rattle.std.proofs.lemmas.List.Elements.{All-push}
use Rattle.sat_clause.specs.Literal.{IsWithin}
use Rattle.sat_clause.specs.declared.literal.Lit.{Lit}
use Rattle.route_encode.specs.Encoding.{place_of}
use Rattle.route_reach.specs.WireClauses.{wire_reached}
use Rattle.route_reach.proofs.SinkLemmas.{track-more, track-same}
use Rattle.route_reach.proofs.sinks.SinkReach.push_opened.Goals as goal
use Rattle.route_reach.proofs.sinks.SinkReach.push_opened.Goals.{then-opened-track, else-opened-track}

pub loop-track-preserved : goal.loop-track-preserved
loop-track-preserved c =
    let wires : ℕ = c.args.self.now.variables.wires in
    let reach : ℕ = c.args.self.now.variables.reach in
    let width : ℕ = c.args.self.now.width in
    let t : ℕ = c.loop-track.track in
    let old : List Lit = c.loop-track.row in
    let so_far = c.loop-track.invariant in
    elim c.if-opened-track.branch [
      | then-opened-track w ↦
          (let pushed : c.if-opened-track.row
          ≡ old ++ wire_reached wires reach (place_of width c.args.slot t) reach ∷ [] =
          w.row-is ∙ w.push.ensures ∙ ap (λ (l : Lit). old ++ l ∷ []) w.reached.ensures.value in
          let raw = w.row-is ∙ w.push.ensures in
          record {
            lits = track-more wires reach width c.args.opened.now c.args.slot t c.args.row.now old
                c.if-opened-track.row so_far.lits w.if-opened-track.true pushed;
            few = rw raw (omega (
              arith,
              length-append old (w.reached.result ∷ []),
              so_far.few,
            ));
            within = rw raw (All-push (IsWithin (wires * (reach + 2))) old w.reached.result
                so_far.within w.reached.ensures.within);
          })
      | else-opened-track w ↦ record {
        lits = track-same wires reach width c.args.opened.now c.args.slot t c.args.row.now old
            c.if-opened-track.row so_far.lits w.if-opened-track.false w.row-is;
        few = rw w.row-is (omega (arith, so_far.few));
        within = rw w.row-is so_far.within;
      }
    ]
