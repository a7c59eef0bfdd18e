use Rattle.std.proofs.Common.{rules, ◌≡◌, ◌∙◌, ℕ, ℤ, List, arith, get_or, length, pos, subst, sym, take}
use Rattle.std.proofs.Math.Seq.{take-length}
use Rattle.std.proofs.lemmas.Int.{to_z-of_z}
use mir.Val.{SFits}
use mir.Syntax.{w64}
use Rattle.sat_clause.specs.Judge.{erase}
use Rattle.sat_clause.specs.Live.{Live}
use Rattle.sat_check.specs.LiveStore.{live_at}
use Rattle.sat_rat.specs.CountedStore.{Tracks}
use Rattle.sat_rat.proofs.TrackLaws.{erase_more, erase_step, erase_stop}
use Rattle.sat_rat.proofs.counted_clauses.CountedClauses.erase.Goals as goal

pub returns-then-not-take_out-clause-fault : goal.returns-then-not-take_out-clause-fault
returns-then-not-take_out-clause-fault c = λ live tracks.
    let ids = c.args.ids.now in
    let i = c.loop-id.id-index in
    let fits : SFits w64 (get_or ids i (pos 0)) = search rules in
    let none = simp to_z-of_z at c.take_out.ensures.found in
    sym (erase_stop (live_at c.loop-id.self.live) live ids i c.loop-id-test.true
    (c.loop-id.invariant.tracks live tracks).finds (sym c.if-not-take_out.true ∙ none))
    ∙ c.loop-id.invariant.left live tracks

pub loop-id-preserved : goal.loop-id-preserved
loop-id-preserved c =
    let ids = c.args.ids.now in
    let i = c.loop-id.id-index in
    let fits : SFits w64 (get_or ids i (pos 0)) = search rules in
    let found = simp to_z-of_z at c.take_out.ensures.found in
    record {
      vars = c.take_out.ensures.vars ∙ c.loop-id.invariant.vars;
      tracks = λ live tracks.
          let then = simp to_z-of_z at c.take_out.ensures.tracks in
          subst (λ (l : Live). Tracks c.take_out.new.self l)
          (sym (erase_more live ids i c.loop-id-test.true))
          (then c.if-not-take_out.false (erase live (take i ids))
          (c.loop-id.invariant.tracks live tracks));
      left = λ live tracks.
          erase_step (live_at c.loop-id.self.live) live ids i c.loop-id-test.true
          (c.loop-id.invariant.tracks live tracks).finds (sym c.if-not-take_out.false ∙ found)
          ∙ c.loop-id.invariant.left live tracks;
    }

pub returns-clause-tracks : goal.returns-clause-tracks
returns-clause-tracks c = λ none live tracks.
    let ids = c.args.ids.now in
    let all : c.loop-id.id-index ≡ length ids =
    omega (arith, c.loop-id-test.false, c.loop-id.auto.id-index-end) in
    subst (λ (l : List ℤ). Tracks c.loop-id.self (erase live l)) (take-length ids)
    (subst (λ (n : ℕ). Tracks c.loop-id.self (erase live (take n ids))) all
    (c.loop-id.invariant.tracks live tracks))
