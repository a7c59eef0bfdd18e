use Rattle.std.proofs.Common.{rules, ◌+◌, ◌∙◌, ◌∷◌, ◌++◌, ℕ, ℤ, List, [], ap, append_assoc, arith, pos, sym}
use Rattle.std.proofs.lemmas.Int.{to_z-of_z}
use Rattle.std.proofs.lemmas.List.FromFn.{map-range_with_len_more}
use mir.Syntax.{w64}
use mir.Val.{SFits}
use Rattle.sat_count.specs.Descending.{meaning_at, meaning_number, meanings_of}
use Rattle.sat_count.proofs.ground.Ground.push_meanings.Goals as goal

pub loop-track-preserved : goal.loop-track-preserved
loop-track-preserved c =
    let n : ℕ = c.loop-track.track in
    let before : List ℤ = meanings_of c.args.self.now c.args.place c.args.which n in
    let more = map-range_with_len_more (λ track.
    pos (meaning_at c.args.self.now c.args.place track + meaning_number c.args.which)) 0 n n
    (omega arith) in
    let fits : SFits w64 c.meaning.result = search rules in
    let pushed = simp to_z-of_z at c.in_ok-push.ensures.items in
    pushed
    ∙ ap (λ (zs : List ℤ). zs ++ c.meaning.result ∷ []) c.loop-track.invariant
    ∙ ap (λ (z : ℤ). (c.args.hints.now.items ++ before) ++ z ∷ []) c.meaning.ensures
    ∙ append_assoc c.args.hints.now.items before
    (pos (meaning_at c.args.self.now c.args.place n + meaning_number c.args.which) ∷ [])
    ∙ ap (λ (zs : List ℤ). c.args.hints.now.items ++ zs) (sym more)
