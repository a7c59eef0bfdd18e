use Rattle.std.proofs.Common.{◌+◌, ◌*◌, ◌∙◌, ◌∷◌, ◌++◌, ℕ, List, [], ap, refl, sym}
use Rattle.std.proofs.lemmas.List.FromFn.{map-range_with_len_more}
use Rattle.sat_clause.specs.declared.literal.Lit.{Lit}
use Rattle.sat_count.specs.Names.{yes}
use Rattle.sat_count.specs.Places.{some_clause}
use Rattle.route_count.proofs.first_level.Beginning.some_track.Goals as goal

pub loop-track-preserved : goal.loop-track-preserved
loop-track-preserved c =
    let first : ℕ = c.args.slot * c.args.self.now.variables.width in
    let more = map-range_with_len_more yes first c.loop-track.track (first + c.loop-track.track)
    refl in
    c.in_ok-push.ensures.items
    ∙ ap (λ (ls : List Lit). ls ++ c.has.result ∷ []) c.loop-track.invariant
    ∙ ap (λ (l : Lit). some_clause first c.loop-track.track ++ l ∷ []) c.has.ensures.value
    ∙ sym more
