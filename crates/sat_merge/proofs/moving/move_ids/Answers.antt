use Rattle.std.proofs.Common.{◌∙◌, ◌∷◌, ◌++◌, [], List, ℤ, ap, get_or, map, pos, rules, sym, take}
use mir.Val.{SFits}
use mir.Syntax.{w64}
use Rattle.std.proofs.lemmas.Int.{to_z-of_z}
use Rattle.std.proofs.lemmas.List.{map_more}
use Rattle.std.proofs.lemmas.List.Elements.{All-more}
use Rattle.sat_merge.specs.Moved.{HasPlace, moved_id}
use Rattle.sat_merge.proofs.moving.move_ids.Goals as goal

pub loop-id-preserved : goal.loop-id-preserved
loop-id-preserved c =
    let fits : SFits w64 (get_or c.args.ids.now c.loop-id.id-index (pos 0)) = search rules in
    let more = map_more (moved_id c.args.places.now) c.args.ids.now c.loop-id.id-index (pos 0)
    c.loop-id-test.true in
    let same = simp to_z-of_z at c.in-Some.ensures.moved in
    let now_fits : SFits w64 c.in-Some.now = search rules in
    let pushed = simp to_z-of_z at c.in_ok-push.ensures.items in
    record {
      ids = pushed
          ∙ ap (λ (xs : List ℤ). xs ++ c.in-Some.now ∷ []) c.loop-id.invariant.ids
          ∙ ap
          (λ (z : ℤ).
          map (moved_id c.args.places.now) (take c.loop-id.id-index c.args.ids.now) ++ z ∷ [])
          same
          ∙ sym more;
      places = All-more (HasPlace c.args.places.now) c.args.ids.now c.loop-id.id-index (pos 0)
          c.loop-id-test.true c.loop-id.invariant.places
          (simp to_z-of_z at c.in-Some.ensures.place);
    }
