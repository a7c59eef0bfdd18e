use mir.Syntax.{w64}
use mir.Val.{SFits}
use Rattle.std.proofs.Common.{◌≡◌, ◌∙◌, ◌+◌, ◌++◌, ◌∷◌, [], ℕ, ℤ, pos, List, Some, add-one, ap, refl, rules, slice_get, take}
use Rattle.std.proofs.lemmas.Int.{to_z-of_z}
use Rattle.std.proofs.lemmas.List.{map-append}
use Rattle.std.proofs.lemmas.Option.{slice_get-get_or}
use Rattle.list_laws.proofs.Places.{take-get}
use Rattle.sat_arena.specs.declared.clause_ref.ClauseRef.{ClauseRef}
use Rattle.sat_watch.specs.Watches.{Attached, id_at}
use Rattle.sat_core.specs.Delete.{ids_of}
use Rattle.sat_core.proofs.deleting.ids_of.Goals as goal

-- the clauses so far and one more
ids_next : (ks : List Attached) (refs : List ClauseRef) (i : ℕ) (r : ClauseRef) (ids : List ℤ) →
    slice_get refs i ≡ Some r → ids ≡ ids_of ks (take i refs) →
    ids ++ pos (id_at ks r) ∷ [] ≡ ids_of ks (take (i + 1) refs)
ids_next ks refs i r ids at front =
    rw (
      add-one,
      take-get refs i r at,
      map-append (λ c. pos (id_at ks c)) (take i refs) (r ∷ []),
      ← front,
    ) refl

pub loop-c-preserved : goal.loop-c-preserved
loop-c-preserved c =
    let fits : SFits w64 c.from.result = search rules in
    let pushed = simp to_z-of_z at c.push_reserved.ensures.items in
    pushed
    ∙ ap (λ (z : ℤ). c.loop-c.ids.items ++ z ∷ []) (c.from.ensures ∙ ap pos c.id.ensures.value)
    ∙ ids_next c.args.watches.now.clauses c.args.clauses.now c.loop-c.c-index _ _
    (slice_get-get_or c.args.clauses.now c.loop-c.c-index _ c.loop-c-test.true)
    c.loop-c.invariant
