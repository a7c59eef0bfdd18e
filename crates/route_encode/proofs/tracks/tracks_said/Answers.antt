use borrow.Author.Count.{below_more}
use Rattle.std.proofs.Common.{◌≡◌, ◌∙◌, ◌+◌, ◌++◌, ◌∷◌, ◌<◌, [], ℕ, Bool, true, List, ap, arith, length, slice_index, subst, sym}
use Rattle.std.proofs.lemmas.List.{get_or_append_left, get_or_push, length_push}
use Rattle.route_encode.specs.Said.{AreSaid, says}
use Rattle.route_encode.proofs.tracks.tracks_said.Goals as goal

-- the slots so far and one more
said_more : (values : List Bool) (width : ℕ) (tracks : List ℕ) (t n : ℕ) → length tracks ≡ n →
    AreSaid values width tracks n → t < width → says values width n t ≡ true →
    AreSaid values width (tracks ++ t ∷ []) (n + 1)
said_more values width tracks t n many front within said =
    below_more (λ s. (slice_index (tracks ++ t ∷ []) s < width)
    × (says values width s (slice_index (tracks ++ t ∷ []) s) ≡ true)) n
    (λ s below. subst (λ k. (k < width) × (says values width s k ≡ true))
    (sym (get_or_append_left tracks (t ∷ []) 0 s (omega arith))) (front s below))
    (subst (λ k. (k < width) × (says values width n k ≡ true))
    (sym (get_or_push tracks t 0 n many)) (within, said))

pub loop-slot-preserved : goal.loop-slot-preserved
loop-slot-preserved c =
    let pushed = c.in_ok-push.ensures.items in
    record {
      each = ap length pushed ∙ length_push _ _ ∙ ap (λ (n : ℕ). n + 1) c.loop-slot.invariant.each;
      said = rw pushed (said_more c.args.values.now c.args.variables.width c.loop-slot.tracks.items
          c.track_said.result c.loop-slot.slot c.loop-slot.invariant.each c.loop-slot.invariant.said
          c.track_said.ensures.within c.track_said.ensures.said);
    }
