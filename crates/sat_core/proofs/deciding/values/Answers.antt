use borrow.Author.Count.{below_more}
use Rattle.std.proofs.Common.{◌≡◌, ◌∙◌, ◌+◌, ◌++◌, ◌∷◌, ◌<◌, [], ℕ, suc, Bool, false, List, Option, ap, arith, get_or, length}
use Rattle.std.specs.Prelude.{unwrap_or, vec_len}
use Rattle.std.proofs.lemmas.List.{get_or_append_left, get_or_push}
use Rattle.sat_clause.specs.Literal.{positive}
use Rattle.sat_watch.specs.Trail.{value_in}
use Rattle.sat_core.proofs.deciding.values.Goals as goal

-- the values so far and one more
read_more : (value : ℕ → Bool) (values : List Bool) (b : Bool) (n : ℕ) → length values ≡ n →
    ((k : ℕ) (d : Bool) → k < n → get_or values k d ≡ value k) → b ≡ value n →
    (k : ℕ) (d : Bool) → k < n + 1 → get_or (values ++ b ∷ []) k d ≡ value k
read_more value values b n many front is k d within =
    below_more (λ j. get_or (values ++ b ∷ []) j d ≡ value j) n
    (λ j below. get_or_append_left values (b ∷ []) d j (omega arith) ∙ front j d below)
    (get_or_push values b d n many ∙ is) k within

pub loop-v-preserved : goal.loop-v-preserved
loop-v-preserved c =
    let trail = c.args.watches.now.trail in
    let n : ℕ = vec_len c.loop-v.values in
    let value : ℕ → Bool = λ k. unwrap_or (value_in trail (positive (suc k))) false in
    let pushed = c.push_reserved.ensures in
    let next : c.loop-v.v ≡ suc n = omega (arith, c.loop-v.invariant.many) in
    let is : c.unwrap_or.result ≡ value n =
    c.unwrap_or.ensures ∙ ap (λ (o : Option Bool). unwrap_or o false) (c.value.ensures.value
    ∙ ap (value_in trail) (c.positive.ensures ∙ ap positive next)) in
    record {
      many = omega (arith, pushed.len, c.loop-v.invariant.many);
      room = omega (arith, pushed.capacity, c.loop-v.invariant.room);
      read = λ k d below. ap (λ (xs : List Bool). get_or xs k d) pushed.items
          ∙ read_more value c.loop-v.values.items c.unwrap_or.result n
          (omega (arith, c.loop-v.values.ok.0)) c.loop-v.invariant.read is k d
          (omega (arith, below, pushed.len));
    }
