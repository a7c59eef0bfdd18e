use Rattle.std.proofs.Common.{◌≡◌, ◌∙◌, ap, arith, drop, length, refl}
use Rattle.std.proofs.lemmas.List.Elements.{All-replicate}
use Rattle.route_count.proofs.CountedLemmas.{front-written}
use Rattle.route_count.proofs.clause_ids.rivals_after.Goals as goal

pub count_rivals-requires-clause-zeros : goal.count_rivals-requires-clause-zeros
count_rivals-requires-clause-zeros c =
    rw (c.deref_mut.ensures.value, c.in_ok-rivals.ensures.items_if_clones_equal (λ y e. e))
    (All-replicate (λ n. n ≡ 0) _ 0 refl)

pub count_rivals-requires-clause-no_counts : goal.count_rivals-requires-clause-no_counts
count_rivals-requires-clause-no_counts c =
    rw (c.deref_mut-2.ensures.value, c.in_ok-counts.ensures.items_if_clones_equal (λ y e. e))
    (All-replicate (λ n. n ≡ 0) _ 0 refl)

pub returns-clause-each : goal.returns-clause-each
returns-clause-each c =
    let rivals = c.count_rivals.new.rivals in
    ap length (front-written rivals (drop (length rivals) c.in_ok-rivals.rivals.items)
    c.in_ok-rivals.rivals.len (omega (
      arith,
      c.count_rivals.ensures.each,
      c.in_ok-rivals.ensures.len,
    ))) ∙ c.count_rivals.ensures.each

pub returns-clause-few : goal.returns-clause-few
returns-clause-few c =
    let rivals = c.count_rivals.new.rivals in
    rw (front-written rivals (drop (length rivals) c.in_ok-rivals.rivals.items)
    c.in_ok-rivals.rivals.len (omega (
      arith,
      c.count_rivals.ensures.each,
      c.in_ok-rivals.ensures.len,
    ))) c.count_rivals.ensures.few
