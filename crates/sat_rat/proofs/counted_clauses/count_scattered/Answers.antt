use Rattle.std.proofs.Common.{add-one, arith, ap, ◌≡◌, ◌∙◌, suc, sym, true, Some, inl, inr, ℕ}
use Rattle.std.specs.Prelude.{is_some}
use Rattle.sat_clause.specs.Literal.{Clause}
use Rattle.sat_clause.specs.Live.{clause_at}
use Rattle.sat_check.specs.LiveStore.{last_placed, live_at, scattered_id}
use Rattle.sat_rat.specs.Counts.{ids_to, times_in, with_id, with_ids}
use Rattle.sat_rat.specs.FullRup.{has_id}
use Rattle.sat_rat.proofs.HeldLaws.{held_split}
use Rattle.sat_rat.proofs.IdLaws.{has_placed, has_old, has_stands, held_none, is_fresh, placed_has}
use Rattle.sat_rat.proofs.counted_clauses.count_scattered.Goals as goal

pub loop-at-preserved : goal.loop-at-preserved
loop-at-preserved c = λ clauses finds m.
    let live = c.args.live.now in
    let at = c.loop-at.at in
    let ids = ids_to (last_placed live) in
    let here : scattered_id live at ≡ Some c.in-Some.id = sym c.in-Some.ensures.value in
    let fresh = is_fresh (scattered_id live) ids at c.in-Some.id
    (λ is. c.in-Some.ensures.apart (has_placed (last_placed live) c.in-Some.id is))
    c.scattered-at-end.ensures.once here in
    let split = held_split m clauses (with_ids (scattered_id live) at ids) c.in-Some.id fresh in
    let before = c.loop-at.invariant clauses finds m in
    let same = ap (times_in m) (finds c.in-Some.id) in
    let more : with_ids (scattered_id live) (suc at) ids
    ≡ with_id (Some c.in-Some.id) (with_ids (scattered_id live) at ids) =
    ap (λ o. with_id o (with_ids (scattered_id live) at ids)) here in
    rw (add-one, more) (omega (arith, split, before, c.in-Ok.ensures m, same))

pub returns : goal.returns
returns c = λ clauses finds m.
    let live = c.args.live.now in
    let ids = ids_to (last_placed live) in
    let all : c.scattered-at-end.result ≡ c.loop-at.at =
    omega (arith, c.loop-at-test.false, c.loop-at.auto.at-end) in
    let gone : (q : ℕ) (d : Clause) → clause_at clauses q ≡ Some d →
    has_id (with_ids (scattered_id live) c.loop-at.at ids) q ≡ true =
    λ q d is.
    let found : is_some (live_at live q) ≡ true = ap is_some (finds q ∙ is) in
    elim (c.scattered-at-end.ensures.each q found) [
      | inl placed ↦ has_old (scattered_id live) ids c.loop-at.at q
          (placed_has (last_placed live) q placed)
      | inr stands ↦ has_stands (scattered_id live) ids c.loop-at.at q (rw all at stands)
    ] in
    let none = held_none m clauses (with_ids (scattered_id live) c.loop-at.at ids) gone in
    omega (arith, c.loop-at.invariant clauses finds m, none)
