use Rattle.std.proofs.Common.{◌<◌, ℕ, List, length, subst, sym, ap, All}
use Rattle.route_ordered.proofs.EncoderLemmas.{among-low}
use Rattle.route_ordered.proofs.ordered.Ordered.ordered_row.Goals as goal

pub returns-clause-slots : goal.returns-clause-slots
returns-clause-slots c =
    subst (λ (n : ℕ). All (λ s. s < n) c.slots_among.result.items)
    (ap length c.slots.ensures.value)
    (subst (λ (xs : List ℕ). All (λ s. s < length c.slots.result.now) xs)
    (sym c.slots_among.ensures.row)
    (among-low (length c.slots.result.now) c.deref.result.now))
