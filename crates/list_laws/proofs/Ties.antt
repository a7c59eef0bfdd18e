-- Where comparisons tie.
use Rattle.std.proofs.Common.{◌≡◌, ℕ, Bool, refl, sym, ◌∙◌, eq-eqb}
use Rattle.std.specs.Prelude.{◌&&◌, ◌==◌}
use Rattle.std.specs.Cmp.{both_ways, unsigned_ties}
use Rattle.std.specs.Ordering.{is_eq, nat_cmp, ordering_then}
use Rattle.std.specs.declared.cmp.Ordering.{Ordering}
use Rattle.std.specs.declared.cmp.Ordering.TheVariants.{Less, Equal, Greater}
use borrow.Author.Tests.{eqb-true}

-- two comparisons in turn tie where both do
pub then_ties : (p q : Ordering) (r s : Bool) → is_eq p ≡ r → is_eq q ≡ s →
    is_eq (ordering_then p q) ≡ (r && s)
then_ties Less q r s e f = rw (← e) refl
then_ties Equal q r s e f = rw (← e) f
then_ties Greater q r s e f = rw (← e) refl

-- numbers tie where they are equal
pub nat_ties : (a b : ℕ) → is_eq (nat_cmp a b) ≡ (b == a)
nat_ties a b =
    sym (unsigned_ties a b) ∙ both_ways (a == b) (b == a) (λ h. eq-eqb b a (sym (eqb-true a b h)))
    (λ h. eq-eqb a b (sym (eqb-true b a h)))
