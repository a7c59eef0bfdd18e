-- Spots tie in their order exactly where they are one.
use Rattle.std.proofs.Common.{◌≡◌, ℕ, Bool, true, false, refl, sym, ◌∙◌, eq-eqb}
use Rattle.std.specs.Prelude.{◌==◌, ◌&&◌}
use Rattle.std.specs.Cmp.{both_ways, tied_then}
use Rattle.std.specs.Ordering.{is_eq, nat_cmp, ordering_then}
use Rattle.list_laws.proofs.Ties.{nat_ties}
use Rattle.fpga_types.specs.Places.{same_spot}
use Rattle.fpga_types.specs.SpotOrder.{spot_cmp}
use Rattle.fpga_types.specs.declared.placement.Spot.{Spot}
use Rattle.fpga_types.specs.declared.placement.Spot.TheVariants.{Block, Pad}
use borrow.Author.Tests.{eqb-true}

-- two numbers are equal either way round
pub equal-swap : (a b : ℕ) → (a == b) ≡ (b == a)
equal-swap a b =
    both_ways (a == b) (b == a) (λ h. eq-eqb b a (sym (eqb-true a b h)))
    (λ h. eq-eqb a b (sym (eqb-true b a h)))

and_last : (a b c : Bool) → (a && (b && c)) ≡ (a && b && c)
and_last true b c = refl
and_last false b c = refl

pub spot_ties : (a b : Spot) → is_eq (spot_cmp a b) ≡ same_spot b a
spot_ties (Block x y) (Block u v) =
    sym (tied_then (nat_cmp x u) (nat_cmp y v)) ∙ (λ i. nat_ties x u i && nat_ties y v i)
spot_ties (Pad x y sub) (Pad u v number) =
    sym (tied_then (nat_cmp x u) (ordering_then (nat_cmp y v) (nat_cmp sub number)))
    ∙ (λ i. nat_ties x u i && sym (tied_then (nat_cmp y v) (nat_cmp sub number)) i)
    ∙ (λ i. (u == x) && (nat_ties y v i && nat_ties sub number i))
    ∙ and_last (u == x) (v == y) (number == sub)
spot_ties (Block x y) (Pad u v number) = refl
spot_ties (Pad x y sub) (Block u v) = refl
