-- Behind a `&` the places lend their values.
use mathlib.Core.List.{[], ◌++◌}
use base.Fml.{Incl-trans}
use contract.BorrowLft.{meet_⊑_left}
use denote.RattleType.{RattleType}
use denote.RawPtr.{RawPtr}
use denote.Param.Laws.{Laws}
use denote.Param.Shared.{copy_shared}
use denote.Struct.Laws.{field_copy}
use denote.Struct.Lending.{of_Lends}
use Rattle.core.specs.contracts.marker.PhantomData as phantom
use Rattle.sat_arena.specs.contracts.places.Places as P
use Rattle.sat_arena.proofs.places.Places.TheLaw.Statement.{statement}
use Rattle.sat_arena.proofs.Lending.{copied_row, lent_row}

pub shares : (R : RattleType) (laws : Laws R) → statement R laws
shares R laws =
    of_Lends (P.struct R) (P.the_codes R.Denot R.coded (phantom.the_row RawPtr).coded)
    (P.the_heap R) (P.the_lent R) (λ places p. copied_row R laws.shr_laws places.start places.slots)
    (copy_shared (phantom.the_field RawPtr) (field_copy (phantom.the_type RawPtr) tt), tt)
    (λ M 𝓤 𝓛 places p. lent_row 𝓛 (P.the_row R).lives R laws
    (Incl-trans (meet_⊑_left (R.lives ++ []) _) (meet_⊑_left R.lives [])) places.start places.slots)
