-- Behind a `&` a claim lends nothing.
use denote.RattleType.{RattleType}
use denote.RawPtr.{RawPtr}
use denote.Param.Laws.{Laws}
use denote.Param.Shared.{copy_shared}
use denote.SharingLaws.{nothing_shr_laws}
use denote.Struct.Laws.{field_copy}
use denote.Struct.Lending.{of_Lends, Lends-nothing}
use Rattle.core.specs.declared.alloc.Allocator.{Ghosts}
use Rattle.core.specs.contracts.marker.PhantomData as phantom
use Rattle.sat_arena.specs.contracts.places.Claim as C
use Rattle.sat_arena.proofs.places.Claim.TheLaw.Statement.{statement}

pub shares : (T A : RattleType) (g : Ghosts A.Denot) (laws : Laws T) (alloc_laws : Laws A) →
    statement T A g laws alloc_laws
shares T A g laws alloc_laws =
    of_Lends (C.struct T A g)
    (C.the_codes T.Denot A.Denot T.coded A.coded (phantom.the_row RawPtr).coded)
    (C.the_heap T A g) (C.the_lent T A g) (λ claim p. nothing_shr_laws)
    (copy_shared (phantom.the_field RawPtr) (field_copy (phantom.the_type RawPtr) tt), tt)
    (λ M 𝓤 𝓛 claim p. Lends-nothing 𝓛 (C.the_heap T A g claim) (C.the_row T A g).lives)
