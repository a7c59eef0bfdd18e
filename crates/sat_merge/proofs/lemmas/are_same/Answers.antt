use Rattle.std.proofs.Common.{ap}
use Rattle.std.proofs.lemmas.Bool.Decides.{Decides-int_eq}
use Rattle.std.proofs.lemmas.Slice.Eq.{slice_eq-Decides}
use Rattle.sat_clause.specs.declared.literal.Lit.{Lit}
use Rattle.sat_clause.specs.Literal.{lit}
use Rattle.sat_merge.proofs.lemmas.are_same.Goals as goal

pub returns : goal.returns
returns c is =
    (slice_eq-Decides
    (λ a b. (
      λ same. ap lit ((Decides-int_eq a.code b.code).0 same),
      λ e. (Decides-int_eq a.code b.code).1 (ap (λ (l : Lit). l.code) e),
    )) _ _ _ c.eq.ensures).0 is
