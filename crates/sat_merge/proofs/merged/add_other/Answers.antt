use Rattle.std.proofs.Common.{All, subst, sym}
use Rattle.sat_clause.specs.Formula.{Cnf}
use Rattle.sat_clause.specs.Literal.{IsWithin}
use Rattle.sat_merge.proofs.merged.add_other.Goals as goal

pub push-requires-clause-within : goal.push-requires-clause-within
push-requires-clause-within c =
    subst (λ (f : Cnf). All (IsWithin f.vars) c.deref.result.now) (sym c.room_for.ensures.cnf)
    (rw c.deref.ensures.value
    (c.in_ok-put_image.ensures.within c.args.merged.now.cnf.vars c.requires.may.variables
    c.requires.may.within))
