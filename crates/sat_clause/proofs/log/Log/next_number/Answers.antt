use Rattle.std.proofs.Common.{arith}
use Rattle.sat_clause.proofs.LogLaws.{steps-many}
use Rattle.sat_clause.proofs.log.Log.next_number.Goals as goal

pub returns : goal.returns
returns c =
    let i = c.self.inside in
    let many = steps-many i.heads i.lits i.lit_ends i.numbers i.number_ends i.step_room
    i.number_room c.self.invariant in
    rw (← c.self.view_is) (omega (arith, many, c.len.ensures))
