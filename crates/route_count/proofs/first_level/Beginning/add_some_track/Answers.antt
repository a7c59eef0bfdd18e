use Rattle.std.proofs.Common.{◌≡◌, ◌+◌, ◌<◌, ◌∙◌, ◌∷◌, [], ℕ, ℤ, List, None, All, arith, length, pos, subst, sym}
use Rattle.sat_clause.specs.Literal.{Clause, IsWithin}
use Rattle.sat_rat.specs.FullRup.{full_rup}
use Rattle.sat_count.specs.Refuting.{Holds, RefutationState, live_of}
use Rattle.sat_count.proofs.StandLemmas.{some-inside}
use Rattle.route_count.specs.Firsts.{firsts_of}
use Rattle.route_count.specs.Said.{IsInput}
use Rattle.route_count.proofs.FirstLemmas.{some-as}
use Rattle.route_count.proofs.FirstRowLemmas.{firsts-below, firsts-many}
use Rattle.route_count.proofs.FollowLemmas.{itself-follows}
use Rattle.route_count.proofs.first_level.Beginning.add_some_track.Goals as goal

pub add-requires-clause-within : goal.add-requires-clause-within
add-requires-clause-within c =
    let width : ℕ = c.args.self.now.variables.width in
    let row : List ℕ = c.args.self.now.row.now in
    let r : RefutationState = c.args.refutation.now in
    let low : c.args.place < length row =
    omega (arith, c.requires.place, c.args.self.now.size) in
    let many : length (firsts_of width row) ≡ width + 1 =
    firsts-many row width ∙ c.args.self.now.size in
    subst (λ (clause : Clause). All (IsWithin r.last_variable) clause)
    (sym (c.deref-2.ensures.value ∙ c.in-Ok.ensures ∙ some-as width row c.args.place low))
    (some-inside r width (firsts_of width row) many
    (firsts-below row width r c.args.self.now.variables.slots c.args.self.now.within
    (omega (arith, c.args.self.now.room, c.requires.begun.variables))) c.args.place
    c.requires.place)

pub add-requires-clause-follows : goal.add-requires-clause-follows
add-requires-clause-follows c =
    let r : RefutationState = c.args.refutation.now in
    let clause : Clause = c.in-Ok.clause.items in
    let id : ℕ = c.clause_id.result in
    let there : Holds r id clause =
    c.requires.begun.kept id clause
    (subst (λ (found : Clause). IsInput c.args.self.now.formula.now.cnf id found)
    c.deref.ensures.value c.clause_id.ensures.id) in
    subst (λ (hints : List ℤ). full_rup (live_of r) c.deref-2.result.now hints ≡ None)
    (sym c.one_hint-hints.ensures)
    (subst (λ (found : Clause). full_rup (live_of r) found (pos id ∷ []) ≡ None)
    (sym c.deref-2.ensures.value) (itself-follows (live_of r) id clause there.there))
