use Rattle.std.proofs.Common.{◌≡◌, ◌+◌, ◌∙◌, ◌≤◌, ℕ, List, All, arith, length, subst, sym}
use Rattle.sat_clause.specs.declared.limits.TheConstants.{LITERAL_LIMIT}
use Rattle.sat_count.specs.Firsts.{IsBelow}
use Rattle.sat_count.specs.Levels.{Stands}
use Rattle.sat_count.specs.Refuting.{AreLive, Erases, Grows, RefutationState, begun}
use Rattle.sat_count.proofs.StandLemmas.{first-stands}
use Rattle.sat_count.proofs.GrowLemmas.{grows-none, grows-on}
use Rattle.sat_count.proofs.LevelLemmas.{erase-live}
use Rattle.route_count.specs.Firsts.{firsts_of}
use Rattle.route_count.proofs.FirstRowLemmas.{firsts-apart, firsts-below, firsts-many}
use Rattle.route_count.proofs.FirstLemmas.{ready-grows}
use Rattle.route_count.proofs.first_level.Beginning.add_level.Goals as goal

pub add_led_tracks-requires-clause-begun : goal.add_led_tracks-requires-clause-begun
add_led_tracks-requires-clause-begun c =
    subst (λ (r : RefutationState). Grows (begun c.args.self.now.formula.now.cnf) r)
    (sym c.requires.begun) (grows-none (begun c.args.self.now.formula.now.cnf))

pub add_some_tracks-requires : goal.add_some_tracks-requires
add_some_tracks-requires c = record {
  begun = subst (λ (r : RefutationState). Grows r c.add_led_tracks.new.refutation)
      c.requires.begun c.in-Ok.ensures.grows;
}

pub add_pairs-requires-clause-begun : goal.add_pairs-requires-clause-begun
add_pairs-requires-clause-begun c =
    grows-on (begun c.args.self.now.formula.now.cnf) c.add_led_tracks.new.refutation
    c.add_some_tracks.new.refutation
    (subst (λ (r : RefutationState). Grows r c.add_led_tracks.new.refutation) c.requires.begun
    c.in-Ok.ensures.grows)
    c.in-Ok-add_some_tracks.ensures.grows

pub add_pairs-requires-clause-ready : goal.add_pairs-requires-clause-ready
add_pairs-requires-clause-ready c =
    ready-grows c.add_led_tracks.new.refutation c.add_some_tracks.new.refutation
    c.args.self.now.trees.now c.args.self.now.variables.width
    (length c.args.self.now.row.now) c.args.self.now.meetings.now c.add_led_tracks.new.led
    c.in-Ok-add_some_tracks.ensures.grows c.in-Ok.ensures.ready

pub erase-requires-clause-live : goal.erase-requires-clause-live
erase-requires-clause-live c =
    let r0 : RefutationState = c.args.refutation.now in
    let r1 : RefutationState = c.add_led_tracks.new.refutation in
    let r2 : RefutationState = c.add_some_tracks.new.refutation in
    let r3 : RefutationState = c.add_pairs.new.refutation in
    let later : Grows r1 r3 = grows-on r1 r2 r3 c.in-Ok-add_some_tracks.ensures.grows
    c.in-Ok-add_pairs.ensures.grows in
    let all : Grows r0 r3 = grows-on r0 r1 r3 c.in-Ok.ensures.grows later in
    let live : AreLive r3 c.last_id-begin.result r3.last_id =
    subst (λ (n : ℕ). AreLive r3 n r3.last_id) (sym c.last_id-begin.ensures) all.added in
    erase-live r3 c.last_id-begin.result c.last_id-behind.result live
    (omega (arith, c.last_id-behind.ensures, later.ids))

pub invariant_of-result-clause-few : goal.invariant_of-result-clause-few
invariant_of-result-clause-few c =
    let width : ℕ = c.args.self.now.variables.width in
    let row : List ℕ = c.args.self.now.row.now in
    let r1 : RefutationState = c.add_led_tracks.new.refutation in
    let begin : Grows (begun c.args.self.now.formula.now.cnf) r1 =
    subst (λ (r : RefutationState). Grows r r1) c.requires.begun c.in-Ok.ensures.grows in
    let below : IsBelow r1 width (firsts_of width row) =
    firsts-below row width r1 c.args.self.now.variables.slots c.args.self.now.within
    (omega (arith, c.args.self.now.room, begin.variables)) in
    subst (λ (xs : List ℕ). All (λ first. first + width ≤ LITERAL_LIMIT) xs)
    (sym c.in-Ok-firsts.ensures)
    (λ k d low. let one = below k d low in
    omega (arith, one, c.last_variable-few.ensures.value, c.last_variable-few.ensures.few))

pub returns-clause-level : goal.returns-clause-level
returns-clause-level c =
    let width : ℕ = c.args.self.now.variables.width in
    let row : List ℕ = c.args.self.now.row.now in
    let r1 : RefutationState = c.add_led_tracks.new.refutation in
    let begin : Grows (begun c.args.self.now.formula.now.cnf) r1 =
    subst (λ (r : RefutationState). Grows r r1) c.requires.begun c.in-Ok.ensures.grows in
    let below : IsBelow r1 width (firsts_of width row) =
    firsts-below row width r1 c.args.self.now.variables.slots c.args.self.now.within
    (omega (arith, c.args.self.now.room, begin.variables)) in
    let each : length (firsts_of width row) ≡ width + 1 =
    firsts-many row width ∙ c.args.self.now.size in
    let erases : Erases c.add_pairs.new.refutation c.erase.new.self r1.last_id =
    subst (λ (n : ℕ). Erases c.add_pairs.new.refutation c.erase.new.self n)
    c.last_id-behind.ensures c.in-Ok-erase.ensures in
    let stands : Stands c.erase.new.self width r1.last_id (firsts_of width row) =
    first-stands r1 c.add_some_tracks.new.refutation c.add_pairs.new.refutation
    c.erase.new.self width (firsts_of width row) each below
    (firsts-apart row width c.requires.differ c.args.self.now.size)
    c.in-Ok-add_some_tracks.ensures c.in-Ok-add_pairs.ensures erases in
    subst (λ (xs : List ℕ). Stands c.erase.new.self width c.last_id-behind.result xs)
    (sym c.in-Ok-firsts.ensures)
    (subst (λ (n : ℕ). Stands c.erase.new.self width n (firsts_of width row))
    (sym c.last_id-behind.ensures) stands)
