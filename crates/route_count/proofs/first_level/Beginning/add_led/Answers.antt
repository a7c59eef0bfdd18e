use Rattle.std.proofs.Common.{◌≡◌, ◌<◌, ◌∷◌, ◌∙◌, [], ℕ, ℤ, List, None, ap, arith, length, subst, sym}
use Rattle.sat_clause.specs.Literal.{Clause}
use Rattle.sat_rat.specs.FullRup.{full_rup}
use Rattle.sat_count.specs.Names.{no, yes}
use Rattle.sat_count.specs.Refuting.{RefutationState, live_of}
use Rattle.route_encode.specs.Encoding.{lacks, place_of}
use Rattle.problem_facts.specs.Leads.{TreesState, root_at}
use Rattle.route_count.specs.Said.{led_clause}
use Rattle.route_count.proofs.FirstLemmas.{led-justified}
use Rattle.route_count.proofs.first_level.Beginning.add_led.Goals as goal

pub add-requires-clause-follows : goal.add-requires-clause-follows
add-requires-clause-follows c =
    let width : ℕ = c.args.self.now.variables.width in
    let t : TreesState = c.args.self.now.trees.now in
    let r : RefutationState = c.args.refutation.now in
    let low : c.args.slot < length t.roots =
    omega (arith, c.requires.slot, c.args.self.now.nets.each, c.args.self.now.each) in
    let is_lacks : c.lacks.result ≡ no (place_of width (root_at t c.args.slot) c.args.track) =
    c.lacks.ensures.value
    ∙ ap (λ (n : ℕ). lacks width n c.args.track) c.root-root.ensures.value in
    let is_has : c.has.result ≡ yes (place_of width c.args.slot c.args.track) =
    c.has.ensures.value in
    let clause : led_clause width (root_at t c.args.slot) c.args.slot c.args.track
    ≡ c.lacks.result ∷ c.has.result ∷ [] =
    λ j. sym is_lacks j ∷ sym is_has j ∷ [] in
    subst (λ (found : Clause). full_rup (live_of r) found c.two_hints-hints.result ≡ None) clause
    (subst (λ (hints : List ℤ). full_rup (live_of r)
    (led_clause width (root_at t c.args.slot) c.args.slot c.args.track) hints ≡ None)
    (sym c.two_hints-hints.ensures)
    (led-justified r t c.args.self.now.are_trees width c.args.track c.requires.track c.args.slot
    c.args.lead c.args.before c.led_by.result c.joined.result low c.requires.lead
    c.requires.before (c.led_by.ensures.led r c.requires.begun c.requires.led_before)
    (c.requires.begun.kept c.joined.result
    (led_clause width c.args.lead.from c.args.slot c.args.track) c.joined.ensures.id)))
