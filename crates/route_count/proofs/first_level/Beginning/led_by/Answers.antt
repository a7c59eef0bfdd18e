use Rattle.std.proofs.Common.{◌≡◌, ◌<◌, ◌∙◌, ℕ, None, arith, length, subst, sym}
use Rattle.sat_count.specs.Refuting.{Holds}
use Rattle.problem_facts.specs.Leads.{TreesState, lead_at, root_at}
use Rattle.route_count.specs.Said.{led_clause}
use Rattle.route_count.proofs.first_level.Beginning.led_by.Goals as goal

pub lead-requires : goal.lead-requires
lead-requires c =
    let low : c.args.slot < length c.args.self.now.trees.now.roots =
    omega (arith, c.requires.slot, c.args.self.now.nets.each, c.args.self.now.each) in
    let led = c.args.self.now.are_trees.led c.args.slot c.args.lead low c.requires.lead in
    omega (arith, led.0, low)

pub returns-in_default-clause-led : goal.returns-in_default-clause-led
returns-in_default-clause-led c = λ r grows is_led.
    let t : TreesState = c.args.self.now.trees.now in
    let width : ℕ = c.args.self.now.variables.width in
    let low : c.args.slot < length t.roots =
    omega (arith, c.requires.slot, c.args.self.now.nets.each, c.args.self.now.each) in
    let led = c.args.self.now.are_trees.led c.args.slot c.args.lead low c.requires.lead in
    let none : lead_at t c.args.lead.from ≡ None = sym c.in_default.ensures in
    let root : c.args.lead.from ≡ root_at t c.args.slot =
    sym (c.args.self.now.are_trees.first c.args.lead.from (omega (arith, led.0, low)) none)
    ∙ led.2 in
    subst (λ (n : ℕ). Holds r c.joined.result (led_clause width n c.args.slot c.args.track)) root
    (grows.kept c.joined.result (led_clause width c.args.lead.from c.args.slot c.args.track)
    c.joined.ensures.id)

pub returns-clause-led : goal.returns-clause-led
returns-clause-led c = λ r grows is_led.
    is_led c.args.lead c.in-Some.field-0 c.args.track c.requires.lead (sym c.in-Some.ensures)
    c.requires.track
