use Rattle.std.proofs.Common.{◌≡◌, ℕ, ◌+◌, ◌*◌, ◌≤◌, ◌∙◌, List, length, subst, sym, ap}
use Rattle.fpga_types.specs.declared.arch.Arch.{Arch}
use Rattle.sat_clause.specs.declared.limits.TheConstants.{CLAUSE_LIMIT}
use Rattle.route_encode.specs.Encoding.{cnf_of}
use Rattle.route_ordered.specs.Counts.{clauses_per_slot}
use Rattle.route_ordered.specs.Ordered.{slots_among}
use Rattle.route_ordered.proofs.ClauseLemmas.{no-ordered}
use Rattle.route_ordered.proofs.EncoderLemmas.{among-slots, count-ordered, row-room}
use Rattle.route_ordered.proofs.ordered.OrderedEncoder.build.Goals as goal

pub build_with_room-requires-clause-few : goal.build_with_room-requires-clause-few
build_with_room-requires-clause-few c =
    let each : c.clauses_per_slot.result
    ≡ clauses_per_slot c.args.problem.now.arch.pattern c.args.width =
    c.clauses_per_slot.ensures.value
    ∙ ap (λ (a : Arch). clauses_per_slot a.pattern c.args.width) c.arch.ensures.value in
    subst (λ (n : ℕ). n ≤ CLAUSE_LIMIT)
    (count-ordered c.args.width c.args.problem.now
    (slots_among c.args.problem.now c.args.self.now.row.items) c.ordered_row-row.result.items
    c.ordered_row-row.ensures.row
    ∙ sym (λ i. length (cnf_of c.args.width c.args.problem.now).clauses
    + c.len.ensures.value i * each i))
    c.requires.few

pub add_precedence-requires-clause-room : goal.add_precedence-requires-clause-room
add_precedence-requires-clause-room c =
    let row : List ℕ = c.deref.result.now in
    let count : c.len.result ≡ length row =
    c.len.ensures.value ∙ sym (ap length c.deref.ensures.0) in
    let again : c.len-2.result ≡ length row =
    c.len-2.ensures.value ∙ sym (ap length c.deref.ensures.0) in
    let each : c.clauses_per_slot.result
    ≡ clauses_per_slot c.arch.result.now.pattern c.args.width =
    c.clauses_per_slot.ensures.value in
    row-room c.arch.result.now.pattern c.args.width row c.in_ok-formula.formula
    (c.in_ok-formula.ensures.room.0 ∙ (λ i. count i * each i))
    (c.in_ok-formula.ensures.room.1 ∙ (λ i. count i * each i * (1 + 2 * again i)))

pub returns-in_err-formula-clause-none_without_model :
    goal.returns-in_err-formula-clause-none_without_model
returns-in_err-formula-clause-none_without_model c =
    no-ordered c.args.width c.args.problem.now
    (slots_among c.args.problem.now c.args.self.now.row.items) c.arch.ensures.fits
    (among-slots c.args.problem.now c.args.self.now.row.items)

pub returns-in_err-add_precedence-clause-none_without_model :
    goal.returns-in_err-add_precedence-clause-none_without_model
returns-in_err-add_precedence-clause-none_without_model c =
    no-ordered c.args.width c.args.problem.now
    (slots_among c.args.problem.now c.args.self.now.row.items) c.arch.ensures.fits
    (among-slots c.args.problem.now c.args.self.now.row.items)

pub returns-clause-none_without_model : goal.returns-clause-none_without_model
returns-clause-none_without_model c =
    no-ordered c.args.width c.args.problem.now
    (slots_among c.args.problem.now c.args.self.now.row.items) c.arch.ensures.fits
    (among-slots c.args.problem.now c.args.self.now.row.items)
