use Rattle.std.proofs.Common.{◌≡◌, ℕ, List, Bool, false, length, get_or, sym, ap, subst, ◌∙◌, arith}
use Rattle.route_core.specs.Core.{AreUnroutable}
use Rattle.route_core.proofs.BlameLemmas.{nets-are}
use Rattle.route_core.proofs.CoreLemmas.{is_just}
use Rattle.route_core.proofs.blaming.blame_in.Goals as goal

pub marked-requires : goal.marked-requires
marked-requires c = omega (
  arith,
  c.in_ok-marks.ensures.many,
  c.in_ok-marks.ensures.few,
  ap length c.deref-2.ensures.value,
)

pub returns-clause-nets : goal.returns-clause-nets
returns-clause-nets c =
    let used : List Bool = c.deref.result.now in
    let marks : List Bool = c.deref-2.result.now in
    let count : length used ≡ length c.args.formula.now.cnf.clauses =
    ap length c.deref.ensures.value ∙ c.in_ok-used.ensures.many ∙ c.len.ensures in
    c.in_ok-nets.ensures
    ∙ nets-are c.args.width c.args.p.now c.args.formula.now.cnf c.args.log.now.steps used count
    (λ at low. ap (λ (us : List Bool). get_or us at false) c.deref.ensures.value
    ∙ c.in_ok-used.ensures.used at
    (omega (arith, low, ap length c.deref.ensures.value, c.in_ok-used.ensures.many)))
    marks (ap length c.deref-2.ensures.value ∙ c.in_ok-marks.ensures.many)
    (λ net low. ap (λ (ms : List Bool). get_or ms net false) c.deref-2.ensures.value
    ∙ c.in_ok-marks.ensures.marks net
    (omega (arith, low, ap length c.deref-2.ensures.value, c.in_ok-marks.ensures.many)))

pub returns-clause-unroutable : goal.returns-clause-unroutable
returns-clause-unroutable c =
    subst (λ (nets : List ℕ). AreUnroutable c.args.width c.args.p.now nets)
    (sym (returns-clause-nets c))
    (is_just c.args.width c.args.p.now c.args.formula.now.cnf c.requires.fair
    c.args.log.now.steps c.args.log.now.steps c.requires.trimmed)
