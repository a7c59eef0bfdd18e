use Rattle.std.proofs.Common.{◌≡◌, ◌∙◌, Bool, List, false, length, get_or, ap}
use Rattle.route_core.proofs.BlameLemmas.{places-are}
use Rattle.route_core.proofs.blaming.used_clauses.Goals as goal

pub returns : goal.returns
returns c =
    let used : List Bool = c.deref.result.now in
    let many : length used ≡ c.args.count =
    ap length c.deref.ensures.value ∙ c.in_ok-marks.ensures.many in
    c.in_ok-used.ensures
    ∙ places-are c.args.log.now.steps c.args.count used many
    (λ at low. ap (λ (us : List Bool). get_or us at false) c.deref.ensures.value
    ∙ c.in_ok-marks.ensures.used at low)
