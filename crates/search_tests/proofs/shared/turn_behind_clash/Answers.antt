use Rattle.search_tests.proofs.ClashLaws.{may_take_clash}
use Rattle.search_tests.proofs.shared.turn_behind_clash.Goals as goal

pub turn-requires : goal.turn-requires
turn-requires c =
    let new = c.in_ok-search.ensures in
    may_take_clash c.in_ok-search.search c.args.formula.now.cnf c.args.log.now.steps new.stands
    new.none_taken c.requires.formula c.requires.steps
