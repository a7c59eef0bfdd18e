use Rattle.std.proofs.Common.{None}
use Rattle.std.proofs.lemmas.Result.{on_ok_weaker}
use Rattle.sat_watch.proofs.TailLemmas.{tail_many}
use Rattle.sat_watch.proofs.chains.Chains.tail_of_place.Goals as goal

pub returns-clause-many : goal.returns-clause-many
returns-clause-many c =
    on_ok_weaker c.find_tail.result
    (λ tail. tail_many _ c.in-Some.l tail.0 c.find_tail.new.others.items
    c.find_tail.new.words.items None tail.1)
    c.find_tail.ensures
