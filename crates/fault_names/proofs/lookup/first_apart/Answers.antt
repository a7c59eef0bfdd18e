use Rattle.std.proofs.Common.{rules}
use Rattle.fault_names.specs.Lookups.{bytes_of}
use Rattle.fault_names.proofs.NameListLemmas.{apart-next}
use Rattle.fault_names.proofs.lookup.first_apart.Goals as goal

pub loop-name-preserved : goal.loop-name-preserved
loop-name-preserved c = apart-next (bytes_of c.args.others.now) c.in_ok-held.held c.args.names.now
    c.loop-name.name-index _ c.is_held.result _ c.in_ok-held.ensures c.loop-name-test.true
    c.is_held.ensures (search rules) c.loop-name.invariant
