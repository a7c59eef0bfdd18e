use Rattle.std.proofs.Common.{sym}
use Rattle.sat_text.proofs.LratLemmas.{lrat_faults-from}
use Rattle.sat_text.proofs.log_lines.LogLines.by_rule.Goals as goal

pub returns-clause-faults : goal.returns-clause-faults
returns-clause-faults c =
    rw (c.new-2.ensures.rule, c.new-2.ensures.above, c.new.ensures)
    (sym (lrat_faults-from c.args.rule c.args.inputs c.args.bytes.now))
