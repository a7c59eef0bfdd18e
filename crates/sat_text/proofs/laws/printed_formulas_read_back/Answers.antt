use Rattle.sat_text.proofs.CnfBack.{printed_reads}
use Rattle.sat_text.proofs.laws.printed_formulas_read_back.Goals as goal

pub returns : goal.returns
returns c = printed_reads
