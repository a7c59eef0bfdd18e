use Rattle.sat_text.proofs.LogBack.{printed_log_reads}
use Rattle.sat_text.proofs.laws.printed_logs_read_back.Goals as goal

pub returns : goal.returns
returns c = printed_log_reads
