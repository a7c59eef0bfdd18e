use Rattle.sat_text.proofs.LogSound.{read_log_again}
use Rattle.sat_text.proofs.write_log.write_lrat.Goals as goal

pub returns-clause-read_back : goal.returns-clause-read_back
returns-clause-read_back g c = read_log_again c.args.log.now.steps
