use Rattle.route_judge.proofs.VerifiedFiles.{verified}
use Rattle.route_judge.proofs.laws.verified_file_is_judged_legal.Goals as goal

pub returns : goal.returns
returns c = λ width problem found fits legal. verified width problem fits found legal
