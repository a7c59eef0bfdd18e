use Rattle.route_judge.proofs.VerifiedFiles.{verified-within}
use Rattle.route_judge.proofs.laws.file_within_reach_is_judged_legal.Goals as goal

pub returns : goal.returns
returns c = λ width reach problem found fits legal.
    verified-within width problem fits found reach legal
