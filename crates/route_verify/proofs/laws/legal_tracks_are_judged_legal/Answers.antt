use Rattle.route_verify.proofs.JudgedTracks.{legal-tracks}
use Rattle.route_verify.proofs.LegalLines.{legal-judged}
use Rattle.route_verify.proofs.laws.legal_tracks_are_judged_legal.Goals as goal

pub returns : goal.returns
returns c = λ width problem tracks sound fits each. (
  legal-tracks problem width tracks each,
  legal-judged problem sound fits width tracks,
)
