-- What is true once the lines after the head were taken.
use Rattle.std.specs.Prelude.{◌≡◌, ◌+◌}
use Rattle.fpga_text.specs.Codes.{faults_from}
use Rattle.fpga_text.specs.FirstFault.{Faults, IsFaultless}
use Rattle.fpga_text.specs.Reading.{LinesAhead}
use Rattle.fpga_route.specs.Codes.{behind, later_forms, route_codes}
use Rattle.fpga_route.specs.Drafts.{Progress, standing_of, nets_begun, nets_with}
use Rattle.fpga_route.specs.Standings.{context_at}

-- the faults of the lines that come after these, and of the end
abbrev pub faults_ahead : Progress → LinesAhead → Faults
faults_ahead draft lines = faults_from behind route_codes (context_at (standing_of draft))
    (later_forms lines.ahead) (lines.total + 1)

-- the lines had no fault, all were taken, and the nets that were begun are theirs
pub record ReadsNets (lines : LinesAhead) (draft : Progress) (lines_after : LinesAhead)
    (draft_after : Progress) : Type 0 where
  pub clean : IsFaultless (faults_ahead draft lines)
  pub nets : nets_begun draft_after ≡ nets_with draft lines.ahead
  pub taken : lines_after.taken ≡ lines.total
