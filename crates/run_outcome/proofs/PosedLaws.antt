-- Which runs give no problem back.
use Rattle.std.proofs.Common.{◌≡◌, List, None, Ok, inl, inr, refl, subst, sym}
use Rattle.fpga_problem.specs.declared.unread.FileFault.{FileFault}
use Rattle.fpga_problem.specs.declared.unread.FileFault.TheVariants.{Desk, Text, TooLong}
use Rattle.fpga_text.specs.declared.fault.TextFault.TheVariants.{Bad, Limit as PastLimit, Memory as NoMemory}
use Rattle.run_outcome.specs.Posed.{EndsWithoutProblem, LacksProblem, problem_files}
use Rattle.run_outcome.specs.Report.{unread_outcome, unsaid, Reports}
use Rattle.run_outcome.specs.Subject.{JobAsked, ShelfState, Word, job_of}
use Rattle.run_outcome.specs.declared.outcome.Outcome.{Outcome}
use Rattle.run_outcome.specs.declared.outcome.Outcome.TheVariants.{WriteFault}
use Rattle.run_outcome.specs.declared.text_file.TextFile.{TextFile}

-- a file that gives no value ends a run so
pub unread-ends : (file : TextFile) (fault : FileFault)
    → EndsWithoutProblem (unread_outcome file fault)
unread-ends file Desk = tt
unread-ends file TooLong = refl
unread-ends file (Text (Bad line code)) = tt
unread-ends file (Text (PastLimit code count)) = refl
unread-ends file (Text NoMemory) = tt

-- so does a report that was not said
unsaid-ends : (o : Outcome) → EndsWithoutProblem o → EndsWithoutProblem (unsaid o)
unsaid-ends (WriteFault slot) ends = ends
unsaid-ends o ends = tt

-- words that ask for no work on a problem lack none
pub lacks-none : (words : List Word) (asked : JobAsked) (o : Outcome) → job_of words ≡ Ok asked
    → problem_files asked ≡ None → LacksProblem words o
lacks-none words asked o is none job names said has = cc

-- the report changes nothing of it
pub reported-lacks : (words : List Word) (before : ShelfState) (o : Outcome) (now : ShelfState)
    (answer : Outcome) → Reports before o now answer → LacksProblem words o
    → LacksProblem words answer
reported-lacks words before o now answer (inl h) lacks =
    subst (LacksProblem words) (sym h.0) lacks
reported-lacks words before o now answer (inr h) lacks =
    λ job names said has. subst EndsWithoutProblem (sym h.0)
    (unsaid-ends o (lacks job names said has))
