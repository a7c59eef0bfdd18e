-- Searches that were stopped before their budgets were spent: of which outcomes this is not so, and
-- what of a search it comes from.
use Rattle.std.proofs.Common.{◌≡◌, ◌∙◌, ◌<◌, ℕ, Bool, true, false, List, Ok, Err, Result, refl, sym, ap, subst, inl, inr, arith}
use Rattle.fpga_problem.specs.declared.unread.FileFault.{FileFault}
use Rattle.fpga_problem.specs.declared.unread.FileFault.TheVariants.{Desk, Text, TooLong}
use Rattle.fpga_text.specs.declared.fault.TextFault.TheVariants.{Bad, Limit as PastLimit, Memory as NoMemory}
use Rattle.route_sweep.specs.Climb.{ClimbsShort}
use Rattle.route_sweep.specs.Found.{FindsShort}
use Rattle.route_sweep.specs.declared.found.Climbed.{Climbed}
use Rattle.route_sweep.specs.declared.found.Climbed.TheVariants.{Routed as IsLeast, Unroutable as HasNone, Undecided as IsOpen}
use Rattle.route_sweep.specs.declared.found.Found.{Found}
use Rattle.route_sweep.specs.declared.found.Found.TheVariants.{Routed as IsRouted, Refuted, Spent}
use Rattle.route_sweep.specs.declared.found.Stop.{Stop}
use Rattle.route_sweep.specs.declared.found.Stop.TheVariants.{Fault, TooManyClauses, TooManyHeld, Memory}
use Rattle.router_words.specs.declared.fault.Refusal.{Refusal}
use Rattle.run_outcome.specs.Report.{climbed_outcome, found_outcome, stop_outcome, unread_outcome, unsaid, Reports}
use Rattle.run_outcome.specs.Stopped.{AreRoundsStopped, EndsEarly, IsStoppedJob, WasStopped, budget_asked}
use Rattle.run_outcome.specs.Subject.{JobAsked, Narrows, Negotiates, ShelfState, Word, job_of}
use Rattle.run_outcome.specs.declared.outcome.Outcome.{Outcome}
use Rattle.run_outcome.specs.declared.outcome.Outcome.TheVariants.{Undecided, Unfound, WriteFault}
use Rattle.run_outcome.specs.declared.text_file.TextFile.{TextFile}

-- the outcome says that a search was left open
abbrev is_open : Outcome → Bool
is_open (Undecided width learned) = true
is_open (Unfound width rounds stopped) = true
is_open outcome = false

-- another one does not say that it was stopped
pub not-open : (budget : ℕ) (o : Outcome) → is_open o ≡ false → EndsEarly budget o → ⊥
not-open budget o closed early = let opened = ap is_open early.is in cc

-- nor that its rounds were
unstopped : (o : Outcome) → is_open o ≡ false → AreRoundsStopped o → ⊥
unstopped (Unfound width rounds stopped) closed stop = cc
unstopped o closed stop = stop

-- nor does one of those
pub is-unstopped : (o other : Outcome) → o ≡ other → is_open other ≡ false → AreRoundsStopped o → ⊥
is-unstopped o other is closed = unstopped o (ap is_open is ∙ closed)

stop-closed : (stop : Stop) → is_open (stop_outcome stop) ≡ false
stop-closed (Fault slot) = refl
stop-closed (TooManyClauses count) = refl
stop-closed (TooManyHeld count) = refl
stop-closed Memory = refl

unread-closed : (file : TextFile) (fault : FileFault) → is_open (unread_outcome file fault) ≡ false
unread-closed file Desk = refl
unread-closed file TooLong = refl
unread-closed file (Text (Bad line code)) = refl
unread-closed file (Text (PastLimit code count)) = refl
unread-closed file (Text NoMemory) = refl

unsaid-closed : (o : Outcome) → is_open (unsaid o) ≡ false
unsaid-closed (WriteFault slot) = refl
unsaid-closed o = refl

-- files that give no problem
pub unread-not-early : (budget : ℕ) (file : TextFile) (fault : FileFault) (o : Outcome)
    → o ≡ unread_outcome file fault → EndsEarly budget o → ⊥
unread-not-early budget file fault o is =
    not-open budget o (ap is_open is ∙ unread-closed file fault)

-- the width was left open
pub found-early : (budget width : ℕ) (came : Result Found Stop) (o : Outcome)
    → o ≡ found_outcome width came → EndsEarly budget o → FindsShort budget came
found-early budget width came o is early = go came (subst (EndsEarly budget) is early)
  where
    go : (came : Result Found Stop) → EndsEarly budget (found_outcome width came)
        → FindsShort budget came
    go (Ok IsRouted) early = absurd (not-open budget (found_outcome width (Ok IsRouted)) refl early)
    go (Ok (Refuted lead)) early =
        absurd (not-open budget (found_outcome width (Ok (Refuted lead))) refl early)
    go (Ok (Spent learned)) early =
        let same : learned ≡ early.learned = (let is = early.is in cc) in
        subst (λ (n : ℕ). n < budget) (sym same) early.fewer
    go (Err stop) early = absurd (not-open budget (stop_outcome stop) (stop-closed stop) early)

-- so was one of those that were climbed
pub climbed-early : (budget : ℕ) (came : Result Climbed Stop) (o : Outcome)
    → o ≡ climbed_outcome came → EndsEarly budget o → ClimbsShort budget came
climbed-early budget came o is early = go came (subst (EndsEarly budget) is early)
  where
    go : (came : Result Climbed Stop) → EndsEarly budget (climbed_outcome came)
        → ClimbsShort budget came
    go (Ok (IsLeast width)) early =
        absurd (not-open budget (climbed_outcome (Ok (IsLeast width))) refl early)
    go (Ok (HasNone width)) early =
        absurd (not-open budget (climbed_outcome (Ok (HasNone width))) refl early)
    go (Ok (IsOpen width learned)) early =
        let same : learned ≡ early.learned = (let is = early.is in cc) in
        subst (λ (n : ℕ). n < budget) (sym same) early.fewer
    go (Err stop) early = absurd (not-open budget (stop_outcome stop) (stop-closed stop) early)

-- an outcome that says that no search was left open says of no job that its search was stopped
job-open : (job : JobAsked) (o : Outcome) → is_open o ≡ false → IsStoppedJob job o → ⊥
job-open (Negotiates job) o closed stopped = unstopped o closed stopped
job-open (Narrows job) o closed stopped = unstopped o closed stopped
job-open job o closed early = not-open (budget_asked job) o closed early

-- the search of their job was stopped
pub stopped-there : (words : List Word) (o : Outcome) (job : JobAsked) → job_of words ≡ Ok job
    → WasStopped words o → IsStoppedJob job o
stopped-there words o job asked stopped =
    let other = stopped.asked in
    let same : stopped.job ≡ job = cc in
    subst (λ (j : JobAsked). IsStoppedJob j o) same stopped.early

-- a job without a search was not stopped
pub none-early : (o : Outcome) → EndsEarly 0 o → ⊥
none-early o early = omega (arith, early.fewer)

-- nor were words that are not taken
pub refused-stopped : (words : List Word) (o : Outcome) (cause : Refusal)
    → job_of words ≡ Err cause → WasStopped words o → ⊥
refused-stopped words o cause refused stopped = let asked = stopped.asked in cc

-- the report makes no search a stopped one
pub reported-stopped : (words : List Word) (before : ShelfState) (o : Outcome) (now : ShelfState)
    (answer : Outcome) → Reports before o now answer → WasStopped words answer
    → WasStopped words o
reported-stopped words before o now answer (inl h) stopped = subst (WasStopped words) h.0 stopped
reported-stopped words before o now answer (inr h) stopped =
    absurd (job-open stopped.job answer (ap is_open h.0 ∙ unsaid-closed o) stopped.early)
