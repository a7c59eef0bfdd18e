-- What holds of each outcome that keeps a run from its work, and which of them come again.
use Rattle.std.proofs.Common.{◌≡◌, ◌∙◌, ◌⊎◌, ℕ, Option, Some, sym, ap, subst, inl, inr}
use Rattle.desk_io.specs.Files.{HasRisen}
use Rattle.fpga_problem.specs.Sources.{IsDeskFault, Reads, Stops}
use Rattle.fpga_problem.specs.declared.unread.FileFault.TheVariants.{Desk, Text, TooLong}
use Rattle.fpga_problem.specs.declared.unread.Unread.{Unread}
use Rattle.fpga_text.specs.declared.fault.TextFault.TheVariants.{Bad, Limit as PastLimit, Memory as NoMemory}
use Rattle.run_outcome.specs.Report.{GivesNone, unread_outcome, IsReadFault}
use Rattle.run_outcome.specs.Subject.{DeskState, Bytes, FileMap, FileNames, Poses, IsHalted, IsStopped, ReadsThen, Says, Source, FileFault, RoutingProblem}
use Rattle.run_outcome.specs.declared.outcome.Outcome.{Outcome}
use Rattle.run_outcome.specs.declared.outcome.Outcome.TheVariants.{InputFault, Limit, ReadFault, OutOfMemory}
use Rattle.run_outcome.specs.declared.text_file.TextFile.{TextFile}
use Rattle.run_outcome.specs.declared.text_file.TextFile.TheVariants.{Problem}
use Rattle.fpga_problem.proofs.FileLemmas as four

-- this holds of want of memory, of faults of the desk, of faults of texts and of limits
pub record HoldsOfStops (Q : Outcome → Type 0) : Type 0 where
  pub memory : Q OutOfMemory
  pub read : (file : TextFile) → Q (ReadFault file)
  pub input : (file : TextFile) (line code : ℕ) → Q (InputFault file line code)
  pub limit : (file : Option TextFile) (code count : ℕ) → Q (Limit file code count)

module _ (Q : Outcome → Type 0) (each : HoldsOfStops Q) where
  pub unread-holds : (file : TextFile) (fault : FileFault) → Q (unread_outcome file fault)
  unread-holds file Desk = each.read file
  unread-holds file TooLong = each.limit _ _ _
  unread-holds file (Text (Bad line code)) = each.input file line code
  unread-holds file (Text (PastLimit code count)) = each.limit (Some file) code count
  unread-holds file (Text NoMemory) = each.memory

  module _ (stops : Source → FileFault → Type 0) (files : Option FileMap) where
    pub reads-hold : {T : Type 0} {source : Source} (file : TextFile) {value : Bytes → T}
        {rest : T → Outcome → Type 0} {o : Outcome}
        → ReadsThen stops files source (unread_outcome file) value rest o
        → ((said : T) → Says files source value said → rest said o → Q o) → Q o
    reads-hold file (Stops h) on = subst Q (sym h.tells) (unread-holds file h.fault)
    reads-hold file (Reads said says h) on = on said says h

    pub lacks-hold : (names : FileNames) (o : Outcome) → GivesNone stops files names o → Q o
    lacks-hold names o h = subst Q (sym h.2) (unread-holds (Problem h.0.file) h.0.fault)

-- ---- four files

abbrev stop_of : Unread → Outcome
stop_of unread = unread_outcome (Problem unread.file) unread.fault

module _ (files : FileMap) (names : FileNames) where
  -- four files are kept from a problem in one way
  pub one-lack : (a b : Outcome) → GivesNone (IsHalted (Some files)) (Some files) names a →
      GivesNone (IsHalted (Some files)) (Some files) names b → a ≡ b
  one-lack a b h g =
      h.2 ∙ ap stop_of (four.one-lack files names h.0 g.0 h.1 g.1) ∙ sym g.2

  -- four files that pose a problem are not kept from it
  pub lack-poses : (p : RoutingProblem) (a : Outcome) →
      GivesNone (IsHalted (Some files)) (Some files) names a → Poses (Some files) names p → ⊥
  lack-poses p a h = four.lack-poses files names p h.0 h.1

-- memory ran out
abbrev pub IsSpent : Outcome → Type 0
IsSpent outcome = outcome ≡ OutOfMemory

-- where the desk has not failed, four files that give no problem are kept from it by what they hold
pub calm-lack : (desk now : DeskState) (names : FileNames) (a : Outcome) →
    ¬ HasRisen desk.faults now.faults → GivesNone (IsStopped desk now) desk.files names a →
    GivesNone (IsHalted desk.files) desk.files names a ⊎ IsSpent a
calm-lack desk now names a calm h = elim (four.calm-lack desk now names h.0 calm h.1) [
  | inl halt ↦ inl (h.0, halt, h.2)
  | inr spent ↦ inr (h.2 ∙ ap (unread_outcome (Problem h.0.file)) spent)
]

-- a fault of the desk is told as one
pub desk-fault : (file : TextFile) (fault : FileFault) (o : Outcome) →
    o ≡ unread_outcome file fault → IsDeskFault fault → IsReadFault o
desk-fault file Desk o is h = subst IsReadFault (sym is) tt
desk-fault file TooLong o is h = absurd h
desk-fault file (Text fault) o is h = absurd h
