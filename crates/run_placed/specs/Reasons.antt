-- Why a placement needs more tracks than its cut asks for, as a run gives it back.
use Rattle.std.specs.Prelude.{◌≡◌, ◌⊎◌, ℕ, ◌-◌, ◌<◌, ⊤, List, Ok, Option, None, Some}
use Rattle.cell_bound.specs.Refutations.{IsRefuted}
use Rattle.cell_bound.specs.declared.refuting.CellRefutation.{CellRefutation}
use Rattle.fpga_types.specs.Problem.{PlacedNetlist}
use Rattle.fpga_types.specs.declared.netlist.Netlist.{Netlist}
use Rattle.run_placed.specs.Global.{HasFiles}
use Rattle.run_placed.specs.Least.{last_asked}
use Rattle.run_placed.specs.Raised.{least_names, narrowed_files}
use Rattle.run_outcome.specs.Written.{AreWritten}
use Rattle.run_outcome.specs.declared.ran.Reason.{Reason}
use Rattle.run_outcome.specs.Subject.{FileMap, LeastAsked, Narrows, RouteText, Word, job_of}
use Rattle.run_outcome.specs.declared.outcome.Outcome.{Outcome}
use Rattle.run_outcome.specs.declared.outcome.Outcome.TheVariants.{Narrowed, WriteFault}
use Rattle.run_outcome.specs.declared.slot.Slot.TheVariants.{Said}

-- the outcome tells of so many tracks, of which a cut asks for so many; or that was not said
abbrev pub TellsOf : (tracks width cut : ℕ) → Outcome → Type 0
TellsOf tracks width cut outcome =
    (outcome ≡ Narrowed tracks width cut) ⊎ (outcome ≡ WriteFault Said)

-- the outcome tells of more tracks than a cut asks for; the refutation is one with one track fewer
-- than these, and it was written behind a route, and no other file was
pub record HasRaised
    (job : LeastAsked) (placed : PlacedNetlist) (before now : Option FileMap) (outcome : Outcome)
    (found : CellRefutation) : Type 0 where
  pub tracks : ℕ
  pub width : ℕ
  pub cut : ℕ
  pub tells : TellsOf tracks width cut outcome
  pub more : cut < tracks
  pub refuted : IsRefuted placed (tracks - 1) found
  pub route : RouteText
  pub written : AreWritten (narrowed_files (least_names job.prefix) route tracks (Some found))
      before now

-- the outcome tells of no more tracks than its cut asks for
abbrev pub IsUnraised : Outcome → Type 0
IsUnraised (Narrowed tracks width cut) = tracks ≡ cut
IsUnraised outcome = ⊤

-- the refutation that is given back, if an outcome has one
abbrev pub given_why : Outcome → Option CellRefutation → Option CellRefutation
given_why (Narrowed tracks width cut) why = why
given_why outcome why = None

-- a refutation with the netlist
abbrev pub reason_by : Netlist → CellRefutation → Reason
reason_by netlist found = record { netlist = netlist; found = found }

-- the files pose a placed netlist, and the reason is such a refutation, with that netlist
pub record IsReasonOf
    (job : LeastAsked) (desk before now : Option FileMap) (outcome : Outcome) (reason : Reason)
    : Type 0 where
  pub placed : PlacedNetlist
  pub files : HasFiles desk (last_asked job) placed
  pub netlist_is : reason.netlist ≡ placed.netlist
  pub raised : HasRaised job placed before now outcome reason.found

-- the words ask how many tracks a placement needs, and the reason is of that
abbrev pub GivesReason : List Word → (desk before now : Option FileMap) → Outcome → Reason → Type 0
GivesReason words desk before now outcome reason = (job : LeastAsked)
    × (job_of words ≡ Ok (Narrows job)) × IsReasonOf job desk before now outcome reason

-- words that ask that have come to such an outcome
abbrev pub LacksReason : List Word → Outcome → Type 0
LacksReason words outcome =
    (job : LeastAsked) → job_of words ≡ Ok (Narrows job) → IsUnraised outcome
