-- The names of the files that a job writes, by slot.
use Rattle.std.specs.Prelude.{ℕ, ◌++◌, codes, Option, None, Some, option_map}
use Rattle.desk_io.specs.Files.{Bytes}
use Rattle.route_sweep.specs.Names.{numbered_prefix}
use Rattle.route_sweep.specs.declared.found.FileSlot.TheVariants.{Route, Clauses, Log}
use Rattle.run_outcome.specs.declared.slot.Slot.{Slot}
use Rattle.run_outcome.specs.declared.slot.Slot.TheVariants.{Said, File, Architecture, Netlist, Placement, GlobalRoute}
use Rattle.router_words.specs.Job.{JobAsked, Routes, Sweeps, Decodes, Encodes, Blames, Generates, Narrows, Negotiates, Tries}
use Rattle.router_words.specs.Word.{Word}

-- what a job begins the names of the files with that it writes: one set of them, or a climb, which
-- has files for each width
pub data Prefix : Type 0 where
  OfOne : Word → Prefix
  OfEach : Word → Prefix

abbrev pub prefix_given : JobAsked → Option Prefix
prefix_given (Routes job) = Some (OfOne job.search.prefix)
prefix_given (Blames job) = Some (OfOne job.prefix)
prefix_given (Encodes job) = Some (OfOne job.prefix)
prefix_given (Decodes job) = Some (OfOne job.prefix)
prefix_given (Negotiates job) = Some (OfOne job.prefix)
prefix_given (Narrows job) = Some (OfOne job.prefix)
prefix_given (Generates job) = Some (OfOne job.prefix)
prefix_given (Sweeps job) = Some (OfEach job.search.prefix)
prefix_given (Tries job) = Some (OfEach job.search.prefix)
prefix_given job = None

-- the name of a file that is written once, by its ending
abbrev pub plain_name : Prefix → (ending : Bytes) → Bytes
plain_name (OfOne prefix) ending = prefix ++ ending
plain_name (OfEach prefix) ending = prefix ++ ending

-- the name of a file that a climb writes at each width
abbrev pub width_name : Prefix → (width : ℕ) → (ending : Bytes) → Bytes
width_name (OfOne prefix) width ending = prefix ++ ending
width_name (OfEach prefix) width ending = numbered_prefix prefix width ++ ending

-- what is written in a slot, by its name
abbrev pub slot_name : Prefix → Slot → Bytes
slot_name prefix Said = codes "standard output"
slot_name prefix (File Route) = plain_name prefix (codes ".route")
slot_name prefix (File (Clauses width)) = width_name prefix width (codes ".cnf")
slot_name prefix (File (Log width)) = width_name prefix width (codes ".lrat")
slot_name prefix Architecture = plain_name prefix (codes ".arch")
slot_name prefix Netlist = plain_name prefix (codes ".net")
slot_name prefix Placement = plain_name prefix (codes ".place")
slot_name prefix GlobalRoute = plain_name prefix (codes ".route")

-- the name that a job gives the file of a slot, if it writes files
abbrev pub name_written : JobAsked → Slot → Option Bytes
name_written job slot = option_map (λ prefix. slot_name prefix slot) (prefix_given job)
