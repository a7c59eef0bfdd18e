-- `verify --all`: a line for each cause against the routed file.
use Rattle.std.specs.Prelude.{◌≡◌, ◌⊎◌, ℕ, ◌++◌, List, [], ◌∷◌, codes, decimal, flat_map, slice_get, true, Ok, Err, Result, Option}
use Rattle.std.specs.Option.{option_map_or}
use Rattle.fpga_route.specs.Forms.{kind_word}
use Rattle.fpga_route.specs.Value.{route_value}
use Rattle.fpga_types.specs.declared.route.Elem.{Elem}
use Rattle.fpga_types.specs.declared.route.Label.{Label}
use Rattle.fpga_types.specs.declared.route.Label.TheVariants.{Class, Pin, Pad, Track}
use Rattle.fpga_types.specs.declared.route.RouteNet.{RouteNet}
use Rattle.route_verify.specs.AllCauses.{AreAllCauses}
use Rattle.route_verify.specs.declared.line_cause.LineCause.{LineCause}
use Rattle.run_outcome.specs.Report.{IsShort}
use Rattle.run_checks.specs.Check.{VerifiesTo}
use Rattle.run_outcome.specs.Subject.{Bytes, FailsToSay, FileMap, FileFault, Poses, Says, ShelfState, Source, after_say, route_source, RoutingProblem, RouteText, VerifyAsked}
use Rattle.run_outcome.specs.declared.outcome.Outcome.{Outcome}
use Rattle.run_outcome.specs.declared.outcome.Outcome.TheVariants.{LegalRoute, NotLegal, WriteFault}
use Rattle.run_outcome.specs.declared.slot.Slot.TheVariants.{Said}

-- ---- what is said

-- what the number of an element counts
abbrev pub label_name : Label → Bytes
label_name Class = codes "class"
label_name Pin = codes "pin"
label_name Pad = codes "pad"
label_name Track = codes "track"

-- a place
abbrev pub place_words : (x y : ℕ) → Bytes
place_words x y = codes " (" ++ (decimal x ++ (codes "," ++ (decimal y ++ codes ") ")))

-- an element by its kind, its place and its number
abbrev pub elem_words : Elem → Bytes
elem_words e = codes " " ++ (kind_word e.kind ++ (place_words e.x e.y ++ (label_name e.label
    ++ (codes " " ++ decimal e.number))))

-- a net by its name
abbrev pub net_words : RouteNet → Bytes
net_words net = codes " net " ++ net.name

-- the net at this position
abbrev pub words_of_net : List RouteNet → (number : ℕ) → Bytes
words_of_net nets number = option_map_or net_words (slice_get nets number) []

-- the line of a cause: the number of the line that it is against, its own, and of a Net or element
-- line the net, and of an element line the element
abbrev pub cause_line : List RouteNet → LineCause → Bytes
cause_line nets at =
    codes "line " ++ (decimal at.line ++ (codes " cause " ++ (decimal at.cause
    ++ (option_map_or (words_of_net nets) at.net [] ++ (option_map_or elem_words at.elem []
    ++ codes "\n")))))

-- the lines of some causes, in their order
abbrev pub cause_lines : List RouteNet → List LineCause → Bytes
cause_lines nets causes = flat_map (cause_line nets) causes

-- ---- what it comes to

-- the file is not legal
abbrev pub IsIllegal : Outcome → Type 0
IsIllegal (NotLegal line cause) = Unit {0}
IsIllegal outcome = ⊥

-- the routed file was read, and these are all causes against it, of which there is one
pub record AreCausesOf (files : Option FileMap) (job : VerifyAsked) : Type 0 where
  pub all : job.all ≡ true
  pub p : RoutingProblem
  pub poses : Poses files job.files p
  pub found : RouteText
  pub reads : Says files (route_source job.routed) route_value found
  pub first : LineCause
  pub more : List LineCause
  pub are : AreAllCauses job.reach job.width p found (first ∷ more)

-- the lines of some causes were said; or memory ran out, or a front part of them was said, and the
-- run comes to that
abbrev pub HasSaidCauses : List RouteNet → List LineCause → (before now : ShelfState)
    → Result (Unit {0}) Outcome → Type 0
HasSaidCauses nets causes before now (Ok said) = now ≡ after_say before (cause_lines nets causes)
HasSaidCauses nets causes before now (Err stop) =
    IsShort before now stop
    ⊎ (FailsToSay before (cause_lines nets causes) now × (stop ≡ WriteFault Said))

-- the lines of causes were said, and the outcome is the first of them; or a front part of the lines
-- was, and the run has failed to write
abbrev pub SaysCauses : List RouteNet → (first : LineCause) → List LineCause
    → (before now : ShelfState) → Outcome → Type 0
SaysCauses nets first more before now outcome =
    ((now ≡ after_say before (cause_lines nets (first ∷ more)))
    × (outcome ≡ NotLegal first.line first.cause))
    ⊎ (FailsToSay before (cause_lines nets (first ∷ more)) now × (outcome ≡ WriteFault Said))

-- there is no cause, and nothing was said; or the lines of the causes were
abbrev pub TellsLines : List RouteNet → List LineCause → (before now : ShelfState) → Outcome
    → Type 0
TellsLines nets [] before now outcome = (outcome ≡ LegalRoute) × (now ≡ before)
TellsLines nets (first ∷ more) before now outcome = SaysCauses nets first more before now outcome

-- memory ran out, and nothing was said; or so it is of all causes against the file
abbrev pub TellsCauses : Option ℕ → (width : ℕ) → RoutingProblem → RouteText
    → (before now : ShelfState) → Outcome → Type 0
TellsCauses reach width p found before now outcome =
    IsShort before now outcome
    ⊎ ((causes : List LineCause) × AreAllCauses reach width p found causes
    × TellsLines found.nets causes before now outcome)

-- nothing was said: the work stopped at a file, or the outcome is how the routed file is judged,
-- which is legal where all causes are asked for; or there is a cause, and all their lines were said
abbrev pub LeavesVerified : (Source → FileFault → Type 0) → Option FileMap → VerifyAsked
    → (before now : ShelfState) → Outcome → Type 0
LeavesVerified stops files job before now outcome =
    (VerifiesTo stops files job outcome × (now ≡ before)
    × (job.all ≡ true → ¬ IsIllegal outcome))
    ⊎ ((told : AreCausesOf files job)
    × SaysCauses told.found.nets told.first told.more before now outcome)
