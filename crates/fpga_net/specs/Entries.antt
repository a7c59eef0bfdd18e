-- The nets of pinlists as a reader gathers them, pin by pin.
use Rattle.std.specs.Prelude.{◌≡◌, ℕ, ◌+◌, ◌≤◌, nat_lt, length, Bool, false, not, ◌&&◌, List, [], ◌∷◌, ◌++◌, map, bytes_eq, Option, None, Some, is_none, is_some, option_and_then, slice_get, if◌then◌else◌}
use Rattle.std.specs.List.{list_any}
use Rattle.std.specs.Option.{option_map_or, option_or}
use Rattle.fpga_types.specs.declared.netlist.Net.{Net}
use Rattle.fpga_types.specs.declared.netlist.PinRef.{PinRef}
use Rattle.fpga_text.specs.Bytes.{Bytes, is_empty}
use Rattle.fpga_text.specs.Said.{has_text}
use Rattle.fpga_text.specs.FirstFault.{IsFaultOf}
use Rattle.fpga_text.specs.declared.fault.TextFault.{TextFault}
use Rattle.fpga_text.specs.declared.fault.TextFault.TheVariants.{Bad, Limit}
use Rattle.fpga_types.specs.declared.limits.TheConstants.{NET_LIMIT}
use Rattle.fpga_net.specs.declared.cause.Cause.TheVariants.{Drivers, GlobalPin, SharedClass, PastLimit}
use Rattle.fpga_net.specs.Causes.{code_of}
use Rattle.fpga_net.specs.Codes.{drives_again, has_pair, is_driven_twice, net_count, share_class, takes_ordinary}
use Rattle.fpga_net.specs.Names.{number_of}
use Rattle.fpga_net.specs.Uses.{Use, nets_of}
use Rattle.fpga_net.specs.Value.{net_of}

-- a net, and whether two pins drive it
pub record Entry : Type 0 where
  pub net : Net
  pub driven_twice : Bool

-- the entry of a net on these pins
abbrev pub entry_of : (Bytes → Bool) → List Use → Bytes → Entry
entry_of is_global uses name =
    record { net = net_of is_global uses name; driven_twice = is_driven_twice uses name }

-- the entries of all nets on these pins
abbrev pub entries_of : (Bytes → Bool) → List Use → List Entry
entries_of is_global uses = map (entry_of is_global uses) (nets_of uses)

-- the names of the nets
abbrev pub names_in : List Entry → List Bytes
names_in entries = map (λ (e : Entry). e.net.name) entries

-- a net on no pin
abbrev pub no_pins : Bool → Bytes → Entry
no_pins global name = record {
  net = record { name = name; global = global; driver = None; sinks = [] };
  driven_twice = false;
}

-- the net with one more driver
abbrev pub with_driver : PinRef → Entry → Entry
with_driver at e = record {
  net = record e.net { driver = option_or e.net.driver (Some at) };
  driven_twice = is_some e.net.driver;
}

-- the net with one more sink
abbrev pub with_sink : PinRef → Entry → Entry
with_sink at e = record e { net = record e.net { sinks = e.net.sinks ++ at ∷ [] } }

-- the net with one more pin
abbrev pub with_use : Use → Entry → Entry
with_use u e = if u.pin.output then with_driver u.at e else with_sink u.at e

-- the entries, with one of a net of this name
abbrev pub entries_having : (Bytes → Bool) → List Entry → Bytes → List Entry
entries_having is_global entries name =
    if has_text (names_in entries) name then entries
    else entries ++ no_pins (is_global name) name ∷ []

-- the entries, where that of the net with this name is changed
abbrev pub changed_at : Bytes → (Entry → Entry) → List Entry → List Entry
changed_at name change [] = []
changed_at name change (e ∷ more) =
    if bytes_eq e.net.name name then change e ∷ more else e ∷ changed_at name change more

-- the entries with one more pin
abbrev pub entries_with : (Bytes → Bool) → List Entry → Use → List Entry
entries_with is_global entries u =
    changed_at u.net (with_use u) (entries_having is_global entries u.net)

-- the net with this name is there, and two pins drive it
abbrev pub is_twice_driven : List Entry → Bytes → Bool
is_twice_driven entries name = option_map_or (λ (e : Entry). e.driven_twice)
    (option_and_then (λ k. slice_get entries k) (number_of (names_in entries) name)) false

-- one of these pins drives its net, which is ordinary and has two drivers
abbrev pub drive_again : (Bytes → Bool) → List Entry → List Use → Bool
drive_again is_global entries uses = list_any
    (λ u. u.pin.output && is_twice_driven entries u.net && not (is_global u.net)) uses

-- the net is ordinary and has no driver
abbrev pub lacks_driver : Entry → Bool
lacks_driver e = not e.net.global && is_none e.net.driver

-- the net is ordinary and has no sink
abbrev pub lacks_sink : Entry → Bool
lacks_sink e = not e.net.global && is_empty e.net.sinks

-- the nets
abbrev pub nets_in : List Entry → List Net
nets_in entries = map (λ (e : Entry). e.net) entries

-- where the old entries are those of some pins, the new ones are those of these pins too
abbrev pub TakesUses : (Bytes → Bool) → (old new : List Entry) → List Use → Type 0
TakesUses is_global old new uses = (before : List Use) → old ≡ entries_of is_global before
    → new ≡ entries_of is_global (before ++ uses)

-- why a pinlist that puts nets on these pins is refused at this line, where these stand before
abbrev pub uses_fault : (Bytes → Bool) → (before own : List Use) → ℕ → Option TextFault
uses_fault is_global before own line =
    if drives_again is_global (before ++ own) own then Some (Bad line (code_of Drivers))
    else if takes_ordinary is_global own then Some (Bad line (code_of GlobalPin))
    else if has_pair (share_class is_global) own then Some (Bad line (code_of SharedClass))
    else if nat_lt NET_LIMIT (net_count (before ++ own))
    then Some (Limit (code_of PastLimit) (NET_LIMIT + 1)) else None

-- the pins of a pinlist without a fault were added to the nets of any pins
pub record Connects (is_global : Bytes → Bool) (old new : List Entry) (own : List Use) (line : ℕ)
    : Type 0 where
  pub adds : TakesUses is_global old new own
  pub clean : (before : List Use) → old ≡ entries_of is_global before
      → uses_fault is_global before own line ≡ None
  pub within : length new ≤ NET_LIMIT

-- whatever pins the nets stand on, the pinlist is refused for this
abbrev pub IsRefusedUses : (Bytes → Bool) → (old : List Entry) → (own : List Use) → ℕ → TextFault
    → Type 0
IsRefusedUses is_global old own line fault = (before : List Use)
    → old ≡ entries_of is_global before
    → IsFaultOf (uses_fault is_global before own line) fault
