-- What stands at the end of a netlist, by the entries of its nets.
use Rattle.std.proofs.Common.{◌≡◌, ℕ, Bool, List, [], ◌∷◌, refl, sym, ap, ◌∙◌}
use Rattle.std.specs.Prelude.{not, ◌&&◌, ◌||◌, map, Option, Some, None, is_none, option_map, slice_get, if◌then◌else◌}
use Rattle.std.specs.List.{list_any}
use Rattle.fpga_text.specs.Bytes.{Bytes, is_empty}
use Rattle.fpga_text.specs.declared.fault.TextFault.{TextFault}
use Rattle.fpga_text.specs.declared.fault.TextFault.TheVariants.{Bad}
use Rattle.fpga_net.specs.declared.cause.Cause.TheVariants.{Drivers, NoSink, NoPinlist}
use Rattle.fpga_net.specs.Causes.{code_of}
use Rattle.fpga_net.specs.Codes.{ends_open, is_global, is_ordinary, uses_before}
use Rattle.fpga_net.specs.Drafts.{IsKept, Progress, last_fault}
use Rattle.fpga_net.specs.Entries.{entry_of, lacks_driver, lacks_sink, names_in, nets_in}
use Rattle.fpga_net.specs.Uses.{Use, drivers, nets_of, on_net, sinks}
use Rattle.fpga_net.specs.Value.{block_of, net_of, netlist_before}
use Rattle.fpga_net.proofs.EntryLemmas.{names_in-entries}

module _ (global : Bytes → Bool) (uses : List Use) where
  driverless : (names : List Bytes) → list_any lacks_driver (map (entry_of global uses) names)
      ≡ list_any (λ net. is_ordinary global net && is_empty (on_net net (drivers uses))) names
  driverless [] = refl
  driverless (name ∷ more) = λ i. not (global name) && none (on_net name (drivers uses)) i
      || driverless more i
    where
      none : (us : List Use)
          → is_none (option_map (λ (u : Use). u.at) (slice_get us 0)) ≡ is_empty us
      none [] = refl
      none (u ∷ us) = refl

  sinkless : (names : List Bytes) → list_any lacks_sink (map (entry_of global uses) names)
      ≡ list_any (λ net. is_ordinary global net && is_empty (on_net net (sinks uses))) names
  sinkless [] = refl
  sinkless (name ∷ more) = λ i. not (global name) && none (on_net name (sinks uses)) i
      || sinkless more i
    where
      none : (us : List Use) → is_empty (map (λ (u : Use). u.at) us) ≡ is_empty us
      none [] = refl
      none (u ∷ us) = refl

  -- the nets of the entries
  nets_in-entries : (names : List Bytes) → nets_in (map (entry_of global uses) names)
      ≡ map (net_of global uses) names
  nets_in-entries [] = refl
  nets_in-entries (name ∷ more) = ap (λ ns. net_of global uses name ∷ ns) (nets_in-entries more)

-- why the end is refused, by its tests
abbrev pub end_refused : (begun undriven unended : Bool) → ℕ → Option TextFault
end_refused begun undriven unended number =
    if not begun && undriven then Some (Bad number (code_of Drivers))
    else if not begun && unended then Some (Bad number (code_of NoSink))
    else if begun then Some (Bad number (code_of NoPinlist)) else None

-- as the entries answer them
pub last_fault-entries : (draft : Progress) (number : ℕ) → IsKept draft
    → last_fault draft.context number
    ≡ end_refused (ends_open draft.context) (list_any lacks_driver draft.entries)
    (list_any lacks_sink draft.entries) number
last_fault-entries draft number kept = λ i. end_refused (ends_open draft.context)
    (sym (ap (list_any lacks_driver) kept.entries
    ∙ driverless (is_global draft.context) (uses_before draft.context)
    (nets_of (uses_before draft.context))) i)
    (sym (ap (list_any lacks_sink) kept.entries
    ∙ sinkless (is_global draft.context) (uses_before draft.context)
    (nets_of (uses_before draft.context))) i)
    number

-- what is finished is the netlist
pub finished : (draft : Progress) → IsKept draft
    → record {
      nets = nets_in draft.entries;
      blocks = map (block_of (names_in draft.entries)) draft.context.blocks;
    } ≡ netlist_before draft.context
finished draft kept = λ i. record {
  nets = (ap nets_in kept.entries ∙ nets_in-entries (is_global draft.context)
      (uses_before draft.context) (nets_of (uses_before draft.context))) i;
  blocks = map (block_of ((ap names_in kept.entries ∙ names_in-entries (is_global draft.context)
      (uses_before draft.context) (nets_of (uses_before draft.context))) i)) draft.context.blocks;
}
