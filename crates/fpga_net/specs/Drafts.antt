-- What was read of a netlist text so far.
use Rattle.std.specs.Prelude.{◌≡◌, ℕ, ◌+◌, ◌≤◌, All, fold, List, ◌++◌, length, map, Option, None, Some, false, option_map, option_to_list}
use Rattle.fpga_types.specs.declared.limits.TheConstants.{NET_LIMIT}
use Rattle.fpga_text.specs.Bytes.{Bytes}
use Rattle.fpga_text.specs.Codes.{line_fault, end_fault, faults_from}
use Rattle.fpga_text.specs.FirstFault.{Faults, first_fault}
use Rattle.fpga_text.specs.Reading.{LinesAhead}
use Rattle.fpga_text.specs.declared.fault.TextFault.{TextFault}
use Rattle.fpga_net.specs.declared.limits.TheConstants.{BLOCK_LIMIT}
use Rattle.fpga_net.specs.Codes.{BegunBlock, Context, behind, forms_of, is_global, listed, misses_pins, net_codes, numbered_forms, uses_before}
use Rattle.fpga_net.specs.Entries.{Entry, entries_of}
use Rattle.fpga_net.specs.Forms.{Form}
use Rattle.fpga_net.specs.Names.{AreApart}
use Rattle.fpga_net.specs.Uses.{HasPins, ListedBlock}

-- what stands before the next line, and the nets so far
pub record Progress : Type 0 where
  pub context : Context
  pub entries : List Entry

-- the names of the blocks whose pinlists were read, and of the one whose pinlist is due
abbrev pub names_taken : Context → List Bytes
names_taken context = map (λ (b : ListedBlock). b.name) context.blocks
    ++ option_to_list (option_map (λ (b : BegunBlock). b.name) context.begun)

-- the nets are those of the blocks, names differ, pinlists are whole, and no limit is passed
pub record IsKept (draft : Progress) : Type 0 where
  pub entries : draft.entries ≡ entries_of (is_global draft.context) (uses_before draft.context)
  pub net_count : length draft.entries ≤ NET_LIMIT
  pub block_count : length draft.context.names ≤ BLOCK_LIMIT
  pub names : draft.context.names ≡ names_taken draft.context
  pub apart : AreApart draft.context.names
  pub pins : All (HasPins draft.context.arch) draft.context.blocks

-- the block that was begun has these words as its whole pinlist
pub record ListsBlock (context : Context) (nets : List Bytes) (block : ListedBlock) : Type 0 where
  pub begun : BegunBlock
  pub was : context.begun ≡ Some begun
  pub whole : misses_pins context.arch nets begun ≡ false
  pub is : block ≡ listed nets begun

-- why a line of this form and number is refused here
abbrev pub form_fault : Context → ℕ → Form → Option TextFault
form_fault context number form =
    line_fault (net_codes context.arch context.globals) context number form

-- why the end, which has this number, is refused here
abbrev pub last_fault : Context → ℕ → Option TextFault
last_fault context number =
    end_fault (net_codes context.arch context.globals) context number

-- a line of this form without a fault was taken
pub record TakesForm (old new : Progress) (number : ℕ) (form : Form) : Type 0 where
  pub clean : form_fault old.context number form ≡ None
  pub after : new.context ≡ behind old.context form
  pub kept : IsKept new

-- the faults of the lines that come after these, and of the end
abbrev pub faults_ahead : Context → LinesAhead → Faults
faults_ahead context lines = faults_from behind (net_codes context.arch context.globals) context
    (numbered_forms lines.ahead) (lines.total + 1)

-- the lines had no fault, all were taken, and this is what they say
pub record ReadsLines (lines : LinesAhead) (draft : Progress) (lines_after : LinesAhead)
    (draft_after : Progress) : Type 0 where
  pub last : first_fault (faults_ahead draft.context lines)
      ≡ last_fault draft_after.context (lines.total + 1)
  pub context : draft_after.context ≡ fold behind draft.context (forms_of lines.ahead)
  pub kept : IsKept draft_after
  pub taken : lines_after.taken ≡ lines.total
