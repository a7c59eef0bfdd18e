-- Worked rows of netlist texts: the first fault of each, by computation.
use Rattle.std.proofs.Common.{◌≡◌, ℕ, List, ◌-◌, [], ◌∷◌, ◌++◌, Some, None, refl}
use Rattle.std.specs.Prelude.{codes, map, slice_set, Option}
use Rattle.fpga_text.specs.Bytes.{Bytes}
use Rattle.fpga_text.specs.FirstFault.{first_fault}
use Rattle.fpga_text.specs.declared.fault.TextFault.{TextFault}
use Rattle.fpga_text.specs.declared.fault.TextFault.TheVariants.{Bad}
use Rattle.fpga_net.specs.Codes.{net_faults}
use Rattle.fpga_net.proofs.RowTexts.{arch, junction_lines, text_of}

-- the fault of this code on this line
abbrev bad : ℕ → ℕ → Option TextFault
bad line code = Some (Bad line code)

-- each of these texts has the fault beside it first, or none
abbrev HaveFaults : List (Bytes × Option TextFault) → Type 0
HaveFaults rows =
    map (λ row. first_fault (net_faults arch row.0)) rows ≡ map (λ row. row.1) rows

-- the netlist with another line in this place
abbrev changed : ℕ → Bytes → Bytes
changed number line = text_of (slice_set junction_lines (number - 1) line)

-- the netlist with one more line at its end
abbrev added : Bytes → Bytes
added line = text_of (junction_lines ++ line ∷ [])

pub whole_rows : HaveFaults (([], None) ∷ (text_of junction_lines, None) ∷ [])
whole_rows = refl

pub line_form_rows : HaveFaults ((changed 1 (codes ".model m"), bad 1 201)
    ∷ (changed 11 (codes "subblok: ca"), bad 11 201)
    ∷ (added (codes "pinlist: a"), bad 14 201)
    ∷ (changed 12 (codes ".clb"), bad 12 201)
    ∷ (changed 12 (codes ".clb cb cc"), bad 12 201)
    ∷ (changed 12 (codes ".clb ca cc"), bad 12 201) ∷ [])
line_form_rows = refl

-- subblocks stand behind the pins of a logic block alone
pub subblock_rows : HaveFaults ((changed 8 (codes "pinlist: c\nsubblock: qc"), bad 9 201)
    ∷ (changed 10 (codes "pinlist: a open open open open open\n.global g"), bad 12 201)
    ∷ (changed 9 (codes ".clb ca\nsubblock: ca"), bad 10 201)
    ∷ (changed 11 (codes "subblock:\nsubblock: more"), None)
    ∷ (added (codes "subblock:"), None) ∷ [])
subblock_rows = refl

pub pin_count_rows : HaveFaults ((changed 13 (codes "pinlist: b open open open open"), bad 13 202)
    ∷ (changed 13 (codes "pinlist: b open open open open open open"), bad 13 202)
    ∷ (changed 8 (codes "pinlist: open"), bad 8 202)
    ∷ (changed 8 (codes "pinlist:"), bad 8 202)
    ∷ (changed 8 (codes "pinlist: c c"), bad 8 202) ∷ [])
pin_count_rows = refl

-- two blocks of any kinds may not have one name, but a block and a net may
pub same_name_rows : HaveFaults ((changed 12 (codes ".clb ca"), bad 12 203)
    ∷ (changed 7 (codes ".output pa"), bad 7 203)
    ∷ (changed 12 (codes ".clb a"), None) ∷ [])
same_name_rows = refl

-- a net has one driver, and a sink that is not on its driver's own block alone
pub driver_rows : HaveFaults ((changed 4 (codes "pinlist: a"), bad 4 204)
    ∷ (changed 13 (codes "pinlist: b open open open a open"), bad 13 204)
    ∷ (changed 13 (codes "pinlist: d open open open open open"), bad 14 204)
    ∷ (changed 13 (codes "pinlist: open open open open open open"), bad 14 205)
    ∷ (changed 13 (codes "pinlist: b open open open d open"), bad 14 205) ∷ [])
driver_rows = refl

pub shared_pin_rows : HaveFaults
    ((changed 13 (codes "pinlist: b open open open open b"), bad 13 206)
    ∷ (changed 13 (codes "pinlist: b b open open open open"), bad 13 207)
    ∷ (changed 13 (codes "pinlist: b b open open open b"), bad 13 206)
    ∷ (changed 13 (codes "pinlist: open open open open a a"), bad 13 204)
    ∷ (changed 13 (codes "pinlist: b b open open a open"), bad 13 204) ∷ [])
shared_pin_rows = refl

pub open_block_rows : HaveFaults ((codes ".input i\npinlist: n\n.clb x\n", bad 4 208)
    ∷ (codes ".input i\npinlist: n\n.clb x\n\n# end", bad 6 208)
    ∷ (changed 9 (codes ".clb cc\n.clb ca"), bad 10 208)
    ∷ (changed 9 (codes ".clb ca\n.global b"), bad 10 208)
    ∷ (changed 9 (codes ".clb cc\n.clb pa"), bad 10 203)
    ∷ (changed 13 (codes "pinlist: d open open open open open\n.clb x"), bad 15 208) ∷ [])
open_block_rows = refl

-- a line makes nets global that it names, on the lines before it too
pub global_rows : HaveFaults ((added (codes ".global"), None)
    ∷ (added (codes ".global unused"), None)
    ∷ (added (codes ".global a b c\n.clb x\npinlist: b b b open open b"), None)
    ∷ (changed 13 (codes "pinlist: b b open open d b\n.global b d"), None)
    ∷ (changed 13 (codes "pinlist: b open open open a open\n.global a"), None)
    ∷ (changed 13 (codes "pinlist: g open open open open open\n.global g\n.global b"), None) ∷ [])
global_rows = refl

pub joined_line_rows : HaveFaults
    ((changed 13 (codes "pinlist: b open \\ # three more\n open open\\\nopen\\\n open # end"), None)
    ∷ (changed 10 (codes "pinlist: a open open open \\\n open open\nx \\\n y"), bad 12 201) ∷ [])
joined_line_rows = refl
