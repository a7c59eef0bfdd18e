-- Worked rows of placement texts: the first fault of each, by computation.
use Rattle.std.proofs.Common.{◌≡◌, ℕ, List, ◌-◌, [], ◌∷◌, ◌++◌, Some, None, refl}
use Rattle.std.specs.Prelude.{codes, map, slice_set, Option}
use Rattle.fpga_text.specs.Bytes.{Bytes}
use Rattle.fpga_text.specs.FirstFault.{first_fault}
use Rattle.fpga_text.specs.declared.fault.TextFault.{TextFault}
use Rattle.fpga_text.specs.declared.fault.TextFault.TheVariants.{Bad, Limit}
use Rattle.fpga_place.specs.Codes.{place_faults}
use Rattle.fpga_place.proofs.RowTexts.{arch, netlist, junction_lines, text_of}

-- the fault of this code on this line
abbrev bad : ℕ → ℕ → Option TextFault
bad line code = Some (Bad line code)

-- the fault of this code for a count past its limit
abbrev past : ℕ → ℕ → Option TextFault
past code count = Some (Limit code count)

-- in each row the text that is made of the line has the fault beside it first, or none
abbrev HaveFaults : (Bytes → Bytes) → List (Bytes × Option TextFault) → Type 0
HaveFaults text_with rows =
    map (λ row. first_fault (place_faults arch netlist (text_with row.0))) rows
    ≡ map (λ row. row.1) rows

-- the placement with another line in this place
abbrev changed : ℕ → Bytes → Bytes
changed number line = text_of (slice_set junction_lines (number - 1) line)

-- the placement with one more line at its end
abbrev added : Bytes → Bytes
added line = text_of (junction_lines ++ line ∷ [])

pub whole_rows : HaveFaults (λ text. text) (([], bad 1 301)
    ∷ (codes "\n# Netlist\n", bad 3 301)
    ∷ (codes "Netlist file: f Architecture file: g", bad 2 301)
    ∷ (codes "Netlist file: f Architecture file: g\nArray size: 2 x 1 logic blocks.\n", bad 3 305)
    ∷ (text_of junction_lines, None) ∷ [])
whole_rows = refl

pub file_line_rows : HaveFaults (changed 1)
    ((codes "Netlist file: Architecture file: j.arch", bad 1 301)
    ∷ (codes "Netlist file: a Architecture file: b c", bad 1 301)
    ∷ (codes "Array size: 2 x 1 logic blocks", bad 1 301)
    ∷ (codes "Netlist file: Netlist Architecture file: file:", None) ∷ [])
file_line_rows = refl

pub array_line_rows : HaveFaults (changed 2) ((codes "Array size: 2 x 1 logic", bad 2 301)
    ∷ (codes "Array size: 2 x 1 logic #blocks", bad 2 301)
    ∷ (codes "Array size: 2 x 1 logic blocks.", None)
    ∷ (codes "Array size: 0 x 1 logic blocks", bad 2 302)
    ∷ (codes "Array size: 2 x one logic blocks", bad 2 302)
    ∷ (codes "Array size: 101 x 18446744073709551616 logic blocks", bad 2 302)
    ∷ (codes "Array size: 101 x 102 logic blocks", past 308 101)
    ∷ (codes "Array size: 100 x 4294967296 logic blocks", past 308 4294967296)
    ∷ (codes "Array size: 100 x 1 logic blocks", None)
    ∷ (codes "Array size: 2 x 100 logic blocks", None) ∷ [])
array_line_rows = refl

-- numbers are of 32 bits
pub block_number_rows : HaveFaults (changed 9) ((codes "ca 1 1 4294967296", bad 9 302)
    ∷ (codes "ca 1 1 4294967295", None) ∷ [])
block_number_rows = refl

pub block_name_rows : HaveFaults added ((codes "cc 1 1 0", bad 11 303)
    ∷ (codes "ca 1 1 0", bad 11 304)
    ∷ (codes "ca 9 9 0", bad 11 304)
    ∷ (codes "ca", bad 11 302) ∷ [])
block_name_rows = refl

-- pads stand around the array, but in no corner, and `io_rat` of them at a place
pub pad_rows : HaveFaults (changed 5) ((codes "pa", bad 5 302)
    ∷ (codes "pa 1 0", bad 5 302)
    ∷ (codes "pa -1 0 0", bad 5 302)
    ∷ (codes "p 1 0", bad 5 302)
    ∷ (codes "p 1 0 0", bad 5 303)
    ∷ (codes "pa 0 0 0", bad 5 306)
    ∷ (codes "pa 3 2 0", bad 5 306)
    ∷ (codes "pa 1 1 0", bad 5 306)
    ∷ (codes "pa 4 1 0", bad 5 306)
    ∷ (codes "pa 3 1 2", bad 5 306)
    ∷ (codes "pa 3 1 1", None)
    ∷ (codes "pa 0 1 0", None)
    ∷ (codes "pa 2 2 0", None) ∷ [])
pad_rows = refl

pub logic_rows : HaveFaults (changed 9) ((codes "ca 1 0 0", bad 9 306)
    ∷ (codes "ca 0 1 0", bad 9 306)
    ∷ (codes "ca 3 1 0", bad 9 306) ∷ [])
logic_rows = refl

pub shared_pad_rows : HaveFaults (changed 7) ((codes "pc 1 0 0", bad 7 307)
    ∷ (codes "pc 01 00 001 0 0", None) ∷ [])
shared_pad_rows = refl

-- the last line left out, on the spot of another block, or that of its spot's block again
pub last_line_rows : HaveFaults (changed 10) ((codes "#cb 2 1 0", bad 11 305)
    ∷ (codes "cb 1 1 7", bad 10 307)
    ∷ (codes "ca 1 1 0", bad 10 304) ∷ [])
last_line_rows = refl
