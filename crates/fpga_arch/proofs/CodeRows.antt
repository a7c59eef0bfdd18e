-- Worked rows of architecture texts: the first fault of each, by computation.
use Rattle.std.proofs.Common.{◌≡◌, ℕ, List, ◌-◌, [], ◌∷◌, ◌++◌, Some, None, refl}
use Rattle.std.specs.Prelude.{codes, map, replicate, take, drop, slice_set, Option}
use Rattle.fpga_text.specs.Bytes.{Bytes}
use Rattle.fpga_text.specs.FirstFault.{first_fault}
use Rattle.fpga_text.specs.declared.fault.TextFault.{TextFault}
use Rattle.fpga_text.specs.declared.fault.TextFault.TheVariants.{Bad, Limit}
use Rattle.fpga_arch.specs.Codes.{arch_faults}
use Rattle.fpga_arch.proofs.RowTexts.{arch_lines, text_of}

-- the first fault of a text
abbrev found : Bytes → Option TextFault
found text = first_fault (arch_faults text)

-- the fault of this code on this line
abbrev bad : ℕ → ℕ → Option TextFault
bad line code = Some (Bad line code)

-- the fault of this code for a count past its limit
abbrev past : ℕ → ℕ → Option TextFault
past code count = Some (Limit code count)

-- in each row the text that is made of the line has the fault beside it, or none
abbrev HaveFaults : (Bytes → Bytes) → List (Bytes × Option TextFault) → Type 0
HaveFaults text_with rows = map (λ row. found (text_with row.0)) rows ≡ map (λ row. row.1) rows

-- the architecture with another line in this place
abbrev changed : ℕ → Bytes → Bytes
changed number line = text_of (slice_set arch_lines (number - 1) line)

-- the architecture with one more line at its end
abbrev added : Bytes → Bytes
added line = text_of (arch_lines ++ line ∷ [])

-- the architecture without a line
abbrev without : ℕ → Bytes
without number = text_of (take (number - 1) arch_lines ++ drop number arch_lines)

-- the architecture with 64 pins, and this line at its end
abbrev many_pins : Bytes → Bytes
many_pins line = text_of (arch_lines ++ replicate 58 (codes "inpin class: 0 top") ++ line ∷ [])

pub whole_rows : HaveFaults (λ text. text) (([], bad 1 101)
    ∷ (text_of arch_lines, None)
    ∷ (without 13 ++ codes "T \\\n 1", bad 22 101) ∷ [])
whole_rows = refl

-- each line but that of a switch has to be there
pub missing_line_rows : map (λ number. found (without number))
    (1 ∷ 2 ∷ 3 ∷ 4 ∷ 9 ∷ 13 ∷ 14 ∷ 15 ∷ 16 ∷ 17 ∷ 18 ∷ 19 ∷ [])
    ≡ replicate 11 (bad 20 101) ++ None ∷ []
missing_line_rows = refl

pub pads_rows : HaveFaults (changed 1) ((codes "io_rat", bad 1 102)
    ∷ (codes "io_rat 0", bad 1 102)
    ∷ (codes "io_rat 00", bad 1 102)
    ∷ (codes "io_rat +2", bad 1 102)
    ∷ (codes "io_rat 18446744073709551616", bad 1 102)
    ∷ (codes "io_rat 2 io_rat 17 chan_width_io 5", None)
    ∷ (codes "io_rat 16 more", None)
    ∷ (codes "io_rat 17", past 109 17) ∷ [])
pads_rows = refl

pub pad_width_rows : HaveFaults (changed 2) ((codes "chan_width_io -1", bad 2 102) ∷ [])
pad_width_rows = refl

pub row_width_rows : HaveFaults (changed 3) ((codes "chan_width_x uniform", bad 3 102)
    ∷ (codes "chan_width_x gaussian 0.5 0.8 0.6 0.2", bad 3 105) ∷ [])
row_width_rows = refl

-- digits past the sixth decimal are cut off
pub column_width_rows : HaveFaults (changed 4) ((codes "chan_width_y", bad 4 105)
    ∷ (codes "chan_width_y uniform 1.5", bad 4 106)
    ∷ (codes "chan_width_y uniform 1.0000004", None) ∷ [])
column_width_rows = refl

pub class_word_rows : HaveFaults (changed 5) ((codes "inpin class: x top", bad 5 102)
    ∷ (codes "inpin class:", bad 5 102)
    ∷ (codes "inpin 0 top", bad 5 103) ∷ [])
class_word_rows = refl

pub side_rows : HaveFaults (changed 6) ((codes "inpin class: 0 global", bad 6 103)
    ∷ (codes "inpin class: 0 left below", bad 6 103)
    ∷ (codes "inpin class: 0 left global", bad 6 103)
    ∷ (codes "inpin class: 0 # left", bad 6 103)
    ∷ (codes "inpin class:\\\n 0 \\ # and\n left", None)
    ∷ (codes "inpin class: 0 \\ # left\n top", None) ∷ [])
side_rows = refl

-- an output of a class of inputs
pub mixed_class_rows : HaveFaults (changed 9) ((codes "outpin class: 00 bottom", bad 9 108) ∷ [])
mixed_class_rows = refl

pub class_limit_rows : HaveFaults (changed 10) ((codes "inpin class: 63 global top bottom", None)
    ∷ (codes "inpin class: 64 global top", past 109 64) ∷ [])
class_limit_rows = refl

pub pattern_rows : HaveFaults (changed 13) ((codes "switch_block_type", bad 13 107)
    ∷ (codes "switch_block_type Subset", bad 13 107) ∷ [])
pattern_rows = refl

pub share_type_rows : HaveFaults (changed 14) ((codes "Fc_type", bad 14 102)
    ∷ (codes "Fc_type half", bad 14 102)
    ∷ (codes "Fc_type absolute", None) ∷ [])
share_type_rows = refl

pub output_share_rows : HaveFaults (changed 15) ((codes "Fc_output .5", None)
    ∷ (codes "Fc_output 1000000000.0000009", None)
    ∷ (codes "Fc_output 1000000000.000001", bad 15 102)
    ∷ (codes "Fc_output 1000000001", bad 15 102) ∷ [])
output_share_rows = refl

pub input_share_rows : HaveFaults (changed 16) ((codes "Fc_input 5.", None)
    ∷ (codes "Fc_input .", bad 16 102)
    ∷ (codes "Fc_input 1.5.", bad 16 102) ∷ [])
input_share_rows = refl

pub pad_share_rows : HaveFaults (changed 17) ((codes "Fc_pad 0.1234567890123456", None)
    ∷ (codes "Fc_pad 0.123456789012345x", bad 17 102)
    ∷ (codes "Fc_pad 1e3", bad 17 102) ∷ [])
pad_share_rows = refl

pub segment_length_rows : HaveFaults (changed 18)
    ((codes "segment frequency: 1 length: 2 Frac_cb: 1.", bad 18 104)
    ∷ (codes "segment frequency: 1", bad 18 104)
    ∷ (codes "segment frequency: length: 1", bad 18 104)
    ∷ (codes "segment length: 1 length: 2", bad 18 104)
    ∷ (codes "segment length: 1 length:", bad 18 104)
    ∷ (codes "segment length: 01", None) ∷ [])
segment_length_rows = refl

-- boxes and switch blocks stand along the whole segment; a key that is a value is none
pub segment_share_rows : HaveFaults (changed 18)
    ((codes "segment length: 1 Frac_cb: 0.5", bad 18 111)
    ∷ (codes "segment length: 1 Frac_cb:", bad 18 111)
    ∷ (codes "segment length: 1 Frac_sb:", bad 18 111)
    ∷ (codes "segment wire_switch: Frac_cb: length: 1", None) ∷ [])
segment_share_rows = refl

pub repeated_line_rows : HaveFaults added ((codes "io_rat 2", bad 21 110)
    ∷ (codes "io_rat\\\n 2", bad 21 110)
    ∷ (codes "\\\nio_rat 2", bad 21 110)
    ∷ (codes "io_rat x", bad 21 102)
    ∷ (codes "io_rat 17", past 109 17)
    ∷ (codes "chan_width_io 2", bad 21 106)
    ∷ (codes "segment length: 1", None)
    ∷ (codes "segment length: 2", bad 21 104)
    ∷ (codes "#io_rat 2", None)
    ∷ (codes "io_\\", None) ∷ [])
repeated_line_rows = refl

pub pin_limit_rows : HaveFaults many_pins ((codes "T_ipad 1", None)
    ∷ (codes "inpin class: 0 top", past 109 65)
    ∷ (codes "inpin class: 99 top", past 109 65)
    ∷ (codes "outpin class: 0 top", bad 79 108) ∷ [])
pin_limit_rows = refl
