-- Worked rows of architecture texts: how they read, by computation.
use Rattle.std.proofs.Common.{◌≡◌, true, false, [], ◌∷◌, refl}
use Rattle.std.specs.Prelude.{Bool, codes, slice_set}
use Rattle.fpga_types.specs.declared.arch.Arch.{Arch}
use Rattle.fpga_types.specs.declared.arch.SideSet.{SideSet}
use Rattle.fpga_types.specs.declared.arch.Pattern.TheVariants.{Subset, Universal}
use Rattle.fpga_text.specs.Bytes.{Bytes}
use Rattle.fpga_text.specs.FirstFault.{IsFaultless}
use Rattle.fpga_arch.specs.Codes.{arch_faults}
use Rattle.fpga_arch.specs.Value.{arch_value}
use Rattle.fpga_arch.proofs.RowTexts.{arch_lines, text_of}

-- the sides, in the order left, right, bottom, top
abbrev sides : (left right bottom top : Bool) → SideSet
sides left right bottom top = record { left = left; right = right; bottom = bottom; top = top }

-- the value of the lines `arch_lines`
abbrev arch : Arch
arch = record {
  io_rat = 2;
  pins = record { class = 0; output = false; global = false; sides = sides false false true false }
      ∷ record { class = 0; output = false; global = false; sides = sides true false false false }
      ∷ record { class = 0; output = false; global = false; sides = sides false false false true }
      ∷ record { class = 0; output = false; global = false; sides = sides false true false false }
      ∷ record { class = 1; output = true; global = false; sides = sides false false true false }
      ∷ record { class = 2; output = false; global = true; sides = sides false false false true }
      ∷ [];
  pattern = Subset;
  fc = record { fractional = true; output = 1000000; input = 1000000; pad = 1000000 };
}

pub arch_reads : arch_value (text_of arch_lines) ≡ arch
arch_reads = refl

pub arch_is_faultless : IsFaultless (arch_faults (text_of arch_lines))
arch_is_faultless = refl

-- the lines joined to one by backslashes, with a comment, blanks and a line without words between
abbrev joined_pin : Bytes
joined_pin = text_of (slice_set arch_lines 9
    (codes "inpin \\ \t # six\n\\\nclass: 2\\\r\n global top#\\"))

pub joined_pin_reads : arch_value joined_pin ≡ arch
joined_pin_reads = refl

pub universal_reads : arch_value (text_of (slice_set
    (slice_set arch_lines 12 (codes "switch_block_type universal more")) 14
    (codes "Fc_output .25")))
    ≡ record arch {
      pattern = Universal;
      fc = record { fractional = true; output = 250000; input = 1000000; pad = 1000000 };
    }
universal_reads = refl

-- digits behind the sixth after the point are cut off
pub sixteen_decimals_read : arch_value (text_of (slice_set
    (slice_set arch_lines 15 (codes "Fc_input 5.")) 16 (codes "Fc_pad 0.1234567890123456")))
    ≡ record arch {
      fc = record { fractional = true; output = 1000000; input = 5000000; pad = 123456 };
    }
sixteen_decimals_read = refl
