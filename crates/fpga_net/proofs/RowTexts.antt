-- Netlist texts for the worked rows, and the architecture that they go with.
use Rattle.std.specs.Prelude.{ℕ, Bool, true, false, List, [], ◌∷◌, ◌++◌, codes, flat_map}
use Rattle.fpga_types.specs.declared.arch.Arch.{Arch}
use Rattle.fpga_types.specs.declared.arch.PinSpec.{PinSpec}
use Rattle.fpga_types.specs.declared.arch.Pattern.TheVariants.{Subset}
use Rattle.fpga_text.specs.Bytes.{Bytes}

-- the text with these lines
abbrev pub text_of : List Bytes → Bytes
text_of lines = flat_map (λ line. line ++ codes "\n") lines

-- a pin of this class; its sides are of no account here
abbrev pin : ℕ → Bool → Bool → PinSpec
pin class output global = record {
  class = class;
  output = output;
  global = global;
  sides =
      record { left = false; right = false; bottom = true; top = false };
}

-- four inputs of one class, an output and an input for global nets
abbrev pub arch : Arch
arch = record {
  io_rat = 2;
  pins = pin 0 false false ∷ pin 0 false false ∷ pin 0 false false ∷ pin 0 false false
      ∷ pin 1 true false ∷ pin 2 false true ∷ [];
  pattern = Subset;
  fc = record { fractional = true; output = 1000000; input = 1000000; pad = 1000000 };
}

-- three nets, two of them to a logic block and one to a pad
abbrev pub junction_lines : List Bytes
junction_lines = codes ".input pa"
    ∷ codes "pinlist: a"
    ∷ codes ".input pb"
    ∷ codes "pinlist: b"
    ∷ codes ".input pc"
    ∷ codes "pinlist: c"
    ∷ codes ".output qc"
    ∷ codes "pinlist: c"
    ∷ codes ".clb ca"
    ∷ codes "pinlist: a open open open open open"
    ∷ codes "subblock: ca 0 open open open open open"
    ∷ codes ".clb cb"
    ∷ codes "pinlist: b open open open open open" ∷ []
