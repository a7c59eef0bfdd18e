-- Architecture texts for the worked rows.
use Rattle.std.specs.Prelude.{List, [], ◌∷◌, ◌++◌, codes, flat_map}
use Rattle.fpga_text.specs.Bytes.{Bytes}

-- the text with these lines
abbrev pub text_of : List Bytes → Bytes
text_of lines = flat_map (λ line. line ++ codes "\n") lines

-- two pads at a place, six pins, subset switch blocks and full connection boxes
abbrev pub arch_lines : List Bytes
arch_lines = codes "io_rat 2"
    ∷ codes "chan_width_io 1"
    ∷ codes "chan_width_x uniform 1"
    ∷ codes "chan_width_y uniform 1"
    ∷ codes "inpin class: 0 bottom"
    ∷ codes "inpin class: 0 left"
    ∷ codes "inpin class: 0 top"
    ∷ codes "inpin class: 0 right"
    ∷ codes "outpin class: 1 bottom"
    ∷ codes "inpin class: 2 global top"
    ∷ codes "subblocks_per_clb 1"
    ∷ codes "subblock_lut_size 4"
    ∷ codes "switch_block_type subset"
    ∷ codes "Fc_type fractional"
    ∷ codes "Fc_output 1"
    ∷ codes "Fc_input 1"
    ∷ codes "Fc_pad 1"
    ∷ (codes "segment frequency: 1 length: 1 wire_switch: 0 opin_switch: 0 "
    ++ codes "Frac_cb: 1. Frac_sb: 1. Rmetal: 4.16 Cmetal: 81e-15")
    ∷ codes "switch 0 buffered: yes R: 786.9 Cin: 7.512e-15 Cout: 10.762e-15 Tdel: 456e-12"
    ∷ codes "T_ipad 478e-12" ∷ []
