-- The four texts that a seed gives.
use Rattle.std.specs.Prelude.{ℕ, ◌*◌, ◌<◌, ◌≤◌, ◌++◌, codes}
use Rattle.fpga_text.specs.Bytes.{Bytes}
use Rattle.fpga_types.specs.Texts.{Texts}
use Rattle.route_gen.specs.Netlists.{generated_netlist}
use Rattle.route_gen.specs.Placements.{generated_placement}
use Rattle.route_gen.specs.Routes.{generated_route}
use Rattle.route_gen.specs.declared.texts.GenStop.{GenStop}
use Rattle.route_gen.specs.declared.texts.GenStop.TheVariants.{Room, Memory}

-- a pad at each place of the border, four inputs and an output at the bottom of each block, subset
-- switch blocks, and boxes that open all tracks
abbrev pub generated_architecture : Bytes
generated_architecture =
    codes "io_rat 1\nchan_width_io 1\nchan_width_x uniform 1\nchan_width_y uniform 1\n"
    ++ codes "inpin class: 0 bottom\ninpin class: 0 bottom\n"
    ++ codes "inpin class: 0 bottom\ninpin class: 0 bottom\noutpin class: 1 bottom\n"
    ++ codes "switch_block_type subset\nFc_type fractional\nFc_output 1\nFc_input 1\nFc_pad 1\n"
    ++ codes "segment frequency: 1 length: 1 wire_switch: 0 opin_switch: 0 Frac_cb: 1 Frac_sb: 1\n"

-- the four texts of so many nets on an array of this side
abbrev pub generated : (seed side nets : ℕ) → Texts
generated seed side nets = record {
  architecture = generated_architecture;
  netlist = generated_netlist seed side nets;
  placement = generated_placement side;
  route = generated_route seed side nets;
}

-- there are more nets than blocks; or there are not, and memory ran out
abbrev pub IsGenStop : (side nets : ℕ) → GenStop → Type 0
IsGenStop side nets Room = side * side < nets
IsGenStop side nets Memory = nets ≤ side * side
