-- Worked rows of netlist texts: how they read, by computation.
use Rattle.std.proofs.Common.{◌≡◌, ℕ, true, false, [], ◌∷◌, Some, None, refl}
use Rattle.std.specs.Prelude.{codes, replicate, slice_set}
use Rattle.fpga_types.specs.declared.netlist.Block.{Block}
use Rattle.fpga_types.specs.declared.netlist.BlockKind.TheVariants.{Input, Output, Logic}
use Rattle.fpga_types.specs.declared.netlist.Net.{Net}
use Rattle.fpga_types.specs.declared.netlist.Netlist.{Netlist}
use Rattle.fpga_types.specs.declared.netlist.PinRef.{PinRef}
use Rattle.fpga_text.specs.Bytes.{Bytes}
use Rattle.fpga_text.specs.FirstFault.{IsRefusal}
use Rattle.fpga_text.specs.declared.fault.TextFault.TheVariants.{Bad}
use Rattle.fpga_net.specs.Codes.{net_faults}
use Rattle.fpga_net.specs.Value.{net_value, ReadsNet}
use Rattle.fpga_net.proofs.RowTexts.{arch, junction_lines, text_of}

-- a pin of a block, both by number
abbrev at : ℕ → ℕ → PinRef
at block pin = record { block = block; pin = pin }

-- an ordinary net with this driver and one sink
abbrev joins : Bytes → PinRef → PinRef → Net
joins name driver sink = record {
  name = name;
  global = false;
  driver = Some driver;
  sinks =
      sink ∷ [];
}

-- a pad on this net
abbrev input_pad : Bytes → ℕ → Block
input_pad name net = record { name = name; kind = Input; pins = Some net ∷ [] }

-- a logic block whose first pin is on this net, and no other
abbrev logic : Bytes → ℕ → Block
logic name net = record { name = name; kind = Logic; pins = Some net ∷ replicate 5 None }

-- the value of the lines `junction_lines`
abbrev junction : Netlist
junction = record {
  nets = joins (codes "a") (at 0 0) (at 4 0) ∷ joins (codes "b") (at 1 0) (at 5 0)
      ∷ joins (codes "c") (at 2 0) (at 3 0) ∷ [];
  blocks = input_pad (codes "pa") 0 ∷ input_pad (codes "pb") 1 ∷ input_pad (codes "pc") 2
      ∷ record { name = codes "qc"; kind = Output; pins = Some 2 ∷ [] }
      ∷ logic (codes "ca") 0 ∷ logic (codes "cb") 1 ∷ [];
}

pub junction_reads : net_value arch (text_of junction_lines) ≡ junction
junction_reads = refl

pub junction_is_faultless : net_faults arch (text_of junction_lines) ≡ replicate 14 None
junction_is_faultless = refl

-- what a reader has to show of these lines
pub junction_is_read : ReadsNet arch (text_of junction_lines) junction
junction_is_read = (refl, refl)

-- and where a pinlist is missing at the end
pub open_block_is_refused : IsRefusal (net_faults arch (codes ".input i\npinlist: n\n.clb x\n"))
    (Bad 4 208)
open_block_is_refused = refl

-- a pinlist in three parts, with comments
abbrev joined_pinlist : Bytes
joined_pinlist = text_of (slice_set junction_lines 12
    (codes "pinlist: b open \\ # three more\n open open\\\nopen\\\n open # end"))

pub joined_pinlist_reads : net_value arch joined_pinlist ≡ junction
joined_pinlist_reads = refl

-- a global net on a pad and on a pin for global nets
abbrev clock : Bytes
clock = text_of (codes ".global clk" ∷ codes ".input pclk" ∷ codes "pinlist: clk" ∷ codes ".clb c"
    ∷ codes "pinlist: open open open open open clk" ∷ [])

pub clock_reads : net_value arch clock ≡ record {
  nets = record {
    name = codes "clk";
    global = true;
    driver = Some (at 0 0);
    sinks =
        at 1 5 ∷ [];
  } ∷ [];
  blocks = input_pad (codes "pclk") 0 ∷ record {
    name = codes "c";
    kind = Logic;
    pins =
        None ∷ None ∷ None ∷ None ∷ None ∷ Some 0 ∷ [];
  } ∷ [];
}
clock_reads = refl

-- nets that a late line makes global, on several pins of one class and with a second driver
abbrev late_globals : Bytes
late_globals = text_of (slice_set junction_lines 12
    (codes "pinlist: b b open open a b\n.global b a"))

pub late_globals_read : net_value arch late_globals ≡ record junction {
  nets = record { name = codes "a"; global = true; driver = Some (at 0 0); sinks = at 4 0 ∷ [] }
      ∷ record {
        name = codes "b";
        global = true;
        driver = Some (at 1 0);
        sinks =
            at 5 0 ∷ at 5 1 ∷ at 5 5 ∷ [];
      }
      ∷ joins (codes "c") (at 2 0) (at 3 0) ∷ [];
  blocks = input_pad (codes "pa") 0 ∷ input_pad (codes "pb") 1 ∷ input_pad (codes "pc") 2
      ∷ record { name = codes "qc"; kind = Output; pins = Some 2 ∷ [] }
      ∷ logic (codes "ca") 0
      ∷ record {
        name = codes "cb";
        kind = Logic;
        pins =
            Some 1 ∷ Some 1 ∷ None ∷ None ∷ Some 0 ∷ Some 1 ∷ [];
      } ∷ [];
}
late_globals_read = refl
