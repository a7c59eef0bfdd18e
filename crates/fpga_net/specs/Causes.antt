-- The codes of what can be wrong with a netlist text.
use Rattle.std.specs.Prelude.{ℕ}
use Rattle.fpga_net.specs.declared.cause.Cause.{Cause}
use Rattle.fpga_net.specs.declared.cause.Cause.TheVariants.{LineForm, PinCount, SameName, Drivers, NoSink, GlobalPin, SharedClass, NoPinlist, PastLimit}

-- the code of a cause
abbrev pub code_of : Cause → ℕ
code_of LineForm = 201
code_of PinCount = 202
code_of SameName = 203
code_of Drivers = 204
code_of NoSink = 205
code_of GlobalPin = 206
code_of SharedClass = 207
code_of NoPinlist = 208
code_of PastLimit = 209
