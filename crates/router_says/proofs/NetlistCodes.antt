-- Each code of this kind has its words.
use Rattle.std.proofs.Common.{◌≡◌, true, refl}
use Rattle.code_words.specs.Codes.{is_code}
use Rattle.fpga_net.specs.Causes.{code_of}
use Rattle.fpga_net.specs.declared.cause.Cause.{Cause}
use Rattle.fpga_net.specs.declared.cause.Cause.TheVariants.{LineForm, PinCount, SameName, Drivers, NoSink, GlobalPin, SharedClass, NoPinlist, PastLimit}

pub netlist-codes_are_said : (c : Cause) → is_code (code_of c) ≡ true
netlist-codes_are_said LineForm = refl
netlist-codes_are_said PinCount = refl
netlist-codes_are_said SameName = refl
netlist-codes_are_said Drivers = refl
netlist-codes_are_said NoSink = refl
netlist-codes_are_said GlobalPin = refl
netlist-codes_are_said SharedClass = refl
netlist-codes_are_said NoPinlist = refl
netlist-codes_are_said PastLimit = refl
