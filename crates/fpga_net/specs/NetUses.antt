-- What a net on a pin is, as the code names it.
use Rattle.fpga_net.specs.declared.net_use.NetUse.{NetUse}
use Rattle.fpga_net.specs.Uses.{Use}

-- a net on a pin
abbrev pub use_said : NetUse → Use
use_said row = record { at = row.at; pin = row.pin; net = row.net.now }
