-- What the program ends with where it prints no picture.
use Rattle.std.specs.Prelude.{ℕ}
use Rattle.fpga_text.specs.declared.fault.TextFault.{TextFault}
use Rattle.fpga_text.specs.declared.fault.TextFault.TheVariants.{Bad, Limit, Memory as NoMemory}
use Rattle.route_picture.specs.declared.stop.Stop.{Stop}
use Rattle.route_picture.specs.declared.stop.Stop.TheVariants.{Usage, Unread, TooLong, Faulty, NoNet, NoNames, BadRouted, Illegal, Memory, Unprinted}

-- the status of a fault of a text: 3 where the text is bad, 7 for want of memory
abbrev pub status_of_fault : TextFault → ℕ
status_of_fault (Bad _ _) = 3
status_of_fault (Limit _ _) = 3
status_of_fault NoMemory = 7

-- the exit status, by its cause
abbrev pub status_of : Stop → ℕ
status_of Usage = 4
status_of (Unread _) = 5
status_of (TooLong _) = 3
status_of (Faulty refusal) = status_of_fault refusal.fault
status_of (NoNet _) = 3
status_of NoNames = 3
status_of (BadRouted fault) = status_of_fault fault
status_of (Illegal _ _) = 3
status_of Memory = 7
status_of Unprinted = 6
