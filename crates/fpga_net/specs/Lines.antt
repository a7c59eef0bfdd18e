-- What the form of a line is, as the code names it.
use Rattle.std.specs.Prelude.{List}
use Rattle.fpga_net.specs.declared.forms.LineForm.{LineForm}
use Rattle.fpga_net.specs.declared.forms.LineForm.TheVariants.{Begins as BeginsOf, Pinlist as PinlistOf, Subblock as SubblockOf, Globals as GlobalsOf, Other as OtherOf}
use Rattle.fpga_text.specs.Bytes.{Bytes}
use Rattle.fpga_net.specs.Forms.{Form, Begins, Pinlist, Subblock, Globals, Other}

-- the form of a line with these words behind the first
abbrev pub form_said : LineForm → List Bytes → Form
form_said (BeginsOf kind) rest = Begins kind rest
form_said PinlistOf rest = Pinlist rest
form_said SubblockOf rest = Subblock
form_said GlobalsOf rest = Globals rest
form_said OtherOf rest = Other
