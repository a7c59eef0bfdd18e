-- The codes of what can be wrong with a routing problem.
use Rattle.std.specs.Prelude.{ℕ}
use Rattle.fpga_types.specs.declared.fit_cause.FitCause.{FitCause}
use Rattle.fpga_types.specs.declared.fit_cause.FitCause.TheVariants.{OtherArray, MissingNet, UnknownNet, RepeatedNet, OtherSource, OtherSink, SinkNotOnce, OtherPin, PinApart, CellsApart, RepeatedElement, LooseBranch, SharedPin, OutOfOrder, PastLimit}

-- the code of a cause
abbrev pub code_of : FitCause → ℕ
code_of OtherArray = 501
code_of MissingNet = 502
code_of UnknownNet = 503
code_of RepeatedNet = 504
code_of OtherSource = 505
code_of OtherSink = 506
code_of SinkNotOnce = 507
code_of OtherPin = 508
code_of PinApart = 509
code_of CellsApart = 510
code_of RepeatedElement = 511
code_of LooseBranch = 512
code_of SharedPin = 513
code_of OutOfOrder = 514
code_of PastLimit = 515
