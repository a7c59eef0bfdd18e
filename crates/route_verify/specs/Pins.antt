-- Pins as the sets of elements have them: two lines are at one pin where their IPIN lines are
-- equal.
use Rattle.fpga_types.specs.declared.route.Elem.{Elem}
use Rattle.fpga_types.specs.declared.route.ElemKind.TheVariants.{Ipin}

-- the IPIN line at the pin of a line
abbrev pub as_ipin : Elem → Elem
as_ipin e = record e { kind = Ipin }
