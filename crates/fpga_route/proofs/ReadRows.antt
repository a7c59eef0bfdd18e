-- Worked rows of route texts: how they read, print and fail, each by computation.
use Rattle.std.proofs.Common.{◌≡◌, [], ◌∷◌, ◌++◌, length, false, refl}
use Rattle.std.specs.Prelude.{codes}
use Rattle.std.specs.Fmt.{digits}
use Rattle.fpga_types.specs.declared.route.ElemKind.TheVariants.{Source, Opin, ChanX, Ipin, Sink}
use Rattle.fpga_types.specs.declared.route.Label.TheVariants.{Pad, Track}
use Rattle.fpga_types.specs.declared.route.RouteText.{RouteText}
use Rattle.fpga_route.specs.Value.{route_value}
use Rattle.fpga_route.specs.Printed.{printed}
use Rattle.fpga_route.proofs.RowTexts.{one, global_clock}

-- the value of the text `one`
abbrev one_value : RouteText
one_value = record {
  grid = record { nx = 1; ny = 1 };
  grid_line = 1;
  lines = 12;
  nets = record {
    k = 0;
    name = codes "n0";
    global = false;
    line = 5;
    elems = record { kind = Source; x = 1; y = 0; label = Pad; number = 0; line = 7 }
        ∷ record { kind = Opin; x = 1; y = 0; label = Pad; number = 0; line = 8 }
        ∷ record { kind = ChanX; x = 1; y = 0; label = Track; number = 0; line = 9 }
        ∷ record { kind = Ipin; x = 1; y = 0; label = Pad; number = 1; line = 10 }
        ∷ record { kind = Sink; x = 1; y = 0; label = Pad; number = 1; line = 11 } ∷ [];
    kept = [];
  } ∷ [];
}

pub one_reads : route_value one ≡ one_value
one_reads = refl

pub one_prints : printed one_value ≡ one
unfolding digits
one_prints = refl

pub one_bytes : length one ≡ 173
one_bytes = refl

pub clock_prints : printed (route_value global_clock) ≡ global_clock ++ codes "\n"
unfolding digits
clock_prints = refl
