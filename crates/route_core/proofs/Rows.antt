-- Worked logs: what is left of them, that it is trimmed, and which nets are to blame.
use Rattle.std.proofs.Common.{◌≡◌, ℕ, ◌+◌, ◌*◌, pos, negsuc, true, false, List, [], ◌∷◌, length, refl}
use Rattle.fpga_types.specs.Problem.{RoutingProblem, problem_of}
use Rattle.fpga_types.specs.declared.arch.Arch.{Arch}
use Rattle.fpga_types.specs.declared.arch.Pattern.TheVariants.{Subset}
use Rattle.fpga_types.specs.declared.netlist.Netlist.{Netlist}
use Rattle.fpga_types.specs.declared.placement.Placement.{Placement}
use Rattle.fpga_types.specs.declared.route.Elem.{Elem}
use Rattle.fpga_types.specs.declared.route.ElemKind.{ElemKind}
use Rattle.fpga_types.specs.declared.route.ElemKind.TheVariants.{ChanX, Ipin, Opin, Sink, Source}
use Rattle.fpga_types.specs.declared.route.Label.{Label}
use Rattle.fpga_types.specs.declared.route.Label.TheVariants.{Pad, Track}
use Rattle.fpga_types.specs.declared.route.RouteNet.{RouteNet}
use Rattle.fpga_types.specs.declared.route.RouteText.{RouteText}
use Rattle.sat_clause.specs.Formula.{Cnf}
use Rattle.sat_clause.specs.Literal.{lit}
use Rattle.sat_clause.specs.Step.{Step, Added, Erased}
use Rattle.route_encode.specs.Encoding.{cnf_of}
use Rattle.route_core.specs.Blamed.{blamed}
use Rattle.route_core.specs.Trimmed.{IsTrimmed}
use Rattle.route_core.specs.Trimming.{trimmed_of}
use Rattle.route_core.proofs.TrimmingLemmas.{trims_well}

-- 1, 2 and 3, and not both 1 and 2
abbrev row_cnf : Cnf
row_cnf = record {
  vars = 3;
  clauses =
      (lit (pos 1) ∷ []) ∷ (lit (pos 2) ∷ []) ∷ (lit (pos 3) ∷ [])
      ∷ (lit (negsuc 0) ∷ lit (negsuc 1) ∷ []) ∷ [];
}

-- each step is needed
abbrev used_log : List Step
used_log = Added 5 (lit (negsuc 0) ∷ []) (pos 2 ∷ pos 4 ∷ [])
    ∷ Added 6 [] (pos 5 ∷ pos 1 ∷ []) ∷ []

pub used_log_stays : trimmed_of row_cnf used_log ≡ used_log
used_log_stays = refl

pub used_log_is_trimmed : IsTrimmed row_cnf used_log used_log
used_log_is_trimmed = trims_well row_cnf used_log refl

-- the first step serves no other, nor does the first hint of the second
abbrev idle_log : List Step
idle_log = Added 5 (lit (pos 3) ∷ []) (pos 3 ∷ [])
    ∷ Added 6 [] (pos 3 ∷ pos 1 ∷ pos 2 ∷ pos 4 ∷ []) ∷ []

abbrev short_log : List Step
short_log = Added 6 [] (pos 1 ∷ pos 2 ∷ pos 4 ∷ []) ∷ []

pub idle_log_is_cut : trimmed_of row_cnf idle_log ≡ short_log
idle_log_is_cut = refl

pub short_log_is_trimmed : IsTrimmed row_cnf idle_log short_log
short_log_is_trimmed = trims_well row_cnf idle_log refl

-- a deletion goes, and so does what stands behind the empty clause
pub deletion_goes : trimmed_of row_cnf
    (Erased 5 (pos 3 ∷ []) ∷ Added 6 [] (pos 1 ∷ pos 2 ∷ pos 4 ∷ []) ∷ Added 7 [] [] ∷ [])
    ≡ short_log
deletion_goes = refl

-- ---- nets to blame

abbrev elem : ElemKind → (x : ℕ) → Label → (number : ℕ) → Elem
elem kind x label number =
    record { kind = kind; x = x; y = 0; label = label; number = number; line = 0 }

-- a net from one pad of a place through the channel above it to the next pad
abbrev pad_net : (k x : ℕ) → RouteNet
pad_net k x = record {
  k = k;
  name = [];
  global = false;
  line = 0;
  elems = elem Source x Pad (2 * k) ∷ elem Opin x Pad (2 * k) ∷ elem ChanX x Track 0
      ∷ elem Ipin x Pad (2 * k + 1) ∷ elem Sink x Pad (2 * k + 1) ∷ [];
  kept = [];
}

-- two nets in one cell, and a third in another
abbrev wide : RouteText
wide = record {
  grid = record { nx = 2; ny = 1 };
  grid_line = 1;
  lines = 24;
  nets = pad_net 0 1 ∷ pad_net 1 1 ∷ pad_net 0 2 ∷ [];
}

abbrev wide_arch : Arch
wide_arch = record {
  io_rat = 16;
  pins = [];
  pattern = Subset;
  fc = record { fractional = true; output = 1000000; input = 1000000; pad = 1000000 };
}

module _ (netlist : Netlist) (placement : Placement) where
  abbrev wide_problem : RoutingProblem
  wide_problem = problem_of wide_arch netlist placement wide

  wide_vars : (cnf_of 1 wide_problem).vars ≡ 3
  wide_vars = refl

  wide_count : length (cnf_of 1 wide_problem).clauses ≡ 4
  wide_count = refl

  abbrev wide_log : List Step
  wide_log = Added 5 [] (pos 1 ∷ pos 2 ∷ pos 4 ∷ []) ∷ []

  wide_is_trimmed : IsTrimmed (cnf_of 1 wide_problem) wide_log wide_log
  wide_is_trimmed = trims_well (cnf_of 1 wide_problem) wide_log refl

  -- the two that share a cell
  wide_blamed : blamed 1 wide_problem (cnf_of 1 wide_problem) wide_log ≡ 0 ∷ 1 ∷ []
  wide_blamed = refl
