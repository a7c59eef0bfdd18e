-- Worked rows of clauses for a reach.
use Rattle.std.proofs.Common.{◌≡◌, ℕ, ◌+◌, List, [], ◌∷◌, refl}
use Rattle.std.specs.Prelude.{true, length, map, take, codes}
use Rattle.fpga_types.specs.Problem.{RoutingProblem}
use Rattle.fpga_types.specs.declared.arch.Arch.{Arch}
use Rattle.fpga_types.specs.declared.arch.Pattern.TheVariants.{Subset}
use Rattle.fpga_types.specs.declared.route.Elem.{Elem}
use Rattle.fpga_types.specs.declared.route.ElemKind.TheVariants.{Source, Opin, ChanX, Ipin, Sink}
use Rattle.fpga_types.specs.declared.route.Label.TheVariants.{Pad, Track}
use Rattle.fpga_types.specs.declared.route.RouteText.{RouteText}
use Rattle.route_reach.proofs.RowValues.{arch_of, branch, elem, full, routed_net, shares}
use Rattle.sat_clause.specs.Formula.{Cnf}
use Rattle.sat_clause.specs.declared.literal.Lit.{Lit}
use Rattle.sat_clause.specs.Literal.{Clause, negation, positive}
use Rattle.route_reach.specs.Encoding.{reach_cnf}

abbrev is : ℕ → Lit
is n = positive n

abbrev isnt : ℕ → Lit
isnt n = negation (positive n)

abbrev vars : Cnf → ℕ
vars f = f.vars

abbrev clauses : Cnf → List Clause
clauses f = f.clauses

-- a net from a pad to another at one cell
abbrev pub pad_net : (number : ℕ) → List Elem
pad_net n = elem 7 Source 1 0 Pad n ∷ elem 8 Opin 1 0 Pad n ∷ elem 9 ChanX 1 0 Track 0
    ∷ elem 10 Ipin 1 0 Pad (n + 1) ∷ elem 11 Sink 1 0 Pad (n + 1) ∷ []

abbrev pub one_route : List (List Elem) → RouteText
one_route nets = record {
  grid = record { nx = 1; ny = 1 };
  grid_line = 1;
  lines = 19;
  nets = map (routed_net 0 (codes "n") 5) nets;
}

-- only the architecture and the route count for the clauses
abbrev pub with_route : Arch → RouteText → RoutingProblem
with_route arch route = record {
  arch = arch;
  netlist = record { nets = []; blocks = [] };
  placement = record { grid = route.grid; places = [] };
  route = route;
}

-- two nets at one cell, at width 1 within 1 join
abbrev two : RoutingProblem
two = with_route (arch_of Subset full) (one_route (pad_net 0 ∷ pad_net 2 ∷ []))

pub two_vars : vars (reach_cnf 1 1 two) ≡ 6
two_vars = refl

pub two_clauses : clauses (reach_cnf 1 1 two)
    ≡ (is 4 ∷ []) ∷ (is 6 ∷ [])
    ∷ (isnt 3 ∷ is 1 ∷ []) ∷ (isnt 4 ∷ is 1 ∷ []) ∷ (isnt 5 ∷ is 2 ∷ []) ∷ (isnt 6 ∷ is 2 ∷ [])
    ∷ (isnt 3 ∷ is 4 ∷ []) ∷ (isnt 5 ∷ is 6 ∷ [])
    ∷ (isnt 4 ∷ is 3 ∷ []) ∷ (isnt 6 ∷ is 5 ∷ [])
    ∷ (isnt 1 ∷ isnt 2 ∷ []) ∷ []
two_clauses = refl

-- a net that branches, at width 2 within 1 join, where inputs open half of the tracks
abbrev pub half_branch : RoutingProblem
half_branch = branch (shares 1000000 500000 1000000)

pub branch_vars : vars (reach_cnf 2 1 half_branch) ≡ 18
branch_vars = refl

pub branch_count : length (clauses (reach_cnf 2 1 half_branch)) ≡ 31
branch_count = refl

pub branch_first : take 7 (clauses (reach_cnf 2 1 half_branch))
    ≡ (is 14 ∷ []) ∷ (is 16 ∷ is 18 ∷ []) ∷ (is 16 ∷ [])
    ∷ (isnt 11 ∷ []) ∷ (isnt 13 ∷ []) ∷ (isnt 15 ∷ []) ∷ (isnt 17 ∷ []) ∷ []
branch_first = refl

-- a global net alone
abbrev pub global_alone : RoutingProblem
global_alone = with_route (arch_of Subset full) (record {
  grid = record { nx = 1; ny = 1 };
  grid_line = 1;
  lines = 8;
  nets = record {
    k = 0;
    name = codes "clk";
    global = true;
    line = 5;
    elems = [];
    kept = codes "Block pclk (#0) at (1, 0), Pin class -1."
        ∷ codes "Block c (#1) at (1, 1), Pin class 2." ∷ [];
  } ∷ [];
})

pub global_vars : vars (reach_cnf 1 64 global_alone) ≡ 0
global_vars = refl

pub global_clauses : clauses (reach_cnf 1 64 global_alone) ≡ []
global_clauses = refl
