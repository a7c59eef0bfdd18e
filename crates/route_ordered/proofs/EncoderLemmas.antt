-- The clauses with the order of a row of slots as they are made.
use Rattle.std.proofs.Common.{◌≡◌, ℕ, ◌+◌, ◌*◌, ◌<◌, Bool, true, false, cond, List, [], ◌++◌, length, length-append, refl, sym, ap, ◌∙◌, arith, All}
use Rattle.std.specs.Prelude.{filter, nat_lt}
use Rattle.std.proofs.lemmas.Bool.Decides.{nat_tests}
use Rattle.list_laws.proofs.Members.{all-from_In, from_In-filter}
use Rattle.fpga_types.specs.Problem.{RoutingProblem}
use Rattle.fpga_types.specs.Slots.{slots}
use Rattle.fpga_types.specs.declared.arch.Pattern.{Pattern}
use Rattle.sat_clause.specs.FormulaStore.{FormulaState}
use Rattle.sat_clause.specs.Literal.{Clause}
use Rattle.route_encode.specs.Adding.{HasRoom}
use Rattle.route_encode.specs.Encoding.{cnf_of}
use Rattle.route_ordered.specs.Counts.{clauses_per_slot}
use Rattle.problem_facts.specs.Groups.{is_exchangeable}
use Rattle.route_ordered.specs.Ordered.{AreSlots, ordered_cnf, ordered_row, precedence, slots_among}
use Rattle.route_ordered.proofs.AddingLemmas.{few-lits, length-precedence}

-- what is among the slots are slots
pub among-low : (count : ℕ) (row : List ℕ)
    → All (λ s. s < count) (filter (λ s. nat_lt s count) row)
among-low count row =
    all-from_In (λ s. s < count) (filter (λ s. nat_lt s count) row) (λ s i.
    is-below s (from_In-filter (λ t. nat_lt t count) row s i).1)
  where
    is-below : (a : ℕ) → nat_lt a count ≡ true → a < count
    is-below a h = grind (arith, nat_tests)

pub among-slots : (p : RoutingProblem) (row : List ℕ) → AreSlots p (slots_among p row)
among-slots p row = among-low (length (slots p.route)) row

-- the clauses are those without the order and those of the row, if groups may change places
cnf-row : (width : ℕ) (p : RoutingProblem) (row : List ℕ) → (ordered_cnf width p row).clauses
    ≡ (cnf_of width p).clauses ++ precedence p.arch.pattern width (ordered_row width p row)
cnf-row width p row =
    ap (λ (cs : List Clause). (cnf_of width p).clauses ++ cs) (go (is_exchangeable width p))
  where
    go : (b : Bool) → cond b (precedence p.arch.pattern width row) []
        ≡ precedence p.arch.pattern width (cond b row [])
    go true = refl
    go false = refl

pub count-ordered : (width : ℕ) (p : RoutingProblem) (row own : List ℕ)
    → own ≡ ordered_row width p row
    → length (ordered_cnf width p row).clauses
    ≡ length (cnf_of width p).clauses + length own * clauses_per_slot p.arch.pattern width
count-ordered width p row own is =
    ap length (cnf-row width p row
    ∙ ap (λ (r : List ℕ). (cnf_of width p).clauses ++ precedence p.arch.pattern width r) (sym is))
    ∙ length-append (cnf_of width p).clauses (precedence p.arch.pattern width own)
    ∙ ap (λ (n : ℕ). length (cnf_of width p).clauses + n)
    (length-precedence p.arch.pattern width own)

-- room for the clauses of a row
pub row-room : (pattern : Pattern) (width : ℕ) (row : List ℕ) (s : FormulaState)
    → s.clause_room ≡ length row * clauses_per_slot pattern width
    → s.lit_room ≡ length row * clauses_per_slot pattern width * (1 + 2 * length row)
    → HasRoom s (precedence pattern width row)
row-room pattern width row s clauses lits = record {
  clause_room = omega (arith, clauses, length-precedence pattern width row);
  lit_room = omega (arith, lits, few-lits pattern width row);
}
