-- What of a problem's clauses and trees a count is made of.
use Rattle.std.specs.Prelude.{◌≡◌, ◌≢◌, ℕ, ◌*◌, ◌<◌, List, length, ◌∷◌, ◌++◌, [], Option, None, Some, All, ℤ, pos}
use Rattle.fpga_types.specs.Slots.{slot_at}
use Rattle.fpga_types.specs.declared.problem.Slot.{Slot}
use Rattle.route_encode.specs.Encoding.{place_of}
use Rattle.sat_clause.specs.Formula.{Cnf}
use Rattle.sat_clause.specs.Literal.{Clause}
use Rattle.sat_count.specs.Names.{no, yes}
use Rattle.sat_count.specs.Places.{not_both, some_clause}
use Rattle.sat_count.specs.Refuting.{Holds, RefutationState, begun}
use Rattle.problem_facts.specs.Leads.{TreesState, lead_at, root_at}
use Rattle.problem_facts.specs.declared.trees.Lead.{Lead}

-- where slot a has the track, slot b has it
abbrev pub led_clause : (width a b track : ℕ) → Clause
led_clause width a b track = no (place_of width a track) ∷ yes (place_of width b track) ∷ []

-- slots a and b do not both have the track
abbrev pub apart_clause : (width a b track : ℕ) → Clause
apart_clause width a b track = not_both (place_of width a track) (place_of width b track)

-- not all of the clauses are other ones
abbrev pub IsOneOf : List Clause → Clause → Type 0
IsOneOf clauses c = ¬ All (λ d. d ≢ c) clauses

-- the formula says that each slot has a track, that a slot has each track of the one from which it
-- is come to, and that two that compete have no track both
pub record HasClauses (cnf : Cnf) (width : ℕ) (all : List Slot) (t : TreesState) : Type 0 where
  pub some : (s : ℕ) → s < length all → IsOneOf cnf.clauses (some_clause (s * width) width)
  pub led : (s track : ℕ) (lead : Lead) → s < length all → track < width
      → lead_at t s ≡ Some lead → IsOneOf cnf.clauses (led_clause width lead.from s track)
  pub apart : (a b track : ℕ) → a < b → b < length all → track < width
      → (slot_at all a).net ≢ (slot_at all b).net → (slot_at all a).cell ≡ (slot_at all b).cell
      → IsOneOf cnf.clauses (apart_clause width a b track)

-- each tree is of one net
pub record AreInNets (all : List Slot) (t : TreesState) : Type 0 where
  pub each : length t.roots ≡ length all
  pub nets : (s : ℕ) → s < length all
      → (slot_at all (root_at t s)).net ≡ (slot_at all s).net

-- the clause stands in the formula under the id
abbrev pub IsInput : Cnf → (id : ℕ) → Clause → Type 0
IsInput cnf id clause = Holds (begun cnf) id clause

-- slot b has the track where slot a has it: by the clause with the id, or else since they are one
abbrev pub IsReason : RefutationState → (width a b track : ℕ) → Option ℕ → Type 0
IsReason r width a b track None = a ≡ b
IsReason r width a b track (Some id) = (a ≢ b) × Holds r id (led_clause width a b track)

-- the hint for it, if there is one
abbrev pub reason_hints : Option ℕ → List ℤ
reason_hints None = []
reason_hints (Some id) = pos id ∷ []

-- those for two slots, and the one behind them
abbrev pub chain_hints : (lower higher : Option ℕ) → (last : ℕ) → List ℤ
chain_hints lower higher last = reason_hints lower ++ (reason_hints higher ++ pos last ∷ [])
