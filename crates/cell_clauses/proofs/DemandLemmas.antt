-- Which clauses over cells demand something of a net: that it leaves its driver, and that it comes to
-- a sink.
use Rattle.std.proofs.Common.{◌≡◌, ℕ, suc, ◌+◌, ◌-◌, ◌*◌, ◌/◌, ◌<◌, ◌≤◌, Bool, true, false, List, [], ◌∷◌, length, Some, refl, sym, ap, ◌∙◌, subst, inl, inr, arith}
use Rattle.std.specs.Prelude.{◌==◌, ◌&&◌, ◌||◌, filter, map, nat_le, nat_lt, slice_get}
use Rattle.std.specs.List.{enumerate_from, list_all}
use Rattle.std.specs.Option.{option_map_or}
use Rattle.std.proofs.lemmas.Bool.{or_left, or_right}
use Rattle.std.proofs.lemmas.Bool.Decides.{Decides-eqb, leb_tells}
use Rattle.std.proofs.lemmas.Nat.{div-mul-add}
use Rattle.list_laws.proofs.Members.{In, from_In-filter}
use Rattle.list_laws.proofs.Numbered.{from_In-enumerate}
use Rattle.fpga_types.specs.declared.grid.PinAt.{PinAt}
use Rattle.route_bound.specs.Lying.{Cells, pins_at}
use Rattle.route_encode.proofs.Models.{of-below}
use Rattle.sat_clause.specs.declared.literal.Lit.{Lit}
use Rattle.cell_clauses.specs.Clauses.{below, enters_some, is_cell_in, uses_some}
use Rattle.cell_clauses.specs.Demands.{demands, first_entry, is_entry_of, is_use_of, says_of}
use Rattle.cell_clauses.specs.Frames.{Frame}
use Rattle.cell_clauses.specs.Places.{entry_place, has, pin_count, pin_number, use_place}
use Rattle.cell_clauses.specs.declared.window.Arrival.{Arrival}
use Rattle.cell_clauses.proofs.ValueLemmas.{below-true}

not-above : (a b : ℕ) → a ≤ b → nat_le a b ≡ true
not-above a b h = elim (leb_tells a b) [
  | inl is ↦ is.0
  | inr other ↦ absurd (let less = other.1 in omega (arith, h, less))
]

-- each literal that is made of some elements says so
each-made : {A : Type 0} (p : Lit → Bool) (make : A → Lit) (xs : List A)
    → ((x : A) → In xs x → p (make x) ≡ true) → list_all p (map make xs) ≡ true
each-made p make [] h = refl
each-made p make (x ∷ xs) h =
    subst (λ (t : Bool). (t && list_all p (map make xs)) ≡ true) (sym (h x (inl refl)))
    (each-made p make xs (λ y i. h y (inr i)))

module _ (f : Frame) where
  -- a literal that says so of a variable says it of that variable's place
  says-at : (k place : ℕ) → (is_use_of f k place || is_entry_of f k place) ≡ true
      → says_of f k (has place) ≡ true
  says-at k place h =
      let back : place ≡ suc place - 1 = omega arith in
      subst (λ (q : ℕ). (is_use_of f k q || is_entry_of f k q) ≡ true) back h

  says-use : (k c : ℕ) → c < length f.cells → says_of f k (has (use_place f k c)) ≡ true
  says-use k c cell =
      let place : ℕ = use_place f k c in
      let from = not-above (use_place f k 0) place (omega arith) in
      let to = below-true place (use_place f k (length f.cells)) (omega (arith, cell)) in
      let within : is_use_of f k place ≡ true =
      subst (λ (t : Bool). (t && nat_lt place (use_place f k (length f.cells))) ≡ true) (sym from) to
      in says-at k place (or_left (is_use_of f k place) (is_entry_of f k place) within)

  says-entry : (a number : ℕ) (arrival : Arrival) → slice_get f.arrivals a ≡ Some arrival
      → number < pin_count f → says_of f arrival.net (has (entry_place f a number)) ≡ true
  says-entry a number arrival e low =
      let place : ℕ = entry_place f a number in
      let k : ℕ = arrival.net in
      let from = not-above (first_entry f) place (omega arith) in
      let ahead : place - first_entry f ≡ a * pin_count f + number = omega arith in
      let at : (place - first_entry f) / pin_count f ≡ a =
      ap (λ (n : ℕ). n / pin_count f) ahead ∙ div-mul-add a (pin_count f) number low in
      let own : option_map_or (λ (other : Arrival). other.net == k)
      (slice_get f.arrivals ((place - first_entry f) / pin_count f)) false ≡ true =
      rw (at, e) ((Decides-eqb k k).1 refl) in
      let there : is_entry_of f k place ≡ true =
      subst (λ (t : Bool). (t && option_map_or (λ (other : Arrival). other.net == k)
      (slice_get f.arrivals ((place - first_entry f) / pin_count f)) false) ≡ true) (sym from) own
      in says-at k place (or_right (is_use_of f k place) (is_entry_of f k place) there)

  -- that a net uses one of some cells
  pub uses-demanded : (k : ℕ) (set : Cells) → demands f k (uses_some f k set) ≡ true
  uses-demanded k set =
      each-made (says_of f k) (λ c. has (use_place f k c))
      (filter (is_cell_in f set) (below (length f.cells)))
      (λ c i. says-use k c (of-below (length f.cells) c
      (from_In-filter (is_cell_in f set) (below (length f.cells)) c i).0))

  -- that it comes to a sink by one of its pins
  pub enters-demanded : (z : ℕ × Arrival) → In (enumerate_from 0 f.arrivals) z
      → ((pin : PinAt) → In (pins_at f.arch z.1.at) pin → pin_number pin < pin_count f)
      → demands f z.1.net (enters_some f z) ≡ true
  enters-demanded z i low =
      let from = from_In-enumerate 0 f.arrivals z i in
      let same : from.0 ≡ z.0 = omega (arith, from.1) in
      let at : slice_get f.arrivals z.0 ≡ Some z.1 =
      subst (λ (k : ℕ). slice_get f.arrivals k ≡ Some z.1) same from.2 in
      each-made (says_of f z.1.net) (λ pin. has (entry_place f z.0 (pin_number pin)))
      (pins_at f.arch z.1.at)
      (λ pin j. says-entry z.0 (pin_number pin) z.1 at (low pin j))
