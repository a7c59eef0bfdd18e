-- The clauses of a row of slots, as they are added.
use Rattle.std.proofs.Common.{◌≡◌, ℕ, ◌+◌, ◌<◌, List, [], ◌∷◌, length, take, get_or, sym, ap, subst, ◌∙◌, arith}
use Rattle.std.specs.Prelude.{flat_map}
use Rattle.std.specs.List.{enumerate_from}
use Rattle.std.proofs.lemmas.List.Concat.{flat_map_single}
use Rattle.std.proofs.lemmas.List.{take_all}
use Rattle.std.proofs.lemmas.List.FromFn.{get_or-enumerate_from, length-enumerate_from}
use Rattle.sat_clause.specs.FormulaStore.{FormulaState}
use Rattle.sat_clause.specs.Literal.{Clause}
use Rattle.route_encode.specs.Adding.{Adds, HasRoom}
use Rattle.route_encode.specs.Encoding.{has}
use Rattle.route_encode.proofs.AddLemmas.{adds-more, room-next}
use Rattle.route_pinned.specs.Pinned.{row_clauses}

module _ (width : ℕ) (row : List ℕ) where
  -- what is added of a slot at its place
  abbrev pub pin_added : ℕ × ℕ → List Clause
  pin_added pin = (has width pin.1 pin.0 ∷ []) ∷ []

  abbrev numbered_row : List (ℕ × ℕ)
  numbered_row = enumerate_from 0 row

  rows-are : flat_map pin_added numbered_row ≡ row_clauses width row
  rows-are = flat_map_single (λ (pin : ℕ × ℕ). has width pin.1 pin.0 ∷ []) numbered_row

  at-place : (k : ℕ) → k < length row → get_or numbered_row k (0, 0) ≡ (k, get_or row k 0)
  at-place k low = get_or-enumerate_from 0 row k (0, 0) low
      ∙ (let e : 0 + k ≡ k = omega arith in ap (λ (n : ℕ). (n, get_or row k 0)) e)

  inside : (k : ℕ) → k < length row → k < length numbered_row
  inside k low = omega (arith, low, length-enumerate_from 0 row)

  pub room-at : (a b : FormulaState) (k : ℕ) → k < length row → HasRoom a (row_clauses width row)
      → Adds a (flat_map pin_added (take k numbered_row)) b
      → HasRoom b ((has width (get_or row k 0) k ∷ []) ∷ [])
  room-at a b k low room added =
      subst (λ (pin : ℕ × ℕ). HasRoom b (pin_added pin)) (at-place k low)
      (room-next pin_added numbered_row k (0, 0) (inside k low) a b
      (subst (HasRoom a) (sym rows-are) room) added)

  pub added-at : (a b c : FormulaState) (k : ℕ) → k < length row
      → Adds a (flat_map pin_added (take k numbered_row)) b
      → Adds b ((has width (get_or row k 0) k ∷ []) ∷ []) c
      → Adds a (flat_map pin_added (take (k + 1) numbered_row)) c
  added-at a b c k low before now =
      adds-more pin_added numbered_row k (0, 0) (inside k low) a b c before
      (subst (λ (pin : ℕ × ℕ). Adds b (pin_added pin) c) (sym (at-place k low)) now)

  pub added-all : (a b : FormulaState) (k : ℕ) → length row ≡ k
      → Adds a (flat_map pin_added (take k numbered_row)) b → Adds a (row_clauses width row) b
  added-all a b k all added =
      subst (λ (cs : List Clause). Adds a cs b)
      (ap (flat_map pin_added) (take_all k numbered_row
      (omega (arith, all, length-enumerate_from 0 row))) ∙ rows-are) added
