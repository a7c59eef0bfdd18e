-- The places of variables on a trail.
use Rattle.std.proofs.Common.{◌≡◌, ◌≢◌, ◌<◌, ◌-◌, ℕ, inl, inr, List, [], ◌∷◌, length, reverse, Option, None, Some, get_or, slice_get, refl, sym, ap, ◌∙◌, arith}
use Rattle.std.proofs.lemmas.Bool.{eq-eqb, ne_eqb}
use Rattle.std.proofs.lemmas.Bool.Decides.{eqb_tells}
use Rattle.std.proofs.lemmas.List.{get_or_default, length-reverse, reverse-append, reverse-reverse}
use Rattle.std.proofs.lemmas.List.Elements.{All-cons, All-head, All-nil, All-tail}
use Rattle.std.proofs.lemmas.Option.{slice_get_within}
use Rattle.list_laws.proofs.Places.{get-front, get-last}
use Rattle.sat_clause.specs.declared.literal.Lit.{Lit}
use Rattle.sat_clause.specs.Literal.{IsWithin, negation, variable}
use Rattle.sat_clause.proofs.LiteralLaws.{variable_negation}
use Rattle.sat_watch.specs.declared.entry.TrailEntry.{TrailEntry}
use Rattle.sat_watch.specs.Trail.{IsOnce, IsOpen, lits_of, place_in, value_in}
use Rattle.sat_watch.specs.TrailStore.{ArePlacesOf}
use Rattle.sat_watch.specs.Watched.{true_at}
use Rattle.sat_watch.proofs.LevelLemmas.{true_is_false}
use Rattle.sat_watch.proofs.TrailLemmas.{false_is_other, open_not_false, open_not_true}
use Rattle.sat_watch.proofs.WatchLemmas.{lit_tells}

-- an open variable has no place
pub none_placed : (entries : List TrailEntry) (m l : Lit) (n : ℕ) → IsOpen entries m →
    variable l ≡ variable m → place_in entries l ≢ Some n
none_placed [] m l n free same at = cc
none_placed (e ∷ older) m l n free same at =
    elim (eqb_tells (variable e.lit) (variable l)) [
      | inl here ↦ All-head (λ (x : Lit). variable x ≢ variable m) e.lit (lits_of older) free
          (here.1 ∙ same)
      | inr other ↦ none_placed older m l n
          (All-tail (λ (x : Lit). variable x ≢ variable m) e.lit (lits_of older) free) same
          (rw other.0 at at)
    ]

-- one without a place is open
open_unplaced : (entries : List TrailEntry) (l : Lit) → place_in entries l ≡ None →
    IsOpen entries l
open_unplaced [] l none = All-nil (λ (x : Lit). variable x ≢ variable l)
open_unplaced (e ∷ older) l none =
    elim (eqb_tells (variable e.lit) (variable l)) [
      | inl here ↦ (let clash : Some (length older) ≡ None = rw here.0 at none in cc)
      | inr other ↦ All-cons (λ (x : Lit). variable x ≢ variable l) e.lit (lits_of older) other.1
          (open_unplaced older l (rw other.0 at none))
    ]

open_unvalued : (entries : List TrailEntry) (l : Lit) → IsOpen entries l →
    value_in entries l ≡ None
open_unvalued entries l free =
    rw (open_not_false entries l free, open_not_true entries l free) refl

-- so a variable with a value has a place
pub placed : (entries : List TrailEntry) (l : Lit) → value_in entries l ≢ None →
    (n : ℕ) × (place_in entries l ≡ Some n)
placed entries l valued = by (place_in entries l) refl
  where
    by : (o : Option ℕ) → place_in entries l ≡ o → (n : ℕ) × (place_in entries l ≡ Some n)
    by None none = absurd (valued (open_unvalued entries l (open_unplaced entries l none)))
    by (Some n) is = (n, is)

-- at which its entry stands
at_front : (e : TrailEntry) (older : List TrailEntry) (x : TrailEntry) (n : ℕ) →
    slice_get (reverse older) n ≡ Some x → slice_get (reverse (e ∷ older)) n ≡ Some x
at_front e older x n at =
    let within = slice_get_within (reverse older) n x at in
    ap (λ (xs : List TrailEntry). slice_get xs n) (reverse-append (e ∷ []) older)
    ∙ get-front (reverse older) e n (omega (arith, within)) ∙ at

pub place_entry : (entries : List TrailEntry) (l : Lit) (n : ℕ) → place_in entries l ≡ Some n →
    (e : TrailEntry) × (slice_get (reverse entries) n ≡ Some e) × (variable e.lit ≡ variable l)
place_entry [] l n at = cc
place_entry (e ∷ older) l n at =
    elim (eqb_tells (variable e.lit) (variable l)) [
      | inl here ↦
          let same : Some (length older) ≡ Some n = rw here.0 at at in
          let n_is : length older ≡ n = cc in (
            e,
            ap (λ (xs : List TrailEntry). slice_get xs n) (reverse-append (e ∷ []) older)
                ∙ get-last (reverse older) e n (sym n_is ∙ sym (length-reverse older)),
            here.1,
          )
      | inr other ↦
          let rest = place_entry older l n (rw other.0 at at) in
          (rest.0, at_front e older rest.0 n rest.1, rest.2)
    ]

-- a true literal's level is that of the entry at its place
pub level_placed : (entries : List TrailEntry) (l : Lit) (level : ℕ) → IsOnce entries →
    true_at entries l ≡ Some level →
    (n : ℕ) × (place_in entries l ≡ Some n) × (e : TrailEntry)
    × (slice_get (reverse entries) n ≡ Some e) × (e.level ≡ level)
level_placed [] l level once is = cc
level_placed (e ∷ older) l level once is =
    elim (lit_tells e.lit l) [
      | inl same ↦
          let at : Some e.level ≡ Some level = rw same.0 at is in
          let level_is : e.level ≡ level = cc in (
            length older,
            rw (eq-eqb (variable e.lit) (variable l) (ap variable same.1)) refl,
            e,
            ap (λ (xs : List TrailEntry). slice_get xs (length older))
                (reverse-append (e ∷ []) older)
                ∙ get-last (reverse older) e (length older) (sym (length-reverse older)),
            level_is,
          )
      | inr other ↦
          let before : true_at older l ≡ Some level = rw other.0 at is in
          let ne = false_is_other older e.lit (negation l) once.0
          (true_is_false older l level before) in
          let rest = level_placed older l level once.1 before in (
            rest.0,
            rw (ne_eqb (variable e.lit) (variable l)
                (λ same. ne (variable_negation l ∙ sym same))) rest.1,
            rest.2,
            at_front e older rest.2 rest.0 rest.3,
            rest.4,
          )
    ]

-- THE TABLE

module _ (vars : ℕ) (items : List TrailEntry) (places : List ℕ) (many : length places ≡ vars)
    (are : ArePlacesOf vars (reverse items) places) where
  -- what is read of it
  pub place_read : (l : Lit) (v r n : ℕ) → IsWithin vars l → v ≡ variable l →
      r ≡ get_or places (v - 1) r → place_in (reverse items) l ≡ Some n → n ≡ r
  place_read l v r n within v_is r_is at =
      let there : get_or places (variable l - 1) 0 ≡ n = are l within n at in
      let lt : variable l - 1 < length places = omega (arith, within.0, within.1, many) in
      sym there ∙ get_or_default places (variable l - 1) 0 r lt
      ∙ ap (λ (x : ℕ). get_or places (x - 1) r) (sym v_is) ∙ sym r_is

  pub level_read : (l : Lit) (v r level : ℕ) → IsOnce (reverse items) → IsWithin vars l →
      v ≡ variable l → r ≡ get_or places (v - 1) r → true_at (reverse items) l ≡ Some level →
      (e : TrailEntry) × (slice_get items r ≡ Some e) × (e.level ≡ level)
  level_read l v r level once within v_is r_is is =
      let at = level_placed (reverse items) l level once is in
      let same : at.0 ≡ r = place_read l v r at.0 within v_is r_is at.1 in (
        at.2,
        ap (slice_get items) (sym same)
            ∙ ap (λ (xs : List TrailEntry). slice_get xs at.0) (sym (reverse-reverse items)) ∙ at.3,
        at.4,
      )
