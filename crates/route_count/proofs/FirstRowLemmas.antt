-- The slots of a row are different ones, and so are their variables.
use Rattle.std.proofs.Common.{◌≡◌, ◌≢◌, ◌∷◌, ◌++◌, [], add-one, ℕ, suc, ◌+◌, ◌*◌, ◌<◌, ◌≤◌, Bool, true, false, not, List, length, map, take, get_or, All, sym, ap, inl, inr, ◌∙◌, arith}
use Rattle.std.specs.Prelude.{◌==◌}
use Rattle.std.specs.List.{AllPairs}
use Rattle.std.proofs.Math.Nat.{mul-le-mul_right, suc-mul}
use Rattle.std.proofs.Math.Seq.{take-suc}
use Rattle.std.proofs.lemmas.Bool.{cases_lt, false≢true}
use Rattle.std.proofs.lemmas.Bool.Decides.{Decides-eqb}
use Rattle.std.proofs.lemmas.List.{get_or-map, get_or_default, length-map, map-append}
use Rattle.fpga_types.specs.Size.{Size}
use Rattle.fpga_types.specs.Slots.{slot_at}
use Rattle.fpga_types.specs.declared.problem.Slot.{Slot}
use Rattle.fpga_types.proofs.MeetingLemmas.{both_true}
use Rattle.sat_count.specs.Firsts.{AreApart, IsBelow}
use Rattle.sat_count.specs.Refuting.{RefutationState}
use Rattle.route_count.specs.Firsts.{firsts_of}
use Rattle.route_count.specs.Meetings.{DoMeet}

abbrev pub AreDifferent : List ℕ → Type 0
AreDifferent row = AllPairs (λ s t. s ≢ t) row

-- slots whose trees meet are different ones
pub meeting-different : (grid : Size) (all : List Slot) (roots row : List ℕ)
    → DoMeet grid all roots row → AreDifferent row
meeting-different grid all roots row meets i j d before low =
    let a : ℕ = get_or row j d in
    let b : ℕ = get_or row i d in
    let parts = both_true (not ((slot_at all a).net == (slot_at all b).net)) _
    (meets i j d before low) in
    λ e. not-both ((slot_at all a).net == (slot_at all b).net) parts.0
    ((Decides-eqb (slot_at all a).net (slot_at all b).net).1
    (ap (λ (s : ℕ). (slot_at all s).net) (sym e)))
  where
    not-both : (b : Bool) → not b ≡ true → b ≡ true → ⊥
    not-both true h g = false≢true h
    not-both false h g = false≢true g

-- ---- the first variables of the slots

module _ (row : List ℕ) (width : ℕ) where
  abbrev pub firsts : List ℕ
  firsts = firsts_of width row

  pub firsts-many : length firsts ≡ length row
  firsts-many = length-map row (λ s. s * width)

  pub first-at : (place : ℕ) → place < length row
      → get_or firsts place 0 ≡ get_or row place 0 * width
  first-at place low = get_or-map (λ s. s * width) row place 0 0 low

  pub firsts-below : (r : RefutationState) (count : ℕ) → All (λ s. s < count) row
      → count * width ≤ r.last_variable → IsBelow r width firsts
  firsts-below r count within few k d low =
      let inside : k < length row = omega (arith, low, firsts-many) in
      let at = get_or_default firsts k d 0 low in
      let here = first-at k inside in
      let slot : suc (get_or row k 0) ≤ count = within k 0 inside in
      let rows : suc (get_or row k 0) * width ≤ count * width = mul-le-mul_right width slot in
      let more : suc (get_or row k 0) * width ≡ get_or row k 0 * width + width =
      suc-mul (get_or row k 0) width in
      omega (arith, at, here, rows, more, few)

  apart-rows : (a b t u : ℕ) → a < b → t < width → a * width + t ≢ b * width + u
  apart-rows a b t u low few =
      let rows : suc a * width ≤ b * width = mul-le-mul_right width low in
      let more : suc a * width ≡ a * width + width = suc-mul a width in
      omega (arith, rows, more, few)

  pub apart-either : (a b t u : ℕ) → a ≢ b → t < width → u < width → a * width + t ≢ b * width + u
  apart-either a b t u other t_few u_few e = elim (cases_lt a b) [
    | inl low ↦ apart-rows a b t u low t_few e
    | inr not_low ↦ apart-rows b a u t (omega (arith, other, not_low)) u_few (sym e)
  ]

  pub firsts-apart : AreDifferent row → length row ≡ width + 1 → AreApart width firsts
  firsts-apart differ size lower higher t u order low t_few u_few e =
      let inside : higher < length row = omega (arith, low, size) in
      let one = first-at lower (omega (arith, order, inside)) in
      let two = first-at higher inside in
      apart-either (get_or row lower 0) (get_or row higher 0) t u
      (differ lower higher 0 order inside)
      t_few u_few (sym (ap (λ (n : ℕ). n + t) one) ∙ e ∙ ap (λ (n : ℕ). n + u) two)

-- one slot more
pub firsts-step : (row : List ℕ) (width n : ℕ) → n < length row
    → map (λ s. s * width) (take (n + 1) row)
    ≡ map (λ s. s * width) (take n row) ++ (get_or row n 0 * width) ∷ []
firsts-step row width n low =
    let f : ℕ → ℕ = λ s. s * width in
    let more : take (n + 1) row ≡ take n row ++ get_or row n 0 ∷ [] =
    rw add-one (take-suc row n 0 low) in
    ap (map f) more ∙ map-append f (take n row) (get_or row n 0 ∷ [])
