-- The groups of tracks, and the change of tracks that brings one to the front of a group.
use Rattle.std.proofs.Common.{◌≡◌, ◌≢◌, ℕ, ◌+◌, ◌-◌, ◌*◌, ◌/◌, ◌<◌, ◌≤◌, ◌⊎◌, cond, List, [], ◌∷◌, refl, sym, subst, ◌∙◌, inl, inr, arith}
use Rattle.std.specs.Prelude.{◌==◌, drop}
use Rattle.std.proofs.lemmas.Bool.{cases_lt}
use Rattle.std.proofs.lemmas.Bool.Decides.{Decides-eqb, nat_tests}
use Rattle.list_laws.proofs.Members.{In}
use Rattle.fpga_types.specs.Tracks.{universal_track}
use Rattle.fpga_types.specs.declared.arch.Pattern.{Pattern}
use Rattle.fpga_types.specs.declared.arch.Pattern.TheVariants.{Subset, Wilton, Universal}
use Rattle.fpga_types.specs.declared.grid.Side.{Side}
use Rattle.fpga_types.specs.declared.grid.Side.TheVariants.{Left, Right, Bottom, Top}
use Rattle.route_encode.proofs.CompeteLemmas.{differs}
use Rattle.route_pinned.proofs.SwapLemmas.{IsChange, swap, swap-change, swap-other, swap-there}
use Rattle.problem_facts.specs.Groups.{group_count, track_group}

-- the track is in group p, which there is
abbrev pub IsIn : Pattern → (width p t : ℕ) → Type 0
IsIn pattern width p t = (p < group_count pattern width) × In (track_group pattern width p) t

-- what is in a list without its first is in the list
pub In-later : (xs : List ℕ) (x : ℕ) → In (drop 1 xs) x → In xs x
In-later [] x i = i
In-later (y ∷ ys) x i = inr i

-- ---- pairs

-- a pair stands below the middle
below-half : (width p : ℕ) → p < width / 2 → 2 * p + 1 < width
below-half width p low = omega (arith, low)

above-half : (width p : ℕ) → 2 * p + 1 < width → p < width / 2
above-half width p low = omega (arith, low)

one-of : (p q t : ℕ) → In (p ∷ q ∷ []) t → (p ≡ t) ⊎ (q ≡ t)
one-of p q t i = elim i [
  | inl e ↦ inl e
  | inr j ↦ elim j [ inl e ↦ inr e | inr none ↦ absurd none ]
]

only : (p t : ℕ) → In (p ∷ []) t → p ≡ t
only p t i = elim i [ inl e ↦ e | inr none ↦ absurd none ]

-- a track of a pair is not the middle one
pair-high : (width p v : ℕ) → p < width / 2 → In (p ∷ (width - 1 - p) ∷ []) v
    → (v < width) × (2 * v + 1 ≢ width)
pair-high width p v low i =
    let high = below-half width p low in
    elim (one-of p (width - 1 - p) v i) [
      | inl e ↦ (omega (arith, e, high), (λ g. omega (arith, e, high, g)))
      | inr e ↦ (omega (arith, e, high), (λ g. omega (arith, e, high, g)))
    ]

-- ---- what groups are

-- a track is in one group at most
pub in-alone : (pattern : Pattern) (width p q t : ℕ) → IsIn pattern width p t
    → IsIn pattern width q t → p ≡ q
in-alone Subset width p q t (low_p, in_p) (low_q, in_q) = only p t in_p ∙ sym (only q t in_q)
in-alone Wilton width p q t (low_p, in_p) (low_q, in_q) = absurd in_p
in-alone Universal width p q t (low_p, in_p) (low_q, in_q) =
    let high_p = below-half width p low_p in
    let high_q = below-half width q low_q in
    elim (one-of p (width - 1 - p) t in_p) [
      | inl e ↦ elim (one-of q (width - 1 - q) t in_q) [
        | inl f ↦ omega (arith, e, f)
        | inr f ↦ omega (arith, e, f, high_p, high_q)
      ]
      | inr e ↦ elim (one-of q (width - 1 - q) t in_q) [
        | inl f ↦ omega (arith, e, f, high_p, high_q)
        | inr f ↦ omega (arith, e, f, high_p, high_q)
      ]
    ]

-- a group's first track has the group's number
pub in-first : (pattern : Pattern) (width p : ℕ) → p < group_count pattern width
    → IsIn pattern width p p
in-first Subset width p low = (low, inl refl)
in-first Wilton width p low = absurd (omega (arith, low))
in-first Universal width p low = (low, inl refl)

-- and is no other track of a group
pub not-later : (pattern : Pattern) (width p q : ℕ) → p < group_count pattern width
    → q < group_count pattern width → In (drop 1 (track_group pattern width q)) p → ⊥
not-later Subset width p q low_p low_q i = i
not-later Wilton width p q low_p low_q i = i
not-later Universal width p q low_p low_q i =
    let high_p = below-half width p low_p in
    let high_q = below-half width q low_q in
    let e : width - 1 - q ≡ p = only (width - 1 - q) p i in
    omega (arith, e, high_p, high_q)

-- what is in a group is a track
pub in-within : (pattern : Pattern) (width p t : ℕ) → IsIn pattern width p t → t < width
in-within Subset width p t (low, i) = let e = only p t i in omega (arith, low, e)
in-within Wilton width p t (low, i) = absurd i
in-within Universal width p t (low, i) = (pair-high width p t low i).0

-- a track is in a group or in none
pub in-some : (pattern : Pattern) (width t : ℕ) → t < width
    → ((p : ℕ) × IsIn pattern width p t) ⊎ ((p : ℕ) → IsIn pattern width p t → ⊥)
in-some Subset width t low = inl (t, (low, inl refl))
in-some Wilton width t low = inr (λ p i. i.1)
in-some Universal width t low = elim (cases_lt (2 * t + 1) width) [
  | inl lower ↦ inl (t, (above-half width t lower, inl refl))
  | inr not_lower ↦ elim (cases_lt width (2 * t + 1)) [
    | inl upper ↦ inl (
      width - 1 - t,
      (
        above-half width (width - 1 - t) (omega (arith, upper, low)),
        inr (inl (omega (arith, low))),
      ),
    )
    | inr not_upper ↦ inr (λ p i.
        let high = below-half width p i.0 in
        elim (one-of p (width - 1 - p) t i.1) [
          | inl e ↦ omega (arith, e, high, not_lower)
          | inr e ↦ omega (arith, e, high, not_upper)
        ])
  ]
]

-- ---- turning a track to the front of a group

-- two pairs change places, so that track v becomes track k
abbrev turn_pair : (width v k : ℕ) → ℕ → ℕ
turn_pair width v k t =
    cond (t == v) k (cond (t == k) v
    (cond (t == width - 1 - v) (width - 1 - k) (cond (t == width - 1 - k) (width - 1 - v) t)))

abbrev pub turn : Pattern → (width v k : ℕ) → ℕ → ℕ
turn Subset width v k t = swap v k t
turn Wilton width v k t = t
turn Universal width v k t = turn_pair width v k t

turn-mirror : (width v k t : ℕ) → v < width → 2 * v + 1 ≢ width → 2 * k + 1 < width → t < width
    → width - 1 - turn_pair width v k t ≡ turn_pair width v k (width - 1 - t)
turn-mirror width v k t low_v off low_k low = grind (arith, nat_tests)

turn-through : (width v k : ℕ) → v < width → 2 * v + 1 ≢ width → 2 * k + 1 < width
    → (from to : Side) (t : ℕ) → t < width
    → universal_track width from to (turn_pair width v k t)
    ≡ turn_pair width v k (universal_track width from to t)
turn-through width v k low_v off low_k Left Top t h = turn-mirror width v k t low_v off low_k h
turn-through width v k low_v off low_k Top Left t h = turn-mirror width v k t low_v off low_k h
turn-through width v k low_v off low_k Right Bottom t h = turn-mirror width v k t low_v off low_k h
turn-through width v k low_v off low_k Bottom Right t h = turn-mirror width v k t low_v off low_k h
turn-through width v k low_v off low_k Left Left t h = refl
turn-through width v k low_v off low_k Left Right t h = refl
turn-through width v k low_v off low_k Left Bottom t h = refl
turn-through width v k low_v off low_k Right Left t h = refl
turn-through width v k low_v off low_k Right Right t h = refl
turn-through width v k low_v off low_k Right Top t h = refl
turn-through width v k low_v off low_k Bottom Left t h = refl
turn-through width v k low_v off low_k Bottom Bottom t h = refl
turn-through width v k low_v off low_k Bottom Top t h = refl
turn-through width v k low_v off low_k Top Right t h = refl
turn-through width v k low_v off low_k Top Bottom t h = refl
turn-through width v k low_v off low_k Top Top t h = refl

-- it goes through the switch blocks
pub turn-change : (pattern : Pattern) (width p v k : ℕ) → IsIn pattern width p v
    → k < group_count pattern width → IsChange pattern width (turn pattern width v k)
turn-change Subset width p v k (low, i) low_k =
    swap-change width v k (let e = only p v i in omega (arith, low, e)) low_k
turn-change Wilton width p v k (low, i) low_k = absurd i
turn-change Universal width p v k (low, i) low_k =
    let high = pair-high width p v low i in
    let high_k = below-half width k low_k in
    record {
      inside = λ t h. pair-inside width v k t high.0 high_k h;
      alone = λ t u e. pair-alone width v k t u high.0 high.1 high_k e;
      through = turn-through width v k high.0 high.1 high_k;
    }
  where
    pair-inside : (width v k t : ℕ) → v < width → 2 * k + 1 < width → t < width
        → turn_pair width v k t < width
    pair-inside width v k t low_v low_k low = grind (arith, nat_tests)

    pair-alone : (width v k t u : ℕ) → v < width → 2 * v + 1 ≢ width → 2 * k + 1 < width
        → turn_pair width v k t ≡ turn_pair width v k u → t ≡ u
    pair-alone width v k t u low_v off low_k e = grind (arith, nat_tests)

pub turn-there : (pattern : Pattern) (width p v k : ℕ) → IsIn pattern width p v
    → turn pattern width v k v ≡ k
turn-there Subset width p v k i = swap-there v k
turn-there Wilton width p v k i = absurd i.1
turn-there Universal width p v k i = rw ((Decides-eqb v v).1 refl) refl

-- tracks of the groups before stay, and so do those in no group
pub turn-other : (pattern : Pattern) (width p v k t : ℕ) → IsIn pattern width p v
    → k < group_count pattern width → k ≤ p
    → ((q : ℕ) → IsIn pattern width q t → q < k) → turn pattern width v k t ≡ t
turn-other Subset width p v k t (low, i) low_k late before =
    swap-other v k t
    (λ e. let g = before p (low, subst (λ (u : ℕ). In (p ∷ []) u) (sym e) i) in
    omega (arith, g, late))
    (λ e. let g = before k (low_k, inl (sym e)) in omega (arith, g))
turn-other Wilton width p v k t (low, i) low_k late before = absurd i
turn-other Universal width p v k t (low, i) low_k late before =
    let high = below-half width p low in
    let high_k = below-half width k low_k in
    let off : t ≢ v = λ e. let g = before p (
      low,
      subst (λ (u : ℕ). In (p ∷ (width - 1 - p) ∷ []) u)
          (sym e) i,
    ) in omega (arith, g, late) in
    let off_k : t ≢ k = λ e. let g = before k (low_k, inl (sym e)) in omega (arith, g) in
    let off_up : t ≢ width - 1 - k = λ e. let g = before k (low_k, inr (inl (sym e))) in
    omega (arith, g) in
    let off_turned : t ≢ width - 1 - v = λ e. elim (one-of p (width - 1 - p) v i) [
      | inl f ↦ (let g = before p (low, inr (inl (omega (arith, e, f)))) in omega (arith, g, late))
      | inr f ↦ (let g = before p (low, inl (omega (arith, e, f, high))) in omega (arith, g, late))
    ] in
    rw (
      differs t v off,
      differs t k off_k,
      differs t (width - 1 - v) off_turned,
      differs t (width - 1 - k) off_up,
    ) refl
