-- Marks of slots on the ways to meetings.
use Rattle.std.proofs.Common.{◌≡◌, ◌≢◌, ℕ, ◌+◌, ◌<◌, Bool, true, false, Option, Some, None, List, length, get_or, length-set, sym, ap, subst, ◌∙◌, inl, inr, arith}
use Rattle.std.specs.Prelude.{slice_set}
use Rattle.std.proofs.lemmas.Bool.{cases_lt, false≢true}
use Rattle.std.proofs.lemmas.List.{get_or-set_other, get_or-set_same}
use Rattle.list_laws.proofs.Places.{none_is_not_some, some_is}
use Rattle.problem_facts.proofs.CellCountLemmas.{cases-eq}
use Rattle.sat_count.specs.Refuting.{Grows, RefutationState}
use Rattle.route_count.specs.Firsts.{AreClosed, AreLed, AreMarked, AreReady, IsLed, KeepsMarks}
use Rattle.problem_facts.specs.Leads.{TreesState, lead_at}
use Rattle.route_count.specs.Meetings.{meeting_at}
use Rattle.route_count.specs.declared.meetings.Meeting.{Meeting}
use Rattle.problem_facts.specs.declared.trees.Lead.{Lead}
use Rattle.route_count.proofs.FirstLemmas.{led-grows}

pub keeps-set : (passed : List Bool) (k : ℕ) → k < length passed
    → KeepsMarks passed (slice_set passed k true)
keeps-set passed k low s marked = elim (cases-eq s k) [
  | inl same ↦
      ap (λ (m : ℕ). get_or (slice_set passed k true) m false) same
      ∙ get_or-set_same passed k true false low
  | inr other ↦ get_or-set_other passed k s true false other ∙ marked
]

pub marked-keeps : (n : ℕ) (found : List (Option Meeting)) (old new : List Bool)
    → KeepsMarks old new → AreMarked n found old → AreMarked n found new
marked-keeps n found old new keeps marked lower higher m order low there =
    let was = marked lower higher m order low there in (keeps m.lower was.0, keeps m.higher was.1)

-- ---- the marks of meetings

-- those of one slot of a row with the ones before it
abbrev pub AreMarkedAt : (higher n : ℕ) → (found : List (Option Meeting)) → List Bool → Type 0
AreMarkedAt higher n found passed = (lower : ℕ) (m : Meeting) → lower < n
    → meeting_at found lower higher ≡ Some m
    → (get_or passed m.lower false ≡ true) × (get_or passed m.higher false ≡ true)

module _ (found : List (Option Meeting)) (higher lower : ℕ) (m : Meeting) (passed : List Bool)
    (there : meeting_at found lower higher ≡ Some m) (low : m.lower < length passed)
    (high : m.higher < length passed) where
  abbrev once : List Bool
  once = slice_set passed m.lower true

  abbrev twice : List Bool
  twice = slice_set once m.higher true

  second-room : m.higher < length once
  second-room = omega (arith, high, length-set passed m.lower true)

  pub both-kept : KeepsMarks passed twice
  both-kept s marked =
      keeps-set once m.higher second-room s (keeps-set passed m.lower low s marked)

  pub both-marked : (get_or twice m.lower false ≡ true) × (get_or twice m.higher false ≡ true)
  both-marked = (
    keeps-set once m.higher second-room m.lower
        (get_or-set_same passed m.lower true false low),
    get_or-set_same once m.higher true false second-room,
  )

  pub marked-more : AreMarkedAt higher lower found passed
      → AreMarkedAt higher (lower + 1) found twice
  marked-more are k other few is = elim (cases_lt k lower) [
    | inl before ↦
        (let was = are k other before is in
        (both-kept other.lower was.0, both-kept other.higher was.1))
    | inr not_before ↦
        (let same : k ≡ lower = omega (arith, few, not_before) in
        let one : m ≡ other =
        some_is (sym there ∙ sym (ap (λ (n : ℕ). meeting_at found n higher) same) ∙ is) in
        subst (λ (x : Meeting). (get_or twice x.lower false ≡ true)
        × (get_or twice x.higher false ≡ true)) one both-marked)
  ]

pub marked-all : (found : List (Option Meeting)) (higher : ℕ) (passed : List Bool)
    → AreMarked higher found passed → AreMarkedAt higher higher found passed
    → AreMarked (higher + 1) found passed
marked-all found higher passed before here lower h m order low there = elim (cases_lt h higher) [
  | inl earlier ↦ before lower h m order earlier there
  | inr not_earlier ↦
      (let same : h ≡ higher = omega (arith, low, not_earlier) in
      here lower m (omega (arith, order, same))
      (sym (ap (λ (n : ℕ). meeting_at found lower n) same) ∙ there))
]

-- ---- the ways

module _ (t : TreesState) (slot : ℕ) (passed : List Bool)
    (after : AreClosed t (slot + 1) passed) where
  closed-by : ((lead : Lead) → get_or passed slot false ≡ true → lead_at t slot ≡ Some lead
      → get_or passed lead.from false ≡ true) → AreClosed t slot passed
  closed-by here s lead from low marked some = elim (cases-eq s slot) [
    | inl same ↦
        here lead (sym (ap (λ (n : ℕ). get_or passed n false) same) ∙ marked)
        (sym (ap (λ (n : ℕ). lead_at t n) same) ∙ some)
    | inr other ↦ after s lead (omega (arith, from, other)) low marked some
  ]

  pub closed-unmarked : get_or passed slot false ≡ false → AreClosed t slot passed
  closed-unmarked not = closed-by (λ lead marked some. absurd (false≢true (sym not ∙ marked)))

  pub closed-first : lead_at t slot ≡ None → AreClosed t slot passed
  closed-first none =
      closed-by (λ lead marked some. absurd (none_is_not_some (sym none ∙ some)))

  module _ (lead : Lead) (some : lead_at t slot ≡ Some lead) (early : lead.from < slot)
      (room : lead.from < length passed) where
    pub closed-more : AreClosed t slot (slice_set passed lead.from true)
    closed-more s other from low marked is = elim (cases-eq s slot) [
      | inl same ↦
          (let one : lead ≡ other =
          some_is (sym some ∙ sym (ap (λ (n : ℕ). lead_at t n) same) ∙ is) in
          subst (λ (x : Lead). get_or (slice_set passed lead.from true) x.from false ≡ true) one
          (get_or-set_same passed lead.from true false room))
      | inr other_slot ↦
          (let apart : s ≢ lead.from = λ e. absurd (omega (arith, e, early, from)) in
          let was : get_or passed s false ≡ true =
          sym (get_or-set_other passed lead.from s true false apart) ∙ marked in
          keeps-set passed lead.from room other.from
          (after s other (omega (arith, from, other_slot))
          (omega (arith, low, length-set passed lead.from true)) was is))
    ]

-- ---- what is led

pub ready-all : (r : RefutationState) (t : TreesState) (width n slots : ℕ)
    (found : List (Option Meeting)) (passed : List Bool) (led : List ℕ)
    → ((lower higher : ℕ) (m : Meeting) → lower < higher → higher < n
    → meeting_at found lower higher ≡ Some m → (m.lower < slots) × (m.higher < slots))
    → AreMarked n found passed → AreLed r t width slots passed led
    → AreReady r t width n found led
ready-all r t width n slots found passed led within marked are lower higher m order low there =
    let in_slots = within lower higher m order low there in
    let marks = marked lower higher m order low there in (
      are m.lower in_slots.0 marks.0,
      are m.higher in_slots.1 marks.1,
    )

-- a slot more
pub all-led-more : (r new : RefutationState) (t : TreesState) (width slot last : ℕ)
    (passed : List Bool) (led : List ℕ) → slot < length led → Grows r new
    → IsLed new t width last slot → AreLed r t width slot passed led
    → AreLed new t width (slot + 1) passed (slice_set led slot last)
all-led-more r new t width slot last passed led low grows own are s few marked =
    elim (cases-eq s slot) [
      | inl same ↦
          subst (λ (k : ℕ). IsLed new t width (get_or (slice_set led slot last) k 0) k) (sym same)
          (subst (λ (n : ℕ). IsLed new t width n slot) (sym (get_or-set_same led slot last 0 low))
          own)
      | inr other ↦
          subst (λ (n : ℕ). IsLed new t width n s)
          (sym (get_or-set_other led slot s last 0 other))
          (led-grows r new t width (get_or led s 0) s grows
          (are s (omega (arith, few, other)) marked))
    ]
