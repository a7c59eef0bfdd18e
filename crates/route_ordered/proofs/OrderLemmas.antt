-- The tracks of a legal routing of some nets may change places so that a row of their slots comes to
-- the groups of tracks in their order.
use Rattle.std.proofs.Common.{◌≡◌, ℕ, zero, suc, ◌<◌, ◌≤◌, true, List, length, get_or, sym, ap, subst, ◌∙◌, inl, inr, arith}
use Rattle.std.specs.Prelude.{map, drop}
use Rattle.std.proofs.lemmas.Bool.{cases_lt}
use Rattle.std.proofs.lemmas.List.{get_or-map}
use Rattle.list_laws.proofs.Members.{In, In-contains, contains-In}
use Rattle.fpga_types.specs.Fits.{Fits}
use Rattle.fpga_types.specs.Problem.{RoutingProblem}
use Rattle.fpga_types.specs.Slots.{slots}
use Rattle.fpga_types.specs.declared.arch.Pattern.{Pattern}
use Rattle.fpga_types.proofs.MeetingLemmas.{both_true}
use Rattle.route_core.specs.Core.{IsLegalRoutingOf, IsOf}
use Rattle.route_core.proofs.PartLemmas.{every_net, of-every, part-legal, whole-legal}
use Rattle.route_pinned.proofs.SwapLemmas.{AreOpen, are-open, changed-legal}
use Rattle.problem_facts.specs.Groups.{group_count, is_exchangeable, track_group}
use Rattle.route_ordered.specs.Ordered.{AreInOrder, AreSlots, OrderChangesNothing}
use Rattle.route_ordered.proofs.GroupLemmas.{In-later, IsIn, in-alone, in-first, in-some, not-later, turn, turn-change, turn-other, turn-there}

-- of the first m tracks of a row, those that are in groups are in the first k ones, each of which
-- has one, and they come to them in their order
pub record HasOrder (pattern : Pattern) (width : ℕ) (track : ℕ → ℕ) (m k : ℕ) : Type 0 where
  pub placed : (i q : ℕ) → i < m → IsIn pattern width q (track i) → q < k
  pub used : (q : ℕ) → q < k → (j : ℕ) × (j < m) × In (track_group pattern width q) (track j)
  pub groups : (i q : ℕ) → i < m → IsIn pattern width (suc q) (track i)
      → (j : ℕ) × (j < i) × In (track_group pattern width q) (track j)
  pub turns : (i q : ℕ) → i < m → q < group_count pattern width
      → In (drop 1 (track_group pattern width q)) (track i)
      → (j : ℕ) × (j < i) × In (track_group pattern width q) (track j)

module _ (pattern : Pattern) (width : ℕ) where
  abbrev group : ℕ → List ℕ
  group q = track_group pattern width q

  module _ (track : ℕ → ℕ) (m k : ℕ) (h : HasOrder pattern width track m k) where
    -- the next track is in one of the first k groups, or in none
    pub order-same : ((q : ℕ) → IsIn pattern width q (track m) → q < k)
        → HasOrder pattern width track (suc m) k
    order-same old = record {
      placed = λ i q low here. elim (cases_lt i m) [
        | inl before ↦ h.placed i q before here
        | inr not_before ↦ (let e : i ≡ m = omega (arith, low, not_before) in
            old q (here.0, subst (λ (n : ℕ). In (group q) (track n)) e here.1))
      ];
      used = λ q low. let r = h.used q low in (r.0, omega (arith, r.1), r.2);
      groups = λ i q low here. elim (cases_lt i m) [
        | inl before ↦ h.groups i q before here
        | inr not_before ↦ (let e : i ≡ m = omega (arith, low, not_before) in
            let high = old (suc q)
            (here.0, subst (λ (n : ℕ). In (group (suc q)) (track n)) e here.1) in
            let r = h.used q (omega (arith, high)) in (r.0, omega (arith, r.1, e), r.2))
      ];
      turns = λ i q low low_q here. elim (cases_lt i m) [
        | inl before ↦ h.turns i q before low_q here
        | inr not_before ↦ (let e : i ≡ m = omega (arith, low, not_before) in
            let high = old q (
              low_q,
              subst (λ (n : ℕ). In (group q) (track n)) e
                  (In-later (group q) (track i) here),
            ) in
            let r = h.used q high in (r.0, omega (arith, r.1, e), r.2))
      ];
    }

    -- the next track becomes the first of the next group, and those before stay
    module _ (now : ℕ → ℕ) (stay : (i : ℕ) → i < m → now i ≡ track i) (front : now m ≡ k)
        (low_k : k < group_count pattern width) where
      moved : (q j : ℕ) → j < m → In (group q) (track j) → In (group q) (now j)
      moved q j low i = subst (λ (t : ℕ). In (group q) t) (sym (stay j low)) i

      back : (xs : List ℕ) (j : ℕ) → j < m → In xs (now j) → In xs (track j)
      back xs j low i = subst (λ (t : ℕ). In xs t) (stay j low) i

      at-front : (xs : List ℕ) (i : ℕ) → i ≡ m → In xs (now i) → In xs k
      at-front xs i e here =
          subst (λ (t : ℕ). In xs t) (ap now e ∙ front) here

      is-next : (q i : ℕ) → i ≡ m → IsIn pattern width q (now i) → q ≡ k
      is-next q i e here =
          in-alone pattern width q k k (here.0, at-front (group q) i e here.1)
          (in-first pattern width k low_k)

      pub order-new : HasOrder pattern width now (suc m) (suc k)
      order-new = record {
        placed = λ i q low here. elim (cases_lt i m) [
          | inl before ↦
              (let g = h.placed i q before (here.0, back (group q) i before here.1) in
              omega (arith, g))
          | inr not_before ↦
              (let g = is-next q i (omega (arith, low, not_before)) here in omega (arith, g))
        ];
        used = λ q low. elim (cases_lt q k) [
          | inl before ↦
              (let r = h.used q before in (r.0, omega (arith, r.1), moved q r.0 r.1 r.2))
          | inr not_before ↦
              (let e : q ≡ k = omega (arith, low, not_before) in (
                m,
                omega arith,
                subst (λ (t : ℕ). In (group q) t) (e ∙ sym front)
                    (in-first pattern width q (omega (arith, e, low_k))).1,
              ))
        ];
        groups = λ i q low here. elim (cases_lt i m) [
          | inl before ↦
              (let r = h.groups i q before (here.0, back (group (suc q)) i before here.1) in
              (r.0, r.1, moved q r.0 (omega (arith, r.1, before)) r.2))
          | inr not_before ↦
              (let e : i ≡ m = omega (arith, low, not_before) in
              let g = is-next (suc q) i e here in
              let r = h.used q (omega (arith, g)) in
              (r.0, omega (arith, r.1, e), moved q r.0 r.1 r.2))
        ];
        turns = λ i q low low_q here. elim (cases_lt i m) [
          | inl before ↦
              (let r = h.turns i q before low_q (back (drop 1 (group q)) i before here) in
              (r.0, r.1, moved q r.0 (omega (arith, r.1, before)) r.2))
          | inr not_before ↦
              absurd (not-later pattern width k q low_k low_q
              (at-front (drop 1 (group q)) i (omega (arith, low, not_before)) here))
        ];
      }

-- ---- one slot after another

module _ (width : ℕ) (p : RoutingProblem) (fits : Fits p) (full : AreOpen width p)
    (row : List ℕ) (there : AreSlots p row) (nets : List ℕ)
    (of : (i : ℕ) → i < length row → IsOf nets (slots p.route) (get_or row i 0)) where
  abbrev pattern : Pattern
  pattern = p.arch.pattern

  -- the track of the row's slot at a place
  abbrev track_at : List ℕ → ℕ → ℕ
  track_at tracks i = get_or tracks (get_or row i 0) 0

  -- a legal routing of the nets in which the first m slots of the row, which are theirs, come to
  -- the groups in their order
  abbrev IsFound : ℕ → Type 0
  IsFound m = (found : List ℕ) × IsLegalRoutingOf width p nets found × (k : ℕ)
      × HasOrder pattern width (track_at found) m k

  module _ (m : ℕ) (low : m < length row) (found : List ℕ)
      (legal : IsLegalRoutingOf width p nets found) (k : ℕ)
      (order : HasOrder pattern width (track_at found) m k) where
    in-range : (i : ℕ) → i < length row → get_or row i 0 < length found
    in-range i inside = omega (arith, there i 0 inside, legal.each)

    below-width : track_at found m < width
    below-width = legal.within (get_or row m 0) (there m 0 low) (of m low)

    -- where the slot's track is in a later group, it is turned to the front of the next one
    turned : (q : ℕ) → IsIn pattern width q (track_at found m) → k ≤ q → IsFound (suc m)
    turned q here late =
        let v : ℕ = track_at found m in
        let low_k : k < group_count pattern width = omega (arith, here.0, late) in
        let f : ℕ → ℕ = turn pattern width v k in
        let moved : (i : ℕ) → i < length row → track_at (map f found) i ≡ f (track_at found i) =
        λ i inside. get_or-map f found (get_or row i 0) 0 0 (in-range i inside) in (
          map f found,
          changed-legal width p fits full f (turn-change pattern width q v k here low_k) nets found
              legal,
          suc k,
          order-new pattern width (track_at found) m k order (track_at (map f found))
              (λ i before. moved i (omega (arith, before, low))
              ∙ turn-other pattern width q v k (track_at found i) here low_k late
              (λ r in_r. order.placed i r before in_r))
              (moved m low ∙ turn-there pattern width q v k here) low_k,
        )

    same : ((q : ℕ) → IsIn pattern width q (track_at found m) → q < k) → IsFound (suc m)
    same old = (found, legal, k, order-same pattern width (track_at found) m k order old)

    next-ordered : IsFound (suc m)
    next-ordered = elim (in-some pattern width (track_at found m) below-width) [
      | inl some ↦ elim (cases_lt some.0 k) [
        | inl before ↦ same (λ q here.
            let e = in-alone pattern width q some.0 (track_at found m) here some.1 in
            omega (arith, e, before))
        | inr late ↦ turned some.0 some.1 (omega (arith, late))
      ]
      | inr none ↦ same (λ q here. absurd (none q here))
    ]

  ordered-first : (m : ℕ) → m ≤ length row → (tracks : List ℕ)
      → IsLegalRoutingOf width p nets tracks → IsFound m
  ordered-first zero low tracks h = (
    tracks,
    h,
    0,
    record {
      placed = λ i q below here. absurd (omega (arith, below));
      used = λ q below. absurd (omega (arith, below));
      groups = λ i q below here. absurd (omega (arith, below));
      turns = λ i q below low_q here. absurd (omega (arith, below));
    },
  )
  ordered-first (suc m) low tracks h =
      let r = ordered-first m (omega (arith, low)) tracks h in
      next-ordered m (omega (arith, low)) r.0 r.1 r.2 r.3

  -- where the nets have a legal routing by themselves, they have one in which the row is in order
  pub ordered-part : (tracks : List ℕ) → IsLegalRoutingOf width p nets tracks
      → (found : List ℕ) × IsLegalRoutingOf width p nets found
      × AreInOrder pattern width row found
  ordered-part tracks legal =
      let r = ordered-first (length row) (omega arith) tracks legal in (
        r.0,
        r.1,
        record {
          groups = λ i q low low_q here.
              let s = r.3.groups i q low (
                low_q,
                In-contains (track_group pattern width (suc q))
                    (track_at r.0 i) here,
              ) in
              (s.0, s.1, contains-In (track_group pattern width q) (track_at r.0 s.0) s.2);
          turns = λ i q low low_q here.
              let s = r.3.turns i q low low_q (In-contains
              (drop 1 (track_group pattern width q)) (track_at r.0 i) here) in
              (s.0, s.1, contains-In (track_group pattern width q) (track_at r.0 s.0) s.2);
        },
      )

-- ---- the law

pub nothing_changes : (width : ℕ) (p : RoutingProblem) (row : List ℕ) → Fits p
    → is_exchangeable width p ≡ true → AreSlots p row → OrderChangesNothing width p row
nothing_changes width p row fits h there = (
  (λ routable.
      let nets : List ℕ = every_net width p in
      let r = ordered-part width p fits (are-open width p (both_true _ _ h).1) row there nets
      (λ i low. of-every width p (get_or row i 0) (there i 0 low)) routable.0
      (part-legal width p nets routable.0 routable.1) in
      (r.0, whole-legal width p fits r.0 r.1, r.2)),
  (λ r. (r.0, r.1)),
)
