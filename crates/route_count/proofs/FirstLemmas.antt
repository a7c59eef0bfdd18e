-- Why the clauses of the first level are justified, by slots and tracks.
use Rattle.std.proofs.Common.{◌≡◌, ◌≢◌, ℕ, ◌+◌, ◌*◌, ◌<◌, ◌⊎◌, pos, true, Option, Some, None, List, [], ◌∷◌, length, get_or, sym, ap, subst, ◌∙◌, inl, inr, arith}
use Rattle.fpga_types.specs.Slots.{slot_at}
use Rattle.fpga_types.specs.declared.problem.Slot.{Slot}
use Rattle.route_encode.specs.Encoding.{place_of}
use Rattle.sat_clause.specs.Formula.{Cnf}
use Rattle.sat_clause.specs.Literal.{Clause, is_among}
use Rattle.sat_clause.specs.declared.literal.Lit.{Lit}
use Rattle.sat_clause.proofs.ReadingLaws.{AllFalse}
use Rattle.sat_rat.specs.FullRup.{full_rup}
use Rattle.sat_count.specs.Names.{no}
use Rattle.sat_count.specs.Places.{some_clause}
use Rattle.sat_count.specs.Refuting.{Grows, Holds, RefutationState, begun, live_of}
use Rattle.sat_count.proofs.HintLemmas.{false-two}
use Rattle.route_count.specs.Firsts.{AreReady, IsLed, IsMet, some_of}
use Rattle.problem_facts.specs.Leads.{AreTrees, TreesState, lead_at, root_at}
use Rattle.route_count.specs.Meetings.{IsMeeting}
use Rattle.route_count.specs.Said.{AreInNets, IsReason, apart_clause, chain_hints, led_clause}
use Rattle.route_count.specs.declared.meetings.Meeting.{Meeting}
use Rattle.problem_facts.specs.declared.trees.Lead.{Lead}
use Rattle.route_count.proofs.FirstRowLemmas.{apart-either, first-at}
use Rattle.route_count.proofs.FollowLemmas.{Leads, apart-follows, led-follows}

-- ---- what stands in a refutation stands as it grows

pub led-grows : (a b : RefutationState) (t : TreesState) (width behind s : ℕ) → Grows a b
    → IsLed a t width behind s → IsLed b t width behind s
led-grows a b t width behind s grows led lead before track some more few =
    grows.kept (behind + track + 1) (led_clause width (root_at t s) s track)
    (led lead before track some more few)

pub ready-grows : (a b : RefutationState) (t : TreesState) (width n : ℕ)
    (found : List (Option Meeting)) (led : List ℕ) → Grows a b → AreReady a t width n found led
    → AreReady b t width n found led
ready-grows a b t width n found led grows are lower higher m order low there =
    let was = are lower higher m order low there in (
      led-grows a b t width (get_or led m.lower 0) m.lower grows was.0,
      led-grows a b t width (get_or led m.higher 0) m.higher grows was.1,
    )

-- ---- the clauses of the row

pub some-as : (width : ℕ) (row : List ℕ) (place : ℕ) → place < length row
    → some_clause (get_or row place 0 * width) width ≡ some_of width row place
some-as width row place low =
    ap (λ (first : ℕ). some_clause first width) (sym (first-at row width place low))

-- ---- slots of a meeting

module _ (all : List Slot) (t : TreesState) (nets : AreInNets all t) (a b : ℕ) (m : Meeting)
    (met : IsMeeting all t a b m) where
  of-lower : (slot_at all a).net ≡ (slot_at all m.lower).net
  of-lower = ap (λ (n : ℕ). (slot_at all n).net) (sym met.of_lower)
      ∙ nets.nets m.lower met.lower

  of-higher : (slot_at all b).net ≡ (slot_at all m.higher).net
  of-higher = ap (λ (n : ℕ). (slot_at all n).net) (sym met.of_higher)
      ∙ nets.nets m.higher met.higher

  pub slots-apart : (slot_at all m.lower).net ≢ (slot_at all m.higher).net
  slots-apart e = met.nets (of-lower ∙ e ∙ sym of-higher)

  net-of : (s q : ℕ) → s ≡ q → (slot_at all s).net ≡ (slot_at all q).net
  net-of s q e = ap (λ (n : ℕ). (slot_at all n).net) e

  pub other-slots : m.lower ≢ m.higher
  other-slots e = slots-apart (net-of m.lower m.higher e)

  lower-not : b ≢ m.lower
  lower-not e = met.nets (of-lower ∙ sym (net-of b m.lower e))

  higher-not : a ≢ m.higher
  higher-not e = met.nets (net-of a m.higher e ∙ sym of-higher)

-- ---- why they follow

other-place : (width a b track : ℕ) → a ≢ b → track < width
    → place_of width a track ≢ place_of width b track
other-place width a b track other few = apart-either [] width a b track track other few few

module _ (r : RefutationState) (t : TreesState) (trees : AreTrees t) (width track : ℕ)
    (few : track < width) where
  -- a slot that is come to is not the first of its tree
  pub not-first : (s : ℕ) (lead : Lead) → s < length t.roots → lead_at t s ≡ Some lead
      → root_at t s ≢ s
  not-first s lead low some e =
      let led = trees.led s lead low some in
      let before = trees.low lead.from (omega (arith, led.0, low)) in
      omega (arith, led.0, led.2, before, e)

  pub led-justified : (s : ℕ) (lead before : Lead) (first second : ℕ) → s < length t.roots
      → lead_at t s ≡ Some lead → lead_at t lead.from ≡ Some before
      → Holds r first (led_clause width (root_at t lead.from) lead.from track)
      → Holds r second (led_clause width lead.from s track)
      → full_rup (live_of r) (led_clause width (root_at t s) s track)
      (pos first ∷ pos second ∷ [])
      ≡ None
  led-justified s lead before first second low some more from step =
      let led = trees.led s lead low some in
      let root : root_at t lead.from ≡ root_at t s = led.2 in
      let other : root_at t s ≢ lead.from =
      λ e. not-first lead.from before (omega (arith, led.0, low)) more (root ∙ e) in
      led-follows (live_of r) first second (place_of width (root_at t s) track)
      (place_of width lead.from track) (place_of width s track)
      (subst (λ (n : ℕ). Holds r first (led_clause width n lead.from track)) root from).there
      step.there
      (other-place width (root_at t s) lead.from track other few)
      (other-place width s lead.from track
      (λ e. absurd (omega (arith, e, led.0))) few)

  leads-as : (a b : ℕ) (o : Option ℕ) → IsReason r width a b track o
      → Leads (live_of r) (place_of width a track) (place_of width b track) o
  leads-as a b None is = ap (λ (n : ℕ). place_of width n track) is
  leads-as a b (Some hint) is = is.1.there

  reason-differs : (a b : ℕ) (o : Option ℕ) (hint : ℕ) → IsReason r width a b track o
      → o ≡ Some hint → place_of width a track ≢ place_of width b track
  reason-differs a b None hint is e = absurd (let clash : None ≡ Some hint = e in cc)
  reason-differs a b (Some found) hint is e = other-place width a b track is.0 few

  module _ (all : List Slot) (nets : AreInNets all t) (a b : ℕ) (m : Meeting)
      (met : IsMeeting all t a b m) where
    pub apart-justified : (lower higher : Option ℕ) (last : ℕ)
        → IsReason r width (root_at t m.lower) m.lower track lower
        → IsReason r width (root_at t m.higher) m.higher track higher
        → Holds r last (apart_clause width m.lower m.higher track)
        ⊎ Holds r last (apart_clause width m.higher m.lower track)
        → full_rup (live_of r) (apart_clause width a b track)
        (chain_hints lower higher last) ≡ None
    apart-justified lower higher last from to said =
        let at : ℕ → ℕ = λ s. place_of width s track in
        let from_a : IsReason r width a m.lower track lower =
        subst (λ (n : ℕ). IsReason r width n m.lower track lower) met.of_lower from in
        let to_b : IsReason r width b m.higher track higher =
        subst (λ (n : ℕ). IsReason r width n m.higher track higher) met.of_higher to in
        let follows = λ (c : Clause) (there : Holds r last c)
        (both : (set : List Lit) → is_among set (no (at m.lower)) ≡ true
        → is_among set (no (at m.higher)) ≡ true → AllFalse set c).
        apart-follows (live_of r) (at a) (at b) (at m.lower) (at m.higher) lower higher last c
        (leads-as a m.lower lower from_a) (leads-as b m.higher higher to_b) there.there both
        (λ hint is. reason-differs a m.lower lower hint from_a is)
        (other-place width b m.lower track (lower-not all t nets a b m met) few)
        (other-place width a m.higher track (higher-not all t nets a b m met) few)
        (λ hint is. reason-differs b m.higher higher hint to_b is)
        (other-place width m.lower m.higher track (other-slots all t nets a b m met) few) in
        elim said [
          | inl there ↦
              follows (apart_clause width m.lower m.higher track) there
              (λ set x y. false-two set (no (at m.lower)) (no (at m.higher)) x y)
          | inr there ↦
              follows (apart_clause width m.higher m.lower track) there
              (λ set x y. false-two set (no (at m.higher)) (no (at m.lower)) y x)
        ]

-- what the formula says is said in what grows from it
pub met-grows : (cnf : Cnf) (r : RefutationState) (width track : ℕ) (m : Meeting) (id : ℕ)
    → Grows (begun cnf) r → IsMet cnf width track m id
    → Holds r id (apart_clause width m.lower m.higher track)
    ⊎ Holds r id (apart_clause width m.higher m.lower track)
met-grows cnf r width track m id grows (inl said) =
    inl (grows.kept id (apart_clause width m.lower m.higher track) said)
met-grows cnf r width track m id grows (inr said) =
    inr (grows.kept id (apart_clause width m.higher m.lower track) said)
