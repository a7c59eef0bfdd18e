-- The values that obey the clauses are the bits of the tracks of legal routings, and these alone,
-- whatever the switch blocks join and the connection boxes open.
use Rattle.std.proofs.Common.{◌≡◌, ◌≢◌, ℕ, zero, suc, ◌+◌, ◌*◌, ◌<◌, ◌≤◌, Bool, true, false, List, [], ◌∷◌, ◌++◌, length, get_or, Option, Some, refl, sym, ap, subst, ◌∙◌, inl, inr, arith, length-append}
use Rattle.std.specs.Prelude.{◌==◌, ◌↔◌, IsTrue}
use Rattle.std.proofs.lemmas.Bool.{cases_lt, false≢true}
use Rattle.std.proofs.lemmas.Bool.Decides.{Decides-eqb}
use Rattle.std.proofs.lemmas.List.{get_or-append-add, get_or_append_left, get_or_default}
use Rattle.list_laws.proofs.Members.{In, In-all, all-from_In}
use Rattle.fpga_types.specs.Fit.{IsFit}
use Rattle.fpga_types.specs.Legal.{IsLegal, wire_of}
use Rattle.fpga_types.specs.Slots.{pairs, pin_steps, slot_at, slots, steps}
use Rattle.fpga_types.specs.Tracks.{AreJoined, TrackMap, track_across}
use Rattle.fpga_types.specs.declared.grid.Cell.{Cell}
use Rattle.fpga_types.specs.declared.grid.PinAt.{PinAt}
use Rattle.fpga_types.specs.declared.grid.Side.{Side}
use Rattle.fpga_types.specs.declared.grid.Wire.{Wire}
use Rattle.fpga_types.specs.declared.problem.PinStep.{PinStep}
use Rattle.fpga_types.specs.declared.problem.RouteStep.{RouteStep}
use Rattle.fpga_types.specs.declared.route.RouteText.{RouteText}
use Rattle.fpga_types.proofs.MeetingLemmas.{across-joined, joined-across}
use Rattle.fpga_bounds.proofs.StepFacts.{IsGoodStep, good-steps}
use Rattle.sat_clause.specs.Formula.{Satisfies}
use Rattle.route_encode.specs.Bits.{bits}
use Rattle.route_encode.specs.Encoding.{track_after}
use Rattle.route_encode.specs.Said.{AreSaid, says}
use Rattle.route_encode.proofs.BitLemmas.{bits-within, length-bits, same-values, says-bits}
use Rattle.route_encode.proofs.CompeteLemmas.{competes-as, competing, differs, from-pair, pair-in}
use Rattle.route_encode.proofs.Models.{Obeys, cnf_by, obeys-satisfies, satisfies-obeys}
use Rattle.route_encode.proofs.PinSlots.{pin-slot}

-- the tracks of a channel are joined to tracks of a channel
abbrev pub StaysWithin : TrackMap → ℕ → Type 0
StaysWithin table width = (from to : Side) (t : ℕ) → t < width → table from to t < width

-- the test says which tracks are open to a pin
abbrev pub Agree : (PinAt → ℕ → Bool) → (PinAt → ℕ → Type 0) → Type 0
Agree open_at OpenAt = (pin : PinAt) (t : ℕ) → IsTrue (open_at pin t) ↔ OpenAt pin t

module _ (table : TrackMap) (open_at : PinAt → ℕ → Bool) (OpenAt : PinAt → ℕ → Type 0) (width : ℕ)
    (route : RouteText) (stays : StaysWithin table width) (agree : Agree open_at OpenAt)
    (fit : IsFit route) where
  abbrev across : Cell → Cell → ℕ → Option ℕ
  across = track_across table route.grid

  -- the tracks make a legal routing
  abbrev IsLegalHere : List ℕ → Type 0
  IsLegalHere tracks = IsLegal (AreJoined table route.grid) OpenAt width route tracks

  -- the values satisfy the clauses
  abbrev IsModel : List Bool → Type 0
  IsModel values = Satisfies values (cnf_by across open_at width route)

  -- the values obey the clauses
  abbrev Obey : List Bool → Type 0
  Obey values = Obeys across open_at width route values

  step-good : (step : RouteStep) → In (steps route) step → IsGoodStep route step
  step-good step i = In-all (IsGoodStep route) (steps route) step (good-steps route fit) i

  -- a slot has one track alone
  one-track : (values : List Bool) → Obey values → (s t u : ℕ) → s < length (slots route)
      → t < width → u < width → says values width s t ≡ true → says values width s u ≡ true → t ≡ u
  one-track values h s t u low in_t in_u f g =
      elim (cases_lt t u) [
        | inl below ↦ absurd (h.one s t u low below in_u f g)
        | inr not_below ↦ (elim (cases_lt u t) [
          | inl above ↦ absurd (h.one s u t low above in_t g f)
          | inr not_above ↦ omega arith
        ])
      ]

  -- a track of the cell of a slot
  abbrev wire_at : ℕ → ℕ → Wire
  wire_at s t = record { cell = (slot_at (slots route) s).cell; track = t }

  -- where a track is joined to one of the next slot, that is one of the channel
  joined-at : (step : RouteStep) (t u : ℕ) → t < width
      → track_after across (slots route) step t ≡ Some u
      → AreJoined table route.grid (wire_at step.from t) (wire_at step.to u) × (u < width)
  joined-at step t u low e =
      let join = across-joined table route.grid (wire_at step.from t) (wire_at step.to u) e in
      (join, subst (λ (v : ℕ). v < width) join.2 (stays join.0.from join.0.to t low))

  -- tracks that the values say are those of a legal routing
  pub obeys-legal : (values : List Bool) (tracks : List ℕ) → Obey values → length tracks
      ≡ length (slots route) → AreSaid values width tracks (length (slots route))
      → IsLegalHere tracks
  obeys-legal values tracks h each said = record {
    each = each;
    within = λ k d inside. let low : k < length (slots route) = omega (arith, inside, each) in
        subst (λ (t : ℕ). t < width) (get_or_default tracks k 0 d inside) (said k low).0;
    joined = all-from_In
        (λ s. AreJoined table route.grid (wire_of (slots route) tracks s.from)
        (wire_of (slots route) tracks s.to)) (steps route) (λ step i.
        let good = step-good step i in
        let from = said step.from good.0.0 in
        let to = said step.to good.0.1 in
        let on = h.joined step (get_or tracks step.from 0) i from.0 from.1 in
        let there = joined-at step (get_or tracks step.from 0) on.0 from.0 on.1 in
        let track : on.0 ≡ get_or tracks step.to 0 =
        one-track values h step.to on.0
        (get_or tracks step.to 0) good.0.1 there.1 to.0 on.2 to.1 in
        subst (λ (u : ℕ). AreJoined table route.grid (wire_of (slots route) tracks step.from)
        (wire_at step.to u)) track there.0);
    reached = all-from_In (λ p. OpenAt p.pin (get_or tracks p.slot 0)) (pin_steps route)
        (λ p i. opened p i (open_at p.pin (get_or tracks p.slot 0)) refl);
    apart = λ a b low_a low_b nets cells same. elim (cases_lt a b) [
      | inl below ↦ rivals a b below low_b nets cells same
      | inr not_below ↦ (elim (cases_lt b a) [
        | inl above ↦ rivals b a above low_a (λ e. nets (sym e)) (sym cells) (sym same)
        | inr not_above ↦ nets (ap (λ (s : ℕ). (slot_at (slots route) s).net) (let e : a ≡ b =
            omega arith in e))
      ])
    ];
  }
    where
      opened : (p : PinStep) → In (pin_steps route) p → (b : Bool)
          → open_at p.pin (get_or tracks p.slot 0) ≡ b → OpenAt p.pin (get_or tracks p.slot 0)
      opened p i true e = (agree p.pin (get_or tracks p.slot 0)).0 e
      opened p i false e = let at = said p.slot (pin-slot route p i) in
          absurd (h.open_to p (get_or tracks p.slot 0) i at.0 e at.1)

      rivals : (a b : ℕ) → a < b → b < length (slots route)
          → (slot_at (slots route) a).net ≢ (slot_at (slots route) b).net
          → (slot_at (slots route) a).cell ≡ (slot_at (slots route) b).cell
          → get_or tracks a 0 ≡ get_or tracks b 0 → ⊥
      rivals a b below low nets cells same =
          let at_a = said a (omega arith) in
          let at_b = said b low in
          let pair =
          pair-in (slots route) a b below low
          (competing (slot_at (slots route) a) (slot_at (slots route) b) nets cells) in
          h.apart (a, b) (get_or tracks a 0) pair at_a.0 at_a.1
          (subst (λ (t : ℕ). says values width b t ≡ true) (sym same) at_b.1)

  -- the bits of a legal routing obey the clauses
  legal-obeys : (tracks : List ℕ) → IsLegalHere tracks → Obey (bits width tracks)
  legal-obeys tracks h = record {
    many = length-bits width tracks ∙ ap (λ (n : ℕ). n * width) h.each;
    some = λ s low.
        let within : get_or tracks s 0 < width = h.within s 0 (omega (arith, low, h.each)) in (
          get_or tracks s 0,
          within,
          said s (get_or tracks s 0) low within
              ∙ (Decides-eqb (get_or tracks s 0) (get_or tracks s 0)).1 refl,
        );
    one = λ s t u low below in_u f g.
        let t_is = track-is s t low (omega arith) f in
        let u_is = track-is s u low in_u g in
        omega (arith, below, t_is, u_is);
    open_to = λ p t i low closed f.
        let t_is = track-is p.slot t (pin-slot route p i) low f in
        let open_there =
        In-all (λ q. OpenAt q.pin (get_or tracks q.slot 0)) (pin_steps route) p h.reached i in
        false≢true (sym closed
        ∙ (agree p.pin t).1 (subst (λ (u : ℕ). OpenAt p.pin u) (sym t_is) open_there));
    joined = λ step t i low f.
        let good = step-good step i in
        let t_is = track-is step.from t good.0.0 low f in
        let join =
        In-all (λ s. AreJoined table route.grid (wire_of (slots route) tracks s.from)
        (wire_of (slots route) tracks s.to)) (steps route) step h.joined i in
        let over : track_after across (slots route) step (get_or tracks step.from 0)
        ≡ Some (get_or tracks step.to 0) =
        joined-across table route.grid (wire_of (slots route) tracks step.from)
        (wire_of (slots route) tracks step.to) join in
        let inside : get_or tracks step.to 0 < width =
        h.within step.to 0 (omega (arith, good.0.1, h.each)) in (
          get_or tracks step.to 0,
          subst (λ (v : ℕ). track_after across (slots route) step v
              ≡ Some (get_or tracks step.to 0)) (sym t_is) over,
          said step.to (get_or tracks step.to 0) good.0.1 inside
              ∙ (Decides-eqb (get_or tracks step.to 0) (get_or tracks step.to 0)).1 refl,
        );
    apart = λ p t i low f g.
        let pair = from-pair (slots route) p i in
        let ends =
        competes-as (slot_at (slots route) p.0) (slot_at (slots route) p.1) pair.compete in
        let in_a : p.0 < length (slots route) = omega (arith, pair.order, pair.within) in
        let a_is = track-is p.0 t in_a low f in
        let b_is = track-is p.1 t pair.within low g in
        h.apart p.0 p.1 in_a pair.within ends.0 ends.1 (sym a_is ∙ b_is);
  }
    where
      said : (s t : ℕ) → s < length (slots route) → t < width → says (bits width tracks) width s t
          ≡ (t == get_or tracks s 0)
      said s t low inside =
          says-bits width tracks s t (λ k here. h.within k 0 here)
          (omega (arith, low, h.each)) inside

      track-is : (s t : ℕ) → s < length (slots route) → t < width
          → says (bits width tracks) width s t ≡ true → t ≡ get_or tracks s 0
      track-is s t low inside f = (Decides-eqb t (get_or tracks s 0)).0 (sym (said s t low inside)
          ∙ f)

  -- values that say tracks of all slots are their bits
  pub said-bits : (values : List Bool) (tracks : List ℕ) → Obey values → length tracks
      ≡ length (slots route) → AreSaid values width tracks (length (slots route))
      → values ≡ bits width tracks
  said-bits values tracks h each are =
      same-values width (length (slots route)) values (bits width tracks) h.many
      (length-bits width tracks ∙ ap (λ (n : ℕ). n * width) each) (λ s t low inside.
      go s t low inside (says values width s t) refl
      ∙ sym (says-bits width tracks s t (λ k here. (are k (omega (arith, here, each))).0)
      (omega (arith, low, each)) inside))
    where
      go : (s t : ℕ) → s < length (slots route) → t < width → (b : Bool) → says values width s t ≡ b
          → says values width s t ≡ (t == get_or tracks s 0)
      go s t low inside true e =
          e ∙ sym ((Decides-eqb t (get_or tracks s 0)).1
          (one-track values h s t (get_or tracks s 0) low inside (are s low).0 e (are s low).1))
      go s t low inside false e =
          e ∙ sym (differs t (get_or tracks s 0)
          (λ same. false≢true (sym e ∙ subst (λ (u : ℕ). says values width s u ≡ true) (sym same)
          (are s low).1)))

  -- tracks for the first slots, as the values say them
  tracks-said : (values : List Bool) → Obey values → (m : ℕ) → m ≤ length (slots route)
      → (tracks : List ℕ) × (length tracks ≡ m) × AreSaid values width tracks m
  tracks-said values h zero low = ([], refl, λ s below. absurd (omega arith))
  tracks-said values h (suc m) low =
      let r = tracks-said values h m (omega arith) in
      let next = h.some m low in
      let tracks : List ℕ = r.0 ++ next.0 ∷ [] in (
        tracks,
        length-append r.0 (next.0 ∷ []) ∙ omega (arith, r.1),
        λ s below. elim (cases_lt s m) [
          | inl earlier ↦ (let e : get_or tracks s 0 ≡ get_or r.0 s 0 =
              get_or_append_left r.0 (next.0 ∷ []) 0 s (omega (arith, earlier, r.1)) in
              (rw e (r.2 s earlier).0, rw e (r.2 s earlier).1))
          | inr last ↦ (let here : s ≡ length r.0 + 0 = omega (arith, below, last, r.1) in
              let e : get_or tracks s 0 ≡ next.0 =
              rw here (get_or-append-add r.0 (next.0 ∷ []) 0 0) in
              let at : s ≡ m = omega (arith, below, last) in
              (rw e next.1, rw (e, at) next.2))
        ],
      )

  pairs_in : (p : ℕ × ℕ) → In (pairs (slots route)) p → (p.0 < length (slots route))
      × (p.1 < length (slots route))
  pairs_in p i = let pair =
      from-pair (slots route) p i in (omega (arith, pair.order, pair.within), pair.within)

  -- what values that satisfy the clauses say of each slot
  pub model-obeys : (values : List Bool) → IsModel values → Obey values
  model-obeys values h = satisfies-obeys across open_at width route values h

  -- the bits satisfy the clauses exactly where the tracks are those of a legal routing
  pub bits-legal : (tracks : List ℕ) → length tracks ≡ length (slots route)
      → IsModel (bits width tracks) ↔ IsLegalHere tracks
  bits-legal tracks each = (legal, satisfied)
    where
      legal : IsModel (bits width tracks) → IsLegalHere tracks
      legal h =
          let obey = model-obeys (bits width tracks) h in
          let within =
          bits-within width tracks (λ s low. obey.some s (omega (arith, low, each))) in
          obeys-legal (bits width tracks) tracks obey each (λ s low.
          let here : s < length tracks = omega (arith, low, each) in
          let below = within s here in (
            below,
            says-bits width tracks s (get_or tracks s 0) within here below
                ∙ (Decides-eqb (get_or tracks s 0) (get_or tracks s 0)).1 refl,
          ))

      satisfied : IsLegalHere tracks → IsModel (bits width tracks)
      satisfied h =
          obeys-satisfies across open_at width route (λ step i. (step-good step i).0)
          (λ p t i closed. pin-slot route p i) pairs_in (bits width tracks) (legal-obeys tracks h)

  -- values that satisfy the clauses are the bits of the tracks of a legal routing
  pub models-legal : (values : List Bool) → IsModel values
      → (tracks : List ℕ) × IsLegalHere tracks × (values ≡ bits width tracks)
  models-legal values h =
      let obey = model-obeys values h in
      let r = tracks-said values obey (length (slots route)) (omega arith) in
      (r.0, obeys-legal values r.0 obey r.1 r.2, said-bits values r.0 obey r.1 r.2)
