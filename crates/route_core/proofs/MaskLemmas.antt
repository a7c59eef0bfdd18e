-- The values that a legal routing of some nets stands for: they say its tracks of the slots of
-- these nets, and none of any other slot. They satisfy each clause that speaks of these nets alone.
use Rattle.std.proofs.Common.{◌≡◌, ℕ, suc, ◌+◌, ◌-◌, ◌*◌, ◌/◌, ◌%◌, ◌<◌, ◌≤◌, Bool, true, false, List, [], ◌∷◌, ◌++◌, length, get_or, Option, Some, refl, sym, ap, subst, ◌∙◌, inl, inr, arith, All}
use Rattle.std.specs.Prelude.{◌==◌, ◌&&◌, Contains, filter, flat_map, map, not, option_map, option_to_list}
use Rattle.std.specs.List.{list_any}
use Rattle.std.proofs.lemmas.Bool.{false≢true}
use Rattle.std.proofs.lemmas.Bool.Decides.{Decides-eqb}
use Rattle.std.proofs.lemmas.List.Elements.{All-append}
use Rattle.std.proofs.lemmas.List.FromFn.{get_or-map-range_with_len, length-map-range_with_len}
use Rattle.std.proofs.lemmas.Nat.{div-mul-add, mod-mul-add}
use Rattle.list_laws.proofs.Members.{In, In-all, In-list_any, In-map, any-from_In, contains-In, from_In-filter, from_In-range, list_any-from_In, In-contains}
use Rattle.fpga_types.specs.Boxes.{Opens, opens}
use Rattle.fpga_types.specs.Fits.{Fits}
use Rattle.fpga_types.specs.Legal.{wire_of}
use Rattle.fpga_types.specs.Problem.{RoutingProblem}
use Rattle.fpga_types.specs.Slots.{pairs, pin_steps, slot_at, slots, steps}
use Rattle.fpga_types.specs.Tracks.{AreJoined, mapped_track, track_across}
use Rattle.fpga_types.specs.declared.grid.Cell.{Cell}
use Rattle.fpga_types.specs.declared.grid.PinAt.{PinAt}
use Rattle.fpga_types.specs.declared.problem.Slot.{Slot}
use Rattle.fpga_types.proofs.BoxLemmas.{opens-is}
use Rattle.fpga_types.proofs.FitsLemmas.{Fits-IsFit}
use Rattle.fpga_types.proofs.MeetingLemmas.{both_true, joined-across, meeting-found}
use Rattle.fpga_types.proofs.TrackLemmas.{mapped-within}
use Rattle.fpga_bounds.proofs.StepFacts.{IsGoodStep, good-steps}
use Rattle.sat_clause.specs.Formula.{IsTrueClause}
use Rattle.sat_clause.specs.Literal.{Clause}
use Rattle.sat_clause.specs.declared.literal.Lit.{Lit}
use Rattle.route_encode.specs.Encoding.{above, apart_track, below, cnf_of, has, joined_track, lacks, no_higher_track, not_both, one_track, open_track, place_of, some_track, track_after}
use Rattle.route_encode.specs.Said.{says}
use Rattle.route_encode.proofs.BitLemmas.{place-inside}
use Rattle.route_encode.proofs.CompeteLemmas.{competes-as, from-pair}
use Rattle.route_encode.proofs.Models.{IsTrueLit, in-below, lack-two, lead-on, not-true, of-below, to-map, to-rows, unless-had}
use Rattle.route_encode.proofs.PinSlots.{pin-slot}
use Rattle.route_core.specs.Blamed.{net_of, slot_of}
use Rattle.route_core.specs.Core.{IsLegalRoutingOf, IsOf}
use Rattle.route_core.specs.Fair.{IsAbout, IsFair}

-- the slot of a literal that says that it has a track, or that it does not
slot-placed : (width s t : ℕ) → t < width → (suc (place_of width s t) - 1) / width ≡ s
slot-placed width s t inside =
    let e : suc (s * width + t) - 1 ≡ s * width + t = omega arith in
    ap (λ (n : ℕ). n / width) e ∙ div-mul-add s width t inside

pub has-slot : (width s t : ℕ) → t < width → slot_of width (has width s t) ≡ s
has-slot width s t inside = slot-placed width s t inside

pub lacks-slot : (width s t : ℕ) → t < width → slot_of width (lacks width s t) ≡ s
lacks-slot width s t inside = slot-placed width s t inside

-- a slot of which a clause about these nets alone speaks is of one of them
pub spoken-of : (width : ℕ) (p : RoutingProblem) (nets : List ℕ) (clause : Clause) (l : Lit)
    (s : ℕ) → IsAbout width p nets clause → In clause l → slot_of width l ≡ s
    → s < length (slots p.route) → IsOf nets (slots p.route) s
spoken-of width p nets clause l s about i is low =
    subst (λ (n : ℕ). n < length (slots p.route) → IsOf nets (slots p.route) n) is
    (In-all (λ m. slot_of width m < length (slots p.route)
    → IsOf nets (slots p.route) (slot_of width m)) clause l about i) low

module _ (width : ℕ) (p : RoutingProblem) (some : 1 ≤ width) (fits : Fits p)
    (nets tracks : List ℕ) (legal : IsLegalRoutingOf width p nets tracks) where
  abbrev all : List Slot
  all = slots p.route

  abbrev count : ℕ
  count = length all

  -- the net is one of these
  abbrev is_named : ℕ → Bool
  is_named net = list_any (λ n. n == net) nets

  -- the slot is of one of the nets and has the track
  abbrev is_had : (s t : ℕ) → Bool
  is_had s t = is_named (net_of all s) && get_or tracks s 0 == t

  abbrev value_at : ℕ → Bool
  value_at k = is_had (k / width) (k % width)

  abbrev pub masked : List Bool
  masked = map value_at (below (count * width))

  pub length-masked : length masked ≡ count * width
  length-masked = length-map-range_with_len value_at 0 (count * width)

  says-masked : (s t : ℕ) → s < count → t < width → says masked width s t ≡ is_had s t
  says-masked s t low inside =
      get_or-map-range_with_len value_at 0 (count * width) (place_of width s t)
      (place_of width s t) false (place-inside count width s t low inside) (omega arith)
      ∙ rw (div-mul-add s width t inside, mod-mul-add s width t inside) refl

  named-is : (net : ℕ) → is_named net ≡ true → Contains nets net
  named-is net h =
      let m = In-list_any (λ n. n == net) nets h in
      subst (λ (n : ℕ). Contains nets n) ((Decides-eqb m.0 net).0 m.2) (contains-In nets m.0 m.1)

  is-named : (net : ℕ) → Contains nets net → is_named net ≡ true
  is-named net h = list_any-from_In (λ n. n == net) nets net (In-contains nets net h)
      ((Decides-eqb net net).1 refl)

  -- what the values say is so of a slot of one of the nets
  pub said-is : (s t : ℕ) → s < count → t < width → says masked width s t ≡ true
      → IsOf nets all s × (get_or tracks s 0 ≡ t)
  said-is s t low inside h =
      let parts = both_true (is_named (net_of all s)) (get_or tracks s 0 == t)
      (sym (says-masked s t low inside) ∙ h) in
      (named-is (net_of all s) parts.0, (Decides-eqb (get_or tracks s 0) t).0 parts.1)

  -- and is said of each
  pub is-said : (s : ℕ) → s < count → IsOf nets all s
      → says masked width s (get_or tracks s 0) ≡ true
  is-said s low of =
      says-masked s (get_or tracks s 0) low (legal.within s low of)
      ∙ rw (
        is-named (net_of all s) of,
        (Decides-eqb (get_or tracks s 0) (get_or tracks s 0)).1 refl,
      ) refl

  -- a clause about these nets alone is true
  abbrev pub Holds : Clause → Type 0
  Holds clause = IsAbout width p nets clause → IsTrueClause masked clause

  pub room : (s t : ℕ) → s < count → t < width → place_of width s t < length masked
  room s t low inside = subst (λ (n : ℕ). place_of width s t < n) (sym length-masked)
      (place-inside count width s t low inside)

  abbrev across : Cell → Cell → ℕ → Option ℕ
  across = track_across (mapped_track p.arch.pattern width) p.route.grid

  abbrev open_at : PinAt → ℕ → Bool
  open_at = opens p.arch width

  some-each : All Holds (map (some_track width) (below count))
  some-each = to-map Holds (some_track width) (below count) (λ s i about.
      let low = of-below count s i in
      let first : In (some_track width s) (has width s 0) =
      In-map (has width s) (below width) 0 (in-below width 0 (omega (arith, some))) in
      let of : IsOf nets all s = spoken-of width p nets (some_track width s) (has width s 0) s
      about first (has-slot width s 0 (omega (arith, some))) low in
      any-from_In (IsTrueLit masked) (some_track width s) (has width s (get_or tracks s 0))
      (In-map (has width s) (below width) (get_or tracks s 0)
      (in-below width (get_or tracks s 0) (legal.within s low of)))
      (is-said s low of))

  one-each : All Holds (flat_map (one_track width) (below count))
  one-each = to-rows Holds (one_track width) (below count) (λ s i.
      to-rows Holds (no_higher_track width s) (below width) (λ t j.
      to-map Holds (λ u. not_both width s t s u) (above t width) (λ u k about.
      let low = of-below count s i in
      let below_t = of-below width t j in
      let range = from_In-range (t + 1) (width - t - 1) u k in
      let below_u : u < width = omega (arith, range.1, below_t) in
      lack-two masked width s t s u (room s t low below_t) (room s u low below_u) (λ f g.
      let at_t = said-is s t low below_t f in
      let at_u = said-is s u low below_u g in
      absurd (omega (arith, range.0, at_t.1, at_u.1))))))

  open-each : All Holds (flat_map (open_track open_at width) (pin_steps p.route))
  open-each = to-rows Holds (open_track open_at width) (pin_steps p.route) (λ q i.
      to-map Holds (λ t. lacks width q.slot t ∷ [])
      (filter (λ t. not (open_at q.pin t)) (below width)) (λ t j about.
      let kept = from_In-filter (λ v. not (open_at q.pin v)) (below width) t j in
      let inside = of-below width t kept.0 in
      let closed : open_at q.pin t ≡ false = not-true (open_at q.pin t) kept.1 in
      let low = pin-slot p.route q i in
      unless-had masked width q.slot t [] (room q.slot t low inside) (λ f.
      let at = said-is q.slot t low inside f in
      let opened = In-all (λ r. IsOf nets all r.slot → Opens p.arch width r.pin
      (get_or tracks r.slot 0)) (pin_steps p.route) q legal.reached i at.0 in
      absurd (false≢true (sym closed ∙ (opens-is p.arch width q.pin t).1
      (subst (λ (u : ℕ). Opens p.arch width q.pin u) at.1 opened))))))

  joined-each : All Holds (flat_map (joined_track across width all) (steps p.route))
  joined-each = to-rows Holds (joined_track across width all) (steps p.route) (λ step i.
      to-map Holds (λ t. lacks width step.from t
      ∷ option_to_list (option_map (has width step.to) (track_after across all step t)))
      (below width) (λ t j about.
      let inside = of-below width t j in
      let good = In-all (IsGoodStep p.route) (steps p.route) step
      (good-steps p.route (Fits-IsFit p fits)) i in
      unless-had masked width step.from t
      (option_to_list (option_map (has width step.to) (track_after across all step t)))
      (room step.from t good.0.0 inside) (λ f.
      let at = said-is step.from t good.0.0 inside f in
      let m = good.1.0 in
      let u : ℕ = mapped_track p.arch.pattern width m.from m.to t in
      let after : track_after across all step t ≡ Some u =
      ap (option_map (λ n. mapped_track p.arch.pattern width n.from n.to t))
      (meeting-found p.route.grid (slot_at all step.from).cell (slot_at all step.to).cell m
      good.1.1) in
      let both : IsAbout width p nets (lacks width step.from t ∷ has width step.to u ∷ []) =
      subst (λ (o : Option ℕ). IsAbout width p nets (lacks width step.from t
      ∷ option_to_list (option_map (has width step.to) o))) after about in
      let of : IsOf nets all step.to =
      spoken-of width p nets (lacks width step.from t ∷ has width step.to u ∷ [])
      (has width step.to u) step.to both (inr (inl refl))
      (has-slot width step.to u (mapped-within p.arch.pattern width m.from m.to t inside))
      good.0.1 in
      let join = In-all (λ s. IsOf nets all s.from → IsOf nets all s.to
      → AreJoined (mapped_track p.arch.pattern width) p.route.grid (wire_of all tracks s.from)
      (wire_of all tracks s.to)) (steps p.route) step legal.joined i at.0 of in
      let over : track_after across all step (get_or tracks step.from 0)
      ≡ Some (get_or tracks step.to 0) =
      joined-across (mapped_track p.arch.pattern width) p.route.grid
      (wire_of all tracks step.from) (wire_of all tracks step.to) join in
      lead-on masked width step.to (track_after across all step t) (
        get_or tracks step.to 0,
        subst (λ (v : ℕ). track_after across all step v ≡ Some (get_or tracks step.to 0)) at.1 over,
        is-said step.to good.0.1 of,
      ))))

  apart-each : All Holds (flat_map (apart_track width) (pairs all))
  apart-each = to-rows Holds (apart_track width) (pairs all) (λ q i.
      to-map Holds (λ t. not_both width q.0 t q.1 t) (below width) (λ t j about.
      let inside = of-below width t j in
      let pair = from-pair all q i in
      let ends = competes-as (slot_at all q.0) (slot_at all q.1) pair.compete in
      let low : q.0 < count = omega (arith, pair.order, pair.within) in
      lack-two masked width q.0 t q.1 t (room q.0 t low inside) (room q.1 t pair.within inside)
      (λ f g.
      let one = said-is q.0 t low inside f in
      let two = said-is q.1 t pair.within inside g in
      legal.apart q.0 q.1 low pair.within one.0 two.0 ends.0 ends.1 (one.1 ∙ sym two.1))))

  pub each-holds : All Holds (cnf_of width p).clauses
  each-holds =
      let first : List Clause = map (some_track width) (below count) in
      let second : List Clause = flat_map (one_track width) (below count) in
      let third : List Clause = flat_map (open_track open_at width) (pin_steps p.route) in
      let fourth : List Clause = flat_map (joined_track across width all) (steps p.route) in
      All-append Holds (first ++ second ++ third ++ fourth)
      (flat_map (apart_track width) (pairs all))
      (All-append Holds (first ++ second ++ third) fourth
      (All-append Holds (first ++ second) third
      (All-append Holds first second some-each one-each) open-each) joined-each) apart-each

-- the clauses of a problem are fair
pub plain_is_fair : (width : ℕ) (p : RoutingProblem) → 1 ≤ width → Fits p
    → IsFair width p (cnf_of width p)
plain_is_fair width p some fits = record {
  vars = refl;
  parts = λ nets tracks legal. (
    masked width p some fits nets tracks legal,
    record {
      one_each = length-masked width p some fits nets tracks legal;
      each_clause = each-holds width p some fits nets tracks legal;
    },
  );
}
