-- Which variables are held as the trail changes.
use Rattle.std.proofs.Common.{inl, inr, ◌≡◌, ◌≢◌, ◌+◌, ◌-◌, ◌/◌, ◌%◌, ◌^◌, ◌<◌, ◌≤◌, ℕ, zero, suc, Bool, true, false, List, [], ◌∷◌, ◌++◌, length, set, get_or, replicate, None, refl, sym, ap, ◌∙◌, subst, arith}
use Rattle.std.proofs.Math.Nat.{div-le_self}
use Rattle.std.proofs.lemmas.Bool.{both_ways, cases_eq}
use Rattle.std.proofs.lemmas.List.{get_or-map, get_or-replicate, get_or-set_other, get_or-set_same, length-replicate, length-set}
use Rattle.sat_clause.specs.declared.literal.Lit.{Lit}
use Rattle.sat_clause.specs.Literal.{positive, variable}
use Rattle.sat_clause.specs.Trail.{IsClosed}
use Rattle.sat_order.specs.Order.{IsEmpty, IsVariable, IsWhole, OrderState, activity_of, scaled}
use Rattle.sat_watch.specs.declared.entry.TrailEntry.{TrailEntry}
use Rattle.sat_watch.specs.Trail.{lits_of, value_in}
use Rattle.sat_watch.specs.Watches.{Propagates, WatchState, assumed}
use Rattle.sat_core.specs.Ranking.{IsRanked, SameHeld, drawn, held_count, next_draw}
use Rattle.sat_core.proofs.DecideLaws.{closed_values, value_assumed, value_stays}

-- values stay where the trail changes
pub ranked_more : {vars : ℕ} {trail : List TrailEntry} {order : OrderState}
    (now : List TrailEntry) →
    ((l : Lit) → value_in trail l ≢ None → value_in now l ≢ None) →
    IsRanked vars trail order → IsRanked vars now order
ranked_more now more ranked = record {
  vars = ranked.vars;
  many = ranked.many;
  valued = λ v known out. more (positive v) (ranked.valued v known out);
}

-- the same variables are held
pub ranked_held : {vars : ℕ} {trail : List TrailEntry} {old new : OrderState} → SameHeld old new →
    IsRanked vars trail old → IsRanked vars trail new
ranked_held same ranked = record {
  vars = same.vars ∙ ranked.vars;
  many = ap length same.held ∙ ranked.many;
  valued = λ v known out. ranked.valued v (record {
    first = known.first;
    last = omega (arith, known.last, same.vars);
  })
      (subst (λ (held : List Bool). get_or held (v - 1) false ≡ false) same.held out);
}

pub held_then : {a b c : OrderState} → SameHeld a b → SameHeld b c → SameHeld a c
held_then first second = record {
  vars = second.vars ∙ first.vars;
  held = second.held ∙ first.held;
}

pub held_refl : (a : OrderState) → SameHeld a a
held_refl a = record { vars = refl; held = refl }

-- at first all are held
pub ranked_new : (vars : ℕ) (activities : List ℕ) →
    IsRanked vars [] (record { vars = vars; activities = activities; held = replicate vars true })
ranked_new vars activities = record {
  vars = refl;
  many = length-replicate vars true;
  valued = λ v known out. absurd (both_ways (get_or (replicate vars true) (v - 1) false) out
      (get_or-replicate vars (v - 1) true false (omega (arith, known.first, known.last))));
}

pub ranked_start : (n vars : ℕ) (trail : List TrailEntry) (order : OrderState) → n ≡ vars →
    trail ≡ [] → IsRanked n [] order → IsRanked vars trail order
ranked_start n vars trail order same none ranked =
    rw none (subst (λ (m : ℕ). IsRanked m [] order) same ranked)

-- a variable with a value is taken out
pub ranked_taken : (vars : ℕ) (trail : List TrailEntry) (order : OrderState) (v : ℕ) → 1 ≤ v →
    value_in trail (positive v) ≢ None → IsRanked vars trail order →
    IsRanked vars trail (record order { held = set order.held (v - 1) false })
ranked_taken vars trail order v some value ranked = record {
  vars = ranked.vars;
  many = length-set order.held (v - 1) false ∙ ranked.many;
  valued = λ w known out. elim (cases_eq w v) [
    | inl same ↦ subst (λ (n : ℕ). value_in trail (positive n) ≢ None) (sym same) value
    | inr other ↦ ranked.valued w (record { first = known.first; last = known.last })
        (sym (get_or-set_other order.held (v - 1) (w - 1) false false
        (omega (arith, other, some, known.first))) ∙ out)
  ];
}

-- the trail grows
pub ranked_propagated : {old new : WatchState} {order : OrderState} → Propagates old new →
    IsRanked old.vars old.trail order → IsRanked new.vars new.trail order
ranked_propagated {old} {new} step ranked =
    rw (step.vars, step.trail)
    (ranked_more (step.added ++ old.trail) (value_stays step.added old.trail) ranked)

pub ranked_decided : (w : WatchState) (order : OrderState) (l : Lit) → 1 ≤ variable l →
    IsRanked w.vars w.trail order →
    IsRanked (assumed l w).vars (assumed l w).trail
    (record order { held = set order.held (variable l - 1) false })
ranked_decided w order l some ranked =
    let e : TrailEntry = record { lit = l; level = suc w.level; reason = None } in
    ranked_taken w.vars (e ∷ w.trail) order (variable l) some (value_assumed w.trail e)
    (ranked_more (e ∷ w.trail) (value_stays (e ∷ []) w.trail) ranked)

-- a literal is decided whose variable stays held
pub ranked_assumed : (w : WatchState) (order : OrderState) (l : Lit) →
    IsRanked w.vars w.trail order → IsRanked (assumed l w).vars (assumed l w).trail order
ranked_assumed w order l ranked =
    let e : TrailEntry = record { lit = l; level = suc w.level; reason = None } in
    ranked_more (e ∷ w.trail) (value_stays (e ∷ []) w.trail) ranked

-- one is held fewer
pub held_fewer : (held : List Bool) (i : ℕ) → get_or held i false ≡ true →
    held_count (set held i false) < held_count held
held_fewer [] i is = absurd (both_ways false refl is)
held_fewer (true ∷ rest) zero is = omega arith
held_fewer (false ∷ rest) zero is = absurd (both_ways false refl is)
held_fewer (true ∷ rest) (suc i) is = let fewer = held_fewer rest i is in omega (arith, fewer)
held_fewer (false ∷ rest) (suc i) is = held_fewer rest i is

-- where none is held all have values
pub none_held_closed : (vars : ℕ) (trail : List TrailEntry) (order : OrderState) →
    IsRanked vars trail order → IsEmpty order → IsClosed vars (lits_of trail)
none_held_closed vars trail order ranked none =
    closed_values vars (suc vars) trail
    (λ k some below. (let known : IsVariable order k = record {
      first = some;
      last = omega (arith, below, ranked.vars);
    } in ranked.valued k known (none k known)))
    (omega arith)

-- behind a division an activity is small
pub scaled_small : (order : OrderState) (v : ℕ) → IsVariable order v → IsWhole order →
    activity_of order v < 2 ^ 64 →
    activity_of (record order { activities = scaled order.activities }) v < 2 ^ 24
scaled_small order v known whole small =
    let inside : v - 1 < length order.activities =
    omega (arith, known.first, known.last, whole.activities) in
    omega (arith, small, get_or-map (λ (a : ℕ). a / 2 ^ 40) order.activities (v - 1) 0 0 inside)

-- a part of a number is no greater
pub part_least : (n k : ℕ) → n / k ≤ n
part_least n k = div-le_self n k

-- FIRST ACTIVITIES

-- the variables below the next one have the activities that were drawn, and the others none yet
pub record AreDrawnTo (seed next draw : ℕ) (order : OrderState) : Type 0 where
  pub many : length order.activities ≡ order.vars
  pub draw_is : draw ≡ drawn seed (next - 1)
  pub small : draw < 2 ^ 32
  pub before : (w : ℕ) → 1 ≤ w → w < next → w ≤ order.vars →
      activity_of order w ≡ drawn seed w / 65536 % 1024
  pub behind : (w : ℕ) → next ≤ w → w ≤ order.vars → activity_of order w ≡ 0

drawn_step : (seed next : ℕ) → 1 ≤ next → drawn seed next ≡ next_draw (drawn seed (next - 1))
drawn_step seed zero some = absurd (omega (arith, some))
drawn_step seed (suc n) some =
    let e : n ≡ suc n - 1 = omega arith in ap (λ (k : ℕ). next_draw (drawn seed k)) e

pub drawn_next : (seed next draw : ℕ) (order : OrderState) → 1 ≤ next → next ≤ order.vars →
    AreDrawnTo seed next draw order →
    AreDrawnTo seed (suc next) (next_draw draw) (record order {
      activities = set order.activities (next - 1)
          (activity_of order next + next_draw draw / 65536 % 1024);
    })
drawn_next seed next draw order some within so_far =
    let by : ℕ = next_draw draw / 65536 % 1024 in
    let now : ℕ = activity_of order next + by in
    let here : next_draw draw ≡ drawn seed next =
    ap next_draw so_far.draw_is ∙ sym (drawn_step seed next some) in
    let inside : next - 1 < length order.activities = omega (arith, some, within, so_far.many) in
    let none : activity_of order next ≡ 0 = so_far.behind next (omega arith) within in
    let plain : 0 + by ≡ by = omega arith in
    let same_at : next ≡ suc next - 1 = omega arith in
    record {
      many = length-set order.activities (next - 1) now ∙ so_far.many;
      draw_is = here ∙ ap (drawn seed) same_at;
      small = omega arith;
      before = λ w first below most. elim (cases_eq w next) [
        | inl same ↦
            subst (λ (k : ℕ). get_or (set order.activities (next - 1) now) (k - 1) 0
            ≡ drawn seed k / 65536 % 1024) (sym same)
            (get_or-set_same order.activities (next - 1) now 0 inside
            ∙ ap (λ (a : ℕ). a + by) none
            ∙ plain
            ∙ ap (λ (d : ℕ). d / 65536 % 1024) here)
        | inr other ↦
            get_or-set_other order.activities (next - 1) (w - 1) now 0
            (omega (arith, first, some, other))
            ∙ so_far.before w first (omega (arith, below, other)) most
      ];
      behind = λ w above most.
          get_or-set_other order.activities (next - 1) (w - 1) now 0
          (omega (arith, above, some))
          ∙ so_far.behind w (omega (arith, above)) most;
    }
