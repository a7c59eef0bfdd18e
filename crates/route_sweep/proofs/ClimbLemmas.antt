-- How far a climb has come, and what the next width makes of it.
use Rattle.std.proofs.Common.{◌≡◌, ℕ, zero, suc, ◌+◌, ◌≤◌, List, refl, subst, arith}
use Rattle.std.specs.Prelude.{Result, Ok, Err, Vec}
use Rattle.std.specs.Global.{Global}
use Rattle.desk_io.specs.Files.{Bytes}
use Rattle.desk_io.specs.ShelfState.{ShelfState}
use Rattle.fpga_types.specs.declared.route.RouteText.{RouteText}
use Rattle.sat_clause.specs.Formula.{Cnf}
use Rattle.sat_clause.specs.Step.{Step}
use Rattle.route_sweep.specs.Asked.{Asked}
use Rattle.route_sweep.specs.Climb.{AreRefuted, ClimbsTo, EndsAt, FindsThere, IsRefuted, climbed}
use Rattle.route_sweep.specs.declared.found.Climbed.TheVariants.{Unroutable}
use Rattle.route_sweep.specs.declared.found.Found.{Found}
use Rattle.route_sweep.specs.declared.found.Found.TheVariants.{Routed, Refuted, Spent}
use Rattle.route_sweep.specs.declared.found.Stop.{Stop}

-- what a climb answers where a width is refuted
pub refuted-climbs : (came : Result Found Stop) (width : ℕ) → IsRefuted came
    → Ok (Unroutable width) ≡ climbed width came
refuted-climbs (Ok (Refuted lead)) width h = refl
refuted-climbs (Ok Routed) width h = absurd h
refuted-climbs (Ok (Spent learned)) width h = absurd h
refuted-climbs (Err stop) width h = absurd h

module _ (copies : ℕ) (Refutes : ℕ → List Step → Bytes → Type 0)
    (LeavesOpen : ℕ → List Step → Type 0) (ask : Asked) (formula : ℕ → Cnf) (good : ℕ → RouteText → Type 0) where
  abbrev There : (width : ℕ) → (before now : ShelfState) → Result Found Stop → Type 0
  There = FindsThere copies Refutes LeavesOpen ask formula good

  -- the widths below this one were refuted one after the other
  pub record HasClimbed (before now : ShelfState) (width : ℕ) : Type 0 where
    pub below : ℕ
    pub next : width ≡ suc below
    pub refuted : AreRefuted copies Refutes LeavesOpen ask formula good below before now

  -- at width 1 none is below
  pub climb-starts : (before : ShelfState) → HasClimbed before before 1
  climb-starts before = record { below = 0; next = refl; refuted = refl }

  module _ (before now new : ShelfState) (width : ℕ) (result : Result Found Stop)
      (h : HasClimbed before now width) (found : There width now new result) where
    -- one more width is refuted
    pub climb-goes-on : (lead : Vec ℕ Global) → result ≡ Ok (Refuted lead)
        → HasClimbed before new (width + 1)
    climb-goes-on lead is = record {
      below = suc h.below;
      next = omega (arith, h.next);
      refuted = (
        now,
        h.refuted,
        Ok (Refuted lead),
        tt,
        subst (λ (n : ℕ). There n now new (Ok (Refuted lead))) h.next
            (subst (There width now new) is found),
      );
    }

    -- the climb ends here
    pub climb-ends : (most : ℕ) (came : Result Found Stop) → width ≤ most → result ≡ came
        → (IsRefuted came → width ≡ most)
        → ClimbsTo copies Refutes LeavesOpen ask most formula good before new (climbed width came)
    climb-ends most came low is last = (
      width,
      came,
      refl,
      record {
        below = h.below;
        next = h.next;
        within = omega (arith, low, h.next);
        between = now;
        refuted = h.refuted;
        then = subst (There width now new) is found;
        last = last;
      },
    )

  -- the last width is refuted
  pub record IsOver (most : ℕ) (before now : ShelfState) : Type 0 where
    pub came : Result Found Stop
    pub refuted : IsRefuted came
    pub ends : EndsAt copies Refutes LeavesOpen ask most formula good before now most came

  -- all widths are refuted, so the last is
  pub climb-is-over : (most : ℕ) (before now : ShelfState) (width : ℕ) → 1 ≤ most
      → HasClimbed before now width → width ≡ most + 1 → IsOver most before now
  climb-is-over most before now width some h all =
      let same : h.below ≡ most = omega (arith, h.next, all) in
      over most refl some
      (subst (λ (n : ℕ). AreRefuted copies Refutes LeavesOpen ask formula good n before now) same
      h.refuted)
    where
      over : (top : ℕ) → top ≡ most → 1 ≤ top
          → AreRefuted copies Refutes LeavesOpen ask formula good top before now → IsOver top before now
      over zero is some refuted = absurd (omega (arith, some))
      over (suc below) is some (between, lower, came, refuted, found) = record {
        came = came;
        refuted = refuted;
        ends = record {
          below = below;
          next = refl;
          within = omega arith;
          between = between;
          refuted = lower;
          then = found;
          last = λ same. refl;
        };
      }
