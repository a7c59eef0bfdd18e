-- What keeps work on what a placement needs from its end, what its widths tell of each other, and
-- that two outcomes that are true of the same files agree.
use Rattle.std.proofs.Common.{Bool, ◌≡◌, ℕ, ◌<◌, ◌≤◌, Option, Some, sym, subst, inl, inr, arith}
use Rattle.std.specs.Prelude.{is_some}
use Rattle.fpga_problem.proofs.FileLemmas.{one-placed}
use Rattle.fpga_types.specs.Placed.{NetWires}
use Rattle.fpga_types.specs.Problem.{PlacedNetlist}
use Rattle.route_bound.specs.Crossing.{IsBound}
use Rattle.route_bound.specs.Cuts.{IsBestCut}
use Rattle.route_bound.specs.declared.cut.Cut.{Cut}
use Rattle.route_judge.specs.Says.{SaysRouting}
use Rattle.run_placed.specs.Global.{HasFiles}
use Rattle.run_placed.specs.Least.{EndsOpen, IsFoundAt, IsFoundFrom, IsTrueOfLeast, IsTrueOfWidths, LeavesRaised, LeavesWidths, at_width, beyond_outcome, last_asked, IsTrueOfNarrows}
use Rattle.run_placed.specs.Raised.{IsRaised}
use Rattle.run_outcome.specs.Agrees.{Agrees, AreOfOne}
use Rattle.run_placed.specs.declared.narrowing.FoundAt.{FoundAt}
use Rattle.run_placed.specs.declared.raising.Raised.{Raised}
use Rattle.run_outcome.specs.Subject.{FileMap, ShelfState, LeastAsked}
use Rattle.run_outcome.specs.declared.outcome.Outcome.{Outcome}
use Rattle.run_outcome.specs.declared.outcome.Outcome.TheVariants.{Narrowed, Unfound}
use Rattle.run_placed.proofs.GlobalLaws.{lacking-agrees, lacking-has, open-both, routing-said}
use Rattle.run_placed.proofs.RaisedLaws.{reason-bound, reason-from}

-- ---- the files of a job are those of each width

pub has-at : (files : Option FileMap) (job : LeastAsked) (placed : PlacedNetlist) (width : ℕ)
    → HasFiles files (last_asked job) placed → HasFiles files (at_width job width) placed
has-at files job placed width h = record { poses = h.poses; sound = h.sound; start = h.start }

-- ---- no width is below a bound

-- the route that was found at a width says a routing there
pub says-at : (files : Option FileMap) (job : LeastAsked) (placed : PlacedNetlist) (tracks : ℕ)
    (at : FoundAt) → HasFiles files (last_asked job) placed → IsFoundAt job placed tracks at
    → (has : ℕ → NetWires) × SaysRouting placed at.width at.found has
says-at files job placed tracks at h is = routing-said files (at_width job at.width) placed at.found
    (has-at files job placed at.width h) is.route

-- so no bound is above that width
not-below : (files : Option FileMap) (job : LeastAsked) (placed : PlacedNetlist) (tracks : ℕ)
    (at : FoundAt) (bound : ℕ) → HasFiles files (last_asked job) placed
    → IsFoundAt job placed tracks at → 1 ≤ tracks → IsBound placed bound → bound ≤ at.width
not-below files job placed tracks at bound h is some holds =
    let says = says-at files job placed tracks at h is in
    holds at.width says.0 (omega (arith, some, is.from)) says.1.routing

-- where it was raised from the bound of a best cut, it is a bound, and that of the cut is not above
-- it
pub raised-bound : (placed : PlacedNetlist) (cut : Cut) (raised : Raised) → IsBestCut placed cut
    → IsRaised placed cut.tracks raised → IsBound placed raised.tracks
raised-bound placed cut raised best is =
    reason-bound placed cut.tracks raised.tracks raised.why best.bound is

pub raised-some : (placed : PlacedNetlist) (cut : Cut) (raised : Raised) → IsBestCut placed cut
    → IsRaised placed cut.tracks raised → 1 ≤ raised.tracks
raised-some placed cut raised best is =
    let from = reason-from placed cut.tracks raised.tracks raised.why is in
    omega (arith, from, best.tracks.some)

-- what is left behind a raised bound is left behind the cut
pub raised-leaves : (job : LeastAsked) (placed : PlacedNetlist) (cut : Cut) (raised : Raised)
    (before now : ShelfState) (o : Outcome) → IsRaised placed cut.tracks raised
    → cut.tracks ≤ job.last → LeavesRaised job placed cut.tracks raised before now o
    → LeavesWidths job placed cut before now o
raised-leaves job placed cut raised before now o from within (inl (inl ends, same)) =
    inl (inl (inr (within, ends)), same)
raised-leaves job placed cut raised before now o from within (inl (inr short, same)) =
    inl (inr short, same)
raised-leaves job placed cut raised before now o from within (inr (at, found, h)) =
    inr (raised, at, record { raised_from = from; found = found }, h)

-- ---- outcomes of one placed netlist

module _ (timed : Bool) (files : FileMap) (job : LeastAsked) (placed : PlacedNetlist)
    (h : HasFiles (Some files) (last_asked job) placed) where
  -- two outcomes, each known by an equation
  both : (a b : Outcome) (one other : Outcome) → a ≡ one → b ≡ other → Agrees timed one other
      → Agrees timed a b
  both a b one other is is_other agree = subst (λ (o : Outcome). Agrees timed o b) (sym is)
      (subst (Agrees timed one) (sym is_other) agree)

  of-one : (one other : Outcome) → AreOfOne one other → Agrees timed one other
  of-one one other are = inr (inr (inr (inr are)))

  open-agree : (cut others : Cut) (a b : Outcome) → EndsOpen job cut a → EndsOpen job others b
      → Agrees timed a b
  open-agree cut others a b (inl (above, is)) (inl (above_too, is_other)) =
      both a b (beyond_outcome cut) (beyond_outcome others) is is_other
      (of-one (beyond_outcome cut) (beyond_outcome others) tt)
  open-agree cut others a b (inl (above, is)) (inr (within, (rounds, stopped, most, limit, is_other))) =
      both a b (beyond_outcome cut) (Unfound job.last rounds stopped) is is_other
      (of-one (beyond_outcome cut) (Unfound job.last rounds stopped) above)
  open-agree cut others a b (inr (within, (rounds, stopped, most, limit, is))) (inl (above, is_other)) =
      both a b (Unfound job.last rounds stopped) (beyond_outcome others) is is_other
      (of-one (Unfound job.last rounds stopped) (beyond_outcome others) above)
  open-agree cut others a b (inr (within, none)) (inr (within_too, none_too)) =
      inr (inl (open-both timed (is_some job.seconds) job.last job.rounds a b none none_too))

  -- a route that was found from a raised bound on is not below a bound
  found-above : (cut : Cut) (raised : Raised) (at : FoundAt) (bound : ℕ) → IsBestCut placed cut
      → IsFoundFrom job placed cut raised at → IsBound placed bound → bound ≤ at.width
  found-above cut raised at bound best is holds =
      not-below (Some files) job placed raised.tracks at bound h is.found
      (raised-some placed cut raised best is.raised_from) holds

  -- a cut that asks for more than were to be tried, and a route that was found
  not-beyond : (cut others : Cut) (raised : Raised) (at : FoundAt) → IsBestCut placed cut
      → IsBestCut placed others → IsFoundFrom job placed others raised at → job.last < cut.tracks
      → ⊥
  not-beyond cut others raised at best best_too is above =
      let within = found-above others raised at cut.tracks best_too is best.bound in
      omega (arith, within, is.found.to, above)

  widths-agree : (cut others : Cut) (a b : Outcome) → IsBestCut placed cut
      → IsBestCut placed others → IsTrueOfWidths job placed cut a
      → IsTrueOfWidths job placed others b → Agrees timed a b
  widths-agree cut others a b best best_too (inl ends) (inl ends_too) =
      open-agree cut others a b ends ends_too
  widths-agree cut others a b best best_too (inl (inl (above, is)))
      (inr (raised, at, found, is_other)) =
      absurd (not-beyond cut others raised at best best_too found above)
  widths-agree cut others a b best best_too (inl (inr (within, (rounds, stopped, most, limit, is))))
      (inr (raised, at, found, is_other)) =
      let narrowed = Narrowed raised.tracks at.width others.tracks in
      both a b (Unfound job.last rounds stopped) narrowed is is_other
      (of-one (Unfound job.last rounds stopped) narrowed found.found.to)
  widths-agree cut others a b best best_too (inr (raised, at, found, is))
      (inl (inl (above, is_other))) =
      absurd (not-beyond others cut raised at best_too best found above)
  widths-agree cut others a b best best_too (inr (raised, at, found, is))
      (inl (inr (within, (rounds, stopped, most, limit, is_other)))) =
      let narrowed = Narrowed raised.tracks at.width cut.tracks in
      both a b narrowed (Unfound job.last rounds stopped) is is_other
      (of-one narrowed (Unfound job.last rounds stopped) found.found.to)
  widths-agree cut others a b best best_too (inr (raised, at, found, is))
      (inr (other, ot, found_too, is_other)) =
      both a b (Narrowed raised.tracks at.width cut.tracks)
      (Narrowed other.tracks ot.width others.tracks) is is_other
      (of-one (Narrowed raised.tracks at.width cut.tracks)
      (Narrowed other.tracks ot.width others.tracks) (
        found-above others other ot raised.tracks best_too found_too
            (raised-bound placed cut raised best found.raised_from),
        found-above cut raised at other.tracks best found
            (raised-bound placed others other best_too found_too.raised_from),
      ))

  least-of-one : (a b : Outcome) → IsTrueOfLeast job placed a → IsTrueOfLeast job placed b
      → Agrees timed a b
  least-of-one a b (cut, best, is) (others, best_too, is_other) =
      widths-agree cut others a b best best_too is is_other

pub least-agrees : (timed : Bool) (job : LeastAsked) (files : FileMap) (a b : Outcome)
    → IsTrueOfNarrows job (Some files) a → IsTrueOfNarrows job (Some files) b → Agrees timed a b
least-agrees timed job files a b (inl h) (inl g) = lacking-agrees files timed (last_asked job) a b h g
least-agrees timed job files a b (inl h) (inr (placed, has, g)) =
    absurd (lacking-has files (last_asked job) placed a h has)
least-agrees timed job files a b (inr (placed, has, h)) (inl g) =
    absurd (lacking-has files (last_asked job) placed b g has)
least-agrees timed job files a b (inr (placed, has, h)) (inr (other, others, g)) =
    least-of-one timed files job placed has a b h
    (subst (λ (p : PlacedNetlist). IsTrueOfLeast job p b)
    (one-placed files job.files other placed others.poses has.poses) g)
