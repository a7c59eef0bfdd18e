-- What refutations over cells say of a bound, and the files of `least`.
use Rattle.std.proofs.Common.{◌≡◌, ◌⊎◌, ℕ, ◌+◌, ◌-◌, ◌<◌, ◌≤◌, List, ◌∷◌, None, Option, Some, false, sym, subst, inl, inr, arith}
use Rattle.std.proofs.lemmas.Bool.{cases_order}
use Rattle.cell_bound.specs.Refutations.{IsRefuted}
use Rattle.cell_bound.specs.declared.refuting.CellRefutation.{CellRefutation}
use Rattle.desk_io.specs.WholeFile.{after_writing}
use Rattle.fpga_types.specs.Problem.{PlacedNetlist}
use Rattle.route_bound.specs.Crossing.{IsBound}
use Rattle.route_sweep.specs.Asked.{Asked}
use Rattle.run_placed.specs.Raised.{IsReason, least_names, narrowed_files}
use Rattle.run_outcome.specs.Written.{FailsAmong, JobFile, WritesFiles, after_files}
use Rattle.run_outcome.specs.Subject.{ShelfState, RouteText, Word}
use Rattle.run_outcome.specs.declared.outcome.Outcome.{Outcome}
use Rattle.run_outcome.proofs.WrittenLaws.{AreHeard, AreApart}
use Rattle.run_outcome.proofs.NameLaws.{clauses-log, clauses-route, log-route}

-- ---- bounds

module _ (placed : PlacedNetlist) (cut tracks : ℕ) where
  -- it is not below that of the cut
  pub reason-from : (why : Option CellRefutation) → IsReason placed cut tracks why → cut ≤ tracks
  reason-from None is = omega (arith, is)
  reason-from (Some found) (more, refuted) = omega (arith, more)

  -- where a width is refuted, each routing has more tracks
  refuted-bound : (found : CellRefutation) → cut < tracks → IsRefuted placed (tracks - 1) found
      → IsBound placed tracks
  refuted-bound found more refuted width has some routing = go (cases_order tracks width)
    where
      go : (tracks ≡ width) ⊎ ((tracks < width) ⊎ (width < tracks)) → tracks ≤ width
      go (inl same) = omega (arith, same)
      go (inr (inl less)) = omega (arith, less)
      go (inr (inr fewer)) =
          absurd (refuted.none width has (omega (arith, fewer)) routing)

  -- no placed routing has fewer tracks
  pub reason-bound : (why : Option CellRefutation) → IsBound placed cut
      → IsReason placed cut tracks why → IsBound placed tracks
  reason-bound None bound is = subst (IsBound placed) (sym is) bound
  reason-bound (Some found) bound (more, refuted) = refuted-bound found more refuted

-- the reason of one track more than a width that is refuted
pub reason-next : (placed : PlacedNetlist) (cut width : ℕ) (found : CellRefutation) → cut ≤ width
    → IsRefuted placed width found → IsReason placed cut (width + 1) (Some found)
reason-next placed cut width found low refuted =
    let back : width ≡ width + 1 - 1 = omega arith in
    (omega (arith, low), subst (λ (n : ℕ). IsRefuted placed n found) back refuted)

-- ---- files

module _ (prefix : Word) (found : RouteText) (tracks : ℕ) where
  abbrev ask : Asked
  ask = record { prefix = prefix; numbered = false }

  -- their names differ
  pub narrowed-apart : (why : Option CellRefutation)
      → AreApart (narrowed_files (least_names prefix) found tracks why)
  narrowed-apart None = (tt, tt)
  narrowed-apart (Some refutation) = (
    (
      (λ same. clauses-route ask (tracks - 1) (sym same)),
      ((λ same. log-route ask (tracks - 1) (sym same)), tt),
    ),
    ((clauses-log ask (tracks - 1) (tracks - 1), tt), (tt, tt)),
  )

  -- none is what is said
  pub narrowed-heard : (why : Option CellRefutation)
      → AreHeard (narrowed_files (least_names prefix) found tracks why)
  narrowed-heard None = (tt, tt)
  narrowed-heard (Some refutation) = (tt, (tt, (tt, tt)))

-- a file that was written, and more behind it
pub writes-behind : (done : Outcome) (file : JobFile) (more : List JobFile)
    (before between now : ShelfState) (o : Outcome)
    → between ≡ after_writing before file.name file.text → WritesFiles done more between now o
    → WritesFiles done (file ∷ more) before now o
writes-behind done file more before between now o is (inl (ends, written)) =
    inl (ends, subst (λ (s : ShelfState). now ≡ after_files more s) is written)
writes-behind done file more before between now o is (inr (slot, fails, ends)) = inr (
  slot,
  inr (subst (λ (s : ShelfState). FailsAmong more s now slot) is fails),
  ends,
)
