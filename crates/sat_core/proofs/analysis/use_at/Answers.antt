use Rattle.std.proofs.Common.{◌∙◌, inl, inr, [], refl, sym, ap}
use Rattle.std.proofs.lemmas.List.{append-nil}
use Rattle.sat_core.specs.Analysis.{HasLevel}
use Rattle.sat_core.specs.Implied.{IsLeftOut}
use Rattle.sat_core.specs.Marks.{MarkState}
use Rattle.sat_core.proofs.ImpliedLaws.{entry_left_out, entry_needed, left_out_covers, left_out_low, left_out_reason, walked_more}
use Rattle.sat_core.proofs.TrailPlaces.{has_some}
use Rattle.sat_core.proofs.UseLaws.{IsLow, lower_goes, lower_on, lower_point, used_front, uses_met, uses_only, uses_size, uses_used}
use Rattle.sat_core.proofs.analysis.use_at.Goals as goal
use Rattle.sat_core.proofs.analysis.use_at.Goals.{After-use_entry}

-- the place is left out, and so it lies low
module _ (c : After-use_entry) where
  out : IsLeftOut c.args.watches.now.trail c.args.implied.now.marks.used c.place-place.result
  out =
      entry_left_out c.args.watches.now.trail c.args.implied.now.marks.used c.place-place.result
      c.entry_at-entry.result c.entry_at-entry.ensures.at
      (c.is_left_out.ensures.yes c.if-not-is_left_out.false)

  low : IsLow c.args.watches.now c.place-place.result
  low =
      let p = c.place-place.result in
      let e = c.entry_at-entry.result in
      let here : HasLevel c.args.watches.now.trail e.level p =
      (e, c.entry_at-entry.ensures.at, refl) in
      record {
        level = e.level;
        here = here;
        reason = left_out_reason c.requires.walked p out;
        under = left_out_low c.requires.walked p out e.level here;
      }

pub unreachable-requires : goal.unreachable-requires
unreachable-requires c =
    let p = c.place-place.result in
    has_some c.args.watches.now.trail p c.entry_at-entry.result c.entry_at-entry.ensures.at
    (left_out_reason c.requires.walked p
    (entry_left_out c.args.watches.now.trail c.args.implied.now.marks.used p
    c.entry_at-entry.result c.entry_at-entry.ensures.at
    (c.is_left_out.ensures.yes c.if-not-is_left_out.false)))
    (sym c.clause.ensures ∙ c.in_default.is)

pub returns-then-not-is_left_out-clause-used : goal.returns-then-not-is_left_out-clause-used
returns-then-not-is_left_out-clause-used c =
    let w = c.args.watches.now in
    let p = c.place-place.result in
    let old = c.args.marks.now in
    let found = c.args.implied.now.marks.used in
    used_front w c.args.i p old c.place-place.ensures.value (IsLeftOut w.trail found) old []
    (sym (append-nil old.places)) (λ q is. is)
    (λ out. absurd (entry_needed w.trail found p c.entry_at-entry.result
    c.entry_at-entry.ensures.at (c.is_left_out.ensures.none c.if-not-is_left_out.true) out))

pub returns-clause-walked : goal.returns-clause-walked
returns-clause-walked c =
    let uses = c.use_entry.ensures.uses in
    let walked = c.requires.walked in
    let is_low = low (goal.at.returns-clause-walked c).After-use_entry in
    walked_more walked (uses_size uses) (uses_met uses)
    (lower_on walked.known is_low c.place-place.ensures.met uses walked.on)

pub returns-clause-goes_on : goal.returns-clause-goes_on
returns-clause-goes_on c =
    lower_goes c.requires.walked.known
    (low (goal.at.returns-clause-goes_on c).After-use_entry) c.place-place.ensures.met
    c.use_entry.ensures.uses

pub returns-clause-point : goal.returns-clause-point
returns-clause-point c =
    lower_point c.requires.walked.known
    (low (goal.at.returns-clause-point c).After-use_entry) c.place-place.ensures.met
    c.use_entry.ensures.uses

pub returns-clause-used : goal.returns-clause-used
returns-clause-used c =
    let w = c.args.watches.now in
    let p = c.place-place.result in
    let uses = c.use_entry.ensures.uses in
    used_front w c.args.i p c.args.marks.now c.place-place.ensures.value
    (IsLeftOut w.trail c.args.implied.now.marks.used) c.use_entry.new.marks uses.meets.added
    (ap (λ (s : MarkState). s.places) uses.is ∙ uses.meets.places) (uses_used uses)
    (λ out. uses.here)

pub returns-clause-no_more : goal.returns-clause-no_more
returns-clause-no_more c q is = elim (uses_only c.use_entry.ensures.uses q is) [
  | inl before ↦ inl before
  | inr from ↦ left_out_covers c.requires.walked c.place-place.result
      (out (goal.at.returns-clause-no_more c).After-use_entry) q from
]
