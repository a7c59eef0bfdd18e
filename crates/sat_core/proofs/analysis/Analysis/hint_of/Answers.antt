use Rattle.std.proofs.Common.{◌≡◌, ◌∙◌, refl, sym, reverse}
use Rattle.std.proofs.lemmas.Option.{get_or_from_slice_get}
use Rattle.sat_core.specs.Reading.{entry_at}
use Rattle.sat_core.proofs.TrailPlaces.{no_entry}
use Rattle.sat_core.proofs.analysis.Analysis.hint_of.Goals as goal

pub returns : goal.returns
returns c =
    let w = c.args.self.now.watches.now in
    let read : entry_at w.trail c.args.place ≡ c.entry_at.result =
    get_or_from_slice_get (reverse w.trail) c.args.place c.entry_at.result no_entry
    c.entry_at.ensures.at in
    rw (c.id.ensures.value, ← c.if-not-is_used.ensures, read, sym c.clause.ensures ∙ c.in-Some.is)
    refl
