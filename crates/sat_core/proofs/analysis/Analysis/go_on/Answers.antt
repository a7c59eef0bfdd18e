use Rattle.std.proofs.Common.{◌<◌, ◌∷◌, ◌∙◌, [], length}
use Rattle.std.proofs.lemmas.List.Elements.{All-append, All-cons, All-nil}
use Rattle.sat_core.specs.declared.visit.Visit.{Visit}
use Rattle.sat_core.proofs.analysis.Analysis.go_on.Goals as goal

pub returns-clause-walking : goal.returns-clause-walking
returns-clause-walking c =
    let trail = c.args.self.now.watches.now.trail in
    let P = λ (v : Visit). v.place < length trail in
    let left : Visit =
    record { place = c.args.visit.place; next = c.in-Some-next_uncovered.found.next } in
    let next : Visit = record { place = c.in-Some-next_uncovered.found.place; next = 0 } in
    record {
      implied = rw c.descend.ensures.used c.requires.walking.implied;
      on = rw c.descend.ensures.visits (All-append P c.args.implied.now.visits
          (left ∷ next ∷ []) c.requires.walking.on
          (All-cons P left (next ∷ []) c.requires.on
          (All-cons P next [] c.in-Some-next_uncovered.ensures.on (All-nil P))));
      size = c.descend.ensures.size ∙ c.requires.walking.size;
    }
