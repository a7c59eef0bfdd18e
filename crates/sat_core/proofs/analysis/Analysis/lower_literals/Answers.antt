use Rattle.std.proofs.Common.{◌≡◌, ◌<◌, ◌∙◌, ◌++◌, ◌∷◌, [], List, ℕ, get_or, take, AllPairs, sym, ap, subst}
use Rattle.std.proofs.lemmas.Bool.{both_ways}
use Rattle.std.proofs.lemmas.List.{take_more}
use Rattle.sat_clause.specs.declared.literal.Lit.{Lit}
use Rattle.sat_clause.specs.Literal.{negation}
use Rattle.sat_core.specs.Reading.{AreLearned}
use Rattle.sat_core.proofs.MarksLaws.{front_below, listed_met, mark_within}
use Rattle.sat_core.proofs.ReadingLemmas.{learned_push, learned_skip}
use Rattle.sat_core.proofs.analysis.Analysis.lower_literals.Goals as goal

pub is_used-requires : goal.is_used-requires
is_used-requires c =
    let s = c.args.self.now.marks.now in
    let items = c.places-place-items.result.now in
    mark_within s.met (get_or items c.loop-place.place-index 0)
    (listed_met c.places-place-items.ensures.marks items c.loop-place.place-index
    c.places-place-items.ensures.value c.loop-place-test.true)

pub loop-place-preserved-then-is_used : goal.loop-place-preserved-then-is_used
loop-place-preserved-then-is_used c =
    let items = c.places-place-items.result.now in
    let i = c.loop-place.place-index in
    rw (take_more items i 0 c.loop-place-test.true)
    (learned_skip c.args.self.now.watches.now c.args.self.now.marks.now c.args.point (take i
    items) (get_or items i 0)
    c.loop-place.lits.items c.loop-place.back c.loop-place.invariant
    (λ lower. lower.0 (sym c.is_used.ensures ∙ c.if-is_used.true)))

pub loop-place-preserved-then-place-point : goal.loop-place-preserved-then-place-point
loop-place-preserved-then-place-point c =
    let items = c.places-place-items.result.now in
    let i = c.loop-place.place-index in
    rw (take_more items i 0 c.loop-place-test.true)
    (learned_skip c.args.self.now.watches.now c.args.self.now.marks.now c.args.point (take i
    items) (get_or items i 0)
    c.loop-place.lits.items c.loop-place.back c.loop-place.invariant
    (λ lower. lower.1 c.if-place-point.true))

pub entry_at-entry-requires : goal.entry_at-entry-requires
entry_at-entry-requires c =
    let items = c.places-place-items.result.now in
    c.args.self.now.on (get_or items c.loop-place.place-index 0)
    (listed_met c.places-place-items.ensures.marks items c.loop-place.place-index
    c.places-place-items.ensures.value c.loop-place-test.true)

pub loop-place-preserved : goal.loop-place-preserved
loop-place-preserved c =
    let w = c.args.self.now.watches.now in
    let s = c.args.self.now.marks.now in
    let items = c.places-place-items.result.now in
    let i = c.loop-place.place-index in
    let p = get_or items i 0 in
    let e = c.entry_at-entry.result in
    let rise = subst (λ (ps : List ℕ). AllPairs (λ a b. a < b) ps)
    (sym c.places-place-items.ensures.value) c.requires.rising in
    let more : AreLearned w s c.args.point (take i items ++ p ∷ [])
    (c.loop-place.lits.items ++ negation e.lit ∷ []) c.higher-back.result =
    learned_push w s c.args.point (take i items) p c.loop-place.lits.items
    c.loop-place.back c.loop-place.invariant e c.higher-back.result c.entry_at-entry.ensures.once
    c.entry_at-entry.ensures.at (
      (λ used. both_ways _ (sym c.is_used.ensures ∙ c.if-is_used.false) used),
      c.if-place-point.false,
    )
    (front_below items i rise c.loop-place-test.true) c.higher-back.ensures in
    let pushed : c.push.new.self.items ≡ c.loop-place.lits.items ++ negation e.lit ∷ [] =
    c.in_ok-push.ensures.items
    ∙ ap (λ (l : Lit). c.loop-place.lits.items ++ l ∷ []) c.negation.ensures.value in
    rw (take_more items i 0 c.loop-place-test.true, pushed) more
