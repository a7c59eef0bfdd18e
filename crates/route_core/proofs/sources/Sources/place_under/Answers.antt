use Rattle.std.proofs.Common.{List, Some, sym, ap, subst, ◌∙◌}
use Rattle.route_core.specs.SourceStore.{HasId, IdsRise, NoneHasId}
use Rattle.route_core.specs.declared.sources.AddedStep.{AddedStep}
use Rattle.route_core.proofs.ListedLemmas.{listed-found, listed-none, listed-rise, place-inside}
use Rattle.route_core.proofs.sources.Sources.place_under.Goals as goal

pub number_of-requires : goal.number_of-requires
number_of-requires c =
    subst (λ (xs : List AddedStep). IdsRise xs)
    (sym (c.deref.ensures.value ∙ c.self.invariant.listed))
    (listed-rise 0 _ c.self.inside.log.now.steps c.self.invariant.rise)

pub returns-in_default-clause-value : goal.returns-in_default-clause-value
returns-in_default-clause-value c =
    rw (← c.self.view_is)
    (sym (listed-none 0 c.self.inside.log.now.steps c.args.id
    (subst (λ (xs : List AddedStep). NoneHasId xs c.args.id)
    (c.deref.ensures.value ∙ c.self.invariant.listed) c.in_default.ensures)))

pub returns-clause-value : goal.returns-clause-value
returns-clause-value c =
    let has = subst (λ (xs : List AddedStep). HasId xs c.args.id c.in-Some.number)
    c.deref.ensures.value c.in-Some.ensures in
    rw (← c.self.view_is)
    (sym (listed-found _ c.self.inside.log.now.steps c.self.inside.added.items
    c.self.invariant.listed c.self.invariant.rise c.args.id c.in-Some.number has
    c.index.result.now ∙ ap (λ (s : AddedStep). Some s.place) (sym c.index.ensures)))

pub returns-clause-within : goal.returns-clause-within
returns-clause-within c =
    place-inside c.args.self.now.log c.args.id c.index.result.now.place
    (sym (returns-clause-value c))
