use Rattle.std.proofs.Common.{◌≡◌, ◌≤◌, ◌∙◌, ℕ, List, Bool, length, filter, subst, ap, sym, arith}
use Rattle.fpga_graph.specs.GraphOf.{GraphOf}
use Rattle.fpga_types.specs.declared.problem.Slot.{Slot}
use Rattle.fpga_graph.specs.declared.opened.TheConstants.{MOST_TRACKS}
use Rattle.problem_facts.specs.Alone.{AreClosed, is_of_tree}
use Rattle.problem_facts.proofs.ClosedLemmas.{count-roots, root-within, full-trackless, none-trackless}
use Rattle.problem_facts.proofs.closed_tree.closed_tree.Goals as goal

pub closed_tracks-requires-clause-within : goal.closed_tracks-requires-clause-within
closed_tracks-requires-clause-within c =
    root-within c.args.problem.now c.args.roots.now c.requires.roots

pub closed_tracks-requires-clause-slots : goal.closed_tracks-requires-clause-slots
closed_tracks-requires-clause-slots c = λ k d low.
    let within = c.pin_steps.ensures.touching k d low in
    let count = ap (λ (row : List ℕ). length row) c.requires.roots
    ∙ count-roots c.args.problem.now in
    omega (arith, within.within, count)

pub first_full-requires-clause-few : goal.first_full-requires-clause-few
first_full-requires-clause-few c =
    let rows = ap (λ (rs : List (List Bool)). length rs) c.deref.ensures.value
    ∙ c.in_ok-rows.ensures.each in
    let roots = ap (λ (row : List ℕ). length row) c.requires.roots
    ∙ count-roots c.args.problem.now in
    let count = ap (λ (all : List Slot). length all) c.slots-few.ensures.value in
    omega (arith, rows, roots, count, c.slots-few.ensures.limit)

pub pins_of-requires : goal.pins_of-requires
pins_of-requires c = record {
  within = λ k d low.
      let within = c.pin_steps-2.ensures.touching k d low in
      let count = ap (λ (row : List ℕ). length row) c.requires.roots
      ∙ count-roots c.args.problem.now in
      omega (arith, within.within, count);
}

pub returns-in_default-clause-none : goal.returns-in_default-clause-none
returns-in_default-clause-none c =
    let arch_is : c.new-graph.result.arch ≡ c.args.problem.now.arch =
    ap (λ (g : GraphOf). g.arch) c.new-graph.ensures ∙ c.arch.ensures.value in
    let width_is : c.new-graph.result.width ≡ c.args.width =
    ap (λ (g : GraphOf). g.width) c.new-graph.ensures in
    let most : c.args.width ≤ MOST_TRACKS = omega arith in
    λ u. none-trackless c.args.width c.args.problem.now c.new-graph.result c.args.roots.now
    c.pin_steps.result.now c.deref.result.now most arch_is width_is
    c.requires.roots c.pin_steps.ensures.value
    (ap (λ (rs : List (List Bool)). length rs) c.deref.ensures.value ∙ c.in_ok-rows.ensures.each)
    (subst (λ (rs : List (List Bool)). AreClosed c.new-graph.result.arch c.new-graph.result.width
    c.args.roots.now c.pin_steps.result.now rs) (sym c.deref.ensures.value)
    c.in_ok-rows.ensures.closed)
    (c.in_default.ensures.none u)

pub returns-clause-some : goal.returns-clause-some
returns-clause-some c =
    let arch_is : c.new-graph.result.arch ≡ c.args.problem.now.arch =
    ap (λ (g : GraphOf). g.arch) c.new-graph.ensures ∙ c.arch.ensures.value in
    let width_is : c.new-graph.result.width ≡ c.args.width =
    ap (λ (g : GraphOf). g.width) c.new-graph.ensures in
    let most : c.args.width ≤ MOST_TRACKS = omega arith in (
      full-trackless c.args.width c.args.problem.now c.new-graph.result c.args.roots.now
          c.pin_steps.result.now c.deref.result.now most arch_is width_is
          c.requires.roots c.pin_steps.ensures.value
          (ap (λ (rs : List (List Bool)). length rs) c.deref.ensures.value
          ∙ c.in_ok-rows.ensures.each)
          (subst (λ (rs : List (List Bool)). AreClosed c.new-graph.result.arch
          c.new-graph.result.width c.args.roots.now c.pin_steps.result.now rs)
          (sym c.deref.ensures.value) c.in_ok-rows.ensures.closed)
          c.requires.keeps c.in-Some.tree c.in-Some.ensures.some.0 c.in-Some.ensures.some.1,
      c.in_ok-pins.ensures
          ∙ (λ i. filter (is_of_tree (c.requires.roots i)
          c.in-Some.tree) (c.pin_steps-2.ensures.value i)),
    )
