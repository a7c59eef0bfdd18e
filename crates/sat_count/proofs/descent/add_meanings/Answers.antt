use Rattle.std.proofs.Common.{rules, ◌≡◌, ◌+◌, ◌*◌, ◌∙◌, ◌∷◌, ℕ, List, [], get_or, arith, length, length-append, subst, ap}
use Rattle.sat_clause.specs.declared.limits.TheConstants.{LITERAL_LIMIT}
use Rattle.sat_count.specs.Descending.{given_at, kept_at, moved_at}
use Rattle.sat_count.specs.Rows.{DefinesRows}
use Rattle.sat_count.proofs.FirstLemmas.{firsts-below, firsts-more}
use Rattle.sat_count.proofs.GrowLemmas.{all-more, all-none}
use Rattle.sat_count.proofs.LevelLemmas.{level-grows}
use Rattle.sat_count.proofs.descent.add_meanings.Goals as goal

pub loop-place-init : goal.loop-place-init
loop-place-init c = record {
  defined = all-none c.args.refutation.now c.args.tracks (kept_at c.args.above.now)
      (moved_at c.args.above.now c.args.tracks) (given_at c.args.above.now c.args.tracks);
  each = search rules;
  firsts = λ place low. absurd (omega (arith, low));
}

pub add_meanings_of-requires-clause-level : goal.add_meanings_of-requires-clause-level
add_meanings_of-requires-clause-level c =
    level-grows c.args.refutation.now c.loop-place.refutation c.args.above.now.tracks
    c.args.above.now.behind c.args.above.now.firsts.items c.loop-place.invariant.defined.grows
    c.requires.level

pub loop-place-preserved : goal.loop-place-preserved
loop-place-preserved c =
    let n : ℕ = c.loop-place.place in
    let first : ℕ = c.args.refutation.now.last_variable in
    let here : c.last_variable.result ≡ first + n * c.args.tracks =
    c.last_variable.ensures.value ∙ c.loop-place.invariant.defined.variables in
    record {
      defined = all-more c.args.refutation.now c.loop-place.refutation
          c.add_meanings_of.new.refutation n c.args.tracks (kept_at c.args.above.now)
          (moved_at c.args.above.now c.args.tracks) (given_at c.args.above.now c.args.tracks)
          c.loop-place.invariant.defined c.in-Ok-add_meanings_of.ensures;
      each = omega (
        arith,
        c.in-Ok.ensures.len,
        c.loop-place.invariant.each,
        ap length c.in-Ok.ensures.items,
        length-append c.loop-place.firsts.items
            (c.last_variable.result ∷ []),
      );
      firsts = λ place low.
          ap (λ (xs : List ℕ). get_or xs place 0) c.in-Ok.ensures.items
          ∙ firsts-more c.loop-place.firsts.items first c.args.tracks n c.last_variable.result
          c.loop-place.invariant.each c.loop-place.invariant.firsts here place low;
    }

pub returns-clause-defined : goal.returns-clause-defined
returns-clause-defined c =
    let all : c.loop-place.place ≡ c.args.tracks + 1 =
    omega (arith, c.loop-place-test.false, c.loop-place.auto) in
    subst (λ (n : ℕ). DefinesRows c.args.refutation.now c.loop-place.refutation n c.args.tracks
    (kept_at c.args.above.now) (moved_at c.args.above.now c.args.tracks)
    (given_at c.args.above.now c.args.tracks)) all c.loop-place.invariant.defined

pub returns-clause-few : goal.returns-clause-few
returns-clause-few c =
    let all : c.loop-place.place ≡ c.args.tracks + 1 =
    omega (arith, c.loop-place-test.false, c.loop-place.auto) in
    let rows : c.loop-place.place * c.args.tracks ≡ (c.args.tracks + 1) * c.args.tracks =
    ap (λ (n : ℕ). n * c.args.tracks) all in
    firsts-below c.loop-place.firsts.items c.args.refutation.now.last_variable c.args.tracks
    LITERAL_LIMIT (c.loop-place.invariant.each ∙ all)
    (λ place low. c.loop-place.invariant.firsts place (omega (arith, low, all)))
    (omega (
      arith,
      c.last_variable-few.ensures.few,
      c.last_variable-few.ensures.value,
      c.loop-place.invariant.defined.variables,
      rows,
    ))

pub returns-clause-firsts : goal.returns-clause-firsts
returns-clause-firsts c = λ place low.
    let all : c.loop-place.place ≡ c.args.tracks + 1 =
    omega (arith, c.loop-place-test.false, c.loop-place.auto) in
    c.loop-place.invariant.firsts place (omega (arith, low, all))
