use mir.Syntax.{w32, w64}
use mir.Val.{SFits}
use Rattle.std.proofs.Common.{◌≡◌, ◌∙◌, ◌+◌, ◌++◌, ◌∷◌, ◌<◌, [], ℕ, ℤ, pos, List, add-one, arith, get_or, length, refl, rules, take}
use Rattle.std.specs.Prelude.{map}
use Rattle.std.proofs.lemmas.Int.{ints, to_z-of_z}
use Rattle.std.proofs.lemmas.List.{map-append}
use Rattle.std.proofs.lemmas.List.Elements.{All-get_or}
use Rattle.std.proofs.lemmas.Option.{slice_get-get_or}
use Rattle.list_laws.proofs.Places.{take-get}
use Rattle.sat_clause.specs.declared.literal.Lit.{Lit}
use Rattle.sat_clause.specs.Literal.{IsLiteral, lit}
use Rattle.sat_text.proofs.step_draft.read_literals.Goals as goal

-- a literal fits 32 bits
literal_fits : (z : ℤ) → IsLiteral (lit z) → SFits w32 z
literal_fits z is = omega (arith, ints, is.0, is.1)

literal_next : (numbers : List ℤ) (i : ℕ) (lits : List Lit) → i < length numbers →
    lits ≡ map lit (take i numbers) →
    lits ++ lit (get_or numbers i (pos 0)) ∷ [] ≡ map lit (take (i + 1) numbers)
literal_next numbers i lits within front =
    rw (
      add-one,
      take-get numbers i _ (slice_get-get_or numbers i (pos 0) within),
      map-append lit (take i numbers) (get_or numbers i (pos 0) ∷ []),
      ← front,
    ) refl

pub overflow_cast-n : goal.overflow_cast-n
overflow_cast-n c =
    let n = get_or c.args.numbers.now c.loop-n.n-index (pos 0) in
    let wide : SFits w64 n = search rules in
    rw (to_z-of_z w64 n wide) (literal_fits n (All-get_or (λ (k : ℤ). IsLiteral (lit k))
    c.args.numbers.now c.loop-n.n-index (pos 0) c.loop-n-test.true c.requires))

pub loop-n-preserved : goal.loop-n-preserved
loop-n-preserved c =
    let numbers = c.args.numbers.now in
    let n = get_or numbers c.loop-n.n-index (pos 0) in
    let wide : SFits w64 n = search rules in
    let fits = literal_fits n (All-get_or (λ (k : ℤ). IsLiteral (lit k)) numbers c.loop-n.n-index
    (pos 0) c.loop-n-test.true c.requires) in
    let pushed = simp to_z-of_z at c.in-Ok.ensures.items in
    pushed ∙ literal_next numbers c.loop-n.n-index _ c.loop-n-test.true c.loop-n.invariant
