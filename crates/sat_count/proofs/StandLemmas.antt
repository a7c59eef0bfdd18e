-- The first level.
use Rattle.std.proofs.Common.{◌≡◌, ℕ, ◌+◌, ◌≤◌, List, length, get_or, All, subst, ap, arith}
use Rattle.sat_clause.specs.declared.literal.Lit.{Lit}
use Rattle.sat_clause.specs.Literal.{IsWithin}
use Rattle.sat_count.specs.Firsts.{AreApart, IsBelow, first_apart, first_some}
use Rattle.sat_count.specs.Levels.{Stands}
use Rattle.sat_count.specs.Places.{apart_id, pair_place, some_id}
use Rattle.sat_count.specs.Refuting.{Erases, Holds, RefutationState}
use Rattle.sat_count.specs.Rows.{AddsPairs, AddsRow}
use Rattle.sat_count.proofs.GrowLemmas.{grows-on}
use Rattle.sat_count.proofs.LevelLemmas.{live-erased}
use Rattle.sat_count.proofs.RowLemmas.{row-all}
use Rattle.sat_count.proofs.VariableLemmas.{within-yes}

module _ (r : RefutationState) (tracks : ℕ) (firsts : List ℕ) (each : length firsts ≡ tracks + 1)
    (below : IsBelow r tracks firsts) where
  pub some-inside : (place : ℕ) → place ≤ tracks
      → All (IsWithin r.last_variable) (first_some tracks firsts place)
  some-inside place low =
      let first = below place 0 (omega (arith, low, each)) in
      row-all (λ (l : Lit). IsWithin r.last_variable l) (get_or firsts place 0) tracks
      (λ k from under. within-yes r.last_variable k (omega (arith, under, first)))

module _ (r0 r1 r2 r3 : RefutationState) (tracks : ℕ) (firsts : List ℕ)
    (each : length firsts ≡ tracks + 1) (below : IsBelow r0 tracks firsts)
    (differ : AreApart tracks firsts)
    (some : AddsRow r0 r1 (tracks + 1) (first_some tracks firsts))
    (apart : AddsPairs r1 r2 (tracks + 1) tracks (first_apart firsts))
    (erases : Erases r2 r3 r0.last_id)
  where
    pub first-stands : Stands r3 tracks r0.last_id firsts
    first-stands = record {
      some = λ place low. erases.kept (some_id r0.last_id place) (first_some tracks firsts place)
          (omega arith) (apart.grows.kept (some_id r0.last_id place)
          (first_some tracks firsts place) (some.holds place (omega (arith, low))));
      apart = λ lower higher track order low inside.
          erases.kept (apart_id r0.last_id tracks lower higher track)
          (first_apart firsts lower higher track) (omega arith)
          (subst (λ (n : ℕ). Holds r2 n (first_apart firsts lower higher track))
          (ap (λ (n : ℕ). n + pair_place tracks lower higher track + 1) some.last)
          (apart.holds lower higher track order (omega (arith, low)) inside));
      differ = differ;
      low = λ place low.
          let first = below place 0 (omega (arith, low, each)) in
          omega (arith, first, some.variables, apart.variables, erases.variables);
      behind_last = omega (arith, some.grows.ids, apart.grows.ids, erases.last_id);
      live = record {
        each = λ id past last.
            let grown = grows-on r0 r1 r2 some.grows apart.grows in
            live-erased r2 r3 r0.last_id erases id past
            (grown.added.each id past (omega (arith, last, erases.last_id)));
      };
    }
