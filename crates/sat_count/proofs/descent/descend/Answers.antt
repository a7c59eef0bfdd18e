use Rattle.std.proofs.Common.{◌≡◌, ◌+◌, ◌-◌, ◌≤◌, ℕ, List, All, arith, length, subst, sym}
use Rattle.sat_count.specs.Descending.{AreFirsts}
use Rattle.sat_count.specs.Levels.{Stands}
use Rattle.sat_count.specs.Refuting.{Erases, Grows}
use Rattle.sat_count.proofs.StandLemmas.{first-stands}
use Rattle.sat_count.proofs.FirstLemmas.{firsts-apart, firsts-below}
use Rattle.sat_count.proofs.GrowLemmas.{grows-on, live-grows}
use Rattle.sat_count.proofs.LevelLemmas.{erase-live, ground-grows, ground-stands, helped-stand}
use Rattle.sat_count.proofs.descent.descend.Goals as goal

pub add_pairs-requires-clause-ground : goal.add_pairs-requires-clause-ground
add_pairs-requires-clause-ground c =
    ground-stands c.args.refutation.now c.add_meanings.new.refutation _
    (omega (arith, c.requires.more)) c.requires.level c.last_id-meanings.ensures
    (subst (λ (xs : List ℕ). AreFirsts c.args.refutation.now.last_variable
    (c.args.above.now.tracks - 1) xs) (sym c.deref.ensures.value) c.in-Ok.ensures.firsts)
    c.in-Ok.ensures.defined

pub add_some_tracks-requires : goal.add_some_tracks-requires
add_some_tracks-requires c =
    let fewer : c.args.above.now.tracks - 1 + 1 ≡ c.args.above.now.tracks =
    omega (arith, c.requires.more) in
    ground-grows c.add_meanings.new.refutation c.add_pairs.new.refutation _
    c.in-Ok-add_pairs.ensures.grows
    (ground-stands c.args.refutation.now c.add_meanings.new.refutation _
    fewer c.requires.level c.last_id-meanings.ensures
    (subst (λ (xs : List ℕ). AreFirsts c.args.refutation.now.last_variable
    (c.args.above.now.tracks - 1) xs) (sym c.deref.ensures.value) c.in-Ok.ensures.firsts)
    c.in-Ok.ensures.defined)

pub add_pairs-requires-2-clause-ground : goal.add_pairs-requires-2-clause-ground
add_pairs-requires-2-clause-ground c =
    let fewer : c.args.above.now.tracks - 1 + 1 ≡ c.args.above.now.tracks =
    omega (arith, c.requires.more) in
    ground-grows c.add_meanings.new.refutation c.add_some_tracks.new.refutation _
    (grows-on c.add_meanings.new.refutation c.add_pairs.new.refutation
    c.add_some_tracks.new.refutation c.in-Ok-add_pairs.ensures.grows
    c.in-Ok-add_some_tracks.ensures.grows)
    (ground-stands c.args.refutation.now c.add_meanings.new.refutation _
    fewer c.requires.level c.last_id-meanings.ensures
    (subst (λ (xs : List ℕ). AreFirsts c.args.refutation.now.last_variable
    (c.args.above.now.tracks - 1) xs) (sym c.deref.ensures.value) c.in-Ok.ensures.firsts)
    c.in-Ok.ensures.defined)

pub add_pairs-requires-2-clause-ready : goal.add_pairs-requires-2-clause-ready
add_pairs-requires-2-clause-ready c =
    helped-stand c.add_meanings.new.refutation c.add_pairs.new.refutation
    c.add_some_tracks.new.refutation _ c.last_id.ensures c.in-Ok-add_pairs.ensures
    c.in-Ok-add_some_tracks.ensures.grows

pub erase-requires-clause-live : goal.erase-requires-clause-live
erase-requires-clause-live c =
    let r1 = c.add_meanings.new.refutation in
    let r2 = c.add_pairs.new.refutation in
    let r3 = c.add_some_tracks.new.refutation in
    let r4 = c.add_pairs-2.new.refutation in
    let later : Grows r2 r4 = grows-on r2 r3 r4 c.in-Ok-add_some_tracks.ensures.grows
    c.in-Ok-add_pairs-2.ensures.grows in
    let all : Grows c.args.refutation.now r4 =
    grows-on c.args.refutation.now r1 r4 c.in-Ok.ensures.defined.grows
    (grows-on r1 r2 r4 c.in-Ok-add_pairs.ensures.grows later) in
    erase-live r4 c.args.above.now.behind c.last_id-behind.result
    (live-grows c.args.refutation.now r4 c.args.above.now.behind all c.requires.level.live)
    (omega (arith, c.last_id-behind.ensures, later.ids))

pub returns-clause-level : goal.returns-clause-level
returns-clause-level c =
    let tracks : ℕ = c.args.above.now.tracks - 1 in
    let r2 = c.add_pairs.new.refutation in
    let xs : List ℕ = c.deref.result.now in
    let firsts : AreFirsts c.args.refutation.now.last_variable tracks xs =
    subst (λ (zs : List ℕ). AreFirsts c.args.refutation.now.last_variable tracks zs)
    (sym c.deref.ensures.value) c.in-Ok.ensures.firsts in
    let each : length xs ≡ tracks + 1 =
    subst (λ (zs : List ℕ). length zs ≡ tracks + 1) (sym c.deref.ensures.value)
    c.in-Ok.ensures.each in
    let below : All (λ f. f + tracks ≤ r2.last_variable) xs =
    firsts-below xs c.args.refutation.now.last_variable tracks r2.last_variable each firsts
    (omega (arith, c.in-Ok.ensures.defined.variables, c.in-Ok-add_pairs.ensures.variables)) in
    let erases : Erases c.add_pairs-2.new.refutation c.erase.new.self r2.last_id =
    subst (λ (n : ℕ). Erases c.add_pairs-2.new.refutation c.erase.new.self n)
    c.last_id-behind.ensures c.in-Ok-erase.ensures in
    let stands : Stands c.erase.new.self tracks r2.last_id xs =
    first-stands r2 c.add_some_tracks.new.refutation c.add_pairs-2.new.refutation
    c.erase.new.self tracks xs each below
    (firsts-apart xs c.args.refutation.now.last_variable tracks firsts)
    c.in-Ok-add_some_tracks.ensures c.in-Ok-add_pairs-2.ensures erases in
    subst (λ (zs : List ℕ). Stands c.erase.new.self tracks c.last_id-behind.result zs)
    c.deref.ensures.value
    (subst (λ (n : ℕ). Stands c.erase.new.self tracks n xs) (sym c.last_id-behind.ensures)
    stands)
