use Rattle.std.proofs.Common.{◌≡◌, ◌∙◌, ◌+◌, ◌++◌, ◌∷◌, [], ◌||◌, ℕ, Bool, true, false, List, Option, None, Some, add-one, ap, ap₂, arith, length, refl, slice_get, sym, take}
use Rattle.std.specs.Prelude.{if◌then◌else◌, map}
use Rattle.std.specs.List.{list_any}
use Rattle.std.proofs.Math.Seq.{take-length}
use Rattle.std.proofs.lemmas.List.{map-append}
use Rattle.std.proofs.lemmas.List.Folds.{list_any_at}
use Rattle.std.proofs.lemmas.Option.{slice_get_read}
use Rattle.list_laws.proofs.Places.{take-get}
use Rattle.fpga_types.specs.declared.netlist.Block.{Block}
use Rattle.fpga_types.specs.declared.placement.Place.{Place}
use Rattle.fpga_text.specs.Bytes.{Bytes}
use Rattle.fpga_text.specs.FirstFault.{IsFaultOf}
use Rattle.fpga_text.specs.declared.fault.TextFault.{TextFault}
use Rattle.fpga_text.specs.declared.fault.TextFault.TheVariants.{Bad}
use Rattle.fpga_place.specs.Drafts.{Progress, placed, places_alone}
use Rattle.fpga_place.specs.Value.{place_of}
use Rattle.fpga_place.proofs.FaultLemmas.{any-push}
use Rattle.fpga_place.proofs.SoundLemmas.{lacks}
use Rattle.fpga_place.proofs.draft.all_places.Goals as goal

-- the blocks so far and one more
place_next : (named : Bytes → Option Place) (xs : List Block) (i : ℕ) (b : Block)
    (places : List Place) (p : Place) → slice_get xs i ≡ Some b → Some p ≡ named b.name
    → places ≡ map (place_of named) (take i xs)
    → places ++ p ∷ [] ≡ map (place_of named) (take (i + 1) xs)
place_next named xs i b places p at is front =
    rw (
      add-one,
      take-get xs i b at,
      map-append (place_of named) (take i xs) (b ∷ []),
      ← front,
      ← is,
    ) refl

line_next : (draft : Progress) (xs : List Block) (i : ℕ) (b : Block) (p : Place)
    → slice_get xs i ≡ Some b → Some p ≡ placed draft b.name
    → list_any (lacks draft) (take i xs) ≡ false → list_any (lacks draft) (take (i + 1) xs) ≡ false
line_next draft xs i b p at is none =
    let here : lacks draft b ≡ false = rw (← is) refl in
    rw (add-one, take-get xs i b at)
    (any-push (lacks draft) (take i xs) b ∙ ap₂ (λ (s t : Bool). s || t) none here)

-- the fault is there exactly where a block lacks a line
no_fault : (b : Bool) (fault : TextFault) → b ≡ false → (if b then Some fault else None) ≡ None
no_fault b fault is = rw is refl

one_fault : (b : Bool) (line code : ℕ) (fault : TextFault) → b ≡ true → fault ≡ Bad line code
    → IsFaultOf (if b then Some (Bad line code) else None) fault
one_fault b line code fault is fault_is = rw (is, fault_is) refl

pub loop-i-preserved : goal.loop-i-preserved
loop-i-preserved c =
    let draft = places_alone c.args.blocks.now c.args.places.now in
    let xs = c.as_slice-named.result.now in
    let b = c.index-named-i.result in
    let at = slice_get_read xs (length xs) c.loop-i.i b refl c.loop-i-test.true
    c.index-named-i.is in
    let is = c.in-Some.ensures
    ∙ ap (placed draft) (c.as_slice.ensures ∙ ap (λ (x : Block). x.name) c.block.view_is) in
    record {
      places = c.in-Ok-push.ensures.items
          ∙ place_next (placed draft) xs c.loop-i.i b _ _ at is c.loop-i.invariant.places;
      had_lines = line_next draft xs c.loop-i.i b _ at is c.loop-i.invariant.had_lines;
    }

pub returns-in_default-placed : goal.returns-in_default-placed
returns-in_default-placed c =
    let draft = places_alone c.args.blocks.now c.args.places.now in
    let b = c.index-named-i.result in
    let none = c.in_default-placed.ensures
    ∙ ap (placed draft) (c.as_slice.ensures ∙ ap (λ (x : Block). x.name) c.block.view_is) in
    let here : lacks draft b ≡ true = rw (← none) refl in
    one_fault _ _ _ _ (ap (list_any (lacks draft)) (sym c.as_slice-named.ensures)
    ∙ list_any_at (lacks draft) c.as_slice-named.result.now c.loop-i.i b c.loop-i-test.true
    (ap (lacks draft) (sym c.index-named-i.is) ∙ here)) c.at.ensures

pub returns : goal.returns
returns c =
    let draft = places_alone c.args.blocks.now c.args.places.now in
    let xs = c.as_slice-named.result.now in
    let end : c.loop-i.i ≡ length xs = omega arith in
    let whole : take c.loop-i.i xs ≡ c.args.blocks.now =
    ap (λ (n : ℕ). take n xs) end ∙ take-length xs ∙ c.as_slice-named.ensures in (
      no_fault _ _ (ap (list_any (lacks draft)) (sym whole) ∙ c.loop-i.invariant.had_lines),
      c.loop-i.invariant.places ∙ ap (map (place_of (placed draft))) whole,
    )
