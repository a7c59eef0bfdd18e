-- What a pin line says, side by side.
use Rattle.std.proofs.Common.{◌≡◌, Bool, true, false, [], ◌∷◌, drop, slice_get, Some, None, refl, sym, ap, ◌∙◌}
use Rattle.std.specs.Prelude.{◌||◌, not}
use Rattle.std.specs.List.{list_any}
use Rattle.std.proofs.Math.Bool.{or_assoc}
use Rattle.fpga_types.specs.ArchSound.{has_side}
use Rattle.fpga_types.specs.declared.arch.SideSet.{SideSet}
use Rattle.fpga_text.specs.Bytes.{Bytes}
use Rattle.fpga_text.specs.Words.{Words}
use Rattle.fpga_arch.specs.Pins.{is_no_side, lacks_sides, side_of, side_set, with_sides}

-- the sides of three sets
pub sides_step : (a b c : SideSet) → with_sides (with_sides a b) c ≡ with_sides a (with_sides b c)
sides_step a b c = λ i. record {
  left = or_assoc a.left b.left c.left i;
  right = or_assoc a.right b.right c.right i;
  bottom = or_assoc a.bottom b.bottom c.bottom i;
  top = or_assoc a.top b.top c.top i;
}

-- a set with a side has one with another set too
pub sided-more : (a b : SideSet) → has_side a ≡ true → has_side (with_sides a b) ≡ true
sided-more a b some = go a.left a.right a.bottom a.top b.left b.right b.bottom b.top some
  where
    go : (l r m t l2 r2 m2 t2 : Bool) → (l || r || m || t) ≡ true
        → ((l || l2) || (r || r2) || (m || m2) || (t || t2)) ≡ true
    go true r m t l2 r2 m2 t2 e = refl
    go false r m t true r2 m2 t2 e = refl
    go false true m t false r2 m2 t2 e = refl
    go false false m t false true m2 t2 e = refl
    go false false true t false false m2 t2 e = refl
    go false false false t false false true t2 e = refl
    go false false false true false false false t2 e = refl
    go false false false false false false false t2 e = absurd (let clash : false ≡ true = e in cc)

-- the first of words
pub words-first : (words : Words) (word : Bytes) → Some word ≡ slice_get words 0 → words
    ≡ word ∷ drop 1 words
words-first [] word said = absurd (let clash : Some word ≡ None = said in cc)
words-first (w ∷ more) word said =
    let same : word ≡ w = cc in ap (λ (v : Bytes). v ∷ more) (sym same)

-- one more word of a side
pub sides-more : (all ahead : Words) (word : Bytes) (sides : SideSet)
    → Some word ≡ slice_get ahead 0
    → with_sides sides (side_set ahead) ≡ side_set all
    → with_sides (with_sides sides (side_of word)) (side_set (drop 1 ahead)) ≡ side_set all
sides-more all ahead word sides said so_far =
    sides_step sides (side_of word) (side_set (drop 1 ahead))
    ∙ sym (ap (λ (ws : Words). with_sides sides (side_set ws)) (words-first ahead word said))
    ∙ so_far

pub lacks-more : (all ahead : Words) (word : Bytes) → Some word ≡ slice_get ahead 0
    → has_side (side_of word) ≡ true → list_any is_no_side ahead ≡ lacks_sides all
    → list_any is_no_side (drop 1 ahead) ≡ lacks_sides all
lacks-more all ahead word said sided so_far =
    sym (ap (λ b. not b || list_any is_no_side (drop 1 ahead)) sided)
    ∙ sym (ap (list_any is_no_side) (words-first ahead word said)) ∙ so_far
