-- What a draft has once a line was taken.
use Rattle.std.proofs.Common.{◌≡◌, ◌<◌, ◌≢◌, ℕ, Bool, true, false, List, [], ◌∷◌, ◌++◌, length, refl, sym, ap, ◌∙◌, arith}
use Rattle.std.specs.Prelude.{◌&&◌, not, All, if◌then◌else◌}
use Rattle.std.specs.List.{list_all, list_any}
use Rattle.std.proofs.lemmas.Bool.{and_parts, eq-eqb, or_parts}
use Rattle.std.proofs.lemmas.List.{get_or-set_other, length-append}
use Rattle.std.proofs.lemmas.List.Elements.{All-cons, All-push}
use Rattle.std.proofs.lemmas.List.Quantifiers.{all_pairs_push}
use Rattle.fpga_types.specs.ArchSound.{AgreeInClass, IsSoundPin}
use Rattle.fpga_types.specs.declared.arch.PinSpec.{PinSpec}
use Rattle.fpga_types.specs.declared.limits.TheConstants.{PIN_LIMIT}
use Rattle.fpga_arch.specs.declared.keyword.Keyword.{Keyword}
use Rattle.fpga_arch.specs.declared.keyword.Keyword.TheVariants.{IoRat}
use Rattle.fpga_arch.specs.Drafts.{IsDraft, marked, stands_in}
use Rattle.fpga_arch.specs.Keywords.{keywords, place_of}
use Rattle.fpga_arch.specs.Pins.{is_opposed}

-- a pin that is not opposed agrees
agrees-one : (pin earlier : PinSpec) → is_opposed pin.class pin.output earlier ≡ false
    → AgreeInClass earlier pin
agrees-one pin earlier none same = by_direction earlier.output pin.output
    (sym (ap (λ b. b && turned earlier.output pin.output) (eq-eqb earlier.class pin.class same))
    ∙ none)
  where
    turned : Bool → Bool → Bool
    turned a b = if b then not a else a

    by_direction : (a b : Bool) → (if b then not a else a) ≡ false → a ≡ b
    by_direction true true e = refl
    by_direction false false e = refl
    by_direction true false e = absurd (let clash : true ≡ false = e in cc)
    by_direction false true e = absurd (let clash : true ≡ false = e in cc)

-- each earlier pin agrees with one that none is opposed to
agrees-all : (pin : PinSpec) (pins : List PinSpec)
    → list_any (is_opposed pin.class pin.output) pins ≡ false
    → All (λ earlier. AgreeInClass earlier pin) pins
agrees-all pin [] none = λ k d within. absurd (omega arith)
agrees-all pin (earlier ∷ more) none =
    let parts = or_parts (is_opposed pin.class pin.output earlier)
    (list_any (is_opposed pin.class pin.output) more) none in
    All-cons (λ other. AgreeInClass other pin) earlier more (agrees-one pin earlier parts.0)
    (agrees-all pin more parts.1)

-- one more pin
pub draft-pin : (flags : List Bool) (io_rat : ℕ) (pins : List PinSpec) (output input pad : ℕ)
    (keyword : Keyword) (pin : PinSpec) → IsDraft flags io_rat pins output input pad
    → 0 ≢ place_of keyword → length pins < PIN_LIMIT → IsSoundPin pin
    → list_any (is_opposed pin.class pin.output) pins ≡ false
    → IsDraft (marked flags keyword) io_rat (pins ++ pin ∷ []) output input pad
draft-pin flags io_rat pins output input pad keyword pin is other room sound none = record {
  io_rat_above = λ stands. is.io_rat_above
      (sym (get_or-set_other flags (place_of keyword) 0 true false other) ∙ stands);
  io_rat_below = is.io_rat_below;
  pin_count = omega (arith, room, length-append pins (pin ∷ []));
  sound = All-push IsSoundPin pins pin is.sound sound;
  classes = all_pairs_push AgreeInClass pins pin is.classes (agrees-all pin pins none);
  shares = is.shares;
}

-- the first keyword stands where all do
pub first-stands : (flags : List Bool) → list_all (stands_in flags) keywords ≡ true
    → stands_in flags IoRat ≡ true
first-stands flags all = (and_parts (stands_in flags IoRat) _ all).0
