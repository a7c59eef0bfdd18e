-- Nets on pins, one pin more.
use Rattle.std.proofs.Common.{◌≡◌, ℕ, ◌+◌, ◌<◌, true, false, List, [], ◌∷◌, ◌++◌, length, drop, get_or, refl, sym, ap, ◌∙◌, add-one, drop-cons, append_assoc, append-nil, arith, subst}
use Rattle.std.specs.Prelude.{Option, Some, None, option_to_list, map}
use Rattle.std.specs.Borrow.{Bor}
use Rattle.std.specs.List.{cons_option}
use Rattle.std.proofs.lemmas.List.{drop-map}
use Rattle.fpga_types.specs.declared.arch.PinSpec.{PinSpec}
use Rattle.fpga_text.specs.Bytes.{Bytes}
use Rattle.fpga_net.specs.Uses.{Use, is_open, use_of, uses_from, uses_on}

-- the first of what is ahead
pub cons_option-front : {X : Type 0} (front : List X) (o : Option X) (back : List X)
    → front ++ cons_option o back ≡ (front ++ option_to_list o) ++ back
cons_option-front front None back = ap (λ xs. xs ++ back) (sym (append-nil front))
cons_option-front front (Some x) back = sym (append_assoc front (x ∷ []) back)

-- the nets that were found on the pins up to a place are the first of all
abbrev pub AreFound : ℕ → List PinSpec → List (Bor Bytes) → ℕ → List Use → Type 0
AreFound block pins words i found =
    found ++ uses_from block i (drop i pins) (drop i (map (λ (w : Bor Bytes). w.now) words))
    ≡ uses_on block pins (map (λ (w : Bor Bytes). w.now) words)

module _ (block : ℕ) (pins : List PinSpec) (words : List (Bor Bytes)) (i : ℕ) (found : List Use)
    (d : PinSpec) (e : Bor Bytes) (so_far : AreFound block pins words i found)
    (same : length words ≡ length pins) (within : i < length words) where
  -- what the next word says
  abbrev here : Option Use
  here = use_of block (i, (get_or pins i d, (get_or words i e).now))

  next : AreFound block pins words (i + 1) (found ++ option_to_list here)
  next =
      sym (cons_option-front found here
      (uses_from block (i + 1) (drop (i + 1) pins)
      (drop (i + 1) (map (λ (w : Bor Bytes). w.now) words))))
      ∙ ap (λ us. found ++ us) ahead ∙ so_far
    where
      ahead : cons_option here (uses_from block (i + 1) (drop (i + 1) pins)
          (drop (i + 1) (map (λ (w : Bor Bytes). w.now) words)))
          ≡ uses_from block i (drop i pins) (drop i (map (λ (w : Bor Bytes). w.now) words))
      ahead = let inside : i < length pins = omega (arith, same, within) in rw (
        drop-map (λ (w : Bor Bytes). w.now) i words,
        drop-map (λ (w : Bor Bytes). w.now) (i + 1) words,
        drop-cons pins i d,
        drop-cons words i e,
        add-one,
      ) refl

  -- the next pin is on no net
  pub next-open : is_open (get_or words i e).now ≡ true → AreFound block pins words (i + 1) found
  next-open none =
      subst (λ us. AreFound block pins words (i + 1) us)
      (ap (λ o. found ++ option_to_list o) is ∙ append-nil found) next
    where
      is : here ≡ None
      is = rw none refl

  -- the next pin is on a net
  pub next-on : is_open (get_or words i e).now ≡ false
      → AreFound block pins words (i + 1) (found ++ record {
        at = record { block = block; pin = i };
        pin = get_or pins i d;
        net = (get_or words i e).now;
      } ∷ [])
  next-on some =
      subst (λ o. AreFound block pins words (i + 1) (found ++ option_to_list o)) is next
    where
      is : here ≡ Some (record {
        at = record { block = block; pin = i };
        pin = get_or pins i d;
        net = (get_or words i e).now;
      })
      is = rw some refl
