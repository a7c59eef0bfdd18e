-- Where a line is refused by none of some codes, none of them holds there; and no line is refused
-- exactly where each is not.
use Rattle.std.proofs.Common.{◌≡◌, ℕ, Bool, true, false, List, [], ◌∷◌, Option, Some, None, refl, sym, ap, ◌∙◌, inl, inr}
use Rattle.std.specs.Prelude.{map, option_map, if◌then◌else◌}
use Rattle.std.specs.List.{AllByRecursion}
use Rattle.std.specs.Option.{option_or}
use Rattle.list_laws.proofs.Members.{In}
use Rattle.fpga_text.specs.Codes.{LineCode, At, Past, first_code}
use Rattle.fpga_text.specs.FirstFault.{IsFaultless, first_fault}
use Rattle.fpga_text.specs.declared.fault.TextFault.{TextFault}
use Rattle.fpga_text.specs.declared.fault.TextFault.TheVariants.{Bad, Limit}
use Rattle.fpga_text.proofs.FaultLemmas.{option_or-none}

module _ {C L : Type 0} (context : C) (line : L) where
  -- the code does not hold at the line
  abbrev pub IsSilent : LineCode C L → Type 0
  IsSilent (At code holds) = holds context line ≡ false
  IsSilent (Past code count) = count context line ≡ None

  pub silent-codes : (codes : List (LineCode C L)) (n : ℕ) → first_code codes context n line ≡ None
      → AllByRecursion IsSilent codes
  silent-codes [] n clean = tt
  silent-codes (At code holds ∷ more) n clean =
      go (holds context line) refl clean (silent-codes more n)
    where
      go : (b : Bool) → holds context line ≡ b
          → (if b then Some (Bad n code) else first_code more context n line) ≡ None
          → (first_code more context n line ≡ None → AllByRecursion IsSilent more)
          → AllByRecursion IsSilent (At code holds ∷ more)
      go true is clash others = cc
      go false is rest others = (is, others rest)
  silent-codes (Past code count ∷ more) n clean =
      go (count context line) refl clean (silent-codes more n)
    where
      go : (o : Option ℕ) → count context line ≡ o
          → option_or (option_map (λ m. Limit code m) o) (first_code more context n line) ≡ None
          → (first_code more context n line ≡ None → AllByRecursion IsSilent more)
          → AllByRecursion IsSilent (Past code count ∷ more)
      go (Some m) is clash others = cc
      go None is rest others = (is, others rest)

-- no line is refused exactly where each of them is not
pub faultless-lines : {L : Type 0} (fault : L → Option TextFault) (lines : List L)
    → ((line : L) → In lines line → fault line ≡ None) → IsFaultless (map fault lines)
faultless-lines fault [] each = refl
faultless-lines fault (line ∷ lines) each =
    ap (λ (o : Option TextFault). option_or o (first_fault (map fault lines)))
    (each line (inl refl))
    ∙ faultless-lines fault lines (λ other i. each other (inr i))

pub faultless-each : {L : Type 0} (fault : L → Option TextFault) (lines : List L)
    → IsFaultless (map fault lines) → (line : L) → In lines line → fault line ≡ None
faultless-each fault [] clean line i = absurd i
faultless-each {L} fault (l ∷ lines) clean line i =
    let parts = option_or-none (fault l) (first_fault (map fault lines)) clean in
    elim i [
      | inl e ↦ ap fault (sym e) ∙ parts.0
      | inr later ↦ faultless-each fault lines parts.1 line later
    ]
