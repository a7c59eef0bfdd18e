-- The first fault of a text, part by part: for a reader of parts, and for a loop over lines.
use Rattle.std.proofs.Common.{◌≡◌, [], ◌∷◌, ◌++◌, Option, None, Some, Result, Ok, Err, refl, sym, ap, subst, ◌∙◌}
use Rattle.std.specs.Option.{option_or}
use Rattle.fpga_text.specs.declared.fault.TextFault.{TextFault}
use Rattle.fpga_text.specs.declared.fault.TextFault.TheVariants.{Bad, Limit, Memory}
use Rattle.fpga_text.specs.FirstFault.{Faults, first_fault, IsFaultless, IsFaultOf, IsRefusal, Answers}

-- the first part decides, if it has a fault
pub first_fault-append : (head rest : Faults) → first_fault (head ++ rest)
    ≡ option_or (first_fault head) (first_fault rest)
first_fault-append [] rest = refl
first_fault-append (None ∷ head) rest = first_fault-append head rest
first_fault-append (Some fault ∷ head) rest = refl

-- these faults are the last of all, and no fault stands before them
pub record IsPast (all rest : Faults) : Type 0 where
  pub same : first_fault all ≡ first_fault rest

-- no line was looked at
pub past-nothing : (all : Faults) → IsPast all all
past-nothing all = record { same = refl }

-- one more line has no fault
pub past-line : {all : Faults} {fault : Option TextFault} {rest : Faults}
    → IsPast all (fault ∷ rest) → fault ≡ None → IsPast all rest
past-line {all} {fault} {rest} past clean =
    record { same = past.same ∙ ap (λ f. option_or f (first_fault rest)) clean }

-- one more part has no fault
pub past-part : {all : Faults} (part rest : Faults) → IsPast all (part ++ rest) → IsFaultless part
    → IsPast all rest
past-part part rest past clean =
    record {
      same = past.same ∙ first_fault-append part rest
          ∙ ap (λ fault. option_or fault (first_fault rest)) clean;
    }

-- a fault is the first, whatever follows it
pub fault-first : (fault later : Option TextFault) (found : TextFault) → IsFaultOf fault found
    → IsFaultOf (option_or fault later) found
fault-first fault later (Bad line code) is = ap (λ f. option_or f later) is
fault-first fault later (Limit code count) is = ap (λ f. option_or f later) is
fault-first fault later Memory is = tt

-- what is left is refused
pub refusal-past : {all rest : Faults} (found : TextFault) → IsPast all rest → IsRefusal rest found
    → IsRefusal all found
refusal-past found past is = subst (λ fault. IsFaultOf fault found) (sym past.same) is

-- the next line is refused
pub refusal-line : {all : Faults} {fault : Option TextFault} {rest : Faults} (found : TextFault)
    → IsPast all (fault ∷ rest) → IsFaultOf fault found → IsRefusal all found
refusal-line {all} {fault} {rest} found past is =
    refusal-past found past (fault-first fault (first_fault rest) found is)

-- the next part is refused
pub refusal-part : {all : Faults} (part rest : Faults) (found : TextFault)
    → IsPast all (part ++ rest) → IsRefusal part found → IsRefusal all found
refusal-part part rest found past is =
    refusal-past found past
    (subst (λ fault. IsFaultOf fault found) (sym (first_fault-append part rest))
    (fault-first (first_fault part) (first_fault rest) found is))

-- the reader of what is left answers for the whole text
pub answers-past : {T : Type 0} {all rest : Faults} (says : T → Type 0)
    (result : Result T TextFault) → IsPast all rest → Answers rest says result
    → Answers all says result
answers-past says (Ok value) past is = (past.same ∙ is.0, is.1)
answers-past says (Err found) past is = refusal-past found past is

-- the first of two is none only where both are
pub option_or-none : {X : Type 0} (a b : Option X) → option_or a b ≡ None → (a ≡ None) × (b ≡ None)
option_or-none None b none = (refl, none)
option_or-none (Some x) b none = absurd (let clash : Some x ≡ None = none in cc)

-- where no line is refused, neither the next one is nor a later one
pub faultless-line : (fault : Option TextFault) (rest : Faults) → IsFaultless (fault ∷ rest)
    → (fault ≡ None) × IsFaultless rest
faultless-line fault rest clean = option_or-none fault (first_fault rest) clean
