-- The faults of a text, line by line, and which answer its reader gives by them.
use Rattle.std.specs.Prelude.{◌≡◌, ⊤, List, [], ◌∷◌, Option, None, Some, Result, MatchResult}
use Rattle.std.specs.Option.{option_or}
use Rattle.fpga_text.specs.declared.fault.TextFault.{TextFault}
use Rattle.fpga_text.specs.declared.fault.TextFault.TheVariants.{Bad, Limit, Memory}

-- for each line of a text in order, and at last for its end, why it is refused, if it is
abbrev pub Faults : Type 0
Faults = List (Option TextFault)

-- the first fault that there is
abbrev pub first_fault : Faults → Option TextFault
first_fault [] = None
first_fault (fault ∷ more) = option_or fault (first_fault more)

-- no line is refused
abbrev pub IsFaultless : Faults → Type 0
IsFaultless faults = first_fault faults ≡ None

-- a line is refused by this fault, and no line before it is refused
abbrev pub IsFirst : Faults → TextFault → Type 0
IsFirst faults fault = first_fault faults ≡ Some fault

-- a line is refused by this fault; or memory ran out
abbrev pub IsFaultOf : Option TextFault → TextFault → Type 0
IsFaultOf fault (Bad line code) = fault ≡ Some (Bad line code)
IsFaultOf fault (Limit code count) = fault ≡ Some (Limit code count)
IsFaultOf fault Memory = ⊤

-- a text with these faults is refused by the first of them; or memory ran out
abbrev pub IsRefusal : Faults → TextFault → Type 0
IsRefusal faults fault = IsFaultOf (first_fault faults) fault

-- a reader gives a value, of which this is true, only where there is no fault; else it gives the
-- fault, or want of memory
abbrev pub AnswersFault : {T : Type 0} → Option TextFault → (T → Type 0) → Result T TextFault
    → Type 0
AnswersFault fault says result =
    MatchResult result (λ value. (fault ≡ None) × says value) (IsFaultOf fault)

-- the same of a reader of a text with these faults, of which the first is given
abbrev pub Answers : {T : Type 0} → Faults → (T → Type 0) → Result T TextFault → Type 0
Answers faults says result = AnswersFault (first_fault faults) says result
