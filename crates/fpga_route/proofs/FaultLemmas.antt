-- The faults of a route text, taken line by line.
use Rattle.std.proofs.Common.{◌≡◌, ℕ, ◌+◌, false, List, [], ◌∷◌, Option, Some, None, refl, sym, ap, subst, ◌∙◌}
use Rattle.std.specs.Option.{option_map_or, option_or}
use Rattle.std.proofs.lemmas.List.Sums.{fold-append}
use Rattle.fpga_types.specs.Size.{Size}
use Rattle.fpga_text.specs.Codes.{line_fault, faults_from}
use Rattle.fpga_text.specs.FirstFault.{Faults, first_fault, IsFaultOf, IsFaultless, IsRefusal}
use Rattle.fpga_text.specs.Reading.{LinesAhead}
use Rattle.fpga_text.specs.Words.{TextLine}
use Rattle.fpga_text.specs.declared.fault.TextFault.{TextFault}
use Rattle.fpga_text.specs.declared.fault.TextFault.TheVariants.{Bad}
use Rattle.fpga_text.proofs.CodeLemmas.{faults_behind-from}
use Rattle.fpga_text.proofs.FaultLemmas.{IsPast, fault-first, past-line, refusal-line}
use Rattle.fpga_text.proofs.ReadingLemmas.{IsTaken}
use Rattle.fpga_route.specs.declared.head.Head.{Head}
use Rattle.fpga_route.specs.Codes.{START, behind, forms, later_forms, lines_faults, route_codes}
use Rattle.fpga_route.specs.Drafts.{Progress, TakesLine, standing_of}
use Rattle.fpga_text.specs.ArrayLine.{SizeWords, size_words}
use Rattle.fpga_route.specs.Forms.{Form, Array, OtherHead, array_form, later_form}
use Rattle.fpga_route.specs.Heads.{IsHead, array_fault, said_grid}
use Rattle.fpga_route.specs.Nets.{faults_ahead}
use Rattle.fpga_route.specs.Standings.{context_at, later_fault}

-- the faults of a text, from context to context
pub by_context : (lines : List TextLine) (count : ℕ) → lines_faults lines count
    ≡ faults_from behind route_codes START (forms lines) (count + 1)
by_context lines count =
    faults_behind-from behind route_codes
    (λ before form. fold-append behind START before (form ∷ []))
    [] (forms lines) (count + 1)

-- the first fault from context to context is the one of the text
module _ (lines : List TextLine) (count : ℕ) (found : TextFault) where
  by_first : IsFaultOf (first_fault
      (faults_from behind route_codes START (forms lines) (count + 1))) found
      → IsRefusal (lines_faults lines count) found
  by_first is =
      subst (λ (faults : Faults). IsRefusal faults found) (sym (by_context lines count)) is

-- a text without lines
pub refused-empty : (count : ℕ) → IsRefusal (lines_faults [] count) (Bad (count + 1) 401)
refused-empty count = by_first [] count (Bad (count + 1) 401) refl

-- the first line is refused
pub refused-array : (first : TextLine) (more : List TextLine) (count : ℕ) (found : TextFault)
    → IsFaultOf (array_fault first.number (array_form first.words)) found
    → IsRefusal (lines_faults (first ∷ more) count) found
refused-array first [] count found is = by_first (first ∷ []) count found (fault-first _ _ found is)
refused-array first (second ∷ more) count found is =
    by_first (first ∷ second ∷ more) count found (fault-first _ _ found is)

-- no array line ends the head
pub in_head : (o : Option SizeWords) → (behind START (option_map_or Array o OtherHead)).in_body
    ≡ false
in_head None = refl
in_head (Some size) = refl

-- the first line is the last
pub refused-short : (first : TextLine) (count : ℕ)
    → array_fault first.number (array_form first.words) ≡ None
    → IsRefusal (lines_faults (first ∷ []) count) (Bad (count + 1) 401)
refused-short first count clean =
    by_first (first ∷ []) count (Bad (count + 1) 401)
    (rw (clean, in_head (size_words first.words)) refl)

-- behind an array line
pub array-behind : (form : Form) (grid : Size) → said_grid form ≡ Some grid
    → behind START form ≡ record START { grid = Some grid }
array-behind (Array size) grid said = λ i. record START { grid = said i }
array-behind _ grid said = absurd (let clash : None ≡ Some grid = said in cc)

-- behind the head
pub past_head : (old new : LinesAhead) (head : Head) (draft : Progress) → IsHead old new head
    → draft ≡ record { grid = head.grid; closed = []; open_net = None }
    → IsPast (lines_faults old.ahead old.total) (faults_ahead draft new)
past_head old new head draft is begun = record {
  same = ap first_fault (by_context old.ahead old.total)
      ∙ (λ i. first_fault (faults_from behind route_codes START (forms (is.ahead i))
      (sym is.total i + 1)))
      ∙ (λ i. option_or (is.clean i) (option_or
      (line_fault route_codes (behind START (array_form is.first.words)) is.second.number
      (is.routing i))
      (first_fault (faults_from behind route_codes
      (behind (array-behind (array_form is.first.words) head.grid is.grid i) (is.routing i))
      (later_forms new.ahead) (new.total + 1)))))
      ∙ (λ i. first_fault (faults_ahead (sym begun i) new));
}

-- behind a line that was taken
pub past_line : {all : Faults} (draft draft_after : Progress) (old new : LinesAhead)
    (line : TextLine)
    → IsTaken old new line → TakesLine draft draft_after line → IsPast all (faults_ahead draft old)
    → IsPast all (faults_ahead draft_after new)
past_line {all} draft draft_after old new line taken takes past =
    past-line (subst (λ (rest : Faults). IsPast all rest) (ahead ∙ after) past) takes.clean
  where
    ahead : faults_ahead draft old
        ≡ later_fault (standing_of draft) line.number (later_form line.words)
        ∷ faults_from behind route_codes
        (behind (context_at (standing_of draft)) (later_form line.words)) (later_forms new.ahead)
        (new.total + 1)
    ahead = λ i. faults_from behind route_codes (context_at (standing_of draft))
        (later_forms (taken.ahead i)) (sym taken.total i + 1)

    after : later_fault (standing_of draft) line.number (later_form line.words)
        ∷ faults_from behind route_codes
        (behind (context_at (standing_of draft)) (later_form line.words)) (later_forms new.ahead)
        (new.total + 1)
        ≡ later_fault (standing_of draft) line.number (later_form line.words)
        ∷ faults_ahead draft_after new
    after = λ i. later_fault (standing_of draft) line.number (later_form line.words)
        ∷ faults_from behind route_codes (sym takes.after i) (later_forms new.ahead) (new.total + 1)

-- a line that is refused
pub refused_line : {all : Faults} (draft : Progress) (old new : LinesAhead) (line : TextLine)
    (found : TextFault) → IsTaken old new line → IsPast all (faults_ahead draft old)
    → IsFaultOf (later_fault (standing_of draft) line.number (later_form line.words)) found
    → IsRefusal all found
refused_line {all} draft old new line found taken past is =
    refusal-line found (subst (λ (ls : List TextLine). IsPast all (faults_from behind route_codes
    (context_at (standing_of draft)) (later_forms ls) (old.total + 1))) taken.ahead past) is

-- behind the last line
pub past_end : {all : Faults} (draft : Progress) (lines : LinesAhead) → lines.ahead ≡ []
    → IsPast all (faults_ahead draft lines) → IsFaultless all
past_end draft lines none past =
    past.same ∙ (λ i. first_fault (faults_from behind route_codes (context_at (standing_of draft))
    (later_forms (none i)) (lines.total + 1)))
