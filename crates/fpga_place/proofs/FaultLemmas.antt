-- The faults of a placement text, taken line by line.
use Rattle.std.proofs.Common.{◌≡◌, ℕ, zero, suc, ◌+◌, Bool, true, false, List, [], ◌∷◌, ◌++◌, Option, Some, None, length, replicate, refl, sym, ap, subst, ◌∙◌}
use Rattle.std.specs.Prelude.{◌||◌, is_some, option_and_then, slice_get, unwrap_or}
use Rattle.std.specs.List.{list_any}
use Rattle.std.specs.Option.{option_or}
use Rattle.std.proofs.Math.Bool.{or-false}
use Rattle.std.proofs.lemmas.List.Folds.{list_any-append}
use Rattle.fpga_types.specs.Places.{same_spot}
use Rattle.fpga_types.specs.Size.{Size}
use Rattle.fpga_types.specs.declared.placement.Place.{Place}
use Rattle.fpga_text.specs.ArrayLine.{SizeWords, size_words}
use Rattle.fpga_text.specs.Bytes.{Bytes}
use Rattle.fpga_text.specs.Codes.{faults_from}
use Rattle.fpga_text.specs.FirstFault.{Faults, IsFaultOf, IsRefusal, first_fault}
use Rattle.fpga_text.specs.Reading.{LinesAhead}
use Rattle.fpga_text.specs.Words.{TextLine}
use Rattle.fpga_text.specs.declared.fault.TextFault.{TextFault}
use Rattle.fpga_text.specs.declared.fault.TextFault.TheVariants.{Bad}
use Rattle.fpga_text.proofs.CodeLemmas.{faults_behind-from}
use Rattle.fpga_text.proofs.FaultLemmas.{IsPast, fault-first, past-line, refusal-line}
use Rattle.fpga_text.proofs.ReadingLemmas.{IsTaken}
use Rattle.fpga_place.specs.Blocks.{number_named}
use Rattle.fpga_place.specs.Codes.{Setting, behind, context_of, grid_in, is_second, lines_faults, names, place_codes, said_grid, takes_spot}
use Rattle.fpga_place.specs.Drafts.{Progress, TakesLine, context_at, last_fault, next_fault, placed}
use Rattle.fpga_place.specs.Heads.{IsHead, array_fault}
use Rattle.fpga_place.specs.Lines.{Form, Array, Files, block_form, block_forms, forms, is_file_line, said}
use Rattle.fpga_place.specs.Reading.{faults_ahead}
use Rattle.fpga_place.specs.Value.{place_named, said_place}
use Rattle.fpga_place.proofs.SpotLemmas.{spots-none}

-- the first of three
or-assoc : {X : Type 0} (a b c : Option X) → option_or (option_or a b) c
    ≡ option_or a (option_or b c)
or-assoc None b c = refl
or-assoc (Some x) b c = refl

or-none : {X : Type 0} (a : Option X) → option_or a None ≡ a
or-none None = refl
or-none (Some x) = refl

-- the array that lines say, with one line more
grid_in-push : (before : List Form) (form : Form) → grid_in (before ++ form ∷ [])
    ≡ option_or (grid_in before) (said_grid form)
grid_in-push [] form = or-none (said_grid form)
grid_in-push (first ∷ before) form =
    ap (option_or (said_grid first)) (grid_in-push before form)
    ∙ sym (or-assoc (said_grid first) (grid_in before) (said_grid form))

-- whether a line is among these, with one line more
pub any-push : {X : Type 0} (p : X → Bool) (before : List X) (x : X)
    → list_any p (before ++ x ∷ []) ≡ (list_any p before || p x)
any-push p before x =
    list_any-append p before (x ∷ []) ∙ ap (λ b. list_any p before || b) (or-false (p x))

-- each line makes the next context of the one before it
context_of-push : (setting : Setting) (before : List Form) (form : Form)
    → context_of setting (before ++ form ∷ []) ≡ behind setting (context_of setting before) form
context_of-push setting before form = λ i. record {
  in_body = any-push is_second before form i;
  grid = grid_in-push before form i;
  has_line = λ name. any-push (names name) before form i;
  is_taken = λ spot. any-push (takes_spot setting spot) before form i;
}

module _ (setting : Setting) where
  -- the faults of a text, from context to context
  by_context : (lines : List TextLine) (count : ℕ) → lines_faults setting lines count
      ≡ faults_from (behind setting) (place_codes setting) (context_of setting []) (forms lines)
      (count + 1)
  by_context lines count =
      faults_behind-from (behind setting) (place_codes setting) (context_of-push setting) []
      (forms lines) (count + 1)

  -- the first fault from context to context is the one of the text
  by_first : (lines : List TextLine) (count : ℕ) (found : TextFault) → IsFaultOf (first_fault
      (faults_from (behind setting) (place_codes setting) (context_of setting []) (forms lines)
      (count + 1))) found → IsRefusal (lines_faults setting lines count) found
  by_first lines count found is =
      subst (λ (faults : Faults). IsRefusal faults found) (sym (by_context lines count)) is

  -- a text without lines
  pub refused-empty : (count : ℕ) → IsRefusal (lines_faults setting [] count) (Bad (count + 1) 301)
  refused-empty count = by_first [] count (Bad (count + 1) 301) refl

  -- the first line is no file line
  pub refused-files : (first : TextLine) (more : List TextLine) (count : ℕ)
      → is_file_line first.words ≡ false
      → IsRefusal (lines_faults setting (first ∷ more) count) (Bad first.number 301)
  refused-files first [] count other =
      by_first (first ∷ []) count (Bad first.number 301) (rw other refl)
  refused-files first (second ∷ more) count other =
      by_first (first ∷ second ∷ more) count (Bad first.number 301) (rw other refl)

  -- the first line is the last
  pub refused-short : (first : TextLine) (count : ℕ) → is_file_line first.words ≡ true
      → IsRefusal (lines_faults setting (first ∷ []) count) (Bad (count + 1) 301)
  refused-short first count files =
      by_first (first ∷ []) count (Bad (count + 1) 301) (rw files refl)

  -- the second line is refused
  pub refused-array : (first second : TextLine) (more : List TextLine) (count : ℕ)
      (found : TextFault) → is_file_line first.words ≡ true
      → IsFaultOf (array_fault second.number (size_words second.words)) found
      → IsRefusal (lines_faults setting (first ∷ second ∷ more) count) found
  refused-array first second more count found files is =
      by_first (first ∷ second ∷ more) count found
      (rw files (fault-first (array_fault second.number (size_words second.words)) _ found is))

-- behind a line that was taken
pub past_line : {all : Faults} (draft draft_after : Progress) (old new : LinesAhead)
    (line : TextLine) → IsTaken old new line
    → TakesLine draft draft_after line.number (block_form line.words)
    → IsPast all (faults_ahead draft old) → IsPast all (faults_ahead draft_after new)
past_line {all} draft draft_after old new line taken takes past =
    past-line (subst (λ (rest : Faults). IsPast all rest) (ahead ∙ after) past) takes.clean
  where
    ahead : faults_ahead draft old
        ≡ next_fault draft line.number (block_form line.words)
        ∷ faults_from (behind draft.setting) (place_codes draft.setting)
        (behind draft.setting (context_at draft) (block_form line.words)) (block_forms new.ahead)
        (new.total + 1)
    ahead = λ i. faults_from (behind draft.setting) (place_codes draft.setting) (context_at draft)
        (block_forms (taken.ahead i)) (sym taken.total i + 1)

    after : next_fault draft line.number (block_form line.words)
        ∷ faults_from (behind draft.setting) (place_codes draft.setting)
        (behind draft.setting (context_at draft) (block_form line.words)) (block_forms new.ahead)
        (new.total + 1)
        ≡ next_fault draft line.number (block_form line.words) ∷ faults_ahead draft_after new
    after = λ i. next_fault draft line.number (block_form line.words)
        ∷ faults_from (behind (sym takes.setting i)) (place_codes (sym takes.setting i))
        (sym takes.after i) (block_forms new.ahead) (new.total + 1)

-- a line that is refused
pub refused_line : {all : Faults} (draft : Progress) (old new : LinesAhead) (line : TextLine)
    (found : TextFault) → IsTaken old new line → IsPast all (faults_ahead draft old)
    → IsFaultOf (next_fault draft line.number (block_form line.words)) found
    → IsRefusal all found
refused_line {all} draft old new line found taken past is =
    refusal-line found (subst (λ (ls : List TextLine). IsPast all (faults_from
    (behind draft.setting) (place_codes draft.setting) (context_at draft) (block_forms ls)
    (old.total + 1))) taken.ahead past) is

-- behind the last line
pub past_end : {all : Faults} (draft : Progress) (lines : LinesAhead) → lines.ahead ≡ []
    → IsPast all (faults_ahead draft lines)
    → first_fault all ≡ last_fault draft (lines.total + 1)
past_end draft lines none past =
    past.same
    ∙ (λ i. first_fault (faults_from (behind draft.setting) (place_codes draft.setting)
    (context_at draft) (block_forms (none i)) (lines.total + 1)))
    ∙ or-none (last_fault draft (lines.total + 1))

-- the places so far and those ahead, behind a line that was taken
pub named_line : (draft draft_after : Progress) (old new : LinesAhead) (line : TextLine)
    → IsTaken old new line → TakesLine draft draft_after line.number (block_form line.words)
    → (name : Bytes)
    → option_or (placed draft_after name) (place_named (said (block_forms new.ahead)) name)
    ≡ option_or (placed draft name) (place_named (said (block_forms old.ahead)) name)
named_line draft draft_after old new line taken takes name =
    ap (λ o. option_or o (place_named (said (block_forms new.ahead)) name)) (takes.named name)
    ∙ or-assoc (placed draft name) (said_place name (block_form line.words))
    (place_named (said (block_forms new.ahead)) name)
    ∙ (λ i. option_or (placed draft name)
    (place_named (said (block_forms (sym taken.ahead i))) name))

-- and behind the last
pub named_end : (draft : Progress) (lines : LinesAhead) → lines.ahead ≡ [] → (name : Bytes)
    → placed draft name
    ≡ option_or (placed draft name) (place_named (said (block_forms lines.ahead)) name)
named_end draft lines none name =
    sym (or-none (placed draft name))
    ∙ (λ i. option_or (placed draft name) (place_named (said (block_forms (sym none i))) name))

-- before the first block line
abbrev pub none_placed : Setting → Size → Progress
none_placed setting grid = record {
  setting = setting;
  grid = grid;
  places = replicate (length setting.blocks) None;
}

abbrev no_places : ℕ → List (Option Place)
no_places n = replicate n None

no_entry : (n i : ℕ) → unwrap_or (slice_get (no_places n) i) None ≡ None
no_entry zero i = refl
no_entry (suc n) zero = refl
no_entry (suc n) (suc i) = no_entry n i

-- no name has a place there
pub placed-none : (setting : Setting) (grid : Size) (name : Bytes)
    → placed (none_placed setting grid) name ≡ None
placed-none setting grid name = go (number_named setting.blocks name)
  where
    go : (o : Option ℕ) → option_and_then
        (λ n. unwrap_or (slice_get (no_places (length setting.blocks)) n) None) o ≡ None
    go None = refl
    go (Some n) = no_entry (length setting.blocks) n

-- behind a head
head_context : (setting : Setting) (grid : Size) (files : Bool) (size : Option SizeWords)
    → said_grid (Array size) ≡ Some grid
    → behind setting (behind setting (context_of setting []) (Files files)) (Array size)
    ≡ context_at (none_placed setting grid)
head_context setting grid files size is = λ i. record {
  in_body = true;
  grid = is i;
  has_line = λ name. is_some (sym (placed-none setting grid name) i);
  is_taken = λ spot. list_any (same_spot spot) (sym (spots-none setting.blocks) i);
}

pub past_head : (setting : Setting) (old new : LinesAhead) (grid : Size) (draft : Progress)
    → IsHead old new grid → draft ≡ none_placed setting grid
    → IsPast (lines_faults setting old.ahead old.total) (faults_ahead draft new)
past_head setting old new grid draft head begun = record {
  same = ap first_fault (by_context setting old.ahead old.total)
      ∙ (λ i. first_fault (faults_from (behind setting) (place_codes setting)
      (context_of setting []) (forms (head.ahead i)) (sym head.total i + 1)))
      ∙ (λ i. first_fault (faults_from (behind setting) (place_codes setting)
      (context_of setting []) ((head.first.number, Files (head.files i))
      ∷ (head.second.number, Array (size_words head.second.words)) ∷ block_forms new.ahead)
      (new.total + 1)))
      ∙ (λ i. option_or (head.array.clean i) (first_fault (faults_from (behind setting)
      (place_codes setting)
      (head_context setting grid true (size_words head.second.words) head.array.grid_is i)
      (block_forms new.ahead) (new.total + 1))))
      ∙ (λ i. first_fault (faults_ahead (sym begun i) new));
}
