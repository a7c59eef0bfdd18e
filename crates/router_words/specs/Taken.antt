-- What a form takes.
use Rattle.std.specs.Prelude.{◌≡◌, Bool, true, false, List, Result, Ok, Err, is_some, ⊤, codes}
use Rattle.clap.specs.Walk.{is_empty}
use Rattle.clap.specs.Words.{App, Row, fault_of, first_of, found_of, matches_of, rows_of}
use Rattle.clap.specs.declared.parser.matches.ArgMatches.{ArgMatches}
use Rattle.router_words.specs.Form.{requires_word}
use Rattle.router_words.specs.Word.{Word}
use Rattle.router_words.specs.declared.fault.Refusal.TheVariants.{Form}
use Rattle.router_words.specs.declared.fault.WordsFault.{WordsFault}
use Rattle.router_words.specs.declared.fault.WordsFault.TheVariants.{Memory, Refused}

-- the form takes the words: clap has no fault to find
abbrev pub is_taken : App → List Word → Bool
is_taken form words = is_empty (fault_of form words)

-- each name that the form requires has a word
abbrev pub HasRequired : App → List Row → Type 0
HasRequired form rows =
    (name : Word) → requires_word form name ≡ true → is_some (first_of name rows) ≡ true

-- the names of the files of a placed netlist are there
pub record HasPlaced (rows : List Row) : Type 0 where
  pub architecture : is_some (first_of (codes "architecture") rows) ≡ true
  pub netlist : is_some (first_of (codes "netlist") rows) ≡ true
  pub placement : is_some (first_of (codes "placement") rows) ≡ true

-- the names of the files of a problem are there
pub record HasFiles (rows : List Row) : Type 0 where
  pub architecture : is_some (first_of (codes "architecture") rows) ≡ true
  pub netlist : is_some (first_of (codes "netlist") rows) ≡ true
  pub placement : is_some (first_of (codes "placement") rows) ≡ true
  pub route : is_some (first_of (codes "route") rows) ≡ true

-- what a generated problem is made from is there
pub record HasRecipe (rows : List Row) : Type 0 where
  pub seed : is_some (first_of (codes "seed") rows) ≡ true
  pub side : is_some (first_of (codes "side") rows) ≡ true
  pub nets : is_some (first_of (codes "nets") rows) ≡ true

-- the form takes the words, and this is what it finds there
pub record IsTaken (form : App) (words : List Word) (rows : List Row) : Type 0 where
  pub taken : is_taken form words ≡ true
  pub found : rows ≡ matches_of form words
  pub there : HasRequired form rows

-- what a form makes of the words, or memory ran out
abbrev pub Takes : App → List Word → Result ArgMatches WordsFault → Type 0
Takes form words (Ok matches) = IsTaken form words (rows_of (found_of matches))
Takes form words (Err (Refused refusal)) = (refusal ≡ Form) × (is_taken form words ≡ false)
Takes form words (Err Memory) = ⊤
