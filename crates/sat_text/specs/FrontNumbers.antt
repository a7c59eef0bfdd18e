-- Numbers that are taken from the front of a line.
use Rattle.std.specs.Prelude.{◌≡◌, ℤ, not, List, ◌++◌}
use Rattle.fpga_text.specs.Bytes.{is_empty}
use Rattle.fpga_text.specs.Words.{Words}
use Rattle.sat_text.specs.Numbers.{lacks_number, numbers_of}

-- from these words the front ones were taken, which say these numbers
pub record TakesFront (old new : Words) (numbers : List ℤ) : Type 0 where
  pub lacks : lacks_number old ≡ lacks_number new
  pub said : numbers_of old ≡ numbers ++ numbers_of new

-- no word is left, or the next says no number
abbrev pub IsAtNoNumber : Words → Type 0
IsAtNoNumber words = lacks_number words ≡ not (is_empty words)

-- numbers in front of these words were taken, and put behind the old ones
pub record PushesFront (old new : List ℤ) (words rest : Words) : Type 0 where
  pub numbers : List ℤ
  pub front : TakesFront words rest numbers
  pub pushed : new ≡ old ++ numbers
