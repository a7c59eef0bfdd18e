-- Where a line ends that goes on.
use Rattle.std.specs.Prelude.{◌≡◌, ℕ, ◌+◌, ◌≤◌, List, [], ◌∷◌, ◌++◌, drop, length}
use Rattle.std.specs.List.{enumerate_from}
use Rattle.fpga_text.specs.declared.style.Style.{Style}
use Rattle.fpga_text.specs.Bytes.{Bytes}
use Rattle.fpga_text.specs.Words.{TextLine, words, words_later, lines, joined, lines_made, line_count}

-- the lines that a text makes whose lines are numbered from here on, with words or without
abbrev pub joined_from : ℕ → Bytes → List TextLine
joined_from first text = joined (enumerate_from first (lines text))

-- the number behind that of the first line's end, where the lines begin with this number
abbrev pub end_of_first : ℕ → List TextLine → ℕ
end_of_first number [] = number
end_of_first number (line ∷ more) = line.last + 1

-- a line that goes on in this text takes so many of its lines, and this is the text behind it
pub record EndsBehind (text : Bytes) (taken : ℕ) (behind : Bytes) : Type 0 where
  pub others : (n : ℕ) → drop 1 (joined_from n text) ≡ joined_from (n + taken) behind
  pub last : (n : ℕ) → end_of_first n (joined_from n text) ≡ n + taken
  pub count : line_count text ≡ taken + line_count behind
  pub shorter : taken + length behind ≤ length text

-- the first line of `raw`, a newline and `text`: it says the words of `said` and those of a line
-- that goes on in `later`, it takes so many lines of the text more, and `end` is the text behind it
pub record IsFirstLine (style : Style) (raw text said later end : Bytes) (more : ℕ) : Type 0 where
  pub made : (n : ℕ) → lines_made style ((n, raw) ∷ enumerate_from (n + 1) (lines text))
      ≡ record { number = n; last = n + more; raw = raw; words = words said ++ words_later later }
      ∷ lines_made style (enumerate_from (n + more + 1) (lines end))
  pub count : line_count text ≡ more + line_count end
  pub shorter : more + length end ≤ length text
