-- Worked rows of lines, words and numbers, each by computation.
use Rattle.std.proofs.Common.{◌≡◌, ℕ, false, List, [], ◌∷◌, Some, None, negsuc, refl}
use Rattle.std.specs.Prelude.{◌+◌, nat_lt, Bool, not, ◌&&◌, codes, bytes_eq, length, map, Option, if◌then◌else◌}
use Rattle.std.specs.List.{list_any}
use Rattle.fpga_text.specs.declared.fault.TextFault.{TextFault}
use Rattle.fpga_text.specs.declared.fault.TextFault.TheVariants.{Bad, Limit}
use Rattle.fpga_text.specs.declared.style.Style.TheVariants.{Plain, Hash, Joined}
use Rattle.fpga_text.specs.Bytes.{Bytes, is_empty}
use Rattle.fpga_text.specs.Codes.{Codes, At, Past, End, text_faults}
use Rattle.fpga_text.specs.FirstFault.{first_fault}
use Rattle.fpga_text.specs.Words.{TextLine, Words, lines, words, text_lines, line_count}
use Rattle.fpga_text.specs.Numbers.{millionths_of, whole_number_of, signed_number_of}

-- a line's number and words
abbrev seen : List TextLine → List (ℕ × List Bytes)
seen ls = map (λ l. (l.number, l.words)) ls

pub lines_of_text : lines (codes "ab\n\nc") ≡ codes "ab" ∷ [] ∷ codes "c" ∷ []
lines_of_text = refl

pub lines_of_ended : lines (codes "ab\nc\n") ≡ codes "ab" ∷ codes "c" ∷ []
lines_of_ended = refl

pub lines_of_nothing : lines [] ≡ []
lines_of_nothing = refl

pub words_of_line : words (codes "  Net 0\t(a)\r") ≡ codes "Net" ∷ codes "0" ∷ codes "(a)" ∷ []
words_of_line = refl

pub plain_lines : seen (text_lines Plain (codes "a # b\n\n c\\"))
    ≡ (1, codes "a" ∷ codes "#" ∷ codes "b" ∷ []) ∷ (3, codes "c\\" ∷ []) ∷ []
plain_lines = refl

pub hash_lines : seen (text_lines Hash (codes "a # b\n#\n c\\")) ≡ (1, codes "a" ∷ [])
    ∷ (3, codes "c\\" ∷ []) ∷ []
hash_lines = refl

pub blanks_round_words : seen (text_lines Plain (codes " \t\r \n\ta\t\tb\r\nc\r\n\r"))
    ≡ (2, codes "a" ∷ codes "b" ∷ []) ∷ (3, codes "c" ∷ []) ∷ []
blanks_round_words = refl

pub comment_ends_a_word : seen (text_lines Hash (codes "x#y z\n#\n")) ≡ (1, codes "x" ∷ []) ∷ []
comment_ends_a_word = refl

pub line_keeps_its_comment : map (λ l. l.raw) (text_lines Hash (codes " Block  a #1 \r\nb"))
    ≡ codes " Block  a #1 \r" ∷ codes "b" ∷ []
line_keeps_its_comment = refl

pub empty_lines_count : map line_count ([] ∷ codes "\n\n\n" ∷ codes "a\n\n \nb \n\n" ∷ [])
    ≡ 0 ∷ 3 ∷ 5 ∷ []
empty_lines_count = refl

-- the numbers of each line's first and last part, and its words
abbrev joined_seen : Bytes → List (ℕ × ℕ × Words)
joined_seen text = map (λ l. (l.number, l.last, l.words)) (text_lines Joined text)

pub joined_parts : joined_seen (codes "a b\\\nc\nd\n")
    ≡ (1, 2, codes "a" ∷ codes "b" ∷ codes "c" ∷ []) ∷ (3, 3, codes "d" ∷ []) ∷ []
joined_parts = refl

pub comment_behind_backslash : joined_seen (codes "a \\ # one\nb # two \\\nc")
    ≡ (1, 2, codes "a" ∷ codes "b" ∷ []) ∷ (3, 3, codes "c" ∷ []) ∷ []
comment_behind_backslash = refl

pub words_end_with_their_part : joined_seen (codes "ab\\ \t\r\ncd\\")
    ≡ (1, 2, codes "ab" ∷ codes "cd" ∷ []) ∷ []
words_end_with_their_part = refl

pub last_backslash_alone : joined_seen (codes "a\\ b\nc\\\\\nd")
    ≡ (1, 1, codes "a\\" ∷ codes "b" ∷ []) ∷ (2, 3, codes "c\\" ∷ codes "d" ∷ []) ∷ []
last_backslash_alone = refl

pub joined_without_words : joined_seen (codes "\n\\\n\\\na\n\\") ≡ (2, 4, codes "a" ∷ []) ∷ []
joined_without_words = refl

pub leading_zeros : whole_number_of (codes "0012") ≡ Some 12
leading_zeros = refl

pub greatest : whole_number_of (codes "18446744073709551615") ≡ Some 18446744073709551615
greatest = refl

pub too_great : whole_number_of (codes "18446744073709551616") ≡ None
too_great = refl

pub no_number : map whole_number_of (codes "-1" ∷ codes "1a" ∷ []) ≡ None ∷ None ∷ []
no_number = refl

pub no_digits : whole_number_of [] ≡ None
no_digits = refl

pub signed_least : signed_number_of (codes "-9223372036854775808")
    ≡ Some (negsuc 9223372036854775807)
signed_least = refl

pub signed_too_great : signed_number_of (codes "9223372036854775808") ≡ None
signed_too_great = refl

pub no_signed_number : map signed_number_of (codes "-" ∷ codes "+1" ∷ codes "1a" ∷ [])
    ≡ None ∷ None ∷ None ∷ []
no_signed_number = refl

pub decimal_without_point : millionths_of (codes "1") ≡ Some 1000000
decimal_without_point = refl

pub point_at_an_end : millionths_of (codes ".25") ≡ Some 250000
point_at_an_end = refl

pub cut_behind_six : millionths_of (codes "00.0000019999") ≡ Some 1
cut_behind_six = refl

pub decimal_past_64_bits : millionths_of (codes "18446744073709.551616") ≡ None
decimal_past_64_bits = refl

pub decimal_of_64_bits : millionths_of (codes "18446744073709.551615999")
    ≡ Some 18446744073709551615
decimal_of_64_bits = refl

pub no_decimal : map millionths_of (codes "." ∷ codes "1.0." ∷ []) ≡ None ∷ None ∷ []
no_decimal = refl

-- a format of lines that begin with `a`: at most two of them, of which only the last has more words
abbrev begins : Words → Bool
begins (word ∷ more) = bytes_eq word (codes "a")
begins [] = false

abbrev letters : Codes (List Words) Words
letters = record {
  context = λ before. before;
  of_line = At 1 (λ before words. not (begins words))
      ∷ At 2 (λ before words. list_any (λ other. begins other && nat_lt 1 (length other)) before)
      ∷ Past 3 (λ before words. if nat_lt 1 (length before) then Some (length before + 1) else None)
      ∷ [];
  of_end = End 4 is_empty ∷ [];
}

-- the first fault of a text
abbrev found : Bytes → Option TextFault
found text = first_fault (text_faults letters (text_lines Plain text) (line_count text + 1))

pub no_fault : found (codes "a\n\na b\n") ≡ None
no_fault = refl

pub first_line_first : found (codes "\nb\na b\nc") ≡ Some (Bad 2 1)
first_line_first = refl

pub least_code_first : found (codes "a b\nb c") ≡ Some (Bad 2 1)
least_code_first = refl

pub by_earlier_line : found (codes "a b\na") ≡ Some (Bad 2 2)
by_earlier_line = refl

pub past_limit : found (codes "a\na\n\na") ≡ Some (Limit 3 3)
past_limit = refl

pub at_end : found (codes "\n \n") ≡ Some (Bad 3 4)
at_end = refl
