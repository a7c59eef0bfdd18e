-- Lines that go on are taken off a text part by part.
use Rattle.std.proofs.Common.{◌≡◌, ◌<◌, ◌≤◌, ◌+◌, ◌-◌, ℕ, Bool, true, false, List, [], ◌∷◌, ◌++◌, length, take, drop, slice_index, Option, Some, None, refl, sym, ap, ◌∙◌, arith, add-one, append-nil, add-zero}
use Rattle.std.specs.Prelude.{◌==◌, filter, not, if◌then◌else◌}
use Rattle.std.specs.List.{before_first, enumerate_from, last_or, position_or_len, suffix_len}
use Rattle.std.specs.Option.{option_map_or}
use Rattle.std.proofs.Math.Seq.{take-append_seam}
use Rattle.std.proofs.lemmas.List.{length-append, length-drop}
use Rattle.std.proofs.lemmas.List.Sums.{suffix_len_is}
use Rattle.fpga_text.specs.declared.style.Style.{Style}
use Rattle.fpga_text.specs.declared.style.Style.TheVariants.{Joined}
use Rattle.fpga_text.specs.Bytes.{Bytes, is_newline, is_blank, is_hash, is_empty}
use Rattle.fpga_text.specs.Joined.{bare, goes_on, is_backslash, said_part, trimmed}
use Rattle.fpga_text.specs.Joining.{joined_from, end_of_first, EndsBehind, IsFirstLine}
use Rattle.fpga_text.specs.Reading.{TakesLine, with_line}
use Rattle.fpga_text.specs.Words.{TextLine, Words, words, lines, lines_from, line_count, part_line, put_before, joined, lines_made, words_behind, words_later}
use Rattle.fpga_text.proofs.CutLemmas.{filter-with_line}
use Rattle.fpga_text.proofs.LineLemmas.{lines-first}

-- the bytes up to a place, where blanks and no other byte stand behind it
pub trimmed-at : (text : Bytes) (end : ℕ) → end ≤ length text
    → ((k : ℕ) → end ≤ k → k < length text → is_blank (slice_index text k) ≡ true)
    → (0 < end → is_blank (slice_index text (end - 1)) ≡ false) → take end text ≡ trimmed text
trimmed-at text end within blanks last =
    let size = suffix_len_is is_blank text end 0 within blanks last in
    let same : length text - suffix_len is_blank text ≡ end = omega (arith, size, within) in
    ap (λ n. take n text) (sym same)

-- the line without its comment, by the place of the first hash
pub before_hash-at : (raw : Bytes) (place : ℕ) → place ≡ position_or_len is_hash raw
    → take place raw
    ≡ before_first is_hash raw
before_hash-at raw place at = ap (λ n. take n raw) at

-- what is left of a line without its comment and the blanks at its end
pub bare-at : (raw left : Bytes) (place : ℕ) → place ≡ position_or_len is_hash raw
    → left ≡ trimmed (take place raw) → bare raw ≡ left
bare-at raw left place at is = ap (λ n. trimmed (take n raw)) (sym at) ∙ sym is

-- a text that ends with a byte
pub last_or-push : (o : Option ℕ) (before : Bytes) (last : ℕ) → last_or o (before ++ last ∷ [])
    ≡ Some last
last_or-push o [] last = refl
last_or-push o (b ∷ before) last = last_or-push (Some b) before last

-- and without it
pub take-push : (before : Bytes) (last : ℕ) → take (length (before ++ last ∷ []) - 1)
    (before ++ last ∷ []) ≡ before
take-push before last =
    let short : length (before ++ last ∷ []) - 1 ≡ length before
    = omega (arith, length-append before (last ∷ [])) in
    rw short (take-append_seam before (last ∷ []))

-- a line that ends with a byte goes on where this is a backslash
pub goes_on-push : (raw before : Bytes) (last : ℕ) → bare raw ≡ before ++ last ∷ []
    → goes_on raw ≡ (last == 92)
goes_on-push raw before last is =
    ap (λ (text : Bytes). option_map_or is_backslash (last_or None text) false) is
    ∙ ap (λ o. option_map_or is_backslash o false) (last_or-push None before last)

-- a line that does not go on
pub said_part-alone : (raw : Bytes) → goes_on raw ≡ false → said_part raw ≡ before_first is_hash raw
said_part-alone raw ends =
    ap (λ b. if b then take (length (bare raw) - 1) (bare raw) else before_first is_hash raw) ends

-- a line that goes on
pub said_part-goes_on : (raw before : Bytes) (last : ℕ) → bare raw ≡ before ++ last ∷ []
    → goes_on raw ≡ true → said_part raw ≡ before
said_part-goes_on raw before last is on =
    ap (λ b. if b then take (length (bare raw) - 1) (bare raw) else before_first is_hash raw) on
    ∙ ap (λ (text : Bytes). take (length text - 1) text) is ∙ take-push before last

-- the first part of a text that is not empty, and what is behind it
pub record IsPart (text raw behind : Bytes) : Type 0 where
  pub lines : lines text ≡ raw ∷ lines behind
  pub shorter : length behind + 1 ≤ length text

-- a cut at the first newline
pub part-cut : (text raw behind : Bytes) (place : ℕ) → false ≡ (length text == 0)
    → place ≡ position_or_len is_newline text → raw ≡ take place text → behind
    ≡ drop (place + 1) text
    → IsPart text raw behind
part-cut [] raw behind place some at before after = absurd (let clash : false ≡ true = some in cc)
part-cut (b ∷ more) raw behind place some at before after = record {
  lines = rw (before, after, at) (lines-first b more);
  shorter = rw after (omega (arith, length-drop (place + 1) (b ∷ more)));
}

-- the words of a line that goes on in a text
pub words_later-part : (text raw behind : Bytes) → IsPart text raw behind
    → words_later text ≡ words (said_part raw) ++ (if goes_on raw then words_later behind else [])
words_later-part text raw behind part = ap words_behind part.lines

-- where the line ends
pub words_later-text : (on : Bool) (behind : Bytes) → words_later (if on then behind else [])
    ≡ (if on then words_later behind else [])
words_later-text true behind = refl
words_later-text false behind = refl

-- the words of a part, and those of the line behind it
pub next-same : (text later raw behind said front rest : Bytes) (on : Bool)
    → words_later later ≡ words_later text → IsPart later raw behind → said ≡ said_part raw
    → on ≡ goes_on raw → words front ≡ words said → rest ≡ (if on then behind else [])
    → words front ++ words_later rest ≡ words_later text
next-same text later raw behind said front rest on so_far part says goes same at =
    rw (same, says, at, words_later-text on behind, goes)
    (sym (words_later-part later raw behind part) ∙ so_far)

-- a part that says no word is passed by
pub next-none : (text front rest : Bytes) → words front ++ words_later rest ≡ words_later text
    → true
    ≡ (length front == 0) → words_later rest ≡ words_later text
next-none text [] rest same none = same
next-none text (b ∷ front) rest same none = absurd (grind (arith, none))

-- no words are left of a part, and the line ends with it
pub front-none : (front later : Bytes) → true ≡ (length front == 0) → true ≡ (length later == 0)
    → [] ≡ words front ++ words_later later
front-none [] [] none ends = refl
front-none (b ∷ front) later none ends = absurd (grind (arith, none))
front-none [] (b ∷ later) none ends = absurd (grind (arith, ends))

-- the lines behind the first are not touched by a part that is put before
drop-put_before : (part : TextLine) (more : List TextLine) → drop 1 (put_before true part more)
    ≡ drop 1 more
drop-put_before part [] = refl
drop-put_before part (next ∷ more) = refl

end-put_before : (part : TextLine) (n : ℕ) (more : List TextLine) → part.last ≡ n
    → end_of_first n (put_before true part more) ≡ end_of_first (n + 1) more
end-put_before part n [] last = ap (λ k. k + 1) last
end-put_before part n (next ∷ more) last = refl

-- so many parts of a line were passed, and this text is left
pub record IsPassed (text : Bytes) (taken : ℕ) (rest : Bytes) : Type 0 where
  pub others : (n : ℕ) → drop 1 (joined_from n text) ≡ drop 1 (joined_from (n + taken) rest)
  pub last : (n : ℕ) → end_of_first n (joined_from n text)
      ≡ end_of_first (n + taken) (joined_from (n + taken) rest)
  pub count : line_count text ≡ taken + line_count rest
  pub shorter : taken + length rest ≤ length text

joined-part : (n : ℕ) (text raw behind : Bytes) → IsPart text raw behind → joined_from n text
    ≡ put_before (goes_on raw) (part_line n raw) (joined_from (n + 1) behind)
joined-part n text raw behind part =
    ap (λ (ls : List Bytes). joined (enumerate_from n ls)) part.lines

count-part : (text raw behind : Bytes) → IsPart text raw behind → line_count text
    ≡ line_count behind + 1
count-part text raw behind part =
    ap (λ (ls : List Bytes). length ls) part.lines ∙ sym (add-one (line_count behind))

-- one more part, which goes on
pub passed_more : (text rest raw behind : Bytes) (taken : ℕ) → IsPassed text taken rest
    → IsPart rest raw behind → goes_on raw ≡ true → IsPassed text (taken + 1) behind
passed_more text rest raw behind taken passed part on = record {
  others = λ n. passed.others n ∙ ap (λ (ls : List TextLine). drop 1 ls) (here n)
      ∙ drop-put_before (part_line (n + taken) raw) (joined_from (n + taken + 1) behind)
      ∙ ap (λ k. drop 1 (joined_from k behind)) (next n);
  last = λ n. passed.last n ∙ ap (end_of_first (n + taken)) (here n)
      ∙ end-put_before (part_line (n + taken) raw) (n + taken)
      (joined_from (n + taken + 1) behind) refl
      ∙ ap (λ k. end_of_first k (joined_from k behind)) (next n);
  count = omega (arith, passed.count, count-part rest raw behind part);
  shorter = omega (arith, passed.shorter, part.shorter);
}
  where
    here : (n : ℕ) → joined_from (n + taken) rest
        ≡ put_before true (part_line (n + taken) raw) (joined_from (n + taken + 1) behind)
    here n = joined-part (n + taken) rest raw behind part
        ∙ ap (λ b. put_before b (part_line (n + taken) raw) (joined_from (n + taken + 1) behind)) on

    next : (n : ℕ) → n + taken + 1 ≡ n + (taken + 1)
    next n = omega arith

-- the part with which the line ends
pub passed_last : (text rest raw behind : Bytes) (taken : ℕ) → IsPassed text taken rest
    → IsPart rest raw behind → goes_on raw ≡ false → EndsBehind text (taken + 1) behind
passed_last text rest raw behind taken passed part ends = record {
  others = λ n. passed.others n ∙ ap (λ (ls : List TextLine). drop 1 ls) (here n)
      ∙ ap (λ k. joined_from k behind) (next n);
  last = λ n. passed.last n ∙ ap (end_of_first (n + taken)) (here n) ∙ next n;
  count = omega (arith, passed.count, count-part rest raw behind part);
  shorter = omega (arith, passed.shorter, part.shorter);
}
  where
    here : (n : ℕ) → joined_from (n + taken) rest
        ≡ part_line (n + taken) raw ∷ joined_from (n + taken + 1) behind
    here n = joined-part (n + taken) rest raw behind part
        ∙ ap (λ b. put_before b (part_line (n + taken) raw) (joined_from (n + taken + 1) behind))
        ends

    next : (n : ℕ) → n + taken + 1 ≡ n + (taken + 1)
    next n = omega arith

-- the words of the first of lines
abbrev first_words : List TextLine → Words
first_words [] = []
first_words (line ∷ more) = line.words

joined-words : (n : ℕ) (parts : List Bytes) → first_words (joined (enumerate_from n parts))
    ≡ words_behind parts
joined-words n [] = refl
joined-words n (part ∷ more) =
    by_part (goes_on part) (joined (enumerate_from (n + 1) more)) (joined-words (n + 1) more)
  where
    by_part : (on : Bool) (ls : List TextLine) → first_words ls ≡ words_behind more
        → first_words (put_before on (part_line n part) ls)
        ≡ words (said_part part) ++ (if on then words_behind more else [])
    by_part false ls same = sym (append-nil (words (said_part part)))
    by_part true [] same =
        sym (append-nil (words (said_part part)))
        ∙ ap (λ (ws : Words). words (said_part part) ++ ws) same
    by_part true (next ∷ ls) same = ap (λ (ws : Words). words (said_part part) ++ ws) same

put_before-first : (n m : ℕ) (raw : Bytes) (ls : List TextLine) → end_of_first (n + 1) ls
    ≡ n + 1 + m
    → put_before true (part_line n raw) ls
    ≡ record {
      number = n;
      last = n + m;
      raw = raw;
      words =
          words (said_part raw) ++ first_words ls;
    }
    ∷ drop 1 ls
put_before-first n m raw [] end =
    let none : m ≡ 0 = omega (arith, end) in
    rw (none, add-zero n, append-nil (words (said_part raw))) refl
put_before-first n m raw (next ∷ more) end =
    let same : next.last ≡ n + m = omega (arith, end) in rw same refl

-- a line with these words that takes so many lines of the text more than one
abbrev line_made : ℕ → ℕ → Bytes → Words → TextLine
line_made n more raw words = record { number = n; last = n + more; raw = raw; words = words }

-- those of lines that have words
abbrev with_words : List TextLine → List TextLine
with_words ls = filter (λ (l : TextLine). not (is_empty l.words)) ls

-- a line that goes on
pub first_going_on : (raw text said behind : Bytes) (more : ℕ) → goes_on raw ≡ true → said
    ≡ said_part raw → EndsBehind text more behind
    → IsFirstLine Joined raw text said text behind more
first_going_on raw text said behind more on says ends = record {
  made = λ n. ap (λ b. put_before b (part_line n raw) (joined_from (n + 1) text)) on
      ∙ put_before-first n more raw (joined_from (n + 1) text) (ends.last (n + 1))
      ∙ line n
      ∙ ap (λ (ls : List TextLine). line_made n more raw (words said ++ words_later text) ∷ ls)
      (others n);
  count = ends.count;
  shorter = ends.shorter;
}
  where
    line : (n : ℕ)
        → record {
          number = n;
          last = n + more;
          raw = raw;
          words =
              words (said_part raw) ++ first_words (joined_from (n + 1) text);
        }
        ∷ drop 1 (joined_from (n + 1) text)
        ≡ line_made n more raw (words said ++ words_later text) ∷ drop 1 (joined_from (n + 1) text)
    line n = rw (says, joined-words (n + 1) (lines text)) refl

    others : (n : ℕ) → drop 1 (joined_from (n + 1) text)
        ≡ lines_made Joined (enumerate_from (n + more + 1) (lines behind))
    others n = ends.others (n + 1)
        ∙ ap (λ k. joined_from k behind)
        (let same : n + 1 + more ≡ n + more + 1 = omega arith in same)

-- the first line of a text is taken
pub takes_line-first : (style : Style) (taken more : ℕ) (text raw later said on rest : Bytes)
    (line : TextLine) → IsPart text raw later → IsFirstLine style raw later said on rest more
    → line ≡ record {
      number = taken + 1;
      last = taken + 1 + more;
      raw = raw;
      words =
          words said ++ words_later on;
    }
    → TakesLine
    (record {
      ahead = lines_from style (taken + 1) text;
      taken = taken;
      total =
          taken + line_count text;
    })
    (record {
      ahead = lines_from style (taken + 1 + more + 1) rest;
      taken = taken + 1 + more;
      total = taken + 1 + more + line_count rest;
    }) line
takes_line-first style taken more text raw later said on rest line part first is = record {
  number = ap (λ (l : TextLine). l.number) is;
  last = rw is (omega arith);
  taken = sym (ap (λ (l : TextLine). l.last) is);
  within = omega (arith, count-part text raw later part, first.count);
  total = omega (arith, count-part text raw later part, first.count);
  ahead = ap (λ (ls : List Bytes). with_words (lines_made style (enumerate_from (taken + 1) ls)))
      part.lines ∙ ap with_words (first.made (taken + 1))
      ∙ filter-with_line _ (lines_made style (enumerate_from (taken + 1 + more + 1) (lines rest)))
      ∙ ap (λ (l : TextLine). with_line l (lines_from style (taken + 1 + more + 1) rest)) (sym is);
}
