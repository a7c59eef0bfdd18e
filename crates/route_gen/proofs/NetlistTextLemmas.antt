-- The lines of a generated netlist, and what they say.
use Rattle.std.proofs.Common.{◌≡◌, ℕ, zero, suc, ◌+◌, ◌<◌, ◌^◌, Bool, true, false, Option, Some, None, List, [], ◌∷◌, ◌++◌, take, refl, ap, subst, ◌∙◌, inl, inr, arith, append_assoc}
use Rattle.std.specs.Prelude.{All, codes, decimal, filter, flat_map, map, not, ◌&&◌, slice_get}
use Rattle.std.specs.List.{enumerate_from, last_or, list_all, range_with_len}
use Rattle.std.specs.Option.{option_map_or}
use Rattle.std.proofs.lemmas.Bool.{and_from, ltb-true}
use Rattle.std.proofs.lemmas.List.{append-nil, map-id}
use Rattle.std.proofs.lemmas.List.Elements.{All-tail}
use Rattle.fpga_types.specs.declared.netlist.BlockKind.TheVariants.{Logic}
use Rattle.fpga_text.specs.declared.style.Style.TheVariants.{Joined}
use Rattle.fpga_text.specs.Bytes.{Bytes, is_empty, is_newline}
use Rattle.fpga_text.specs.Joined.{goes_on, is_backslash}
use Rattle.fpga_text.specs.Words.{TextLine, Words, joined, part_line, put_before, text_lines, words}
use Rattle.fpga_text.proofs.JoinedLemmas.{said_part-alone}
use Rattle.fpga_text.proofs.PrintedLines.{before_first-none, ended, lines-ended, numbered, said, said-line, seen-all}
use Rattle.fpga_text.proofs.PrintedWords.{IsWord, both-pass, decimal-pass, decimal-word, digit-differs, is_line_byte, lacks, line-hash, line-newline, word-line, words-each, words-end, words-word}
use Rattle.fpga_net.specs.Forms.{Begins, Pinlist, form_of}
use Rattle.list_laws.proofs.Members.{In, In-all, all-from_In, from_In-flat_map, from_In-range}
use Rattle.list_laws.proofs.Rows.{rows-map, rows-rows}
use Rattle.route_gen.specs.Draws.{nets_into}
use Rattle.route_gen.specs.Laws.{pin_words}
use Rattle.route_gen.specs.Netlists.{block_name, driven, input_word, input_words, netlist_of, pin_word}
use Rattle.route_gen.specs.declared.draws.Sink.{Sink}
use Rattle.route_gen.specs.declared.draws.TheConstants.{INPUT_COUNT}
use Rattle.route_gen.proofs.ReadingLemmas.{name-word}
use Rattle.route_gen.proofs.RowLemmas.{enumerate-made}

-- a text without backslashes does not go on
last-plain : (o : Option ℕ) (bytes : Bytes) (n : ℕ) → option_map_or is_backslash o false ≡ false →
    lacks is_backslash bytes ≡ true →
    option_map_or is_backslash (last_or o (take n bytes)) false ≡ false
last-plain o [] zero plain none = plain
last-plain o [] (suc n) plain none = plain
last-plain o (b ∷ bytes) zero plain none = plain
last-plain o (b ∷ bytes) (suc n) plain none =
    go (is_backslash b) refl none (λ same rest. last-plain (Some b) bytes n same rest)
  where
    go : (is : Bool) → is_backslash b ≡ is → (not is && lacks is_backslash bytes) ≡ true →
        (is_backslash b ≡ false → lacks is_backslash bytes ≡ true →
        option_map_or is_backslash (last_or (Some b) (take n bytes)) false ≡ false) →
        option_map_or is_backslash (last_or (Some b) (take n bytes)) false ≡ false
    go false same rest more = more same rest
    go true same rest more = absurd (let clash : false ≡ true = rest in cc)

goes_on-plain : (raw : Bytes) → list_all is_line_byte raw ≡ true → lacks is_backslash raw ≡ true →
    goes_on raw ≡ false
goes_on-plain raw line plain = grind (arith, before_first-none, line-hash, last-plain)

-- a line that stands alone
pub record IsAlone (raw : Bytes) : Type 0 where
  pub line : list_all is_line_byte raw ≡ true
  pub plain : lacks is_backslash raw ≡ true
  pub some : is_empty (words raw) ≡ false

-- such lines are joined with nothing
pub joined-alone : (raws : List Bytes) (first : ℕ) → All IsAlone raws →
    joined (enumerate_from first raws) ≡ numbered Joined first raws
joined-alone [] first all = refl
joined-alone (raw ∷ raws) first all =
    let alone : IsAlone raw = all 0 raw (omega arith) in
    let ends : goes_on raw ≡ false = goes_on-plain raw alone.line alone.plain in
    let rest = joined-alone raws (first + 1) (All-tail IsAlone raw raws all) in
    let more = joined (enumerate_from (first + 1) raws) in
    ap (λ (on : Bool). put_before on (part_line first raw) more) ends
    ∙ (λ i. (record {
      number = first;
      last = first;
      raw = raw;
      words = words (said_part-alone raw ends i);
    }) ∷ rest i)

module _ (nets : ℕ) (sinks : List Sink) where
  -- the two lines of a block, without their newlines
  abbrev pub begin_text : (block : ℕ) → Bytes
  begin_text block = codes ".clb " ++ block_name block

  abbrev pub pins_text : (block : ℕ) → Bytes
  pins_text block = codes "pinlist: " ++ (input_words (nets_into sinks block)
      ++ pin_word (driven nets block))

  abbrev pub block_texts : (block : ℕ) → List Bytes
  block_texts block = begin_text block ∷ pins_text block ∷ []

  -- the lines of so many blocks from one on
  abbrev pub texts_from : (block count : ℕ) → List Bytes
  texts_from block count = flat_map block_texts (range_with_len block count)

  -- the text is made of them
  text-lines : (count : ℕ) →
      netlist_of nets (map (nets_into sinks) (range_with_len 0 count))
      ≡ flat_map (λ raw. ended raw) (texts_from 0 count)
  text-lines count =
      grind (arith, enumerate-made, rows-map, rows-rows, ended, append_assoc, append-nil)

-- the pins of a block are on nets with numbers of 64 bits
pub record AreSmall (nets : ℕ) (sinks : List Sink) : Type 0 where
  pub limit : nets < 2 ^ 64
  pub ends : (block pin net : ℕ) → slice_get (nets_into sinks block) pin ≡ Some net → net < 2 ^ 64

-- the word of a pin is one
pin-word : (net : Option ℕ) → ((n : ℕ) → net ≡ Some n → n < 2 ^ 64) → IsWord (pin_word net)
pin-word None fits = record { some = refl; bytes = refl }
pin-word (Some n) fits = name-word n (fits n refl)

pub driven-below : (nets block n : ℕ) → driven nets block ≡ Some n → n < nets
driven-below nets block n is = grind (arith, ltb-true)

-- what a byte of a word passes, the words of inputs pass with the blanks between them
inputs-pass : (p : ℕ → Bool) (ends pins : List ℕ) →
    ((pin : ℕ) → list_all p (pin_word (slice_get ends pin)) ≡ true) → p 32 ≡ true →
    list_all p (flat_map (input_word ends) pins) ≡ true
inputs-pass p ends [] word blank = refl
inputs-pass p ends (pin ∷ pins) word blank =
    grind (arith, both-pass, and_from, (inputs-pass p ends pins word blank))

-- the byte is no backslash
abbrev pub is_plain : ℕ → Bool
is_plain b = not (is_backslash b)

pin-plain : (net : Option ℕ) → ((n : ℕ) → net ≡ Some n → n < 2 ^ 64) →
    list_all is_plain (pin_word net) ≡ true
pin-plain None fits = refl
pin-plain (Some n) fits = number-plain n (fits n refl)
  where
    number-plain : (n : ℕ) → n < 2 ^ 64 → list_all is_plain (decimal n) ≡ true
    number-plain n small = decimal-pass is_plain
        (λ c least most. ap not (digit-differs 92 c least most (inr (omega arith)))) n small

module _ (nets : ℕ) (sinks : List Sink) (small : AreSmall nets sinks) where
  end-word : (block pin : ℕ) → IsWord (pin_word (slice_get (nets_into sinks block) pin))
  end-word block pin =
      pin-word (slice_get (nets_into sinks block) pin) (small.ends block pin)

  out-small : (block n : ℕ) → driven nets block ≡ Some n → n < 2 ^ 64
  out-small block n is = grind (arith, driven-below)

  out-word : (block : ℕ) → IsWord (pin_word (driven nets block))
  out-word block = pin-word (driven nets block) (out-small block)

  -- the words of the two lines
  begin-words : (block : ℕ) → block < 2 ^ 64 →
      words (begin_text nets sinks block) ≡ codes ".clb" ∷ block_name block ∷ []
  begin-words block fits =
      words-word (codes ".clb") (block_name block) (record { some = refl; bytes = refl })
      ∙ ap (λ (ws : Words). codes ".clb" ∷ ws) (words-end (block_name block)
      (record { some = refl; bytes = (decimal-word block fits).bytes }))

  pins-words : (block : ℕ) → words (pins_text nets sinks block)
      ≡ codes "pinlist:" ∷ pin_words nets (block, nets_into sinks block)
  pins-words block =
      let ends = nets_into sinks block in
      let out = pin_word (driven nets block) in
      words-word (codes "pinlist:") (input_words ends ++ out)
      (record { some = refl; bytes = refl })
      ∙ ap (λ (ws : Words). codes "pinlist:" ∷ ws) (
      words-each (λ pin. pin_word (slice_get ends pin)) (range_with_len 0 INPUT_COUNT) out
      (all-from_In (λ pin. IsWord (pin_word (slice_get ends pin))) (range_with_len 0 INPUT_COUNT)
      (λ pin i. end-word block pin))
      ∙ ap (λ (ws : Words). map (λ pin. pin_word (slice_get ends pin))
      (range_with_len 0 INPUT_COUNT) ++ ws) (words-end out (out-word block)))

  -- each is a line that stands alone
  begin-alone : (block : ℕ) → block < 2 ^ 64 → IsAlone (begin_text nets sinks block)
  begin-alone block fits =
      grind (
        arith,
        both-pass,
        is_line_byte,
        word-line,
        decimal-word,
        decimal-pass,
        digit-differs,
        begin-words,
      )

  pins-alone : (block : ℕ) → IsAlone (pins_text nets sinks block)
  pins-alone block =
      let ends = nets_into sinks block in
      let out = pin_word (driven nets block) in
      record {
        line = both-pass is_line_byte (codes "pinlist: ") (input_words ends ++ out) refl
            (both-pass is_line_byte (input_words ends) out
            (inputs-pass is_line_byte ends (range_with_len 0 INPUT_COUNT)
            (λ pin. word-line (pin_word (slice_get ends pin)) (end-word block pin).bytes) refl)
            (word-line out (out-word block).bytes));
        plain = both-pass is_plain (codes "pinlist: ") (input_words ends ++ out) refl
            (both-pass is_plain (input_words ends) out
            (inputs-pass is_plain ends (range_with_len 0 INPUT_COUNT)
            (λ pin. pin-plain (slice_get ends pin) (small.ends block pin)) refl)
            (pin-plain (driven nets block) (out-small block)));
        some = ap is_empty (pins-words block);
      }

  -- what they say
  pub begin-says : (block : ℕ) → block < 2 ^ 64 →
      form_of (said Joined (begin_text nets sinks block)) ≡ Begins Logic (block_name block ∷ [])
  begin-says block fits =
      ap form_of (said-line Joined (begin_text nets sinks block) (begin-alone block fits).line
      ∙ begin-words block fits)

  pub pins-says : (block : ℕ) → form_of (said Joined (pins_text nets sinks block))
      ≡ Pinlist (pin_words nets (block, nets_into sinks block))
  pins-says block =
      ap form_of (said-line Joined (pins_text nets sinks block) (pins-alone block).line
      ∙ pins-words block)

  module _ (count : ℕ) (fits : count < 2 ^ 64) where
    -- each line of the text
    each-alone : All IsAlone (texts_from nets sinks 0 count)
    each-alone = all-from_In IsAlone (texts_from nets sinks 0 count) (λ raw i. one raw i)
      where
        one : (raw : Bytes) → In (texts_from nets sinks 0 count) raw → IsAlone raw
        one raw i =
            let r = from_In-flat_map (block_texts nets sinks) (range_with_len 0 count) raw i in
            let below = (from_In-range 0 count r.0 r.1).1 in
            elim r.2 [
              | inl first ↦ subst IsAlone first (begin-alone r.0 (omega arith))
              | inr more ↦ elim more [
                | inl second ↦ subst IsAlone second (pins-alone r.0)
                | inr none ↦ absurd none
              ]
            ]

    -- the lines that are seen of the text
    pub netlist-seen :
        text_lines Joined (netlist_of nets (map (nets_into sinks) (range_with_len 0 count)))
        ≡ numbered Joined 1 (texts_from nets sinks 0 count)
    netlist-seen =
        let raws = texts_from nets sinks 0 count in
        ap (text_lines Joined) (text-lines nets sinks count)
        ∙ ap (λ (ls : List Bytes). filter (λ (line : TextLine). not (is_empty line.words))
        (joined (enumerate_from 1 ls))) (lines-ended (λ raw. raw) raws
        (all-from_In (λ raw. lacks is_newline raw ≡ true) raws
        (λ raw i. line-newline raw (In-all IsAlone raws raw each-alone i).line))
        ∙ map-id raws)
        ∙ ap (filter (λ (line : TextLine). not (is_empty line.words)))
        (joined-alone raws 1 each-alone)
        ∙ seen-all Joined 1 raws (all-from_In (λ raw. is_empty (said Joined raw) ≡ false) raws
        (λ raw i. let alone = In-all IsAlone raws raw each-alone i in
        ap is_empty (said-line Joined raw alone.line) ∙ alone.some))
