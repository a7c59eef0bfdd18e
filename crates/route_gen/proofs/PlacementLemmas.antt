-- The placement of a generated problem has no fault, and reads as the places of its blocks.
use Rattle.std.proofs.Common.{rules, ◌≡◌, ℕ, zero, suc, ◌+◌, ◌*◌, ◌<◌, ◌≤◌, ◌^◌, Bool, true, false, Option, Some, None, List, [], ◌∷◌, ◌++◌, refl, sym, ap, ◌∙◌, inl, inr, arith, append_assoc, zero-add}
use Rattle.std.specs.Prelude.{All, bytes_eq, codes, decimal, flat_map, map, not, unwrap_or, if◌then◌else◌}
use Rattle.std.specs.List.{list_all, list_any, range_with_len}
use Rattle.std.specs.Option.{option_or}
use Rattle.std.proofs.lemmas.Simd.{map-map}
use Rattle.std.proofs.lemmas.Bool.{and_from, cases_eq, le-leb, le-ltb, lt-ltb}
use Rattle.std.proofs.lemmas.List.Elements.{All-cons, All-nil}
use Rattle.std.proofs.lemmas.List.FromFn.{map-range_with_len_more}
use Rattle.list_laws.proofs.Members.{In-map, In-range, all-from_In, from_In-range, list_any-from_In}
use Rattle.fpga_types.specs.Places.{is_lawful, spot_of}
use Rattle.fpga_types.specs.declared.arch.Arch.{Arch}
use Rattle.fpga_types.specs.declared.limits.TheConstants.{SIDE_LIMIT}
use Rattle.fpga_types.specs.declared.netlist.Block.{Block as BlockOf}
use Rattle.fpga_types.specs.declared.netlist.BlockKind.TheVariants.{Logic}
use Rattle.fpga_types.specs.declared.netlist.Netlist.{Netlist}
use Rattle.fpga_text.specs.declared.fault.TextFault.TheVariants.{Bad}
use Rattle.fpga_text.specs.declared.style.Style.TheVariants.{Hash}
use Rattle.fpga_text.specs.ArrayLine.{size_words}
use Rattle.fpga_text.specs.Bytes.{Bytes, is_empty, is_newline}
use Rattle.fpga_text.specs.Codes.{end_fault, faults_behind, line_fault}
use Rattle.fpga_text.specs.FirstFault.{IsFaultless, first_fault}
use Rattle.fpga_text.specs.Words.{TextLine, Words, line_count, lines, text_line, text_lines, words}
use Rattle.fpga_text.proofs.LineLemmas.{lines-next}
use Rattle.fpga_text.proofs.PrintedLines.{ended, lines-ended, numbered, said, said-line, seen, seen-all, seen-line}
use Rattle.fpga_text.proofs.PrintedWords.{IsWord, both-pass, decimal-word, is_line_byte, lacks, lacks-each, line-newline, whole_number_of-decimal, word-line, words-end, words-word}
use Rattle.fpga_place.specs.Blocks.{block_named, has_name}
use Rattle.fpga_place.specs.Codes.{Setting, context_of, grid_in, lacks_line, names, place_codes, place_faults, setting_of}
use Rattle.fpga_place.specs.Lines.{Form, Files, Array, Block, block_form, block_forms, forms, place_at, small_number_of}
use Rattle.fpga_place.specs.Lines.{said as forms_said}
use Rattle.fpga_place.specs.Value.{Reads, place_named, place_value, value_of}
use Rattle.fpga_place.specs.Value.{place_of as place_found}
use Rattle.route_gen.specs.Draws.{location_of}
use Rattle.route_gen.specs.Netlists.{block_name}
use Rattle.route_gen.specs.Placements.{generated_placement, place_line}
use Rattle.route_gen.specs.Laws.{HasBlocks, block_on, place_of, placement_of}
use Rattle.route_gen.proofs.NameLemmas.{any-none, find-made, name-other, name-same, place-other, same-made}
use Rattle.route_gen.proofs.PlaceLemmas.{row_within, square}

-- a name is a word
block-word : (block : ℕ) → block < 2 ^ 64 → IsWord (block_name block)
block-word block fits = record { some = refl; bytes = (decimal-word block fits).bytes }

-- the two head lines and that of a block, without their newlines
abbrev files_text : Bytes
files_text = codes "Netlist file: gen.net Architecture file: gen.arch"

abbrev array_text : (side : ℕ) → Bytes
array_text side = codes "Array size: " ++ (decimal side ++ (codes " x "
    ++ (decimal side ++ codes " logic blocks")))

abbrev block_text : (side block : ℕ) → Bytes
block_text side block = block_name block ++ (codes " " ++ (decimal (location_of side block).column
    ++ (codes " " ++ (decimal (location_of side block).row ++ codes " 0"))))

-- what they say
abbrev head_forms : (side : ℕ) → List Form
head_forms side =
    Files true ∷ Array (Some (record { nx = decimal side; ny = decimal side })) ∷ []

abbrev block_said : (side block : ℕ) → Form
block_said side block = Block (block_name block) (Some (place_of side block))

-- the lines before a block
abbrev before : (side block : ℕ) → List Form
before side block = head_forms side ++ map (block_said side) (range_with_len 0 block)

-- and with it
before-more : (side block : ℕ) → before side block ++ block_said side block ∷ []
    ≡ before side (block + 1)
before-more side block = sym (ap (λ (fs : List Form). head_forms side ++ fs)
    (map-range_with_len_more (block_said side) 0 block block (zero-add block)))

module _ (side : ℕ) (some : 1 ≤ side) (limit : side ≤ SIDE_LIMIT) where
  few : side * side ≤ 10000
  few = square side SIDE_LIMIT limit

  -- the numbers of a block's place
  record IsSmall (block : ℕ) : Type 0 where
    number : block < 2 ^ 64
    column : (location_of side block).column ≤ side
    row : (location_of side block).row ≤ side

  small : (block : ℕ) → block < side * side → IsSmall block
  small block below = grind (arith, few, row_within)

  -- the words of a block's line
  block-words : (block : ℕ) → block < side * side → words (block_text side block)
      ≡ block_name block ∷ decimal (location_of side block).column
      ∷ decimal (location_of side block).row ∷ codes "0" ∷ []
  block-words block below =
      let s = small block below in
      let column = s.column in let row = s.row in
      let c : IsWord (decimal (location_of side block).column)
      = decimal-word (location_of side block).column (omega arith) in
      let r : IsWord (decimal (location_of side block).row)
      = decimal-word (location_of side block).row (omega arith) in
      words-word (block_name block) (decimal (location_of side block).column
      ++ (codes " " ++ (decimal (location_of side block).row ++ codes " 0")))
      (block-word block s.number)
      ∙ ap (λ (ws : Words). block_name block ∷ ws)
      (words-word (decimal (location_of side block).column)
      (decimal (location_of side block).row ++ codes " 0") c
      ∙ ap (λ (ws : Words). decimal (location_of side block).column ∷ ws)
      (words-word (decimal (location_of side block).row) (codes "0") r
      ∙ ap (λ (ws : Words). decimal (location_of side block).row ∷ ws)
      (words-end (codes "0") (record { some = refl; bytes = refl }))))

  -- it is one line without a comment
  block-line : (block : ℕ) → block < side * side →
      list_all is_line_byte (block_text side block) ≡ true
  block-line block below =
      grind (arith, small, IsWord, decimal-word, both-pass, is_line_byte, word-line, block-word)

  -- what it says
  small-number : (n : ℕ) → n ≤ side → small_number_of (decimal n) ≡ Some n
  small-number n below = grind (arith, whole_number_of-decimal, lt-ltb)

  block-says : (block : ℕ) → block < side * side →
      block_form (said Hash (block_text side block)) ≡ block_said side block
  block-says block below =
      let s = small block below in
      ap block_form (said-line Hash (block_text side block) (block-line block below)
      ∙ block-words block below)
      ∙ (λ i. Block (block_name block) (place_at
      (small-number (location_of side block).column s.column i)
      (small-number (location_of side block).row s.row i) (Some 0)))

  module _ (setting : Setting) (pins : ℕ → List (Option ℕ))
      (blocks : setting.blocks ≡ map (block_on pins) (range_with_len 0 (side * side))) where
    -- a block is known
    known : (block : ℕ) → block < side * side →
        block_named setting.blocks (block_name block) ≡ Some (block_on pins block)
    known block below =
        let most = few in
        ap (λ (bs : List BlockOf). block_named bs (block_name block)) blocks
        ∙ find-made (has_name (block_name block)) (block_on pins) 0 (side * side) block
        (omega arith) (omega arith)
        (λ k low high. name-other k block (omega arith) (omega arith)
        (λ same. omega (arith, same, high))) (name-same block)

    -- the array is said
    grid-said : (block : ℕ) → grid_in (before side block) ≡ Some (record { nx = side; ny = side })
    grid-said block = grind (arith, whole_number_of-decimal)

    -- no earlier line has its name
    new-name : (block : ℕ) → block < side * side →
        (context_of setting (before side block)).has_line (block_name block) ≡ false
    new-name block below = grind (arith, few, any-none, name-other)

    -- or its spot
    new-spot : (block : ℕ) → block < side * side →
        (context_of setting (before side block)).is_taken (spot_of Logic (place_of side block))
        ≡ false
    new-spot block below = grind (arith, any-none, known, place-other)

    -- its place is lawful
    lawful : (block : ℕ) → block < side * side →
        is_lawful (record { nx = side; ny = side }) setting.io_rat Logic (place_of side block)
        ≡ true
    lawful block below = grind (arith, small, and_from, le-leb)

    -- its line has no fault
    block-clean : (block number : ℕ) → block < side * side →
        line_fault (place_codes setting) (context_of setting (before side block)) number
        (block_said side block) ≡ None
    block-clean block number below = grind (arith, known, new-name, grid-said, lawful, new-spot)

    -- the lines of the blocks from one on have no fault
    blocks-clean : (block count number end : ℕ) → block + count ≤ side * side →
        first_fault (faults_behind (place_codes setting) (before side block) (block_forms
        (numbered Hash number (map (block_text side) (range_with_len block count)))) end)
        ≡ first_fault (end_fault (place_codes setting)
        (context_of setting (before side (block + count))) end ∷ [])
    blocks-clean block zero number end within = grind arith
    blocks-clean block (suc count) number end within =
        let more = block_forms (numbered Hash (number + 1)
        (map (block_text side) (range_with_len (block + 1) count))) in
        let e : block + 1 + count ≡ block + suc count = omega arith in
        (λ i. first_fault (line_fault (place_codes setting) (context_of setting (before side block))
        number (block-says block (omega arith) i)
        ∷ faults_behind (place_codes setting)
        (before side block ++ block-says block (omega arith) i ∷ []) more end))
        ∙ (λ i. option_or (block-clean block number (omega arith) i)
        (first_fault (faults_behind (place_codes setting) (before-more side block i) more end)))
        ∙ blocks-clean (block + 1) count (number + 1) end (omega arith)
        ∙ ap (λ (n : ℕ). first_fault (end_fault (place_codes setting)
        (context_of setting (before side n)) end ∷ [])) e

    -- each block has its line
    all-lines : lacks_line setting (context_of setting (before side (side * side))) ≡ false
    all-lines =
        ap (list_any (λ (block : BlockOf).
        not ((context_of setting (before side (side * side))).has_line block.name))) blocks
        ∙ any-none (λ (block : BlockOf).
        not ((context_of setting (before side (side * side))).has_line block.name))
        (block_on pins) 0 (side * side)
        (λ k low high. ap not (list_any-from_In (names (block_name k))
        (map (block_said side) (range_with_len 0 (side * side))) (block_said side k)
        (In-map (block_said side) (range_with_len 0 (side * side)) k
        (In-range 0 (side * side) k low high)) (name-same k)))

    -- the end has no fault
    end-clean : (end : ℕ) → end_fault (place_codes setting)
        (context_of setting (before side (side * side))) end ≡ None
    end-clean end = ap (λ (b : Bool). if b then Some (Bad end 305) else None) all-lines

    -- the first line of a block's name says its place
    named : (first count block : ℕ) → first ≤ block → block < first + count →
        first + count ≤ side * side →
        place_named (map (block_said side) (range_with_len first count)) (block_name block)
        ≡ Some (place_of side block)
    named first zero block low high within = absurd (omega arith)
    named first (suc count) block low high within =
        let most = few in
        let rest = place_named (map (block_said side) (range_with_len (first + 1) count))
        (block_name block) in
        elim (cases_eq first block) [
          | inl same ↦
              ap (λ (b : Bool). option_or (if b then Some (place_of side first) else None) rest)
              (ap (λ (n : ℕ). bytes_eq (block_name first) (block_name n)) (sym same)
              ∙ name-same first)
              ∙ ap (λ (n : ℕ). Some (place_of side n)) same
          | inr other ↦
              ap (λ (b : Bool). option_or (if b then Some (place_of side first) else None) rest)
              (name-other first block (omega arith) (omega arith) other)
              ∙ named (first + 1) count block (omega (arith, other)) (omega arith) (omega arith)
        ]

    -- the places that the lines say
    places-said : map (place_found (place_named (before side (side * side)))) setting.blocks
        ≡ map (place_of side) (range_with_len 0 (side * side))
    places-said = grind (arith, map-map, same-made, named)

  -- the words of the array line
  array-words : words (array_text side) ≡ codes "Array" ∷ codes "size:" ∷ decimal side ∷ codes "x"
      ∷ decimal side ∷ codes "logic" ∷ codes "blocks" ∷ []
  array-words = grind (arith, IsWord, decimal-word, words-word)

  -- it is one line without a comment
  array-line : list_all is_line_byte (array_text side) ≡ true
  array-line =
      let d : list_all is_line_byte (decimal side) ≡ true
      = word-line (decimal side) (decimal-word side (omega arith)).bytes in
      both-pass is_line_byte (decimal side) (codes " x " ++ (decimal side ++ codes " logic blocks"))
      d (both-pass is_line_byte (decimal side) (codes " logic blocks") d refl)

  -- what it says
  array-says : size_words (said Hash (array_text side))
      ≡ Some (record { nx = decimal side; ny = decimal side })
  array-says = ap size_words (said-line Hash (array_text side) array-line ∙ array-words)

  -- its size is one
  size-clean : (setting : Setting) (number : ℕ) →
      line_fault (place_codes setting) (context_of setting (Files true ∷ [])) number
      (Array (Some (record { nx = decimal side; ny = decimal side }))) ≡ None
  size-clean setting number = grind (arith, whole_number_of-decimal, lt-ltb, le-ltb)

  -- the lines of the blocks
  blocks-lines : lines (flat_map (place_line side) (range_with_len 0 (side * side)))
      ≡ map (block_text side) (range_with_len 0 (side * side))
  blocks-lines =
      (λ i. lines (flat_map (λ block. line-ended block i) (range_with_len 0 (side * side))))
      ∙ lines-ended (block_text side) (range_with_len 0 (side * side))
      (all-from_In (λ block. lacks is_newline (block_text side block) ≡ true)
      (range_with_len 0 (side * side)) (λ block i. line-newline (block_text side block)
      (block-line block (omega (arith, from_In-range 0 (side * side) block i)))))
    where
      line-ended : (block : ℕ) → place_line side block ≡ ended (block_text side block)
      line-ended block = simp append_assoc

  -- the lines of the text
  placement-lines : lines (generated_placement side)
      ≡ files_text ∷ array_text side ∷ map (block_text side) (range_with_len 0 (side * side))
  placement-lines =
      let blocks = flat_map (place_line side) (range_with_len 0 (side * side)) in
      ap lines regrouped
      ∙ lines-next files_text (array_text side ++ 10 ∷ blocks) 10
      (lacks-each is_newline files_text refl) refl
      ∙ ap (λ (ls : List Bytes). files_text ∷ ls)
      (lines-next (array_text side) blocks 10
      (lacks-each is_newline (array_text side) (line-newline (array_text side) array-line)) refl
      ∙ ap (λ (ls : List Bytes). array_text side ∷ ls) blocks-lines)
    where
      regrouped : generated_placement side ≡ files_text ++ 10 ∷ (array_text side
          ++ 10 ∷ flat_map (place_line side) (range_with_len 0 (side * side)))
      regrouped = simp append_assoc

  -- those that have words are all
  placement-seen : text_lines Hash (generated_placement side)
      ≡ text_line Hash 1 files_text ∷ text_line Hash 2 (array_text side)
      ∷ numbered Hash 3 (map (block_text side) (range_with_len 0 (side * side)))
  placement-seen =
      let blocks = map (block_text side) (range_with_len 0 (side * side)) in
      ap (seen Hash 1) placement-lines
      ∙ seen-line Hash 1 files_text (array_text side ∷ blocks) refl
      ∙ ap (λ (ls : List TextLine). text_line Hash 1 files_text ∷ ls)
      (seen-line Hash 2 (array_text side) blocks
      (ap is_empty (said-line Hash (array_text side) array-line ∙ array-words))
      ∙ ap (λ (ls : List TextLine). text_line Hash 2 (array_text side) ∷ ls)
      (seen-all Hash 3 blocks (all_blocks 0 (side * side) (omega arith))))
    where
      all_blocks : (first count : ℕ) → first + count ≤ side * side →
          All (λ raw. is_empty (said Hash raw) ≡ false)
          (map (block_text side) (range_with_len first count))
      all_blocks first zero within = All-nil (λ raw. is_empty (said Hash raw) ≡ false)
      all_blocks first (suc count) within =
          All-cons (λ raw. is_empty (said Hash raw) ≡ false) (block_text side first)
          (map (block_text side) (range_with_len (first + 1) count))
          (ap is_empty (said-line Hash (block_text side first) (block-line first (omega arith))
          ∙ block-words first (omega arith)))
          (all_blocks (first + 1) count (omega arith))

  -- the text has no fault
  placement-clean : (arch : Arch) (netlist : Netlist) → HasBlocks side netlist →
      IsFaultless (place_faults arch netlist (generated_placement side))
  placement-clean arch netlist has =
      let setting = setting_of arch netlist in
      let end = line_count (generated_placement side) + 1 in
      let forms_after = block_forms
      (numbered Hash 3 (map (block_text side) (range_with_len 0 (side * side)))) in
      ap (λ (ls : List TextLine).
      first_fault (faults_behind (place_codes setting) [] (forms ls) end))
      placement-seen
      ∙ (λ i. first_fault (faults_behind (place_codes setting) [] ((1, Files true)
      ∷ (2, Array (array-says i)) ∷ forms_after) end))
      ∙ (λ i. option_or (size-clean setting 2 i) (first_fault (faults_behind (place_codes setting)
      (before side 0) forms_after end)))
      ∙ blocks-clean setting has.pins has.blocks 0 (side * side) 3 end (omega arith)
      ∙ (λ i. option_or (end_fault (place_codes setting)
      (context_of setting (before side (zero-add (side * side) i))) end) None)
      ∙ (λ i. option_or (end-clean setting has.pins has.blocks end i) None)

  -- what the lines say
  blocks-forms : (first count number : ℕ) → first + count ≤ side * side →
      forms_said (block_forms (numbered Hash number
      (map (block_text side) (range_with_len first count))))
      ≡ map (block_said side) (range_with_len first count)
  blocks-forms first zero number within = refl
  blocks-forms first (suc count) number within =
      grind (arith, block-says, (blocks-forms (first + 1) count (number + 1) (omega arith)))

  -- the text reads as the placement of the blocks
  placement-value : (netlist : Netlist) → HasBlocks side netlist →
      placement_of side ≡ place_value netlist (generated_placement side)
  placement-value netlist has = sym (
      let setting : Setting = record { io_rat = 0; blocks = netlist.blocks } in
      ap (λ (ls : List TextLine). value_of netlist.blocks (forms_said (forms ls))) placement-seen
      ∙ (λ i. value_of netlist.blocks (Files true ∷ Array (array-says i)
      ∷ blocks-forms 0 (side * side) 3 (omega arith) i))
      ∙ (λ i. record {
        grid = unwrap_or (grid-said setting has.pins has.blocks (side * side) i)
            (record { nx = 0; ny = 0 });
        places = places-said setting has.pins has.blocks i;
      })
      )

-- the placement reads, whatever nets its blocks are on
pub placement-reads : (arch : Arch) (netlist : Netlist) (side : ℕ) → 1 ≤ side →
    side ≤ SIDE_LIMIT → HasBlocks side netlist →
    Reads arch netlist (generated_placement side) (placement_of side)
placement-reads arch netlist side some limit has = search (rules, placement-clean, placement-value)
