-- The lines of the printed form of a route, and what they say.
use lib.Pointwise.{pointwise}
use Rattle.std.proofs.Math.Seq.{take-append_seam, drop-append_seam}
use Rattle.std.proofs.Common.{◌≡◌, ℕ, suc, ◌+◌, ◌-◌, ◌<◌, ◌≤◌, ◌^◌, Bool, true, false, List, [], ◌∷◌, ◌++◌, length, take, drop, Some, None, inl, refl, sym, ap, subst, ◌∙◌, arith, add-one, append_assoc, length-append}
use Rattle.std.specs.Prelude.{bytes_eq, codes, decimal, is_some, map, flat_map, nat_eq, nat_le, not, ◌&&◌, ◌||◌, slice_range, if◌then◌else◌}
use Rattle.std.specs.List.{after_first, before_first, ends_with, list_all, list_any, position_or_len, AllByRecursion}
use Rattle.std.specs.Option.{option_map_or}
use Rattle.std.proofs.lemmas.Bool.{and_parts, le-leb, not-true}
use Rattle.std.proofs.lemmas.Grind.{flat_map-append}
use Rattle.std.proofs.lemmas.List.Elements.{recursion_from_All}
use Rattle.fpga_types.specs.Size.{Size, AreLimited}
use Rattle.fpga_types.specs.declared.limits.TheConstants.{SIDE_LIMIT}
use Rattle.fpga_types.specs.declared.route.Elem.{Elem}
use Rattle.fpga_types.specs.declared.route.ElemKind.{ElemKind}
use Rattle.fpga_types.specs.declared.route.ElemKind.TheVariants.{Source, Opin, ChanX, ChanY, Ipin, Sink}
use Rattle.fpga_types.specs.declared.route.Label.{Label}
use Rattle.fpga_types.specs.declared.route.Label.TheVariants.{Class, Pin, Pad, Track}
use Rattle.fpga_types.specs.declared.route.RouteNet.{RouteNet}
use Rattle.fpga_types.specs.declared.route.RouteText.{RouteText}
use Rattle.fpga_text.specs.declared.style.Style.TheVariants.{Hash}
use Rattle.fpga_text.specs.Bytes.{Bytes, is_newline, is_empty}
use Rattle.fpga_text.specs.Words.{Words, lines, words}
use Rattle.fpga_text.proofs.CutLemmas.{position_or_len-cons_no}
use Rattle.fpga_text.proofs.LineLemmas.{lines-next}
use Rattle.fpga_text.proofs.PartLemmas.{words-are_words}
use Rattle.fpga_text.proofs.PrintedLines.{ended, said, said-line}
use Rattle.fpga_text.proofs.PrintedWords.{IsWord, both-pass, decimal-pass, decimal-word, digit-differs, is_line_byte, is_word_byte, lacks, lacks-each, line-newline, word-line, words-end, words-word}
use Rattle.fpga_text.specs.ArrayLine.{SizeWords}
use Rattle.fpga_route.specs.Forms.{ElemWords, Form, Array, Net, Elem as ElemForm, Block, Span, OtherLine, NetWords, array_form, is_comma, comma_parts, enclosed, named_net, kind_word, kind_of, label_word, label_of, later_form, place_words, elem_of_parts}
use Rattle.fpga_route.specs.Printed.{after_name, before_name, in_six_places, printed_elem, printed_lines, printed_net, printed_head, printed}
use Rattle.fpga_route.specs.ReadBack.{IsKeptLine, IsName, IsPrintable, IsPrintableElem, IsPrintableNet}

-- a name is a word
pub name-word : (name : Bytes) → IsName name → IsWord name
name-word name is =
    (subst (AllByRecursion IsWord) is.one_word (words-are_words name is.one_line)).0

-- and a word is a name
pub word-name : (word : Bytes) → IsWord word → IsName word
word-name word is =
    let whole = word-line word is.bytes in
    record {
      one_line = line-newline word whole;
      one_word = said-line Hash word whole ∙ words-end word is;
    }

-- the array line
abbrev pub head_text : Size → Bytes
head_text grid = codes "Array size: " ++ (decimal grid.nx ++ (codes " x "
    ++ (decimal grid.ny ++ codes " logic blocks.")))

-- what follows the name on a Net line
abbrev pub name_end : Bool → Bytes
name_end true = codes "): global net connecting:"
name_end false = codes ")"

-- a Net line
abbrev pub net_text : RouteNet → Bytes
net_text net =
    codes "Net " ++ (decimal net.k ++ (codes " (" ++ (net.name ++ name_end net.global)))

-- the place of an element
abbrev pub place_text : ℕ → ℕ → Bytes
place_text x y = codes "(" ++ ((decimal x ++ (codes "," ++ decimal y)) ++ codes ")")

-- an element line
abbrev pub elem_text : Elem → Bytes
elem_text e = in_six_places (kind_word e.kind) ++ (codes " " ++ (place_text e.x e.y
    ++ (codes "  " ++ (label_word e.label ++ (codes " " ++ (decimal e.number ++ codes "  "))))))

-- the lines that follow a Net line
abbrev pub own_texts : Bool → RouteNet → List Bytes
own_texts true net = net.kept
own_texts false net = map elem_text net.elems

-- the lines of a net, and the empty one behind them
abbrev pub net_texts : RouteNet → List Bytes
net_texts net = [] ∷ net_text net ∷ [] ∷ (own_texts net.global net ++ [] ∷ [])

-- the lines of a route
abbrev pub route_texts : RouteText → List Bytes
route_texts route = head_text route.grid ∷ [] ∷ codes "Routing:" ∷ flat_map net_texts route.nets

-- each line with its newline
abbrev pub all_ended : List Bytes → Bytes
all_ended texts = flat_map ended texts

-- the element lines of a net
printed_elems : (elems : List Elem) → flat_map printed_elem elems ≡ all_ended (map elem_text elems)
printed_elems [] = refl
printed_elems (e ∷ more) = λ i. one i ++ printed_elems more i
  where
    one : printed_elem e ≡ ended (elem_text e)
    one = simp append_assoc

-- the lines of a net, of either kind
own_printed : (net : RouteNet) (global : Bool)
    → printed_lines global net ≡ all_ended (own_texts global net)
own_printed net true = refl
own_printed net false = printed_elems net.elems

-- the pieces of a net in another order of joining
regroup : (word number opening name closing newline own : Bytes)
    → ((((word ++ number) ++ opening) ++ (name ++ (closing ++ (newline ++ newline)))) ++ own)
    ++ newline
    ≡ ((word ++ (number ++ (opening ++ (name ++ closing)))) ++ newline)
    ++ (newline ++ (own ++ newline))
regroup word number opening name closing newline own = simp append_assoc

-- a net with a newline behind it
printed_net-lines : (net : RouteNet)
    → printed_net net ++ codes "\n" ≡ codes "\n" ++ all_ended (net_texts net)
printed_net-lines net =
    parts net.global (printed_lines net.global net)
    ∙ (λ i. codes "\n\n" ++ ((net_text net ++ codes "\n")
    ++ (codes "\n" ++ (own_printed net net.global i ++ codes "\n"))))
    ∙ (λ i. codes "\n\n" ++ ((net_text net ++ codes "\n")
    ++ (codes "\n" ++ (sym (flat_map-append ended (own_texts net.global net) ([] ∷ [])) i))))
  where
    parts : (global : Bool) (own : Bytes)
        → ((before_name net.k ++ (net.name ++ after_name global)) ++ own) ++ codes "\n"
        ≡ codes "\n\n" ++ (((codes "Net " ++ (decimal net.k ++ (codes " ("
        ++ (net.name ++ name_end global)))) ++ codes "\n") ++ (codes "\n" ++ (own ++ codes "\n")))
    parts true own = ap (λ (t : Bytes). codes "\n\n" ++ t)
        (regroup (codes "Net ") (decimal net.k) (codes " (") net.name (name_end true)
        (codes "\n") own)
    parts false own = ap (λ (t : Bytes). codes "\n\n" ++ t)
        (regroup (codes "Net ") (decimal net.k) (codes " (") net.name (name_end false)
        (codes "\n") own)

-- the nets and the newline at the end
printed_nets-lines : (nets : List RouteNet)
    → flat_map printed_net nets ++ codes "\n" ≡ codes "\n" ++ all_ended (flat_map net_texts nets)
printed_nets-lines [] = refl
printed_nets-lines (net ∷ more) =
    append_assoc (printed_net net) (flat_map printed_net more) (codes "\n")
    ∙ ap (λ (t : Bytes). printed_net net ++ t) (printed_nets-lines more)
    ∙ sym (append_assoc (printed_net net) (codes "\n") (all_ended (flat_map net_texts more)))
    ∙ ap (λ (t : Bytes). t ++ all_ended (flat_map net_texts more)) (printed_net-lines net)
    ∙ ap (λ (t : Bytes). codes "\n" ++ t)
    (sym (flat_map-append ended (net_texts net) (flat_map net_texts more)))

-- the printed form is these lines
printed-lines : (route : RouteText) → printed route ≡ all_ended (route_texts route)
printed-lines route =
    ap (λ (t : Bytes). printed_head route.grid ++ t) (printed_nets-lines route.nets)
    ∙ head (all_ended (flat_map net_texts route.nets))
  where
    head : (rest : Bytes) → printed_head route.grid ++ (codes "\n" ++ rest)
        ≡ (head_text route.grid ++ codes "\n")
        ++ (codes "\n" ++ ((codes "Routing:" ++ codes "\n") ++ rest))
    head rest = simp append_assoc

-- the lines of a text of whole lines
all-lines : (texts : List Bytes) → AllByRecursion (λ text. lacks is_newline text ≡ true) texts
    → lines (all_ended texts) ≡ texts
all-lines [] all = refl
all-lines (text ∷ more) all =
    ap lines (append_assoc text (codes "\n") (all_ended more))
    ∙ lines-next text (all_ended more) 10 (lacks-each is_newline text all.0) refl
    ∙ ap (λ (ts : List Bytes). text ∷ ts) (all-lines more all.1)

-- a number of 32 bits fits 64, and so does a side of the array
pub wide : (n : ℕ) → n < 2 ^ 32 → n < 2 ^ 64
wide n small = omega (arith, small)

pub limited : (n : ℕ) → n ≤ SIDE_LIMIT → n < 2 ^ 64
limited n most = omega (arith, most)

-- a printed number may stand in a line
number_line : (n : ℕ) → n < 2 ^ 64 → list_all is_line_byte (decimal n) ≡ true
number_line n fits = word-line (decimal n) (decimal-word n fits).bytes

-- the array line is whole
head_whole : (grid : Size) → AreLimited grid.nx grid.ny → list_all is_line_byte (head_text grid)
    ≡ true
head_whole grid size =
    both-pass is_line_byte (decimal grid.nx) _ (number_line grid.nx (limited grid.nx size.nx_below))
    (both-pass is_line_byte (decimal grid.ny) (codes " logic blocks.")
    (number_line grid.ny (limited grid.ny size.ny_below)) refl)

-- the words of a printed array line
abbrev pub head_parts : Size → SizeWords
head_parts grid = record { nx = decimal grid.nx; ny = decimal grid.ny }

-- it says the size
pub head_says : (grid : Size) → AreLimited grid.nx grid.ny
    → array_form (said Hash (head_text grid)) ≡ Array (head_parts grid)
head_says grid size = ap array_form (said-line Hash (head_text grid) (head_whole grid size)
    ∙ (λ i. codes "Array" ∷ codes "size:" ∷ first i))
  where
    first : words (decimal grid.nx ++ (codes " x " ++ (decimal grid.ny ++ codes " logic blocks.")))
        ≡ decimal grid.nx ∷ codes "x" ∷ decimal grid.ny ∷ codes "logic" ∷ codes "blocks." ∷ []
    first = words-word (decimal grid.nx) (codes "x " ++ (decimal grid.ny ++ codes " logic blocks."))
        (decimal-word grid.nx (limited grid.nx size.nx_below))
        ∙ (λ i. decimal grid.nx ∷ codes "x" ∷ words-word (decimal grid.ny) (codes "logic blocks.")
        (decimal-word grid.ny (limited grid.ny size.ny_below)) i)

-- the place of the first byte that passes
first_place : (test : ℕ → Bool) (before : Bytes) (b : ℕ) (after : Bytes) → lacks test before ≡ true
    → test b ≡ true → position_or_len test (before ++ b ∷ after) ≡ length before
first_place test [] b after e passes = rw passes refl
first_place test (c ∷ more) b after e passes =
    let parts = and_parts (not (test c)) (lacks test more) e in
    position_or_len-cons_no test c (more ++ b ∷ after) (not-true (test c) parts.0)
    ∙ ap suc (first_place test more b after parts.1 passes)

-- a byte passes
some_pass : (test : ℕ → Bool) (before : Bytes) (b : ℕ) (after : Bytes) → test b ≡ true
    → list_any test (before ++ b ∷ after) ≡ true
some_pass test [] b after passes = rw passes refl
some_pass test (c ∷ more) b after passes = go (test c) (some_pass test more b after passes)
  where
    go : (one : Bool) → list_any test (more ++ b ∷ after) ≡ true
        → (one || list_any test (more ++ b ∷ after)) ≡ true
    go true e = refl
    go false e = e

-- the two sides of a comma
comma_parts-between : (before after : Bytes) → lacks is_comma before ≡ true
    → comma_parts (Some (before ++ 44 ∷ after)) ≡ Some (before, after)
comma_parts-between before after e =
    let place : position_or_len is_comma (before ++ 44 ∷ after) ≡ length before
    = first_place is_comma before 44 after e refl in
    let first : before_first is_comma (before ++ 44 ∷ after) ≡ before
    = ap (λ n. take n (before ++ 44 ∷ after)) place ∙ take-append_seam before (44 ∷ after) in
    let rest : after_first is_comma (before ++ 44 ∷ after) ≡ after
    = ap (λ n. drop n (before ++ 44 ∷ after)) (ap (λ n. n + 1) place ∙ add-one (length before))
    ∙ past before in
    λ i. if some_pass is_comma before 44 after refl i then Some (first i, rest i) else None
  where
    past : (front : Bytes) → drop (suc (length front)) (front ++ 44 ∷ after) ≡ after
    past [] = refl
    past (c ∷ more) = past more

-- what stands between two brackets
enclosed-between : (mid closing : Bytes) → pointwise nat_eq closing closing ≡ true
    → enclosed (codes "(") closing (40 ∷ (mid ++ closing)) ≡ Some mid
enclosed-between mid closing same = λ i. if true && ends i && room i then Some (inner i) else None
  where
    front : length (40 ∷ (mid ++ closing)) - length closing ≡ suc (length mid)
    front = omega (arith, length-append mid closing)

    less : suc (length mid) - 1 ≡ length mid
    less = omega arith

    ends : ends_with nat_eq (40 ∷ (mid ++ closing)) closing ≡ true
    ends = ap (λ n. pointwise nat_eq closing (drop n (40 ∷ (mid ++ closing)))) front
        ∙ ap (λ (t : Bytes). pointwise nat_eq closing t) (drop-append_seam mid closing) ∙ same

    room : nat_le (1 + length closing) (length (40 ∷ (mid ++ closing))) ≡ true
    room = le-leb (1 + length closing) (length (40 ∷ (mid ++ closing)))
        (omega (arith, length-append mid closing))

    inner : slice_range (40 ∷ (mid ++ closing)) 1 (length (40 ∷ (mid ++ closing)) - length closing)
        ≡ mid
    inner = ap (λ n. take (n - 1) (mid ++ closing)) front ∙ ap (λ n. take n (mid ++ closing)) less
        ∙ take-append_seam mid closing

-- a Net line is whole
net_whole : (net : RouteNet) → net.k < 2 ^ 64 → IsWord net.name
    → list_all is_line_byte (net_text net) ≡ true
net_whole net k name =
    both-pass is_line_byte (decimal net.k) _ (number_line net.k k)
    (both-pass is_line_byte net.name (name_end net.global) (word-line net.name name.bytes)
    (ends net.global))
  where
    ends : (global : Bool) → list_all is_line_byte (name_end global) ≡ true
    ends true = refl
    ends false = refl

-- the words of a printed Net line
abbrev pub net_parts : RouteNet → NetWords
net_parts net = record { k = decimal net.k; name = net.name; global = net.global }

-- it says the net
pub net_says : (net : RouteNet) → net.k < 2 ^ 64 → IsWord net.name
    → later_form (said Hash (net_text net)) ≡ Net (net_parts net)
net_says net k name =
    ap later_form (said-line Hash (net_text net) (net_whole net k name)
    ∙ (λ i. codes "Net" ∷ number i))
    ∙ go net.global
  where
    number : words (decimal net.k ++ (codes " (" ++ (net.name ++ name_end net.global)))
        ≡ decimal net.k ∷ words (codes "(" ++ (net.name ++ name_end net.global))
    number = words-word (decimal net.k) (codes "(" ++ (net.name ++ name_end net.global))
        (decimal-word net.k k)

    one_word : (closing : Bytes) → list_all is_word_byte closing ≡ true
        → IsWord (codes "(" ++ (net.name ++ closing))
    one_word closing e =
        record { some = refl; bytes = both-pass is_word_byte net.name closing name.bytes e }

    named : (global : Bool) (text : Bytes) → is_empty text ≡ false
        → named_net (decimal net.k) global (Some text)
        ≡ Some (record { k = decimal net.k; name = text; global = global })
    named global [] some = absurd (let clash : true ≡ false = some in cc)
    named global (b ∷ more) some = refl

    go : (global : Bool)
        → later_form (codes "Net" ∷ decimal net.k ∷ words
        (codes "(" ++ (net.name ++ name_end global)))
        ≡ Net (record { k = decimal net.k; name = net.name; global = global })
    go true = ap (λ (ws : Words). later_form (codes "Net" ∷ decimal net.k ∷ ws))
        (ap (λ (t : Bytes). words (codes "(" ++ t))
        (sym (append_assoc net.name (codes "):") (codes " global net connecting:")))
        ∙ words-word (codes "(" ++ (net.name ++ codes "):")) (codes "global net connecting:")
        (one_word (codes "):") refl))
        ∙ (λ i. option_map_or Net ((ap (named_net (decimal net.k) true)
        (enclosed-between net.name (codes "):") refl) ∙ named true net.name name.some) i)
        (later_form []))
    go false = ap (λ (ws : Words). later_form (codes "Net" ∷ decimal net.k ∷ ws))
        (words-end (codes "(" ++ (net.name ++ codes ")")) (one_word (codes ")") refl))
        ∙ (λ i. option_map_or Net ((ap (named_net (decimal net.k) false)
        (enclosed-between net.name (codes ")") refl) ∙ named false net.name name.some) i)
        (later_form []))

-- the place of an element is one word
place_is_word : (x y : ℕ) → x < 2 ^ 64 → y < 2 ^ 64 → IsWord (place_text x y)
place_is_word x y small_x small_y = record {
  some = refl;
  bytes = both-pass is_word_byte (decimal x ++ (codes "," ++ decimal y)) (codes ")")
      (both-pass is_word_byte (decimal x) (codes "," ++ decimal y) (decimal-word x small_x).bytes
      (decimal-word y small_y).bytes) refl;
}

-- and says the place
place_says : (x y : ℕ) → x < 2 ^ 64 → place_words (place_text x y) ≡ Some (decimal x, decimal y)
place_says x y small =
    ap comma_parts (enclosed-between (decimal x ++ (codes "," ++ decimal y)) (codes ")") refl)
    ∙ comma_parts-between (decimal x) (decimal y)
    (decimal-pass (λ b. not (is_comma b))
    (λ c least most. ap not (digit-differs 44 c least most (inl (omega arith)))) x small)

-- a word of a kind
kind_whole : (kind : ElemKind) → list_all is_line_byte (in_six_places (kind_word kind)) ≡ true
kind_whole Source = refl
kind_whole Opin = refl
kind_whole ChanX = refl
kind_whole ChanY = refl
kind_whole Ipin = refl
kind_whole Sink = refl

-- and the blank that ends it
kind_then : (kind : ElemKind) (rest : Bytes)
    → words (in_six_places (kind_word kind) ++ (codes " " ++ rest)) ≡ kind_word kind ∷ words rest
kind_then Source rest = refl
kind_then Opin rest = refl
kind_then ChanX rest = refl
kind_then ChanY rest = refl
kind_then Ipin rest = refl
kind_then Sink rest = refl

-- it names the kind
kind_of-word : (kind : ElemKind) → kind_of (kind_word kind) ≡ Some kind
kind_of-word Source = refl
kind_of-word Opin = refl
kind_of-word ChanX = refl
kind_of-word ChanY = refl
kind_of-word Ipin = refl
kind_of-word Sink = refl

-- a word of a label
label_whole : (label : Label) → list_all is_line_byte (label_word label) ≡ true
label_whole Class = refl
label_whole Pin = refl
label_whole Pad = refl
label_whole Track = refl

-- and the blank that ends it
label_then : (label : Label) (rest : Bytes)
    → words (label_word label ++ (codes " " ++ rest)) ≡ label_word label ∷ words rest
label_then Class rest = refl
label_then Pin rest = refl
label_then Pad rest = refl
label_then Track rest = refl

-- it names the label
label_of-word : (label : Label) → label_of (label_word label) ≡ Some label
label_of-word Class = refl
label_of-word Pin = refl
label_of-word Pad = refl
label_of-word Track = refl

-- the words of a printed element line
abbrev pub elem_parts : Elem → ElemWords
elem_parts e = record {
  kind = e.kind;
  x = decimal e.x;
  y = decimal e.y;
  label = e.label;
  number = decimal e.number;
}

module _ (grid : Size) (e : Elem) (can : IsPrintableElem grid e) where
  place_word : IsWord (place_text e.x e.y)
  place_word = place_is_word e.x e.y (wide e.x can.x) (wide e.y can.y)

  number_word : IsWord (decimal e.number)
  number_word = decimal-word e.number (wide e.number can.number)

  -- an element line is whole
  elem_whole : list_all is_line_byte (elem_text e) ≡ true
  elem_whole =
      both-pass is_line_byte (in_six_places (kind_word e.kind)) _ (kind_whole e.kind)
      (both-pass is_line_byte (place_text e.x e.y) _
      (word-line (place_text e.x e.y) place_word.bytes)
      (both-pass is_line_byte (label_word e.label) _ (label_whole e.label)
      (both-pass is_line_byte (decimal e.number) (codes "  ")
      (word-line (decimal e.number) number_word.bytes) refl)))

  -- and says the element
  pub elem_says : later_form (said Hash (elem_text e)) ≡ ElemForm (elem_parts e)
  elem_says =
      ap later_form (said-line Hash (elem_text e) elem_whole ∙ all_words)
      ∙ (λ i. option_map_or ElemForm (elem_of_parts (kind_of-word e.kind i)
      (place_says e.x e.y (wide e.x can.x) i) (label_of-word e.label i) (decimal e.number)) other)
      ∙ (λ i. option_map_or ElemForm
      (if can.sound.label i then Some (elem_parts e) else None) other)
    where
      other : Form
      other = if bytes_eq (kind_word e.kind) (codes "Block") then Block
          else if is_some (kind_of (kind_word e.kind)) && bytes_eq (label_word e.label) (codes "to")
          then Span else OtherLine

      last : words (decimal e.number ++ codes "  ") ≡ decimal e.number ∷ []
      last = words-word (decimal e.number) (codes " ") number_word

      after_place : Bytes
      after_place = label_word e.label ++ (codes " " ++ (decimal e.number ++ codes "  "))

      all_words : words (elem_text e)
          ≡ kind_word e.kind ∷ place_text e.x e.y ∷ label_word e.label ∷ decimal e.number ∷ []
      all_words = kind_then e.kind (place_text e.x e.y ++ (codes "  " ++ after_place))
          ∙ (λ i. kind_word e.kind ∷ words-word (place_text e.x e.y)
          (codes " " ++ after_place) place_word i)
          ∙ (λ i. kind_word e.kind ∷ place_text e.x e.y
          ∷ label_then e.label (decimal e.number ++ codes "  ") i)
          ∙ (λ i. kind_word e.kind ∷ place_text e.x e.y ∷ label_word e.label ∷ last i)

-- an element or a kept line is one line
own_lines_whole : (grid : Size) (net : RouteNet) (global : Bool) → IsPrintableNet grid net
    → AllByRecursion (λ text. lacks is_newline text ≡ true) (own_texts global net)
own_lines_whole grid net true can =
    kept net.kept (recursion_from_All IsKeptLine net.kept can.kept)
  where
    kept : (raws : List Bytes) → AllByRecursion IsKeptLine raws
        → AllByRecursion (λ text. lacks is_newline text ≡ true) raws
    kept [] all = tt
    kept (raw ∷ more) all = ((all.0).one_line, kept more all.1)
own_lines_whole grid net false can =
    whole net.elems (recursion_from_All (IsPrintableElem grid) net.elems can.elems)
  where
    whole : (elems : List Elem) → AllByRecursion (IsPrintableElem grid) elems
        → AllByRecursion (λ text. lacks is_newline text ≡ true) (map elem_text elems)
    whole [] all = tt
    whole (e ∷ more) all = (line-newline (elem_text e) (elem_whole grid e all.0), whole more all.1)

-- what is true of each element of two lists
all_append : {X : Type 0} (P : X → Type 0) (xs ys : List X) → AllByRecursion P xs
    → AllByRecursion P ys → AllByRecursion P (xs ++ ys)
all_append P [] ys first second = second
all_append P (x ∷ xs) ys first second = (first.0, all_append P xs ys first.1 second)

-- each line of the nets is one
nets_whole : (grid : Size) (nets : List RouteNet) → AllByRecursion (IsPrintableNet grid) nets
    → AllByRecursion (λ text. lacks is_newline text ≡ true) (flat_map net_texts nets)
nets_whole grid [] all = tt
nets_whole grid (net ∷ more) all =
    all_append (λ text. lacks is_newline text ≡ true) (net_texts net) (flat_map net_texts more) (
      refl,
      (
        line-newline (net_text net) (net_whole net (all.0).k (name-word net.name (all.0).name)),
        (
          refl,
          all_append (λ text. lacks is_newline text ≡ true) (own_texts net.global net) ([] ∷ [])
              (own_lines_whole grid net net.global all.0) (refl, tt),
        ),
      ),
    )
    (nets_whole grid more all.1)

-- the lines of the printed form
pub lines-printed : (route : RouteText) → IsPrintable route
    → lines (printed route) ≡ route_texts route
lines-printed route can =
    ap lines (printed-lines route)
    ∙ all-lines (route_texts route) (
      line-newline (head_text route.grid) (head_whole route.grid can.size),
      (
        refl,
        (
          refl,
          nets_whole route.grid route.nets
              (recursion_from_All (IsPrintableNet route.grid) route.nets can.nets),
        ),
      ),
    )
