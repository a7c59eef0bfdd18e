-- Each value that was read can be printed, and with other tracks too.
use Rattle.std.proofs.Common.{◌≡◌, ℕ, zero, suc, ◌+◌, ◌-◌, ◌<◌, ◌^◌, Bool, true, false, List, [], ◌∷◌, length, take, drop, slice_index, Option, Some, None, refl, sym, ap, subst, ◌∙◌, arith}
use Rattle.std.specs.Prelude.{All, map, not, ◌&&◌, nat_eq, nat_le, nat_lt, codes, slice_range, option_map, option_and_then, unwrap_or, if◌then◌else◌}
use Rattle.std.specs.List.{list_all, AllByRecursion, enumerate_from, starts_with, ends_with}
use Rattle.std.specs.Option.{option_map_or, option_or}
use Rattle.std.specs.Str.Parse.{digits_value}
use Rattle.std.proofs.lemmas.Bool.{and_parts, and_from, ltb-true, ltb-false}
use Rattle.std.proofs.lemmas.List.{length-map}
use Rattle.std.proofs.lemmas.List.Elements.{All-from_recursion, All-tail, recursion_from_All}
use Rattle.std.proofs.lemmas.List.FromFn.{length-enumerate_from}
use Rattle.std.proofs.lemmas.List.Sums.{take_while-cons}
use Rattle.fpga_types.specs.Size.{Size, AreLimited}
use Rattle.fpga_types.specs.Legal.{with_track, route_of}
use Rattle.fpga_types.specs.Slots.{elem_slot, slot_number, slots}
use Rattle.fpga_types.specs.declared.limits.TheConstants.{SIDE_LIMIT}
use Rattle.fpga_types.specs.declared.problem.Slot.{Slot}
use Rattle.fpga_types.specs.declared.route.Elem.{Elem}
use Rattle.fpga_types.specs.declared.route.RouteNet.{RouteNet}
use Rattle.fpga_types.specs.declared.route.RouteText.{RouteText}
use Rattle.fpga_text.specs.declared.fault.TextFault.{TextFault}
use Rattle.fpga_text.specs.declared.fault.TextFault.TheVariants.{Bad, Limit}
use Rattle.fpga_text.specs.declared.style.Style.TheVariants.{Hash}
use Rattle.fpga_text.specs.Bytes.{Bytes}
use Rattle.fpga_text.specs.Codes.{end_fault, faults_from, line_fault}
use Rattle.fpga_text.specs.FirstFault.{IsFaultless, first_fault}
use Rattle.fpga_text.specs.Words.{TextLine, Words, text_lines, line_count}
use Rattle.fpga_text.specs.Numbers.{are_digits, whole_number_of}
use Rattle.fpga_text.proofs.FaultLemmas.{faultless-line}
use Rattle.fpga_text.proofs.PartLemmas.{IsWhole, whole-lines, words-are_words}
use Rattle.fpga_text.proofs.PrintedWords.{IsWord, is_word_byte}
use Rattle.fpga_route.specs.declared.standing.Standing.{Standing}
use Rattle.fpga_route.specs.Codes.{START, behind, forms, is_number, is_32_bits, later_forms, lines_faults, number_of, route_codes}
use Rattle.fpga_text.specs.ArrayLine.{SizeWords, size_words}
use Rattle.fpga_route.specs.Forms.{Form, Array, Routing, OtherHead, Net, Elem as ElemForm, Block, NetWords, ElemWords, array_form, enclosed, is_global_frame, is_routing, later_form, named_net, net_words, routing_form}
use Rattle.fpga_route.specs.Heads.{array_fault, said_grid}
use Rattle.fpga_route.specs.Standings.{later_fault}
use Rattle.fpga_route.specs.Value.{begins_net, elem_of, elems_of, kept_of, own_lines, with_net, nets_of, grid_of, value_of, Reads}
use Rattle.fpga_route.specs.ReadBack.{IsKeptLine, IsPrintable, IsPrintableElem, IsPrintableNet}
use Rattle.fpga_route.proofs.FormLemmas.{net_form-words}
use Rattle.fpga_route.proofs.FaultLemmas.{by_context, array-behind, in_head}
use Rattle.fpga_route.proofs.SoundLemmas.{IsClean, faults_at, no_fault, own_sound, nets_limited, passed, sound_elem, standing_behind}
use Rattle.fpga_route.proofs.PrintedLemmas.{word-name}

-- what each element passes, each of a part passes
all_take : {X : Type 0} (p : X → Bool) (n : ℕ) (xs : List X) → list_all p xs ≡ true
    → list_all p (take n xs) ≡ true
all_take p zero xs all = refl
all_take p (suc n) [] all = refl
all_take p (suc n) (x ∷ xs) all =
    let parts = and_parts (p x) (list_all p xs) all in
    and_from (p x) (list_all p (take n xs)) parts.0 (all_take p n xs parts.1)

all_drop : {X : Type 0} (p : X → Bool) (n : ℕ) (xs : List X) → list_all p xs ≡ true
    → list_all p (drop n xs) ≡ true
all_drop p zero xs all = all
all_drop p (suc n) [] all = refl
all_drop p (suc n) (x ∷ xs) all = all_drop p n xs (and_parts (p x) (list_all p xs) all).1

-- what was chosen is there
chosen : {X : Type 0} (b : Bool) (o : Option X) (x : X) → (if b then o else None) ≡ Some x → o
    ≡ Some x
chosen true o x e = e
chosen false o x e = absurd (let clash : None ≡ Some x = e in cc)

-- what stands between two brackets is a part of the word
enclosed_bytes : (opening closing word mid : Bytes) → enclosed opening closing word ≡ Some mid
    → list_all is_word_byte word ≡ true → list_all is_word_byte mid ≡ true
enclosed_bytes opening closing word mid is all =
    let inner : Some (slice_range word (length opening) (length word - length closing)) ≡ Some mid
    = chosen (starts_with nat_eq word opening && ends_with nat_eq word closing
    && nat_le (length opening + length closing) (length word))
    (Some (slice_range word (length opening) (length word - length closing))) mid is in
    let same : slice_range word (length opening) (length word - length closing) ≡ mid = cc in
    subst (λ (bytes : Bytes). list_all is_word_byte bytes ≡ true) same
    (all_take is_word_byte (length word - length closing - length opening)
    (drop (length opening) word) (all_drop is_word_byte (length opening) word all))

-- the name of a net that has one
named : (k : Bytes) (global : Bool) (o : Option Bytes) (w : NetWords) → named_net k global o
    ≡ Some w
    → ((mid : Bytes) → o ≡ Some mid → list_all is_word_byte mid ≡ true) → IsWord w.name
named k global None w e all = absurd (let clash : None ≡ Some w = e in cc)
named k global (Some []) w e all = absurd (let clash : None ≡ Some w = e in cc)
named k global (Some (b ∷ more)) w e all =
    let same : record { k = k; name = b ∷ more; global = global } ≡ w = cc in
    subst (λ (v : NetWords). IsWord v.name) same
    (record { some = refl; bytes = all (b ∷ more) refl })

-- the name of a Net line
net_name : (ws : Words) (w : NetWords) → AllByRecursion IsWord ws → net_words ws ≡ Some w
    → IsWord w.name
net_name (net ∷ k ∷ name ∷ []) w all e =
    named k false (enclosed (codes "(") (codes ")") name) w (chosen _ _ w e)
    (λ mid is. enclosed_bytes (codes "(") (codes ")") name mid is (all.1.1.0).bytes)
net_name (net ∷ k ∷ name ∷ global ∷ word ∷ connecting ∷ []) w all e =
    named k true (enclosed (codes "(") (codes "):") name) w
    (chosen (is_global_frame net global word connecting) _ w e)
    (λ mid is. enclosed_bytes (codes "(") (codes "):") name mid is (all.1.1.0).bytes)
net_name _ w all e = absurd (let clash : None ≡ Some w = e in cc)

-- a number of 64 bits
number_small : (word : Bytes) → number_of word < 2 ^ 64
number_small word = go (are_digits word) (nat_lt (digits_value 10 word) (2 ^ 64)) refl
  where
    go : (digits fits : Bool) → nat_lt (digits_value 10 word) (2 ^ 64) ≡ fits
        → unwrap_or (if digits then if fits then Some (digits_value 10 word) else None else None) 0
        < 2 ^ 64
    go true true e = ltb-true (digits_value 10 word) (2 ^ 64) e
    go true false e = omega arith
    go false fits e = omega arith

-- three tests, none of which fails
three_parts : (a b c : Bool) → not (a && b && c) ≡ false → (a ≡ true) × (b ≡ true) × (c ≡ true)
three_parts true true true e = (refl, refl, refl)
three_parts true true false e = absurd (let clash : true ≡ false = e in cc)
three_parts true false c e = absurd (let clash : true ≡ false = e in cc)
three_parts false b c e = absurd (let clash : true ≡ false = e in cc)

-- a number that is there and fits
small : (o : Option ℕ) → option_map_or is_32_bits o false ≡ true → unwrap_or o 0 < 2 ^ 32
small None e = absurd (let clash : false ≡ true = e in cc)
small (Some n) e = ltb-true n (2 ^ 32) e

-- an element line without a fault
elem_can : (at : Standing) (line : TextLine) (w : ElemWords) → later_form line.words ≡ ElemForm w
    → later_fault at line.number (ElemForm w) ≡ None
    → IsPrintableElem at.grid (elem_of line.number w)
elem_can at line w is clean =
    let facts = passed at line.number w clean in
    let numbers = three_parts (is_number is_32_bits w.x) (is_number is_32_bits w.y)
    (is_number is_32_bits w.number) facts.there in
    record {
      sound = sound_elem at line w is facts;
      x = small (whole_number_of w.x) numbers.0;
      y = small (whole_number_of w.y) numbers.1;
      number = small (whole_number_of w.number) numbers.2;
    }

-- the elements and the kept lines of a net
record OwnCan (grid : Size) (elems : List Elem) (kept : List Bytes) : Type 0 where
  elems_can : AllByRecursion (IsPrintableElem grid) elems
  kept_can : AllByRecursion IsKeptLine kept

-- of lines without a fault, those up to the next Net line
own_can : (at : Standing) (lines : List TextLine) (end : ℕ) → IsFaultless (faults_at at lines end)
    → All (IsWhole Hash) lines
    → OwnCan at.grid (elems_of (own_lines lines)) (kept_of (own_lines lines))
own_can at [] end clean whole = record { elems_can = tt; kept_can = tt }
own_can at (line ∷ more) end clean whole =
    rw (take_while-cons (λ (l : TextLine). not (begins_net (later_form l.words))) line more)
    (go (later_form line.words) refl (no_fault at line more end clean)
    (λ rest. own_can at more end rest (All-tail (IsWhole Hash) line more whole)))
  where
    here : IsWhole Hash line
    here = whole 0 line (omega arith)

    go : (form : Form) → later_form line.words ≡ form → IsClean at line form more end
        → (IsFaultless (faults_at at more end)
        → OwnCan at.grid (elems_of (own_lines more)) (kept_of (own_lines more)))
        → OwnCan at.grid (elems_of (if not (begins_net form) then line ∷ own_lines more else []))
        (kept_of (if not (begins_net form) then line ∷ own_lines more else []))
    go (Net net) is c later = record { elems_can = tt; kept_can = tt }
    go (ElemForm e) is c later =
        let own = later c.rest in
        rw is (record {
          elems_can = (elem_can at line e is c.here, own.elems_can);
          kept_can = own.kept_can;
        })
    go Block is c later =
        let own = later c.rest in
        rw is (record {
          elems_can = own.elems_can;
          kept_can = (
            record { one_line = here.one_line; block = ap later_form (sym here.words) ∙ is },
            own.kept_can,
          );
        })
    go _ is c later = rw is (later c.rest)

-- the nets of lines without a fault
nets_can : (at : Standing) (lines : List TextLine) (end : ℕ) → IsFaultless (faults_at at lines end)
    → All (IsWhole Hash) lines → AllByRecursion (IsPrintableNet at.grid) (nets_of lines)
nets_can at [] end clean whole = tt
nets_can at (line ∷ more) end clean whole =
    go (later_form line.words) refl (no_fault at line more end clean)
    (λ next rest. nets_can next more end rest (All-tail (IsWhole Hash) line more whole))
  where
    here : IsWhole Hash line
    here = whole 0 line (omega arith)

    words_of : AllByRecursion IsWord line.words
    words_of = rw here.words (words-are_words line.raw here.one_line)

    go : (form : Form) → later_form line.words ≡ form → IsClean at line form more end
        → ((next : Standing) → IsFaultless (faults_at next more end)
        → AllByRecursion (IsPrintableNet next.grid) (nets_of more))
        → AllByRecursion (IsPrintableNet at.grid) (with_net form line.number more (nets_of more))
    go (Net net) is c later =
        let next = standing_behind at (Net net) in
        let sound = own_sound at.grid (at.nets + 1) net.global more end c.rest in
        let own = own_can next more end c.rest (All-tail (IsWhole Hash) line more whole) in (
          record {
            k = number_small net.k;
            name = word-name net.name
                (net_name line.words net words_of (net_form-words line.words net is));
            elems = All-from_recursion (IsPrintableElem at.grid) _ own.elems_can;
            kept = All-from_recursion IsKeptLine _ own.kept_can;
            no_elems = sound.no_elems;
            no_kept = sound.no_kept;
          },
          later next c.rest,
        )
    go _ is c later = later at c.rest

-- an array line without a fault says a size within the limits
record SaysSize (form : Form) : Type 0 where
  grid : Size
  says : said_grid form ≡ Some grid
  limited : AreLimited grid.nx grid.ny

size_can : (n : ℕ) (o : Option SizeWords) → array_fault n (option_map_or Array o OtherHead) ≡ None
    → SaysSize (option_map_or Array o OtherHead)
size_can n None clean = absurd (let clash : Some (Bad n 401) ≡ None = clean in cc)
size_can n (Some size) clean =
    numbers (whole_number_of size.nx) (whole_number_of size.ny) refl refl clean
  where
    past : Option ℕ → Option TextFault
    past o = option_or (option_map (λ m. Limit 407 m) o) None

    apart : (x y : ℕ) (a b c d : Bool) → nat_lt 0 x ≡ a → nat_lt 0 y ≡ b → nat_lt SIDE_LIMIT x ≡ c
        → nat_lt SIDE_LIMIT y ≡ d
        → (if not (a && b) then Some (Bad n 403)
        else past (if c then Some x else if d then Some y else None)) ≡ None → AreLimited x y
    apart x y true true false false p q r s e = record {
      nx_above = ltb-true 0 x p;
      nx_below = ltb-false SIDE_LIMIT x r;
      ny_above = ltb-true 0 y q;
      ny_below = ltb-false SIDE_LIMIT y s;
    }
    apart x y true true true d p q r s e = absurd (let clash : Some (Limit 407 x) ≡ None = e in cc)
    apart x y true true false true p q r s e =
        absurd (let clash : Some (Limit 407 y) ≡ None = e in cc)
    apart x y true false c d p q r s e = absurd (let clash : Some (Bad n 403) ≡ None = e in cc)
    apart x y false b c d p q r s e = absurd (let clash : Some (Bad n 403) ≡ None = e in cc)

    none_at : (a : Bool) (later : Option TextFault)
        → (if not (a && false) then Some (Bad n 403) else later) ≡ None → ⊥
    none_at true later e = let clash : Some (Bad n 403) ≡ None = e in cc
    none_at false later e = let clash : Some (Bad n 403) ≡ None = e in cc

    numbers : (nx ny : Option ℕ) → whole_number_of size.nx ≡ nx → whole_number_of size.ny ≡ ny
        → (if not (option_map_or (nat_lt 0) nx false && option_map_or (nat_lt 0) ny false)
        then Some (Bad n 403)
        else past (if option_map_or (nat_lt SIDE_LIMIT) nx false then nx
        else if option_map_or (nat_lt SIDE_LIMIT) ny false then ny else None)) ≡ None
        → SaysSize (Array size)
    numbers None ny x_is y_is e = absurd (let clash : Some (Bad n 403) ≡ None = e in cc)
    numbers (Some x) None x_is y_is e = absurd (none_at (nat_lt 0 x) _ e)
    numbers (Some x) (Some y) x_is y_is e = record {
      grid = record { nx = x; ny = y };
      says = λ i. option_and_then (λ p. option_map (λ q. record { nx = p; ny = q }) (y_is i))
          (x_is i);
      limited = apart x y (nat_lt 0 x) (nat_lt 0 y) (nat_lt SIDE_LIMIT x) (nat_lt SIDE_LIMIT y)
          refl refl refl refl e;
    }

-- the value of lines without a fault
value_can : (lines : List TextLine) (count : ℕ) → IsFaultless (lines_faults lines count)
    → All (IsWhole Hash) lines → IsPrintable (value_of lines count)
value_can lines count clean whole =
    go lines (sym (ap first_fault (by_context lines count)) ∙ clean) whole
  where
    go : (ls : List TextLine)
        → IsFaultless (faults_from behind route_codes START (forms ls) (count + 1))
        → All (IsWhole Hash) ls → IsPrintable (value_of ls count)
    go [] none all = absurd (let clash : Some (Bad (count + 1) 401) ≡ None = none in cc)
    go (first ∷ []) none all = absurd (
        let parts = faultless-line (array_fault first.number (array_form first.words))
        (end_fault route_codes (behind START (array_form first.words)) (count + 1) ∷ []) none in
        let clash : Some (Bad (count + 1) 401) ≡ None =
        rw (in_head (size_words first.words)) at parts.1 in cc
        )
    go (first ∷ second ∷ more) none all =
        let context = behind START (array_form first.words) in
        let later = faults_from behind route_codes (behind context (routing_form second.words))
        (later_forms more) (count + 1) in
        let routing = line_fault route_codes context second.number (routing_form second.words) in
        let parts = faultless-line (array_fault first.number (array_form first.words))
        (routing ∷ later) none in
        let size = size_can first.number (size_words first.words) parts.0 in
        by_routing size (is_routing second.words) (faultless-line routing later parts.1)
      where
        by_routing : SaysSize (array_form first.words) → (b : Bool)
            → (line_fault route_codes (behind START (array_form first.words)) second.number
            (if b then Routing else OtherHead) ≡ None)
            × IsFaultless (faults_from behind route_codes
            (behind (behind START (array_form first.words))
            (if b then Routing else OtherHead)) (later_forms more) (count + 1))
            → IsPrintable (value_of (first ∷ second ∷ more) count)
        by_routing size false rest =
            absurd (let clash : Some (Bad second.number 401) ≡ None = rest.0 in cc)
        by_routing size true rest =
            let at : Standing = record { grid = size.grid; nets = 0; in_global = None } in
            let clean_rest : IsFaultless (faults_at at more (count + 1))
            = (λ i. first_fault (faults_from behind route_codes
            (behind (sym (array-behind (array_form first.words) size.grid size.says) i) Routing)
            (later_forms more) (count + 1))) ∙ rest.1 in
            let grid : grid_of (first ∷ second ∷ more) ≡ size.grid
            = (λ i. unwrap_or (size.says i) (record { nx = 0; ny = 0 })) in
            record {
              size = rw grid size.limited;
              limit = omega (arith, nets_limited at more (count + 1) clean_rest (omega arith));
              nets = rw grid (All-from_recursion (IsPrintableNet size.grid) (nets_of more)
                  (nets_can at more (count + 1) clean_rest (All-tail (IsWhole Hash) second more
                  (All-tail (IsWhole Hash) first (second ∷ more) all))));
            }

-- each value that was read
pub can_print : (text : Bytes) (value : RouteText) → Reads text value → IsPrintable value
can_print text value reads = rw (reads.1)
    (value_can (text_lines Hash text) (line_count text) reads.0 (whole-lines Hash text))

-- each track, and the 0 past their end
small_track : (tracks : List ℕ) → All (λ t. t < 2 ^ 32) tracks → (s : ℕ)
    → slice_index tracks s < 2 ^ 32
small_track [] all s = omega arith
small_track (t ∷ more) all zero = all 0 0 (omega arith)
small_track (t ∷ more) all (suc s) = small_track more (All-tail (λ n. n < 2 ^ 32) t more all) s

module _ (grid : Size) (all : List Slot) (tracks : List ℕ)
    (fits : (s : ℕ) → slice_index tracks s < 2 ^ 32) where
  -- an element with its track
  elem_with : (net : ℕ) (e : Elem) → IsPrintableElem grid e
      → IsPrintableElem grid (with_track all tracks net e)
  elem_with net e can = go (elem_slot net e)
    where
      go : (o : Option Slot) → IsPrintableElem grid
          (option_map_or (λ slot. record e { number = slice_index tracks (slot_number all slot) }) o
          e)
      go None = can
      go (Some slot) =
          record {
            sound = record { label = can.sound.label; place = can.sound.place };
            x =
                can.x;
            y = can.y;
            number = fits (slot_number all slot);
          }

  -- each element of a net
  elems_with : (net : ℕ) (elems : List Elem) → AllByRecursion (IsPrintableElem grid) elems
      → AllByRecursion (IsPrintableElem grid) (map (with_track all tracks net) elems)
  elems_with net [] can = tt
  elems_with net (e ∷ more) can = (elem_with net e can.0, elems_with net more can.1)

  -- each net
  nets_with : (n : ℕ) (nets : List RouteNet) → AllByRecursion (IsPrintableNet grid) nets
      → AllByRecursion (IsPrintableNet grid)
      (map (λ n. let net : RouteNet =
      n.1 in record net { elems = map (with_track all tracks n.0) net.elems })
      (enumerate_from n nets))
  nets_with n [] can = tt
  nets_with n (net ∷ more) can = (
    record {
      k = (can.0).k;
      name = (can.0).name;
      elems = All-from_recursion (IsPrintableElem grid) _
          (elems_with n net.elems
          (recursion_from_All (IsPrintableElem grid) net.elems (can.0).elems));
      kept = (can.0).kept;
      no_elems = λ global. ap (map (with_track all tracks n)) ((can.0).no_elems global);
      no_kept = (can.0).no_kept;
    },
    nets_with (n + 1) more can.1,
  )

-- a route with tracks
pub can_print_tracks : (route : RouteText) (tracks : List ℕ) → IsPrintable route
    → All (λ t. t < 2 ^ 32) tracks → IsPrintable (route_of route tracks)
can_print_tracks route tracks can small = record {
  size = can.size;
  limit = rw (length-map, length-enumerate_from) can.limit;
  nets = All-from_recursion (IsPrintableNet route.grid) _
      (nets_with route.grid (slots route) tracks (small_track tracks small) 0 route.nets
      (recursion_from_All (IsPrintableNet route.grid) route.nets can.nets));
}
