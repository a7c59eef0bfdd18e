-- What the forms of a line have to do with its words.
use Rattle.std.proofs.Common.{◌≡◌, ◌<◌, ◌+◌, ℕ, Bool, true, false, [], ◌∷◌, length, take, drop, slice_index, Option, Some, None, refl, sym, ap, ◌∙◌, arith}
use Rattle.std.specs.Prelude.{if◌then◌else◌}
use Rattle.std.specs.List.{position_or_len}
use Rattle.std.specs.Option.{option_map_or}
use Rattle.std.proofs.lemmas.List.Sums.{position_or_len_is}
use Rattle.std.proofs.lemmas.List.Folds.{list_any_at, list_any_none}
use Rattle.std.proofs.lemmas.List.Elements.{All-from_get_or}
use Rattle.fpga_types.specs.Kinds.{takes}
use Rattle.fpga_types.specs.declared.route.ElemKind.{ElemKind}
use Rattle.fpga_types.specs.declared.route.Label.{Label}
use Rattle.fpga_text.specs.Bytes.{Bytes}
use Rattle.fpga_text.specs.Words.{Words}
use Rattle.fpga_route.specs.Forms.{NetWords, ElemWords, Form, Array, Routing, Net, Elem, Block, Span, OtherLine, is_routing, is_comma, comma_parts, net_words, kind_of, label_of, place_words, elem_of_parts, elem_words, is_block, is_span, later_form}

-- the sides of a comma that a scan has found
pub comma_parts-at : (text : Bytes) (i : ℕ) → i < length text
    → ((k : ℕ) → k < i → is_comma (slice_index text k) ≡ false)
    → is_comma (slice_index text i) ≡ true
    → comma_parts (Some text) ≡ Some (take i text, drop (i + 1) text)
comma_parts-at text i within clear comma =
    let place : position_or_len is_comma text ≡ i
    = position_or_len_is is_comma text i 0 (omega arith) clear (λ _. comma) in
    rw (list_any_at is_comma text i 0 within comma, place) refl

-- no comma
pub comma_parts-none : (text : Bytes)
    → ((k : ℕ) → k < length text → is_comma (slice_index text k) ≡ false)
    → comma_parts (Some text) ≡ None
comma_parts-none text clear =
    rw (list_any_none is_comma text (All-from_get_or (λ b. is_comma b ≡ false) text 0 clear)) refl

-- what the forms make of a line's words
abbrev said : Words → Bool × Form
said words = (is_routing words, later_form words)

-- no form looks at more than eight words
said-take : (words : Words) → said (take 8 words) ≡ said words
said-take [] = refl
said-take (a ∷ []) = refl
said-take (a ∷ b ∷ []) = refl
said-take (a ∷ b ∷ c ∷ []) = refl
said-take (a ∷ b ∷ c ∷ d ∷ []) = refl
said-take (a ∷ b ∷ c ∷ d ∷ e ∷ []) = refl
said-take (a ∷ b ∷ c ∷ d ∷ e ∷ f ∷ []) = refl
said-take (a ∷ b ∷ c ∷ d ∷ e ∷ f ∷ g ∷ []) = refl
said-take (a ∷ b ∷ c ∷ d ∷ e ∷ f ∷ g ∷ h ∷ more) = refl

pub later_form_take : (words : Words) → later_form (take 8 words) ≡ later_form words
later_form_take words = λ i. (said-take words i).1

-- the form of a line with these parts
abbrev of_parts : Option NetWords → Option ElemWords → Bool → Bool → Form
of_parts net elem block span =
    option_map_or Net net (option_map_or Elem elem
    (if block then Block else if span then Span else OtherLine))

-- a Net line has the words of one
pub net_form-words : (words : Words) (net : NetWords) → later_form words ≡ Net net
    → net_words words ≡ Some net
net_form-words words net is =
    go (net_words words) (elem_words words) (is_block words) (is_span words) is
  where
    go : (n : Option NetWords) (e : Option ElemWords) (b s : Bool) → of_parts n e b s ≡ Net net
        → n ≡ Some net
    go (Some n) e b s f = let same : n ≡ net = cc in ap (λ m. Some m) same
    go None (Some e) b s f = absurd (let clash : Elem e ≡ Net net = f in cc)
    go None None true s f = absurd (let clash : Block ≡ Net net = f in cc)
    go None None false true f = absurd (let clash : Span ≡ Net net = f in cc)
    go None None false false f = absurd (let clash : OtherLine ≡ Net net = f in cc)

-- the parts of an element line are there, and the kind takes the label
elem_of_parts-takes : (kind : Option ElemKind) (place : Option (Bytes × Bytes))
    (label : Option Label) (number : Bytes) (e : ElemWords)
    → elem_of_parts kind place label number ≡ Some e → takes e.kind e.label ≡ true
elem_of_parts-takes (Some k) (Some p) (Some l) number e said = go (takes k l) refl said
  where
    go : (b : Bool) → takes k l ≡ b
        → (if b then Some (record { kind = k; x = p.0; y = p.1; label = l; number = number })
        else None) ≡ Some e → takes e.kind e.label ≡ true
    go true t f =
        let same : record { kind = k; x = p.0; y = p.1; label = l; number = number } ≡ e = cc in
        sym (ap (λ (w : ElemWords). takes w.kind w.label) same) ∙ t
    go false t f = absurd (let clash : None ≡ Some e = f in cc)
elem_of_parts-takes _ _ _ number e said = absurd (let clash : None ≡ Some e = said in cc)

elem_words-takes : (words : Words) (e : ElemWords) → elem_words words ≡ Some e
    → takes e.kind e.label ≡ true
elem_words-takes (kind ∷ place ∷ label ∷ number ∷ []) e said =
    elem_of_parts-takes (kind_of kind) (place_words place) (label_of label) number e said
elem_words-takes _ e said = absurd (let clash : None ≡ Some e = said in cc)

-- the kind of an element line takes its label
pub takes-elem : (words : Words) (e : ElemWords) → later_form words ≡ Elem e
    → takes e.kind e.label ≡ true
takes-elem words e is =
    go (net_words words) (elem_words words) refl (is_block words) (is_span words) is
  where
    go : (n : Option NetWords) (o : Option ElemWords) → elem_words words ≡ o → (b s : Bool)
        → of_parts n o b s ≡ Elem e → takes e.kind e.label ≡ true
    go (Some n) o h b s f = absurd (let clash : Net n ≡ Elem e = f in cc)
    go None (Some w) h b s f =
        let same : w ≡ e = cc in
        elem_words-takes words e (h ∙ ap (λ v. Some v) same)
    go None None h true s f = absurd (let clash : Block ≡ Elem e = f in cc)
    go None None h false true f = absurd (let clash : Span ≡ Elem e = f in cc)
    go None None h false false f = absurd (let clash : OtherLine ≡ Elem e = f in cc)

-- the form is one of a line after the head
abbrev pub is_later : Form → Bool
is_later (Array size) = false
is_later Routing = false
is_later _ = true

pub later_form-later : (words : Words) → is_later (later_form words) ≡ true
later_form-later words = go (net_words words) (elem_words words) (is_block words) (is_span words)
  where
    go : (n : Option NetWords) (e : Option ElemWords) (b s : Bool)
        → is_later (of_parts n e b s) ≡ true
    go (Some n) e b s = refl
    go None (Some e) b s = refl
    go None None true s = refl
    go None None false true = refl
    go None None false false = refl
