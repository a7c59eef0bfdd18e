-- Names that are looked for, and those of them that are found among words.
use Rattle.std.proofs.Common.{◌≡◌, ℕ, zero, suc, ◌+◌, ◌-◌, ◌<◌, ◌∙◌, Bool, true, false, List, [], ◌∷◌, ◌++◌, drop, take, refl, sym, ap, append-nil, append_assoc, arith}
use Rattle.std.specs.Prelude.{◌||◌, not, bytes_eq, filter, flat_map, fold, slice_get, Some, None}
use Rattle.std.specs.List.{list_any}
use Rattle.std.proofs.Math.Bool.{or-false, or_assoc}
use Rattle.std.proofs.lemmas.Grind.{flat_map-append}
use Rattle.std.proofs.lemmas.List.{map-append}
use Rattle.std.proofs.lemmas.List.Elements.{filter-append}
use Rattle.std.proofs.lemmas.List.Folds.{list_any-append}
use Rattle.std.proofs.lemmas.List.Sums.{fold-append}
use Rattle.std.proofs.lemmas.Slice.Eq.{bytes_eq-Decides}
use Rattle.fpga_text.specs.Bytes.{Bytes}
use Rattle.fpga_text.specs.Said.{has_text}
use Rattle.fpga_text.specs.Words.{TextLine, text_lines}
use Rattle.fpga_text.specs.declared.style.Style.TheVariants.{Joined}
use Rattle.fpga_net.specs.Codes.{forms_of, globals_of}
use Rattle.fpga_net.specs.Forms.{Form, Begins, Pinlist, Subblock, Globals, Other, form_of, globals_in, is_globals, made_global}
use Rattle.fpga_net.specs.Globals.{FindsGlobals, FindsMore, HasLooked, nets_among, nets_named, nets_on_pins, some_globals}
use Rattle.fpga_net.specs.Names.{first_seen, names_with}
use Rattle.fpga_net.specs.Uses.{is_open}
use Rattle.fpga_net.proofs.NameLemmas.{first_seen-push, has_text-first_seen}

-- with one more name the others are among them as before
pub has_text-with : (names : List Bytes) (name other : Bytes)
    → has_text (names_with names name) other ≡ (has_text names other || bytes_eq name other)
has_text-with names name other = go (has_text names name) (bytes_eq name other) refl refl
  where
    go : (among same : Bool) → has_text names name ≡ among → bytes_eq name other ≡ same
        → has_text (names_with names name) other ≡ (has_text names other || bytes_eq name other)
    go true true among same =
        let e : name ≡ other = (bytes_eq-Decides name other).0 same in
        let there : has_text names other ≡ true = ap (has_text names) (sym e) ∙ among in
        rw (among, there) refl
    go true false among same = rw (among, same) (sym (or-false (has_text names other)))
    go false same among is =
        rw among (list_any-append (λ n. bytes_eq n other) names (name ∷ [])
        ∙ ap (λ b. has_text names other || b) (or-false (bytes_eq name other)))

-- a sought name is not one that is not sought
not_sought : (sought : List Bytes) (word name : Bytes) → has_text sought word ≡ false
    → has_text sought name ≡ true → bytes_eq word name ≡ false
not_sought sought word name none is = go (bytes_eq word name) refl
  where
    go : (same : Bool) → bytes_eq word name ≡ same → bytes_eq word name ≡ false
    go false apart = apart
    go true same =
        let e : word ≡ name = (bytes_eq-Decides word name).0 same in
        let clash : false ≡ true = sym none ∙ ap (has_text sought) e ∙ is in absurd cc

-- a name is added if it is sought
pub finds-sought : (sought found : List Bytes) (word : Bytes)
    → FindsMore sought found (word ∷ []) (names_with found word)
finds-sought sought found word = λ name is. has_text-with found word name
    ∙ ap (λ b. has_text found name || b) (sym (or-false (bytes_eq word name)))

-- and is passed over if it is not
pub finds-other : (sought found : List Bytes) (word : Bytes) → has_text sought word ≡ false
    → FindsMore sought found (word ∷ []) found
finds-other sought found word none = λ name is.
    rw (not_sought sought word name none is) (sym (or-false (has_text found name)))

-- words behind others are looked at after them
pub finds-more : (sought found first now rest : List Bytes) (name : Bytes)
    → FindsMore sought found first now → has_text sought name ≡ true
    → (has_text now name || has_text rest name)
    ≡ (has_text found name || has_text (first ++ rest) name)
finds-more sought found first now rest name finds is =
    ap (λ b. b || has_text rest name) (finds name is)
    ∙ or_assoc (has_text found name) (has_text first name) (has_text rest name)
    ∙ ap (λ b. has_text found name || b)
    (sym (list_any-append (λ n. bytes_eq n name) first rest))

-- the first word of a line, and the words behind it
words_first : (words : List Bytes) (word : Bytes) → Some word ≡ slice_get words 0
    → words ≡ word ∷ drop 1 words
words_first [] word said = absurd (let clash : Some word ≡ None = said in cc)
words_first (first ∷ more) word said = cc

-- what is found among words is what is found among the first of them and the others
pub finds-next : (sought found now words : List Bytes) (word name : Bytes)
    → Some word ≡ slice_get words 0 → FindsMore sought found (word ∷ []) now
    → has_text sought name ≡ true
    → (has_text now name || has_text (drop 1 words) name)
    ≡ (has_text found name || has_text words name)
finds-next sought found now words word name said finds is =
    finds-more sought found (word ∷ []) now (drop 1 words) name finds is
    ∙ ap (λ ws. has_text found name || has_text ws name) (sym (words_first words word said))

-- the nets of a text are among those that its lines make global
pub globals-all : (ahead : List TextLine) (text name : Bytes) → ahead ≡ text_lines Joined text
    → has_text (globals_in (forms_of ahead)) name
    ≡ has_text (globals_of (text_lines Joined text)) name
globals-all ahead text name all =
    ap (λ ls. has_text (globals_in (forms_of ls)) name) all
    ∙ sym (has_text-first_seen (globals_in (forms_of (text_lines Joined text))) name)

-- words that are added to names in turn
pub first_seen-more : (before more : List Bytes)
    → first_seen (before ++ more) ≡ fold names_with (first_seen before) more
first_seen-more before [] = ap first_seen (append-nil before)
first_seen-more before (name ∷ more) =
    ap first_seen (sym (append_assoc before (name ∷ []) more))
    ∙ first_seen-more (before ++ name ∷ []) more
    ∙ ap (λ names. fold names_with names more) (first_seen-push before name)

-- one line more was looked at
pub looks-next : (most : ℕ) (lines ahead more : List TextLine) (line : TextLine)
    (names now : List Bytes) → ahead ≡ line ∷ more
    → now ≡ fold names_with names (nets_on_pins most (form_of line.words))
    → HasLooked most lines ahead names → HasLooked most lines more now
looks-next most lines ahead more line names now next is looked = record {
  before = looked.before ++ line ∷ [];
  split = looked.split ∙ ap (λ ls. looked.before ++ ls) next
      ∙ sym (append_assoc looked.before (line ∷ []) more);
  nets = is ∙ ap (λ ns. fold names_with ns own) looked.nets
      ∙ sym (first_seen-more (nets_among most looked.before) own)
      ∙ ap first_seen (sym added);
}
  where
    own : List Bytes
    own = nets_on_pins most (form_of line.words)

    added : nets_among most (looked.before ++ line ∷ []) ≡ nets_among most looked.before ++ own
    added = ap (λ forms. flat_map (nets_on_pins most) forms)
        (map-append (λ (l : TextLine). form_of l.words) looked.before (line ∷ []))
        ∙ flat_map-append (nets_on_pins most) (forms_of looked.before)
        (form_of line.words ∷ [])
        ∙ ap (λ ns. nets_among most looked.before ++ ns) (append-nil own)

-- where no line names global nets, none is made global
no-globals : (forms : List Form) → list_any is_globals forms ≡ false → globals_in forms ≡ []
no-globals [] none = refl
no-globals (Begins kind names ∷ forms) none = no-globals forms none
no-globals (Pinlist nets ∷ forms) none = no-globals forms none
no-globals (Subblock ∷ forms) none = no-globals forms none
no-globals (Globals nets ∷ forms) none = absurd (let clash : true ≡ false = none in cc)
no-globals (Other ∷ forms) none = no-globals forms none

-- and none is to be found, whichever are looked for
pub finds-none : (most : ℕ) (lines : List TextLine) → some_globals lines ≡ false
    → FindsGlobals most lines []
finds-none most lines none = record {
  sought = first_seen (nets_among most lines);
  looks = record {
    ahead = [];
    looked = record { before = lines; split = sym (append-nil lines); nets = refl };
    whole = λ _. refl;
  };
  finds = λ name is. ap (λ names. has_text (first_seen names) name)
      (sym (no-globals (forms_of lines) none));
}
