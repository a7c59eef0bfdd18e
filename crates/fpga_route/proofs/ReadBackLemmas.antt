-- What the lines of a printed route read as.
use Rattle.std.proofs.Common.{◌≡◌, ℕ, ◌+◌, ◌<◌, ◌≤◌, ◌^◌, Bool, true, false, List, [], ◌∷◌, ◌++◌, length, Some, None, refl, sym, ap, subst, ◌∙◌, arith, append_assoc}
use Rattle.std.specs.Prelude.{codes, map, flat_map, not, cond, ◌&&◌, decimal, nat_lt, option_map, option_and_then, unwrap_or, if◌then◌else◌}
use Rattle.std.specs.List.{AllByRecursion, cons_option}
use Rattle.std.specs.Option.{option_map_or, option_or}
use Rattle.std.proofs.lemmas.Bool.{lt-ltb, le-ltb, ne_eqb}
use Rattle.std.proofs.lemmas.List.Elements.{recursion_from_All}
use Rattle.std.proofs.lemmas.List.Sums.{take_while-cons}
use Rattle.fpga_types.specs.Size.{Size, AreLimited}
use Rattle.fpga_types.specs.Sound.{has_place}
use Rattle.fpga_types.specs.declared.limits.TheConstants.{NET_LIMIT, SIDE_LIMIT}
use Rattle.fpga_types.specs.declared.route.Elem.{Elem}
use Rattle.fpga_types.specs.declared.route.RouteNet.{RouteNet}
use Rattle.fpga_types.specs.declared.route.RouteText.{RouteText}
use Rattle.fpga_text.specs.declared.style.Style.TheVariants.{Hash}
use Rattle.fpga_text.specs.declared.fault.TextFault.TheVariants.{Bad, Limit}
use Rattle.fpga_text.specs.Bytes.{Bytes, is_empty}
use Rattle.fpga_text.specs.Codes.{faults_from}
use Rattle.fpga_text.specs.FirstFault.{IsFaultless, first_fault}
use Rattle.fpga_text.specs.Words.{TextLine, Words, text_line, text_lines, line_count}
use Rattle.fpga_text.specs.Numbers.{whole_number_of}
use Rattle.fpga_text.proofs.PrintedLines.{numbered, said, seen, seen-line}
use Rattle.fpga_text.proofs.PrintedWords.{whole_number_of-decimal}
use Rattle.fpga_route.specs.declared.standing.Standing.{Standing}
use Rattle.fpga_route.specs.Codes.{behind, START, is_number, is_32_bits, is_misplaced, lacks_elem, later_forms, lines_faults, number_of, route_codes}
use Rattle.fpga_route.specs.Forms.{Form, Array, Routing, OtherLine, Net, Elem as ElemForm, Block, array_form, later_form}
use Rattle.fpga_route.specs.Heads.{array_fault, said_grid}
use Rattle.fpga_route.specs.Standings.{context_at, later_fault}
use Rattle.fpga_route.specs.Value.{begins_net, elems_of, form_elem, form_kept, kept_of, net_of, own_lines, with_net, nets_of, value_of, route_value}
use Rattle.fpga_route.specs.Printed.{printed}
use Rattle.fpga_route.specs.ReadBack.{IsKeptLine, IsPrintable, IsPrintableElem, IsPrintableNet, ReadsBack, elem_without_line, net_without_lines, without_lines}
use Rattle.fpga_route.proofs.FaultLemmas.{by_context}
use Rattle.fpga_route.proofs.SoundLemmas.{faults_at, in_net}
use Rattle.fpga_route.proofs.PrintedLemmas.{elem_parts, head_parts, net_parts, head_text, net_text, elem_text, own_texts, net_texts, lines-printed, head_says, net_says, elem_says, name-word, wide, limited}

-- the number after those of these lines
abbrev number_after : ℕ → List Bytes → ℕ
number_after n [] = n
number_after n (text ∷ more) = number_after (n + 1) more

-- a line of a known form has words
some_words : (words : Words) (form : Form) → later_form words ≡ form → (OtherLine ≡ form → ⊥)
    → is_empty words ≡ false
some_words [] form says known = absurd (known says)
some_words (first ∷ more) form says known = refl

-- a line of this form belongs to a net, and has no fault where it stands
record IsOwnForm (at : Standing) (form : Form) : Type 0 where
  own : begins_net form ≡ false
  stays : behind (context_at at) form ≡ context_at at
  clean : (n : ℕ) → later_fault at n form ≡ None
  rest : (n : ℕ) (more : List TextLine) (nets : List RouteNet) → with_net form n more nets ≡ nets

-- a line with words and of such a form
record IsOwnLine (at : Standing) (text : Bytes) : Type 0 where
  some : is_empty (said Hash text) ≡ false
  form : IsOwnForm at (later_form (said Hash text))

module _ (at : Standing) where
  -- such lines are seen before those that follow
  seen-own : (n : ℕ) (own rest : List Bytes) → AllByRecursion (IsOwnLine at) own
      → seen Hash n (own ++ rest) ≡ numbered Hash n own ++ seen Hash (number_after n own) rest
  seen-own n [] rest all = refl
  seen-own n (text ∷ more) rest all =
      seen-line Hash n text (more ++ rest) (all.0).some
      ∙ ap (λ (ls : List TextLine). text_line Hash n text ∷ ls) (seen-own (n + 1) more rest all.1)

  -- such lines have no fault
  fault-own : (n : ℕ) (own : List Bytes) (rest : List TextLine) (end : ℕ)
      → AllByRecursion (IsOwnLine at) own
      → first_fault (faults_at at (numbered Hash n own ++ rest) end)
      ≡ first_fault (faults_at at rest end)
  fault-own n [] rest end all = refl
  fault-own n (text ∷ more) rest end all =
      (λ i. option_or ((all.0).form.clean n i) (first_fault (faults_from behind route_codes
      ((all.0).form.stays i) (later_forms (numbered Hash (n + 1) more ++ rest)) end)))
      ∙ fault-own (n + 1) more rest end all.1

  -- they begin no net
  nets-own : (n : ℕ) (own : List Bytes) (rest : List TextLine) → AllByRecursion (IsOwnLine at) own
      → nets_of (numbered Hash n own ++ rest) ≡ nets_of rest
  nets-own n [] rest all = refl
  nets-own n (text ∷ more) rest all =
      (all.0).form.rest n (numbered Hash (n + 1) more ++ rest)
      (nets_of (numbered Hash (n + 1) more ++ rest))
      ∙ nets-own (n + 1) more rest all.1

  -- and belong to the net before them
  own-own : (n : ℕ) (own : List Bytes) (rest : List TextLine) → AllByRecursion (IsOwnLine at) own
      → own_lines rest ≡ [] → own_lines (numbered Hash n own ++ rest) ≡ numbered Hash n own
  own-own n [] rest all none = none
  own-own n (text ∷ more) rest all none =
      take_while-cons (λ (l : TextLine). not (begins_net (later_form l.words)))
      (text_line Hash n text) (numbered Hash (n + 1) more ++ rest)
      ∙ (λ i. cond (not ((all.0).form.own i))
      (text_line Hash n text ∷ own_lines (numbered Hash (n + 1) more ++ rest)) [])
      ∙ ap (λ (ls : List TextLine). text_line Hash n text ∷ ls)
      (own-own (n + 1) more rest all.1 none)

-- a decimal is read as its number
reads-number : (n : ℕ) → n < 2 ^ 64 → number_of (decimal n) ≡ n
reads-number n fits = λ i. unwrap_or (whole_number_of-decimal n fits i) 0

-- and passes what its number passes
tests-number : (test : ℕ → Bool) (n : ℕ) → n < 2 ^ 64 → is_number test (decimal n) ≡ test n
tests-number test n fits = λ i. option_map_or test (whole_number_of-decimal n fits i) false

-- a printed element has no fault in an ordinary net
elem-clean : (grid : Size) (nets : ℕ) (e : Elem) → IsPrintableElem grid e → (n : ℕ)
    → later_fault (in_net grid nets false) n (ElemForm (elem_parts e)) ≡ None
elem-clean grid nets e can n =
    λ i. if lacks i then Some (Bad n 403) else if misplaced i then Some (Bad n 406) else None
  where
    small : (m : ℕ) → m < 2 ^ 32 → is_number is_32_bits (decimal m) ≡ true
    small m fits = tests-number is_32_bits m (wide m fits) ∙ lt-ltb m (2 ^ 32) fits

    lacks : lacks_elem (elem_parts e) ≡ false
    lacks = λ i. not (small e.x can.x i && small e.y can.y i && small e.number can.number i)

    misplaced : is_misplaced grid (elem_parts e) ≡ false
    misplaced = tests-number (λ x. is_number (λ y. not (has_place grid e.kind x y)) (decimal e.y))
        e.x (wide e.x can.x)
        ∙ tests-number (λ y. not (has_place grid e.kind e.x y)) e.y (wide e.y can.y)
        ∙ ap not can.sound.place

-- a form that is known is that of the line
own_form : (at : Standing) (text : Bytes) (form : Form) → later_form (said Hash text) ≡ form
    → (OtherLine ≡ form → ⊥) → IsOwnForm at form → IsOwnLine at text
own_form at text form says known own = record {
  some = some_words (said Hash text) form says known;
  form = subst (IsOwnForm at) (sym says) own;
}

-- a printed element is an own line of its net
elem_own : (grid : Size) (nets : ℕ) (e : Elem) → IsPrintableElem grid e
    → IsOwnLine (in_net grid nets false) (elem_text e)
elem_own grid nets e can =
    own_form (in_net grid nets false) (elem_text e) (ElemForm (elem_parts e)) (elem_says grid e can)
    (λ clash. cc) (record {
      own = refl;
      stays = refl;
      clean = elem-clean grid nets e can;
      rest = λ n more all. refl;
    })

-- and a kept line is one of a global net
kept_own : (grid : Size) (nets : ℕ) (raw : Bytes) → IsKeptLine raw
    → IsOwnLine (in_net grid nets true) raw
kept_own grid nets raw can =
    own_form (in_net grid nets true) raw Block can.block (λ clash. cc)
    (record { own = refl; stays = refl; clean = λ n. refl; rest = λ n more all. refl })

-- the lines behind a Net line are own lines of its net
all_own : (grid : Size) (nets : ℕ) (net : RouteNet) (global : Bool) → IsPrintableNet grid net
    → AllByRecursion (IsOwnLine (in_net grid nets global)) (own_texts global net)
all_own grid nets net true can = go net.kept (recursion_from_All IsKeptLine net.kept can.kept)
  where
    go : (raws : List Bytes) → AllByRecursion IsKeptLine raws
        → AllByRecursion (IsOwnLine (in_net grid nets true)) raws
    go [] all = tt
    go (raw ∷ more) all = (kept_own grid nets raw all.0, go more all.1)
all_own grid nets net false can =
    go net.elems (recursion_from_All (IsPrintableElem grid) net.elems can.elems)
  where
    go : (elems : List Elem) → AllByRecursion (IsPrintableElem grid) elems
        → AllByRecursion (IsOwnLine (in_net grid nets false)) (map elem_text elems)
    go [] all = tt
    go (e ∷ more) all = (elem_own grid nets e all.0, go more all.1)

-- what a printed net says
says : (grid : Size) (net : RouteNet) → IsPrintableNet grid net
    → later_form (said Hash (net_text net)) ≡ Net (net_parts net)
says grid net can = net_says net can.k (name-word net.name can.name)

-- the lines of a net that have words
seen-net : (grid : Size) (n : ℕ) (net : RouteNet) (rest : List Bytes) → IsPrintableNet grid net
    → seen Hash n (net_texts net ++ rest)
    ≡ text_line Hash (n + 1) (net_text net)
    ∷ (numbered Hash (n + 1 + 1 + 1) (own_texts net.global net)
    ++ seen Hash (number_after (n + 1 + 1 + 1) (own_texts net.global net) + 1) rest)
seen-net grid n net rest can =
    seen-line Hash (n + 1) (net_text net) ([] ∷ ((own_texts net.global net ++ [] ∷ []) ++ rest))
    (some_words (said Hash (net_text net)) (Net (net_parts net)) (says grid net can) (λ clash. cc))
    ∙ ap (λ (ts : List Bytes). text_line Hash (n + 1) (net_text net) ∷ seen Hash (n + 1 + 1 + 1) ts)
    (append_assoc (own_texts net.global net) ([] ∷ []) rest)
    ∙ ap (λ (ls : List TextLine). text_line Hash (n + 1) (net_text net) ∷ ls)
    (seen-own (in_net grid 0 net.global) (n + 1 + 1 + 1) (own_texts net.global net) ([] ∷ rest)
    (all_own grid 0 net net.global can))

-- its Net line has no fault
net-clean : (at : Standing) (n : ℕ) (net : RouteNet) → IsPrintableNet at.grid net
    → at.nets < NET_LIMIT → later_fault at n (Net (net_parts net)) ≡ None
net-clean at n net can room =
    λ i. if not (tests-number (λ _. true) net.k can.k i) then Some (Bad n 403)
    else option_or (option_map (λ m. Limit 407 m) (if ne_eqb at.nets NET_LIMIT
    (λ e. omega (arith, e, room)) i then Some (at.nets + 1) else None)) None

-- the lines of the nets have no fault
fault-nets : (at : Standing) (n : ℕ) (nets : List RouteNet) (end : ℕ)
    → AllByRecursion (IsPrintableNet at.grid) nets → length nets + at.nets ≤ NET_LIMIT
    → IsFaultless (faults_at at (seen Hash n (flat_map net_texts nets)) end)
fault-nets at n [] end all limit = refl
fault-nets at n (net ∷ more) end all limit =
    let own = own_texts net.global net in
    let rest = seen Hash (number_after (n + 1 + 1 + 1) own + 1) (flat_map net_texts more) in
    let room : at.nets < NET_LIMIT = omega (arith, limit) in
    ap (λ ls. first_fault (faults_at at ls end))
    (seen-net at.grid n net (flat_map net_texts more) all.0)
    ∙ (λ i. option_or (later_fault at (n + 1) (says at.grid net all.0 i))
    (first_fault (faults_from behind route_codes (behind (context_at at) (says at.grid net all.0 i))
    (later_forms (numbered Hash (n + 1 + 1 + 1) own ++ rest)) end)))
    ∙ (λ i. option_or (net-clean at (n + 1) net all.0 room i) (first_fault
    (faults_at (in_net at.grid (at.nets + 1) net.global)
    (numbered Hash (n + 1 + 1 + 1) own ++ rest) end)))
    ∙ fault-own (in_net at.grid (at.nets + 1) net.global) (n + 1 + 1 + 1) own rest end
    (all_own at.grid (at.nets + 1) net net.global all.0)
    ∙ fault-nets (in_net at.grid (at.nets + 1) net.global)
    (number_after (n + 1 + 1 + 1) own + 1) more
    end all.1 (omega (arith, limit))

-- the nets begin with a Net line
own-none : (grid : Size) (n : ℕ) (nets : List RouteNet) → AllByRecursion (IsPrintableNet grid) nets
    → own_lines (seen Hash n (flat_map net_texts nets)) ≡ []
own-none grid n [] all = refl
own-none grid n (net ∷ more) all =
    let own = own_texts net.global net in
    let rest = numbered Hash (n + 1 + 1 + 1) own
    ++ seen Hash (number_after (n + 1 + 1 + 1) own + 1) (flat_map net_texts more) in
    ap own_lines (seen-net grid n net (flat_map net_texts more) all.0)
    ∙ take_while-cons (λ (l : TextLine). not (begins_net (later_form l.words)))
    (text_line Hash (n + 1) (net_text net)) rest
    ∙ (λ i. cond (not (begins_net (says grid net all.0 i)))
    (text_line Hash (n + 1) (net_text net) ∷ own_lines rest) [])

-- element lines read as the elements
elems-read : (grid : Size) (m : ℕ) (elems : List Elem) → AllByRecursion (IsPrintableElem grid) elems
    → map elem_without_line (elems_of (numbered Hash m (map elem_text elems)))
    ≡ map elem_without_line elems
elems-read grid m [] all = refl
elems-read grid m (e ∷ more) all =
    (λ i. map elem_without_line (cons_option (form_elem m (elem_says grid e all.0 i))
    (elems_of (numbered Hash (m + 1) (map elem_text more)))))
    ∙ (λ i. record {
      kind = e.kind;
      x = reads-number e.x (wide e.x (all.0).x) i;
      y = reads-number e.y (wide e.y (all.0).y) i;
      label = e.label;
      number = reads-number e.number (wide e.number (all.0).number) i;
      line = 0;
    } ∷ elems-read grid (m + 1) more all.1 i)

-- and none of them is kept
elems-kept : (grid : Size) (m : ℕ) (elems : List Elem) → AllByRecursion (IsPrintableElem grid) elems
    → kept_of (numbered Hash m (map elem_text elems)) ≡ []
elems-kept grid m [] all = refl
elems-kept grid m (e ∷ more) all =
    (λ i. cons_option (form_kept (elem_text e) (elem_says grid e all.0 i))
    (kept_of (numbered Hash (m + 1) (map elem_text more))))
    ∙ elems-kept grid (m + 1) more all.1

-- kept lines are kept
kept-read : (m : ℕ) (raws : List Bytes) → AllByRecursion IsKeptLine raws
    → kept_of (numbered Hash m raws) ≡ raws
kept-read m [] all = refl
kept-read m (raw ∷ more) all =
    (λ i. cons_option (form_kept raw ((all.0).block i)) (kept_of (numbered Hash (m + 1) more)))
    ∙ ap (λ (rs : List Bytes). raw ∷ rs) (kept-read (m + 1) more all.1)

-- and none of them is an element
kept-elems : (m : ℕ) (raws : List Bytes) → AllByRecursion IsKeptLine raws
    → elems_of (numbered Hash m raws) ≡ []
kept-elems m [] all = refl
kept-elems m (raw ∷ more) all =
    (λ i. cons_option (form_elem m ((all.0).block i)) (elems_of (numbered Hash (m + 1) more)))
    ∙ kept-elems (m + 1) more all.1

-- the own lines of a net read as its elements
own-elems : (grid : Size) (m : ℕ) (net : RouteNet) (global : Bool) → net.global ≡ global
    → IsPrintableNet grid net
    → map elem_without_line (elems_of (numbered Hash m (own_texts global net)))
    ≡ map elem_without_line net.elems
own-elems grid m net true is can =
    ap (map elem_without_line) (kept-elems m net.kept
    (recursion_from_All IsKeptLine net.kept can.kept) ∙ sym (can.no_elems is))
own-elems grid m net false is can =
    elems-read grid m net.elems (recursion_from_All (IsPrintableElem grid) net.elems can.elems)

-- and as its kept lines
own-kept : (grid : Size) (m : ℕ) (net : RouteNet) (global : Bool) → net.global ≡ global
    → IsPrintableNet grid net → kept_of (numbered Hash m (own_texts global net)) ≡ net.kept
own-kept grid m net true is can =
    kept-read m net.kept (recursion_from_All IsKeptLine net.kept can.kept)
own-kept grid m net false is can =
    elems-kept grid m net.elems (recursion_from_All (IsPrintableElem grid) net.elems can.elems)
    ∙ sym (can.no_kept is)

-- the lines of the nets read as the nets
nets-read : (grid : Size) (n : ℕ) (nets : List RouteNet) → AllByRecursion (IsPrintableNet grid) nets
    → map net_without_lines (nets_of (seen Hash n (flat_map net_texts nets)))
    ≡ map net_without_lines nets
nets-read grid n [] all = refl
nets-read grid n (net ∷ more) all =
    let own = own_texts net.global net in
    let m = number_after (n + 1 + 1 + 1) own + 1 in
    let rest = seen Hash m (flat_map net_texts more) in
    let lines = all_own grid 0 net net.global all.0 in
    ap (λ (ls : List TextLine). map net_without_lines (nets_of ls))
    (seen-net grid n net (flat_map net_texts more) all.0)
    ∙ (λ i. map net_without_lines (with_net (says grid net all.0 i) (n + 1)
    (numbered Hash (n + 1 + 1 + 1) own ++ rest)
    (nets_of (numbered Hash (n + 1 + 1 + 1) own ++ rest))))
    ∙ (λ i. net_without_lines (net_of (net_parts net) (n + 1)
    (own-own (in_net grid 0 net.global) (n + 1 + 1 + 1) own rest lines
    (own-none grid m more all.1) i))
    ∷ map net_without_lines (nets-own (in_net grid 0 net.global) (n + 1 + 1 + 1) own rest lines i))
    ∙ (λ i. record {
      k = reads-number net.k (all.0).k i;
      name = net.name;
      global = net.global;
      line = 0;
      elems = own-elems grid (n + 1 + 1 + 1) net net.global refl all.0 i;
      kept = own-kept grid (n + 1 + 1 + 1) net net.global refl all.0 i;
    } ∷ nets-read grid m more all.1 i)

module _ (grid : Size) (size : AreLimited grid.nx grid.ny) where
  nx : grid.nx < 2 ^ 64
  nx = limited grid.nx size.nx_below

  ny : grid.ny < 2 ^ 64
  ny = limited grid.ny size.ny_below

  -- the size that the printed array line says
  head-size : said_grid (array_form (said Hash (head_text grid))) ≡ Some grid
  head-size = (λ i. said_grid (head_says grid size i))
      ∙ (λ i. option_and_then (λ x. option_map (λ y. record { nx = x; ny = y })
      (whole_number_of-decimal grid.ny ny i)) (whole_number_of-decimal grid.nx nx i))

  -- it has no fault
  head-clean : array_fault 1 (array_form (said Hash (head_text grid))) ≡ None
  head-clean = (λ i. array_fault 1 (head_says grid size i))
      ∙ (λ i. if not (positive grid.nx nx size.nx_above i && positive grid.ny ny size.ny_above i)
      then Some (Bad 1 403)
      else option_or (option_map (λ n. Limit 407 n) (if small grid.nx nx size.nx_below i
      then whole_number_of (decimal grid.nx) else if small grid.ny ny size.ny_below i
      then whole_number_of (decimal grid.ny) else None)) None)
    where
      positive : (n : ℕ) → n < 2 ^ 64 → 1 ≤ n → is_number (nat_lt 0) (decimal n) ≡ true
      positive n fits above = tests-number (nat_lt 0) n fits ∙ lt-ltb 0 n above

      small : (n : ℕ) → n < 2 ^ 64 → n ≤ SIDE_LIMIT → is_number (nat_lt SIDE_LIMIT) (decimal n)
          ≡ false
      small n fits below = tests-number (nat_lt SIDE_LIMIT) n fits ∙ le-ltb SIDE_LIMIT n below

-- the first lines of a printed route, and those of its nets
abbrev printed_array : Size → TextLine
printed_array grid = text_line Hash 1 (head_text grid)

abbrev printed_routing : TextLine
printed_routing = text_line Hash 3 (codes "Routing:")

abbrev printed_rest : List RouteNet → List TextLine
printed_rest nets = seen Hash 4 (flat_map net_texts nets)

-- an array line has words
some_head : (words : Words) (grid : Size) → said_grid (array_form words) ≡ Some grid
    → is_empty words ≡ false
some_head [] grid says = absurd (let clash : None ≡ Some grid = says in cc)
some_head (first ∷ more) grid says = refl

-- the lines of a printed route that have words
printed-seen : (route : RouteText) → IsPrintable route → text_lines Hash (printed route)
    ≡ printed_array route.grid ∷ printed_routing ∷ printed_rest route.nets
printed-seen route can = ap (seen Hash 1) (lines-printed route can)
    ∙ seen-line Hash 1 (head_text route.grid)
    ([] ∷ codes "Routing:" ∷ flat_map net_texts route.nets)
    (some_head (said Hash (head_text route.grid)) route.grid (head-size route.grid can.size))

-- they have no fault
printed-clean : (route : RouteText) (count : ℕ) → IsPrintable route → IsFaultless
    (lines_faults (printed_array route.grid ∷ printed_routing ∷ printed_rest route.nets) count)
printed-clean route count can =
    ap first_fault (by_context
    (printed_array route.grid ∷ printed_routing ∷ printed_rest route.nets) count)
    ∙ (λ i. option_or (head-clean route.grid can.size i)
    (first_fault (faults_from behind route_codes
    (behind START (head_says route.grid can.size i))
    ((3, Routing) ∷ later_forms (printed_rest route.nets)) (count + 1))))
    ∙ (λ i. first_fault (faults_from behind route_codes
    (record START { grid = size_said i; in_body = true })
    (later_forms (printed_rest route.nets)) (count + 1)))
    ∙ fault-nets (record { grid = route.grid; nets = 0; in_global = None }) 4 route.nets (count + 1)
    (recursion_from_All (IsPrintableNet route.grid) route.nets can.nets) (omega (arith, can.limit))
  where
    size_said : said_grid (Array (head_parts route.grid)) ≡ Some route.grid
    size_said = (λ i. said_grid (sym (head_says route.grid can.size) i))
        ∙ head-size route.grid can.size

-- they read as the route
printed-same : (route : RouteText) (count : ℕ) → IsPrintable route → without_lines
    (value_of (printed_array route.grid ∷ printed_routing ∷ printed_rest route.nets) count)
    ≡ without_lines route
printed-same route count can = λ i. record {
  grid = unwrap_or (head-size route.grid can.size i) (record { nx = 0; ny = 0 });
  grid_line = 0;
  lines = 0;
  nets = nets-read route.grid 4 route.nets
      (recursion_from_All (IsPrintableNet route.grid) route.nets can.nets) i;
}

-- a route that can be printed reads back
pub reads_back : (route : RouteText) → IsPrintable route → ReadsBack route
reads_back route can =
    let count = line_count (printed route) in
    let lines = printed-seen route can in (
      route_value (printed route),
      (
        ap (λ (ls : List TextLine). first_fault (lines_faults ls count)) lines
            ∙ printed-clean route count can,
        refl,
      ),
      ap (λ (ls : List TextLine). without_lines (value_of ls count)) lines
          ∙ printed-same route count can,
    )
