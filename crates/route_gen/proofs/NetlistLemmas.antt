-- A generated netlist has no fault, and reads as the netlist of its blocks.
use Rattle.std.proofs.Common.{rules, ◌≡◌, ◌⊎◌, ℕ, zero, suc, ◌+◌, ◌*◌, ◌<◌, ◌≤◌, ◌^◌, Bool, true, false, cond, Option, Some, None, List, [], ◌∷◌, ◌++◌, length, refl, sym, ap, subst, ◌∙◌, inl, inr, arith, get_or, zero-add, length-append}
use Rattle.std.specs.Prelude.{All, bytes_eq, filter, filter_map, flat_map, fold, if◌then◌else◌, map, nat_lt, not, ◌&&◌, ◌==◌, option_map, option_to_list, slice_get}
use Rattle.std.specs.List.{list_any, range_with_len}
use Rattle.std.specs.Option.{option_or}
use Rattle.std.proofs.lemmas.Bool.{le-ltb, lt-ltb, ne_eqb}
use Rattle.std.proofs.lemmas.List.{length-map, map-id}
use Rattle.std.proofs.lemmas.List.Folds.{list_any_none}
use Rattle.std.proofs.lemmas.Simd.{map-map}
use Rattle.std.proofs.lemmas.Slice.Eq.{bytes_eq-Decides}
use Rattle.std.proofs.lemmas.List.FromFn.{length-map-range_with_len, map-range_with_len_more}
use Rattle.std.proofs.lemmas.Option.{slice_get_within}
use Rattle.fpga_types.specs.declared.limits.TheConstants.{NET_LIMIT, SIDE_LIMIT}
use Rattle.fpga_types.specs.declared.netlist.BlockKind.TheVariants.{Logic}
use Rattle.fpga_types.specs.declared.netlist.Net.{Net}
use Rattle.fpga_types.specs.declared.netlist.Netlist.{Netlist}
use Rattle.fpga_text.specs.declared.fault.TextFault.TheVariants.{Bad, Limit}
use Rattle.fpga_text.specs.declared.style.Style.TheVariants.{Joined}
use Rattle.fpga_text.specs.Bytes.{Bytes, is_empty}
use Rattle.fpga_text.specs.Codes.{Codes, end_fault, faults_from, line_fault}
use Rattle.fpga_text.specs.FirstFault.{first_fault}
use Rattle.fpga_text.specs.Words.{TextLine, line_count, text_lines}
use Rattle.fpga_text.proofs.PrintedLines.{numbered}
use Rattle.fpga_net.specs.Codes.{Context, before_all, behind, drives_again, forms_of, globals_of, has_pair, is_driven_twice, lines_faults, net_codes, net_count, numbered_forms, share_class, takes_ordinary}
use Rattle.fpga_net.specs.Forms.{Form, Begins, Pinlist, globals_in}
use Rattle.fpga_net.specs.Names.{AreApart, first_seen}
use Rattle.fpga_net.specs.Uses.{Use, block_uses, drivers, nets_of, on_net, uses_of}
use Rattle.fpga_net.specs.Uses.{sinks as ends_of}
use Rattle.fpga_net.specs.Value.{ReadsNet, block_of, net_of, net_on, netlist_before}
use Rattle.fpga_net.specs.Value.{netlist_of as value_of}
use Rattle.fpga_net.proofs.LineLemmas.{by_context}
use Rattle.fpga_net.proofs.NameLemmas.{first_seen-apart, has_text-first_seen}
use Rattle.list_laws.proofs.Members.{In, In-filter_map, In-flat_map, In-list_any, In-map, In-range, all-from_In, contains-In, from_In-filter, from_In-filter_map, from_In-flat_map, from_In-map, list_any-from_In}
use Rattle.list_laws.proofs.Places.{get-there, some_is}
use Rattle.route_gen.specs.Draws.{input_table, nets_into, sinks_of}
use Rattle.route_gen.specs.Laws.{HasBlocks, HasNets, IsDrawn, architecture_of_all, bottom_pin, drawn_net, input_at, netlist_of_all, netlist_to, pin_words}
use Rattle.route_gen.specs.Netlists.{block_name, generated_netlist, net_name, netlist_of}
use Rattle.route_gen.specs.declared.draws.Sink.{Sink}
use Rattle.route_gen.specs.declared.draws.TheConstants.{INPUT_COUNT}
use Rattle.route_gen.specs.declared.trace.TheConstants.{INPUT_CLASS, OUTPUT_CLASS, OUTPUT_PIN}
use Rattle.route_gen.proofs.DrawLemmas.{IsInput, drawing-length, sinks-inputs}
use Rattle.route_gen.proofs.InputLemmas.{AreTaken, sinks-taken}
use Rattle.route_gen.proofs.NameLemmas.{any-none, name-other, net-other, net-same}
use Rattle.route_gen.proofs.NetlistTextLemmas.{AreSmall, begin-says, netlist-seen, pins-says, texts_from}
use Rattle.route_gen.proofs.PinLemmas.{EndsAt, StartsAt, driver-one, is-use, listed, pin_spec, row, row-is, rows, rows-are, sink-one, use_at, use_on}
use Rattle.route_gen.proofs.PlaceLemmas.{square}
use Rattle.route_gen.proofs.RangeLemmas.{made-more}
use Rattle.route_gen.proofs.RowLemmas.{any-made, enumerate-made}

-- names that are seen are no more than there are
seen-count : (names : List Bytes) → length (first_seen names) ≤ length names
seen-count [] = omega arith
seen-count (name ∷ names) =
    let rest = seen-count names in
    let kept = filter-count (λ other. not (bytes_eq other name)) (first_seen names) in
    omega arith
  where
    filter-count : {T : Type 0} (p : T → Bool) (xs : List T) → length (filter p xs) ≤ length xs
    filter-count p [] = omega arith
    filter-count {T} p (x ∷ xs) = go (p x) (filter-count p xs)
      where
        go : (b : Bool) → length (filter p xs) ≤ length xs →
            length (cond b (x ∷ filter p xs) (filter p xs)) ≤ length (x ∷ xs)
        go true rest = omega arith
        go false rest = omega arith

-- and each is one of them
seen-in : (names : List Bytes) (name : Bytes) → In (first_seen names) name → In names name
seen-in [] name i = absurd i
seen-in (first ∷ names) name i = elim i [
  | inl same ↦ inl same
  | inr more ↦ inr (seen-in names name
      (from_In-filter (λ other. not (bytes_eq other first)) (first_seen names) name more).0)
]

-- what is made of so many numbers
made-count : {T : Type 0} (f : ℕ → Option T) (a n : ℕ) →
    length (filter_map f (range_with_len a n)) ≤ n
made-count f a zero = omega arith
made-count {T} f a (suc n) = grind (arith, (made-count f (a + 1) n))

-- no two things that are made are related
pair-made : {T : Type 0} (related : T → T → Bool) (f : ℕ → Option T) (a n : ℕ) →
    ((j k : ℕ) (x y : T) → j < k → k < a + n → f j ≡ Some x → f k ≡ Some y →
    related x y ≡ false) →
    has_pair related (filter_map f (range_with_len a n)) ≡ false
pair-made related f a zero apart = refl
pair-made {T} related f a (suc n) apart =
    grind (
      arith,
      any-made,
      (pair-made related f (a + 1) n (λ j k x y less under. apart j k x y less
          (omega arith))),
    )

-- no net is global
abbrev none_global : Bytes → Bool
none_global name = false

-- a net has no pin of those that are looked for
abbrev some_lacks : (List Use → List Use) → List Use → Bool
some_lacks sought uses =
    list_any (λ name. true && is_empty (on_net name (sought uses))) (nets_of uses)

-- where a net ends
record EndsIn (side : ℕ) (sinks : List Sink) (net : ℕ) : Type 0 where
  sink : Sink
  there : slice_get sinks net ≡ Some sink
  block : sink.block < side * side
  pin : sink.pin < INPUT_COUNT

-- the netlist is that of its blocks by number
blocks-are : (nets : ℕ) (sinks : List Sink) (side : ℕ) → netlist_to nets (input_table side sinks)
    ≡ value_of architecture_of_all none_global
    (map (listed nets sinks) (range_with_len 0 (side * side)))
blocks-are nets sinks side = grind (arith, enumerate-made, map-map)

module _ (nets : ℕ) (sinks : List Sink) (taken : AreTaken sinks) (count : length sinks ≡ nets)
    (few : nets ≤ 10000) where
  -- the pins of some blocks
  rows-count : (blocks : ℕ) → length (rows nets sinks blocks) ≤ 5 * blocks
  rows-count blocks = go 0 blocks
    where
      go : (a n : ℕ) → length (flat_map (row nets sinks) (range_with_len a n)) ≤ 5 * n
      go a zero = omega arith
      go a (suc n) =
          let here = made-count (use_at nets sinks a) 0 5 in
          let rest = go (a + 1) n in
          let both = length-append (row nets sinks a)
          (flat_map (row nets sinks) (range_with_len (a + 1) n)) in
          omega (arith, here, rest, both)

  -- no net has a second driver
  drives-once : (block : ℕ) →
      drives_again none_global (rows nets sinks (block + 1)) (row nets sinks block) ≡ false
  drives-once block = any-made
      (λ u. u.pin.output && is_driven_twice (rows nets sinks (block + 1)) u.net && true)
      (use_at nets sinks block) 0 5 (λ pin u low high there. one pin u there)
    where
      one : (pin : ℕ) (u : Use) → use_at nets sinks block pin ≡ Some u →
          (u.pin.output && is_driven_twice (rows nets sinks (block + 1)) u.net && true) ≡ false
      one pin u there =
          let r = is-use nets sinks taken count block pin u there in
          ap (λ (v : Use). v.pin.output && is_driven_twice (rows nets sinks (block + 1)) v.net
          && true) r.is
          ∙ elim r.why [
            | inl ends ↦ input-off pin ends.input
                (is_driven_twice (rows nets sinks (block + 1)) (net_name r.net))
            | inr starts ↦
                off (use_on block pin r.net).pin.output
                (ap (λ (us : List Use). nat_lt 1 (length us))
                (driver-one nets sinks taken count few r.net (block + 1) r.below
                (let own = starts.own in omega arith)))
          ]
        where
          off : (a : Bool) {b : Bool} → b ≡ false → (a && b && true) ≡ false
          off true h = ap (λ (c : Bool). c && true) h
          off false h = refl

          input-off : (pin : ℕ) → pin < INPUT_COUNT → (b : Bool) →
              ((use_on block pin 0).pin.output && b && true) ≡ false
          input-off pin below b = ap (λ (c : Bool). c && b && true)
              (λ i. (if lt-ltb pin INPUT_COUNT below i then bottom_pin INPUT_CLASS false
              else bottom_pin OUTPUT_CLASS true).output)

  -- no pin is for global nets
  pins-ordinary : (block : ℕ) → takes_ordinary none_global (row nets sinks block) ≡ false
  pins-ordinary block = grind (arith, any-made, use_at, is-use, pin_spec)

  -- no net is on two pins of one class
  class-once : (block : ℕ) → has_pair (share_class none_global) (row nets sinks block) ≡ false
  class-once block =
      pair-made (share_class none_global) (use_at nets sinks block) 0 5 apart
    where
      apart : (j k : ℕ) (x y : Use) → j < k → k < 0 + 5 → use_at nets sinks block j ≡ Some x →
          use_at nets sinks block k ≡ Some y → share_class none_global x y ≡ false
      apart j k x y less under first second =
          let r = is-use nets sinks taken count block j x first in
          let s = is-use nets sinks taken count block k y second in
          (λ i. share_class none_global (r.is i) (s.is i))
          ∙ names-apart r.net s.net (let below = r.below in omega arith)
          (let below = s.below in omega arith) r.why s.why
        where
          off : (a b : Bool) → b ≡ false → (a && b && true) ≡ false
          off true b h = ap (λ (c : Bool). c && true) h
          off false b h = refl

          names-apart : (m n : ℕ) → m < 2 ^ 64 → n < 2 ^ 64 →
              EndsAt nets sinks block j m ⊎ StartsAt nets sinks block j m →
              EndsAt nets sinks block k n ⊎ StartsAt nets sinks block k n →
              share_class none_global (use_on block j m) (use_on block k n) ≡ false
          names-apart m n m_fits n_fits (inl ends) (inl other) =
              off ((pin_spec j).class == (pin_spec k).class) (bytes_eq (net_name m) (net_name n))
              (net-other m n m_fits n_fits (λ same.
              let one : Some (record { block = block; pin = j })
              ≡ Some (record { block = block; pin = k })
              = sym ends.there ∙ ap (slice_get sinks) same ∙ other.there in
              let at : j ≡ k = ap (λ (t : Sink). t.pin) (some_is one) in omega (arith, at, less)))
          names-apart m n m_fits n_fits (inl ends) (inr starts) =
              (λ i. (if lt-ltb j INPUT_COUNT ends.input i then bottom_pin INPUT_CLASS false
              else bottom_pin OUTPUT_CLASS true).class
              == (if le-ltb k INPUT_COUNT starts.output i then bottom_pin INPUT_CLASS false
              else bottom_pin OUTPUT_CLASS true).class
              && bytes_eq (net_name m) (net_name n) && true)
          names-apart m n m_fits n_fits (inr starts) (inl ends) =
              absurd (let a = starts.output in let b = ends.input in omega arith)
          names-apart m n m_fits n_fits (inr starts) (inr other) =
              absurd (let a = starts.output in let b = other.output in omega arith)

  -- there are few nets
  nets-few : (blocks : ℕ) → blocks ≤ 10000 →
      nat_lt NET_LIMIT (net_count (rows nets sinks blocks)) ≡ false
  nets-few blocks within =
      let uses = rows nets sinks blocks in
      let most = seen-count (map (λ (u : Use). u.net) uses) in
      let same : length (map (λ (u : Use). u.net) uses) ≡ length uses
      = length-map uses (λ (u : Use). u.net) in
      let pins = rows-count blocks in
      le-ltb NET_LIMIT (net_count uses) (omega (arith, most, same, pins))

  -- the name is that of a net
  record IsNamed (name : Bytes) : Type 0 where
    net : ℕ
    below : net < nets
    is : name ≡ net_name net

  use-named : (name : Bytes) (block pin : ℕ) (u : Use) → u.net ≡ name →
      use_at nets sinks block pin ≡ Some u → IsNamed name
  use-named name block pin u named there =
      let r = is-use nets sinks taken count block pin u there in
      record {
        net = r.net;
        below = r.below;
        is = sym named ∙ ap (λ (v : Use). v.net) r.is;
      }

  -- each name on a pin is
  named : (blocks : ℕ) (name : Bytes) → In (nets_of (rows nets sinks blocks)) name → IsNamed name
  named blocks name i =
      let on = from_In-map (λ (u : Use). u.net) (rows nets sinks blocks) name
      (seen-in (map (λ (u : Use). u.net) (rows nets sinks blocks)) name i) in
      let rowed = from_In-flat_map (row nets sinks) (range_with_len 0 blocks) on.0 on.1 in
      let made = from_In-filter_map (use_at nets sinks rowed.0) (range_with_len 0 5) on.0
      rowed.2 in
      use-named name rowed.0 made.0 on.0 on.2 made.2

  module _ (side : ℕ) (within : nets ≤ side * side) (limit : side * side ≤ 10000)
      (inputs : All (IsInput side) sinks) where
    -- where a net ends
    end-there : (net : ℕ) → net < nets → EndsIn side sinks net
    end-there net below =
        let none : Sink = record { block = 0; pin = 0 } in
        let input = inputs net none (omega arith) in
        record {
          sink = get_or sinks net none;
          there = get-there sinks net (get_or sinks net none) none (omega arith) refl;
          block = input.block;
          pin = input.pin;
        }

    -- no net lacks a pin of either kind
    lacks-none : (sought : List Use → List Use) →
        ((net : ℕ) → net < nets → is_empty (on_net (net_name net)
        (sought (rows nets sinks (side * side)))) ≡ false) →
        some_lacks sought (rows nets sinks (side * side)) ≡ false
    lacks-none sought there =
        let uses = rows nets sinks (side * side) in
        list_any_none (λ name. true && is_empty (on_net name (sought uses))) (nets_of uses)
        (all-from_In (λ name. (true && is_empty (on_net name (sought uses))) ≡ false)
        (nets_of uses) (λ name i. let p = named (side * side) name i in
        ap (λ (n : Bytes). is_empty (on_net n (sought uses))) p.is ∙ there p.net p.below))

    driven-all : some_lacks drivers (rows nets sinks (side * side)) ≡ false
    driven-all = grind (arith, lacks-none, driver-one)

    ended-all : some_lacks ends_of (rows nets sinks (side * side)) ≡ false
    ended-all = lacks-none ends_of (λ net below. let e = end-there net below in ap is_empty
        (sink-one nets sinks taken count few net (side * side) e.sink e.there e.block e.pin))

    -- behind the lines of the first blocks
    abbrev after : (logic : Bool) (block : ℕ) → Context
    after logic block = record {
      arch = architecture_of_all;
      globals = [];
      begun = None;
      in_logic = logic;
      names = map block_name (range_with_len 0 block);
      blocks = map (listed nets sinks) (range_with_len 0 block);
    }

    abbrev begin_form : (block : ℕ) → Form
    begin_form block = Begins Logic (block_name block ∷ [])

    abbrev pins_form : (block : ℕ) → Form
    pins_form block = Pinlist (pin_words nets (block, nets_into sinks block))

    abbrev opened : (logic : Bool) (block : ℕ) → Context
    opened logic block = behind (after logic block) (begin_form block)

    abbrev codes_here : Codes Context Form
    codes_here = net_codes architecture_of_all []

    step : (logic : Bool) (block : ℕ) →
        behind (opened logic block) (pins_form block) ≡ after true (block + 1)
    step logic block =
        let names = map-range_with_len_more block_name 0 block block (zero-add block) in
        let blocks = map-range_with_len_more (listed nets sinks) 0 block block (zero-add block) in
        λ i. record {
          arch = architecture_of_all;
          globals = [];
          begun = None;
          in_logic = true;
          names = sym names i;
          blocks = sym blocks i;
        }

    -- the first line of a block has no fault
    begin-clean : (logic : Bool) (block number : ℕ) → block < side * side →
        line_fault codes_here (after logic block) number (begin_form block) ≡ None
    begin-clean logic block number below =
        grind (arith, any-none, name-other, length-map-range_with_len, ne_eqb)

    -- the nets of its pinlist
    own-is : (block : ℕ) → block_uses architecture_of_all
        (length (map (listed nets sinks) (range_with_len 0 block))) (listed nets sinks block)
        ≡ row nets sinks block
    own-is block = grind (arith, listed, length-map-range_with_len, row-is)

    all-are : (block : ℕ) →
        uses_of architecture_of_all (map (listed nets sinks) (range_with_len 0 block))
        ++ block_uses architecture_of_all
        (length (map (listed nets sinks) (range_with_len 0 block))) (listed nets sinks block)
        ≡ rows nets sinks (block + 1)
    all-are block = grind (arith, rows-are, own-is, made-more, row)

    -- its pinlist has no fault
    pins-clean : (logic : Bool) (block number : ℕ) → block < side * side →
        line_fault codes_here (opened logic block) number (pins_form block) ≡ None
    pins-clean logic block number below =
        let own = own-is block in
        let all = all-are block in
        let once = drives-once block in
        let ordinary = pins-ordinary block in
        let class = class-once block in
        let few_nets = nets-few (block + 1) (omega arith) in
        (λ i. if drives_again none_global (all i) (own i) then Some (Bad number 204)
        else if takes_ordinary none_global (own i) then Some (Bad number 206)
        else if has_pair (share_class none_global) (own i) then Some (Bad number 207)
        else option_or (option_map (λ n. Limit 209 n)
        (if nat_lt NET_LIMIT (net_count (all i)) then Some (NET_LIMIT + 1) else None)) None)
        ∙ (λ i. if once i then Some (Bad number 204) else if ordinary i then Some (Bad number 206)
        else if class i then Some (Bad number 207) else option_or (option_map (λ n. Limit 209 n)
        (if few_nets i then Some (NET_LIMIT + 1) else None)) None)

    -- the end has no fault
    end-clean : (logic : Bool) (end : ℕ) →
        end_fault codes_here (after logic (side * side)) end ≡ None
    end-clean logic end = search (rules, rows-are, driven-all, ended-all)

    small : AreSmall nets sinks
    small = record {
      limit = omega arith;
      ends = λ block pin net is.
          let below = slice_get_within sinks net (record { block = block; pin = pin })
          (taken.ends block pin net is) in omega arith;
    }

    -- the lines of the blocks from one on
    abbrev lines_from : (number block blocks : ℕ) → List TextLine
    lines_from number block blocks = numbered Joined number (texts_from nets sinks block blocks)

    -- they have no fault
    blocks-clean : (logic : Bool) (block blocks number end : ℕ) → block + blocks ≡ side * side →
        first_fault (faults_from behind codes_here (after logic block)
        (numbered_forms (lines_from number block blocks)) end) ≡ None
    blocks-clean logic block zero number end is =
        let last : block ≡ side * side = omega (arith, is) in
        ap (λ (n : ℕ). first_fault (end_fault codes_here (after logic n) end ∷ [])) last
        ∙ (λ i. option_or (end-clean logic end i) None)
    blocks-clean logic block (suc blocks) number end is =
        let more = numbered_forms (lines_from (number + 1 + 1) (block + 1) blocks) in
        let begin = begin-says nets sinks small block (omega (arith, is)) in
        let pins = pins-says nets sinks small block in
        let first = begin-clean logic block number (omega (arith, is)) in
        let second = pins-clean logic block (number + 1) (omega (arith, is)) in
        (λ i. first_fault (line_fault codes_here (after logic block) number (begin i)
        ∷ line_fault codes_here (behind (after logic block) (begin i)) (number + 1) (pins i)
        ∷ faults_from behind codes_here (behind (behind (after logic block) (begin i)) (pins i))
        more end))
        ∙ (λ i. option_or (first i) (option_or (second i) (first_fault
        (faults_from behind codes_here (step logic block i) more end))))
        ∙ blocks-clean true (block + 1) blocks (number + 1 + 1) end (omega (arith, is))

    -- they make no net global
    no-globals : (block blocks number : ℕ) → block + blocks ≤ side * side →
        globals_in (forms_of (lines_from number block blocks)) ≡ []
    no-globals block zero number below = refl
    no-globals block (suc blocks) number below =
        grind (
          arith,
          begin-says,
          small,
          pins-says,
          (no-globals (block + 1) blocks (number + 1 + 1)
              (omega arith)),
        )

    -- what they say
    blocks-value : (logic : Bool) (block blocks number : ℕ) → block + blocks ≡ side * side →
        netlist_before (fold behind (after logic block)
        (forms_of (lines_from number block blocks)))
        ≡ value_of architecture_of_all none_global
        (map (listed nets sinks) (range_with_len 0 (side * side)))
    blocks-value logic block zero number is = grind (arith, listed)
    blocks-value logic block (suc blocks) number is =
        let more = forms_of (lines_from (number + 1 + 1) (block + 1) blocks) in
        let begin = begin-says nets sinks small block (omega (arith, is)) in
        let pins = pins-says nets sinks small block in
        (λ i. netlist_before (fold behind (behind (behind (after logic block) (begin i)) (pins i))
        more))
        ∙ (λ i. netlist_before (fold behind (step logic block i) more))
        ∙ blocks-value true (block + 1) blocks (number + 1 + 1) (omega (arith, is))

    abbrev text : Bytes
    text = netlist_of nets (input_table side sinks)

    -- the text reads as its netlist
    pub text-reads : ReadsNet architecture_of_all text (netlist_to nets (input_table side sinks))
    text-reads = (
      ap (λ (ls : List TextLine). first_fault (lines_faults architecture_of_all ls
          (line_count text))) seen_lines
          ∙ ap first_fault (by_context architecture_of_all all_lines (line_count text))
          ∙ (λ i. first_fault (faults_from behind (net_codes architecture_of_all (none i))
          (before_all architecture_of_all (none i)) (numbered_forms all_lines)
          (line_count text + 1)))
          ∙ blocks-clean false 0 (side * side) 1 (line_count text + 1) (zero-add (side * side)),
      blocks-are nets sinks side ∙ sym (
          ap (λ (ls : List TextLine). netlist_before (fold behind
          (before_all architecture_of_all (globals_of ls)) (forms_of ls))) seen_lines
          ∙ (λ i. netlist_before (fold behind (before_all architecture_of_all (none i))
          (forms_of all_lines)))
          ∙ blocks-value false 0 (side * side) 1 (zero-add (side * side))
          ),
    )
      where
        all_lines : List TextLine
        all_lines = lines_from 1 0 (side * side)

        seen_lines : text_lines Joined text ≡ all_lines
        seen_lines = netlist-seen nets sinks small (side * side) (omega arith)

        none : globals_of all_lines ≡ []
        none = ap first_seen (no-globals 0 (side * side) 1 (omega arith))

    -- a net of the netlist
    abbrev value : Bytes → Net
    value name = net_of none_global (rows nets sinks (side * side)) name

    net-value : (net : ℕ) → net < nets → value (net_name net) ≡ drawn_net sinks net
    net-value net below =
        let e = end-there net below in
        let start = driver-one nets sinks taken count few net (side * side) below (omega arith) in
        let end = sink-one nets sinks taken count few net (side * side) e.sink e.there e.block
        e.pin in
        (λ i. record {
          name = net_name net;
          global = false;
          driver = option_map (λ (u : Use). u.at) (slice_get (start i) 0);
          sinks = map (λ (u : Use). u.at) (end i);
        })
        ∙ (λ i. record {
          name = net_name net;
          global = false;
          driver = Some (record { block = net; pin = OUTPUT_PIN });
          sinks = map input_at (option_to_list (sym e.there i));
        })

    -- each net has a pin
    net-in : (net : ℕ) → net < nets → In (nets_of (rows nets sinks (side * side))) (net_name net)
    net-in net below =
        let uses = rows nets sinks (side * side) in
        let names = map (λ (u : Use). u.net) uses in
        let there : use_at nets sinks net OUTPUT_PIN ≡ Some (use_on net OUTPUT_PIN net)
        = grind (arith, use_on, lt-ltb) in
        let used : In names (net_name net) = In-map (λ (u : Use). u.net) uses
        (use_on net OUTPUT_PIN net) (In-flat_map (row nets sinks)
        (range_with_len 0 (side * side)) net (use_on net OUTPUT_PIN net)
        (In-range 0 (side * side) net (omega arith) (omega arith))
        (In-filter_map (use_at nets sinks net) (range_with_len 0 5) OUTPUT_PIN
        (use_on net OUTPUT_PIN net) (In-range 0 5 OUTPUT_PIN (omega arith) (omega arith))
        there)) in
        let found = In-list_any (λ other. bytes_eq other (net_name net)) (first_seen names)
        (has_text-first_seen names (net_name net)
        ∙ list_any-from_In (λ other. bytes_eq other (net_name net)) names (net_name net) used
        (net-same net)) in
        subst (λ (name : Bytes). In (first_seen names) name)
        ((bytes_eq-Decides found.0 (net_name net)).0 found.2) found.1

    pub has-nets : HasNets sinks (netlist_to nets (input_table side sinks))
    has-nets = subst (λ (ns : Netlist). HasNets sinks ns) (sym (blocks-are nets sinks side ∙ uses))
        (record {
          each = λ net below. contains-In (map value (nets_of all)) (drawn_net sinks net)
              (subst (λ (n : Net). In (map value (nets_of all)) n)
              (net-value net (omega arith))
              (In-map value (nets_of all) (net_name net) (net-in net (omega arith))));
          others = all-from_In (IsDrawn sinks) (map value (nets_of all)) (λ net i.
              let r = from_In-map value (nets_of all) net i in
              let p = named (side * side) r.0 r.1 in
              let b = p.below in
              record {
                number = p.net;
                below = omega arith;
                is = sym r.2 ∙ ap value p.is ∙ net-value p.net p.below;
              });
          apart = subst (λ (names : List Bytes). AreApart names)
              (sym (map-map (λ (net : Net). net.name) value (nets_of all)
              ∙ map-id (nets_of all)))
              (first_seen-apart (map (λ (u : Use). u.net) all));
        })
      where
        all : List Use
        all = rows nets sinks (side * side)

        uses : value_of architecture_of_all none_global
            (map (listed nets sinks) (range_with_len 0 (side * side)))
            ≡ record {
              nets = map value (nets_of all);
              blocks = map (block_of (nets_of all))
                  (map (listed nets sinks) (range_with_len 0 (side * side)));
            }
        uses = ap (λ (us : List Use). record {
          nets = map (net_of none_global us) (nets_of us);
          blocks = map (block_of (nets_of us))
              (map (listed nets sinks) (range_with_len 0 (side * side)));
        }) (rows-are nets sinks (side * side))

module _ (seed side nets : ℕ) (some : 1 ≤ side) (limit : side ≤ SIDE_LIMIT)
    (few : nets ≤ side * side) where
  most : side * side ≤ 10000
  most = square side SIDE_LIMIT limit

  -- the netlist that a seed gives reads
  pub netlist-reads : ReadsNet architecture_of_all (generated_netlist seed side nets)
      (netlist_of_all seed side nets)
  netlist-reads =
      let m = most in
      text-reads nets (sinks_of seed side nets) (sinks-taken seed side nets some few)
      (drawing-length seed side nets) (omega arith) side few most
      (sinks-inputs seed side nets some few)

  -- it has the nets that were drawn
  pub netlist-nets : HasNets (sinks_of seed side nets) (netlist_of_all seed side nets)
  netlist-nets =
      let m = most in
      has-nets nets (sinks_of seed side nets) (sinks-taken seed side nets some few)
      (drawing-length seed side nets) (omega arith) side few most
      (sinks-inputs seed side nets some few)

-- it has the blocks
pub netlist-blocks : (seed side nets : ℕ) → HasBlocks side (netlist_of_all seed side nets)
netlist-blocks seed side nets =
    let sinks = sinks_of seed side nets in
    let names = nets_of (uses_of architecture_of_all
    (map (listed nets sinks) (range_with_len 0 (side * side)))) in
    record {
      pins = λ block. map (net_on names) (pin_words nets (block, nets_into sinks block));
      blocks = ap (λ (n : Netlist). n.blocks) (blocks-are nets sinks side)
          ∙ map-map (block_of names) (listed nets sinks) (range_with_len 0 (side * side));
    }
