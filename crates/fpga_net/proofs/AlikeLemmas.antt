-- A netlist reads the same by the global nets that were found as by all of them.
use Rattle.std.proofs.Common.{◌≡◌, ℕ, zero, suc, ◌+◌, ◌≤◌, Bool, true, false, List, [], ◌∷◌, ◌++◌, Option, Some, None, length, take, refl, sym, ap, subst, ◌∙◌, inl, inr, append-nil, append_assoc, arith, length-append}
use Rattle.std.specs.Prelude.{◌&&◌, ◌||◌, ◌==◌, nat_lt, not, fold, map, filter, filter_map, bytes_eq, is_none, option_map, slice_get, if◌then◌else◌}
use Rattle.std.specs.List.{cons_option, enumerate_from, list_any, zip}
use Rattle.std.specs.Option.{option_map_or, option_or}
use Rattle.std.proofs.lemmas.Bool.{ltb-false}
use Rattle.std.proofs.lemmas.List.{map-append, take_all}
use Rattle.std.proofs.lemmas.List.Concat.{flat_map_single}
use Rattle.std.proofs.lemmas.Slice.Eq.{bytes_eq-Decides}
use Rattle.list_laws.proofs.Members.{In, In-append_left, In-append_right, In-filter, In-list_any, In-map, from_In-filter, list_any-from_In}
use Rattle.list_laws.proofs.Rows.{rows-alike}
use Rattle.fpga_types.specs.declared.arch.Arch.{Arch}
use Rattle.fpga_types.specs.declared.arch.PinSpec.{PinSpec}
use Rattle.fpga_types.specs.declared.limits.TheConstants.{NET_LIMIT}
use Rattle.fpga_types.specs.declared.netlist.BlockKind.{BlockKind}
use Rattle.fpga_types.specs.declared.netlist.Netlist.{Netlist}
use Rattle.fpga_types.specs.declared.netlist.BlockKind.TheVariants.{Input, Output, Logic}
use Rattle.fpga_types.proofs.NameLaws.{name_itself}
use Rattle.fpga_text.specs.Bytes.{Bytes, is_empty}
use Rattle.fpga_text.specs.Codes.{faults_from, line_fault}
use Rattle.fpga_text.specs.FirstFault.{Faults, IsFaultless, first_fault}
use Rattle.fpga_text.specs.Said.{has_text}
use Rattle.fpga_text.specs.Words.{TextLine}
use Rattle.fpga_text.specs.declared.fault.TextFault.{TextFault}
use Rattle.fpga_net.specs.Codes.{BegunBlock, Context, before_all, behind, drives_again, ends_open, forms_of, globals_of, has_pair, is_driven_twice, listed, misses_pins, net_codes, net_count, numbered_forms, pinlist_uses, share_class, takes_ordinary, uses_before}
use Rattle.fpga_net.specs.Forms.{Form, Begins, Pinlist, Subblock, Globals, Other, form_of}
use Rattle.fpga_net.specs.Globals.{FindsGlobals, nets_among, nets_named, nets_on_pins}
use Rattle.fpga_net.specs.Names.{first_seen}
use Rattle.fpga_net.specs.Uses.{Use, ListedBlock, block_uses, drivers, is_open, nets_of, on_net, pins_of, sinks, use_of, uses_from, uses_of}
use Rattle.fpga_net.specs.Value.{block_of, net_of, netlist_before, netlist_of}
use Rattle.fpga_net.proofs.DraftLemmas.{has_pins, pinlist_refused, uses_of-push}
use Rattle.fpga_net.proofs.EndLemmas.{end_refused}
use Rattle.fpga_net.proofs.NameLemmas.{has_text-first_seen}

-- two ways to tell global nets from others are alike at these nets
abbrev pub AreAlike : (one other : Bytes → Bool) → List Bytes → Type 0
AreAlike one other nets = (net : Bytes) → In nets net → one net ≡ other net

-- the nets on these pins
abbrev pub nets_on : List Use → List Bytes
nets_on uses = map (λ (u : Use). u.net) uses

any-alike : {A : Type 0} (p q : A → Bool) (xs : List A) → ((x : A) → In xs x → p x ≡ q x)
    → list_any p xs ≡ list_any q xs
any-alike p q [] alike = refl
any-alike p q (x ∷ xs) alike =
    let here = alike x (inl refl) in
    let rest = any-alike p q xs (λ y i. alike y (inr i)) in
    λ i. here i || rest i

map-alike : {A B : Type 0} (f g : A → B) (xs : List A) → ((x : A) → In xs x → f x ≡ g x)
    → map f xs ≡ map g xs
map-alike f g xs alike =
    sym (flat_map_single f xs)
    ∙ rows-alike (λ x. f x ∷ []) (λ x. g x ∷ []) xs (λ x i. ap (λ y. y ∷ []) (alike x i))
    ∙ flat_map_single g xs

-- what is among names, by the test
there : (names : List Bytes) (name : Bytes) → In names name → has_text names name ≡ true
there names name i = list_any-from_In (λ n. bytes_eq n name) names name i (name_itself name)

among : (names : List Bytes) (name : Bytes) → has_text names name ≡ true → In names name
among names name is =
    let at = In-list_any (λ n. bytes_eq n name) names is in
    subst (λ (n : Bytes). In names n) ((bytes_eq-Decides at.0 name).0 at.2) at.1

-- each name stands where it is first seen
seen-from : (names : List Bytes) (name : Bytes) → In (first_seen names) name → In names name
seen-from names name i =
    among names name (sym (has_text-first_seen names name) ∙ there (first_seen names) name i)

seen-there : (names : List Bytes) (name : Bytes) → In names name
    → has_text (first_seen names) name ≡ true
seen-there names name i = has_text-first_seen names name ∙ there names name i

-- the codes of a pinlist ask for its own nets alone
module _ (one other : Bytes → Bool) where
  module _ (all own : List Use) (alike : AreAlike one other (nets_on own)) where
    ordinary : (u : Use) → In own u → not (one u.net) ≡ not (other u.net)
    ordinary u i = ap not (alike u.net (In-map (λ (v : Use). v.net) own u i))

    drives-alike : drives_again one all own ≡ drives_again other all own
    drives-alike = any-alike
        (λ u. u.pin.output && is_driven_twice all u.net && not (one u.net))
        (λ u. u.pin.output && is_driven_twice all u.net && not (other u.net)) own
        (λ u i. ap (λ b. u.pin.output && is_driven_twice all u.net && b) (ordinary u i))

    takes-alike : takes_ordinary one own ≡ takes_ordinary other own
    takes-alike = any-alike (λ u. u.pin.global && not (one u.net))
        (λ u. u.pin.global && not (other u.net)) own
        (λ u i. ap (λ b. u.pin.global && b) (ordinary u i))

  shares-alike : (own : List Use) → AreAlike one other (nets_on own)
      → has_pair (share_class one) own ≡ has_pair (share_class other) own
  shares-alike [] alike = refl
  shares-alike (u ∷ us) alike =
      let here = alike u.net (inl refl) in
      let rest = shares-alike us (λ net i. alike net (inr i)) in
      λ i. list_any (λ v. u.pin.class == v.pin.class && bytes_eq u.net v.net && not (here i)) us
      || rest i

  -- and the end for the nets on all pins
  lacks-alike : (uses : List Use) (sought : List Use → List Use)
      → AreAlike one other (nets_on uses)
      → list_any (λ net. not (one net) && is_empty (on_net net (sought uses))) (nets_of uses)
      ≡ list_any (λ net. not (other net) && is_empty (on_net net (sought uses))) (nets_of uses)
  lacks-alike uses sought alike = any-alike
      (λ net. not (one net) && is_empty (on_net net (sought uses)))
      (λ net. not (other net) && is_empty (on_net net (sought uses))) (nets_of uses)
      (λ net i. ap (λ b. not b && is_empty (on_net net (sought uses)))
      (alike net (seen-from (nets_on uses) net i)))

  netlist-alike : (arch : Arch) (blocks : List ListedBlock)
      → AreAlike one other (nets_on (uses_of arch blocks))
      → netlist_of arch one blocks ≡ netlist_of arch other blocks
  netlist-alike arch blocks alike = ap (λ nets. record {
    nets = nets;
    blocks = map (block_of (nets_of (uses_of arch blocks))) blocks;
  }) (map-alike (net_of one (uses_of arch blocks)) (net_of other (uses_of arch blocks))
      (nets_of (uses_of arch blocks)) (λ net i.
      ap (λ global. record {
        name = net;
        global = global;
        driver = option_map (λ (u : Use). u.at)
            (slice_get (on_net net (drivers (uses_of arch blocks))) 0);
        sinks = map (λ (u : Use). u.at) (on_net net (sinks (uses_of arch blocks)));
      }) (alike net (seen-from (nets_on (uses_of arch blocks)) net i))))

-- the nets on the pins of a block are those that its words name for them
names-on : (block first : ℕ) (pins : List PinSpec) (words : List Bytes)
    → nets_on (uses_from block first pins words) ≡ nets_named (take (length pins) words)
names-on block first [] words = refl
names-on block first (pin ∷ pins) [] = refl
names-on block first (pin ∷ pins) (word ∷ words) =
    go (is_open word) refl (names-on block (first + 1) pins words)
  where
    rest : List Use
    rest = uses_from block (first + 1) pins words

    go : (open_pin : Bool) → is_open word ≡ open_pin
        → nets_on rest ≡ nets_named (take (length pins) words)
        → nets_on (cons_option (use_of block (first, (pin, word))) rest)
        ≡ nets_named (word ∷ take (length pins) words)
    go true is later = rw is later
    go false is later = rw is (ap (λ ns. word ∷ ns) later)

-- fewer words name fewer nets
take-within : (few many : ℕ) (words : List Bytes) (word : Bytes) → few ≤ many
    → In (take few words) word → In (take many words) word
take-within zero many words word within i = absurd i
take-within (suc few) many [] word within i = absurd i
take-within (suc few) zero (w ∷ words) word within i = absurd (omega (arith, within))
take-within (suc few) (suc many) (w ∷ words) word within i = elim i [
  | inl e ↦ inl e
  | inr t ↦ inr (take-within few many words word (omega (arith, within)) t)
]

named-within : (few many : ℕ) (words : List Bytes) (word : Bytes) → few ≤ many
    → In (nets_named (take few words)) word → In (nets_named (take many words)) word
named-within few many words word within i =
    let at = from_In-filter (λ w. not (is_open w)) (take few words) word i in
    In-filter (λ w. not (is_open w)) (take many words) word
    (take-within few many words word within at.0) at.1

-- a pad has one pin, and a logic block those of the architecture
few_pins : (arch : Arch) (kind : BlockKind) → length (pins_of arch kind) ≤ length arch.pins + 1
few_pins arch Input = omega arith
few_pins arch Output = omega arith
few_pins arch Logic = omega arith

-- why a pinlist is not refused
record IsClean (stray misses many : Bool) : Type 0 where
  pub begun : stray ≡ false
  pub whole : misses ≡ false
  pub within : many ≡ false

clean-tests : (stray misses again ordinary shared many : Bool) (number : ℕ)
    → pinlist_refused stray misses again ordinary shared many number ≡ None
    → IsClean stray misses many
clean-tests false false false false false false number clean =
    record { begun = refl; whole = refl; within = refl }
clean-tests true misses again ordinary shared many number clean = absurd cc
clean-tests false true again ordinary shared many number clean = absurd cc
clean-tests false false true ordinary shared many number clean = absurd cc
clean-tests false false false true shared many number clean = absurd cc
clean-tests false false false false true many number clean = absurd cc
clean-tests false false false false false true number clean = absurd cc

-- the same architecture and text, by two lists of global nets
module _ (arch : Arch) where
  -- as many words as a pinlist has at most, and one
  abbrev most : ℕ
  most = length arch.pins + 1

  -- the context, with these global nets
  abbrev pub at : List Bytes → Context → Context
  at globals context = record context { arch = arch; globals = globals }

  -- the nets on the pins of the blocks before
  abbrev nets_before : Context → List Bytes
  nets_before context = nets_on (uses_of arch context.blocks)

  behind-at : (globals : List Bytes) (context : Context) (form : Form)
      → behind (at globals context) form ≡ at globals (behind context form)
  behind-at globals context (Begins kind names) = refl
  behind-at globals context (Pinlist nets) = refl
  behind-at globals context Subblock = refl
  behind-at globals context (Globals nets) = refl
  behind-at globals context Other = refl

  -- why a line is refused
  abbrev fault_at : List Bytes → Context → TextLine → Option TextFault
  fault_at globals context line =
      line_fault (net_codes arch globals) (at globals context) line.number (form_of line.words)

  -- the pins of a pinlist
  abbrev own_uses : Context → List Bytes → List Use
  own_uses context nets = pinlist_uses (at [] context) nets

  own-named : (context : Context) (nets : List Bytes) (net : Bytes)
      → In (nets_on (own_uses context nets)) net → In (nets_named (take most nets)) net
  own-named context nets net i = go context.begun i
    where
      go : (begun : Option BegunBlock)
          → In (nets_on (pinlist_uses (record (at [] context) { begun = begun }) nets)) net
          → In (nets_named (take most nets)) net
      go None i = absurd i
      go (Some block) i =
          named-within (length (pins_of arch block.kind)) most nets net
          (few_pins arch block.kind)
          (subst (λ (ns : List Bytes). In ns net)
          (names-on (length context.blocks) 0 (pins_of arch block.kind) nets) i)

  module _ (one other : List Bytes) where
    fault-alike : (context : Context) (number : ℕ) (form : Form)
        → AreAlike (has_text one) (has_text other) (nets_on_pins most form)
        → line_fault (net_codes arch one) (at one context) number form
        ≡ line_fault (net_codes arch other) (at other context) number form
    fault-alike context number (Begins kind names) alike = refl
    fault-alike context number Subblock alike = refl
    fault-alike context number (Globals nets) alike = refl
    fault-alike context number Other alike = refl
    fault-alike context number (Pinlist nets) alike =
        let drives = drives-alike (has_text one) (has_text other) all own own_alike in
        let takes = takes-alike (has_text one) (has_text other) all own own_alike in
        let shares = shares-alike (has_text one) (has_text other) own own_alike in
        λ i. pinlist_refused (is_none context.begun)
        (option_map_or (misses_pins arch nets) context.begun false)
        (drives i) (takes i) (shares i) (nat_lt NET_LIMIT (net_count all)) number
      where
        own : List Use
        own = own_uses context nets

        all : List Use
        all = uses_of arch context.blocks ++ own

        own_alike : AreAlike (has_text one) (has_text other) (nets_on own)
        own_alike net i = alike net (own-named context nets net i)

  -- behind a line without a fault stand its nets too, and they are not too many
  record Passes (globals : List Bytes) (context : Context) (form : Form) : Type 0 where
    pub nets : nets_before (behind context form) ≡ nets_before context ++ nets_on_pins most form
    pub few : length (first_seen (nets_before (behind context form))) ≤ NET_LIMIT

  passes : (globals : List Bytes) (context : Context) (number : ℕ) (form : Form)
      → length (first_seen (nets_before context)) ≤ NET_LIMIT
      → line_fault (net_codes arch globals) (at globals context) number form ≡ None
      → Passes globals context form
  passes globals context number (Begins kind names) few clean =
      record { nets = sym (append-nil (nets_before context)); few = few }
  passes globals context number Subblock few clean =
      record { nets = sym (append-nil (nets_before context)); few = few }
  passes globals context number (Globals nets) few clean =
      record { nets = sym (append-nil (nets_before context)); few = few }
  passes globals context number Other few clean =
      record { nets = sym (append-nil (nets_before context)); few = few }
  passes globals context number (Pinlist nets) few clean =
      go context.begun refl (clean-tests _ _ _ _ _ _ number clean)
    where
      before : List Use
      before = uses_of arch context.blocks

      -- the nets behind, if this block was begun
      behind_it : Option BegunBlock → List Bytes
      behind_it begun =
          nets_before (behind (record context { arch = arch; begun = begun }) (Pinlist nets))

      go : (begun : Option BegunBlock) → context.begun ≡ begun
          → IsClean (is_none begun) (option_map_or (misses_pins arch nets) begun false)
          (nat_lt NET_LIMIT (net_count (before
          ++ pinlist_uses (record (at [] context) { begun = begun }) nets)))
          → Passes globals context (Pinlist nets)
      go None was tests = absurd (let clash : true ≡ false = tests.begun in cc)
      go (Some block) was tests =
          record {
            nets = ap behind_it was ∙ is;
            few = subst (λ (ns : List Bytes). length (first_seen ns) ≤ NET_LIMIT)
                (sym (ap behind_it was ∙ added)) (ltb-false _ _ tests.within);
          }
        where
          number_of_it : ℕ
          number_of_it = length context.blocks

          own : List Use
          own = block_uses arch number_of_it (listed nets block)

          whole : length nets ≡ length (pins_of arch block.kind)
          whole = has_pins arch nets block tests.whole

          added : behind_it (Some block) ≡ nets_on (before ++ own)
          added = ap nets_on (uses_of-push arch context.blocks (listed nets block))

          words : take (length (pins_of arch block.kind)) nets ≡ take most nets
          words = take_all (length (pins_of arch block.kind)) nets (omega (arith, whole))
              ∙ sym (take_all most nets
              (omega (arith, whole, few_pins arch block.kind)))

          is : behind_it (Some block) ≡ nets_before context ++ nets_named (take most nets)
          is = added ∙ map-append (λ (u : Use). u.net) before own
              ∙ ap (λ ns. nets_before context ++ ns)
              (names-on number_of_it 0 (pins_of arch block.kind) nets ∙ ap nets_named words)

  -- the faults from a context on
  abbrev pub faults_at : (end : ℕ) → List Bytes → Context → List TextLine → Faults
  faults_at end globals context lines =
      faults_from behind (net_codes arch globals) (at globals context) (numbered_forms lines) end

  -- the netlist behind lines
  abbrev netlist_at : List Bytes → Context → List TextLine → Netlist
  netlist_at globals context lines =
      netlist_before (fold behind (at globals context) (forms_of lines))

  -- a line without a fault is passed
  past : (end : ℕ) (globals : List Bytes) (context : Context) (line : TextLine)
      (more : List TextLine) → fault_at globals context line ≡ None
      → first_fault (faults_at end globals context (line ∷ more))
      ≡ first_fault (faults_at end globals (behind context (form_of line.words)) more)
  past end globals context line more clean =
      ap (λ fault. option_or fault (first_fault (faults_from behind (net_codes arch globals)
      (behind (at globals context) (form_of line.words)) (numbered_forms more) end))) clean
      ∙ ap (λ c. first_fault (faults_from behind (net_codes arch globals) c
      (numbered_forms more) end)) (behind-at globals context (form_of line.words))

  netlist-past : (globals : List Bytes) (context : Context) (line : TextLine)
      (more : List TextLine) → netlist_at globals context (line ∷ more)
      ≡ netlist_at globals (behind context (form_of line.words)) more
  netlist-past globals context line more =
      ap (λ c. netlist_before (fold behind c (forms_of more)))
      (behind-at globals context (form_of line.words))

  module _ (one other : List Bytes) (end : ℕ) where
    -- lines read the same by both
    pub record ReadAlike (context : Context) (lines : List TextLine) : Type 0 where
      pub faults : first_fault (faults_at end one context lines)
          ≡ first_fault (faults_at end other context lines)
      pub netlist : IsFaultless (faults_at end one context lines)
          → netlist_at one context lines ≡ netlist_at other context lines

    ends-alike : (context : Context)
        → AreAlike (has_text one) (has_text other) (nets_before context) → ReadAlike context []
    ends-alike context alike = record {
      faults =
          let uses = uses_of arch context.blocks in
          let undriven = lacks-alike (has_text one) (has_text other) uses drivers alike in
          let unended = lacks-alike (has_text one) (has_text other) uses sinks alike in
          λ i. option_or (end_refused (ends_open context) (undriven i) (unended i) end) None;
      netlist = λ clean. netlist-alike (has_text one) (has_text other) arch context.blocks alike;
    }

    -- lines whose nets are looked for, and lines behind them where those are too many
    read-alike : (context : Context) (near far : List TextLine)
        → AreAlike (has_text one) (has_text other) (nets_before context ++ nets_among most near)
        → length (first_seen (nets_before context)) ≤ NET_LIMIT
        → (length (first_seen (nets_before context ++ nets_among most near)) ≤ NET_LIMIT
        → far ≡ [])
        → ReadAlike context (near ++ far)
    read-alike context [] far alike few whole =
        let all : nets_before context ++ [] ≡ nets_before context =
        append-nil (nets_before context) in
        let none : far ≡ [] =
        whole (subst (λ (ns : List Bytes). length (first_seen ns) ≤ NET_LIMIT) (sym all) few) in
        subst (ReadAlike context) (sym none) (ends-alike context
        (subst (AreAlike (has_text one) (has_text other)) all alike))
    read-alike context (line ∷ near) far alike few whole =
        go (fault_at one context line) refl
        (read-alike (behind context (form_of line.words)) near far)
      where
        form : Form
        form = form_of line.words

        same : fault_at one context line ≡ fault_at other context line
        same = fault-alike one other context line.number form (λ net i.
            alike net (In-append_right (nets_before context) (nets_among most (line ∷ near)) net
            (In-append_left (nets_on_pins most form) (nets_among most near) net i)))

        go : (fault : Option TextFault) → fault_at one context line ≡ fault
            → (AreAlike (has_text one) (has_text other)
            (nets_before (behind context form) ++ nets_among most near)
            → length (first_seen (nets_before (behind context form))) ≤ NET_LIMIT
            → (length (first_seen (nets_before (behind context form) ++ nets_among most near))
            ≤ NET_LIMIT → far ≡ [])
            → ReadAlike (behind context form) (near ++ far))
            → ReadAlike context (line ∷ (near ++ far))
        go (Some fault) is later = record {
          faults = ap (λ f. option_or f (first_fault (faults_from behind (net_codes arch one)
              (behind (at one context) form) (numbered_forms (near ++ far)) end))) is
              ∙ sym (ap (λ f. option_or f (first_fault (faults_from behind (net_codes arch other)
              (behind (at other context) form) (numbered_forms (near ++ far)) end)))
              (sym same ∙ is));
          netlist = λ clean. absurd (let clash : Some fault ≡ None =
              sym (ap (λ f. option_or f (first_fault (faults_from behind (net_codes arch one)
              (behind (at one context) form) (numbered_forms (near ++ far)) end))) is)
              ∙ clean in cc);
        }
        go None is later =
            let passed = passes one context line.number form few is in
            let all : nets_before (behind context form) ++ nets_among most near
            ≡ nets_before context ++ nets_among most (line ∷ near) =
            ap (λ ns. ns ++ nets_among most near) passed.nets
            ∙ append_assoc (nets_before context) (nets_on_pins most form)
            (nets_among most near) in
            let rest = later
            (subst (AreAlike (has_text one) (has_text other)) (sym all) alike) passed.few
            (λ within. whole (subst (λ (ns : List Bytes). length (first_seen ns) ≤ NET_LIMIT)
            all within)) in
            record {
              faults = past end one context line (near ++ far) is ∙ rest.faults
                  ∙ sym (past end other context line (near ++ far) (sym same ∙ is));
              netlist = λ clean. netlist-past one context line (near ++ far)
                  ∙ rest.netlist (sym (past end one context line (near ++ far) is) ∙ clean)
                  ∙ sym (netlist-past other context line (near ++ far));
            }

-- a text reads the same by the global nets that were found as by all of them
pub found-alike : (arch : Arch) (lines : List TextLine) (found : List Bytes) (end : ℕ)
    → FindsGlobals (length arch.pins + 1) lines found
    → ReadAlike arch found (globals_of lines) end (before_all arch []) lines
found-alike arch lines found end finds =
    let looked = finds.looks.looked in
    let nets = nets_among (length arch.pins + 1) looked.before in
    subst (ReadAlike arch found (globals_of lines) end
    (before_all arch [])) (sym looked.split)
    (read-alike arch found (globals_of lines) end
    (before_all arch []) looked.before finds.looks.ahead
    (λ net i. finds.finds net (ap (λ (ns : List Bytes). has_text ns net) looked.nets
    ∙ seen-there nets net i))
    (omega arith)
    (λ within. finds.looks.whole (subst (λ (ns : List Bytes). length ns ≤ NET_LIMIT)
    (sym looked.nets) within)))
