-- What one more line does to what was read so far.
use Rattle.std.proofs.Common.{◌≡◌, ◌≢◌, ℕ, ◌+◌, ◌≤◌, Bool, true, false, List, [], ◌∷◌, ◌++◌, length, take, get_or, refl, sym, ap, subst, ◌∙◌, append-nil, arith, zero-add}
use Rattle.std.specs.Prelude.{◌==◌, ◌&&◌, ◌||◌, not, nat_lt, map, flat_map, bytes_eq, Option, Some, None, is_none, is_some, option_map, option_to_list, if◌then◌else◌}
use Rattle.std.specs.Borrow.{Bor}
use Rattle.std.specs.List.{enumerate_from, list_any}
use Rattle.std.specs.Option.{option_map_or, option_or}
use Rattle.std.proofs.lemmas.Bool.{eqb-true, ne_eqb}
use Rattle.std.proofs.lemmas.List.{length-append, length-map, length-take, map-append, take_all}
use Rattle.std.proofs.lemmas.List.Folds.{list_any_at}
use Rattle.std.proofs.lemmas.List.Elements.{All-push}
use Rattle.std.proofs.lemmas.List.Quantifiers.{all_pairs_push}
use Rattle.std.proofs.lemmas.Grind.{flat_map-append}
use Rattle.std.proofs.lemmas.Slice.Eq.{bytes_eq-Decides}
use Rattle.list_laws.proofs.Numbered.{enumerate-push}
use Rattle.fpga_types.specs.declared.arch.Arch.{Arch}
use Rattle.fpga_types.specs.declared.arch.PinSpec.{PinSpec}
use Rattle.fpga_types.specs.declared.limits.TheConstants.{NET_LIMIT}
use Rattle.fpga_types.specs.declared.netlist.BlockKind.{BlockKind}
use Rattle.fpga_text.specs.Bytes.{Bytes}
use Rattle.fpga_text.specs.FirstFault.{IsFaultOf}
use Rattle.fpga_text.specs.Said.{has_text}
use Rattle.fpga_text.specs.declared.fault.TextFault.{TextFault}
use Rattle.fpga_text.specs.declared.fault.TextFault.TheVariants.{Bad, Limit}
use Rattle.fpga_net.specs.declared.limits.TheConstants.{BLOCK_LIMIT}
use Rattle.fpga_net.specs.declared.cause.Cause.TheVariants.{Drivers, GlobalPin, LineForm, NoPinlist, PastLimit, PinCount, SameName, SharedClass}
use Rattle.fpga_net.specs.Causes.{code_of}
use Rattle.fpga_net.specs.Codes.{BegunBlock, Context, behind, drives_again, has_pair, is_begun_logic, is_global, listed, misses_pins, net_count, pinlist_uses, share_class, takes_ordinary, uses_before}
use Rattle.fpga_net.specs.Drafts.{IsKept, ListsBlock, Progress, TakesForm, form_fault}
use Rattle.fpga_net.specs.Entries.{Connects, Entry, IsRefusedUses, entries_of, uses_fault}
use Rattle.fpga_net.specs.Forms.{Begins, Pinlist}
use Rattle.fpga_net.specs.Names.{AreApart}
use Rattle.fpga_net.specs.Uses.{HasPins, ListedBlock, Use, block_uses, is_logic, is_open, pins_of, uses_of}
use Rattle.fpga_net.proofs.ConnectLemmas.{refused_by}

-- of as many words as pins and one more, none is left out
pub all_taken : (n : ℕ) (words : List Bytes) (others : Bool)
    → (not (length (take (n + 1) words) == n) || others) ≡ false → take (n + 1) words ≡ words
all_taken n words others whole =
    take_all (n + 1) words (grind (arith, counted _ refl whole, length-take (n + 1) words))
  where
    counted : (b : Bool) → (length (take (n + 1) words) == n) ≡ b → (not b || others) ≡ false
        → length (take (n + 1) words) ≡ n
    counted true same none = eqb-true _ n same
    counted false distinct none = absurd (let clash : true ≡ false = none in cc)

-- why a block line with one name is refused, by its tests
abbrev block_refused : (again open_before last : Bool) → ℕ → Option TextFault
block_refused again open_before last number =
    if again then Some (Bad number (code_of SameName))
    else if open_before then Some (Bad number (code_of NoPinlist))
    else option_or (option_map (λ n. Limit (code_of PastLimit) n)
    (if last then Some (BLOCK_LIMIT + 1) else None)) None

-- a new name
new_name : (names : List Bytes) (name : Bytes) → AreApart names → has_text names name ≡ false
    → AreApart (names ++ name ∷ [])
new_name names name apart new =
    all_pairs_push (λ (a b : Bytes). a ≢ b) names name apart
    (λ k d within same. both (list_any_at (λ other. bytes_eq other name) names k d within
    ((bytes_eq-Decides (get_or names k d) name).1 same)))
  where
    both : has_text names name ≡ true → ⊥
    both there = absurd (let clash : false ≡ true = sym new ∙ there in cc)

pub no_block : {X : Type 0} (o : Option X) → is_some o ≡ false → o ≡ None
no_block None none = refl
no_block (Some x) none = absurd (let clash : true ≡ false = none in cc)

-- a block stands just before where its line does
pub is_some-map : {X Y : Type 0} (f : X → Y) (o : Option X) → is_some (option_map f o) ≡ is_some o
is_some-map f None = refl
is_some-map f (Some x) = refl

-- a block line
pub takes-block : (old : Progress) (number : ℕ) (kind : BlockKind) (name : Bytes) → IsKept old
    → has_text old.context.names name ≡ false → is_some old.context.begun ≡ false
    → length old.context.names ≢ BLOCK_LIMIT
    → TakesForm old (record old { context = behind old.context (Begins kind (name ∷ [])) }) number
    (Begins kind (name ∷ []))
takes-block old number kind name kept new closed few = record {
  clean = λ i. block_refused (new i) (closed i)
      (ne_eqb (length old.context.names) BLOCK_LIMIT few i) number;
  after = refl;
  kept = record {
    entries = kept.entries;
    net_count = kept.net_count;
    block_count =
        omega (arith, kept.block_count, few, length-append old.context.names (name ∷ []));
    names = ap (λ ns. ns ++ name ∷ []) (kept.names
        ∙ ap (λ (o : Option BegunBlock). map (λ (b : ListedBlock). b.name) old.context.blocks
        ++ option_to_list (option_map (λ (b : BegunBlock). b.name) o))
        (no_block old.context.begun closed)
        ∙ append-nil (map (λ (b : ListedBlock). b.name) old.context.blocks));
    apart = new_name old.context.names name kept.apart new;
    pins = kept.pins;
  };
}

-- one more block
pub uses_of-push : (arch : Arch) (blocks : List ListedBlock) (block : ListedBlock)
    → uses_of arch (blocks ++ block ∷ [])
    ≡ uses_of arch blocks ++ block_uses arch (length blocks) block
uses_of-push arch blocks block =
    ap (λ bs. flat_uses bs) (enumerate-push 0 blocks block)
    ∙ flat_map-append (λ (b : ℕ × ListedBlock). block_uses arch b.0 b.1)
    (enumerate_from 0 blocks) ((0 + length blocks, block) ∷ [])
    ∙ ap (λ us. uses_of arch blocks ++ us)
    (append-nil (block_uses arch (0 + length blocks) block)
    ∙ ap (λ n. block_uses arch n block) (zero-add (length blocks)))
  where
    flat_uses : List (ℕ × ListedBlock) → List Use
    flat_uses bs = flat_map (λ b. block_uses arch b.0 b.1) bs

-- where no pin is missed
pub has_pins : (arch : Arch) (nets : List Bytes) (begun : BegunBlock)
    → misses_pins arch nets begun ≡ false → HasPins arch (listed nets begun)
has_pins arch nets begun whole = counted _ refl whole
  where
    n : ℕ
    n = length (pins_of arch begun.kind)

    counted : (b : Bool) → (length nets == n) ≡ b
        → (not b || not (is_logic begun.kind) && list_any is_open nets) ≡ false → length nets ≡ n
    counted true same none = eqb-true (length nets) n same
    counted false distinct none = absurd (let clash : true ≡ false = none in cc)

-- there are no more blocks than names
pub few_blocks : (draft : Progress) → IsKept draft → length draft.context.blocks ≤ BLOCK_LIMIT
few_blocks draft kept =
    let all = ap (λ (ns : List Bytes). length ns) kept.names in
    let parts = length-append (map (λ (b : ListedBlock). b.name) draft.context.blocks)
    (option_to_list (option_map (λ (b : BegunBlock). b.name) draft.context.begun)) in
    let count : length (map (λ (b : ListedBlock). b.name) draft.context.blocks)
    ≡ length draft.context.blocks = rw length-map refl in
    omega (arith, kept.block_count, all, parts, count)

-- why a pinlist is refused, by its tests
abbrev pub pinlist_refused : (stray misses again ordinary shared many : Bool) → ℕ → Option TextFault
pinlist_refused stray misses again ordinary shared many number =
    if stray then Some (Bad number (code_of LineForm))
    else if misses then Some (Bad number (code_of PinCount))
    else if again then Some (Bad number (code_of Drivers))
    else if ordinary then Some (Bad number (code_of GlobalPin))
    else if shared then Some (Bad number (code_of SharedClass))
    else option_or (option_map (λ n. Limit (code_of PastLimit) n)
    (if many then Some (NET_LIMIT + 1) else None)) None

module _ (context : Context) (number : ℕ) (nets : List Bytes) where
  pinlist_fault : form_fault context number (Pinlist nets)
      ≡ pinlist_refused (is_none context.begun)
      (option_map_or (misses_pins context.arch nets) context.begun false)
      (drives_again (is_global context) (uses_before context ++ pinlist_uses context nets)
      (pinlist_uses context nets))
      (takes_ordinary (is_global context) (pinlist_uses context nets))
      (has_pair (share_class (is_global context)) (pinlist_uses context nets))
      (nat_lt NET_LIMIT (net_count (uses_before context ++ pinlist_uses context nets))) number
  pinlist_fault = refl

  -- a pinlist of a block with a word for each pin is refused for its nets
  pub pinlist_fault-listed : (begun : BegunBlock) → context.begun ≡ Some begun
      → misses_pins context.arch nets begun ≡ false
      → form_fault context number (Pinlist nets)
      ≡ uses_fault (is_global context) (uses_before context) (pinlist_uses context nets) number
  pinlist_fault-listed begun was whole = pinlist_fault
      ∙ (λ i. pinlist_refused (is_none (was i))
      ((ap (λ o. option_map_or (misses_pins context.arch nets) o false) was ∙ whole) i)
      again ordinary shared many number)
      ∙ go many
    where
      own : List Use
      own = pinlist_uses context nets

      again : Bool
      again = drives_again (is_global context) (uses_before context ++ own) own

      ordinary : Bool
      ordinary = takes_ordinary (is_global context) own

      shared : Bool
      shared = has_pair (share_class (is_global context)) own

      many : Bool
      many = nat_lt NET_LIMIT (net_count (uses_before context ++ own))

      go : (m : Bool) → pinlist_refused false false again ordinary shared m number
          ≡ refused_by again ordinary shared m number
      go true = refl
      go false = refl

-- the pins of a block that was begun
pinlist_uses-was : (context : Context) (nets : List Bytes) (begun : BegunBlock)
    → context.begun ≡ Some begun
    → pinlist_uses context nets
    ≡ block_uses context.arch (length context.blocks) (listed nets begun)
pinlist_uses-was context nets begun was = ap (λ o. option_map_or
    (λ block. block_uses context.arch (length context.blocks) (listed nets block)) o []) was

-- a pinlist
pub takes-pinlist : (old : Progress) (number : ℕ) (nets : List Bytes) (begun : BegunBlock)
    (entries : List Entry) → IsKept old → old.context.begun ≡ Some begun
    → misses_pins old.context.arch nets begun ≡ false
    → Connects (is_global old.context) old.entries entries
    (block_uses old.context.arch (length old.context.blocks) (listed nets begun)) number
    → TakesForm old (record {
      context = record old.context {
        begun = None;
        in_logic = is_logic begun.kind;
        blocks = old.context.blocks ++ listed nets begun ∷ [];
      };
      entries = entries;
    }) number (Pinlist nets)
takes-pinlist old number nets begun entries kept was whole connects = record {
  clean = pinlist_fault-listed old.context number nets begun was whole
      ∙ ap (λ own. uses_fault (is_global old.context) (uses_before old.context) own number)
      (pinlist_uses-was old.context nets begun was)
      ∙ connects.clean (uses_before old.context) kept.entries;
  after = λ i. record old.context {
    begun = None;
    in_logic = is_begun_logic (sym was i);
    blocks = old.context.blocks ++ option_to_list (option_map (listed nets) (sym was i));
  };
  kept = record {
    entries = connects.adds (uses_before old.context) kept.entries
        ∙ ap (entries_of (is_global old.context))
        (sym (uses_of-push old.context.arch old.context.blocks (listed nets begun)));
    net_count = connects.within;
    block_count = kept.block_count;
    names = kept.names
        ∙ (λ i. map (λ (b : ListedBlock). b.name) old.context.blocks
        ++ option_to_list (option_map (λ (b : BegunBlock). b.name) (was i)))
        ∙ sym (map-append (λ (b : ListedBlock). b.name) old.context.blocks (listed nets begun ∷ []))
        ∙ sym (append-nil (map (λ (b : ListedBlock). b.name)
        (old.context.blocks ++ listed nets begun ∷ [])));
    apart = kept.apart;
    pins = All-push (HasPins old.context.arch) old.context.blocks (listed nets begun) kept.pins
        (has_pins old.context.arch nets begun whole);
  };
}

-- a pinlist that is refused for its nets
pub refused-pinlist : (old : Progress) (number : ℕ) (nets : List Bytes) (begun : BegunBlock)
    (fault : TextFault) → IsKept old → old.context.begun ≡ Some begun
    → misses_pins old.context.arch nets begun ≡ false
    → IsRefusedUses (is_global old.context) old.entries
    (block_uses old.context.arch (length old.context.blocks) (listed nets begun)) number fault
    → IsFaultOf (form_fault old.context number (Pinlist nets)) fault
refused-pinlist old number nets begun fault kept was whole refused =
    subst (λ f. IsFaultOf f fault)
    (sym (pinlist_fault-listed old.context number nets begun was whole
    ∙ ap (λ own. uses_fault (is_global old.context) (uses_before old.context) own number)
    (pinlist_uses-was old.context nets begun was)))
    (refused (uses_before old.context) kept.entries)

-- the words that were taken are the pinlist of the block
pub lists-block : (context : Context) (pins : List PinSpec) (rest : List (Bor Bytes))
    (nets : List Bytes) (begun : BegunBlock) → context.begun ≡ Some begun
    → pins ≡ pins_of context.arch begun.kind
    → map (λ (w : Bor Bytes). w.now) rest ≡ take (length pins + 1) nets
    → false ≡ (not (length rest == length pins) || not (is_logic begun.kind)
    && list_any is_open (map (λ (w : Bor Bytes). w.now) rest))
    → ListsBlock context nets (listed (map (λ (w : Bor Bytes). w.now) rest) begun)
lists-block context pins rest nets begun was of_kind taken test = record {
  begun = begun;
  was = was;
  whole = subst (λ (ps : List PinSpec). misses ps nets ≡ false) of_kind
      (subst (λ ws. misses pins ws ≡ false) (taken ∙ all) tested);
  is = ap (λ ws. listed ws begun) (taken ∙ all);
}
  where
    misses : List PinSpec → List Bytes → Bool
    misses ps ws =
        not (length ws == length ps) || not (is_logic begun.kind) && list_any is_open ws

    tested : misses pins (map (λ (w : Bor Bytes). w.now) rest) ≡ false
    tested = ap (λ n. not (n == length pins) || not (is_logic begun.kind)
        && list_any is_open (map (λ (w : Bor Bytes). w.now) rest)) (counted rest) ∙ sym test
      where
        counted : (ws : List (Bor Bytes)) → length (map (λ (w : Bor Bytes). w.now) ws) ≡ length ws
        counted ws = rw length-map refl

    all : take (length pins + 1) nets ≡ nets
    all = all_taken (length pins) nets
        (not (is_logic begun.kind) && list_any is_open (take (length pins + 1) nets))
        (subst (λ ws. misses pins ws ≡ false) taken tested)
