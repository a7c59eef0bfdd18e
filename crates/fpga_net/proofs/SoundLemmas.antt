-- A netlist that was read is sound.
use Rattle.std.proofs.Common.{◌≡◌, ℕ, zero, suc, ◌<◌, ◌≤◌, Bool, true, false, cond, List, [], ◌∷◌, ◌++◌, length, refl, sym, ap, subst, ◌∙◌, append-nil, one-add, inl, arith}
use Rattle.std.specs.Prelude.{not, ◌&&◌, map, filter, bytes_eq, nat_lt, slice_get, Option, Some, None, IsSome, option_map, option_to_list}
use Rattle.std.specs.List.{IsDistinct, AllByRecursion, enumerate_from, list_any, position_or_len, zip}
use Rattle.std.specs.Option.{ForSome}
use Rattle.std.proofs.lemmas.Bool.{le-leb, ltb-true}
use Rattle.std.proofs.lemmas.List.{length-map}
use Rattle.std.proofs.lemmas.Map.Made.{IsDistinct-from_AllPairs}
use Rattle.std.proofs.lemmas.Slice.Eq.{bytes_eq-Decides}
use Rattle.list_laws.proofs.Members.{In, In-all, all-from_In, from_In-filter, from_In-filter_map, from_In-flat_map, from_In-map, list_any-from_In}
use Rattle.list_laws.proofs.Numbered.{from_In-enumerate}
use Rattle.list_laws.proofs.Places.{get-In, get-map}
use Rattle.fpga_types.specs.declared.arch.Arch.{Arch}
use Rattle.fpga_types.specs.declared.arch.PinSpec.{PinSpec}
use Rattle.fpga_types.specs.declared.netlist.Block.{Block}
use Rattle.fpga_types.specs.declared.netlist.Net.{Net}
use Rattle.fpga_types.specs.declared.netlist.PinRef.{PinRef}
use Rattle.fpga_text.specs.Bytes.{Bytes, is_empty}
use Rattle.fpga_text.specs.declared.fault.TextFault.TheVariants.{Bad}
use Rattle.fpga_types.specs.declared.limits.TheConstants.{NET_LIMIT}
use Rattle.fpga_net.specs.declared.limits.TheConstants.{BLOCK_LIMIT}
use Rattle.fpga_net.specs.declared.cause.Cause.TheVariants.{Drivers, NoSink, NoPinlist}
use Rattle.fpga_net.specs.Causes.{code_of}
use Rattle.fpga_net.specs.Codes.{BegunBlock, Context, ends_open, is_global, is_ordinary, some_net_lacks, uses_before}
use Rattle.fpga_net.specs.Drafts.{IsKept, Progress, last_fault}
use Rattle.fpga_net.specs.Entries.{Entry, entry_of}
use Rattle.fpga_net.specs.Names.{AreApart, number_of}
use Rattle.fpga_net.specs.Sound.{IsOn, IsSoundNetlist, IsSoundBlock, IsSoundNet}
use Rattle.fpga_net.specs.Uses.{HasPins, ListedBlock, Use, block_uses, drivers, is_open, nets_of, on_net, pins_of, sinks, use_of, uses_of}
use Rattle.fpga_net.specs.Value.{block_of, net_of, net_on, netlist_before}
use Rattle.fpga_net.proofs.DraftLemmas.{few_blocks, no_block}
use Rattle.fpga_net.proofs.EndLemmas.{end_refused}
use Rattle.fpga_net.proofs.NameLemmas.{first_seen-apart}

-- what stands at a place of a list stands there after a change
map-get : {A B : Type 0} (f : A → B) (xs : List A) (k : ℕ) (x : A) → slice_get xs k ≡ Some x
    → slice_get (map f xs) k ≡ Some (f x)
map-get f [] k x at = absurd (let clash : None ≡ Some x = at in cc)
map-get f (y ∷ ys) zero x at = let same : y ≡ x = cc in ap (λ z. Some (f z)) same
map-get f (y ∷ ys) (suc k) x at = map-get f ys k x at

-- the second of two lists, side by side
zip-second : {A B : Type 0} (firsts : List A) (seconds : List B) (k : ℕ) (p : A × B)
    → slice_get (zip firsts seconds) k ≡ Some p → slice_get seconds k ≡ Some p.1
zip-second [] seconds k p at = absurd (let clash : None ≡ Some p = at in cc)
zip-second (a ∷ firsts) [] k p at = absurd (let clash : None ≡ Some p = at in cc)
zip-second {A} {B} (a ∷ firsts) (b ∷ seconds) zero p at =
    let same : (a, b) ≡ p = cc in ap (λ (q : A × B). Some q.1) same
zip-second (a ∷ firsts) (b ∷ seconds) (suc k) p at = zip-second firsts seconds k p at

-- a name that stands at a place of names that differ has this number
place_of : (names : List Bytes) (i : ℕ) (name : Bytes) → IsDistinct bytes_eq names
    → slice_get names i ≡ Some name
    → position_or_len (λ other. bytes_eq other name) names ≡ i
unfolding IsDistinct
place_of [] i name apart at = absurd (let clash : None ≡ Some name = at in cc)
place_of (first ∷ more) zero name apart at =
    let same : first ≡ name = cc in rw ((bytes_eq-Decides first name).1 same) refl
place_of (first ∷ more) (suc i) name apart at =
    rw (other more i name apart.0 at, one-add (position_or_len (λ o. bytes_eq o name) more))
    (ap suc (place_of more i name apart.1 at))
  where
    other : (ns : List Bytes) (k : ℕ) (n : Bytes)
        → AllByRecursion (λ y. bytes_eq first y ≡ false) ns
        → slice_get ns k ≡ Some n → bytes_eq first n ≡ false
    other [] k n all at = absurd (let clash : None ≡ Some n = at in cc)
    other (m ∷ ns) zero n all at = let same : m ≡ n = cc in
        subst (λ y. bytes_eq first y ≡ false) same all.0
    other (m ∷ ns) (suc k) n all at = other ns k n all.1 at

get_within : {A : Type 0} (xs : List A) (k : ℕ) (x : A) → slice_get xs k ≡ Some x → k < length xs
get_within [] k x at = absurd (let clash : None ≡ Some x = at in cc)
get_within (y ∷ ys) zero x at = omega arith
get_within (y ∷ ys) (suc k) x at = let later = get_within ys k x at in omega (arith, later)

number_of-at : (names : List Bytes) (i : ℕ) (name : Bytes) → AreApart names
    → slice_get names i ≡ Some name → number_of names name ≡ Some i
number_of-at names i name apart at =
    let inside : nat_lt i (length names) ≡ true
    = le-leb (suc i) (length names) (get_within names i name at) in
    rw (place_of names i name (IsDistinct-from_AllPairs bytes_eq-Decides names apart) at, inside)
    refl

-- a number is one of a name
number_within : (names : List Bytes) (name : Bytes) (n : ℕ) → number_of names name ≡ Some n
    → n < length names
number_within names name n is =
    go (nat_lt (position_or_len (λ other. bytes_eq other name) names) (length names)) refl is
  where
    go : (b : Bool)
        → nat_lt (position_or_len (λ other. bytes_eq other name) names) (length names) ≡ b
        → cond b (Some (position_or_len (λ other. bytes_eq other name) names)) None ≡ Some n
        → n < length names
    go true below found =
        let same : position_or_len (λ other. bytes_eq other name) names ≡ n = cc in
        subst (λ k. k < length names) same (ltb-true _ _ below)
    go false past found = absurd (let clash : None ≡ Some n = found in cc)

-- a word that puts a net on a pin
named_use : (block : ℕ) (p : ℕ × (PinSpec × Bytes)) (u : Use) → use_of block p ≡ Some u
    → (is_open p.1.1 ≡ false) × (record {
      at = record { block = block; pin = p.0 };
      pin = p.1.0;
      net = p.1.1;
    } ≡ u)
named_use block p u is = go (is_open p.1.1) refl is
  where
    go : (b : Bool) → is_open p.1.1 ≡ b → cond b None (Some (record {
      at = record { block = block; pin = p.0 };
      pin = p.1.0;
      net = p.1.1;
    })) ≡ Some u
        → (is_open p.1.1 ≡ false) × (record {
          at = record { block = block; pin = p.0 };
          pin = p.1.0;
          net = p.1.1;
        } ≡ u)
    go true none found = absurd (let clash : None ≡ Some u = found in cc)
    go false some found = (some, cc)

module _ (arch : Arch) (blocks : List ListedBlock) (names : List Bytes) (apart : AreApart names)
  where
    -- a net is on the pins that name it
    is_on : (i : ℕ) (u : Use) → slice_get names i ≡ Some u.net → In (uses_of arch blocks) u
        → IsOn (map (block_of names) blocks) i u.at
    is_on i u at there =
        let outer = from_In-flat_map (λ b. block_uses arch b.0 b.1)
        (enumerate_from 0 blocks) u there in
        let block = outer.0 in
        let b_at = from_In-enumerate 0 blocks block outer.1 in
        let inner = from_In-filter_map (use_of block.0)
        (enumerate_from 0 (zip (pins_of arch block.1.kind) block.1.nets)) u outer.2 in
        let p = inner.0 in
        let p_at = from_In-enumerate 0 (zip (pins_of arch block.1.kind) block.1.nets) p inner.1 in
        let named = named_use block.0 p u inner.2 in
        let k_is : b_at.0 ≡ u.at.block =
        (let here : b_at.0 ≡ block.0 = omega (arith, b_at.1) in
        here ∙ ap (λ (v : Use). v.at.block) named.1) in
        let j_is : p_at.0 ≡ u.at.pin =
        (let here : p_at.0 ≡ p.0 = omega (arith, p_at.1) in
        here ∙ ap (λ (v : Use). v.at.pin) named.1) in
        let word : slice_get block.1.nets p_at.0 ≡ Some p.1.1 =
        zip-second (pins_of arch block.1.kind) block.1.nets p_at.0 p.1 p_at.2 in
        let number : number_of names p.1.1 ≡ Some i =
        ap (number_of names) (ap (λ (v : Use). v.net) named.1)
        ∙ number_of-at names i u.net apart at in
        let on : net_on names p.1.1 ≡ Some i = rw named.0 number in (
          block_of names block.1,
          subst (λ n. slice_get (map (block_of names) blocks) n
              ≡ Some (block_of names block.1)) k_is
              (map-get (block_of names) blocks b_at.0 block.1 b_at.2),
          subst (λ n. slice_get (map (net_on names) block.1.nets) n ≡ Some (Some i)) j_is
              (map-get (net_on names) block.1.nets p_at.0 p.1.1 word
              ∙ ap (λ (o : Option ℕ). Some o) on),
        )

    -- a block with a word for each pin
    sound_block : (count : ℕ) (block : ListedBlock) → count ≡ length names → HasPins arch block
        → IsSoundBlock arch count (block_of names block)
    sound_block count block same has = record {
      pins = mapped (net_on names) block.nets ∙ has;
      nets = all-from_In (λ (pin : Option ℕ). ForSome pin (λ net. net < count))
          (map (net_on names) block.nets)
          (λ pin there. let word = from_In-map (net_on names) block.nets pin there in
          λ n is. subst (λ c. n < c) (sym same) (numbered word.0 n (word.2 ∙ is)));
    }
      where
        mapped : {A B : Type 0} (f : A → B) (xs : List A) → length (map f xs) ≡ length xs
        mapped f xs = rw length-map refl

        numbered : (word : Bytes) (n : ℕ) → net_on names word ≡ Some n → n < length names
        numbered word n is = go (is_open word) is
          where
            go : (b : Bool) → cond b None (number_of names word) ≡ Some n → n < length names
            go true found = absurd (let clash : None ≡ Some n = found in cc)
            go false found = number_within names word n found

-- a test that passes nowhere passes at no element
not_any : {A : Type 0} (p : A → Bool) (xs : List A) (x : A) → list_any p xs ≡ false → In xs x
    → p x ≡ false
not_any p xs x none there = go (p x) refl
  where
    go : (b : Bool) → p x ≡ b → p x ≡ false
    go false is = is
    go true is = absurd
        (let clash : true ≡ false = sym (list_any-from_In p xs x there is) ∙ none in cc)

-- the pins of a net are among all pins
on_in : (name : Bytes) (p : Use → Bool) (uses : List Use) (u : Use)
    → In (on_net name (filter p uses)) u → In uses u × (u.net ≡ name)
on_in name p uses u there =
    let named = from_In-filter (λ v. bytes_eq v.net name) (filter p uses) u there in
    ((from_In-filter p uses u named.0).0, (bytes_eq-Decides u.net name).0 named.1)

first_in : (us : List Use) (at : PinRef)
    → option_map (λ (u : Use). u.at) (slice_get us 0) ≡ Some at → (u : Use) × In us u × (u.at ≡ at)
first_in [] at is = absurd (let clash : None ≡ Some at = is in cc)
first_in (u ∷ us) at is = (u, inl refl, cc)

some_first : (us : List Use) → is_empty us ≡ false
    → IsSome (option_map (λ (u : Use). u.at) (slice_get us 0))
some_first [] none = absurd (let clash : true ≡ false = none in cc)
some_first (u ∷ us) some = refl

some_length : (us : List Use) → is_empty us ≡ false → 1 ≤ length (map (λ (u : Use). u.at) us)
some_length [] none = absurd (let clash : true ≡ false = none in cc)
some_length (u ∷ us) some = omega arith

-- nets of which none lacks a pin
module _ (arch : Arch) (blocks : List ListedBlock) (global : Bytes → Bool)
    (driven : list_any (λ net. is_ordinary global net
    && is_empty (on_net net (drivers (uses_of arch blocks)))) (nets_of (uses_of arch blocks))
    ≡ false)
    (ended : list_any (λ net. is_ordinary global net
    && is_empty (on_net net (sinks (uses_of arch blocks)))) (nets_of (uses_of arch blocks)) ≡ false)
  where
    abbrev uses : List Use
    uses = uses_of arch blocks

    abbrev names : List Bytes
    names = nets_of uses

    apart : AreApart names
    apart = first_seen-apart (map (λ (u : Use). u.net) uses)

    sound_name : (i : ℕ) (name : Bytes) → slice_get names i ≡ Some name
        → IsSoundNet (map (block_of names) blocks) i (net_of global uses name)
    sound_name i name at = record {
      driver = λ x is. let u = first_in (on_net name (drivers uses)) x is in
          subst (IsOn (map (block_of names) blocks) i) u.2 (on (λ v. v.pin.output) u.0 u.1);
      sinks = all-from_In (IsOn (map (block_of names) blocks) i)
          (map (λ (u : Use). u.at) (on_net name (sinks uses)))
          (λ x there. let u = from_In-map (λ (u : Use). u.at) (on_net name (sinks uses)) x there in
          subst (IsOn (map (block_of names) blocks) i) u.2 (on (λ v. not v.pin.output) u.0 u.1));
      driven = λ ordinary. some_first (on_net name (drivers uses))
          (lacking (drivers uses) (not_any _ names name driven (get-In names i name at)) ordinary);
      ended = λ ordinary. some_length (on_net name (sinks uses))
          (lacking (sinks uses) (not_any _ names name ended (get-In names i name at)) ordinary);
    }
      where
        on : (p : Use → Bool) (u : Use) → In (on_net name (filter p uses)) u
            → IsOn (map (block_of names) blocks) i u.at
        on p u there =
            let found = on_in name p uses u there in
            is_on arch blocks names apart i u (at
            ∙ ap (λ (n : Bytes). Some n) (sym found.1)) found.0

        lacking : (us : List Use) → (not (global name) && is_empty (on_net name us)) ≡ false
            → global name ≡ false → is_empty (on_net name us) ≡ false
        lacking us none ordinary =
            ap (λ b. not b && is_empty (on_net name us)) (sym ordinary) ∙ none

    sound_net : (i : ℕ) (net : Net) → slice_get (map (net_of global uses) names) i ≡ Some net
        → IsSoundNet (map (block_of names) blocks) i net
    sound_net i net is =
        let name = get-map (net_of global uses) names i net is in
        subst (IsSoundNet (map (block_of names) blocks) i) name.2 (sound_name i name.0 name.1)

-- nothing is wrong with the end
clean_end : (context : Context) (number : ℕ) → last_fault context number ≡ None
    → (some_net_lacks drivers context ≡ false) × (some_net_lacks sinks context ≡ false)
    × (ends_open context ≡ false)
clean_end context number clean =
    go (ends_open context) (some_net_lacks drivers context) (some_net_lacks sinks context) clean
  where
    go : (begun undriven unended : Bool) → end_refused begun undriven unended number ≡ None
        → (undriven ≡ false) × (unended ≡ false) × (begun ≡ false)
    go true undriven unended none = absurd (let clash : Some (Bad number (code_of NoPinlist))
        ≡ None = none in cc)
    go false true unended none = absurd (let clash : Some (Bad number (code_of Drivers)) ≡ None =
        none in cc)
    go false false true none = absurd (let clash : Some (Bad number (code_of NoSink)) ≡ None =
        none in cc)
    go false false false none = (refl, refl, refl)

net_names : (global : Bytes → Bool) (all : List Use) (names : List Bytes)
    → map (λ (net : Net). net.name) (map (net_of global all) names) ≡ names
net_names global all [] = refl
net_names global all (name ∷ more) = ap (λ ns. name ∷ ns) (net_names global all more)

block_names : (nets : List Bytes) (blocks : List ListedBlock)
    → map (λ (b : Block). b.name) (map (block_of nets) blocks)
    ≡ map (λ (b : ListedBlock). b.name) blocks
block_names nets [] = refl
block_names nets (b ∷ more) = ap (λ ns. b.name ∷ ns) (block_names nets more)

pub sound : (draft : Progress) (number : ℕ) → IsKept draft → last_fault draft.context number ≡ None
    → IsSoundNetlist draft.context.arch (netlist_before draft.context)
sound draft number kept clean = record {
  net_count = subst (λ n. n ≤ NET_LIMIT) (entries ∙ sym nets) kept.net_count;
  block_count = subst (λ n. n ≤ BLOCK_LIMIT)
      (sym (mapped (block_of (nets_of uses)) draft.context.blocks)) (few_blocks draft kept);
  blocks = all-from_In (IsSoundBlock draft.context.arch (length (map (net_of global uses)
      (nets_of uses))))
      (map (block_of (nets_of uses)) draft.context.blocks)
      (λ block there. let b = from_In-map (block_of
      (nets_of uses)) draft.context.blocks block there in
      subst (IsSoundBlock draft.context.arch (length (map (net_of global uses) (nets_of uses)))) b.2
      (sound_block draft.context.arch draft.context.blocks (nets_of uses)
      (first_seen-apart (map (λ (u : Use). u.net) uses)) _ b.0 nets
      (In-all (HasPins draft.context.arch) draft.context.blocks b.0 kept.pins b.1)));
  nets = sound_net draft.context.arch draft.context.blocks global end.0 end.1;
  net_names = subst AreApart (sym (net_names global uses (nets_of uses)))
      (first_seen-apart (map (λ (u : Use). u.net) uses));
  block_names = subst AreApart (all_names ∙ sym (block_names (nets_of uses) draft.context.blocks))
      kept.apart;
}
  where
    global : Bytes → Bool
    global = is_global draft.context

    uses : List Use
    uses = uses_before draft.context

    end : (some_net_lacks drivers draft.context ≡ false)
        × (some_net_lacks sinks draft.context ≡ false) × (ends_open draft.context ≡ false)
    end = clean_end draft.context number clean

    mapped : {A B : Type 0} (f : A → B) (xs : List A) → length (map f xs) ≡ length xs
    mapped f xs = rw length-map refl

    nets : length (map (net_of global uses) (nets_of uses)) ≡ length (nets_of uses)
    nets = mapped (net_of global uses) (nets_of uses)

    entries : length draft.entries ≡ length (nets_of uses)
    entries = ap (λ (es : List Entry). length es) kept.entries
        ∙ mapped (entry_of global uses) (nets_of uses)

    all_names : draft.context.names ≡ map (λ (b : ListedBlock). b.name) draft.context.blocks
    all_names = kept.names ∙ ap (λ (o : Option BegunBlock). map (λ (b : ListedBlock). b.name)
        draft.context.blocks ++ option_to_list (option_map (λ (b : BegunBlock). b.name) o))
        (no_block draft.context.begun end.2)
        ∙ append-nil (map (λ (b : ListedBlock). b.name) draft.context.blocks)
