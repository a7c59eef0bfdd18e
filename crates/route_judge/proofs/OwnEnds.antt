-- The netlist that a text says, placed as a placement that was read, has own ends: no two sinks of
-- an ordinary net are one terminal.
use Rattle.std.proofs.Common.{◌≡◌, ◌≢◌, ℕ, zero, suc, ◌+◌, ◌<◌, Bool, true, false, Option, Some, None, List, [], ◌∷◌, ◌++◌, length, get_or, refl, sym, ap, subst, inl, inr, ◌∙◌, arith, zero-add}
use Rattle.std.specs.Prelude.{◌&&◌, ◌==◌, AllPairs, bytes_eq, filter, filter_map, flat_map, fold, map, not, option_and_then, option_map, option_to_list, slice_get, zip, if◌then◌else◌, ⊤, cond}
use Rattle.std.specs.List.{cons_option, enumerate_from, list_any}
use Rattle.std.specs.Option.{option_map_or}
use Rattle.std.proofs.lemmas.Bool.{and_from, cases_lt, eq-eqb, false≢true, or_parts}
use Rattle.std.proofs.lemmas.List.{append-nil}
use Rattle.std.proofs.lemmas.List.Kept.{AllPairs-cons}
use Rattle.std.proofs.lemmas.Option.{get_or_from_slice_get, slice_get-get_or, slice_get-map, slice_get_within}
use Rattle.list_laws.proofs.Members.{In, In-append_cases, all-from_In, from_In-filter, from_In-filter_map, from_In-flat_map, from_In-map, list_any-from_In}
use Rattle.list_laws.proofs.Numbered.{from_In-enumerate}
use Rattle.list_laws.proofs.Places.{get-cases, get-map, some_is}
use Rattle.fpga_text.specs.Bytes.{Bytes}
use Rattle.fpga_text.specs.Codes.{faults_from, line_fault}
use Rattle.fpga_text.specs.FirstFault.{IsFaultless, first_fault}
use Rattle.fpga_text.specs.Words.{TextLine, line_count, text_lines}
use Rattle.fpga_text.specs.declared.style.Style.TheVariants.{Joined}
use Rattle.fpga_text.proofs.FaultLemmas.{faultless-line}
use Rattle.fpga_net.specs.Codes.{BegunBlock, Context, before_all, behind, forms_of, globals_of, has_pair, is_class_shared, is_global, listed, net_codes, net_faults, numbered_forms, share_class}
use Rattle.fpga_net.specs.Forms.{Form, Begins, Pinlist, Subblock, Globals, Other, form_of}
use Rattle.fpga_net.specs.Sound.{IsSoundNetlist}
use Rattle.fpga_net.specs.Uses.{ListedBlock, Use, block_uses, is_open, nets_of, on_net, pad_pin, pins_of, sinks, use_of, uses_of}
use Rattle.fpga_net.specs.Value.{ReadsNet, block_of, context_of, net_of, net_value, netlist_before}
use Rattle.fpga_net.proofs.LineLemmas.{by_context}
use Rattle.fpga_types.specs.Placements.{HaveOwnNames, IsSoundPlacement}
use Rattle.fpga_types.specs.Places.{spot_of}
use Rattle.fpga_types.specs.Problem.{PlacedNetlist}
use Rattle.fpga_types.specs.Terminals.{class_at, pad_at, sinks_in, terminal_at, terminal_in}
use Rattle.fpga_types.proofs.NameLaws.{name_itself, same_name}
use Rattle.fpga_types.specs.declared.arch.Arch.{Arch}
use Rattle.fpga_types.specs.declared.arch.PinSpec.{PinSpec}
use Rattle.fpga_types.specs.declared.netlist.Block.{Block}
use Rattle.fpga_types.specs.declared.netlist.BlockKind.{BlockKind}
use Rattle.fpga_types.specs.declared.netlist.BlockKind.TheVariants.{Input, Output, Logic}
use Rattle.fpga_types.specs.declared.netlist.Net.{Net}
use Rattle.fpga_types.specs.declared.netlist.Netlist.{Netlist}
use Rattle.fpga_types.specs.declared.netlist.PinRef.{PinRef}
use Rattle.fpga_types.specs.declared.placement.Place.{Place}
use Rattle.fpga_types.specs.declared.placement.Placement.{Placement}
use Rattle.fpga_types.specs.declared.placement.Spot.TheVariants.{Block as BlockAt, Pad as PadAt}
use Rattle.fpga_types.specs.declared.problem.Terminal.{Terminal}
use Rattle.fpga_types.specs.declared.route.Label.TheVariants.{Class, Pad}
use Rattle.route_judge.specs.Says.{HasOwnEnds}
use Rattle.route_verify.proofs.CodeLemmas.{silent-codes}

-- the relation holds between each element and each later one; the same as std's AllPairs, but by
-- recursion on the list
abbrev ArePairs : {T : Type 0} → (T → T → Type 0) → List T → Type 0
ArePairs R [] = ⊤
ArePairs {T} R (x ∷ xs) = ((y : T) → In xs y → R x y) × ArePairs R xs

pairs-filter : {T : Type 0} (R : T → T → Type 0) (keeps : T → Bool) (xs : List T) → ArePairs R xs
    → ArePairs R (filter keeps xs)
pairs-filter R keeps [] pairs = tt
pairs-filter {T} R keeps (x ∷ xs) pairs = go (keeps x) (pairs-filter R keeps xs pairs.1)
  where
    go : (b : Bool) → ArePairs R (filter keeps xs)
        → ArePairs R (cond b (x ∷ filter keeps xs) (filter keeps xs))
    go true rest = (λ y i. pairs.0 y (from_In-filter keeps xs y i).0, rest)
    go false rest = rest

pairs-append : {T : Type 0} (R : T → T → Type 0) (xs ys : List T) → ArePairs R xs → ArePairs R ys
    → ((x y : T) → In xs x → In ys y → R x y) → ArePairs R (xs ++ ys)
pairs-append R [] ys first second across = second
pairs-append R (x ∷ xs) ys first second across = (
  λ y i. elim (In-append_cases xs ys y i) [
    | inl own ↦ first.0 y own
    | inr other ↦ across x y (inl refl) other
  ],
  pairs-append R xs ys first.1 second (λ z y i j. across z y (inr i) j),
)

-- no pair of them passes the test
pairs-none : {T : Type 0} (test : T → T → Bool) (xs : List T) → has_pair test xs ≡ false
    → ArePairs (λ x y. test x y ≡ true → ⊥) xs
pairs-none test [] none = tt
pairs-none test (x ∷ xs) none =
    let parts = or_parts (list_any (test x) xs) (has_pair test xs) none in (
      λ y i passes. false≢true (sym parts.0 ∙ list_any-from_In (test x) xs y i passes),
      pairs-none test xs parts.1,
    )

-- ---- no pinlist has an ordinary net on two pins of one class

abbrev IsWellListed : Context → Type 0
IsWellListed c = (m : ℕ) (b : ListedBlock) → slice_get c.blocks m ≡ Some b
    → has_pair (share_class (is_global c)) (block_uses c.arch m b) ≡ false

well-behind : (c : Context) (form : Form) → is_class_shared c form ≡ false → IsWellListed c
    → IsWellListed (behind c form)
well-behind c (Begins kind names) lone well = well
well-behind c Subblock lone well = well
well-behind c (Globals nets) lone well = well
well-behind c Other lone well = well
well-behind c (Pinlist nets) lone well = go c.begun refl
  where
    go : (o : Option BegunBlock) → c.begun ≡ o → (m : ℕ) (b : ListedBlock)
        → slice_get (c.blocks ++ option_to_list (option_map (listed nets) o)) m ≡ Some b
        → has_pair (share_class (is_global c)) (block_uses c.arch m b) ≡ false
    go None is m b at = well m b
        (sym (ap (λ (bs : List ListedBlock). slice_get bs m) (append-nil c.blocks)) ∙ at)
    go (Some begun) is m b at = elim (get-cases c.blocks (listed nets begun) b m at) [
      | inl last ↦
          (λ i. has_pair (share_class (is_global c)) (block_uses c.arch (last.0 i)
          (sym last.1 i)))
          ∙ sym (ap (λ (o : Option BegunBlock). has_pair (share_class (is_global c))
          (option_map_or (λ block. block_uses c.arch (length c.blocks) (listed nets block)) o []))
          is) ∙ lone
      | inr earlier ↦ well m b earlier
    ]

arch-behind : (c : Context) (form : Form) → (behind c form).arch ≡ c.arch
arch-behind c (Begins kind names) = refl
arch-behind c Subblock = refl
arch-behind c (Globals nets) = refl
arch-behind c Other = refl
arch-behind c (Pinlist nets) = refl

all-well : (arch : Arch) (globals : List Bytes) (c : Context) (lines : List TextLine) (end : ℕ)
    → IsWellListed c
    → IsFaultless (faults_from behind (net_codes arch globals) c (numbered_forms lines) end)
    → IsWellListed (fold behind c (forms_of lines))
    × ((fold behind c (forms_of lines)).arch ≡ c.arch)
all-well arch globals c [] end well clean = (well, refl)
all-well arch globals c (line ∷ lines) end well clean =
    let form : Form = form_of line.words in
    let codes = net_codes arch globals in
    let parts = faultless-line (line_fault codes c line.number form)
    (faults_from behind codes (behind c form) (numbered_forms lines) end) clean in
    let silent = silent-codes c form codes.of_line line.number parts.0 in
    let rest = all-well arch globals (behind c form) lines end
    (well-behind c form silent.1.1.1.1.1.0 well) parts.1 in
    (rest.0, rest.1 ∙ arch-behind c form)

-- ---- the pins that nets are on

get-zip : {A B : Type 0} (xs : List A) (ys : List B) (k : ℕ) (z : A × B)
    → slice_get (zip xs ys) k ≡ Some z → slice_get xs k ≡ Some z.0
get-zip [] ys k z at = cc
get-zip (x ∷ xs) [] k z at = cc
get-zip {A} {B} (x ∷ xs) (y ∷ ys) zero z at =
    ap (λ (p : A × B). Some p.0) (some_is at)
get-zip (x ∷ xs) (y ∷ ys) (suc k) z at = get-zip xs ys k z at

-- the pin is one of a block of this kind, which has this number
record IsOnBlock (arch : Arch) (kind : BlockKind) (m : ℕ) (u : Use) : Type 0 where
  block : u.at.block ≡ m
  pin : slice_get (pins_of arch kind) u.at.pin ≡ Some u.pin

on-block : (arch : Arch) (m : ℕ) (b : ListedBlock) (u : Use) → In (block_uses arch m b) u
    → IsOnBlock arch b.kind m u
on-block arch m b u among =
    let made = from_In-filter_map (use_of m) (enumerate_from 0 (zip (pins_of arch b.kind) b.nets))
    u among in
    let place = from_In-enumerate 0 (zip (pins_of arch b.kind) b.nets) made.0 made.1 in
    go made.0 (is_open made.0.1.1) made.2 (get-zip (pins_of arch b.kind) b.nets made.0.0 made.0.1
    (ap (slice_get (zip (pins_of arch b.kind) b.nets)) (place.1 ∙ zero-add place.0) ∙ place.2))
  where
    go : (p : ℕ × (PinSpec × Bytes)) (open_word : Bool)
        → (if open_word then None
        else Some (record { at = record { block = m; pin = p.0 }; pin = p.1.0; net = p.1.1 }))
        ≡ Some u → slice_get (pins_of arch b.kind) p.0 ≡ Some p.1.0
        → IsOnBlock arch b.kind m u
    go p true is at = cc
    go p false is at = subst (IsOnBlock arch b.kind m) (some_is is) (record {
      block = refl;
      pin = at;
    })

pad-class : (output : Bool) (k : ℕ) (pin : PinSpec)
    → slice_get (pad_pin output ∷ []) k ≡ Some pin → pin.class ≡ 0
pad-class output zero pin at = ap (λ (p : PinSpec). p.class) (sym (some_is at))
pad-class output (suc k) pin at = cc

-- the class of a pin at a terminal is that of the terminal, or that of pads
class-at : (arch : Arch) (kind : BlockKind) (u v : Use) (place : Place) (s : Terminal)
    → slice_get (pins_of arch kind) u.at.pin ≡ Some u.pin
    → slice_get (pins_of arch kind) v.at.pin ≡ Some v.pin
    → terminal_at arch kind u.at.pin place ≡ Some s → terminal_at arch kind v.at.pin place ≡ Some s
    → u.pin.class ≡ v.pin.class
class-at arch Logic u v place s first second one two =
    let p : Some (class_at place u.pin) ≡ Some s =
    sym (ap (option_map (class_at place)) first) ∙ one in
    let q : Some (class_at place v.pin) ≡ Some s =
    sym (ap (option_map (class_at place)) second) ∙ two in
    ap (λ (t : Terminal). t.number) (some_is p ∙ sym (some_is q))
class-at arch Input u v place s first second one two =
    pad-class true u.at.pin u.pin first ∙ sym (pad-class true v.at.pin v.pin second)
class-at arch Output u v place s first second one two =
    pad-class false u.at.pin u.pin first ∙ sym (pad-class false v.at.pin v.pin second)

pads : (p q : Place) (s : Terminal) → Some (pad_at p) ≡ Some s → Some (pad_at q) ≡ Some s
    → PadAt p.x p.y p.sub ≡ PadAt q.x q.y q.sub
pads p q s first second =
    let same = some_is first ∙ sym (some_is second) in
    λ i. PadAt (same i).x (same i).y (same i).number

class-no-pad : (arch : Arch) (k : ℕ) (p q : Place) (s : Terminal)
    → option_map (class_at p) (slice_get arch.pins k) ≡ Some s → Some (pad_at q) ≡ Some s → ⊥
class-no-pad arch k p q s first second = go (slice_get arch.pins k) first
  where
    go : (o : Option PinSpec) → option_map (class_at p) o ≡ Some s → ⊥
    go None h = cc
    go (Some x) h =
        let same : Class ≡ Pad =
        ap (λ (t : Terminal). t.label) (some_is h ∙ sym (some_is second)) in cc

-- blocks with one terminal take up one spot
one-spot : (arch : Arch) (a b : BlockKind) (k l : ℕ) (p q : Place) (s : Terminal)
    → terminal_at arch a k p ≡ Some s → terminal_at arch b l q ≡ Some s → spot_of a p ≡ spot_of b q
one-spot arch Logic Logic k l p q s first second =
    go (slice_get arch.pins k) (slice_get arch.pins l) first second
  where
    go : (o w : Option PinSpec) → option_map (class_at p) o ≡ Some s
        → option_map (class_at q) w ≡ Some s → BlockAt p.x p.y ≡ BlockAt q.x q.y
    go None w h g = cc
    go (Some x) None h g = cc
    go (Some x) (Some y) h g =
        let same = some_is h ∙ sym (some_is g) in
        λ i. BlockAt (same i).x (same i).y
one-spot arch Logic Input k l p q s first second =
    absurd (class-no-pad arch k p q s first second)
one-spot arch Logic Output k l p q s first second =
    absurd (class-no-pad arch k p q s first second)
one-spot arch Input Logic k l p q s first second =
    absurd (class-no-pad arch l q p s second first)
one-spot arch Output Logic k l p q s first second =
    absurd (class-no-pad arch l q p s second first)
one-spot arch Input Input k l p q s first second = pads p q s first second
one-spot arch Input Output k l p q s first second = pads p q s first second
one-spot arch Output Input k l p q s first second = pads p q s first second
one-spot arch Output Output k l p q s first second = pads p q s first second

module _ (c : Context) (well : IsWellListed c) (placement : Placement)
    (sound : IsSoundPlacement c.arch (netlist_before c) placement)
    (names : HaveOwnNames (netlist_before c).blocks) where
  abbrev placed : PlacedNetlist
  placed = record { arch = c.arch; netlist = netlist_before c; placement = placement }

  -- two pins with one ordinary net are of two terminals
  abbrev AreApart : Use → Use → Type 0
  AreApart u v = bytes_eq u.net v.net ≡ true → is_global c u.net ≡ false → (s : Terminal)
      → terminal_in placed u.at ≡ Some s → terminal_in placed v.at ≡ Some s → ⊥

  -- where a terminal is
  record IsAt (pin : PinRef) (s : Terminal) : Type 0 where
    block : Block
    here : slice_get placed.netlist.blocks pin.block ≡ Some block
    place : Place
    stands : slice_get placement.places pin.block ≡ Some place
    is : terminal_at c.arch block.kind pin.pin place ≡ Some s

  is-at : (pin : PinRef) (s : Terminal) → terminal_in placed pin ≡ Some s → IsAt pin s
  is-at pin s is = go (slice_get placed.netlist.blocks pin.block)
      (slice_get placement.places pin.block) refl refl is
    where
      go : (o : Option Block) (w : Option Place)
          → slice_get placed.netlist.blocks pin.block ≡ o
          → slice_get placement.places pin.block ≡ w
          → option_and_then (λ (block : Block).
          option_and_then (terminal_at c.arch block.kind pin.pin) w) o ≡ Some s → IsAt pin s
      go None w here stands h = cc
      go (Some block) None here stands h = cc
      go (Some block) (Some place) here stands h = record {
        block = block;
        here = here;
        place = place;
        stands = stands;
        is = h;
      }

  -- the kind of a block is that of the listed one
  kind-is : (m : ℕ) (b : ListedBlock) (block : Block) → slice_get c.blocks m ≡ Some b
      → slice_get placed.netlist.blocks m ≡ Some block → block.kind ≡ b.kind
  kind-is m b block at here =
      let made = get-map (block_of (nets_of (uses_of c.arch c.blocks))) c.blocks m block here in
      let one : made.0 ≡ b = some_is (sym made.1 ∙ at) in
      sym (ap (λ (x : Block). x.kind) made.2) ∙ ap (λ (x : ListedBlock). x.kind) one

  -- of one block
  block-apart : (m : ℕ) (b : ListedBlock) → slice_get c.blocks m ≡ Some b
      → ArePairs AreApart (block_uses c.arch m b)
  block-apart m b at = go (block_uses c.arch m b) (λ u i. i)
      (pairs-none (share_class (is_global c)) (block_uses c.arch m b) (well m b at))
    where
      clash : (u v : Use) → IsOnBlock c.arch b.kind m u → IsOnBlock c.arch b.kind m v
          → (share_class (is_global c) u v ≡ true → ⊥) → AreApart u v
      clash u v of_u of_v none same ordinary s first second =
          let p = is-at u.at s first in
          let q = is-at v.at s second in
          let kind_p = kind-is m b p.block at
          (ap (slice_get placed.netlist.blocks) (sym of_u.block) ∙ p.here) in
          let kind_q = kind-is m b q.block at
          (ap (slice_get placed.netlist.blocks) (sym of_v.block) ∙ q.here) in
          let place : q.place ≡ p.place = some_is (sym q.stands
          ∙ ap (slice_get placement.places) (of_v.block ∙ sym of_u.block) ∙ p.stands) in
          let class = class-at c.arch b.kind u v p.place s of_u.pin of_v.pin
          (sym (λ i. terminal_at c.arch (kind_p i) u.at.pin p.place) ∙ p.is)
          (sym (λ i. terminal_at c.arch (kind_q i) v.at.pin (place i)) ∙ q.is) in
          none (and_from (u.pin.class == v.pin.class && bytes_eq u.net v.net)
          (not (is_global c u.net))
          (and_from (u.pin.class == v.pin.class) (bytes_eq u.net v.net)
          (eq-eqb u.pin.class v.pin.class class) same)
          (ap not ordinary))

      go : (us : List Use) → ((u : Use) → In us u → In (block_uses c.arch m b) u)
          → ArePairs (λ u v. share_class (is_global c) u v ≡ true → ⊥) us → ArePairs AreApart us
      go [] among none = tt
      go (u ∷ us) among none = (
        λ v i. clash u v (on-block c.arch m b u (among u (inl refl)))
            (on-block c.arch m b v (among v (inr i))) (none.0 v i),
        go us (λ v i. among v (inr i)) none.1,
      )

  -- of two blocks
  across : (m n : ℕ) (b d : ListedBlock) (u v : Use) → m < n → In (block_uses c.arch m b) u
      → In (block_uses c.arch n d) v → AreApart u v
  across m n b d u v before of_u of_v same ordinary s first second =
      let p = is-at u.at s first in
      let q = is-at v.at s second in
      let on_u = on-block c.arch m b u of_u in
      let on_v = on-block c.arch n d v of_v in
      (sound.lawful names).apart m n p.block q.block p.place q.place before (record {
        block_is = ap (slice_get placed.netlist.blocks) (sym on_u.block) ∙ p.here;
        place_is = ap (slice_get placement.places) (sym on_u.block) ∙ p.stands;
      })
      (record {
        block_is = ap (slice_get placed.netlist.blocks) (sym on_v.block) ∙ q.here;
        place_is = ap (slice_get placement.places) (sym on_v.block) ∙ q.stands;
      })
      (one-spot c.arch p.block.kind q.block.kind u.at.pin v.at.pin p.place q.place s p.is q.is)

  abbrev uses_at : ℕ × ListedBlock → List Use
  uses_at b = block_uses c.arch b.0 b.1

  uses-apart : (first : ℕ) (rest : List ListedBlock)
      → ((k : ℕ) (b : ListedBlock) → slice_get rest k ≡ Some b
      → slice_get c.blocks (first + k) ≡ Some b)
      → ArePairs AreApart (flat_map uses_at (enumerate_from first rest))
  uses-apart first [] there = tt
  uses-apart first (b ∷ rest) there =
      pairs-append AreApart (block_uses c.arch first b)
      (flat_map uses_at (enumerate_from (first + 1) rest))
      (block-apart first b (ap (slice_get c.blocks) (sym (omega arith)) ∙ there 0 b refl))
      (uses-apart (first + 1) rest (λ k d at.
      ap (slice_get c.blocks) (omega arith) ∙ there (suc k) d at))
      (λ u v of_u of_v.
      let made = from_In-flat_map uses_at (enumerate_from (first + 1) rest) v of_v in
      let place = from_In-enumerate (first + 1) rest made.0 made.1 in
      across first made.0.0 b made.0.1 u v (omega (arith, place.1)) of_u made.2)

  -- the terminals of some pins with one ordinary net
  terminals-apart : (name : Bytes) → is_global c name ≡ false → (us : List Use)
      → ((u : Use) → In us u → bytes_eq u.net name ≡ true) → ArePairs AreApart us
      → AllPairs (λ (s t : Terminal). s ≢ t)
      (filter_map (terminal_in placed) (map (λ (u : Use). u.at) us))
  terminals-apart name ordinary [] own pairs = λ i j d before inside. absurd (omega (arith, inside))
  terminals-apart name ordinary (u ∷ us) own pairs = go (terminal_in placed u.at) refl
      (terminals-apart name ordinary us (λ v i. own v (inr i)) pairs.1)
    where
      go : (o : Option Terminal) → terminal_in placed u.at ≡ o
          → AllPairs (λ (s t : Terminal). s ≢ t)
          (filter_map (terminal_in placed) (map (λ (v : Use). v.at) us))
          → AllPairs (λ (s t : Terminal). s ≢ t) (cons_option o
          (filter_map (terminal_in placed) (map (λ (v : Use). v.at) us)))
      go None is rest = rest
      go (Some s) is rest = AllPairs-cons (λ (s t : Terminal). s ≢ t) s
          (filter_map (terminal_in placed) (map (λ (v : Use). v.at) us))
          (all-from_In (λ (t : Terminal). s ≢ t)
          (filter_map (terminal_in placed) (map (λ (v : Use). v.at) us)) (λ t i same.
          let pin = from_In-filter_map (terminal_in placed) (map (λ (v : Use). v.at) us) t i in
          let v = from_In-map (λ (v : Use). v.at) us pin.0 pin.1 in
          let name_u = same_name u.net name (own u (inl refl)) in
          let name_v = same_name v.0.net name (own v.0 (inr v.1)) in
          pairs.0 v.0 v.1
          ((λ k. bytes_eq (name_u k) (name_v k)) ∙ name_itself name)
          (ap (is_global c) name_u ∙ ordinary) s is
          (ap (terminal_in placed) v.2 ∙ pin.2 ∙ ap (λ (r : Terminal). Some r) (sym same))))
          rest

  ends-apart : (number : ℕ) (net : Net) → slice_get placed.netlist.nets number ≡ Some net
      → net.global ≡ false → AllPairs (λ (s t : Terminal). s ≢ t) (sinks_in placed net)
  ends-apart number net here ordinary =
      let uses : List Use = uses_of c.arch c.blocks in
      let made = get-map (net_of (is_global c) uses) (nets_of uses) number net here in
      let name : Bytes = made.0 in
      subst (λ (n : Net). AllPairs (λ (s t : Terminal). s ≢ t) (sinks_in placed n)) made.2
      (terminals-apart name (ap (λ (n : Net). n.global) made.2 ∙ ordinary)
      (on_net name (sinks uses))
      (λ u i. (from_In-filter (λ (v : Use). bytes_eq v.net name) (sinks uses) u i).1)
      (pairs-filter AreApart (λ (v : Use). bytes_eq v.net name) (sinks uses)
      (pairs-filter AreApart (λ (v : Use). not v.pin.output) uses
      (uses-apart 0 c.blocks (λ k b at. ap (slice_get c.blocks) (zero-add k) ∙ at)))))

-- from names of one's own
names-apart : {T : Type 0} (name_of : T → Bytes) (xs : List T)
    → AllPairs (λ (a b : Bytes). a ≢ b) (map name_of xs)
    → AllPairs (λ (a b : T). name_of a ≢ name_of b) xs
names-apart {T} name_of xs apart i j d before inside same =
    let at_i = slice_get-get_or xs i d (omega (arith, before, inside)) in
    let at_j = slice_get-get_or xs j d inside in
    let one : slice_get (map name_of xs) i ≡ Some (name_of (get_or xs i d)) =
    slice_get-map name_of xs i ∙ ap (option_map name_of) at_i in
    let two : slice_get (map name_of xs) j ≡ Some (name_of (get_or xs j d)) =
    slice_get-map name_of xs j ∙ ap (option_map name_of) at_j in
    apart i j [] before (slice_get_within (map name_of xs) j (name_of (get_or xs j d)) two)
    (get_or_from_slice_get (map name_of xs) i (name_of (get_or xs i d)) [] one ∙ same
    ∙ sym (get_or_from_slice_get (map name_of xs) j (name_of (get_or xs j d)) [] two))

pub own-ends : (arch : Arch) (text : Bytes) (netlist : Netlist) (placement : Placement)
    → ReadsNet arch text netlist → IsSoundNetlist arch netlist
    → IsSoundPlacement arch netlist placement
    → HasOwnEnds (record { arch = arch; netlist = netlist; placement = placement })
own-ends arch text netlist placement reads whole sound =
    let lines : List TextLine = text_lines Joined text in
    let globals : List Bytes = globals_of lines in
    let c : Context = context_of arch lines in
    let clean : IsFaultless (faults_from behind (net_codes arch globals) (before_all arch globals)
    (numbered_forms lines) (line_count text + 1)) =
    sym (ap first_fault (by_context arch lines (line_count text))) ∙ reads.0 in
    let well = all-well arch globals (before_all arch globals) lines (line_count text + 1)
    (λ m b at. absurd (let clash : None ≡ Some b = at in cc)) clean in
    let sound_c : IsSoundPlacement c.arch (netlist_before c) placement =
    subst (λ (n : Netlist). IsSoundPlacement c.arch n placement) reads.1
    (subst (λ (a : Arch). IsSoundPlacement a netlist placement) (sym well.1) sound) in
    let names : HaveOwnNames (netlist_before c).blocks =
    subst (λ (n : Netlist). HaveOwnNames n.blocks) reads.1
    (names-apart (λ (b : Block). b.name) netlist.blocks whole.block_names) in
    record {
      names = names-apart (λ (n : Net). n.name) netlist.nets whole.net_names;
      ends = subst (λ (n : Netlist). (number : ℕ) (net : Net)
          → slice_get n.nets number ≡ Some net → net.global ≡ false
          → AllPairs (λ (s t : Terminal). s ≢ t)
          (sinks_in (record { arch = arch; netlist = n; placement = placement }) net))
          (sym reads.1)
          (subst (λ (a : Arch). (number : ℕ) (net : Net)
          → slice_get (netlist_before c).nets number ≡ Some net → net.global ≡ false
          → AllPairs (λ (s t : Terminal). s ≢ t)
          (sinks_in (record { arch = a; netlist = netlist_before c; placement = placement }) net))
          well.1 (ends-apart c well.0 placement sound_c names));
    }
