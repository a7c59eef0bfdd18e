-- Lines without a fault read as a sound route.
use Rattle.std.proofs.Common.{◌≡◌, ℕ, ◌+◌, ◌≤◌, ◌<◌, ◌++◌, Bool, true, false, List, [], ◌∷◌, length, Option, Some, None, refl, sym, subst, ◌∙◌, arith}
use Rattle.std.specs.Prelude.{All, map, filter, option_map, unwrap_or, not, ◌==◌, ◌&&◌, cond, if◌then◌else◌}
use Rattle.std.specs.List.{enumerate_from}
use Rattle.std.specs.Option.{option_map_or, option_or}
use Rattle.std.proofs.lemmas.List.Elements.{All-cons, All-nil}
use Rattle.std.proofs.lemmas.List.Sums.{take_while-cons}
use Rattle.fpga_types.specs.Size.{Size}
use Rattle.fpga_types.specs.Sound.{has_place, IsSoundElem, IsSoundNet, RisesWithin, net_numbers}
use Rattle.fpga_types.specs.declared.limits.TheConstants.{NET_LIMIT}
use Rattle.fpga_types.specs.declared.route.Elem.{Elem}
use Rattle.fpga_text.specs.Bytes.{Bytes, is_empty}
use Rattle.fpga_text.specs.Codes.{faults_from}
use Rattle.fpga_text.specs.FirstFault.{Faults, IsFaultless}
use Rattle.fpga_text.specs.Numbers.{whole_number_of}
use Rattle.fpga_text.specs.Words.{TextLine, text_line}
use Rattle.fpga_text.specs.declared.fault.TextFault.TheVariants.{Bad, Limit}
use Rattle.fpga_text.specs.declared.style.Style.{Style}
use Rattle.fpga_text.proofs.FaultLemmas.{faultless-line}
use Rattle.fpga_route.specs.declared.standing.Standing.{Standing}
use Rattle.fpga_route.specs.Codes.{behind, is_number, is_32_bits, is_misplaced, lacks_elem, later_forms, number_of, route_codes}
use Rattle.fpga_route.specs.Forms.{NetWords, ElemWords, Form, Array, Routing, Net, Elem as ElemForm, Block, later_form}
use Rattle.fpga_route.specs.Standings.{context_at, later_fault}
use Rattle.fpga_route.specs.Value.{begins_net, elem_of, elems_of, kept_of, net_of, nets_of, own_lines, with_net}
use Rattle.fpga_route.proofs.FormLemmas.{is_later, later_form-later, takes-elem}

-- the faults of lines that stand here, and of the end, which has this number
abbrev pub faults_at : Standing → List TextLine → ℕ → Faults
faults_at at lines end = faults_from behind route_codes (context_at at) (later_forms lines) end

-- where the lines behind a line of this form stand
abbrev pub standing_behind : Standing → Form → Standing
standing_behind at (Net net) = record at { nets = at.nets + 1; in_global = Some net.global }
standing_behind at _ = at

-- a line has no fault, and neither have those behind it
pub record IsClean (at : Standing) (line : TextLine) (form : Form) (more : List TextLine) (end : ℕ)
    : Type 0 where
  pub here : later_fault at line.number form ≡ None
  pub rest : IsFaultless (faults_at (standing_behind at form) more end)

context-behind : (at : Standing) (form : Form) → is_later form ≡ true
    → behind (context_at at) form ≡ context_at (standing_behind at form)
context-behind at (Array size) later = absurd (let clash : false ≡ true = later in cc)
context-behind at Routing later = absurd (let clash : false ≡ true = later in cc)
context-behind at (Net net) later = refl
context-behind at _ later = refl

-- where lines have no fault, the first has none, and neither have the others
pub no_fault : (at : Standing) (line : TextLine) (more : List TextLine) (end : ℕ)
    → IsFaultless (faults_at at (line ∷ more) end)
    → IsClean at line (later_form line.words) more end
no_fault at line more end clean =
    let parts = faultless-line (later_fault at line.number (later_form line.words))
    (faults_from behind route_codes (behind (context_at at) (later_form line.words))
    (later_forms more) end) clean in
    record {
      here = parts.0;
      rest = subst (λ context. IsFaultless
          (faults_from behind route_codes context (later_forms more) end))
          (context-behind at (later_form line.words) (later_form-later line.words)) parts.1;
    }

-- numbers that are there stand for themselves
pub placed : (x y : Option ℕ) (number : Bool) (fits : ℕ → Bool) (misplaced : ℕ → ℕ → Bool)
    → not (option_map_or fits x false && option_map_or fits y false && number) ≡ false
    → option_map_or (λ m. option_map_or (misplaced m) y false) x false ≡ false
    → misplaced (unwrap_or x 0) (unwrap_or y 0) ≡ false
placed None y number fits misplaced there here = absurd (let clash : true ≡ false = there in cc)
placed (Some x) None number fits misplaced there here = absurd (go (fits x) there)
  where
    go : (b : Bool) → not (b && false && number) ≡ false → ⊥
    go true e = let clash : true ≡ false = e in cc
    go false e = let clash : true ≡ false = e in cc
placed (Some x) (Some y) number fits misplaced there here = here

-- what an element line without a fault has passed
pub record Passed (at : Standing) (e : ElemWords) : Type 0 where
  pub there : lacks_elem e ≡ false
  pub ordinary : option_map_or not at.in_global false ≡ true
  pub here : is_misplaced at.grid e ≡ false

pub passed : (at : Standing) (line : ℕ) (e : ElemWords) → later_fault at line (ElemForm e) ≡ None
    → Passed at e
passed at line e clean =
    go (lacks_elem e) (option_map_or not at.in_global false) (is_misplaced at.grid e) refl refl refl
    clean
  where
    go : (a b c : Bool) → lacks_elem e ≡ a → option_map_or not at.in_global false ≡ b
        → is_misplaced at.grid e ≡ c
        → (if a then Some (Bad line 403) else if not b then Some (Bad line 405)
        else if c then Some (Bad line 406) else None) ≡ None → Passed at e
    go true b c p q r f = absurd (let clash : Some (Bad line 403) ≡ None = f in cc)
    go false false c p q r f = absurd (let clash : Some (Bad line 405) ≡ None = f in cc)
    go false true true p q r f = absurd (let clash : Some (Bad line 406) ≡ None = f in cc)
    go false true false p q r f = record { there = p; ordinary = q; here = r }

-- a test that does not fail is passed
not_false : (b : Bool) → not b ≡ false → b ≡ true
not_false true e = refl
not_false false e = absurd (let clash : true ≡ false = e in cc)

-- its element may stand where it stands
pub sound_elem : (at : Standing) (line : TextLine) (e : ElemWords) → later_form line.words
    ≡ ElemForm e
    → Passed at e → IsSoundElem at.grid (elem_of line.number e)
sound_elem at line e is facts = record {
  label = takes-elem line.words e is;
  place = not_false (has_place at.grid e.kind (number_of e.x) (number_of e.y))
      (placed (whole_number_of e.x) (whole_number_of e.y) (is_number is_32_bits e.number)
      is_32_bits (λ x y. not (has_place at.grid e.kind x y)) facts.there facts.here);
}

-- the elements and the kept lines of a net that is global or not
pub record AreOwn (grid : Size) (global : Bool) (elems : List Elem)
    (kept : List Bytes) : Type 0 where
  pub in_place : All (IsSoundElem grid) elems
  pub no_elems : global ≡ true → elems ≡ []
  pub no_kept : global ≡ false → kept ≡ []

none_own : (grid : Size) (global : Bool) → AreOwn grid global [] []
none_own grid global =
    record { in_place = All-nil (IsSoundElem grid); no_elems = λ e. refl; no_kept = λ e. refl }

-- an element line stands in a net that is not global
ordinary_global : (global : Bool) → not global ≡ true → global ≡ false
ordinary_global true said = absurd (let clash : false ≡ true = said in cc)
ordinary_global false said = refl

-- a Block line stands in a global net
block_global : (line : ℕ) (global : Bool)
    → (if not global then Some (Bad line 402) else None) ≡ None → global ≡ true
block_global line true clean = refl
block_global line false clean = absurd (let clash : Some (Bad line 402) ≡ None = clean in cc)

-- what stands in this net
abbrev pub in_net : Size → ℕ → Bool → Standing
in_net grid nets global = record { grid = grid; nets = nets; in_global = Some global }

-- the own lines of a net
pub own_sound : (grid : Size) (nets : ℕ) (global : Bool) (lines : List TextLine) (end : ℕ)
    → IsFaultless (faults_at (in_net grid nets global) lines end)
    → AreOwn grid global (elems_of (own_lines lines)) (kept_of (own_lines lines))
own_sound grid nets global [] end clean = none_own grid global
own_sound grid nets global (line ∷ more) end clean =
    let line_clean = no_fault (in_net grid nets global) line more end clean in
    rw (take_while-cons (λ (l : TextLine). not (begins_net (later_form l.words))) line more)
    (go (later_form line.words) refl line_clean (own_sound grid nets global more end))
  where
    at : Standing
    at = in_net grid nets global

    Own : List TextLine → Type 0
    Own lines = AreOwn grid global (elems_of lines) (kept_of lines)

    go : (form : Form) → later_form line.words ≡ form → IsClean at line form more end
        → (IsFaultless (faults_at at more end)
        → AreOwn grid global (elems_of (own_lines more)) (kept_of (own_lines more)))
        → AreOwn grid global
        (elems_of (if not (begins_net form) then line ∷ own_lines more else []))
        (kept_of (if not (begins_net form) then line ∷ own_lines more else []))
    go (Net net) is c later = none_own grid global
    go (ElemForm e) is c later =
        let facts = passed at line.number e c.here in
        let own = later c.rest in
        let ordinary : global ≡ false = ordinary_global global facts.ordinary in
        rw is (record {
          in_place = All-cons (IsSoundElem grid) (elem_of line.number e) (elems_of (own_lines more))
              (sound_elem at line e is facts) own.in_place;
          no_elems = λ e. absurd (let clash : true ≡ false = sym e ∙ ordinary in cc);
          no_kept = own.no_kept;
        })
    go Block is c later =
        let own = later c.rest in
        let is_global : global ≡ true = block_global line.number global c.here in
        rw is (record {
          in_place = own.in_place;
          no_elems = own.no_elems;
          no_kept = λ e. absurd (let clash : true ≡ false = sym is_global ∙ e in cc);
        })
    go _ is c later = rw is (later c.rest)

-- lines without a fault read as sound nets
pub nets_sound : (at : Standing) (lines : List TextLine) (end : ℕ)
    → IsFaultless (faults_at at lines end) → All (IsSoundNet at.grid) (nets_of lines)
nets_sound at [] end clean = All-nil (IsSoundNet at.grid)
nets_sound at (line ∷ more) end clean =
    let line_clean = no_fault at line more end clean in
    go (later_form line.words) line_clean (λ next. nets_sound next more end)
  where
    go : (form : Form) → IsClean at line form more end
        → ((next : Standing) → IsFaultless (faults_at next more end)
        → All (IsSoundNet next.grid) (nets_of more))
        → All (IsSoundNet at.grid) (with_net form line.number more (nets_of more))
    go (Net net) c later =
        let own = own_sound at.grid (at.nets + 1) net.global more end c.rest in
        All-cons (IsSoundNet at.grid) (net_of net line.number (own_lines more)) (nets_of more)
        (record { elems = own.in_place; global_elems = own.no_elems; ordinary_kept = own.no_kept })
        (later (standing_behind at (Net net)) c.rest)
    go _ c later = later at c.rest

-- a Net line without a fault comes before the limit
below_limit : (at : Standing) (line : ℕ) (net : NetWords) → later_fault at line (Net net) ≡ None
    → at.nets ≤ NET_LIMIT → at.nets + 1 ≤ NET_LIMIT
below_limit at line net clean most =
    go (not (is_number (λ _. true) net.k)) (at.nets == NET_LIMIT) refl clean
  where
    go : (a b : Bool) → (at.nets == NET_LIMIT) ≡ b
        → (if a then Some (Bad line 403) else option_or (option_map (λ n. Limit 407 n)
        (if b then Some (at.nets + 1) else None)) None) ≡ None → at.nets + 1 ≤ NET_LIMIT
    go true b e f = absurd (let clash : Some (Bad line 403) ≡ None = f in cc)
    go false true e f = absurd (let clash : Some (Limit 407 (at.nets + 1)) ≡ None = f in cc)
    go false false e f = grind (arith, most)

-- and there are no more than may be
pub nets_limited : (at : Standing) (lines : List TextLine) (end : ℕ)
    → IsFaultless (faults_at at lines end) → at.nets ≤ NET_LIMIT
    → length (nets_of lines) + at.nets ≤ NET_LIMIT
nets_limited at [] end clean most = omega (arith, most)
nets_limited at (line ∷ more) end clean most =
    let line_clean = no_fault at line more end clean in
    go (later_form line.words) line_clean (λ next. nets_limited next more end)
  where
    go : (form : Form) → IsClean at line form more end
        → ((next : Standing) → IsFaultless (faults_at next more end) → next.nets ≤ NET_LIMIT
        → length (nets_of more) + next.nets ≤ NET_LIMIT)
        → length (with_net form line.number more (nets_of more)) + at.nets ≤ NET_LIMIT
    go (Net net) c later =
        let rest = later (standing_behind at (Net net)) c.rest
        (below_limit at line.number net c.here most) in
        omega (arith, rest)
    go _ c later = later at c.rest most

-- numbers that rise from above a number rise from above a lower one
pub rises-lower : (low mid high : ℕ) (ns : List ℕ) → low ≤ mid → RisesWithin mid high ns
    → RisesWithin low high ns
rises-lower low mid high [] below h = tt
rises-lower low mid high (n ∷ more) below h = (omega (arith, h.0, below), h.1, h.2)

-- and so do the later ones
pub rises-later : (low high : ℕ) (ms ns : List ℕ) → RisesWithin low high (ms ++ ns)
    → RisesWithin low high ns
rises-later low high [] ns h = h
rises-later low high (m ∷ ms) ns h =
    rises-lower low m high ns (omega (arith, h.0)) (rises-later m high ms ns h.2)

-- the lines of a text are numbered in their order
pub lines_rise : (style : Style) (low first high : ℕ) (raws : List Bytes) → low < first
    → first + length raws ≤ high + 1
    → RisesWithin low high (map (λ (l : TextLine). l.number)
    (filter (λ (l : TextLine). not (is_empty l.words))
    (map (λ l. text_line style l.0 l.1) (enumerate_from first raws))))
lines_rise style low first high [] below within = tt
lines_rise style low first high (raw ∷ more) below within =
    go (not (is_empty (text_line style first raw).words))
    (lines_rise style first (first + 1) high more (omega arith) (omega (arith, within)))
    (lines_rise style low (first + 1) high more (omega (arith, below)) (omega (arith, within)))
  where
    rest : List TextLine
    rest = filter (λ (l : TextLine). not (is_empty l.words))
        (map (λ l. text_line style l.0 l.1) (enumerate_from (first + 1) more))

    go : (b : Bool) → RisesWithin first high (map (λ (l : TextLine). l.number) rest)
        → RisesWithin low high (map (λ (l : TextLine). l.number) rest)
        → RisesWithin low high (map (λ (l : TextLine). l.number)
        (cond b (text_line style first raw ∷ rest) rest))
    go true seen unseen = (below, omega (arith, within), seen)
    go false seen unseen = unseen

-- the own lines of a net and those of the nets that follow keep that order
pub nets_rise : (low high : ℕ) (lines : List TextLine)
    → RisesWithin low high (map (λ (l : TextLine). l.number) lines)
    → RisesWithin low high
    (map (λ (e : Elem). e.line) (elems_of (own_lines lines)) ++ net_numbers (nets_of lines))
nets_rise low high [] h = tt
nets_rise low high (line ∷ more) h =
    rw (take_while-cons (λ (l : TextLine). not (begins_net (later_form l.words))) line more)
    (go (later_form line.words) refl (nets_rise line.number high more h.2))
  where
    go : (form : Form) → later_form line.words ≡ form
        → RisesWithin line.number high
        (map (λ (e : Elem). e.line) (elems_of (own_lines more)) ++ net_numbers (nets_of more))
        → RisesWithin low high (map (λ (e : Elem). e.line)
        (elems_of (if not (begins_net form) then line ∷ own_lines more else []))
        ++ net_numbers (with_net form line.number more (nets_of more)))
    go (Net net) is later = (h.0, h.1, later)
    go (ElemForm e) is later = rw is (h.0, h.1, later)
    go _ is later = rw is (rises-lower low line.number high _ (omega (arith, h.0)) later)
