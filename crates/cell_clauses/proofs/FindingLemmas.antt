-- The cells, nets and sinks of a window, as loops find them.
use Rattle.std.proofs.Common.{◌≡◌, ℕ, zero, suc, ◌+◌, ◌<◌, ◌≤◌, Bool, true, false, Option, None, Some, List, [], ◌∷◌, ◌++◌, All, length, take, refl, sym, ap, ◌∙◌, arith, append_assoc}
use Rattle.std.specs.Prelude.{◌||◌, filter, filter_map, flat_map, map, option_and_then, slice_get}
use Rattle.std.specs.List.{cons_option, enumerate_from, list_any, range_with_len}
use Rattle.std.specs.Option.{option_map_or}
use Rattle.std.proofs.lemmas.Grind.{flat_map-append}
use Rattle.std.proofs.lemmas.List.{append-nil, map-append}
use Rattle.std.proofs.lemmas.List.Elements.{filter-append, filter_map-append}
use Rattle.std.proofs.lemmas.List.FromFn.{length-enumerate_from}
use Rattle.std.proofs.lemmas.Option.{slice_get_within}
use Rattle.list_laws.proofs.Members.{all-from_In, from_In-flat_map, from_In-map}
use Rattle.list_laws.proofs.FrontParts.{made-next, made-whole}
use Rattle.list_laws.proofs.Numbered.{from_In-enumerate, numbered-here}
use Rattle.list_laws.proofs.Ranges.{range-push}
use Rattle.fpga_types.specs.Problem.{PlacedNetlist}
use Rattle.fpga_types.specs.Terminals.{sinks_in, terminal_in}
use Rattle.fpga_types.specs.declared.arch.Arch.{Arch}
use Rattle.fpga_types.specs.declared.problem.Terminal.{Terminal}
use Rattle.fpga_types.specs.declared.netlist.Net.{Net}
use Rattle.fpga_types.specs.declared.netlist.PinRef.{PinRef}
use Rattle.route_bound.specs.Corners.{has_corner_in}
use Rattle.route_bound.specs.Lying.{Cells, pins_at}
use Rattle.route_bound.specs.Ranges.{corners_of}
use Rattle.route_bound.specs.declared.range.CornerRange.{CornerRange}
use Rattle.cell_clauses.specs.Places.{pin_number}
use Rattle.cell_clauses.specs.Frames.{arrivals_of, held_net, is_held, ordinary_net, sinks_of_number, window_arrivals}
use Rattle.cell_clauses.specs.Held.{is_sink_held}
use Rattle.cell_clauses.specs.declared.window.Arrival.{Arrival}
use Rattle.cell_clauses.specs.declared.window.WindowNet.{WindowNet}
use Rattle.cell_clauses.proofs.PinLemmas.{number-low, there-pin}

-- numbers from a on, and one more
more : (a n : ℕ) → range_with_len a (n + 1) ≡ range_with_len a n ++ (a + n) ∷ []
more a n = ap (range_with_len a) (let e : n + 1 ≡ suc n = omega arith in e) ∙ range-push a n

-- what passes of the elements made of numbers, and of one more
pub passing-more : {A : Type 0} (p : A → Bool) (f : ℕ → A) (a n : ℕ)
    → filter p (map f (range_with_len a (n + 1)))
    ≡ filter p (map f (range_with_len a n)) ++ filter p (f (a + n) ∷ [])
passing-more {A} p f a n =
    ap (λ (ks : List ℕ). filter p (map f ks)) (more a n)
    ∙ ap (filter p) (map-append f (range_with_len a n) ((a + n) ∷ []))
    ∙ filter-append p (map f (range_with_len a n)) (f (a + n) ∷ [])

-- behind others
pub passing-behind : {A : Type 0} (p : A → Bool) (f : ℕ → A) (a n m : ℕ) (front old new : List A)
    → m ≡ a + n → old ≡ front ++ filter p (map f (range_with_len a n))
    → new ≡ old ++ filter p (f m ∷ [])
    → new ≡ front ++ filter p (map f (range_with_len a (n + 1)))
passing-behind {A} p f a n m front old new is e g =
    g ∙ ap (λ (k : ℕ). old ++ filter p (f k ∷ [])) is
    ∙ ap (λ (t : List A). t ++ filter p (f (a + n) ∷ [])) e
    ∙ append_assoc front (filter p (map f (range_with_len a n))) (filter p (f (a + n) ∷ []))
    ∙ ap (λ (t : List A). front ++ t) (sym (passing-more p f a n))

-- the same of rows
pub passing-rows-more : {A : Type 0} (p : A → Bool) (f : ℕ → List A) (a n : ℕ)
    → filter p (flat_map f (range_with_len a (n + 1)))
    ≡ filter p (flat_map f (range_with_len a n)) ++ filter p (f (a + n))
passing-rows-more {A} p f a n =
    ap (λ (ks : List ℕ). filter p (flat_map f ks)) (more a n)
    ∙ ap (filter p) (flat_map-append f (range_with_len a n) ((a + n) ∷ [])
    ∙ ap (λ (t : List A). flat_map f (range_with_len a n) ++ t) (append-nil (f (a + n))))
    ∙ filter-append p (flat_map f (range_with_len a n)) (f (a + n))

pub rows-behind : {A : Type 0} (p : A → Bool) (f : ℕ → List A) (a n m : ℕ) (front old new : List A)
    → m ≡ a + n → old ≡ front ++ filter p (flat_map f (range_with_len a n))
    → new ≡ old ++ filter p (f m)
    → new ≡ front ++ filter p (flat_map f (range_with_len a (n + 1)))
rows-behind {A} p f a n m front old new is e g =
    g ∙ ap (λ (k : ℕ). old ++ filter p (f k)) is
    ∙ ap (λ (t : List A). t ++ filter p (f (a + n))) e
    ∙ append_assoc front (filter p (flat_map f (range_with_len a n))) (filter p (f (a + n)))
    ∙ ap (λ (t : List A). front ++ t) (sym (passing-rows-more p f a n))

-- and of numbers that pass, with what is made of them
pub made-more : {B : Type 0} (f : ℕ → B) (p : ℕ → Bool) (n : ℕ)
    → map f (filter p (range_with_len 0 (n + 1)))
    ≡ map f (filter p (range_with_len 0 n)) ++ map f (filter p (n ∷ []))
made-more {B} f p n =
    let last : 0 + n ≡ n = omega arith in
    ap (λ (ks : List ℕ). map f (filter p ks)) (more 0 n
    ∙ ap (λ (m : ℕ). range_with_len 0 n ++ m ∷ []) last)
    ∙ ap (map f) (filter-append p (range_with_len 0 n) (n ∷ []))
    ∙ map-append f (filter p (range_with_len 0 n)) (filter p (n ∷ []))

pub made-behind : {B : Type 0} (f : ℕ → B) (p : ℕ → Bool) (n : ℕ) (front old new : List B)
    → old ≡ front ++ map f (filter p (range_with_len 0 n))
    → new ≡ old ++ map f (filter p (n ∷ []))
    → new ≡ front ++ map f (filter p (range_with_len 0 (n + 1)))
made-behind {B} f p n front old new e g =
    g ∙ ap (λ (t : List B). t ++ map f (filter p (n ∷ []))) e
    ∙ append_assoc front (map f (filter p (range_with_len 0 n))) (map f (filter p (n ∷ [])))
    ∙ ap (λ (t : List B). front ++ t) (sym (made-more f p n))

-- what is kept of numbers, and of one more
pub kept-more : {B : Type 0} (h : ℕ → Option B) (n : ℕ)
    → filter_map h (range_with_len 0 (n + 1))
    ≡ filter_map h (range_with_len 0 n) ++ cons_option (h n) []
kept-more {B} h n =
    let last : 0 + n ≡ n = omega arith in
    ap (filter_map h) (more 0 n ∙ ap (λ (m : ℕ). range_with_len 0 n ++ m ∷ []) last)
    ∙ filter_map-append h (range_with_len 0 n) (n ∷ [])

-- a test of what is kept is one of what it is kept of
pub any-kept : {A B : Type 0} (h : A → Option B) (p : B → Bool) (xs : List A)
    → list_any p (filter_map h xs) ≡ list_any (λ x. option_map_or p (h x) false) xs
any-kept h p [] = refl
any-kept {A} {B} h p (x ∷ xs) = one (h x)
    ∙ ap (λ (b : Bool). option_map_or p (h x) false || b) (any-kept h p xs)
  where
    one : (o : Option B) → list_any p (cons_option o (filter_map h xs))
        ≡ (option_map_or p o false || list_any p (filter_map h xs))
    one None = refl
    one (Some y) = refl

-- arrivals are of the window's nets
pub arrivals-low : (placed : PlacedNetlist) (nets : List WindowNet)
    → All (λ (a : Arrival). a.net < length nets) (window_arrivals placed nets)
arrivals-low placed nets =
    all-from_In (λ (a : Arrival). a.net < length nets) (window_arrivals placed nets) (λ a i.
    let of = from_In-flat_map (arrivals_of placed) (enumerate_from 0 nets) a i in
    let at = from_In-enumerate 0 nets of.0 of.1 in
    let by = from_In-map (λ (t : Terminal). record { net = of.0.0; at = t })
    (sinks_of_number placed of.0.1.number) a of.2 in
    let net : of.0.0 ≡ a.net = ap (λ (b : Arrival). b.net) by.2 in
    omega (arith, net, at.1, slice_get_within nets at.0 of.0.1 at.2))

-- the numbers of a terminal's pins
pub pins-low : (arch : Arch) (at : Terminal)
    → All (λ pin. pin_number pin < length arch.pins + 1) (pins_at arch at)
pins-low arch at =
    all-from_In (λ pin. pin_number pin < length arch.pins + 1) (pins_at arch at)
    (λ pin i. number-low arch at pin (there-pin arch at pin i))

-- a sink at a pin, by its driver and its terminal
module _ (placed : PlacedNetlist) (range : CornerRange) (held : Bool) (pin : PinRef) where
  abbrev inside : Terminal → Bool
  inside at = is_held placed (has_corner_in (corners_of range)) at

  pub sink-none : terminal_in placed pin ≡ None → false ≡ is_sink_held placed range held pin
  sink-none e = rw e refl

  pub sink-driven : (at : Terminal) → terminal_in placed pin ≡ Some at → held ≡ true
      → held ≡ is_sink_held placed range held pin
  sink-driven at e h = rw (e, h) refl

  pub sink-own : (at : Terminal) (is : Bool) → terminal_in placed pin ≡ Some at → held ≡ false
      → is ≡ inside at → is ≡ is_sink_held placed range held pin
  sink-own at is e h g = rw (e, h) g

-- the nets so far, and the next one
pub nets-more : (placed : PlacedNetlist) (cells : Cells) (n : ℕ) (net : Net)
    (old new : List WindowNet) → slice_get placed.netlist.nets n ≡ Some net
    → old ≡ filter_map (held_net placed cells) (range_with_len 0 n)
    → new ≡ old ++ cons_option (ordinary_net placed cells n net) []
    → new ≡ filter_map (held_net placed cells) (range_with_len 0 (n + 1))
nets-more placed cells n net old new at e g =
    let is : held_net placed cells n ≡ ordinary_net placed cells n net =
    ap (option_and_then (ordinary_net placed cells n)) at in
    g ∙ ap (λ (t : List WindowNet). t ++ cons_option (ordinary_net placed cells n net) []) e
    ∙ ap (λ (o : Option WindowNet). filter_map (held_net placed cells) (range_with_len 0 n)
    ++ cons_option o []) (sym is) ∙ sym (kept-more (held_net placed cells) n)

-- past the end there is nothing
none-there : {A : Type 0} (xs : List A) (k : ℕ) → length xs ≤ k → slice_get xs k ≡ None
none-there [] k h = refl
none-there (x ∷ xs) zero h = absurd (omega (arith, h))
none-there (x ∷ xs) (suc k) h = none-there xs k (omega (arith, h))

-- the sinks of a window's net, by its net of the netlist
module _ (placed : PlacedNetlist) (k : ℕ) (net : WindowNet) where
  abbrev at_net : Terminal → Arrival
  at_net at = record { net = k; at = at }

  pub no-sinks : (old : List Arrival) → length placed.netlist.nets ≤ net.number
      → old ≡ old ++ arrivals_of placed (k, net)
  no-sinks old h =
      sym (append-nil old) ∙ ap (λ (t : List Arrival). old ++ t)
      (ap (λ (o : Option Net). map at_net (option_map_or (sinks_in placed) o []))
      (sym (none-there placed.netlist.nets net.number h)))

  pub own-sinks : (found : Net) → slice_get placed.netlist.nets net.number ≡ Some found
      → map at_net (filter_map (terminal_in placed) found.sinks) ≡ arrivals_of placed (k, net)
  own-sinks found at =
      ap (λ (o : Option Net). map at_net (option_map_or (sinks_in placed) o [])) (sym at)

-- the arrivals so far, and those of the next net
module _ (placed : PlacedNetlist) (nets : List WindowNet) (k : ℕ) where
  pub arrivals-more : (net : WindowNet) (old new : List Arrival) → slice_get nets k ≡ Some net
      → old ≡ flat_map (arrivals_of placed) (take k (enumerate_from 0 nets))
      → new ≡ old ++ arrivals_of placed (k, net)
      → new ≡ flat_map (arrivals_of placed) (take (k + 1) (enumerate_from 0 nets))
  arrivals-more net old new at e g =
      let same : 0 + k ≡ k = omega arith in
      let more : k + 1 ≡ suc k = omega arith in
      g ∙ ap (λ (t : List Arrival). t ++ arrivals_of placed (k, net)) e
      ∙ sym (ap (λ (n : ℕ). flat_map (arrivals_of placed) (take n (enumerate_from 0 nets))) more
      ∙ made-next (arrivals_of placed) (enumerate_from 0 nets) k (k, net)
      (numbered-here 0 nets k net at ∙ (λ i. Some (same i, net))))

  pub arrivals-all : (old : List Arrival) → k ≡ length nets
      → old ≡ flat_map (arrivals_of placed) (take k (enumerate_from 0 nets))
      → old ≡ window_arrivals placed nets
  arrivals-all old is e =
      e ∙ made-whole (arrivals_of placed) (enumerate_from 0 nets) k
      (is ∙ sym (length-enumerate_from 0 nets))
