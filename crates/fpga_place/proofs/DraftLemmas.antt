-- What a block line does to the value as far as it was read, and why one is refused.
use Rattle.std.proofs.Common.{◌≡◌, ◌≢◌, ℕ, ◌<◌, Bool, true, false, Option, Some, None, List, length, get_or, refl, sym, ap, ◌∙◌, arith}
use Rattle.std.specs.Prelude.{◌||◌, bytes_eq, is_some, option_and_then, slice_get, slice_set, unwrap_or, if◌then◌else◌}
use Rattle.std.specs.BTreeSet.{BTreeSet, contains}
use Rattle.std.specs.Option.{option_or}
use Rattle.std.proofs.lemmas.Option.{slice_get-get_or}
use Rattle.list_laws.proofs.Places.{get-there}
use Rattle.fpga_types.specs.Places.{is_lawful, same_spot, spot_of}
use Rattle.fpga_types.specs.Size.{Size}
use Rattle.fpga_types.specs.declared.netlist.Block.{Block}
use Rattle.fpga_types.specs.declared.placement.Place.{Place}
use Rattle.fpga_types.specs.declared.placement.Spot.{Spot}
use Rattle.fpga_text.specs.Bytes.{Bytes}
use Rattle.fpga_text.specs.declared.fault.TextFault.TheVariants.{Bad}
use Rattle.fpga_place.specs.Blocks.{block_named, number_named}
use Rattle.fpga_place.specs.Codes.{takes_spot}
use Rattle.fpga_place.specs.Drafts.{FitsNamed, IsInOrder, Progress, TakesLine, next_fault, placed, with_place}
use Rattle.fpga_place.specs.Lines.{Form, Block as BlockLine}
use Rattle.fpga_types.specs.SpotOrder.{spot_cmp}
use Rattle.fpga_place.specs.Spots.{has_spot}
use Rattle.fpga_types.proofs.NameLaws.{name_itself, same_name}
use Rattle.fpga_place.proofs.BlockLemmas.{name-at, named-at, unnamed}
use Rattle.fpga_place.proofs.PlaceLemmas.{get-set_other, get-set_same, get-some}
use Rattle.fpga_place.proofs.SpotLemmas.{has_spot-put}

-- the value as far as it was read, by its parts
abbrev pub so_far : ℕ → Size → List Block → List (Option Place) → Progress
so_far io_rat grid blocks places =
    record { setting = record { io_rat = io_rat; blocks = blocks }; grid = grid; places = places }

-- a line with a name that no block has
pub refused-unknown : (draft : Progress) (line : ℕ) (name : Bytes) (place : Place)
    → number_named draft.setting.blocks name ≡ None
    → next_fault draft line (BlockLine name (Some place)) ≡ Some (Bad line 303)
refused-unknown draft line name place none = rw (unnamed draft.setting.blocks name none) refl

-- a line with the name of a block
module _ (draft : Progress) (name : Bytes) (place : Place) (number : ℕ)
    (named : number_named draft.setting.blocks name ≡ Some number) (block : Block)
    (is : slice_get draft.setting.blocks number ≡ Some block) (entry : Option Place)
    (stands : slice_get draft.places number ≡ Some entry) where
  known : block_named draft.setting.blocks name ≡ Some block
  known = named-at draft.setting.blocks name number named block is

  entry-is : placed draft name ≡ entry
  entry-is =
      (λ k. option_and_then (λ n. unwrap_or (slice_get draft.places n) None) (named k))
      ∙ ap (λ o. unwrap_or o None) stands

  pub refused-repeated : (line : ℕ) → is_some entry ≡ true
      → next_fault draft line (BlockLine name (Some place)) ≡ Some (Bad line 304)
  refused-repeated line again = rw (known, entry-is, again) refl

  pub refused-unlawful : (line : ℕ) → is_some entry ≡ false
      → is_lawful draft.grid draft.setting.io_rat block.kind place ≡ false
      → next_fault draft line (BlockLine name (Some place)) ≡ Some (Bad line 306)
  refused-unlawful line first unlawful = rw (known, entry-is, first, unlawful) refl

  pub refused-shared : (line : ℕ) → is_some entry ≡ false
      → is_lawful draft.grid draft.setting.io_rat block.kind place ≡ true
      → has_spot draft.setting.blocks draft.places (spot_of block.kind place) ≡ true
      → next_fault draft line (BlockLine name (Some place)) ≡ Some (Bad line 307)
  refused-shared line first lawful taken = rw (known, entry-is, first, lawful, taken) refl

-- a line that fits
module _ (draft : Progress) (name : Bytes) (place : Place) (number : ℕ)
    (fits : FitsNamed draft name place number) where
  block : Block
  block = fits.fits.block

  not_placed : placed draft name ≡ None
  not_placed =
      entry-is draft name place number fits.named fits.fits.block fits.fits.is None
      fits.fits.unplaced

  pub clean : (line : ℕ) → next_fault draft line (BlockLine name (Some place)) ≡ None
  clean line = rw (
    named-at draft.setting.blocks name number fits.named fits.fits.block fits.fits.is,
    not_placed,
    fits.fits.lawful,
    fits.fits.free,
  ) refl

  -- the place of each name then
  pub placed-put : (other : Bytes) → placed (with_place draft number place) other
      ≡ option_or (placed draft other) (if bytes_eq name other then Some place else None)
  placed-put other = go (bytes_eq name other) refl
    where
      go : (b : Bool) → bytes_eq name other ≡ b → placed (with_place draft number place) other
          ≡ option_or (placed draft other) (if b then Some place else None)
      go true same =
          let is : other ≡ name = sym (same_name name other same) in
          (λ k. placed (with_place draft number place) (is k))
          ∙ entry-is (with_place draft number place) name place number fits.named fits.fits.block
          fits.fits.is (Some place)
          (get-set_same draft.places number None (Some place) fits.fits.unplaced)
          ∙ (λ k. option_or (sym not_placed k) (Some place))
          ∙ (λ k. option_or (placed draft (sym is k)) (Some place))
      go false differs = at (number_named draft.setting.blocks other) refl
        where
          last : (o : Option Place) → o ≡ option_or o None
          last None = refl
          last (Some p) = refl

          entry : List (Option Place) → Option ℕ → Option Place
          entry places o = option_and_then (λ n. unwrap_or (slice_get places n) None) o

          at : (o : Option ℕ) → number_named draft.setting.blocks other ≡ o
              → option_and_then
              (λ n. unwrap_or (slice_get (slice_set draft.places number (Some place)) n) None) o
              ≡ option_or (option_and_then (λ n. unwrap_or (slice_get draft.places n) None) o) None
          at None is = refl
          at (Some n) is =
              let apart : n ≢ number =
              λ same. let clash : false ≡ true =
              sym differs ∙ ap (λ b. bytes_eq b other)
              (sym (name-at draft.setting.blocks name number fits.named fits.fits.block
              fits.fits.is))
              ∙ ap (λ b. bytes_eq b other)
              (name-at draft.setting.blocks other n is fits.fits.block
              (ap (slice_get draft.setting.blocks) same ∙ fits.fits.is))
              ∙ name_itself other in cc in
              ap (λ o. unwrap_or o None) (get-set_other draft.places number n (Some place) apart)
              ∙ last (unwrap_or (slice_get draft.places n) None)

  -- a name has a line then where it had one or is this one
  some-or : (o : Option Place) (b : Bool) → is_some (option_or o (if b then Some place else None))
      ≡ (is_some o || b)
  some-or None true = refl
  some-or None false = refl
  some-or (Some p) b = refl

  pub takes_line : (new : Progress) (line : ℕ) (form : Form)
      → new ≡ with_place draft number place → form ≡ BlockLine name (Some place)
      → TakesLine draft new line form
  takes_line new line form is said = rw (is, said) (record {
    clean = clean line;
    setting = refl;
    grid = refl;
    after = λ k. record {
      in_body = true;
      grid = Some draft.grid;
      has_line = λ other. (ap is_some (placed-put other)
          ∙ some-or (placed draft other) (bytes_eq name other)) k;
      is_taken = λ spot. (has_spot-put draft.setting.blocks draft.places number fits.fits.block
          place spot fits.fits.is fits.fits.unplaced ∙ taken spot) k;
    };
    named = placed-put;
  })
    where
      taken : (spot : Spot) → (has_spot draft.setting.blocks draft.places spot
          || same_spot spot (spot_of fits.fits.block.kind place))
          ≡ (has_spot draft.setting.blocks draft.places spot
          || takes_spot draft.setting spot (BlockLine name (Some place)))
      taken spot = rw (named-at draft.setting.blocks name number fits.named fits.fits.block
          fits.fits.is) refl

-- a block with a place, by its entry
pub repeated-at : (io_rat : ℕ) (grid : Size) (blocks : List Block) (places : List (Option Place))
    (taken : BTreeSet Spot) → IsInOrder io_rat grid blocks places taken → (name : Bytes)
    (place : Place) (number : ℕ) → Some number ≡ number_named blocks name → number < length blocks
    → (entry : Option Place) → entry ≡ get_or places number entry → is_some entry ≡ true
    → (line : ℕ) → next_fault (so_far io_rat grid blocks places) line (BlockLine name (Some place))
    ≡ Some (Bad line 304)
repeated-at io_rat grid blocks places taken order name place number named within entry is again l =
    let block = get-some blocks number within in
    refused-repeated (so_far io_rat grid blocks places) name place number (sym named) block.0
    block.1 entry (get-there places number entry entry
    (let c = order.count in omega (arith, c, within)) is) l again

-- what is at hand of a block with a number: its entry, and a row that has the blocks
module _ (io_rat : ℕ) (grid : Size) (blocks : List Block) (places : List (Option Place))
    (taken : BTreeSet Spot) (order : IsInOrder io_rat grid blocks places taken) (name : Bytes)
    (place : Place) (number : ℕ) (named : Some number ≡ number_named blocks name)
    (within : number < length blocks) (entry : Option Place)
    (entry_is : entry ≡ get_or places number entry) (row : List Block) (same : row ≡ blocks)
    (d : Block) where
  here : slice_get blocks number ≡ Some (get_or row number d)
  here = slice_get-get_or blocks number d within ∙ (λ k. Some (get_or (sym same k) number d))

  stands : slice_get places number ≡ Some entry
  stands =
      get-there places number entry entry (let c = order.count in omega (arith, c, within)) entry_is

  pub unlawful-at : is_some entry ≡ false
      → is_lawful grid io_rat (get_or row number d).kind place ≡ false → (line : ℕ)
      → next_fault (so_far io_rat grid blocks places) line (BlockLine name (Some place))
      ≡ Some (Bad line 306)
  unlawful-at first unlawful line =
      refused-unlawful (so_far io_rat grid blocks places) name place number (sym named)
      (get_or row number d) here entry stands line first unlawful

  module _ (first : is_some entry ≡ false)
      (lawful : is_lawful grid io_rat (get_or row number d).kind place ≡ true) (spot : Spot)
      (spot_is : spot ≡ spot_of (get_or row number d).kind place) where
    held : contains spot_cmp taken spot
        ≡ has_spot blocks places (spot_of (get_or row number d).kind place)
    held = order.spots spot ∙ ap (has_spot blocks places) spot_is

    pub shared-at : contains spot_cmp taken spot ≡ true → (line : ℕ)
        → next_fault (so_far io_rat grid blocks places) line (BlockLine name (Some place))
        ≡ Some (Bad line 307)
    shared-at has line =
        refused-shared (so_far io_rat grid blocks places) name place number (sym named)
        (get_or row number d) here entry stands line first lawful (sym held ∙ has)

    pub fits-at : contains spot_cmp taken spot ≡ false
        → FitsNamed (so_far io_rat grid blocks places) name place number
    fits-at free = record {
      named = sym named;
      fits = record {
        block = get_or row number d;
        is = here;
        unplaced = stands ∙ ap (λ o. Some o) (none entry first);
        lawful = lawful;
        free = sym held ∙ free;
      };
    }
      where
        none : (o : Option Place) → is_some o ≡ false → o ≡ None
        none None e = refl
        none (Some p) e = absurd (let clash : true ≡ false = e in cc)
