-- Which net is on which pin of a generated problem.
use Rattle.std.proofs.Common.{◌≡◌, ◌≢◌, ◌⊎◌, ℕ, ◌<◌, ◌≤◌, Bool, true, false, Option, Some, None, List, [], ◌∷◌, length, refl, sym, ap, ◌∙◌, inl, inr, arith}
use Rattle.std.specs.Prelude.{bytes_eq, filter, filter_map, flat_map, if◌then◌else◌, map, nat_lt, not, ◌&&◌, option_map, slice_get}
use Rattle.std.specs.List.{range_with_len}
use Rattle.std.proofs.lemmas.Bool.{and_from, le-ltb, lt-ltb, ltb-false, ltb-true}
use Rattle.std.proofs.lemmas.Option.{slice_get_within}
use Rattle.fpga_types.specs.declared.arch.PinSpec.{PinSpec}
use Rattle.fpga_net.specs.Uses.{ListedBlock, Use, block_uses, drivers, on_net, use_of, uses_of}
use Rattle.fpga_net.specs.Uses.{sinks as ends_of}
use Rattle.list_laws.proofs.Rows.{rows-alike, rows-map}
use Rattle.route_gen.specs.Draws.{nets_into}
use Rattle.route_gen.specs.Laws.{architecture_of_all, bottom_pin, listed_block}
use Rattle.route_gen.specs.Netlists.{driven, net_name, pin_word}
use Rattle.route_gen.specs.declared.draws.Sink.{Sink}
use Rattle.route_gen.specs.declared.draws.TheConstants.{INPUT_COUNT}
use Rattle.route_gen.specs.declared.trace.TheConstants.{INPUT_CLASS, OUTPUT_CLASS, OUTPUT_PIN}
use Rattle.route_gen.proofs.InputLemmas.{AreTaken}
use Rattle.route_gen.proofs.NameLemmas.{net-other, net-same}
use Rattle.route_gen.proofs.RowLemmas.{enumerate-made, filter-both, filter-rows, kept-none, kept-only, rows-only}

-- what the pin with this number is
abbrev pub pin_spec : ℕ → PinSpec
pin_spec pin = if nat_lt pin INPUT_COUNT then bottom_pin INPUT_CLASS false
    else bottom_pin OUTPUT_CLASS true

-- a net on a pin of a block
abbrev pub use_on : (block pin net : ℕ) → Use
use_on block pin net = record {
  at = record { block = block; pin = pin };
  pin = pin_spec pin;
  net = net_name net;
}

-- a word of a pinlist names the net that is on its pin
use-word : (block pin : ℕ) (spec : PinSpec) (net : Option ℕ) →
    use_of block (pin, (spec, pin_word net))
    ≡ option_map (λ n. record {
      at = record { block = block; pin = pin };
      pin = spec;
      net = net_name n;
    }) net
use-word block pin spec (Some net) = refl
use-word block pin spec None = refl

module _ (nets : ℕ) (sinks : List Sink) where
  -- the net on a pin, the net with what it is on, and those on the pins of a block
  abbrev pub net_at : (block pin : ℕ) → Option ℕ
  net_at block pin = if nat_lt pin INPUT_COUNT then slice_get (nets_into sinks block) pin
      else driven nets block

  abbrev pub use_at : (block pin : ℕ) → Option Use
  use_at block pin = option_map (use_on block pin) (net_at block pin)

  abbrev pub row : (block : ℕ) → List Use
  row block = filter_map (use_at block) (range_with_len 0 5)

  -- those on the pins of the first blocks
  abbrev pub rows : (count : ℕ) → List Use
  rows count = flat_map row (range_with_len 0 count)

  abbrev pub listed : (block : ℕ) → ListedBlock
  listed block = listed_block nets (block, nets_into sinks block)

  -- a pinlist puts these nets on its pins
  pub row-is : (block : ℕ) → block_uses architecture_of_all block (listed block) ≡ row block
  row-is block = grind (arith, use-word)

  -- the pinlists of the first blocks put these
  pub rows-are : (count : ℕ) →
      uses_of architecture_of_all (map listed (range_with_len 0 count)) ≡ rows count
  rows-are count = grind (arith, enumerate-made, rows-map, rows-alike, row-is)

-- the net ends at that input, or the block of its number drives it
pub record EndsAt (nets : ℕ) (sinks : List Sink) (block pin net : ℕ) : Type 0 where
  pub input : pin < INPUT_COUNT
  pub there : slice_get sinks net ≡ Some (record { block = block; pin = pin })

pub record StartsAt (nets : ℕ) (sinks : List Sink) (block pin net : ℕ) : Type 0 where
  pub output : INPUT_COUNT ≤ pin
  pub own : block ≡ net

-- a net is on a pin
pub record IsUse (nets : ℕ) (sinks : List Sink) (block pin : ℕ) (u : Use) : Type 0 where
  pub net : ℕ
  pub below : net < nets
  pub is : u ≡ use_on block pin net
  pub why : EndsAt nets sinks block pin net ⊎ StartsAt nets sinks block pin net

module _ (nets : ℕ) (sinks : List Sink) (taken : AreTaken sinks) (count : length sinks ≡ nets)
  where
    -- what is on a pin is a net that ends or starts there
    pub is-use : (block pin : ℕ) (u : Use) → use_at nets sinks block pin ≡ Some u →
        IsUse nets sinks block pin u
    is-use block pin u there = go (nat_lt pin INPUT_COUNT) (slice_get (nets_into sinks block) pin)
        (nat_lt block nets) refl refl refl there
      where
        go : (first : Bool) (end : Option ℕ) (drives : Bool) → nat_lt pin INPUT_COUNT ≡ first →
            slice_get (nets_into sinks block) pin ≡ end → nat_lt block nets ≡ drives →
            option_map (use_on block pin)
            (if first then end else if drives then Some block else None) ≡ Some u →
            IsUse nets sinks block pin u
        go true (Some net) drives input end starts is =
            let ends = taken.ends block pin net end in
            let below = slice_get_within sinks net (record { block = block; pin = pin }) ends in
            record {
              net = net;
              below = omega arith;
              is = cc;
              why = inl (record { input = ltb-true pin INPUT_COUNT input; there = ends });
            }
        go true None drives input end starts is = cc
        go false end true input other starts is = record {
          net = block;
          below = ltb-true block nets starts;
          is = cc;
          why = inr (record { output = ltb-false pin INPUT_COUNT input; own = refl });
        }
        go false end false input other starts is = cc

    module _ (few : nets ≤ 10000) where
      -- the pin drives the net
      abbrev drives_net : (net : ℕ) → Use → Bool
      drives_net net u = u.pin.output && bytes_eq u.net (net_name net)

      -- the net ends at the pin
      abbrev ends_net : (net : ℕ) → Use → Bool
      ends_net net u = not u.pin.output && bytes_eq u.net (net_name net)

      off : (a b : Bool) → b ≡ false → (a && b) ≡ false
      off true b h = h
      off false b h = refl

      -- an input drives nothing
      input-output : (pin : ℕ) → pin < INPUT_COUNT → (pin_spec pin).output ≡ false
      input-output pin below = λ i. (if lt-ltb pin INPUT_COUNT below i
          then bottom_pin INPUT_CLASS false else bottom_pin OUTPUT_CLASS true).output

      output-output : (pin : ℕ) → INPUT_COUNT ≤ pin → (pin_spec pin).output ≡ true
      output-output pin above = λ i. (if le-ltb pin INPUT_COUNT above i
          then bottom_pin INPUT_CLASS false else bottom_pin OUTPUT_CLASS true).output

      -- another pin does not drive the net
      drives-other : (net block pin : ℕ) (u : Use) → net < nets →
          use_at nets sinks block pin ≡ Some u → (INPUT_COUNT ≤ pin → block ≢ net) →
          drives_net net u ≡ false
      drives-other net block pin u below there other =
          let r = is-use block pin u there in
          ap (drives_net net) r.is ∙ elim r.why [
            | inl ends ↦ ap (λ (b : Bool). b && bytes_eq (net_name r.net) (net_name net))
                (input-output pin ends.input)
            | inr starts ↦ off (pin_spec pin).output (bytes_eq (net_name r.net) (net_name net))
                (net-other r.net net (let b = r.below in omega arith) (omega arith)
                (λ same. other starts.output (starts.own ∙ same)))
          ]

      -- nor does it end at another
      ends-other : (net block pin : ℕ) (u : Use) (sink : Sink) → slice_get sinks net ≡ Some sink →
          use_at nets sinks block pin ≡ Some u → (block ≡ sink.block → pin ≢ sink.pin) →
          ends_net net u ≡ false
      ends-other net block pin u sink is there other =
          let r = is-use block pin u there in
          let below = slice_get_within sinks net sink is in
          ap (ends_net net) r.is ∙ elim r.why [
            | inl ends ↦ off (not (pin_spec pin).output) (bytes_eq (net_name r.net) (net_name net))
                (net-other r.net net (let b = r.below in omega arith) (omega arith)
                (λ same.
                let one : Some (record { block = block; pin = pin }) ≡ Some sink
                = sym ends.there ∙ ap (slice_get sinks) same ∙ is in
                let at : (record { block = block; pin = pin }) ≡ sink = cc in
                other (ap (λ (s : Sink). s.block) at) (ap (λ (s : Sink). s.pin) at)))
            | inr starts ↦ ap (λ (b : Bool). not b && bytes_eq (net_name r.net) (net_name net))
                (output-output pin starts.output)
          ]

      -- of the first blocks, the one with the net's number drives it, and no other
      pub driver-one : (net blocks : ℕ) → net < nets → net < blocks →
          on_net (net_name net) (drivers (rows nets sinks blocks)) ≡ use_on net OUTPUT_PIN net ∷ []
      driver-one net blocks below within =
          filter-both (λ u. bytes_eq u.net (net_name net)) (λ u. u.pin.output)
          (rows nets sinks blocks)
          ∙ filter-rows (drives_net net) (row nets sinks) (range_with_len 0 blocks)
          ∙ rows-only (λ block. filter (drives_net net) (row nets sinks block)) 0 blocks net
          (omega arith) (omega arith)
          (λ block low high other. kept-none (drives_net net) (use_at nets sinks block) 0 5
          (λ pin u above under there. drives-other net block pin u below there (λ output. other)))
          ∙ kept-only (drives_net net) (use_at nets sinks net) 0 5 OUTPUT_PIN
          (use_on net OUTPUT_PIN net) (omega arith) (omega arith)
          (ap (λ (b : Bool). option_map (use_on net OUTPUT_PIN) (if b then Some net else None))
          (lt-ltb net nets below)) (net-same net)
          (λ pin u above under other there. drives-other net net pin u below there
          (λ output same. other (omega (arith, under, output))))

      -- the net ends at its sink, and at no other input
      pub sink-one : (net blocks : ℕ) (sink : Sink) → slice_get sinks net ≡ Some sink →
          sink.block < blocks → sink.pin < INPUT_COUNT →
          on_net (net_name net) (ends_of (rows nets sinks blocks))
          ≡ use_on sink.block sink.pin net ∷ []
      sink-one net blocks sink is within input =
          filter-both (λ u. bytes_eq u.net (net_name net)) (λ u. not u.pin.output)
          (rows nets sinks blocks)
          ∙ filter-rows (ends_net net) (row nets sinks) (range_with_len 0 blocks)
          ∙ rows-only (λ block. filter (ends_net net) (row nets sinks block)) 0 blocks sink.block
          (omega arith) (omega arith)
          (λ block low high other. kept-none (ends_net net) (use_at nets sinks block) 0 5
          (λ pin u above under there. ends-other net block pin u sink is there
          (λ same. absurd (other same))))
          ∙ kept-only (ends_net net) (use_at nets sinks sink.block) 0 5 sink.pin
          (use_on sink.block sink.pin net) (omega arith) (omega arith)
          ((λ i. option_map (use_on sink.block sink.pin)
          (if lt-ltb sink.pin INPUT_COUNT input i
          then slice_get (nets_into sinks sink.block) sink.pin else driven nets sink.block))
          ∙ ap (option_map (use_on sink.block sink.pin)) (taken.taken net sink is))
          (and_from (not (pin_spec sink.pin).output) (bytes_eq (net_name net) (net_name net))
          (ap not (input-output sink.pin input)) (net-same net))
          (λ pin u above under other there. ends-other net sink.block pin u sink is there
          (λ same. other))
