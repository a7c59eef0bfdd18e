-- What is wrong with a pinlist, by the entries of nets with its pins.
use Rattle.std.proofs.Common.{◌≡◌, ℕ, ◌+◌, Bool, true, false, cond, List, [], ◌∷◌, ◌++◌, length, refl, sym, ap, ◌∙◌, one-add}
use Rattle.std.specs.Prelude.{not, ◌&&◌, ◌||◌, map, bytes_eq, nat_lt, slice_get, Option, Some, None, option_and_then, if◌then◌else◌}
use Rattle.std.specs.List.{position_or_len}
use Rattle.std.specs.Option.{option_map_or}
use Rattle.std.proofs.lemmas.List.{length-map}
use Rattle.std.proofs.lemmas.Slice.Eq.{bytes_eq-Decides}
use Rattle.fpga_types.specs.declared.limits.TheConstants.{NET_LIMIT}
use Rattle.fpga_text.specs.Bytes.{Bytes}
use Rattle.fpga_text.specs.Said.{has_text}
use Rattle.fpga_text.specs.declared.fault.TextFault.{TextFault}
use Rattle.fpga_text.specs.declared.fault.TextFault.TheVariants.{Bad, Limit}
use Rattle.fpga_net.specs.declared.cause.Cause.TheVariants.{Drivers, GlobalPin, SharedClass, PastLimit}
use Rattle.fpga_net.specs.Causes.{code_of}
use Rattle.fpga_net.specs.Codes.{drives_again, has_pair, is_driven_twice, net_count, share_class, takes_ordinary}
use Rattle.fpga_net.specs.Entries.{Entry, drive_again, entries_of, entry_of, is_twice_driven, uses_fault}
use Rattle.fpga_net.specs.Names.{number_of}
use Rattle.fpga_net.specs.Uses.{Use, nets_of}
use Rattle.fpga_net.proofs.EntryLemmas.{names_in-entries, on_net-none}
use Rattle.fpga_net.proofs.NameLemmas.{has_text-first_seen, number_of-none, number_of-some}

-- which nets have two drivers
module _ (global : Bytes → Bool) (uses : List Use) (name : Bytes) where
  -- the net's entry, if it is there
  abbrev found : List Bytes → Option ℕ → Bool
  found names o = option_map_or (λ (e : Entry). e.driven_twice)
      (option_and_then (λ k. slice_get (map (entry_of global uses) names) k) o) false

  found-first : (names : List Bytes) → has_text names name ≡ true
      → found names (Some (position_or_len (λ other. bytes_eq other name) names))
      ≡ is_driven_twice uses name
  found-first [] none = absurd (let clash : false ≡ true = none in cc)
  found-first (first ∷ more) there =
      go (bytes_eq first name) (position_or_len (λ other. bytes_eq other name) more) refl there
      (found-first more)
    where
      go : (same : Bool) (k : ℕ) → bytes_eq first name ≡ same
          → (same || has_text more name) ≡ true
          → (has_text more name ≡ true → found more (Some k) ≡ is_driven_twice uses name)
          → found (first ∷ more) (Some (cond (not same) (1 + k) 0)) ≡ is_driven_twice uses name
      go true k same there later = ap (is_driven_twice uses) ((bytes_eq-Decides first name).0 same)
      go false k distinct there later = rw (one-add k) (later there)

  pub twice_driven : is_twice_driven (entries_of global uses) name ≡ is_driven_twice uses name
  twice_driven =
      ap (λ ns. found (nets_of uses) (number_of ns name))
      (names_in-entries global uses (nets_of uses))
      ∙ go (has_text (nets_of uses) name) (number_of (nets_of uses) name) refl refl
    where
      place : ℕ
      place = position_or_len (λ other. bytes_eq other name) (nets_of uses)

      numbered : (b : Bool) (k : ℕ) → cond b (Some place) None ≡ Some k → place ≡ k
      numbered true k is = cc
      numbered false k is = absurd (let clash : None ≡ Some k = is in cc)

      go : (there : Bool) (o : Option ℕ) → has_text (nets_of uses) name ≡ there
          → number_of (nets_of uses) name ≡ o
          → found (nets_of uses) o ≡ is_driven_twice uses name
      go true None is o = absurd
          (let clash : true ≡ false = sym is ∙ number_of-none (nets_of uses) name (sym o) in cc)
      go true (Some k) is o =
          ap (λ n. found (nets_of uses) (Some n)) (sym (numbered _ k o))
          ∙ found-first (nets_of uses) is
      go false None is o =
          let absent = sym (has_text-first_seen (map (λ (v : Use). v.net) uses) name) ∙ is in
          sym (ap (λ us. nat_lt 1 (length us)) (on_net-none name (λ v. v.pin.output) uses absent))
      go false (Some k) is o = absurd
          (let clash : true ≡ false = sym (number_of-some (nets_of uses) name k (sym o)) ∙ is in cc)

-- the same of pins
pub drive_again-uses : (global : Bytes → Bool) (all own : List Use)
    → drive_again global (entries_of global all) own ≡ drives_again global all own
drive_again-uses global all [] = refl
drive_again-uses global all (u ∷ more) = λ i.
    u.pin.output && twice_driven global all u.net i && not (global u.net)
    || drive_again-uses global all more i

-- as many nets stand on pins as there are entries
pub entries-count : (global : Bytes → Bool) (uses : List Use)
    → length (entries_of global uses) ≡ net_count uses
entries-count global uses = rw length-map refl

-- why a pinlist is refused, by its tests
abbrev pub refused_by : (again stray shared many : Bool) → ℕ → Option TextFault
refused_by again stray shared many line =
    if again then Some (Bad line (code_of Drivers))
    else if stray then Some (Bad line (code_of GlobalPin))
    else if shared then Some (Bad line (code_of SharedClass))
    else if many then Some (Limit (code_of PastLimit) (NET_LIMIT + 1)) else None

-- the tests of a pinlist, as the entries with its pins answer them
pub uses_fault-entries : (global : Bytes → Bool) (before own : List Use) (new : List Entry)
    (again stray shared many : Bool) (line : ℕ)
    → new ≡ entries_of global (before ++ own) → again ≡ drive_again global new own
    → stray ≡ takes_ordinary global own → shared ≡ has_pair (share_class global) own
    → many ≡ nat_lt NET_LIMIT (length new)
    → uses_fault global before own line ≡ refused_by again stray shared many line
uses_fault-entries global before own new again stray shared many line is a s c m = λ i. refused_by
    (sym (a ∙ ap (λ es. drive_again global es own) is ∙ drive_again-uses global (before ++ own) own)
    i)
    (sym s i) (sym c i)
    (sym (m ∙ ap (λ (es : List Entry). nat_lt NET_LIMIT (length es)) is
    ∙ ap (nat_lt NET_LIMIT) (entries-count global (before ++ own))) i)
    line
