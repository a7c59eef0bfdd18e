-- Which nets of a netlist have had a Net line, and which names it knows.
use Rattle.std.proofs.Common.{◌≡◌, ◌≢◌, ℕ, ◌<◌, ◌+◌, Bool, true, false, Option, Some, None, List, [], ◌∷◌, ◌++◌, length, get_or, drop, drop-cons, add-one, suc, refl, sym, ap, subst, ◌∙◌, get_or-set_other, get_or-set_same}
use Rattle.std.specs.Prelude.{◌==◌, ◌||◌, bytes_eq, slice_get, slice_set, is_some}
use Rattle.std.specs.List.{list_any}
use Rattle.std.specs.Option.{option_map_or}
use Rattle.std.proofs.Math.Bool.{or-false, or-true}
use Rattle.std.proofs.lemmas.Bool.{false_from_ne_true, false≢true}
use Rattle.std.proofs.lemmas.Bool.Decides.{Decides-eqb}
use Rattle.std.proofs.lemmas.List.{length-set}
use Rattle.std.proofs.lemmas.List.Folds.{list_any-append}
use Rattle.list_laws.proofs.Members.{In-get, list_any-from_In}
use Rattle.list_laws.proofs.Places.{get-there}
use Rattle.list_laws.proofs.Searches.{position-any}
use Rattle.fpga_text.specs.Bytes.{Bytes}
use Rattle.fpga_types.specs.Fits.{agree, has_net}
use Rattle.fpga_types.specs.Terminals.{is_net_named}
use Rattle.fpga_types.specs.declared.netlist.Net.{Net}
use Rattle.fpga_types.specs.declared.route.RouteNet.{RouteNet}
use Rattle.fpga_bounds.specs.Heads.{is_known_in}
use Rattle.fpga_bounds.specs.NetTable.{HasNetLines, number_named}
use Rattle.fpga_types.proofs.NameLaws.{name_itself, same_name}
use Rattle.fpga_bounds.proofs.NameLemmas.{name-at, named-at, number-within, unnamed}

-- what is read past the end of some nets
abbrev NO_NET : Net
NO_NET = record { name = []; global = false; driver = None; sinks = [] }

module _ (nets : List Net) (marks : List Bool) (lines : List RouteNet) (net : RouteNet)
    (number : ℕ) (has : HasNetLines nets marks lines)
    (named : number_named nets net.name ≡ Some number) where
  own_mark : (name : Bytes) → number_named nets name ≡ Some number
      → get_or (slice_set marks number true) number false ≡ has_net (lines ++ net ∷ []) name
  own_mark name at =
      let within : number < length nets = number-within nets name number at in
      let below : number < length marks = rw has.count within in
      let here = get-there nets number (get_or nets number NO_NET) NO_NET within refl in
      let same : net.name ≡ name = sym (name-at nets net.name number named _ here)
      ∙ name-at nets name number at _ here in
      rw (
        get_or-set_same,
        list_any-append (λ (n : RouteNet). bytes_eq n.name name) lines (net ∷ []),
        same,
        name_itself name,
        or-true (has_net lines name),
      ) refl

  other_mark : (name : Bytes) (k : ℕ) → number_named nets name ≡ Some k → k ≢ number
      → get_or (slice_set marks number true) k false ≡ has_net (lines ++ net ∷ []) name
  other_mark name k at other =
      let apart : bytes_eq net.name name ≡ false = false_from_ne_true _ (λ is. other
      (let same : Some k ≡ Some number = sym at
      ∙ ap (number_named nets) (sym (same_name net.name name is)) ∙ named in cc)) in
      rw (
        get_or-set_other,
        list_any-append (λ (n : RouteNet). bytes_eq n.name name) lines (net ∷ []),
        apart,
        or-false (has_net lines name),
      ) (has.marked name k at)

  -- one Net line more
  pub net-lines-more : HasNetLines nets (slice_set marks number true) (lines ++ net ∷ [])
  net-lines-more = record {
    count = rw length-set has.count;
    marked = λ name k at. go name k at (k == number) refl;
  }
    where
      go : (name : Bytes) (k : ℕ) → number_named nets name ≡ Some k → (b : Bool)
          → (k == number) ≡ b
          → get_or (slice_set marks number true) k false ≡ has_net (lines ++ net ∷ []) name
      go name k at true e =
          let same : k ≡ number = (Decides-eqb k number).0 e in
          subst (λ (m : ℕ). get_or (slice_set marks number true) m false
          ≡ has_net (lines ++ net ∷ []) name) (sym same)
          (own_mark name (at ∙ ap (λ (m : ℕ). Some m) same))
      go name k at false e = other_mark name k at
          (λ same. false≢true (sym e ∙ (Decides-eqb k number).1 same))

-- a net of the netlist has a number by its name
pub has-number : (nets : List Net) (i : ℕ) (d : Net) → i < length nets
    → is_some (number_named nets (get_or nets i d).name) ≡ true
has-number nets i d within =
    let net : Net = get_or nets i d in
    position-any (is_net_named net.name) 0 nets
    ∙ list_any-from_In (is_net_named net.name) nets net (In-get nets i d within)
    (name_itself net.name)

-- a name without a number is not known
pub not-known : (nets : List Net) (name : Bytes) (global : Bool) → number_named nets name ≡ None
    → is_known_in nets name global ≡ false
not-known nets name global none =
    ap (λ (o : Option Net). option_map_or (λ (net : Net). agree net.global global) o false)
    (unnamed nets name none)

-- a name with a number is known in the form of its net
pub known-as : (nets : List Net) (name : Bytes) (global : Bool) (number : ℕ) (net : Net)
    → number_named nets name ≡ Some number → slice_get nets number ≡ Some net
    → is_known_in nets name global ≡ agree net.global global
known-as nets name global number net named here =
    ap (λ (o : Option Net). option_map_or (λ (n : Net). agree n.global global) o false)
    (named-at nets name number named net here)

-- some net ahead passes where the next one does, or one behind it
pub any-next : (p : Net → Bool) (nets : List Net) (i : ℕ) (net : Net) → i < length nets
    → net ≡ get_or nets i net
    → list_any p (drop i nets) ≡ (p net || list_any p (drop (i + 1) nets))
any-next p nets i net within is =
    rw (add-one, drop-cons nets i net) (λ k. p (sym is k) || list_any p (drop (suc i) nets))
