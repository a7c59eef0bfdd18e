-- The entries of nets, one pin more.
use Rattle.std.proofs.Common.{◌≡◌, ℕ, ◌+◌, ◌<◌, Bool, true, false, cond, List, [], ◌∷◌, ◌++◌, length, get_or, refl, sym, ap, subst, ◌∙◌, append_assoc, append-nil, arith, one-add, add-one, set, take}
use Rattle.std.specs.Prelude.{not, ◌||◌, filter, map, bytes_eq, nat_lt, slice_get, Some, None, is_some, option_map}
use Rattle.std.specs.List.{IsDistinct, AllByRecursion, position_or_len}
use Rattle.std.specs.Option.{option_or}
use Rattle.std.proofs.Math.Seq.{take-suc}
use Rattle.std.proofs.lemmas.Bool.{le-leb}
use Rattle.std.proofs.lemmas.List.{map-append, length-append, length-map}
use Rattle.std.proofs.lemmas.List.Elements.{filter-append}
use Rattle.std.proofs.lemmas.Map.Made.{IsDistinct-from_AllPairs}
use Rattle.std.proofs.lemmas.Slice.Eq.{bytes_eq-Decides}
use Rattle.fpga_text.specs.Bytes.{Bytes}
use Rattle.fpga_text.specs.Said.{has_text}
use Rattle.fpga_net.specs.Entries.{Entry, TakesUses, changed_at, entries_having, entries_of, entries_with, entry_of, names_in, no_pins, with_driver, with_sink, with_use}
use Rattle.fpga_net.specs.Names.{first_seen, names_with, number_of}
use Rattle.fpga_net.specs.declared.net_use.NetUse.{NetUse}
use Rattle.fpga_net.specs.NetUses.{use_said}
use Rattle.fpga_net.specs.Uses.{Use, drivers, nets_of, on_net, sinks}
use Rattle.fpga_net.proofs.NameLemmas.{first_seen-apart, first_seen-push, has_text-first_seen, number_of-push, other_way}

-- the entries of nets have their names
pub names_in-entries : (is_global : Bytes → Bool) (uses : List Use) (names : List Bytes)
    → names_in (map (entry_of is_global uses) names) ≡ names
names_in-entries is_global uses [] = refl
names_in-entries is_global uses (name ∷ more) =
    ap (λ ns. name ∷ ns) (names_in-entries is_global uses more)

-- a pin that is kept stands on the net if it is the last
on_net-push : (p : Use → Bool) (net : Bytes) (uses : List Use) (u : Use)
    → on_net net (filter p (uses ++ u ∷ []))
    ≡ on_net net (filter p uses) ++ on_net net (filter p (u ∷ []))
on_net-push p net uses u =
    ap (on_net net) (filter-append p uses (u ∷ []))
    ∙ filter-append (λ v. bytes_eq v.net net) (filter p uses) (filter p (u ∷ []))

-- a pin of another net
on_net-other : (p : Use → Bool) (net : Bytes) (uses : List Use) (u : Use)
    → bytes_eq u.net net ≡ false → on_net net (filter p (uses ++ u ∷ []))
    ≡ on_net net (filter p uses)
on_net-other p net uses u apart =
    on_net-push p net uses u ∙ ap (λ us. on_net net (filter p uses) ++ us) (go (p u))
    ∙ append-nil (on_net net (filter p uses))
  where
    go : (kept : Bool) → on_net net (cond kept (u ∷ []) []) ≡ []
    go true = rw apart refl
    go false = refl

-- a pin of this net
on_net-same : (p : Use → Bool) (net : Bytes) (uses : List Use) (u : Use)
    → bytes_eq u.net net ≡ true
    → on_net net (filter p (uses ++ u ∷ []))
    ≡ on_net net (filter p uses) ++ cond (p u) (u ∷ []) []
on_net-same p net uses u same =
    on_net-push p net uses u ∙ ap (λ us. on_net net (filter p uses) ++ us) (go (p u))
  where
    go : (kept : Bool) → on_net net (cond kept (u ∷ []) []) ≡ cond kept (u ∷ []) []
    go true = rw same refl
    go false = refl

-- what the drivers and the sinks of a net make of its entry
abbrev made_of : Bool → Bytes → (drive sink : List Use) → Entry
made_of global name drive sink = record {
  net = record {
    name = name;
    global = global;
    driver = option_map (λ (u : Use). u.at) (slice_get drive 0);
    sinks = map (λ (u : Use). u.at) sink;
  };
  driven_twice = nat_lt 1 (length drive);
}

module _ (is_global : Bytes → Bool) (uses : List Use) (u : Use) (net : Bytes) where
  -- another net is as it was
  pub entry-other : bytes_eq u.net net ≡ false
      → entry_of is_global (uses ++ u ∷ []) net ≡ entry_of is_global uses net
  entry-other apart = λ i. made_of (is_global net) net
      (on_net-other (λ v. v.pin.output) net uses u apart i)
      (on_net-other (λ v. not v.pin.output) net uses u apart i)

  -- the pin's net has it too
  pub entry-same : bytes_eq u.net net ≡ true
      → entry_of is_global (uses ++ u ∷ []) net ≡ with_use u (entry_of is_global uses net)
  entry-same same =
      (λ i. made_of (is_global net) net
      (on_net-same (λ v. v.pin.output) net uses u same i)
      (on_net-same (λ v. not v.pin.output) net uses u same i))
      ∙ go u.pin.output (on_net net (drivers uses)) (on_net net (sinks uses))
    where
      first : (drive : List Use) → option_map (λ (v : Use). v.at) (slice_get (drive ++ u ∷ []) 0)
          ≡ option_or (option_map (λ (v : Use). v.at) (slice_get drive 0)) (Some u.at)
      first [] = refl
      first (v ∷ more) = refl

      twice : (drive : List Use) → nat_lt 1 (length (drive ++ u ∷ []))
          ≡ is_some (option_map (λ (v : Use). v.at) (slice_get drive 0))
      twice [] = refl
      twice (v ∷ more) =
          le-leb 2 (length (v ∷ more ++ u ∷ [])) (omega (arith, length-append more (u ∷ [])))

      go : (output : Bool) (drive sink : List Use)
          → made_of (is_global net) net (drive ++ cond output (u ∷ []) [])
          (sink ++ cond (not output) (u ∷ []) [])
          ≡ cond output (with_driver u.at (made_of (is_global net) net drive sink))
          (with_sink u.at (made_of (is_global net) net drive sink))
      go true drive sink = λ i. record {
        net = record {
          name = net;
          global = is_global net;
          driver = first drive i;
          sinks = map (λ (v : Use). v.at) (append-nil sink i);
        };
        driven_twice = twice drive i;
      }
      go false drive sink = λ i. record {
        net = record {
          name = net;
          global = is_global net;
          driver = option_map (λ (v : Use). v.at) (slice_get (append-nil drive i) 0);
          sinks = map-append (λ (v : Use). v.at) sink (u ∷ []) i;
        };
        driven_twice = nat_lt 1 (length (append-nil drive i));
      }

-- a net that no pin is on
module _ (name : Bytes) where
  pub on_net-none : (p : Use → Bool) (uses : List Use)
      → has_text (map (λ (v : Use). v.net) uses) name ≡ false → on_net name (filter p uses) ≡ []
  on_net-none p [] none = refl
  on_net-none p (u ∷ more) none =
      go (bytes_eq u.net name) (p u) refl none (on_net-none p more)
    where
      go : (same kept : Bool) → bytes_eq u.net name ≡ same
          → (same || has_text (map (λ (v : Use). v.net) more) name) ≡ false
          → (has_text (map (λ (v : Use). v.net) more) name ≡ false
          → on_net name (filter p more) ≡ [])
          → on_net name (cond kept (u ∷ filter p more) (filter p more)) ≡ []
      go true kept same found later = absurd (let clash : true ≡ false = found in cc)
      go false true apart found later = rw apart (later found)
      go false false apart found later = later found

  pub entry-none : (is_global : Bytes → Bool) (uses : List Use)
      → has_text (nets_of uses) name ≡ false
      → entry_of is_global uses name ≡ no_pins (is_global name) name
  entry-none is_global uses none =
      let absent = sym (has_text-first_seen (map (λ (v : Use). v.net) uses) name) ∙ none in
      λ i. made_of (is_global name) name (on_net-none (λ v. v.pin.output) uses absent i)
      (on_net-none (λ v. not v.pin.output) uses absent i)

module _ (is_global : Bytes → Bool) (uses : List Use) (u : Use) where
  -- nets of other names are as they were
  entries-others : (names : List Bytes) → AllByRecursion (λ y. bytes_eq u.net y ≡ false) names
      → map (entry_of is_global uses) names ≡ map (entry_of is_global (uses ++ u ∷ [])) names
  entries-others [] apart = refl
  entries-others (name ∷ more) apart =
      λ i. sym (entry-other is_global uses u name apart.0) i ∷ entries-others more apart.1 i

  -- the net of the pin changes alone
  entries-changed : (names : List Bytes) → IsDistinct bytes_eq names
      → changed_at u.net (with_use u) (map (entry_of is_global uses) names)
      ≡ map (entry_of is_global (uses ++ u ∷ [])) names
  unfolding IsDistinct
  entries-changed [] apart = refl
  entries-changed (name ∷ more) apart =
      go (bytes_eq name u.net) refl (entries-changed more apart.1)
    where
      go : (same : Bool) → bytes_eq name u.net ≡ same
          → changed_at u.net (with_use u) (map (entry_of is_global uses) more)
          ≡ map (entry_of is_global (uses ++ u ∷ [])) more
          → cond same (with_use u (entry_of is_global uses name)
          ∷ map (entry_of is_global uses) more)
          (entry_of is_global uses name
          ∷ changed_at u.net (with_use u) (map (entry_of is_global uses) more))
          ≡ map (entry_of is_global (uses ++ u ∷ [])) (name ∷ more)
      go true same later =
          let is : name ≡ u.net = (bytes_eq-Decides name u.net).0 same in
          let others : AllByRecursion (λ y. bytes_eq u.net y ≡ false) more =
          subst (λ n. AllByRecursion (λ y. bytes_eq n y ≡ false) more) is apart.0 in
          λ i. sym (entry-same is_global uses u name (other_way u.net name ∙ same)) i
          ∷ entries-others more others i
      go false distinct later =
          λ i. sym (entry-other is_global uses u name (other_way u.net name ∙ distinct)) i ∷ later i

-- one more pin among the entries of pins
pub entries_with-push : (is_global : Bytes → Bool) (uses : List Use) (u : Use)
    → entries_with is_global (entries_of is_global uses) u ≡ entries_of is_global (uses ++ u ∷ [])
entries_with-push is_global uses u =
    ap (changed_at u.net (with_use u)) having
    ∙ entries-changed is_global uses u (names_with (nets_of uses) u.net) distinct
    ∙ ap (map (entry_of is_global (uses ++ u ∷ []))) (sym names)
  where
    names : nets_of (uses ++ u ∷ []) ≡ names_with (nets_of uses) u.net
    names = ap first_seen (map-append (λ (v : Use). v.net) uses (u ∷ []))
        ∙ first_seen-push (map (λ (v : Use). v.net) uses) u.net

    distinct : IsDistinct bytes_eq (names_with (nets_of uses) u.net)
    distinct = subst (λ ns. IsDistinct bytes_eq ns) names
        (IsDistinct-from_AllPairs bytes_eq-Decides (nets_of (uses ++ u ∷ []))
        (first_seen-apart (map (λ (v : Use). v.net) (uses ++ u ∷ []))))

    having : entries_having is_global (entries_of is_global uses) u.net
        ≡ map (entry_of is_global uses) (names_with (nets_of uses) u.net)
    having = ap (λ ns. cond (has_text ns u.net) (entries_of is_global uses)
        (entries_of is_global uses ++ no_pins (is_global u.net) u.net ∷ []))
        (names_in-entries is_global uses (nets_of uses))
        ∙ go (has_text (nets_of uses) u.net) refl
      where
        go : (among : Bool) → has_text (nets_of uses) u.net ≡ among
            → cond among (entries_of is_global uses)
            (entries_of is_global uses ++ no_pins (is_global u.net) u.net ∷ [])
            ≡ map (entry_of is_global uses)
            (cond among (nets_of uses) (nets_of uses ++ u.net ∷ []))
        go true is = refl
        go false is =
            ap (λ (e : Entry). entries_of is_global uses ++ e ∷ [])
            (sym (entry-none u.net is_global uses is))
            ∙ sym (map-append (entry_of is_global uses) (nets_of uses) (u.net ∷ []))

-- a net that is there changes at its number
changed_at-first : (name : Bytes) (change : Entry → Entry) (entries : List Entry) (e : Entry)
    → set entries (position_or_len (λ other. bytes_eq other name) (names_in entries))
    (change (get_or entries (position_or_len (λ other. bytes_eq other name) (names_in entries)) e))
    ≡ changed_at name change entries
changed_at-first name change [] e = refl
changed_at-first name change (first ∷ more) e =
    go (bytes_eq first.net.name name)
    (position_or_len (λ other. bytes_eq other name) (names_in more))
    (changed_at-first name change more e)
  where
    go : (same : Bool) (k : ℕ)
        → set more k (change (get_or more k e)) ≡ changed_at name change more
        → set (first ∷ more) (cond (not same) (1 + k) 0)
        (change (get_or (first ∷ more) (cond (not same) (1 + k) 0) e))
        ≡ cond same (change first ∷ more) (first ∷ changed_at name change more)
    go true k later = refl
    go false k later = rw (one-add k) (ap (λ es. first ∷ es) later)

pub changed_at-place : (name : Bytes) (change : Entry → Entry) (entries : List Entry) (k : ℕ)
    (e : Entry) → number_of (names_in entries) name ≡ Some k → e ≡ get_or entries k e
    → set entries k (change e) ≡ changed_at name change entries
changed_at-place name change entries k e is here =
    ap (λ (x : Entry). set entries k (change x)) here
    ∙ ap (λ n. set entries n (change (get_or entries n e))) (sym (place (nat_lt place_of (length
    (names_in entries))) is))
    ∙ changed_at-first name change entries e
  where
    place_of : ℕ
    place_of = position_or_len (λ other. bytes_eq other name) (names_in entries)

    place : (b : Bool) → cond b (Some place_of) None ≡ Some k → place_of ≡ k
    place true found = cc
    place false found = absurd (let clash : None ≡ Some k = found in cc)

module _ (entries : List Entry) (name : Bytes) (none : has_text (names_in entries) name ≡ false)
  where
    -- a new net is the last
    pub having-new : (is_global : Bytes → Bool)
        → entries ++ no_pins (is_global name) name ∷ [] ≡ entries_having is_global entries name
    having-new is_global = rw none refl

    pub names-new : (global : Bool) → names_with (names_in entries) name
        ≡ names_in (entries ++ no_pins global name ∷ [])
    names-new global =
        rw none (sym (map-append (λ (e : Entry). e.net.name) entries (no_pins global name ∷ [])))

    pub number-new : (global : Bool)
        → number_of (names_in (entries ++ no_pins global name ∷ [])) name ≡ Some (length entries)
    number-new global =
        ap (λ ns. number_of ns name)
        (map-append (λ (e : Entry). e.net.name) entries (no_pins global name ∷ []))
        ∙ number_of-push (names_in entries) name none
        ∙ rw length-map refl

-- one more pin was added
pub takes-next : (is_global : Bytes → Bool) (old now new : List Entry) (uses : List NetUse) (i : ℕ)
    (d : NetUse) → i < length uses → TakesUses is_global old now (map use_said (take i uses))
    → new ≡ entries_with is_global now (use_said (get_or uses i d))
    → TakesUses is_global old new (map use_said (take (i + 1) uses))
takes-next is_global old now new uses i d within so_far is = λ before same.
    is ∙ ap (λ es. entries_with is_global es u) (so_far before same)
    ∙ entries_with-push is_global (before ++ map use_said (take i uses)) u
    ∙ ap (entries_of is_global) (append_assoc before (map use_said (take i uses)) (u ∷ [])
    ∙ ap (λ us. before ++ us) (sym more))
  where
    u : Use
    u = use_said (get_or uses i d)

    more : map use_said (take (i + 1) uses) ≡ map use_said (take i uses) ++ u ∷ []
    more = ap (λ n. map use_said (take n uses)) (add-one i)
        ∙ ap (map use_said) (take-suc uses i d within)
        ∙ map-append use_said (take i uses) (get_or uses i d ∷ [])
