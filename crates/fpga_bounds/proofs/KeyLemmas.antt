-- Keys are tied exactly where elements are equal, and where pins are one.
use Rattle.std.proofs.Common.{◌≡◌, ℕ, ◌+◌, Bool, true, false, cond, Some, List, [], ◌∷◌, take, refl, ◌∙◌, add-one}
use Rattle.std.specs.Prelude.{◌&&◌, ◌||◌, ◌==◌, slice_get, if◌then◌else◌}
use Rattle.std.specs.List.{list_any}
use Rattle.std.proofs.Math.Bool.{or-false}
use Rattle.std.proofs.lemmas.List.Folds.{list_any-append}
use Rattle.list_laws.proofs.Places.{take-get}
use Rattle.list_laws.proofs.Ties.{nat_ties, then_ties}
use Rattle.std.specs.Ordering.{is_eq, nat_cmp, ordering_then}
use Rattle.fpga_types.specs.Fit.{is_pin_of, same_elem, same_pin}
use Rattle.fpga_types.specs.Kinds.{is_channel, is_pin, same_kind, same_label}
use Rattle.fpga_types.specs.contracts.route.ElemKindOrd.TheImpl as kind_ord
use Rattle.fpga_types.specs.contracts.route.LabelOrd.TheImpl as label_ord
use Rattle.fpga_types.specs.declared.route.Elem.{Elem}
use Rattle.fpga_types.specs.declared.route.ElemKind.{ElemKind}
use Rattle.fpga_types.specs.declared.route.ElemKind.TheVariants.{Source, Opin, ChanX, ChanY, Ipin, Sink}
use Rattle.fpga_types.specs.declared.route.RouteNet.{RouteNet}
use Rattle.fpga_types.specs.declared.route.Label.{Label}
use Rattle.fpga_types.specs.declared.route.Label.TheVariants.{Class, Pin, Pad, Track}
use Rattle.fpga_bounds.specs.Keys.{key_cmp, elem_key, pin_key}
use Rattle.fpga_bounds.specs.declared.keys.ElemKey.{ElemKey}

abbrev number_at : ElemKind → ℕ → ℕ
number_at kind number = if is_channel kind then 0 else number

-- kinds tie where they are one, and then numbers count for both or for none
kind_ties : (a b : ElemKind) (m n : ℕ) (r : Bool)
    → (is_eq ((kind_ord.ghosts).cmp a b) && (r && (number_at b n == number_at a m)))
    ≡ (same_kind b a && (r && (is_channel b || n == m)))
kind_ties Source Source m n r = refl
kind_ties Source Opin m n r = refl
kind_ties Source ChanX m n r = refl
kind_ties Source ChanY m n r = refl
kind_ties Source Ipin m n r = refl
kind_ties Source Sink m n r = refl
kind_ties Opin Source m n r = refl
kind_ties Opin Opin m n r = refl
kind_ties Opin ChanX m n r = refl
kind_ties Opin ChanY m n r = refl
kind_ties Opin Ipin m n r = refl
kind_ties Opin Sink m n r = refl
kind_ties ChanX Source m n r = refl
kind_ties ChanX Opin m n r = refl
kind_ties ChanX ChanX m n r = refl
kind_ties ChanX ChanY m n r = refl
kind_ties ChanX Ipin m n r = refl
kind_ties ChanX Sink m n r = refl
kind_ties ChanY Source m n r = refl
kind_ties ChanY Opin m n r = refl
kind_ties ChanY ChanX m n r = refl
kind_ties ChanY ChanY m n r = refl
kind_ties ChanY Ipin m n r = refl
kind_ties ChanY Sink m n r = refl
kind_ties Ipin Source m n r = refl
kind_ties Ipin Opin m n r = refl
kind_ties Ipin ChanX m n r = refl
kind_ties Ipin ChanY m n r = refl
kind_ties Ipin Ipin m n r = refl
kind_ties Ipin Sink m n r = refl
kind_ties Sink Source m n r = refl
kind_ties Sink Opin m n r = refl
kind_ties Sink ChanX m n r = refl
kind_ties Sink ChanY m n r = refl
kind_ties Sink Ipin m n r = refl
kind_ties Sink Sink m n r = refl

label_ties : (a b : Label) → is_eq ((label_ord.ghosts).cmp a b) ≡ same_label b a
label_ties Class Class = refl
label_ties Class Pin = refl
label_ties Class Pad = refl
label_ties Class Track = refl
label_ties Pin Class = refl
label_ties Pin Pin = refl
label_ties Pin Pad = refl
label_ties Pin Track = refl
label_ties Pad Class = refl
label_ties Pad Pin = refl
label_ties Pad Pad = refl
label_ties Pad Track = refl
label_ties Track Class = refl
label_ties Track Pin = refl
label_ties Track Pad = refl
label_ties Track Track = refl

first_and_rest : (k x y l n : Bool) → (k && (x && (y && (l && n)))) ≡ (k && ((x && y && l) && n))
first_and_rest false x y l n = refl
first_and_rest true false y l n = refl
first_and_rest true true false l n = refl
first_and_rest true true true l n = refl

and_last : (k p n : Bool) → (k && (p && n)) ≡ (k && p && n)
and_last false p n = refl
and_last true p n = refl

-- keys tie where elements are equal
pub elem_key_ties : (a b : Elem) → is_eq (key_cmp (elem_key a) (elem_key b)) ≡ same_elem b a
elem_key_ties a b =
    let last : is_eq (ordering_then ((label_ord.ghosts).cmp a.label b.label)
    (nat_cmp (number_at a.kind a.number) (number_at b.kind b.number)))
    ≡ (same_label b.label a.label && (number_at b.kind b.number == number_at a.kind a.number)) =
    then_ties _ _ _ _ (label_ties a.label b.label)
    (nat_ties (number_at a.kind a.number) (number_at b.kind b.number)) in
    then_ties _ _ _ _ refl (then_ties _ _ _ _ (nat_ties a.x b.x)
    (then_ties _ _ _ _ (nat_ties a.y b.y) last))
    ∙ first_and_rest (is_eq ((kind_ord.ghosts).cmp a.kind b.kind)) (b.x == a.x) (b.y == a.y)
    (same_label b.label a.label) (number_at b.kind b.number == number_at a.kind a.number)
    ∙ kind_ties a.kind b.kind a.number b.number
    (b.x == a.x && b.y == a.y && same_label b.label a.label)
    ∙ and_last (same_kind b.kind a.kind) (b.x == a.x && b.y == a.y && same_label b.label a.label)
    (is_channel b.kind || b.number == a.number)

pin_parts : (p x y l n : Bool) → (p && (x && (y && (l && n)))) ≡ (p && true && (x && y && l) && n)
pin_parts false x y l n = refl
pin_parts true false y l n = refl
pin_parts true true false l n = refl
pin_parts true true true l n = refl

-- keys tie where pins are one
pub pin_key_ties : (a b : Elem) → is_pin a.kind ≡ true
    → (is_pin b.kind && is_eq (key_cmp (pin_key a) (pin_key b))) ≡ same_pin b a
pin_key_ties a b h =
    let ties : is_eq (key_cmp (pin_key a) (pin_key b))
    ≡ (b.x == a.x && (b.y == a.y && (same_label b.label a.label && b.number == a.number))) =
    then_ties _ _ _ _ (nat_ties a.x b.x)
    (then_ties _ _ _ _ (nat_ties a.y b.y)
    (then_ties _ _ _ _ (label_ties a.label b.label) (nat_ties a.number b.number))) in
    rw (ties, h) (pin_parts (is_pin b.kind) (b.x == a.x) (b.y == a.y) (same_label b.label a.label)
    (b.number == a.number))

-- one more key, as the clause of a set's `insert` has it
pub cond_or : (b o s : Bool) → b ≡ s → cond b true o ≡ (o || s)
cond_or true true s e = refl
cond_or true false s e = e
cond_or false true s e = refl
cond_or false false s e = e

pub and_cond_or : (p b o s : Bool) → (p && b) ≡ s → (p && cond b true o) ≡ (p && o || s)
and_cond_or false b o s e = e
and_cond_or true b o s e = cond_or b o s e

-- an element more, by a key that was made of it
pub one_more_elem : (k : ElemKey) (e q : Elem) (o : Bool) → k ≡ elem_key e
    → cond (is_eq (key_cmp k (elem_key q))) true o ≡ (o || same_elem q e)
one_more_elem k e q o h =
    rw h (cond_or (is_eq (key_cmp (elem_key e) (elem_key q))) o (same_elem q e) (elem_key_ties e q))

-- a pin more, by a key that was made of it
pub one_more_pin : (k : ElemKey) (e q : Elem) (o : Bool) → is_pin e.kind ≡ true → k ≡ pin_key e
    → (is_pin q.kind && cond (is_eq (key_cmp k (pin_key q))) true o)
    ≡ (is_pin q.kind && o || same_pin q e)
one_more_pin k e q o p h =
    rw h (and_cond_or (is_pin q.kind) (is_eq (key_cmp (pin_key e) (pin_key q))) o (same_pin q e)
    (pin_key_ties e q p))

-- one net more whose pins are taken
pub pins-more : (nets : List RouteNet) (n : ℕ) (net : RouteNet) (e : Elem) → slice_get nets n
    ≡ Some net
    → is_pin_of (take (n + 1) nets) e
    ≡ (is_pin_of (take n nets) e || list_any (same_pin e) net.elems)
pins-more nets n net e here = rw (
  add-one,
  take-get nets n net here,
  list_any-append (λ (m : RouteNet). list_any (same_pin e) m.elems) (take n nets) (net ∷ []),
  or-false (list_any (same_pin e) net.elems),
) refl
