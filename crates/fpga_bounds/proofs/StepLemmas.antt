-- The steps of some nets, with one element or one net more.
use Rattle.std.proofs.Common.{◌≡◌, ℕ, ◌+◌, ◌<◌, Option, Some, None, List, [], ◌∷◌, ◌++◌, length, take, refl, sym, ap, ◌∙◌, arith, zero-add, append_assoc, add-one, length-take-le}
use Rattle.std.specs.Prelude.{filter_map, flat_map, slice_get, option_map, option_and_then}
use Rattle.std.specs.List.{cons_option, enumerate_from, last_or}
use Rattle.std.specs.Option.{option_to_list}
use Rattle.std.proofs.lemmas.Grind.{flat_map-append}
use Rattle.std.proofs.lemmas.List.{append-nil}
use Rattle.fpga_types.specs.Slots.{adjacent, elem_slot, slot_number, step_of}
use Rattle.fpga_types.specs.declared.problem.RouteStep.{RouteStep}
use Rattle.fpga_types.specs.declared.problem.Slot.{Slot}
use Rattle.fpga_types.specs.declared.route.Elem.{Elem}
use Rattle.fpga_types.specs.declared.route.RouteNet.{RouteNet}
use Rattle.fpga_bounds.specs.StepList.{elem_number, step_between, net_steps}
use Rattle.list_laws.proofs.Numbered.{enumerate-push}
use Rattle.list_laws.proofs.Places.{take-get}

-- what is made of two neighbours, with one element more
pub adjacent-push : {T B : Type 0} (f : T × T → Option B) (xs : List T) (x : T)
    → filter_map f (adjacent (xs ++ x ∷ [])) ≡ filter_map f (adjacent xs)
    ++ option_to_list (option_and_then (λ y. f (y, x)) (last_or None xs))
adjacent-push f [] x = refl
adjacent-push {T} {B} f (y ∷ []) x = go (f (y, x))
  where
    go : (o : Option B) → cons_option o [] ≡ option_to_list o
    go None = refl
    go (Some b) = refl
adjacent-push {T} {B} f (y ∷ z ∷ zs) x =
    rw (adjacent-push f (z ∷ zs) x)
    (go (f (y, z)) (filter_map f (adjacent (z ∷ zs)))
    (option_to_list (option_and_then (λ w. f (w, x)) (last_or None (z ∷ zs)))))
  where
    go : (o : Option B) (ps qs : List B) → cons_option o (ps ++ qs) ≡ cons_option o ps ++ qs
    go None ps qs = refl
    go (Some b) ps qs = refl

step-between : (all : List Slot) (a b : Option Slot) → step_of all a b
    ≡ step_between (option_map (slot_number all) a) (option_map (slot_number all) b)
step-between all None b = refl
step-between all (Some a) None = refl
step-between all (Some a) (Some b) = refl

-- the steps with one element more
pub net_steps-push : (all : List Slot) (net : ℕ) (xs : List Elem) (x : Elem)
    → net_steps all net (xs ++ x ∷ []) ≡ net_steps all net xs
    ++ option_to_list (step_between (option_and_then (elem_number all net) (last_or None xs))
    (elem_number all net x))
net_steps-push all net xs x =
    adjacent-push (λ p. step_of all (elem_slot net p.0) (elem_slot net p.1)) xs x
    ∙ ap (λ o. net_steps all net xs ++ option_to_list o) (go (last_or None xs))
  where
    go : (o : Option Elem) → option_and_then (λ y. step_of all (elem_slot net y) (elem_slot net x))
        o ≡ step_between (option_and_then (elem_number all net) o) (elem_number all net x)
    go None = refl
    go (Some y) = step-between all (elem_slot net y) (elem_slot net x)

-- what a list of numbered nets brings, with one net more
pub numbered-push : {B : Type 0} (f : ℕ × RouteNet → List B) (nets : List RouteNet) (net : RouteNet)
    → flat_map f (enumerate_from 0 (nets ++ net ∷ [])) ≡ flat_map f (enumerate_from 0 nets)
    ++ f (length nets, net)
numbered-push f nets net =
    rw (
      enumerate-push 0 nets net,
      flat_map-append f (enumerate_from 0 nets) ((0 + length nets, net) ∷ []),
      zero-add,
    )
    (ap (λ zs. flat_map f (enumerate_from 0 nets) ++ zs) (append-nil (f (length nets, net))))

-- the steps that a loop has found, with one element more
pub steps-more : (all : List Slot) (net : ℕ) (elems : List Elem) (i : ℕ) (e : Elem)
    (start found new : List RouteStep) (previous number : Option ℕ) → slice_get elems i ≡ Some e
    → found ≡ start ++ net_steps all net (take i elems) → previous
    ≡ option_and_then (elem_number all net) (last_or None (take i elems)) → number
    ≡ elem_number all net e
    → new ≡ found ++ option_to_list (step_between previous number) → new ≡ start
    ++ net_steps all net (take (i + 1) elems)
steps-more all net elems i e start found new previous number here f p q n =
    rw (add-one, take-get elems i e here, net_steps-push all net (take i elems) e)
    (n ∙ rw (f, p, q) (append_assoc start (net_steps all net (take i elems))
    (option_to_list (step_between
    (option_and_then (elem_number all net) (last_or None (take i elems)))
    (elem_number all net e)))))

-- what the nets that a loop has read bring, with one net more
pub nets-more : {B : Type 0} (f : ℕ × RouteNet → List B) (nets : List RouteNet) (n : ℕ)
    (net : RouteNet) (found : List B) → slice_get nets n ≡ Some net → n < length nets
    → found ≡ flat_map f (enumerate_from 0 (take n nets)) ++ f (n, net)
    → found ≡ flat_map f (enumerate_from 0 (take (n + 1) nets))
nets-more f nets n net found here below is =
    is ∙ sym (rw (
      add-one,
      take-get nets n net here,
      numbered-push f (take n nets) net,
      length-take-le n nets (omega (arith, below)),
    ) refl)

-- what a loop has found of neighbours, with one element more
pub neighbours-more : {B : Type 0} (f : Elem × Elem
    → Option B) (elems : List Elem) (i : ℕ) (e : Elem)
    (start found new : List B) (previous : Option Elem) → slice_get elems i ≡ Some e
    → found ≡ start ++ filter_map f (adjacent (take i elems))
    → previous ≡ last_or None (take i elems)
    → new ≡ found ++ option_to_list (option_and_then (λ other. f (other, e)) previous)
    → new ≡ start ++ filter_map f (adjacent (take (i + 1) elems))
neighbours-more f elems i e start found new previous here so_far before is =
    rw (add-one, take-get elems i e here, adjacent-push f (take i elems) e)
    (is ∙ rw (so_far, before) (append_assoc start (filter_map f (adjacent (take i elems)))
    (option_to_list (option_and_then (λ other. f (other, e)) (last_or None (take i elems))))))
