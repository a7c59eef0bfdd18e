-- The rectangle of a block and its name, as they are added to an empty text.
use Rattle.std.proofs.Common.{◌≡◌, ℕ, List, [], ◌++◌, ap, inl, inr, refl, subst, sym, ◌∙◌}
use Rattle.std.proofs.lemmas.List.{append-nil}
use Rattle.fpga_text.specs.Bytes.{Bytes}
use Rattle.route_draw.specs.Label.{IsLabel, IsLabelled, label, shape}
use Rattle.route_draw.specs.Parts.{Adds}

-- no name was added
pub label-none : (name : Bytes) (old : List ℕ) → Adds (IsLabel name) old old
label-none name old = record { part = []; is_part = inl refl; added = sym (append-nil old) }

-- a name was added
pub label-added : (name : Bytes) (placed old new : List ℕ) → new ≡ old ++ label placed name
    → Adds (IsLabel name) old new
label-added name placed old new added = record {
  part = label placed name;
  is_part = inr (placed, refl);
  added = added;
}

-- nothing is drawn
pub labelled-none : (name : Bytes) (text : List ℕ) → text ≡ [] → IsLabelled name text
labelled-none name text none = record {
  shape = [];
  label = [];
  is_shape = inl refl;
  is_label = inl refl;
  drawn_is = none;
}

-- a rectangle is drawn, and the name
pub labelled-made : (name said : Bytes) (x y width height : ℕ) (s0 s1 s2 : List ℕ) → s0 ≡ []
    → s1 ≡ s0 ++ shape x y width height → said ≡ name → Adds (IsLabel said) s1 s2
    → IsLabelled name s2
labelled-made name said x y width height s0 s1 s2 none drawn same next = record {
  shape = shape x y width height;
  label = next.part;
  is_shape = inr (x, (y, (width, (height, refl))));
  is_label = subst (λ (n : Bytes). IsLabel n next.part) same next.is_part;
  drawn_is = next.added ∙ ap (λ (t : List ℕ). t ++ next.part)
      (drawn ∙ ap (λ (t : List ℕ). t ++ shape x y width height) none);
}
