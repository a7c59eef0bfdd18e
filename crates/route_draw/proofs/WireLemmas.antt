-- The wires of a net, line by line.
use Rattle.std.proofs.Common.{◌≡◌, ℕ, ◌+◌, Bool, true, false, List, [], ◌∷◌, ◌++◌, length, take, refl, sym, ap, subst, ◌∙◌, add-one, append_assoc}
use Rattle.std.specs.Prelude.{Option, Some, None, codes, slice_get}
use Rattle.std.proofs.Math.Seq.{take-length}
use Rattle.std.proofs.lemmas.List.{append-nil}
use Rattle.list_laws.proofs.Places.{take-get}
use Rattle.fpga_types.specs.Kinds.{is_sink}
use Rattle.fpga_types.specs.Slots.{elem_cell}
use Rattle.fpga_types.specs.declared.grid.Cell.{Cell}
use Rattle.fpga_types.specs.declared.route.Elem.{Elem}
use Rattle.route_draw.specs.Parts.{Adds, AreParts}
use Rattle.route_draw.specs.Wires.{AreWires, IsAcross, IsWire, IsWireIn, Layout, path_along, wire_line, wires_from, wires_of}
use Rattle.route_draw.proofs.PartLemmas.{part-alone, parts-append}

-- what comes behind some lines stands behind a SINK
abbrev pub is_behind_sink : Bool → List Elem → Bool
is_behind_sink b [] = b
is_behind_sink b (e ∷ es) = is_behind_sink (is_sink e.kind) es

behind-push : (b : Bool) (es : List Elem) (e : Elem)
    → is_behind_sink b (es ++ e ∷ []) ≡ is_sink e.kind
behind-push b [] e = refl
behind-push b (x ∷ xs) e = behind-push (is_sink x.kind) xs e

wires-push : (b : Bool) (es : List Elem) (e : Elem)
    → wires_from b (es ++ e ∷ []) ≡ wires_from b es ++ wire_line (is_behind_sink b es) e
wires-push b [] e = append-nil (wire_line b e)
wires-push b (x ∷ xs) e =
    ap (λ (ws : List Elem). wire_line b x ++ ws) (wires-push (is_sink x.kind) xs e)
    ∙ sym (append_assoc (wire_line b x) (wires_from (is_sink x.kind) xs)
    (wire_line (is_behind_sink (is_sink x.kind) xs) e))

take-next : (es : List Elem) (i : ℕ) (e : Elem) → slice_get es i ≡ Some e
    → take (i + 1) es ≡ take i es ++ e ∷ []
take-next es i e at = ap (λ (n : ℕ). take n es) (add-one i) ∙ take-get es i e at

pub behind-none : (es : List Elem) → false ≡ is_behind_sink false (take 0 es)
behind-none [] = refl
behind-none (e ∷ es) = refl

pub behind-next : (es : List Elem) (i : ℕ) (e : Elem) → slice_get es i ≡ Some e
    → is_sink e.kind ≡ is_behind_sink false (take (i + 1) es)
behind-next es i e at =
    sym (ap (is_behind_sink false) (take-next es i e at) ∙ behind-push false (take i es) e)

pub wires-none : (layout : Layout) (es : List Elem) (old : List ℕ)
    → Adds (AreParts (IsWire layout) (wires_of (take 0 es))) old old
wires-none layout [] old = record { part = []; is_part = refl; added = sym (append-nil old) }
wires-none layout (e ∷ es) old =
    record { part = []; is_part = refl; added = sym (append-nil old) }

-- the wire of the next line, if it has one
pub wires-next : (layout : Layout) (es : List Elem) (i : ℕ) (e : Elem) (b : Bool)
    (old mid new : List ℕ) → slice_get es i ≡ Some e → b ≡ is_behind_sink false (take i es)
    → Adds (AreParts (IsWire layout) (wires_of (take i es))) old mid
    → Adds (AreParts (IsWire layout) (wire_line b e)) mid new
    → Adds (AreParts (IsWire layout) (wires_of (take (i + 1) es))) old new
wires-next layout es i e b old mid new at behind front next = record {
  part = front.part ++ next.part;
  is_part = subst (λ (ws : List Elem). AreParts (IsWire layout) ws (front.part ++ next.part))
      (ap (λ (c : Bool). wires_of (take i es) ++ wire_line c e) behind
      ∙ sym (ap wires_of (take-next es i e at) ∙ wires-push false (take i es) e))
      (parts-append (IsWire layout) (wires_of (take i es)) (wire_line b e) front.part next.part
      front.is_part next.is_part);
  added = next.added ∙ ap (λ (t : List ℕ). t ++ next.part) front.added
      ∙ append_assoc old front.part next.part;
}

pub wires-whole : (layout : Layout) (es : List Elem) (i : ℕ) (old new : List ℕ) → i ≡ length es
    → Adds (AreParts (IsWire layout) (wires_of (take i es))) old new
    → Adds (AreParts (IsWire layout) (wires_of es)) old new
wires-whole layout es i old new e = subst
    (λ (all : List Elem). Adds (AreParts (IsWire layout) (wires_of all)) old new)
    (ap (λ (n : ℕ). take n es) e ∙ take-length es)

-- a line behind a SINK has no wire, nor has one that is in no cell
pub behind-sink-none : (layout : Layout) (b : Bool) (e : Elem) (old : List ℕ) → b ≡ true
    → Adds (AreParts (IsWire layout) (wire_line b e)) old old
behind-sink-none layout b e old is = record {
  part = [];
  is_part = rw is refl;
  added = sym (append-nil old);
}

pub no-cell-none : (layout : Layout) (b : Bool) (e : Elem) (old : List ℕ) → b ≡ false
    → elem_cell e ≡ None → Adds (AreParts (IsWire layout) (wire_line b e)) old old
no-cell-none layout b e old is none = record {
  part = [];
  is_part = rw (is, none) refl;
  added = sym (append-nil old);
}

-- the wire of a line was added
pub wire-added : (layout : Layout) (b : Bool) (e : Elem) (cell : Cell) (across : ℕ)
    (old new : List ℕ) → b ≡ false → elem_cell e ≡ Some cell
    → IsAcross layout cell e.number across
    → new ≡ old ++ path_along cell.axis cell.x cell.y across
    → Adds (AreParts (IsWire layout) (wire_line b e)) old new
wire-added layout b e cell across old new is there stands added = record {
  part = path_along cell.axis cell.x cell.y across;
  is_part = subst (λ (ws : List Elem).
      AreParts (IsWire layout) ws (path_along cell.axis cell.x cell.y across))
      (sym one)
      (part-alone (IsWire layout) e (path_along cell.axis cell.x cell.y across)
      (subst (λ (at : Option Cell).
      IsWireIn layout at e.number (path_along cell.axis cell.x cell.y across)) (sym there)
      (across, stands, refl)));
  added = added;
}
  where
    one : wire_line b e ≡ e ∷ []
    one = rw (is, there) refl

-- what is drawn of a net
pub wires-drawn : (layout : Layout) (es : List Elem) (rest text s0 s1 s2 s3 : List ℕ) → s0 ≡ []
    → s1 ≡ s0 ++ codes "<path d=\"" → Adds (AreParts (IsWire layout) (wires_of es)) s1 s2
    → text ≡ rest → s3 ≡ s2 ++ text → AreWires layout es s3
wires-drawn layout es rest text s0 s1 s2 s3 e0 e1 wires is e3 = record {
  wires = wires.part;
  rest = text;
  are_wires = wires.is_part;
  drawn_is = e3 ∙ ap (λ (t : List ℕ). t ++ text) (wires.added
      ∙ ap (λ (t : List ℕ). t ++ wires.part)
      (e1 ∙ ap (λ (t : List ℕ). t ++ codes "<path d=\"") e0));
}
