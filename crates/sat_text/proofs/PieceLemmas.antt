-- Writing the texts of a row of items, piece by piece.
use Rattle.std.proofs.Common.{◌≡◌, ◌∙◌, ◌++◌, List, [], refl, sym, ap, subst, append-nil, append_assoc}
use Rattle.std.proofs.lemmas.Grind.{flat_map-append}
use Rattle.std.specs.Prelude.{Result, flat_map}
use Rattle.desk_io.specs.Files.{Bytes}
use Rattle.desk_io.specs.ShelfState.{ShelfState, FailsToAppend}
use Rattle.desk_io.specs.Writing.{PassesOn, Writes}
use Rattle.desk_io.specs.declared.desk.Failed.{Failed}
use Rattle.desk_io.proofs.WritingLaws.{fails-longer, passes-none, passes-then-fails, passes-then-passes, passes-then-writes}

-- the texts of a front part of the items are written, and these items are left
pub record IsPassed
    {T : Type 0} (f : T → Bytes) (items : List T) (before : ShelfState) (waiting : Bytes)
    (now : ShelfState) (still : Bytes) (rest : List T) : Type 0 where
  pub front : List T
  pub parts : front ++ rest ≡ items
  pub passed : PassesOn before waiting (flat_map f front) now still

module _ {T : Type 0} (f : T → Bytes) (items : List T) where
  -- none is written at the start
  pub none-passed : (s : ShelfState) (w : Bytes) → IsPassed f items s w s w items
  none-passed s w = record { front = []; parts = refl; passed = passes-none s w }

  module _ {a b : ShelfState} {w y : Bytes} {rest : List T} (p : IsPassed f items a w b y rest)
      (piece others : List T) (cut : piece ++ others ≡ rest) where
    -- one more piece is
    pub piece-passed : {c : ShelfState} {z : Bytes} → PassesOn b y (flat_map f piece) c z
        → IsPassed f items a w c z others
    piece-passed {c} {z} q = record {
      front = p.front ++ piece;
      parts = append_assoc p.front piece others ∙ ap (λ (xs : List T). p.front ++ xs) cut ∙ p.parts;
      passed = rw (flat_map-append f p.front piece) (passes-then-passes p.passed q);
    }

    -- or it fails to be
    pub piece-fails : {c : ShelfState} (last : Bytes) → FailsToAppend b (y ++ flat_map f piece) c
        → FailsToAppend a (w ++ (flat_map f items ++ last)) c
    piece-fails {c} last q =
        let front : Bytes = flat_map f p.front in
        let others_text : Bytes = flat_map f others ++ last in
        let cut_short : FailsToAppend a (w ++ (front ++ flat_map f piece)) c =
        passes-then-fails y (flat_map f piece) p.passed q in
        let longer : FailsToAppend a (w ++ ((front ++ flat_map f piece) ++ others_text)) c =
        fails-longer w (front ++ flat_map f piece) others_text cut_short in
        let whole : (front ++ flat_map f piece) ++ others_text ≡ flat_map f items ++ last =
        sym (append_assoc (front ++ flat_map f piece) (flat_map f others) last)
        ∙ ap (λ (t : Bytes). t ++ last)
        (append_assoc front (flat_map f piece) (flat_map f others)
        ∙ ap (λ (t : Bytes). front ++ t) (sym (flat_map-append f piece others))
        ∙ sym (flat_map-append f p.front (piece ++ others))
        ∙ ap (λ (xs : List T). flat_map f (p.front ++ xs)) cut ∙ ap (flat_map f) p.parts) in
        subst (λ (t : Bytes). FailsToAppend a (w ++ t) c) whole longer

  -- what is left is written, and what ends the row; or it is not
  pub last-written : {V : Type 0} {a b : ShelfState} {w y : Bytes} {rest : List T}
      (c : ShelfState) (z : Bytes) (r : Result V Failed) (last : Bytes)
      → IsPassed f items a w b y rest → Writes b y (flat_map f rest ++ last) c z r
      → Writes a w (flat_map f items ++ last) c z r
  last-written {V} {a} {b} {w} {y} {rest} c z r last p q =
      let whole : flat_map f p.front ++ (flat_map f rest ++ last) ≡ flat_map f items ++ last =
      sym (append_assoc (flat_map f p.front) (flat_map f rest) last)
      ∙ ap (λ (t : Bytes). t ++ last)
      (sym (flat_map-append f p.front rest) ∙ ap (flat_map f) p.parts) in
      subst (λ (t : Bytes). Writes a w t c z r) whole
      (passes-then-writes (flat_map f rest ++ last) c z r p.passed q)

  -- where none is left all are written
  pub all-passed : {a b : ShelfState} {w y : Bytes} {rest : List T}
      → IsPassed f items a w b y rest → rest ≡ [] → PassesOn a w (flat_map f items) b y
  all-passed {a} {b} {w} {y} {rest} p none =
      let whole : p.front ≡ items =
      sym (append-nil p.front) ∙ ap (λ (xs : List T). p.front ++ xs) (sym none) ∙ p.parts in
      subst (λ (xs : List T). PassesOn a w (flat_map f xs) b y) whole p.passed

  -- what is left fails to be written
  pub rest-fails : {a b c : ShelfState} {w y : Bytes} {rest : List T}
      → IsPassed f items a w b y rest → FailsToAppend b (y ++ flat_map f rest) c
      → FailsToAppend a (w ++ flat_map f items) c
  rest-fails {a} {b} {c} {w} {y} {rest} p q =
      let whole : flat_map f p.front ++ flat_map f rest ≡ flat_map f items =
      sym (flat_map-append f p.front rest) ∙ ap (flat_map f) p.parts in
      subst (λ (t : Bytes). FailsToAppend a (w ++ t) c) whole
      (passes-then-fails y (flat_map f rest) p.passed q)
