-- Texts that are appended one after another, through a block of waiting bytes or not.
use Rattle.std.proofs.Common.{◌≡◌, ◌∙◌, ◌++◌, ◌+◌, [], length, take, false, Option, Some, None, Result, Ok, Err, OnOk, OnErr, option_map, refl, sym, ap, subst, arith, append_assoc, append-nil, length-append}
use Rattle.std.proofs.lemmas.List.{take-append-le}
use Rattle.std.proofs.Math.Seq.{take-append-add}
use Rattle.std.specs.FinMap.{get, insert}
use Rattle.desk_io.specs.Files.{Bytes, FileMap, grown, with_text}
use Rattle.desk_io.specs.ShelfState.{ShelfState, HasFailed, FailsToAppend, after_append, with_created}
use Rattle.desk_io.specs.Writing.{PassesOn, Writes}
use Rattle.desk_io.specs.declared.desk.Failed.{Failed}
use Rattle.desk_io.proofs.FileLemmas.{get-inserted, insert-insert, insert_there}

grown-nil : (o : Option Bytes) (name : Bytes) (files : FileMap) → get files name ≡ o
    → grown o name [] files ≡ files
grown-nil None name files e = refl
grown-nil (Some bytes) name files e = rw (append-nil bytes) (insert_there files name bytes e)

grown-grown : (o : Option Bytes) (name t u : Bytes) (files : FileMap) → get files name ≡ o
    → with_text name u (grown o name t files) ≡ grown o name (t ++ u) files
grown-grown None name t u files e = rw e refl
grown-grown (Some bytes) name t u files e =
    rw (get-inserted files name (bytes ++ t))
    (insert-insert files name (bytes ++ t) ((bytes ++ t) ++ u)
    ∙ ap (insert files name) (append_assoc bytes t u))

created-nil : (o : Option Bytes) (files : FileMap) → with_created o [] files ≡ files
created-nil None files = refl
created-nil (Some name) files = grown-nil (get files name) name files refl

created-created : (o : Option Bytes) (t u : Bytes) (files : FileMap)
    → with_created o u (with_created o t files) ≡ with_created o (t ++ u) files
created-created None t u files = refl
created-created (Some name) t u files = grown-grown (get files name) name t u files refl

files-nil : (o : Option Bytes) (files : Option FileMap)
    → option_map (with_created o []) files ≡ files
files-nil o None = refl
files-nil o (Some files) = ap Some (created-nil o files)

files-twice : (o : Option Bytes) (t u : Bytes) (files : Option FileMap)
    → option_map (with_created o u) (option_map (with_created o t) files)
    ≡ option_map (with_created o (t ++ u)) files
files-twice o t u None = refl
files-twice o t u (Some files) = ap Some (created-created o t u files)

-- to append nothing changes nothing
pub after_append-nil : (s : ShelfState) → after_append s [] ≡ s
after_append-nil s =
    ap (λ (f : Option FileMap). record s { files = f }) (files-nil s.created s.files)

-- to append two texts is to append both as one
pub after_append-append : (s : ShelfState) (t u : Bytes)
    → after_append (after_append s t) u ≡ after_append s (t ++ u)
after_append-append s t u =
    ap (λ (f : Option FileMap). record s { files = f }) (files-twice s.created t u s.files)

-- nothing was written: all waits that waited
pub passes-none : (s : ShelfState) (w : Bytes) → PassesOn s w [] s w
passes-none s w = record { sent = []; split = append-nil w; passed = sym (after_append-nil s) }

-- two texts written one after another are both written as one
pub passes-then-passes : {a b c : ShelfState} {w t x u y : Bytes} → PassesOn a w t b x
    → PassesOn b x u c y → PassesOn a w (t ++ u) c y
passes-then-passes {a} {b} {c} {w} {t} {x} {u} {y} p q = record {
  sent = p.sent ++ q.sent;
  split = sym (append_assoc w t u) ∙ ap (λ (l : Bytes). l ++ u) p.split ∙ append_assoc p.sent x u
      ∙ ap (λ (l : Bytes). p.sent ++ l) q.split ∙ sym (append_assoc p.sent q.sent y);
  passed = q.passed ∙ ap (λ (s : ShelfState). after_append s q.sent) p.passed
      ∙ after_append-append a p.sent q.sent;
}

fails-behind : (a : ShelfState) {b c : ShelfState} (s : Bytes) {l : Bytes}
    → b ≡ after_append a s → FailsToAppend b l c → FailsToAppend a (s ++ l) c
fails-behind a {b} {c} s {l} e f =
    let P : ShelfState → Type 0 = λ z. HasFailed z (after_append z (take f.count l)) c false in
    let h : HasFailed (after_append a s)
    (after_append (after_append a s) (take f.count l)) c false = subst P e f.failed in
    let same : after_append (after_append a s) (take f.count l)
    ≡ after_append a (take (length s + f.count) (s ++ l)) =
    after_append-append a s (take f.count l)
    ∙ ap (after_append a) (sym (take-append-add s l f.count)) in
    record {
      count = length s + f.count;
      within = omega (arith, length-append s l, f.within);
      failed = subst (λ (z : ShelfState). HasFailed a z c false) same (record {
        files = h.files;
        said = h.said;
        is_created = h.is_created;
        created = h.created;
        risen = h.risen;
        say_failed = h.say_failed;
      });
    }

-- a call failed that changed nothing: no byte of the text was appended
pub fails_at_once : {a c : ShelfState} (t : Bytes) → HasFailed a a c false → FailsToAppend a t c
fails_at_once {a} {c} t f = record {
  count = 0;
  within = omega arith;
  failed = subst (λ (z : ShelfState). HasFailed a z c false) (sym (after_append-nil a)) f;
}

-- a text was written, and the next failed
pub passes-then-fails : {a b c : ShelfState} {w t : Bytes} (x u : Bytes) → PassesOn a w t b x
    → FailsToAppend b (x ++ u) c → FailsToAppend a (w ++ (t ++ u)) c
passes-then-fails {a} {b} {c} {w} {t} x u p f =
    let same : p.sent ++ (x ++ u) ≡ w ++ (t ++ u) =
    sym (append_assoc p.sent x u) ∙ ap (λ (l : Bytes). l ++ u) (sym p.split) ∙ append_assoc w t u in
    subst (λ (l : Bytes). FailsToAppend a l c) same (fails-behind a p.sent p.passed f)

-- a front part of a text is one of a longer text
pub fails-longer : {a c : ShelfState} (w t u : Bytes) → FailsToAppend a (w ++ t) c
    → FailsToAppend a (w ++ (t ++ u)) c
fails-longer {a} {c} w t u f =
    let same : take f.count (w ++ t) ≡ take f.count (w ++ (t ++ u)) =
    sym (take-append-le f.count (w ++ t) u f.within) ∙ ap (take f.count) (append_assoc w t u) in
    record {
      count = f.count;
      within = omega (
        arith,
        f.within,
        length-append w t,
        length-append w (t ++ u),
        length-append t u,
      );
      failed = subst (λ (l : Bytes). HasFailed a (after_append a l) c false) same f.failed;
    }

-- a text was written, and another behind it was or was not
pub passes-then-writes : {T : Type 0} {a b : ShelfState} {w t x : Bytes}
    (u : Bytes) (c : ShelfState) (y : Bytes) (r : Result T Failed)
    → PassesOn a w t b x → Writes b x u c y r → Writes a w (t ++ u) c y r
passes-then-writes u c y (Ok v) p q = passes-then-passes p q
passes-then-writes u c y (Err e) p f = passes-then-fails _ u p f

-- a text was written, and all that waits was appended
pub passes-then-flushes : {a b c : ShelfState} {w t x : Bytes} → PassesOn a w t b x
    → c ≡ after_append b x → c ≡ after_append a (w ++ t)
passes-then-flushes {a} {b} {c} {w} {t} {x} p e =
    e ∙ ap (λ (s : ShelfState). after_append s x) p.passed ∙ after_append-append a p.sent x
    ∙ ap (after_append a) (sym p.split)

-- a text was written, and to append what waits failed
pub passes-then-fails_to_flush : {a b c : ShelfState} {w t x : Bytes} → PassesOn a w t b x
    → FailsToAppend b x c → FailsToAppend a (w ++ t) c
passes-then-fails_to_flush {a} {b} {c} {w} {t} {x} p f =
    subst (λ (l : Bytes). FailsToAppend a l c) (sym p.split) (fails-behind a p.sent p.passed f)

-- what waited was appended, and then a text behind it was or was not
pub flushes-then-appends : {T : Type 0} {b : ShelfState}
    (a : ShelfState) (w t : Bytes) (c : ShelfState) (y : Bytes) (r : Result T Failed)
    → b ≡ after_append a w → y ≡ [] → OnOk r (c ≡ after_append b t)
    → OnErr r (FailsToAppend b t c) → Writes a w t c y r
flushes-then-appends {T} {b} a w t c y (Ok v) flushed none ok err = record {
  sent = w ++ t;
  split = sym (ap (λ (l : Bytes). (w ++ t) ++ l) none ∙ append-nil (w ++ t));
  passed = ok ∙ ap (λ (s : ShelfState). after_append s t) flushed ∙ after_append-append a w t;
}
flushes-then-appends {T} {b} a w t c y (Err e) flushed none ok err = fails-behind a w flushed err
