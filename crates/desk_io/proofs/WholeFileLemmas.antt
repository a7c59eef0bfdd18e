-- A file that is created, appended to and finished holds what was appended, and after a fault a
-- front part of it.
use Rattle.std.proofs.Common.{◌≡◌, ◌∙◌, [], ℕ, Option, None, Some, option_map, length, take, refl, sym, ap, subst, inr, arith}
use Rattle.std.specs.FinMap.{insert}
use Rattle.std.proofs.Math.Seq.{take-length}
use Rattle.desk_io.specs.Files.{Bytes, FileMap, RisesByOne}
use Rattle.desk_io.specs.ShelfState.{FailsToAppend, FailsToFinish, ShelfState, after_append, after_create, after_finish, with_created}
use Rattle.desk_io.specs.WholeFile.{FailsToWrite, after_writing}
use Rattle.desk_io.proofs.FileLemmas.{get-inserted, insert-insert}

written : (files : Option FileMap) (name text : Bytes)
    → option_map (with_created (option_map (λ _. name) files) text)
    (option_map (λ fs. insert fs name []) files)
    ≡ option_map (λ fs. insert fs name text) files
written None name text = refl
written (Some files) name text =
    rw (get-inserted files name []) (ap Some (insert-insert files name [] text))

-- a created file that a text was appended to
appended-is : (a : ShelfState) (name text : Bytes) → after_append (after_create a name) text
    ≡ record (after_create a name) { files = option_map (λ fs. insert fs name text) a.files }
appended-is a name text =
    ap (λ (f : Option FileMap). record (after_create a name) { files = f })
    (written a.files name text)

module _ (a : ShelfState) {b : ShelfState} (name text : Bytes)
    (created : b ≡ after_create a name) where
  appended : {c : ShelfState} → c ≡ after_append b text
      → c ≡ record (after_create a name) { files = option_map (λ fs. insert fs name text) a.files }
  appended h = h ∙ ap (λ (s : ShelfState). after_append s text) created ∙ appended-is a name text

  -- all three calls were answered
  pub file-written : {c d : ShelfState} → c ≡ after_append b text → d ≡ after_finish c
      → d ≡ after_writing a name text
  file-written h finished = finished ∙ ap after_finish (appended h)

  -- the text was not appended whole
  pub append-fails : {c : ShelfState} → FailsToAppend b text c → FailsToWrite a name text c
  append-fails {c} h = inr (record {
    count = h.count;
    within = h.within;
    files = h.failed.files
        ∙ ap (λ (s : ShelfState). (after_append s (take h.count text)).files) created
        ∙ written a.files name (take h.count text);
    said = h.failed.said ∙ ap (λ (s : ShelfState). s.said) created;
    risen = subst (λ (n : ℕ). RisesByOne n c.faults)
        (ap (λ (s : ShelfState). s.faults) created) h.failed.risen;
    say_failed = h.failed.say_failed;
  })

  -- the file was not finished
  pub finish-fails : {c d : ShelfState} → c ≡ after_append b text → FailsToFinish c d
      → FailsToWrite a name text d
  finish-fails {c} {d} at h = inr (record {
    count = length text;
    within = omega arith;
    files = h.files ∙ ap (λ (s : ShelfState). s.files) (appended at)
        ∙ ap (λ (t : Bytes). option_map (λ fs. insert fs name t) a.files) (sym (take-length text));
    said = h.said ∙ ap (λ (s : ShelfState). s.said) (appended at);
    risen = subst (λ (n : ℕ). RisesByOne n d.faults)
        (ap (λ (s : ShelfState). s.faults) (appended at)) h.risen;
    say_failed = h.say_failed;
  })
