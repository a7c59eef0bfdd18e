-- What a read makes of a table of files, of a place in it and of what was read of the file there.
use Rattle.std.proofs.Common.{◌≡◌, ◌∙◌, ◌+◌, ◌-◌, ◌<◌, ◌≤◌, ℕ, List, [], Option, Some, None, min, option_map, slice_get, length, length-drop, drop, take, refl, sym, ap, subst, arith}
use Rattle.std.proofs.lemmas.Grind.{common_steps}
use Rattle.std.proofs.lemmas.List.{nil_from_length}
use Rattle.std.proofs.Math.Seq.{take-length}
use Rattle.desk_io.specs.DeskState.{AreNext}
use Rattle.desk_io.specs.Files.{Bytes}
use Rattle.desk_io.specs.Table.{IsWithin, Named, left_at, name_at}
use Rattle.desk_io.proofs.TableLemmas.{at_index}
use Rattle.desk_io.proofs.mem_desk.MemDeskDesk.read.Goals as goal

left_more : (files : List Named) (at : Option ℕ) (k n : ℕ)
    → left_at files at (k + n) ≡ option_map (drop n) (left_at files at k)
left_more files None k n = refl
left_more files (Some p) k n = by_file (slice_get files p)
  where
    by_file : (f : Option Named) → option_map (λ (g : Named). drop (k + n) g.1.items) f
        ≡ option_map (drop n) (option_map (λ (g : Named). drop k g.1.items) f)
    by_file None = refl
    by_file (Some g) = ap Some (grind (arith, common_steps))

left_there : (files : List Named) (p k : ℕ) (f : Named) → slice_get files p ≡ Some f
    → left_at files (Some p) k ≡ Some (drop k f.1.items)
left_there files p k f at = rw at refl

within_more : (files : List Named) (started : Option ℕ) (place k : ℕ) (f : Named)
    → started ≡ Some place → slice_get files place ≡ Some f → place < length files
    → k ≤ length f.1.items → IsWithin files started k
within_more files started place k f is at inside fits = λ p e.
    let same : place ≡ p = (let both : Some place ≡ Some p = sym is ∙ e in cc) in
    subst (λ (q : ℕ). (q < length files)
    × ((g : Named) → slice_get files q ≡ Some g → k ≤ length g.1.items)) same (
      inside,
      λ g there.
          let one : f ≡ g = (let both : Some f ≡ Some g = sym at ∙ there in cc) in
          subst (λ (h : Named). k ≤ length h.1.items) one fits,
    )

rest_is : (file : Bytes) (k : ℕ) → take (length file - k) (drop k file) ≡ drop k file
rest_is file k = rw (← length-drop k file) (take-length (drop k file))

no_more : (file : Bytes) (k n room : ℕ) → k ≤ length file
    → n ≡ min (length (take (length file - k) (drop k file))) room → k + n ≤ length file
no_more file k n room within count =
    let counted = rw (rest_is file k) at count in omega (arith, counted, length-drop k file)

next_copied : (file buffer new : Bytes) (k n : ℕ) (left : Option Bytes)
    → left ≡ Some (drop k file) → 0 < length buffer
    → n ≡ min (length (take (length file - k) (drop k file))) (length buffer)
    → take n new ≡ take n (take (length file - k) (drop k file)) → AreNext n left new
next_copied file buffer new k n left is room count same = λ bytes e.
    let counted = rw (rest_is file k) at count in
    let copied = rw (rest_is file k) at same in
    let there : drop k file ≡ bytes =
    (let both : Some (drop k file) ≡ Some bytes = sym is ∙ e in cc) in
    subst (λ (l : Bytes). (n ≤ length l) × (take n new ≡ take n l) × (n ≡ 0 → l ≡ [])) there
    (omega (arith, counted), copied, λ none. nil_from_length _ (omega (arith, counted)))

pub returns-then-next_fails-clause-err : goal.returns-then-next_fails-clause-err
returns-then-next_fails-clause-err c = rw (← c.self.view_is) (record {
  files = refl;
  is_started = rw (← c.self.view_is) at c.requires.started;
  started = refl;
  left = refl;
  risen = c.add.ensures.risen;
  fault_name = ap (name_at c.self.inside.files.items) (c.add.ensures.file ∙ sym c.in-Some.is);
})

pub returns-clause-ok : goal.returns-clause-ok
returns-clause-ok c =
    rw (
      ← c.self.view_is,
      left_more c.self.inside.files.items c.self.inside.started
          c.self.inside.at c.copy_front-n.result,
    ) refl

pub invariant_of-self-2 : goal.invariant_of-self-2
invariant_of-self-2 c =
    let files = c.self.inside.files.items in
    let inside = (c.self.invariant c.in-Some.place c.in-Some.is).0 in
    let at = at_index files c.in-Some.place c.index.result.now inside c.index.ensures in
    let fits = (c.self.invariant c.in-Some.place c.in-Some.is).1 _ at in
    within_more files c.self.inside.started c.in-Some.place _ _ c.in-Some.is at inside
    (no_more c.index.result.now.1.items c.self.inside.at c.copy_front-n.result _ fits
    (rw c.deref.ensures.value at c.copy_front-n.ensures.count))

pub returns-clause-bytes : goal.returns-clause-bytes
returns-clause-bytes c =
    let files = c.self.inside.files.items in
    let inside = (c.self.invariant c.in-Some.place c.in-Some.is).0 in
    let at = at_index files c.in-Some.place c.index.result.now inside c.index.ensures in
    next_copied c.index.result.now.1.items c.args.buf.now c.copy_front-n.new.buf c.self.inside.at
    c.copy_front-n.result c.args.self.now.left
    (rw (← c.self.view_is) (ap (λ (s : Option ℕ). left_at files s c.self.inside.at) c.in-Some.is
    ∙ left_there files c.in-Some.place c.self.inside.at _ at)) c.requires.room
    (rw c.deref.ensures.value at c.copy_front-n.ensures.count)
    (rw c.deref.ensures.value at c.copy_front-n.ensures.bytes)

pub index-requires : goal.index-requires
index-requires c =
    omega (arith, (c.self.invariant c.in-Some.place c.in-Some.is).0, c.self.inside.files.ok.0)

pub slice_bounds-rest-count : goal.slice_bounds-rest-count
slice_bounds-rest-count c =
    let inside = (c.self.invariant c.in-Some.place c.in-Some.is).0 in
    let at = at_index c.self.inside.files.items c.in-Some.place c.index.result.now inside
    c.index.ensures in
    rw c.deref.ensures.value ((c.self.invariant c.in-Some.place c.in-Some.is).1 _ at)

pub overflow_add-self : goal.overflow_add-self
overflow_add-self c =
    let inside = (c.self.invariant c.in-Some.place c.in-Some.is).0 in
    let at = at_index c.self.inside.files.items c.in-Some.place c.index.result.now inside
    c.index.ensures in
    let fits = (c.self.invariant c.in-Some.place c.in-Some.is).1 _ at in
    let more = no_more c.index.result.now.1.items c.self.inside.at c.copy_front-n.result _ fits
    (rw c.deref.ensures.value at c.copy_front-n.ensures.count) in
    omega (arith, more, ap length c.deref.ensures.value)
