-- What a run leaves of the files of its job, whatever fails.
use Rattle.std.specs.List.{All}
use Rattle.std.specs.FinMap.{get, insert}
use Rattle.std.proofs.Common.{◌≡◌, ◌≢◌, ◌∙◌, ◌⊎◌, ℕ, ◌*◌, ◌<◌, ◌≤◌, List, [], ◌∷◌, ◌++◌, length, take, arith, Option, Some, None, Ok, Err, Result, refl, sym, ap, subst, inl, inr, append_assoc}
use Rattle.std.proofs.lemmas.List.{append-nil}
use Rattle.std.proofs.lemmas.List.Elements.{All-cons, All-nil}
use Rattle.desk_io.specs.Changes.{OnlyChanges, held}
use Rattle.desk_io.specs.Reading.{IsWhole}
use Rattle.desk_io.specs.WholeFile.{FailsToWrite, after_writing}
use Rattle.list_laws.proofs.Places.{some_is}
use Rattle.route_sweep.specs.Names.{cnf_name, lrat_name}
use Rattle.route_sweep.specs.Written.{after_clauses}
use Rattle.route_sweep.specs.declared.found.FileSlot.{FileSlot}
use Rattle.route_sweep.specs.declared.found.FileSlot.TheVariants.{Route as RouteSlot, Clauses, Log}
use Rattle.route_sweep.specs.declared.found.Found.{Found}
use Rattle.route_sweep.specs.declared.found.Found.TheVariants.{Routed as IsRouted, Refuted, Spent}
use Rattle.route_sweep.specs.declared.found.Stop.{Stop}
use Rattle.route_sweep.specs.declared.found.Stop.TheVariants.{Fault, TooManyClauses, TooManyHeld, Memory}
use Rattle.route_ways.specs.Way.{copies_by}
use Rattle.sat_clause.specs.declared.limits.TheConstants.{CLAUSE_LIMIT}
use Rattle.sat_text.specs.Printed.{cnf_text, log_text}
use Rattle.router_top.specs.Comes.{lower_files, EndsSearch}
use Rattle.run_outcome.specs.Written.{FailsAmong, WritesFiles, JobFile, with_file, with_files}
use Rattle.router_top.specs.JobFiles.{AreFilesOf, AreFound, IsBegun, LeavesFiles, LeavesPart, LeavesWhole}
use Rattle.run_outcome.specs.Report.{found_outcome, unsaid}
use Rattle.router_top.specs.Run.{Runs}
use Rattle.run_outcome.specs.Scene.{Scene, scene}
use Rattle.router_top.specs.Search.{proof_files, route_file, clauses_at}
use Rattle.router_top.specs.Work.{Finds}
use Rattle.run_outcome.specs.Subject.{DeskState, Bytes, FileMap, ShelfState, HasFew, Cnf, Step, Word}
use Rattle.run_outcome.specs.declared.outcome.Outcome.{Outcome}
use Rattle.run_outcome.specs.declared.outcome.Outcome.TheVariants.{InputFault, Limit, NotSymmetric, ReadFault, Unroutable, Usage, WriteFault, Done, Routed, Unfound, NoWay, NotModel, Narrowed, Beyond}
use Rattle.run_outcome.specs.declared.slot.Slot.{Slot}
use Rattle.run_outcome.specs.declared.slot.Slot.TheVariants.{Said, File}
use Rattle.run_outcome.proofs.WrittenLaws.{AreHeard, IsHeard, files-after, AreApart, NoneHas, Stand, all-stand, are-written, get-other, with_files-append, written-stand}
use Rattle.router_top.proofs.Came.{Came, Cut, HasCome, HasWritten, Idle, IsSpared, NeedsNoFile, Searched, Told, Wrote, ended_with, IsDone}
use Rattle.router_top.proofs.SlotNameLaws.{part-named}

-- ---- names that differ

-- this holds of each of the files
abbrev Each : (JobFile → Type 0) → List JobFile → Type 0
Each P [] = Unit {0}
Each P (file ∷ more) = P file × Each P more

all-each : (P : JobFile → Type 0) (files : List JobFile) → Each P files → All P files
all-each P [] each = All-nil P
all-each P (file ∷ more) each = All-cons P file more each.0 (all-each P more each.1)

none-behind : (name : Bytes) (front back : List JobFile) → NoneHas name (front ++ back)
    → NoneHas name back
none-behind name [] back none = none
none-behind name (file ∷ more) back none = none-behind name more back none.1

none-before : (name : Bytes) (front back : List JobFile) → NoneHas name (front ++ back)
    → NoneHas name front
none-before name [] back none = tt
none-before name (file ∷ more) back none = (none.0, none-before name more back none.1)

apart-front : (front back : List JobFile) → AreApart (front ++ back) → AreApart front
apart-front [] back apart = tt
apart-front (file ∷ more) back apart =
    (none-before file.name more back apart.0, apart-front more back apart.1)

apart-back : (front back : List JobFile) → AreApart (front ++ back) → AreApart back
apart-back [] back apart = apart
apart-back (file ∷ more) back apart = apart-back more back apart.1

-- the names of later files are not among those of earlier ones
later-others : (front back : List JobFile) → AreApart (front ++ back)
    → Each (λ file. NoneHas file.name front) back
later-others [] back apart = nothing back
  where
    nothing : (files : List JobFile) → Each (λ file. NoneHas file.name []) files
    nothing [] = tt
    nothing (file ∷ more) = (tt, nothing more)
later-others (first ∷ more) back apart =
    both back (none-behind first.name more back apart.0) (later-others more back apart.1)
  where
    both : (files : List JobFile) → NoneHas first.name files
        → Each (λ file. NoneHas file.name more) files
        → Each (λ file. NoneHas file.name (first ∷ more)) files
    both [] none each = tt
    both (file ∷ files) none each =
        (((λ same. none.0 (sym same)), each.0), both files none.1 each.1)

-- ---- a file that was begun

module _ (name : Bytes) (before now : Option FileMap) (only : OnlyChanges name before now) where
  held-still : (q : Bytes) → q ≢ name → held now q ≡ held before q
  held-still q other = by-told before refl
    where
      by-told : (told : Option FileMap) → before ≡ told → held now q ≡ held before q
      by-told None none = ap (λ (fs : Option FileMap). held fs q) (only.untold none ∙ sym none)
      by-told (Some old) is =
          let new = only.others old is in
          ap (λ (fs : Option FileMap). held fs q) new.1 ∙ new.2 q other
          ∙ ap (λ (fs : Option FileMap). held fs q) (sym is)

  -- a file of another name stands as before
  bytes-still : (q text : Bytes) → q ≢ name → IsWhole before q text → IsWhole now q text
  bytes-still q text other has = by-told before refl
    where
      by-told : (told : Option FileMap) → before ≡ told → IsWhole now q text
      by-told None none = λ fs told. let gone : now ≡ None = only.untold none in cc
      by-told (Some old) is = λ fs told.
          let new = only.others old is in
          subst (λ (m : FileMap). get m q ≡ Some text) (some_is (sym new.1 ∙ told))
          (new.2 q other ∙ has old is)

  still-stand : (files : List JobFile) → NoneHas name files → Stand before files
      → Stand now files
  still-stand [] none each = tt
  still-stand (file ∷ more) none each = (
    bytes-still file.name file.text (λ same. none.0 (sym same)) each.0,
    still-stand more none.1 each.1,
  )

-- one file was written, which is all that has changed
one-changes : (file : JobFile) (before : Option FileMap)
    → OnlyChanges file.name before (with_file file before)
one-changes file None = record { others = λ old told. cc; untold = λ none. refl }
one-changes file (Some files) = record {
  others = λ old told. (
    insert files file.name file.text,
    refl,
    (λ q other. get-other files file.name file.text q other
        ∙ ap (λ (m : FileMap). get m q) (some_is told)),
  );
  untold = λ none. cc;
}

begun-only : (file : JobFile) (before now : Option FileMap) → IsBegun file before now
    → OnlyChanges file.name before now
begun-only file before now (inl only) = only
begun-only file before now (inr (count, within, is)) =
    subst (OnlyChanges file.name before) (sym is)
    (one-changes (record file { text = take count file.text }) before)

fails-begun : (before now : ShelfState) (file : JobFile)
    → FailsToWrite before file.name file.text now → IsBegun file before.files now.files
fails-begun before now file (inl h) = inl (record { others = h.others; untold = h.untold })
fails-begun before now file (inr h) = inr (h.count, h.within, h.files)

-- a file that was not written is as it was behind others
held-behind : (files : List JobFile) (before : Option FileMap) (q : Bytes) → NoneHas q files
    → held (with_files files before) q ≡ held before q
held-behind [] before q none = refl
held-behind (file ∷ more) before q none =
    held-behind more (with_file file before) q none.1
    ∙ held-still file.name before (with_file file before) (one-changes file before) q none.0

-- ---- what is left

module _ (words : List Word) (desk before : Option FileMap) where
  abbrev Here : (now : Option FileMap) → Outcome → Type 0
  Here now outcome = LeavesFiles words desk before now outcome

  -- files that were written stand whole
  whole-left : (files : List JobFile) → AreFilesOf words desk files → AreApart files
      → (now : Option FileMap) → now ≡ with_files files before
      → LeavesWhole words desk before now
  whole-left files of apart now is = record {
    files = files;
    of = of;
    written = are-written files before now is apart;
  }

  pub none-left : (now : Option FileMap) → now ≡ before → LeavesWhole words desk before now
  none-left now same = whole-left [] (inr (inr (inr (inr (inr (inr refl)))))) tt now same

  -- a file behind others was begun
  part-left : (files : List JobFile) → AreFilesOf words desk files → AreApart files
      → (whole : List JobFile) (part : JobFile) (later : List JobFile)
      → files ≡ whole ++ part ∷ later → (between now : ShelfState)
      → between.files ≡ with_files whole before
      → FailsToWrite between part.name part.text now
      → LeavesPart words desk before now.files part.slot
  part-left files of apart whole part later order between now behind fails =
      let split : AreApart (whole ++ part ∷ later) = subst AreApart order apart in
      let begun = fails-begun between now part fails in
      let only = begun-only part between.files now.files begun in
      let others = later-others whole (part ∷ later) split in
      let ends = apart-back whole (part ∷ later) split in
      let written = are-written whole before between.files behind
      (apart-front whole (part ∷ later) split) in
      record {
        files = files;
        of = of;
        whole = whole;
        part = part;
        later = later;
        order = order;
        named = refl;
        name = part-named words desk files of whole part later order;
        between = between.files;
        written = written;
        begun = begun;
        stand = all-stand whole now.files
            (still-stand part.name between.files now.files only whole others.0
            (subst (λ (fs : Option FileMap). Stand fs whole) (sym behind)
            (written-stand whole before
            (apart-front whole (part ∷ later) split))));
        stay = all-each (λ file. held now.files file.name ≡ held before file.name)
            later (stays-all between now only behind later ends.0 others.1);
      }
    where
      stays-all : (between now : ShelfState)
          → OnlyChanges part.name between.files now.files
          → between.files ≡ with_files whole before
          → (files : List JobFile) → NoneHas part.name files
          → Each (λ file. NoneHas file.name whole) files
          → Each (λ file. held now.files file.name ≡ held before file.name) files
      stays-all between now only behind [] none others = tt
      stays-all between now only behind (file ∷ more) none others = (
        held-still part.name between.files now.files only file.name
            (λ same. none.0 (sym same))
            ∙ ap (λ (fs : Option FileMap). held fs file.name) behind
            ∙ held-behind whole before file.name others.0,
        stays-all between now only behind more none.1 others.1,
      )

  -- where nothing was written, all is as it was
  idle-left : (now : Option FileMap) (o : Outcome) → NeedsNoFile o → now ≡ before → Here now o
  idle-left now (WriteFault slot) fileless same = absurd fileless
  idle-left now (Unroutable width) fileless same = absurd fileless
  idle-left now (Usage code) fileless same = same
  idle-left now (ReadFault file) fileless same = same
  idle-left now (InputFault file line code) fileless same = same
  idle-left now (NotSymmetric width why) fileless same = same
  idle-left now (Unfound width rounds stopped) fileless same = same
  idle-left now (NoWay width) fileless same = same
  idle-left now (NotModel clause) fileless same = same
  idle-left now (Beyond tracks cells nets) fileless same = same
  idle-left now (Limit file code count) fileless same = inl same
  idle-left now o fileless same = none-left now same

-- ---- files in a row

-- a file of these was not written whole, behind those before it
record BreaksOff (files : List JobFile) (before now : ShelfState) (slot : Slot) : Type 0 where
  whole : List JobFile
  part : JobFile
  later : List JobFile
  order : files ≡ whole ++ part ∷ later
  named : part.slot ≡ slot
  between : ShelfState
  behind : between.files ≡ with_files whole before.files
  fails : FailsToWrite between part.name part.text now

breaks-off : (files : List JobFile) (before now : ShelfState) (slot : Slot)
    → FailsAmong files before now slot → BreaksOff files before now slot
breaks-off [] before now slot h = absurd h
breaks-off (file ∷ files) before now slot (inl h) = record {
  whole = [];
  part = file;
  later = files;
  order = refl;
  named = sym h.0;
  between = before;
  behind = refl;
  fails = h.1;
}
breaks-off (file ∷ files) before now slot (inr h) =
    let rest = breaks-off files (after_writing before file.name file.text) now slot h in
    record {
      whole = file ∷ rest.whole;
      part = rest.part;
      later = rest.later;
      order = ap (λ (fs : List JobFile). file ∷ fs) rest.order;
      named = rest.named;
      between = rest.between;
      behind = rest.behind;
      fails = rest.fails;
    }

-- ---- the work that was done

-- one copy of the clauses is no more than there are
one-held : (copies n count : ℕ) → copies ≡ 1 → n ≤ CLAUSE_LIMIT → count ≡ copies * n
    → CLAUSE_LIMIT < count → ⊥
one-held copies n count one few is many =
    let same : count ≡ 1 * n = is ∙ ap (λ (k : ℕ). k * n) one in omega (arith, few, many, same)

pub among-heard : (files : List JobFile) (before now : ShelfState) (slot : Slot) → AreHeard files
    → FailsAmong files before now slot → IsHeard (WriteFault slot)
among-heard [] before now slot heard h = absurd h
among-heard (file ∷ files) before now slot heard (inl h) =
    subst (λ (s : Slot). IsHeard (WriteFault s)) (sym h.0) heard.0
among-heard (file ∷ files) before now slot heard (inr h) =
    among-heard files (after_writing before file.name file.text) now slot heard.1 h

module _ (words : List Word) (at : Scene) where
  abbrev LeftHere : Outcome → Type 0
  LeftHere = LeavesFiles words at.desk.files at.shelf.files at.shelf_now.files

  -- a search that has come to a width
  module _ (o : Outcome) (h : HasCome words at o) where
    abbrev low : List JobFile
    low = lower_files h.comes

    -- the clauses at the width
    abbrev formula : Cnf
    formula = clauses_at h.comes.search h.width h.comes.p

    -- the files at the width behind those of lower ones
    behind : (here : List JobFile) (now : Option FileMap) → now ≡ with_files here h.between.files
        → now ≡ with_files (low ++ here) at.shelf.files
    behind here now is = is ∙ ap (with_files here) h.lower
        ∙ sym (with_files-append low here at.shelf.files)

    -- what a search finds at the width is what it writes there
    of-here : (here : List JobFile) → AreFound h.comes.search h.comes.p h.width here ⊎ (here ≡ [])
        → AreFilesOf words at.desk.files (low ++ here)
    of-here here found = inl (record {
      width = h.width;
      comes = h.comes;
      here = here;
      found = found;
      order = refl;
    })

    -- these files were written at the width
    here-left : (here : List JobFile) → AreFound h.comes.search h.comes.p h.width here ⊎ (here ≡ [])
        → AreApart (low ++ here) → at.shelf_now.files ≡ with_files here h.between.files
        → LeavesWhole words at.desk.files at.shelf.files at.shelf_now.files
    here-left here found apart is = whole-left words at.desk.files at.shelf.files (low ++ here)
        (of-here here found) apart at.shelf_now.files
        (behind here at.shelf_now.files is)

    -- nothing was written at the width
    low-left : at.shelf_now ≡ h.between
        → LeavesWhole words at.desk.files at.shelf.files at.shelf_now.files
    low-left same = here-left [] (inr refl)
        (subst AreApart (sym (append-nil low)) (apart-front low
        (proof_files h.comes.search h.comes.p h.width []) (h.proof_apart [])))
        (ap (λ (s : ShelfState). s.files) same)

    pub log-left : HasFew formula → (log : List Step)
        → EndsSearch h.comes.search h.comes.p h.width log → at.shelf_now.files
        ≡ with_files (proof_files h.comes.search h.comes.p h.width log) h.between.files
        → LeavesWhole words at.desk.files at.shelf.files at.shelf_now.files
    log-left few log ends = here-left (proof_files h.comes.search h.comes.p h.width log)
        (inl (few, inr (log, ends, refl))) (h.proof_apart log)

    -- a file at the width was begun behind these
    part-here : (here : List JobFile) → AreFound h.comes.search h.comes.p h.width here
        → AreApart (low ++ here) → (whole : List JobFile) (part : JobFile)
        (later : List JobFile) → here ≡ whole ++ part ∷ later → (between : ShelfState)
        → between.files ≡ with_files whole h.between.files
        → FailsToWrite between part.name part.text at.shelf_now
        → LeavesPart words at.desk.files at.shelf.files at.shelf_now.files part.slot
    part-here here found apart whole part later order between written fails =
        part-left words at.desk.files at.shelf.files (low ++ here) (of-here here (inl found))
        apart (low ++ whole) part later
        (ap (λ (fs : List JobFile). low ++ fs) order ∙ sym (append_assoc low whole (part ∷ later)))
        between at.shelf_now (behind whole between.files written) fails

    -- the clauses and a log at the width
    abbrev clauses-file : JobFile
    clauses-file = record {
      slot = File (Clauses h.width);
      name = cnf_name h.comes.search.ask h.width;
      text = cnf_text formula;
    }

    abbrev log-file : List Step → JobFile
    log-file log = record {
      slot = File (Log h.width);
      name = lrat_name h.comes.search.ask h.width;
      text = log_text log;
    }

    -- what is left where the file of a slot was not written whole
    abbrev PartHere : FileSlot → Type 0
    PartHere slot =
        LeavesPart words at.desk.files at.shelf.files at.shelf_now.files (File slot)

    found-left : (came : Result Found Stop)
        → Finds h.comes.search h.comes.p h.width h.between at.shelf_now came
        → LeftHere (found_outcome h.width came)
    found-left (Ok IsRouted) f = here-left (route_file h.comes.search f.1.found ∷ [])
        (inl (f.0.few, inl (f.1.found, f.1.routing, refl))) (h.route_apart f.1.found)
        (ap (λ (s : ShelfState). s.files) f.1.written)
    found-left (Ok (Refuted lead)) f = log-left f.0.few f.1.log (inl (lead.items, f.1.ends))
        (ap (λ (s : ShelfState). s.files) f.1.written)
    found-left (Ok (Spent learned)) f = log-left f.0.few f.1.log (inr f.1.ends.opens)
        (ap (λ (s : ShelfState). s.files) f.1.written)
    found-left (Err (Fault RouteSlot)) f = part-here (route_file h.comes.search f.1.found ∷ [])
        (f.0.few, inl (f.1.found, f.1.routing, refl)) (h.route_apart f.1.found) []
        (route_file h.comes.search f.1.found) [] refl
        h.between refl f.1.fails
    found-left (Err (Fault (Clauses of))) f =
        subst (λ (k : ℕ). PartHere (Clauses k)) (sym f.1.fails.0)
        (part-here (proof_files h.comes.search h.comes.p h.width f.1.log)
        (f.0.few, inr (f.1.log, f.1.ended, refl)) (h.proof_apart f.1.log) [] clauses-file
        (log-file f.1.log ∷ []) refl h.between refl f.1.fails.1)
    found-left (Err (Fault (Log of))) f =
        subst (λ (k : ℕ). PartHere (Log k)) (sym f.1.fails.0)
        (part-here (proof_files h.comes.search h.comes.p h.width f.1.log)
        (f.0.few, inr (f.1.log, f.1.ended, refl)) (h.proof_apart f.1.log) (clauses-file ∷ [])
        (log-file f.1.log) [] refl (after_clauses h.between h.comes.search.ask h.width formula) refl
        f.1.fails.1)
    found-left (Err (TooManyClauses count)) f = elim h.climbs [
      | inl alone ↦ inl (ap (λ (s : ShelfState). s.files) f.1 ∙ alone)
      | inr climb ↦ inr (inl (refl, climb.0), low-left f.1)
    ]
    found-left (Err (TooManyHeld count)) f = elim h.climbs [
      | inl alone ↦ inl (ap (λ (s : ShelfState). s.files) f.1 ∙ alone)
      | inr climb ↦ elim climb.1 [
        | inl one ↦ absurd (one-held (copies_by h.comes.search.way) (length formula.clauses) count
            one f.0.0 f.0.1 f.0.2)
        | inr turns ↦ inr (inr (refl, turns), low-left f.1)
      ]
    ]
    found-left (Err Memory) f = low-left f.1

    come-left : LeftHere o
    come-left = subst LeftHere (sym h.is) (found-left h.came h.finds)

  -- a part is what a fault leaves, but for one of what is said
  part-leaves : (slot : Slot) → IsHeard (WriteFault slot)
      → LeavesPart words at.desk.files at.shelf.files at.shelf_now.files slot
      → LeftHere (WriteFault slot)
  part-leaves Said heard part = absurd heard
  part-leaves slot heard part = part

  -- files that stand whole are what is left where all were written
  done-leaves : (o : Outcome) → IsDone o
      → LeavesWhole words at.desk.files at.shelf.files at.shelf_now.files → LeftHere o
  done-leaves Done is_done whole = whole
  done-leaves (Routed width) is_done whole = whole
  done-leaves (Narrowed tracks width cut) is_done whole = whole
  done-leaves o is_done whole = absurd is_done

  -- files in a row
  files-left : (o : Outcome) (h : HasWritten words at o)
      → WritesFiles h.done h.files h.between at.shelf_now o → LeftHere o
  files-left o h (inl done) = subst LeftHere (sym done.0) (done-leaves h.done h.is_done
      (whole-left words at.desk.files at.shelf.files h.files h.of h.apart at.shelf_now.files
      (ap (λ (s : ShelfState). s.files) done.1 ∙ files-after h.files h.between
      ∙ ap (with_files h.files) h.begun)))
  files-left o h (inr (slot, fails, is)) =
      let off = breaks-off h.files h.between at.shelf_now slot fails in
      let part = part-left words at.desk.files at.shelf.files h.files h.of h.apart off.whole
      off.part off.later off.order off.between at.shelf_now
      (off.behind ∙ ap (with_files off.whole) h.begun) off.fails in
      subst LeftHere (sym is) (part-leaves slot
      (among-heard h.files h.between at.shelf_now slot h.heard fails)
      (subst (LeavesPart words at.desk.files at.shelf.files at.shelf_now.files) off.named part))

spared-fileless : (o : Outcome) → IsSpared o → NeedsNoFile o
spared-fileless (WriteFault slot) spared = spared
spared-fileless (Unroutable width) spared = spared
spared-fileless o spared = tt

module _ (words : List Word) (at : Scene) where
  came-left : (o : Outcome) → Came words at o → LeftHere words at o
  came-left o (Idle h) = idle-left words at.desk.files at.shelf.files at.shelf_now.files o
      (spared-fileless o h.spared) (ap (λ (s : ShelfState). s.files) h.same)
  came-left o (Searched h) = subst (λ (files : Option FileMap).
      LeavesFiles words at.desk.files at.shelf.files files o) (sym h.files)
      (come-left words (ended_with h.wrote at) o h.come)
  came-left o (Wrote h) = files-left words at o h h.writes
  came-left o (Told h) =
      idle-left words at.desk.files at.shelf.files at.shelf_now.files o h.fileless h.files
  came-left o (Cut h) = subst (LeftHere words at) (sym h.is) h.whole

-- ---- the report

module _ (words : List Word) (desk before now : Option FileMap) where
  -- a run whose report line was not said leaves what it had left
  unsaid-left : (o : Outcome) → LeavesFiles words desk before now o
      → LeavesFiles words desk before now (unsaid o)
  unsaid-left (Usage code) h = none-left words desk before now h
  unsaid-left (ReadFault file) h = none-left words desk before now h
  unsaid-left (InputFault file line code) h = none-left words desk before now h
  unsaid-left (NotSymmetric width why) h = none-left words desk before now h
  unsaid-left (Unfound width rounds stopped) h = none-left words desk before now h
  unsaid-left (NoWay width) h = none-left words desk before now h
  unsaid-left (NotModel clause) h = none-left words desk before now h
  unsaid-left (Beyond tracks cells nets) h = none-left words desk before now h
  unsaid-left (Limit file code count) (inl same) = none-left words desk before now same
  unsaid-left (Limit file code count) (inr h) = h.1
  unsaid-left (WriteFault slot) h = h
  unsaid-left o h = h

pub runs-leave : (words : List Word) (desk desk_now : DeskState) (shelf now : ShelfState)
    (answer : Outcome) (r : Runs words desk desk_now shelf now answer)
    → Came words (scene desk desk_now shelf r.between) r.outcome
    → LeavesFiles words desk.files shelf.files now.files answer
runs-leave words desk desk_now shelf now answer r came =
    let at = scene desk desk_now shelf r.between in
    let left = came-left words at r.outcome came in
    elim r.reports [
      | inl h ↦ subst (LeavesFiles words desk.files shelf.files now.files) (sym h.0)
          (subst (λ (f : Option FileMap). LeavesFiles words desk.files shelf.files f r.outcome)
          (sym (ap (λ (s : ShelfState). s.files) h.1)) left)
      | inr h ↦ subst (LeavesFiles words desk.files shelf.files now.files) (sym h.0)
          (unsaid-left words desk.files shelf.files now.files r.outcome
          (subst (λ (f : Option FileMap). LeavesFiles words desk.files shelf.files f r.outcome)
          (sym h.1.failed.files) left))
    ]
