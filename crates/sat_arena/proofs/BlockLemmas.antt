-- What is known of a block from its words, and what a write and a cut make of it.
use Rattle.std.proofs.Common.{◌≡◌, ℕ, ◌+◌, ◌-◌, ◌<◌, ◌≤◌, ◌++◌, List, map, length, set, take, drop, Option, Some, refl, sym, ap, ◌∙◌, subst, arith, length-append, length-set, length-take}
use Rattle.std.specs.Global.{Global}
use Rattle.sat_clause.specs.declared.literal.Lit.{Lit}
use Rattle.sat_arena.specs.Places.{Begins, IsHeld, IsRun}
use Rattle.sat_arena.specs.Row.{IsWritten}
use Rattle.sat_arena.specs.Block.{IsBlock, Words, no_word, word_at, words_in}
use Rattle.sat_arena.specs.declared.places.Start.{Start}
use Rattle.sat_arena.specs.declared.places.Places.{Places}
use Rattle.sat_arena.specs.declared.places.Claim.{Claim}
use Rattle.sat_arena.proofs.PlacesLemmas.{begins, begins_less, begins_set, filled_at, full_again, length_full, run_at, words_are}

-- a block with these words in these places
pub record Holds (start : Start Lit) (places : Places Lit) (claim : Option (Claim Lit Global))
    (alloc : Global) (len capacity : ℕ) (words : List Lit) : Type 0 where
  pub block : IsBlock start places claim alloc len capacity
  pub are : words_in places len ≡ words

module _ {start : Start Lit} {places : Places Lit} {claim : Option (Claim Lit Global)}
    {alloc : Global} {len capacity : ℕ} {now : Words}
    (h : IsBlock start places claim alloc len capacity)
    (view : record { words = words_in places len; spare = capacity - len } ≡ now) where
  same : words_in places len ≡ now.words
  same = ap (λ (v : Words). v.words) view

  front : Begins places.slots now.words
  front = subst (Begins places.slots) same (begins places.slots (words_in places len) len h.full)

  count : length now.words ≡ len
  count =
      let places_all = h.row.1 in let within = h.within in
      ap length (sym same)
      ∙ length_full places.slots (words_in places len) len h.full (omega arith)

  -- the place of a word holds it
  pub held : (index : ℕ) → index < length now.words →
      (start.address ≡ places.start) × IsHeld places.slots index
  held index lt = (
    sym h.row.0,
    (
      word_at now.words index,
      filled_at places.slots now.words index no_word front lt,
    ),
  )

  -- the places of a run of words hold them
  pub run_is : (from n : ℕ) → from + n ≤ length now.words →
      take n (drop from places.slots) ≡ map Some (take n (drop from now.words))
  run_is from n le = run_at places.slots now.words from n front le

  pub run_held : (from n : ℕ) → from + n ≤ length now.words → 1 ≤ length now.words →
      (start.address ≡ places.start) × (1 ≤ length places.slots) × IsRun places.slots from n
  run_held from n le some =
      let all = h.row.1 in let within = h.within in let words = count in (
        sym h.row.0,
        omega arith,
        (
          omega arith,
          (take n (drop from now.words), run_is from n le),
        ),
      )

  -- other places of this row, which begin with these words
  with_words : (new : Places Lit) (n : ℕ) (words : List Lit) → new.start ≡ places.start →
      length new.slots ≡ length places.slots → Begins new.slots words → n ≡ length words →
      n ≤ capacity → Holds start new claim alloc n capacity words
  with_words new n words here long begin is fits = record {
    block = record {
      row = (here ∙ h.row.0, long ∙ h.row.1);
      claimed = h.claimed;
      small = h.small;
      within = fits;
      full = full_again new.slots words n begin is;
    };
    are = words_are new.slots words n begin is;
  }

  -- a word was written over
  pub word_over : {new : Places Lit} (index : ℕ) (word : Lit) → index < length now.words →
      IsWritten places index word new →
      Holds start new claim alloc len capacity (set now.words index word)
  word_over {new} index word lt written =
      with_words new len (set now.words index word) written.0
      (ap length written.1 ∙ length-set places.slots index (Some word))
      (subst (λ slots. Begins slots (set now.words index word)) (sym written.1)
      (begins_set places.slots now.words index word front lt))
      (sym (length-set now.words index word ∙ count)) h.within

  -- words were written behind the others
  pub words_behind : {new : Places Lit} (words : List Lit) → length words ≤ now.spare →
      new.start ≡ places.start → length new.slots ≡ length places.slots →
      ((front : List Lit) → len ≡ length front → Begins places.slots front →
      Begins new.slots (front ++ words)) →
      Holds start new claim alloc (len + length words) capacity (now.words ++ words)
  words_behind {new} words room here size behind =
      let spare : capacity - len ≡ now.spare = ap (λ (v : Words). v.spare) view in
      let n = count in let long = length-append now.words words in
      with_words new (len + length words) (now.words ++ words) here size
      (behind now.words (sym count) front) (omega arith) (omega arith)

  -- so many words have room behind the others
  pub room_behind : (n : ℕ) → n ≤ now.spare → len + n ≤ length places.slots
  room_behind n room =
      let spare : capacity - len ≡ now.spare = ap (λ (v : Words). v.spare) view in
      let all = h.row.1 in let within = h.within in omega arith

  -- the words were cut off behind the first n
  pub words_cut : (n : ℕ) → n ≤ length now.words →
      Holds start places claim alloc n capacity (take n now.words)
  words_cut n le =
      let within = h.within in let long = length-take n now.words in let words = count in
      with_words places n (take n now.words) refl refl
      (begins_less places.slots now.words n front le)
      (omega arith) (omega arith)

-- two words were written over, one after the other
pub two_over : {start : Start Lit} {places new next : Places Lit}
    {claim : Option (Claim Lit Global)} {alloc : Global} {len capacity : ℕ} {now : Words}
    (h : IsBlock start places claim alloc len capacity) →
    record { words = words_in places len; spare = capacity - len } ≡ now →
    (i j : ℕ) (x y : Lit) → i < length now.words → j < length now.words →
    IsWritten places i x new → IsWritten new j y next →
    Holds start next claim alloc len capacity (set (set now.words i x) j y)
two_over {new = new} {len = len} {capacity = capacity} {now = now} h view i j x y lt lt' first
    second =
    let over = word_over h view i x lt first in
    let between : Words = record { words = set now.words i x; spare = capacity - len } in
    let seen : record { words = words_in new len; spare = capacity - len } ≡ between =
    λ k. record { words = over.are k; spare = capacity - len } in
    word_over over.block seen j y (rw (length-set now.words i x) lt') second
