-- What keeps a text from being read is one thing, and a text that says a value is not kept from it.
use Rattle.std.proofs.Common.{◌≡◌, ◌∙◌, ◌⊎◌, ◌≤◌, ℕ, Option, Some, length, refl, sym, ap, subst, inl, inr, arith}
use Rattle.desk_io.specs.DeskState.{DeskState}
use Rattle.desk_io.specs.Files.{Bytes, FileMap, HasRisen, RisesByOne}
use Rattle.desk_io.specs.Reading.{FaultIsOn, IsWhole}
use Rattle.desk_io.proofs.FileLemmas.{has_risen}
use Rattle.fpga_problem.specs.Sources.{HasFault, IsHalted, IsLonger, IsStopped, Reads, ReadsThen, Says, Source, Stops, StopsAt}
use Rattle.fpga_problem.specs.declared.unread.FileFault.{FileFault}
use Rattle.fpga_problem.specs.declared.unread.FileFault.TheVariants.{Desk, TooLong, Text}
use Rattle.fpga_text.specs.FirstFault.{IsFaultless, first_fault}
use Rattle.fpga_text.specs.declared.fault.TextFault.TheVariants.{Bad, Limit, Memory}
use Rattle.list_laws.proofs.Places.{none_is_not_some, some_is}

-- ---- of a desk that tells its files

module _ (files : FileMap) where
  -- a file has one text
  one-text : (name a b : Bytes) → IsWhole (Some files) name a → IsWhole (Some files) name b →
      a ≡ b
  one-text name a b h g = some_is (sym (h files refl) ∙ g files refl)

  too-long : (name text : Bytes) (limit : ℕ) → IsLonger (Some files) name limit →
      IsWhole (Some files) name text → length text ≤ limit → ⊥
  too-long name text limit long there short =
      let found = long files refl in
      let same : found.0 ≡ text = some_is (sym found.1 ∙ there files refl) in
      omega (arith, found.2, short, ap length same)

  -- a text is halted in one way
  one-halt : (source : Source) (a b : FileFault) → IsHalted (Some files) source a →
      IsHalted (Some files) source b → a ≡ b
  one-halt source Desk b h g = absurd h
  one-halt source a Desk h g = absurd g
  one-halt source TooLong TooLong h g = refl
  one-halt source TooLong (Text fault) h g =
      absurd (too-long source.name g.text source.limit h g.there g.short)
  one-halt source (Text fault) TooLong h g =
      absurd (too-long source.name h.text source.limit g h.there h.short)
  one-halt source (Text a) (Text b) h g =
      let same = one-text source.name g.text h.text g.there h.there in
      let first = subst (λ (t : Bytes). first_fault (source.faults t) ≡ Some b) same g.first in
      ap Text (some_is (sym h.first ∙ first))

  -- so is what is told of it
  pub stops-alike : {R : Type 0} {source : Source} {told : FileFault → R} {a b : R} →
      StopsAt (IsHalted (Some files)) source told a →
      StopsAt (IsHalted (Some files)) source told b → a ≡ b
  stops-alike {source = source} {told = told} h g =
      h.tells ∙ ap told (one-halt source h.fault g.fault h.because g.because) ∙ sym g.tells

  module _ {T : Type 0} {source : Source} {value : Bytes → T} where
    -- a text that says a value is not halted
    pub halted-says : {said : T} (a : FileFault) → IsHalted (Some files) source a →
        Says (Some files) source value said → ⊥
    halted-says Desk h g = h
    halted-says TooLong h g = too-long source.name g.text source.limit h g.there g.short
    halted-says (Text fault) h g =
        let same = one-text source.name g.text h.text g.there h.there in
        let clean = subst (λ (t : Bytes). IsFaultless (source.faults t)) same g.faultless in
        none_is_not_some (sym clean ∙ h.first)

    -- a text says one value
    pub one-value : {a b : T} → Says (Some files) source value a →
        Says (Some files) source value b → a ≡ b
    one-value h g =
        let same = one-text source.name h.text g.text h.there g.there in
        h.says ∙ ap value same ∙ sym g.says

    module _ {R : Type 0} {told : FileFault → R} {rest : T → R → Type 0} where
      -- the work goes on behind a text that says a value
      pub reads-on : {said : T} {a : R} → Says (Some files) source value said →
          ReadsThen (IsHalted (Some files)) (Some files) source told value rest a → rest said a
      reads-on says (Stops h) = absurd (halted-says h.fault h.because says)
      reads-on {a = a} says (Reads other reads h) =
          subst (λ (v : T). rest v a) (one-value reads says) h

      -- what comes of one work is one, or is so behind one value
      pub reads-alike : {a b : R} →
          ReadsThen (IsHalted (Some files)) (Some files) source told value rest a →
          ReadsThen (IsHalted (Some files)) (Some files) source told value rest b →
          ((said : T) → rest said a → rest said b → a ≡ b) → a ≡ b
      reads-alike (Stops h) (Stops g) alike = stops-alike h g
      reads-alike (Stops h) (Reads said says g) alike =
          absurd (halted-says h.fault h.because says)
      reads-alike (Reads said says h) g alike = alike said h (reads-on says g)

-- ---- of a desk that is read

-- what a text says on a later state of the desk it says on an earlier one that tells the same files
pub says-before : {T : Type 0} {now before : Option FileMap} {source : Source} {value : Bytes → T}
    {said : T} → now ≡ before → Says now source value said → Says before source value said
says-before {source = source} {value = value} {said = said} same =
    subst (λ (files : Option FileMap). Says files source value said) same

module _ (desk now : DeskState) where
  -- where the desk has not failed, a text that was not read is halted, or memory ran out
  stop-halts : (source : Source) (a : FileFault) → ¬ HasRisen desk.faults now.faults →
      IsStopped desk now source a → IsHalted desk.files source a ⊎ (a ≡ Text Memory)
  stop-halts source Desk calm h = absurd (calm (has_risen _ _ h.risen))
  stop-halts source TooLong calm h = inl h
  stop-halts source (Text (Bad line code)) calm h = inl h
  stop-halts source (Text (Limit code count)) calm h = inl h
  stop-halts source (Text Memory) calm h = inr refl

  -- a text that was not read from a later state of the desk was not read from an earlier one that
  -- tells the same of it
  pub stop-before : (before : DeskState) (source : Source) (a : FileFault) →
      desk.files ≡ before.files → desk.faults ≡ before.faults → IsStopped desk now source a →
      IsStopped before now source a
  stop-before before source Desk files faults h = record {
    risen = subst (λ (n : ℕ). RisesByOne n now.faults) faults h.risen;
    on = subst (λ (f : Option FileMap). FaultIsOn f source.name now.fault_name) files h.on;
  }
  stop-before before source TooLong files faults h =
      subst (λ (f : Option FileMap). IsLonger f source.name source.limit) files h
  stop-before before source (Text (Bad line code)) files faults h =
      subst (λ (f : Option FileMap). HasFault f source (Bad line code)) files h
  stop-before before source (Text (Limit code count)) files faults h =
      subst (λ (f : Option FileMap). HasFault f source (Limit code count)) files h
  stop-before before source (Text Memory) files faults h = tt

  module _ {R : Type 0} (Spent : R → Type 0) (calm : ¬ HasRisen desk.faults now.faults) where
    -- where the desk has not failed, the work stops at a text that is halted, or memory ran out
    pub calm-stops : {source : Source} {told : FileFault → R} {a : R} →
        Spent (told (Text Memory)) → StopsAt (IsStopped desk now) source told a →
        StopsAt (IsHalted desk.files) source told a ⊎ Spent a
    calm-stops {source = source} {told = told} spent h =
        elim (stop-halts source h.fault calm h.because) [
          | inl halt ↦ inl (record { fault = h.fault; because = halt; tells = h.tells })
          | inr memory ↦ inr (subst Spent (sym (h.tells ∙ ap told memory)) spent)
        ]

    -- so of the work on it
    pub calm-reads : {T : Type 0} {source : Source} {told : FileFault → R} {value : Bytes → T}
        {rest rest_told : T → R → Type 0} {a : R} → Spent (told (Text Memory)) →
        ((said : T) → rest said a → rest_told said a ⊎ Spent a) →
        ReadsThen (IsStopped desk now) desk.files source told value rest a →
        ReadsThen (IsHalted desk.files) desk.files source told value rest_told a ⊎ Spent a
    calm-reads spent on (Stops h) = elim (calm-stops spent h) [
      | inl halt ↦ inl (Stops halt)
      | inr memory ↦ inr memory
    ]
    calm-reads spent on (Reads said says h) = elim (on said h) [
      | inl reads ↦ inl (Reads said says reads)
      | inr memory ↦ inr memory
    ]
