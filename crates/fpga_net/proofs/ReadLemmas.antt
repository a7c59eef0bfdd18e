-- What was read is what the text reads as.
use Rattle.std.proofs.Common.{◌≡◌, ℕ, ◌+◌, [], length, refl, sym, ap, subst, ◌∙◌, List, ◌∷◌, None}
use Rattle.std.specs.Prelude.{Result, Ok, Err, IfOk, fold}
use Rattle.fpga_types.specs.declared.arch.Arch.{Arch}
use Rattle.fpga_types.specs.declared.netlist.Netlist.{Netlist}
use Rattle.fpga_text.specs.declared.fault.TextFault.{TextFault}
use Rattle.fpga_text.specs.declared.style.Style.TheVariants.{Joined}
use Rattle.fpga_text.specs.Bytes.{Bytes}
use Rattle.fpga_text.specs.FirstFault.{Answers, AnswersFault, IsFaultOf, IsRefusal, first_fault}
use Rattle.fpga_text.specs.Reading.{LinesAhead}
use Rattle.fpga_text.specs.Words.{line_count, text_lines}
use Rattle.fpga_net.specs.Codes.{Context, before_all, behind, forms_of, globals_of, net_faults}
use Rattle.fpga_net.specs.Drafts.{Progress, ReadsLines, faults_ahead, last_fault}
use Rattle.fpga_net.specs.Forms.{Form, Begins, Pinlist, Subblock, Globals, Other}
use Rattle.fpga_net.specs.Globals.{FindsGlobals}
use Rattle.fpga_net.specs.Sound.{IsSoundNetlist}
use Rattle.fpga_net.specs.Value.{net_value, netlist_before}
use Rattle.fpga_net.proofs.AlikeLemmas.{ReadAlike, faults_at, found-alike}
use Rattle.fpga_net.proofs.LineLemmas.{by_context}
use Rattle.fpga_net.proofs.SoundLemmas.{sound}

-- a reader before the text
abbrev pub whole_text : Bytes → LinesAhead
whole_text bytes = record { ahead = text_lines Joined bytes; taken = 0; total = line_count bytes }

-- a draft without lines, by the global nets that were found
abbrev pub no_lines : Arch → List Bytes → Progress
no_lines arch found = record { context = before_all arch found; entries = [] }

-- no line changes the architecture
arch-behind : (context : Context) (form : Form) → (behind context form).arch ≡ context.arch
arch-behind context (Begins kind names) = refl
arch-behind context (Pinlist nets) = refl
arch-behind context Subblock = refl
arch-behind context (Globals nets) = refl
arch-behind context Other = refl

arch-fold : (context : Context) (forms : List Form)
    → (fold behind context forms).arch ≡ context.arch
arch-fold context [] = refl
arch-fold context (form ∷ more) = arch-fold (behind context form) more ∙ arch-behind context form

-- what was read of a text, by the global nets that were found
module _ (arch : Arch) (bytes : Bytes) (found : List Bytes) (lines lines_after : LinesAhead)
    (draft draft_after : Progress)
    (finds : FindsGlobals (length arch.pins + 1) (text_lines Joined bytes) found)
    (text : lines ≡ whole_text bytes) (start : draft ≡ no_lines arch found) where
  -- it reads the same by all global nets
  same : ReadAlike arch found (globals_of (text_lines Joined bytes)) (line_count bytes + 1)
      (before_all arch []) (text_lines Joined bytes)
  same = found-alike arch (text_lines Joined bytes) found (line_count bytes + 1) finds

  found_faults : first_fault (faults_at arch (line_count bytes + 1) found (before_all arch [])
      (text_lines Joined bytes)) ≡ first_fault (faults_ahead draft.context lines)
  found_faults = λ i. first_fault (faults_ahead (sym start i).context (sym text i))

  all_faults : first_fault (net_faults arch bytes) ≡ first_fault (faults_ahead draft.context lines)
  all_faults = ap first_fault (by_context arch (text_lines Joined bytes) (line_count bytes))
      ∙ sym same.faults ∙ found_faults

  -- a fault of a line
  pub refused : (fault : TextFault) → IsRefusal (faults_ahead draft.context lines) fault
      → IsRefusal (net_faults arch bytes) fault
  refused fault is = subst (λ f. IsFaultOf f fault) (sym all_faults) is

  module _ (rest : ReadsLines lines draft lines_after draft_after) where
    all_lines : lines_after.taken ≡ line_count bytes
    all_lines = rest.taken ∙ ap (λ (l : LinesAhead). l.total) text

    -- what stands before the end
    end_context : draft_after.context
        ≡ fold behind (before_all arch found) (forms_of (text_lines Joined bytes))
    end_context = rest.context
        ∙ (λ i. fold behind (start i).context (forms_of (text i).ahead))

    -- the netlist of a text without a fault
    netlist_is : (end : ℕ) → end ≡ lines.total + 1 → last_fault draft_after.context end ≡ None
        → netlist_before draft_after.context ≡ net_value arch bytes
    netlist_is end at clean = ap netlist_before end_context
        ∙ same.netlist (found_faults ∙ rest.last
        ∙ ap (last_fault draft_after.context) (sym at) ∙ clean)

    -- no fault, or one of the end
    pub read : (end : ℕ) (result : Result Netlist TextFault) → end ≡ lines_after.taken + 1
        → AnswersFault (last_fault draft_after.context end)
        (λ netlist. netlist ≡ netlist_before draft_after.context) result
        → Answers (net_faults arch bytes) (λ netlist. netlist ≡ net_value arch bytes) result
    read end result at is = go result is
      where
        number : end ≡ lines.total + 1
        number = at ∙ ap (λ n. n + 1) rest.taken

        last : first_fault (net_faults arch bytes) ≡ last_fault draft_after.context end
        last = all_faults ∙ rest.last ∙ ap (last_fault draft_after.context) (sym number)

        go : (result : Result Netlist TextFault)
            → AnswersFault (last_fault draft_after.context end)
            (λ netlist. netlist ≡ netlist_before draft_after.context) result
            → Answers (net_faults arch bytes) (λ netlist. netlist ≡ net_value arch bytes) result
        go (Ok netlist) is = (last ∙ is.0, is.1 ∙ netlist_is end number is.0)
        go (Err fault) is = subst (λ f. IsFaultOf f fault) (sym last) is

    -- the architecture stays
    arch_same : draft_after.context.arch ≡ arch
    arch_same = ap (λ (c : Context). c.arch) end_context
        ∙ arch-fold (before_all arch found) (forms_of (text_lines Joined bytes))

    -- a value is sound
    pub read_sound : (end : ℕ) (result : Result Netlist TextFault)
        → AnswersFault (last_fault draft_after.context end)
        (λ netlist. netlist ≡ netlist_before draft_after.context) result
        → IfOk result (IsSoundNetlist arch)
    read_sound end (Ok netlist) is =
        subst (IsSoundNetlist arch) (sym is.1)
        (subst (λ a. IsSoundNetlist a (netlist_before draft_after.context)) arch_same
        (sound draft_after end rest.kept is.0))
    read_sound end (Err fault) is = tt
