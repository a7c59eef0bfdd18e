-- What was read is what the text reads as.
use Rattle.std.proofs.Common.{◌≡◌, ◌<◌, ◌^◌, ℕ, List, [], ◌∷◌, None, refl, sym, ap, subst, ◌∙◌, arith}
use Rattle.std.specs.Prelude.{map, ◌+◌}
use Rattle.fpga_types.specs.Size.{Size}
use Rattle.fpga_types.specs.Sound.{IsSound, RisesWithin, net_numbers}
use Rattle.fpga_types.specs.declared.route.RouteNet.{RouteNet}
use Rattle.fpga_text.specs.declared.fault.TextFault.{TextFault}
use Rattle.fpga_text.specs.declared.style.Style.TheVariants.{Hash}
use Rattle.fpga_text.specs.Bytes.{Bytes}
use Rattle.fpga_text.specs.FirstFault.{IsFaultless, IsRefusal, first_fault}
use Rattle.fpga_text.specs.Reading.{LinesAhead}
use Rattle.fpga_text.specs.Words.{TextLine, lines, text_lines, line_count}
use Rattle.fpga_text.proofs.FaultLemmas.{IsPast, refusal-past}
use Rattle.fpga_route.specs.declared.head.Head.{Head}
use Rattle.fpga_route.specs.declared.standing.Standing.{Standing}
use Rattle.fpga_route.specs.Codes.{lines_faults, route_faults}
use Rattle.fpga_route.specs.Drafts.{Progress, nets_begun, nets_with}
use Rattle.fpga_route.specs.Heads.{IsHead}
use Rattle.fpga_route.specs.Nets.{ReadsNets, faults_ahead}
use Rattle.fpga_route.specs.Value.{Reads, nets_of, value_of}
use Rattle.fpga_route.proofs.FaultLemmas.{past_head}
use Rattle.fpga_route.proofs.SoundLemmas.{faults_at, lines_rise, nets_limited, nets_rise, nets_sound, rises-later, rises-lower}

-- a reader before the text
abbrev pub whole_text : Bytes → LinesAhead
whole_text bytes = record { ahead = text_lines Hash bytes; taken = 0; total = line_count bytes }

-- a draft without nets
abbrev pub no_nets : Size → Progress
no_nets grid = record { grid = grid; closed = []; open_net = None }

-- what was read of a text with this head
module _ (bytes : Bytes) (old new : LinesAhead) (head : Head) (draft : Progress)
    (text : old ≡ whole_text bytes) (h : IsHead old new head)
    (begun : draft ≡ no_nets head.grid) where
  past : IsPast (route_faults bytes) (faults_ahead draft new)
  past = record {
    same = sym (ap (λ (r : LinesAhead). first_fault (lines_faults r.ahead r.total)) text)
        ∙ (past_head old new head draft h begun).same;
  }

  -- a fault after the head
  pub refused_later : (found : TextFault) → IsRefusal (faults_ahead draft new) found
      → IsRefusal (route_faults bytes) found
  refused_later found is = refusal-past found past is

  module _ (after : LinesAhead) (draft_after : Progress) (nets : List RouteNet) (count : ℕ)
      (rest : ReadsNets new draft after draft_after) (last : nets ≡ nets_begun draft_after)
      (taken : count ≡ after.taken) where
    all_nets : nets ≡ nets_of new.ahead
    all_nets = last ∙ rest.nets ∙ (λ i. nets_with (begun i) new.ahead)

    all_lines : count ≡ line_count bytes
    all_lines = taken ∙ rest.taken ∙ h.total ∙ ap (λ (r : LinesAhead). r.total) text

    ahead : text_lines Hash bytes ≡ h.first ∷ h.second ∷ new.ahead
    ahead = sym (ap (λ (r : LinesAhead). r.ahead) text) ∙ h.ahead

    -- no fault, and all lines were taken
    pub reads : Reads bytes
        (record { grid = head.grid; grid_line = head.line; lines = count; nets = nets })
    reads = (
      past.same ∙ rest.clean,
      (λ i. record {
        grid = head.grid;
        grid_line = h.line i;
        lines = all_lines i;
        nets =
            all_nets i;
      })
          ∙ sym (value_of-head (line_count bytes)),
    )
      where
        value_of-head : (n : ℕ) → value_of (text_lines Hash bytes) n
            ≡ record {
              grid = head.grid;
              grid_line = h.first.number;
              lines = n;
              nets =
                  nets_of new.ahead;
            }
        value_of-head n = rw (ahead, h.grid) refl

    -- what was read is sound
    pub sound : count < 2 ^ 63 → IsSound
        (record { grid = head.grid; grid_line = head.line; lines = count; nets = nets })
    sound small = record {
      limit = rw all_nets (omega
          (arith, nets_limited start new.ahead (new.total + 1) clean (omega arith)));
      nets = rw all_nets (nets_sound start new.ahead (new.total + 1) clean);
      order = rw (h.line, all_nets, all_lines) (
        numbers.0,
        numbers.1,
        rises-lower h.first.number h.second.number (line_count bytes)
            (net_numbers (nets_of new.ahead))
            (omega (arith, numbers.2.0))
            (rises-later h.second.number (line_count bytes) _ _
            (nets_rise h.second.number (line_count bytes) new.ahead numbers.2.2)),
      );
      lines = omega (arith, small);
    }
      where
        start : Standing
        start = record { grid = head.grid; nets = 0; in_global = None }

        clean : IsFaultless (faults_at start new.ahead (new.total + 1))
        clean = (λ i. first_fault (faults_ahead (sym begun i) new)) ∙ rest.clean

        numbers : RisesWithin 0 (line_count bytes)
            (map (λ (l : TextLine). l.number) (h.first ∷ h.second ∷ new.ahead))
        numbers = subst (λ ls. RisesWithin 0 (line_count bytes)
            (map (λ (l : TextLine). l.number) ls))
            ahead (lines_rise Hash 0 1 (line_count bytes) (lines bytes) (omega arith) (omega arith))
