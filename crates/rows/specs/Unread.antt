-- Why a text is not there.
use Rattle.std.specs.Prelude.{◌≡◌, ℕ, Option, IsUtf8}
use Rattle.desk_io.specs.DeskState.{DeskState}
use Rattle.desk_io.specs.Files.{FileMap, RisesByOne}
use Rattle.desk_io.specs.Reading.{FaultIsOn, HasTakenOneMore, IsWhole}
use Rattle.desk_io.specs.declared.read.ReadStop.TheVariants.{Fault, TooLong, Memory as NoRoom}
use Rattle.fpga_text.specs.Bytes.{Bytes}
use Rattle.rows.specs.declared.stop.RowsError.{RowsError}
use Rattle.rows.specs.declared.stop.RowsError.TheVariants.{File, Text, Memory, Output}
use Rattle.fpga_problem.specs.declared.source.TheConstants.{TEXT_BYTES}

-- of these files and at this count of faults the one with this name has no text: none has the name,
-- or the desk failed on it; it has more bytes than the limit; its bytes are no UTF-8; or there was
-- no memory. Only in the first case the desk failed
abbrev pub IsUnread : Option FileMap → (faults : ℕ) → (now : DeskState) → (name : Bytes) →
    RowsError → Type 0
IsUnread files faults now name (File Fault) =
    FaultIsOn files name now.fault_name × RisesByOne faults now.faults
IsUnread files faults now name (File TooLong) =
    HasTakenOneMore files name TEXT_BYTES now.left × (now.faults ≡ faults)
IsUnread files faults now name (File NoRoom) = now.faults ≡ faults
IsUnread files faults now name (Text error) =
    ((bytes : Bytes) × IsWhole files name bytes × ¬ (IsUtf8 bytes)) × (now.faults ≡ faults)
IsUnread files faults now name (Memory error) = now.faults ≡ faults
IsUnread files faults now name (Output error) = ⊥
