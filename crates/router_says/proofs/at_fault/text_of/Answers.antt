use Rattle.std.proofs.Common.{◌≡◌, Option, Some, None, is_some, true, refl, inr, Err}
use Rattle.std.specs.Prelude.{IsErrOf, Result}
use Rattle.desk_io.specs.DeskState.{DeskState}
use Rattle.desk_io.specs.Files.{Bytes}
use Rattle.desk_io.specs.declared.read.ReadStop.{ReadStop}
use Rattle.desk_io.specs.declared.read.ReadStop.TheVariants.{Fault, TooLong}
use Rattle.router_says.specs.AtFault.{IsRead}
use Rattle.fpga_problem.specs.declared.source.TheConstants.{TEXT_BYTES}
use Rattle.fpga_problem.specs.Sources.{IsLonger}
use Rattle.router_says.proofs.at_fault.text_of.Goals as goal

-- a value that is there
the_value : {X : Type 0} (o : Option X) → is_some o ≡ true → (x : X) × (o ≡ Some x)
the_value None h = cc
the_value (Some x) h = (x, refl)

-- nothing is read of a file that is too long
too-long : (before now : DeskState) (name : Bytes) → IsLonger before.files name TEXT_BYTES →
    IsRead before now (Some name) None
too-long before now name long = inr long

-- what is too long is no fault
no-fault : {T : Type 0} (result : Result T ReadStop) → result ≡ Err TooLong →
    IsErrOf result Fault → ⊥
no-fault result is fault = cc

pub returns-in-Err-TooLong-clause-read : goal.returns-in-Err-TooLong-clause-read
returns-in-Err-TooLong-clause-read g c = rw c.in-Some.is
    (too-long (g.D.Desk.state c.args.desk.now) (g.D.Desk.state c.read_file.new.desk)
    c.in-Some.name.now (λ files told.
    let there = the_value _ (c.in-Err-TooLong.ensures.there
    (no-fault _ (λ i. Err (c.in-Err-TooLong.field-0-is i))) files told) in (
      there.0,
      there.1,
      (c.in-Err-TooLong.ensures.too_long
          (λ i. Err (c.in-Err-TooLong.field-0-is i)) files told there.0 there.1).0,
    )))
