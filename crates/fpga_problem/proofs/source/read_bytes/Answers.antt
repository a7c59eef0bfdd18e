use Rattle.std.proofs.Common.{◌≡◌, Option, Some, None, is_some, true, refl, Err}
use Rattle.std.specs.Prelude.{IsErrOf, Result}
use Rattle.desk_io.specs.declared.read.ReadStop.{ReadStop}
use Rattle.desk_io.specs.declared.read.ReadStop.TheVariants.{Fault, TooLong}
use Rattle.fpga_problem.proofs.source.read_bytes.Goals as goal

-- a value that is there
the_value : {X : Type 0} (o : Option X) → is_some o ≡ true → (x : X) × (o ≡ Some x)
the_value None h = cc
the_value (Some x) h = (x, refl)

-- what is too long is no fault
no-fault : {T : Type 0} (result : Result T ReadStop) → result ≡ Err TooLong →
    IsErrOf result Fault → ⊥
no-fault result is fault = cc

pub returns-in-Err-TooLong-clause-reads : goal.returns-in-Err-TooLong-clause-reads
returns-in-Err-TooLong-clause-reads g c =
    let no = no-fault _ (λ i. Err (c.in-Err-TooLong.field-0-is i)) in
    record {
      answers = λ files told.
          let there = the_value _ (c.in-Err-TooLong.ensures.there no files told) in (
            there.0,
            there.1,
            (c.in-Err-TooLong.ensures.too_long
                (λ i. Err (c.in-Err-TooLong.field-0-is i)) files told there.0 there.1).0,
          );
      files = c.in-Err-TooLong.ensures.files;
      quiet = λ other. c.in-Err-TooLong.ensures.no_fault no;
    }
