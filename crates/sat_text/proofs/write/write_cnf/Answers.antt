use Rattle.std.proofs.Common.{Result, Ok, Err, refl}
use Rattle.std.specs.Prelude.{IsOk, OnOk}
use Rattle.sat_text.proofs.CnfSound.{read_again}
use Rattle.sat_text.proofs.write.write_cnf.Goals as goal

on_ok : {T E : Type 0} (result : Result T E) (P : Type 0) → (IsOk result → P) → OnOk result P
on_ok (Ok value) P known = known refl
on_ok (Err error) P known = tt

pub returns-clause-reads : goal.returns-clause-reads
returns-clause-reads g c few =
    on_ok c.append_text.result _ (λ ok. c.append_text.ensures.known ok few)

pub returns-clause-read_back : goal.returns-clause-read_back
returns-clause-read_back g c = read_again c.args.formula.now.cnf
