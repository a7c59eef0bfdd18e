use Rattle.std.proofs.Common.{◌≡◌, ◌∙◌, Bool, true, false, Option, Some, None, refl, sym, ap}
use Rattle.std.specs.Prelude.{is_none, is_some, not, option_map}
use Rattle.fpga_types.specs.Fabric.{meeting}
use Rattle.fpga_bounds.proofs.elem_context.are_apart.Goals as goal

none-told : {A B : Type 0} (f : A → B) (o : Option A) (found : Option B) (none : Bool)
    → is_some found ≡ not none → found ≡ option_map f o → none ≡ is_none o
none-told f (Some a) found false h p = refl
none-told f (Some a) found true h p = let clash : true ≡ false = sym (ap is_some p) ∙ h in cc
none-told f None found true h p = refl
none-told f None found false h p = let clash : false ≡ true = sym (ap is_some p) ∙ h in cc

pub returns : goal.returns
returns c = none-told _ (meeting c.args.grid c.args.from c.args.to) c.meet.result c.is_none.result
    c.is_none.ensures c.meet.ensures.parts
