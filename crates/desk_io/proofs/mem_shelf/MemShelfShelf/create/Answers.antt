use Rattle.std.proofs.Common.{◌≡◌, Some, None, refl}
use Rattle.desk_io.proofs.TableLemmas.{others_stay}
use Rattle.desk_io.proofs.mem_shelf.MemShelfShelf.create.Goals as goal

pub returns-then-next_fails-clause-err : goal.returns-then-next_fails-clause-err
returns-then-next_fails-clause-err c = rw (← c.self.view_is) (record {
  others = others_stay c.self.inside.files.items c.self.inside.files.items c.args.name.now refl;
  untold = λ none. absurd (let clash : Some _ ≡ None = none in cc);
  said = refl;
  is_created = refl;
  created = refl;
  risen = c.add.ensures.risen;
  say_failed = c.add.ensures.in_say;
})

pub returns-in_default-clause-err : goal.returns-in_default-clause-err
returns-in_default-clause-err c = rw (← c.self.view_is) (record {
  others = others_stay c.self.inside.files.items c.empty_file.new.files.items c.args.name.now
      c.in_default.ensures.err;
  untold = λ none. absurd (let clash : Some _ ≡ None = none in cc);
  said = refl;
  is_created = refl;
  created = refl;
  risen = c.add-in_default.ensures.risen;
  say_failed = c.add-in_default.ensures.in_say;
})
