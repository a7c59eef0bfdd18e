use Rattle.std.proofs.Common.{◌≡◌, ◌+◌, Bool, true, false, refl, sym, ap, ◌∙◌}
use Rattle.std.specs.Prelude.{map, nat_lt, length, List}
use Rattle.std.proofs.lemmas.Bool.{le-leb, le-ltb}
use Rattle.fpga_types.specs.declared.limits.TheConstants.{NET_LIMIT}
use Rattle.fpga_text.specs.Said.{has_text}
use Rattle.fpga_net.specs.Codes.{has_pair, share_class, takes_ordinary}
use Rattle.fpga_net.specs.Entries.{drive_again, entries_of, uses_fault}
use Rattle.fpga_net.specs.NetUses.{use_said}
use Rattle.fpga_net.specs.Uses.{Use}
use Rattle.fpga_net.proofs.ConnectLemmas.{refused_by, uses_fault-entries}
use Rattle.fpga_net.proofs.net_table.NetTable.connect.Goals as goal
use Rattle.fpga_net.proofs.net_table.NetTable.connect.Goals.{In-Ok}

module _ (c : In-Ok) (before : List Use)
    (is : c.args.self.now ≡ entries_of (has_text c.args.globals.now) before) where
  -- the pinlist is refused as its tests say
  by_tests : (again stray shared many : Bool)
      → again ≡ drive_again (has_text c.args.globals.now) c.add_all.new.self
      (map use_said c.args.uses.now)
      → stray ≡ takes_ordinary (has_text c.args.globals.now) (map use_said c.args.uses.now)
      → shared ≡ has_pair (share_class (has_text c.args.globals.now))
      (map use_said c.args.uses.now)
      → many ≡ nat_lt NET_LIMIT (length c.add_all.new.self)
      → uses_fault (has_text c.args.globals.now) before (map use_said c.args.uses.now) c.args.line
      ≡ refused_by again stray shared many c.args.line
  by_tests again stray shared many a s p m =
      uses_fault-entries (has_text c.args.globals.now) before (map use_said c.args.uses.now)
      c.add_all.new.self again stray shared many c.args.line (c.in-Ok.ensures before is) a s p m

pub returns-then-drive_again-clause-err : goal.returns-then-drive_again-clause-err
returns-then-drive_again-clause-err c = λ before is.
    rw (
      c.at.ensures,
      by_tests (goal.at.returns-then-drive_again-clause-err c).In-Ok before is true _ _ _
          (sym c.if-drive_again.true ∙ c.drive_again.ensures) refl refl refl,
    ) refl

pub returns-then-takes_ordinary-clause-err : goal.returns-then-takes_ordinary-clause-err
returns-then-takes_ordinary-clause-err c = λ before is.
    rw (
      c.at-then-takes_ordinary.ensures,
      by_tests
          (goal.at.returns-then-takes_ordinary-clause-err c).In-Ok before is false true _ _
          (sym c.if-drive_again.false ∙ c.drive_again.ensures)
          (sym c.if-takes_ordinary.true ∙ c.takes_ordinary.ensures) refl refl,
    ) refl

pub returns-then-shares_class-clause-err : goal.returns-then-shares_class-clause-err
returns-then-shares_class-clause-err c = λ before is.
    rw (
      c.at-then-shares_class.ensures,
      by_tests
          (goal.at.returns-then-shares_class-clause-err c).In-Ok before is false false true _
          (sym c.if-drive_again.false ∙ c.drive_again.ensures)
          (sym c.if-takes_ordinary.false ∙ c.takes_ordinary.ensures)
          (sym c.if-shares_class.true ∙ c.shares_class.ensures) refl,
    ) refl

pub returns-then-len-gt-NET_LIMIT-clause-err : goal.returns-then-len-gt-NET_LIMIT-clause-err
returns-then-len-gt-NET_LIMIT-clause-err c = λ before is.
    let many = le-leb (NET_LIMIT + 1) c.len.result c.if-len-gt-NET_LIMIT.true in
    rw (
      c.past.ensures,
      by_tests (goal.at.returns-then-len-gt-NET_LIMIT-clause-err c).In-Ok before is
          false false false true
          (sym c.if-drive_again.false ∙ c.drive_again.ensures)
          (sym c.if-takes_ordinary.false ∙ c.takes_ordinary.ensures)
          (sym c.if-shares_class.false ∙ c.shares_class.ensures)
          (sym many ∙ ap (nat_lt NET_LIMIT) c.len.ensures),
    ) refl

pub returns-clause-ok : goal.returns-clause-ok
returns-clause-ok c = record {
  adds = c.in-Ok.ensures;
  clean = λ before is. by_tests (goal.at.returns-clause-ok c).In-Ok before is
      false false false false
      (sym c.if-drive_again.false ∙ c.drive_again.ensures)
      (sym c.if-takes_ordinary.false ∙ c.takes_ordinary.ensures)
      (sym c.if-shares_class.false ∙ c.shares_class.ensures)
      (sym (le-ltb NET_LIMIT c.len.result c.if-len-gt-NET_LIMIT.false)
      ∙ ap (nat_lt NET_LIMIT) c.len.ensures);
  within = rw (← c.len.ensures) c.if-len-gt-NET_LIMIT.false;
}
