-- The names that the walks cite.
pub use mathlib.Core.Path.{◌≡◌, refl, sym, ap, subst, ◌∙◌}
pub use mathlib.Core.Bool.{true, false}
pub use Prim.Native.Nat.{ℕ, ◌+◌, ◌*◌, ◌<◌, ◌^◌}
pub use native.Mathlib.Omega.{arith}
pub use mathlib.Core.List.{List, [], ◌∷◌, ◌++◌, map}
pub use lib.Dec.{T, lit<}
pub use lib.ListN.{
  length,
  take,
  set,
  get_or,
  replicate,
  length-set,
  length-take,
  length-drop,
  length-replicate,
}
pub use seplogic.Ra.Ura.{Ura}
pub use base.Fraction.{full_share}
pub use base.Logic.{SProp, ent, never, id⊢}
pub use base.Fml.{Lft, GName, Share, Incl-trans, ftrue, fat, froom, flft, fobs, fbor}
pub use mir.Syntax.{Fn, Body, named, w64, ty_unit, ty_array}
pub use mir.MapTy.{inst_fn}
pub use mir.Val.{Val, vptr, vint, vunit, vstruct, vcons, vnil, has_ty, WT}
pub use prog.Wp.{Env, Calls, Loops, Tables, Wp, WpFn, after_seq, at_return}
pub use prog.Memory.{Memory, align, capped}
pub use prog.Capped.{capped_fits}
pub use prog.Routine.{Routine}
pub use types.Logic.{Logic}
pub use types.SemTy.{Body as Borrowed}
pub use contract.Monad.{Fun, fact}
pub use contract.BorrowLft.{◌⊑◌}
pub use sound.WpLaws.{FmC, WpFn-mono, fm_of}
pub use types.Kit.{
  Item,
  Post as After,
  ⋆,
  ‵,
  raw,
  ◌⊛◌,
  given,
  later,
  await,
  learn,
  at_ret,
  any_q,
  ◌$◌,
  ◌∵◌,
  !,
  qed,
  by,
  move,
  keep,
  drop,
  use0,
  use1,
  use2,
  use3,
  split,
  join,
  group,
  rewrite,
  fsplit,
  fsplit3,
  fjoin,
  fjoin3,
  feq_i,
  feq_l,
  flt_i,
  flt_l,
  suffices,
  frame,
  done,
}
pub use types.Part.{whole, sub, agg}
pub use types.Match.{live, vrt, in_variant}
pub use types.Run.{
  init,
  stop,
  fld,
  lit,
  unit_lit,
  of_opd,
  addr,
  bin,
  and_then,
  no_more,
  assigns_last,
  first,
  blocks,
  switches_on,
  exec,
  returns,
  enter,
  size_lit,
  size_word,
  align_word,
}
pub use types.ByLocal.{
  alloc_all,
  pass_all,
  free_all,
  look_at,
  get,
  get_in,
  get_tag,
  through,
  sets,
  sets_last,
  lands_as,
  lands_last,
  take_at,
  give_at,
  is,
  env,
}
pub use denote.Exit.{yes, no}
pub use denote.RattleType.{RattleType, owns}
pub use denote.Laws.{Is}
pub use denote.Memory.{hidden_shr, mem}
pub use denote.Param.{layout}
pub use denote.RawPtr.{Ptr, block_ptr, ptr_val, in_a_block}
pub use denote.Ref.{Bor, MutBor, MutRef, ShrRef}
pub use denote.Slice.{ShrSlice, slice_val, elements_shared}
pub use denote.Builtin.{RefOf, RefMutOf, SliceRefOf, unit, usize}
pub use denote.Signature.{plain}
pub use denote.Opens.{hide, unhide}
pub use denote.Steps.{nothing, owned, opens, closes}
pub use denote.Struct.Struct.{Struct, Struct-Makes}
pub use denote.Struct.Tuple.{Tuple}
pub use denote.Triple.Carry.{spared}
pub use denote.Triple.Call.{calls_at, calls_at_last}
pub use denote.Triple.Clauses.{Clauses, Ended, closing}
pub use denote.Triple.Entry.{on_entry}
pub use denote.Triple.Spec.{Meets, triple_of}
pub use denote.Triple.Statement.{Triple}
pub use denote.Triple.Table.{entered, run_framed}
pub use denote.Triple.Walked.{
  says,
  needs,
  Stays,
  stay_dropped,
  stay_ref,
  walk_of,
  ends_at,
  Goes-dropped,
  Goes-ref,
  walk_Meets,
}
pub use Rattle.std.specs.Prelude.{Some, None, IfOk, Ok, Err}
pub use Rattle.core.proofs.mem.Param.{El, R, args, el_x, elτ}
pub use Rattle.core.proofs.ptr.Rows.{times_below, one_below}
pub use Rattle.core.proofs.slots.Leases.{uncapped}
pub use Rattle.std_alloc.proofs.VecSteps.Shapes.{after}
pub use Rattle.std_alloc.proofs.RcSteps.{Good, word, word-Good}
pub use Rattle.std_alloc.proofs.RawLayout.{as_raw, as_written}
