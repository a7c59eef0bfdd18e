-- no file of the widths so far has one of the names
use Rattle.std.proofs.Common.{◌≡◌, ◌≤◌, ◌+◌, ◌-◌, map}
use Rattle.std.specs.List.{list_any, range_with_len}
use Rattle.router_words.specs.Overwriting.{width_overwrites}
use Rattle.router_words.proofs.overwriting.climb_overwrites.Given as goal

abbrev pub invariant-loop-width : goal.invariant-loop-width
invariant-loop-width l = record {
  from : 1 ≤ l.width;
  to : l.width ≤ l.last + 1;
  none : list_any (width_overwrites (map (λ name. name.now) l.names) l.prefix)
      (range_with_len l.width (l.last + 1 - l.width))
      ≡ list_any (width_overwrites (map (λ name. name.now) l.names) l.prefix)
      (range_with_len 1 l.last);
}
