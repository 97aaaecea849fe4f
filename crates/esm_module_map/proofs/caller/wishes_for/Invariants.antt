use Rattle.std.proofs.Common.{◌≡◌, ◌++◌, map, drop}
use Rattle.std.specs.Prelude.{All}
use Rattle.esm_module_map.specs.Inner.Wishes.{wished, IsWish}
use Rattle.esm_module_map.proofs.caller.wishes_for.Given as goal

-- so far, and those that are left
abbrev pub invariant-loop-url : goal.invariant-loop-url
invariant-loop-url l = record {
  so : map wished l.wishes.items ++ drop l.url-index l.urls ≡ l.urls;
  each : All IsWish l.wishes.items;
}
