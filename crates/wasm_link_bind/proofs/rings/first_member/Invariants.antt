use Rattle.std.proofs.Common.{◌≡◌, ℕ, ◌+◌, ◌≤◌, drop, map}
use Rattle.wasm_tree.specs.Views.{import_of}
use Rattle.wasm_link_lang.specs.Pairs.{Pair}
use Rattle.wasm_link_lang.specs.Refusal.{comes_back, cycle}
use Rattle.wasm_link_bind.specs.Marks.{is_member}
use Rattle.wasm_link_bind.proofs.rings.first_member.Given as goal

abbrev pub invariant-loop-i : goal.invariant-loop-i
invariant-loop-i l = record {
  within : l.address ≤ l.from + l.i;
  rest : (w : Pair) → ((a : ℕ) → is_member l.next l.marks a ≡ comes_back w a) → cycle w 0 l.from (map import_of l.imports) ≡ cycle w l.i l.address (map import_of (drop l.i l.imports));
}
