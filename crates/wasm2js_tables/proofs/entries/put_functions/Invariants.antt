use Rattle.std.proofs.Common.{◌≡◌, length, map, take, Some}
use Rattle.wasm_lang_exec.specs.Session.{replaced}
use Rattle.wasm2js_tables.proofs.entries.put_functions.Given as goal

abbrev pub invariant-loop-i : goal.invariant-loop-i
invariant-loop-i l = record {
  items : l.entries.items ≡ replaced l.at (map Some (take l.i l.functions)) l.fn.entries.items;
  long : length l.entries.items ≡ length l.fn.entries.items;
}
