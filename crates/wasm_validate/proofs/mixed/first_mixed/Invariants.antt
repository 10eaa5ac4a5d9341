use Rattle.std.proofs.Common.{◌≡◌, [], map, take, drop}
use Rattle.wasm_tree.specs.Views.{import_of}
use Rattle.wasm_lang_valid.specs.Measures.{first_mixed}
use Rattle.wasm_validate.specs.Mixed.{AreNames}
use Rattle.wasm_validate.proofs.mixed.first_mixed.Given as goal

abbrev pub invariant-loop-i : goal.invariant-loop-i
invariant-loop-i l = record {
  names : AreNames l.names (map import_of (take l.i l.imports));
  rest : first_mixed [] 0 (map import_of l.imports) ≡ first_mixed (map import_of (take l.i l.imports)) l.i (map import_of (drop l.i l.imports));
}
