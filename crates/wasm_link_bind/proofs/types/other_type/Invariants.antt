use Rattle.std.proofs.Common.{◌≡◌, drop, map}
use Rattle.wasm_tree.specs.Views.{import_of}
use Rattle.wasm_link_lang.specs.Refusal as rows
use Rattle.wasm_link_bind.proofs.types.other_type.Given as goal

abbrev pub invariant-loop-i : goal.invariant-loop-i
invariant-loop-i l = rows.other_type l.own l.other 0 l.own.imports ≡ rows.other_type l.own l.other l.i (map import_of (drop l.i l.import-items))
