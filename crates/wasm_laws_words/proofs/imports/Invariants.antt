use Rattle.std.proofs.Common.{All, take}
use Rattle.wasm_tree.specs.Views.{import_of}
use Rattle.wat_laws_print.specs.Words.{AreBytes, IsImported}
use Rattle.wasm_laws_words.proofs.imports.Given as goal

abbrev pub invariant-loop-import : goal.invariant-loop-import
invariant-loop-import l = All (λ i. AreBytes (import_of i).module_name × AreBytes (import_of i).name × IsImported (import_of i).kind) (take l.import-index l.imports)
