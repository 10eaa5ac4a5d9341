use Rattle.std.proofs.Common.{All, take}
use Rattle.wasm_tree.specs.Views.{export_of}
use Rattle.wat_laws_print.specs.Words.{AreBytes, IsExported}
use Rattle.wasm_laws_words.proofs.exports.Given as goal

abbrev pub invariant-loop-export : goal.invariant-loop-export
invariant-loop-export l = All (λ e. AreBytes (export_of e).name × IsExported (export_of e).kind) (take l.export-index l.exports)
