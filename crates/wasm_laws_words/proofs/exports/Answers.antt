use Rattle.std.proofs.Common.{arith, subst}
use Rattle.std.proofs.lemmas.List.Elements.{All-more}
use Rattle.wasm_lang.specs.Modules.{Exported}
use Rattle.wat_laws_print.specs.Words.{AreBytes, IsExported}
use Rattle.wasm_tree.specs.Views.{export_of}
use Rattle.wasm_laws_words.proofs.Lists.{all_passed, each}
use Rattle.wasm_laws_words.proofs.exports.Goals as goal

pub loop-export-preserved : goal.loop-export-preserved
loop-export-preserved c =
    All-more (λ e. AreBytes (export_of e).name × IsExported (export_of e).kind) c.args.exports.now c.loop-export.export-index c.export-item.result c.loop-export-test.true c.loop-export.invariant
    (subst (λ e. AreBytes (export_of e).name × IsExported (export_of e).kind) c.export-item.is c.export_words.ensures)

pub returns : goal.returns
returns c = each (λ (e : Exported). AreBytes e.name × IsExported e.kind) _ (all_passed (λ (e : Exported). AreBytes e.name × IsExported e.kind) export_of c.args.exports.now c.loop-export.export-index (omega arith) c.loop-export.invariant)
