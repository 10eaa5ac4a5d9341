use Rattle.std.proofs.Common.{arith, subst}
use Rattle.std.proofs.lemmas.List.Elements.{All-more}
use Rattle.wasm_lang.specs.Modules.{Imported}
use Rattle.wat_laws_print.specs.Words.{AreBytes, IsImported}
use Rattle.wasm_tree.specs.Views.{import_of}
use Rattle.wasm_laws_words.proofs.Lists.{all_passed, each}
use Rattle.wasm_laws_words.proofs.imports.Goals as goal

pub loop-import-preserved : goal.loop-import-preserved
loop-import-preserved c =
    All-more (λ i. AreBytes (import_of i).module_name × AreBytes (import_of i).name × IsImported (import_of i).kind) c.args.imports.now c.loop-import.import-index c.import-item.result c.loop-import-test.true c.loop-import.invariant
    (subst (λ i. AreBytes (import_of i).module_name × AreBytes (import_of i).name × IsImported (import_of i).kind) c.import-item.is c.import_words.ensures)

pub returns : goal.returns
returns c = each (λ (i : Imported). AreBytes i.module_name × AreBytes i.name × IsImported i.kind) _ (all_passed (λ (i : Imported). AreBytes i.module_name × AreBytes i.name × IsImported i.kind) import_of c.args.imports.now c.loop-import.import-index (omega arith) c.loop-import.invariant)
