use Rattle.std.proofs.Common.{◌++◌, ◌∷◌, [], List, Option, map, take, sym, ap, subst, ◌∙◌, append_assoc}
use Rattle.wasm_tree.specs.Views.{import_of}
use Rattle.wasm_lang_exec.specs.Reductions as meaning
use Rattle.wasm_lang_exec.specs.Reductions.{imported_callees}
use Rattle.wasm_run_start.specs.Listing.{AreReady}
use Rattle.wasm_run_start.proofs.Listed.{item_of, one_more_import}
use Rattle.wasm_run_start.proofs.listing.add_imported.Goals as goal

pub loop-import-preserved : goal.loop-import-preserved
loop-import-preserved c = λ m cs has all.
    let i = c.loop-import.import-index in
    let x = c.import-item.result in
    let before = imported_callees m (map import_of (take i c.args.imports.now)) in
    let one = imported_callees m (import_of x ∷ []) in
    subst (λ (l : List (Option meaning.Callee)). AreReady m c.add_import.new.functions.items l)
    (append_assoc cs before one ∙ ap (λ (l : List (Option meaning.Callee)). cs ++ l) (sym (one_more_import m c.args.imports.now i x c.loop-import-test.true c.import-item.is)))
    (c.in_ok-add_import.ensures m (cs ++ before) (has i (import_of x) (item_of c.args.imports.now i x c.loop-import-test.true c.import-item.is)) (c.loop-import.invariant m cs has all))
