use Rattle.std.proofs.Common.{◌≡◌, ◌++◌, ◌∙◌, ap, subst, OnOk, length, append_assoc}
use Rattle.wasm_tree.specs.Views.{import_of}
use Rattle.wasm_binary_write.specs.Spelling.{imported, items, unsigned}
use Rattle.wasm_binary_write.proofs.Spelled.{items_step, items_end, vector_map}
use Rattle.wasm_binary_write.proofs.imports.push_imports.Goals as goal

pub loop-import-init : goal.loop-import-init
loop-import-init c =
    let old = c.args.shared.now in
    let count = unsigned (length c.args.imports.now) in
    let every = items (λ x. imported (import_of x)) c.args.imports.now in
    ap (λ b. (old ++ b) ++ every) (c.in_ok-push_unsigned.ensures ∙ ap (λ l. l ++ count) c.new-pending.ensures.items) ∙ append_assoc old count every

pub loop-import-preserved : goal.loop-import-preserved
loop-import-preserved c =
    items_step (λ x. imported (import_of x)) (c.loop-import.shared ++ c.loop-import.pending.items) _ _ c.args.imports.now c.loop-import.import-index c.import-item.result c.loop-import-test.true c.import-item.is c.loop-import.invariant c.in_ok-push_import.ensures

pub returns : goal.returns
returns c =
    subst (λ own. OnOk c.push.result (c.push.new.self ≡ own))
    (items_end (λ x. imported (import_of x)) (c.loop-import.shared ++ c.loop-import.pending.items) _ c.args.imports.now c.loop-import.import-index c.loop-import-test.false c.loop-import.invariant
    ∙ ap (λ b. c.args.shared.now ++ b) (vector_map imported import_of c.args.imports.now))
    c.push.ensures
