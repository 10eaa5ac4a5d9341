use Rattle.std.proofs.Common.{◌++◌, ◌∙◌, ap}
use Rattle.wasm_tree.specs.Views.{module_of}
use Rattle.wasm_binary_write.specs.Parts.{after_imports}
use Rattle.wasm_binary_write.proofs.Written.{shared_written}
use Rattle.wasm_binary_write.proofs.modules.write_shared.Goals as goal

pub returns : goal.returns
returns c =
    shared_written c.args.module.now c.in_ok-begun.field-0.items c.in_ok-shared.shared c.push_front.new.self c.push_rest.new.out.items c.followed_by.result c.as_slice.result.now
    c.in_ok-begun.ensures c.in_ok-shared.ensures c.in_ok-push_front.ensures
    (c.in_ok-push_rest.ensures ∙ ap (λ l. l ++ after_imports (module_of c.args.module.now)) c.new-rest.ensures.items) c.followed_by.ensures c.as_slice.ensures
