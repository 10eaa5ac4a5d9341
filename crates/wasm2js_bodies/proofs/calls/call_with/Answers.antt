use Rattle.std.proofs.Common.{ℕ, ◌++◌, length, drop, Option, ap, ◌∙◌}
use Rattle.wasm_lang.specs.declared.types.ValType.{ValType}
use Rattle.wasm_tree.specs.Views.{type_of}
use Rattle.asm_lang.specs.Modules as text
use Rattle.asm_lang.specs.Modules.{Expr}
use Rattle.asm_tree.specs.Views.{expr_view}
use Rattle.wasm_lang_valid.specs.Typing.{result_of}
use Rattle.wasm2js_translation.specs.Names.{numbered, function, spelled}
use Rattle.wasm2js_translation.specs.Words.{simple_statements}
use Rattle.wasm2js_translation.specs.Delays.{written, standing}
use Rattle.wasm2js_translation.specs.Actions.{under}
use Rattle.wasm2js_translation.specs.Bodies.{answered, arguments_from, call_of}
use Rattle.wasm2js_build.specs.Blocks.{statements_of}
use Rattle.wasm2js_build.specs.Growing.{waits_of}
use Rattle.wasm2js_operands.specs.Operands.{over}
use Rattle.wasm2js_bodies.proofs.Steps.{beside_gone, joined}
use Rattle.wasm2js_bodies.proofs.calls.call_with.Goals as goal

pub returns-clause-statements : goal.returns-clause-statements
returns-clause-statements c =
    let t = type_of c.args.function_type.now in
    let base = c.args.base in
    let ts = over base c.args.types.now.items in
    let told = statements_of c.args.text.now.block in
    let mid = statements_of c.write_all.new.self.block in
    let ds = waits_of c.args.text.now in
    let left = c.remove.ensures.value ∙ ap (λ (n : ℕ). drop n ts) c.len-count.ensures in
    let depth = c.under-depth.ensures ∙ ap (λ (n : ℕ). under n base ts) c.len-count.ensures in
    let called = λ (d : ℕ). text.call (spelled (numbered function c.args.function)) (arguments_from ds d t.params) in
    joined told mid (statements_of c.answered.new.block) (simple_statements (written (standing base (drop (length t.params) ts) ds))) (call_of ds c.args.function (under (length t.params) base ts) t)
    (beside_gone told (statements_of c.keep_standing.new.text.block) mid ds (waits_of c.keep_standing.new.text) base (length t.params) ts (over base c.remove.new.types.items)
    (ap statements_of c.keep_standing.ensures.block) left c.keep_standing.ensures.waits c.in_ok-write_all.ensures.statements)
    (c.in_ok-answered.ensures
    ∙ ap (λ (r : Option ValType). mid ++ answered r c.under-depth.result (expr_view c.in_ok-made.made)) c.result_type-gives.ensures
    ∙ ap (λ (e : Expr). mid ++ answered (result_of t) c.under-depth.result e) c.in_ok-made.ensures
    ∙ ap (λ (d : ℕ). mid ++ answered (result_of t) d (called d)) depth)
