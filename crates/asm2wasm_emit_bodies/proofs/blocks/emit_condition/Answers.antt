use Rattle.std.proofs.lemmas.Result.{on_ok_weaker}
use Rattle.wasm_lang.specs.Instructions.{eqz32}
use Rattle.wasm_lang_exec.specs.Code.{ε, ◌▹◌, ◌⊕◌, br_if}
use Rattle.wasm_laws_write.specs.Lengths.{IsNarrow}
use Rattle.asm_tree.specs.Views.{expr_view}
use Rattle.asm2wasm_translation.specs.Values.{one, value_code}
use Rattle.asm2wasm_emit_pieces.proofs.Parts.{first_part}
use Rattle.asm2wasm_emit_pieces.proofs.Joined.{joined}
use Rattle.asm2wasm_emit_values.specs.Contexts.{scope_in}
use Rattle.asm2wasm_emit_bodies.proofs.blocks.emit_condition.Goals as goal

pub emit-requires : goal.emit-requires
emit-requires c = record { narrow = first_part IsNarrow (value_code c.args.context.now.size (scope_in c.args.context.now) 0 (expr_view c.args.condition.now)) (one eqz32 ⊕ (br_if 1 ▹ ε)) c.requires.narrow }

pub returns : goal.returns
returns c =
    on_ok_weaker c.push-2.result
    (λ given. joined c.args.output.now c.emit.new.output c.push-2.new.self (value_code c.args.context.now.size (scope_in c.args.context.now) 0 (expr_view c.args.condition.now)) (one eqz32 ⊕ (br_if 1 ▹ ε)) c.in_ok-emit.ensures
    (joined c.emit.new.output c.push.new.self c.push-2.new.self (one eqz32) (br_if 1 ▹ ε) c.in_ok-push.ensures given))
    c.push-2.ensures
