use Rattle.std.proofs.lemmas.Result.{on_ok_weaker}
use Rattle.wasm_lang_exec.specs.Code.{ε, ◌▹◌, return}
use Rattle.wasm_laws_write.specs.Lengths.{IsNarrow}
use Rattle.asm_tree.specs.Views.{expr_view}
use Rattle.asm2wasm_translation.specs.Values.{value_code}
use Rattle.asm2wasm_emit_pieces.proofs.Parts.{first_part}
use Rattle.asm2wasm_emit_pieces.proofs.Joined.{joined}
use Rattle.asm2wasm_emit_values.specs.Contexts.{scope_in}
use Rattle.asm2wasm_emit_bodies.proofs.blocks.emit_value.Goals as goal

pub emit-requires : goal.emit-requires
emit-requires c = record { narrow = first_part IsNarrow (value_code c.args.context.now.size (scope_in c.args.context.now) 0 (expr_view c.args.value.now)) (return ▹ ε) c.requires.narrow }

pub returns : goal.returns
returns c =
    on_ok_weaker c.push.result
    (λ given. joined c.args.output.now c.emit.new.output c.push.new.self (value_code c.args.context.now.size (scope_in c.args.context.now) 0 (expr_view c.args.value.now)) (return ▹ ε) c.in_ok-emit.ensures given)
    c.push.ensures
