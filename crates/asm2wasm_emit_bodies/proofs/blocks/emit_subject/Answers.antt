use Rattle.std.proofs.Common.{◌<◌, ◌^◌, ◌++◌, ◌∷◌, [], ℕ, ap, sym, ◌∙◌, subst}
use Rattle.std.proofs.lemmas.Result.{on_ok_weaker}
use Rattle.wasm_lang.specs.Instructions.{local_set, plain}
use Rattle.wasm_laws_write.specs.Lengths.{IsNarrow}
use Rattle.asm_tree.specs.Views.{expr_view}
use Rattle.asm2wasm_translation.specs.Values.{one, value_code}
use Rattle.asm2wasm_translation.specs.Bodies.{value_local}
use Rattle.asm2wasm_emit_pieces.proofs.Parts.{first_part, second_part}
use Rattle.asm2wasm_emit_pieces.proofs.Joined.{joined}
use Rattle.asm2wasm_emit_values.specs.Contexts.{scope_in}
use Rattle.asm2wasm_emit_bodies.proofs.blocks.emit_subject.Goals as goal

pub emit-requires : goal.emit-requires
emit-requires c =
    record {
      narrow = first_part IsNarrow (value_code c.args.context.now.size (scope_in c.args.context.now) 0 (expr_view c.args.subject.now)) (one (local_set (value_local c.args.context.now.size (scope_in c.args.context.now)))) c.requires.narrow;
    }

pub local_set-requires : goal.local_set-requires
local_set-requires c =
    subst (λ (n : ℕ). n < 2 ^ 32) (sym c.scratch.ensures.first)
    (second_part IsNarrow (value_code c.args.context.now.size (scope_in c.args.context.now) 0 (expr_view c.args.subject.now)) (one (local_set (value_local c.args.context.now.size (scope_in c.args.context.now)))) c.requires.narrow).0

pub returns : goal.returns
returns c =
    on_ok_weaker c.local_set.result
    (λ given. joined c.args.output.now c.emit.new.output c.local_set.new.self (value_code c.args.context.now.size (scope_in c.args.context.now) 0 (expr_view c.args.subject.now)) (one (local_set (value_local c.args.context.now.size (scope_in c.args.context.now)))) c.in_ok-emit.ensures
    (given ∙ ap (λ x. c.emit.new.output ++ plain (local_set x) ∷ []) c.scratch.ensures.first))
    c.local_set.ensures
