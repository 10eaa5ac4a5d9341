use Rattle.std.proofs.Common.{ℕ, false, [], ◌∷◌, ◌++◌, None, ap, ◌∙◌}
use Rattle.std.proofs.lemmas.Result.{on_ok_weaker}
use Rattle.wasm_lang.specs.declared.types.MemOp.{MemOp}
use Rattle.wasm_lang.specs.Instructions.{local_get, local_set, store as store_instruction}
use Rattle.wasm_lang_exec.specs.Code.{Trees, ε, ◌▹◌, ◌⊕◌, if_block}
use Rattle.wasm_laws_trees.specs.Spelled.{flat}
use Rattle.asm_lang_valid.specs.Scope.{shift_of}
use Rattle.asm2wasm_translation.specs.Values.{plains, one, access, within}
use Rattle.asm2wasm_emit_pieces.proofs.Joined.{joined}
use Rattle.asm2wasm_emit_pieces.proofs.accesses.store.Goals as goal

abbrev arm : (x y : ℕ) → MemOp → ℕ → Trees
arm x y op k = if_block None (plains (local_get x ∷ local_get y ∷ store_instruction op k 0 ∷ [])) ε ▹ ε

pub returns : goal.returns
returns c =
    let inside = arm c.args.x c.args.y in
    let test = plains (within c.args.size c.args.x) in
    let before = joined c.args.output.now c.local_set.new.self c.within.new.output (one (local_set c.args.y)) test c.in_ok-local_set.ensures c.in_ok-within.ensures in
    on_ok_weaker c.write_if.result
    (λ given.
    let exact = given ∙ ap (λ op. c.within.new.output ++ flat (inside op c.exponent_of-exponent.result)) c.access-op.ensures
    ∙ ap (λ k. c.within.new.output ++ flat (inside (access c.args.element false) k)) c.exponent_of-exponent.ensures.exact in
    joined c.args.output.now c.within.new.output c.write_if.new.output (one (local_set c.args.y) ⊕ test) (inside (access c.args.element false) (shift_of c.args.element)) before exact)
    c.write_if.ensures
