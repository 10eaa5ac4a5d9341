use Rattle.std.proofs.Common.{◌<◌, length, ap, ◌∙◌, arith, length-drop}
use Rattle.std.proofs.lemmas.List.{length-reverse}
use Rattle.wasm_lang_valid.specs.Typing.{onward}
use Rattle.wasm_lang_valid.specs.State.{nothing_left}
use Rattle.wasm_validate_bodies.specs.Blocks.{over}
use Rattle.wasm_validate_bodies.proofs.Over.{left_err}
use Rattle.wasm_validate_bodies.proofs.operands.close.Goals as goal

pub returns-else-len-height-clause-value : goal.returns-else-len-height-clause-value
returns-else-len-height-clause-value c =
    let items = c.pop_result.new.operands.items in
    let some : 0 < length (over c.args.height items) = simp (length-reverse, length-drop) (omega arith) in
    ap (λ r. onward r nothing_left) c.in_ok-pop_result.ensures.value ∙ left_err (over c.args.height items) some
