use Rattle.std.proofs.Common.{◌≡◌, ◌∙◌, ap, length, subst, ℕ, List, IfOk}
use Rattle.std.specs.Prelude.{Result}
use Rattle.asm_lang.specs.Printing.{canonical_text}
use Rattle.wasm_binary_write.specs.Spelling.{spelling}
use Rattle.wasm2js_translation.specs.Modules.{translated as asm_js_for}
use Rattle.gen_lang.specs.Recipe.{summary}
use Rattle.bridge_cmd.proofs.generating.summed.Goals as goal

-- the summary by lengths that are the same
by_same_lengths : {V E : Type 0} (r : Result V E) (items : V → List ℕ) (functions text wasm wasm' back back' : ℕ) → wasm ≡ wasm' → back ≡ back'
    → IfOk r (λ lines. items lines ≡ summary functions text wasm back) → IfOk r (λ lines. items lines ≡ summary functions text wasm' back')
by_same_lengths r items f t w w' b b' ww bb h =
    subst (λ n. IfOk r (λ lines. items lines ≡ summary f t w' n)) bb (subst (λ n. IfOk r (λ lines. items lines ≡ summary f t n b)) ww h)

pub returns : goal.returns
returns c =
    let wasm : c.len.result ≡ length (spelling c.args.valid.now) = c.len.ensures ∙ c.in_ok-bytes.bytes.ok.0 ∙ ap length (c.in_ok-bytes.ensures ∙ ap spelling c.module.ensures.given) in
    let back : c.len-2.result ≡ length (canonical_text (asm_js_for c.args.valid.now)) = c.len-2.ensures ∙ c.in_ok-back.back.ok.0 ∙ ap length c.in_ok-back.ensures in
    by_same_lengths c.summary.result (λ lines. lines.items) c.args.functions c.args.text
    c.len.result (length (spelling c.args.valid.now)) c.len-2.result (length (canonical_text (asm_js_for c.args.valid.now))) wasm back c.summary.ensures
