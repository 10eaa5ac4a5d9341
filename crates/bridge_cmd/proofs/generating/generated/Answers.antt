use Rattle.std.proofs.Common.{◌≡◌, ◌≤◌, ◌∙◌, List, ℕ, length, sym, ap, subst}
use Rattle.std.proofs.lemmas.Result.{IfOk-weaker}
use Rattle.asm_lang.specs.Modules.{Module}
use Rattle.asm_lang.specs.Printing.{canonical_text}
use Rattle.asm_lang_valid.specs.Texts.{IsAcceptedText}
use Rattle.wasm_binary_write.specs.Spelling.{spelling}
use Rattle.wasm2js_translation.specs.Modules.{translated as asm_js_for}
use Rattle.asm_tree.specs.Views.{module_view}
use Rattle.gen_lang.specs.Recipe.{recipe, summary}
use Rattle.gen_laws.specs.Modules.{recipe_module}
use Rattle.asm2wasm_lang.specs.Short.{IsOfShortText}
use Rattle.bridge_cmd.proofs.Summaries.{heap_is, in_profile, summed}
use Rattle.bridge_cmd.proofs.generating.generated.Goals as goal

pub accepted-requires : goal.accepted-requires
accepted-requires c = rw (c.as_slice-bytes.ensures.value, c.in_ok-text.ensures.text) (c.recipes.ensures c.args.count.functions c.args.count.few.0 c.args.count.few.1)

pub translate-requires : goal.translate-requires
translate-requires c = record { length = heap_is }

pub summed-requires : goal.summed-requires
summed-requires c =
    let n = c.args.count.functions in
    in_profile n (module_view c.in_ok-checked.checked) c.in_ok-valid.valid c.args.count.few.1 c.in_ok-checked.ensures c.in_ok-valid.ensures.profile

pub returns : goal.returns
returns c =
    let n = c.args.count.functions in
    let says = subst (λ (m : Module). IsAcceptedText (recipe n) m) (sym c.in_ok-checked.ensures) (c.recipes.ensures n c.args.count.few.0 c.args.count.few.1) in
    let short : IsOfShortText (module_view c.in_ok-checked.checked) =
    rw c.in_ok-checked.ensures
    (c.texts.ensures (recipe n) (recipe_module n) (c.recipes.ensures n c.args.count.few.0 c.args.count.few.1) (subst (λ (t : List ℕ). length t ≤ 16777216) c.in_ok-text.ensures.text c.in_ok-text.ensures.short))
    in
    let none =
    in_profile n (module_view c.in_ok-checked.checked) c.in_ok-valid.valid c.args.count.few.1 c.in_ok-checked.ensures c.in_ok-valid.ensures.profile in
    let long : length c.as_slice-bytes.result.now ≡ length (recipe n) = ap length (c.as_slice-bytes.ensures.value ∙ c.in_ok-text.ensures.text) in
    IfOk-weaker c.summed.result _ _
    (λ output is. summed c.spelled.ensures.allowed c.spelled.ensures.traps c.spelled-2.ensures c.printed_texts_are_read.ensures.again c.spelling_laws.ensures.spells c.spelling_laws.ensures.shortest
    n (module_view c.in_ok-checked.checked) c.in_ok-valid.valid output.items says short c.in_ok-valid.ensures.stands none
    (is ∙ ap (λ (k : ℕ). summary n k (length (spelling c.in_ok-valid.valid)) (length (canonical_text (asm_js_for c.in_ok-valid.valid)))) long)) c.summed.ensures
