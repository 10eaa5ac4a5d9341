use Rattle.std.proofs.Common.{◌≡◌, ◌+◌, ◌<◌, ◌^◌, All, length, sym, ap, ◌∙◌, subst}
use Rattle.std.proofs.lemmas.List.{length-map}
use Rattle.asm_tree.specs.Views.{module_view}
use Rattle.asm_lang_valid.specs.LimitRows.{foreign_calls}
use Rattle.asm_validate_limits.specs.Called.{foreign_view}
use Rattle.asm2wasm_sections.proofs.Small.{entries_small}
use Rattle.asm2wasm_sections.proofs.entries.element.Goals as goal

pub entry_numbers-requires : goal.entry_numbers-requires
entry_numbers-requires c =
    let m = module_view c.args.numbers.now in
    let same : module_view c.checked.result.now ≡ m = ap module_view c.checked.ensures in
    let calls = c.foreign_calls-imported.result.now in
    let many : length calls ≡ length (foreign_calls m) =
    sym (length-map calls (foreign_view (module_view c.checked.result.now))) ∙ ap length c.foreign_calls-imported.ensures.calls ∙ ap (λ n. length (foreign_calls n)) same in
    subst (All (λ entry. length calls + entry < 2 ^ 32)) (sym (c.as_slice.ensures ∙ c.plan.ensures.entries))
    (entries_small m m.tables (length calls) (subst (λ n. n + length m.functions < 2 ^ 32) (sym many) c.requires.few))
