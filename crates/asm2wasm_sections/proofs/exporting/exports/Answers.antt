use Rattle.std.proofs.Common.{◌≡◌, ◌+◌, ◌<◌, ◌^◌, length, sym, ap, ◌∙◌, subst}
use Rattle.std.proofs.lemmas.List.{length-map}
use Rattle.asm_tree.specs.Views.{module_view}
use Rattle.asm_lang_valid.specs.LimitRows.{foreign_calls}
use Rattle.asm_lang_valid.specs.Refusal.{exported_from}
use Rattle.asm_validate_limits.specs.Called.{foreign_view}
use Rattle.asm2wasm_sections.proofs.Small.{exports_small}
use Rattle.asm2wasm_sections.proofs.exporting.exports.Goals as goal

pub given-requires : goal.given-requires
given-requires c =
    let m = module_view c.args.numbers.now in
    let same : module_view c.checked-checked.result.now ≡ m = ap module_view c.checked-checked.ensures in
    let many : length c.foreign_calls.result.now ≡ length (foreign_calls m) =
    sym (length-map c.foreign_calls.result.now (foreign_view (module_view c.checked-checked.result.now))) ∙ ap length c.foreign_calls.ensures.calls ∙ ap (λ n. length (foreign_calls n)) same in
    record {
      few = exports_small m (length c.foreign_calls.result.now) m.exports c.exports.result.now
          (c.exports.ensures ∙ ap (λ n. exported_from n n.exports) same)
          (subst (λ n. n + length m.functions < 2 ^ 32) (sym many) c.requires.few);
    }
