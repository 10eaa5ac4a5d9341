use Rattle.std.proofs.Common.{◌≡◌, ◌∷◌, [], ◌∙◌, ap, sym}
use Rattle.std.specs.Prelude.{Ok}
use Rattle.wasm_lang.specs.declared.fault.Row.TheVariants.{Magic, Version}
use Rattle.wasm_lang.specs.ReadingModule.{header_field}
use Rattle.wasm_tree.specs.Inputs.{input_of}
use Rattle.wasm_tree.specs.Views.{module_of}
use Rattle.wasm_tree.proofs.Slices.{stands_trans}
use Rattle.wasm_binary.proofs.ByParts.{parts_ok}
use Rattle.wasm_binary.proofs.LentModules.{module_read, lent_as}
use Rattle.wasm_binary.proofs.reader.module.Goals as goal

pub returns-clause-value : goal.returns-clause-value
returns-clause-value c =
    let e : header_field Magic (0x00 ∷ 0x61 ∷ 0x73 ∷ 0x6d ∷ []) (record { at = 0; bytes = c.args.bytes.now }) ≡ Ok (input_of c.in_ok-rest.rest) = ap (λ i. header_field Magic (0x00 ∷ 0x61 ∷ 0x73 ∷ 0x6d ∷ []) i) (sym c.new-input.ensures.value) ∙ c.in_ok-rest.ensures.value in
    let f : header_field Version (0x01 ∷ 0x00 ∷ 0x00 ∷ 0x00 ∷ []) (input_of c.in_ok-rest.rest) ≡ Ok (input_of c.in_ok-rest-2.rest) = c.in_ok-rest-2.ensures.value in
    parts_ok c.args.bytes.now (input_of c.in_ok-rest.rest) (input_of c.in_ok-rest-2.rest) (module_of c.in_ok-sections.field-0) e f c.in_ok-sections.ensures.value

pub returns-clause-lent : goal.returns-clause-lent
returns-clause-lent c =
    let e : header_field Magic (0x00 ∷ 0x61 ∷ 0x73 ∷ 0x6d ∷ []) (record { at = 0; bytes = c.args.bytes.now }) ≡ Ok (input_of c.in_ok-rest.rest) = ap (λ i. header_field Magic (0x00 ∷ 0x61 ∷ 0x73 ∷ 0x6d ∷ []) i) (sym c.new-input.ensures.value) ∙ c.in_ok-rest.ensures.value in
    lent_as (0, c.args.bytes) _ (module_read c.args.bytes.now (input_of c.in_ok-rest.rest) (input_of c.in_ok-rest-2.rest) e c.in_ok-rest-2.ensures.value)
    (c.in_ok-sections.ensures.lent (0, c.args.bytes) (stands_trans c.in_ok-rest-2.ensures.follows (stands_trans c.in_ok-rest.ensures.follows c.new-input.ensures.follows)))
