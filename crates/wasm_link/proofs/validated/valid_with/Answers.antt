use Rattle.std.proofs.Common.{◌≡◌, subst, sym, ◌∙◌}
use Rattle.wasm_lang.specs.Modules.{WasmModule}
use Rattle.wasm_lang.specs.Shape.{IsShaped}
use Rattle.wasm_lang_valid.specs.Validity.{IsValidModule}
use Rattle.wasm_link.proofs.validated.valid_with.Goals as goal

pub validated-requires-clause-shaped : goal.validated-requires-clause-shaped
validated-requires-clause-shaped c =
    subst IsShaped (sym c.in_ok-module.ensures) (c.linked_stands.ensures.shaped c.args.numbers.now c.requires.first c.requires.second c.requires.first_shaped c.requires.second_shaped c.requires.linked)

pub validated-requires-clause-valid : goal.validated-requires-clause-valid
validated-requires-clause-valid c =
    subst IsValidModule (sym c.in_ok-module.ensures) (c.linked_stands.ensures.valid c.args.numbers.now c.requires.first c.requires.second c.requires.first_shaped c.requires.second_shaped c.requires.linked)
