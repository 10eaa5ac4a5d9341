use Rattle.std.proofs.Common.{◌≡◌, ◌++◌, map, drop}
use Rattle.std.specs.List.{flat_map}
use Rattle.wasm_lang.specs.Modules.{Exported}
use Rattle.wasm_tree.specs.Views.{export_of}
use Rattle.asm_tree.specs.Views.{export_view}
use Rattle.wasm2js_translation.specs.Modules.{export_for}
use Rattle.wasm2js_sections.proofs.exporting.add_exports.Given as goal

abbrev pub invariant-loop-source : goal.invariant-loop-source
invariant-loop-source l =
    map export_view l.exports.items ++ flat_map (λ (e : Exported). export_for e.name e.kind) (map export_of (drop l.source-index l.sources))
    ≡ map export_view l.initial.exports.items ++ flat_map (λ (e : Exported). export_for e.name e.kind) (map export_of l.sources)
