use Rattle.std.proofs.Common.{◌≡◌, drop, map}
use Rattle.wasm_tree.specs.Views.{import_of}
use Rattle.wasm_lang_valid.specs.Profile.{names_past}
use Rattle.wasm_profile.proofs.sizes.names_past.Given as goal

abbrev pub invariant-loop-import : goal.invariant-loop-import
invariant-loop-import l = names_past (map import_of l.imports) ≡ names_past (map import_of (drop l.import-index l.imports))
