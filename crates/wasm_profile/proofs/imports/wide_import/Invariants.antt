use Rattle.std.proofs.Common.{◌≡◌, drop, map}
use Rattle.wasm_tree.specs.Views.{import_of, module_of}
use Rattle.wasm_lang_valid.specs.Profile.{wide_import}
use Rattle.wasm_profile.proofs.imports.wide_import.Given as goal

abbrev pub invariant-loop-i : goal.invariant-loop-i
invariant-loop-i l = wide_import (module_of l.«module») 0 (module_of l.«module»).imports ≡ wide_import (module_of l.«module») l.i (map import_of (drop l.i l.import-items))
