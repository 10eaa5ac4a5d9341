-- The module that a pair is linked to can be written, where both of the pair are spelled in files that are read.
use Rattle.std.specs.Prelude.{◌≤◌, ◌^◌, ℕ, List, length}
use Rattle.wasm_lang.specs.Grammar.{IsModuleBytes}
use Rattle.wasm_lang.specs.Modules.{WasmModule}
use Rattle.wasm_lang.specs.Shape.{IsShaped, IsWritable}
use Rattle.wasm_link_lang.specs.Pairs.{Pair}
use Rattle.wasm_link_code.specs.Linked.{linked}
use Rattle.wasm_link_laws_modules.specs.Laws.{IsLinkable}

-- some 2 ^ 24 bytes or fewer spell the module
abbrev pub IsSpelledShort : WasmModule → Type 0
IsSpelledShort m = (bytes : List ℕ) × IsModuleBytes bytes m × (length bytes ≤ 2 ^ 24)

abbrev pub LinkedIsShaped : Type 0
LinkedIsShaped = (w : Pair) → IsLinkable w → IsShaped w.first → IsShaped w.second → IsShaped (linked w)

abbrev pub LinkedIsWritable : Type 0
LinkedIsWritable = (w : Pair) → IsLinkable w → IsSpelledShort w.first → IsSpelledShort w.second → IsWritable (linked w)
