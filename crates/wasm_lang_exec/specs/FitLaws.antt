-- What a misfit is, of each part of a script by itself.
use Rattle.std.specs.Prelude.{◌≡◌, ◌⊎◌, ℕ, Some, None}
use Rattle.session_lang.specs.Script.{ScriptPlain}
use Rattle.session_lang.specs.FitLaws as parts
use Rattle.session_lang.specs.Written.{WritesBytes}
use Rattle.wasm_lang.specs.Modules.{WasmModule}
use Rattle.wasm_lang_exec.specs.Fits.{tests, misfit}

-- all parts fit, and each imported global has a line
abbrev pub Fits : WasmModule → ScriptPlain → Type 0
Fits m = parts.Fits (tests m)

-- a part of the script on this line doesn't fit, and none on an earlier line
abbrev pub IsFirstUnfit : WasmModule → ScriptPlain → (line : ℕ) → Type 0
IsFirstUnfit m = parts.IsFirstUnfit (tests m)

-- all parts fit, and an imported global has no line
abbrev pub HasMissing : WasmModule → ScriptPlain → Type 0
HasMissing m = parts.HasMissing (tests m)

abbrev pub NoMisfitFits : Type 0
NoMisfitFits = (m : WasmModule) (s : ScriptPlain) → misfit m s ≡ None → Fits m s

abbrev pub WhatFitsHasNoMisfit : Type 0
WhatFitsHasNoMisfit = (m : WasmModule) (s : ScriptPlain) → Fits m s → misfit m s ≡ None

abbrev pub MisfitIsFirst : Type 0
MisfitIsFirst = (m : WasmModule) (s : ScriptPlain) (line : ℕ) → misfit m s ≡ Some line → IsFirstUnfit m s line ⊎ ((line ≡ 0) × HasMissing m s)

abbrev pub WhatFitsWritesBytes : Type 0
WhatFitsWritesBytes = (m : WasmModule) (s : ScriptPlain) → misfit m s ≡ None → WritesBytes s
