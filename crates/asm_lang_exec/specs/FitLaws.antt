-- What a misfit is, of each part of a script by itself.
use Rattle.std.specs.Prelude.{◌≡◌, ◌⊎◌, ℕ, Some, None}
use Rattle.session_lang.specs.Script.{ScriptPlain}
use Rattle.session_lang.specs.FitLaws as parts
use Rattle.session_lang.specs.Written.{WritesBytes}
use Rattle.asm_lang.specs.Modules.{Module}
use Rattle.asm_lang_exec.specs.Fits.{tests, misfit}

-- all parts fit, and each imported global has a line
abbrev pub Fits : Module → (heap_length : ℕ) → ScriptPlain → Type 0
Fits m size = parts.Fits (tests m size)

-- a part of the script on this line doesn't fit, and none on an earlier line
abbrev pub IsFirstUnfit : Module → (heap_length : ℕ) → ScriptPlain → (line : ℕ) → Type 0
IsFirstUnfit m size = parts.IsFirstUnfit (tests m size)

-- all parts fit, and an imported global has no line
abbrev pub HasMissing : Module → (heap_length : ℕ) → ScriptPlain → Type 0
HasMissing m size = parts.HasMissing (tests m size)

abbrev pub NoMisfitFits : Type 0
NoMisfitFits = (m : Module) (size : ℕ) (s : ScriptPlain) → misfit m size s ≡ None → Fits m size s

abbrev pub WhatFitsHasNoMisfit : Type 0
WhatFitsHasNoMisfit = (m : Module) (size : ℕ) (s : ScriptPlain) → Fits m size s → misfit m size s ≡ None

abbrev pub MisfitIsFirst : Type 0
MisfitIsFirst = (m : Module) (size : ℕ) (s : ScriptPlain) (line : ℕ) → misfit m size s ≡ Some line → IsFirstUnfit m size s line ⊎ ((line ≡ 0) × HasMissing m size s)

abbrev pub WhatFitsWritesBytes : Type 0
WhatFitsWritesBytes = (m : Module) (size : ℕ) (s : ScriptPlain) → misfit m size s ≡ None → WritesBytes s
