-- What is said of the short form of a module.
use Rattle.std.specs.Prelude.{◌≡◌}
use Rattle.asm_lang.specs.Heights.{IsWellFormed}
use Rattle.asm_lang.specs.Modules.{Module}
use Rattle.asm_lang_valid.specs.Refusal.{IsAccepted}
use Rattle.asm_short_lang.specs.Short.{IsShort, IsSameOutside}

-- of an accepted module, whatever the script and the budget
abbrev pub ShortIsSameOutside : Type 0
ShortIsSameOutside = (m s : Module) → IsAccepted m → IsShort m s → IsSameOutside m s

-- a module has one short form at most
abbrev pub ShortIsOne : Type 0
ShortIsOne = (m s t : Module) → IsShort m s → IsShort m t → s ≡ t

abbrev pub ShortIsAccepted : Type 0
ShortIsAccepted = (m s : Module) → IsAccepted m → IsShort m s → IsAccepted s

-- it can be printed and read again, where the module can
abbrev pub ShortIsWellFormed : Type 0
ShortIsWellFormed = (m s : Module) → IsWellFormed m → IsShort m s → IsWellFormed s

-- the short form of a short form is itself
abbrev pub ShortIsItsOwn : Type 0
ShortIsItsOwn = (m s t : Module) → IsAccepted m → IsShort m s → IsShort s t → t ≡ s
