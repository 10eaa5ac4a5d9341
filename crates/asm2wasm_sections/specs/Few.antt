-- The numbers of functions, types and entries of a module, which have 32 bits.
use Rattle.std.specs.Prelude.{◌+◌, ◌^◌, ◌<◌, length}
use Rattle.asm_lang.specs.Modules.{Module}
use Rattle.asm_lang_valid.specs.Scope.{Signature}
use Rattle.asm_lang_valid.specs.LimitRows.{foreign_calls}
use Rattle.asm_lang_valid.specs.Refusal.{IsAccepted, foreign_globals}
use Rattle.asm2wasm_lang.specs.Tables.{entries_of}
use Rattle.asm2wasm_translation.specs.Numbers.{type_number}

-- each type's number
abbrev pub FewTypes : Module → Type 0
FewTypes m = (s : Signature) → type_number m s < 2 ^ 32

-- the functions, the foreign ones among them
abbrev pub FewFunctions : Module → Type 0
FewFunctions m = length (foreign_calls m) + length m.functions < 2 ^ 32

abbrev pub FewEntries : Module → Type 0
FewEntries m = length (entries_of m) < 2 ^ 32

abbrev pub FewGlobals : Module → Type 0
FewGlobals m = length (foreign_globals m) < 2 ^ 32

-- ---- accepted modules

abbrev pub AcceptedHaveFewTypes : Type 0
AcceptedHaveFewTypes = (m : Module) → IsAccepted m → FewTypes m

abbrev pub AcceptedHaveFewFunctions : Type 0
AcceptedHaveFewFunctions = (m : Module) → IsAccepted m → FewFunctions m

abbrev pub AcceptedHaveFewEntries : Type 0
AcceptedHaveFewEntries = (m : Module) → IsAccepted m → FewEntries m

abbrev pub AcceptedHaveFewGlobals : Type 0
AcceptedHaveFewGlobals = (m : Module) → IsAccepted m → FewGlobals m
