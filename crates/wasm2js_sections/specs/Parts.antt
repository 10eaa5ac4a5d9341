-- Variables that hold imports.
use Rattle.std.specs.Prelude.{ℕ, suc, List, [], ◌∷◌}
use Rattle.sem_words.specs.Lists.{text_bytes}
use Rattle.sem_words.specs.declared.text.Text.{Text}
use Rattle.session_lang.specs.Names.{import_name}
use Rattle.wasm_lang.specs.declared.types.ValType.TheVariants.{I32}
use Rattle.wasm_lang.specs.Modules.{Imported}
use Rattle.wasm_lang_exec.specs.Reductions.{if_function}
use Rattle.wasm_lang_exec.specs.Fits.{GlobalImport}
use Rattle.asm_lang.specs.Trees.{member}
use Rattle.asm_lang.specs.Modules.{Variable}
use Rattle.wasm2js_translation.specs.Names.{numbered, foreign}
use Rattle.wasm2js_translation.specs.Modules.{foreign_name, variable}

abbrev pub import_variable : (k : ℕ) → Imported → Variable
import_variable k i = variable (numbered foreign k) (member foreign_name (import_name i.module_name i.name))

-- the imported functions, from number k on
abbrev pub import_variables : (k : ℕ) → List Imported → List Variable
import_variables k [] = []
import_variables k (i ∷ is) = if_function i.kind (λ t. import_variable k i ∷ import_variables (suc k) is) (import_variables k is)

-- the variables name an imported global, and say nothing of its type

abbrev pub by_name : GlobalImport → GlobalImport
by_name g = record { name = g.name; type = I32 }

abbrev pub given_of : Text → GlobalImport
given_of t = record { name = text_bytes t; type = I32 }
