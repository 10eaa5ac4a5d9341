-- What is printed of modules that are written out.
use Rattle.std.proofs.Common.{◌≡◌, refl, [], ◌∷◌, None, codes}
use Rattle.std.specs.Fmt.{digits}
use Rattle.sem_words.specs.declared.word.Bin.TheVariants.{Add}
use Rattle.wasm_lang.specs.declared.types.ValType.TheVariants.{I32, I64}
use Rattle.wasm_lang.specs.declared.types.ImportKind.TheVariants as imports
use Rattle.wasm_lang.specs.declared.types.ExportKind.TheVariants as exports
use Rattle.wasm_lang.specs.Instructions.{plain, local_get, bin64, end_mark}
use Rattle.wasm_lang.specs.Modules.{WasmModule}
use Rattle.bridge_lang.specs.Listing.{type_text, listing}

nothing_for_nothing : type_text (record { params = []; results = [] }) ≡ codes "() -"
nothing_for_nothing = refl

-- one function, which adds two words of 64 bits and is exported
abbrev adding : WasmModule
adding = record {
  types = record { params = I64 ∷ I64 ∷ []; results = I64 ∷ [] } ∷ [];
  imports = [];
  functions = 0 ∷ [];
  tables = [];
  memories = [];
  globals = [];
  exports = record { name = codes "m"; kind = exports.Func 0 } ∷ [];
  start = None;
  elements = [];
  bodies = record { locals = []; code = plain (local_get 0) ∷ plain (local_get 1) ∷ plain (bin64 Add) ∷ end_mark ∷ [] } ∷ [];
  segments = [];
}

adding_listed : listing adding ≡ codes "wasm functions 1 imports 0 exports 1\nfunc 0 (i64 i64) i64 4\n"
unfolding digits
adding_listed = refl

-- an imported memory has no line, and the module's own functions are numbered after the imported ones
abbrev importing : WasmModule
importing = record {
  types = record { params = I32 ∷ []; results = [] } ∷ record { params = []; results = [] } ∷ [];
  imports = record { module_name = codes "env"; name = codes "memory"; kind = imports.Memory (record { min = 1; max = None }) } ∷ record { module_name = codes "env"; name = codes "p"; kind = imports.Func 0 } ∷ [];
  functions = 1 ∷ [];
  tables = [];
  memories = [];
  globals = [];
  exports = record { name = codes "q"; kind = exports.Func 0 } ∷ [];
  start = None;
  elements = [];
  bodies = record { locals = []; code = end_mark ∷ [] } ∷ [];
  segments = [];
}

importing_listed : listing importing ≡ codes "wasm functions 1 imports 2 exports 1\nimport 0 p (i32) -\nfunc 1 () - 1\n"
unfolding digits
importing_listed = refl
