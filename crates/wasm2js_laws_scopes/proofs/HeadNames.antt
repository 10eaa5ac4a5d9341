-- What the head of a translated module means.
use Rattle.std.proofs.Common.{◌≡◌, ℕ, suc, Bool, true, false, List, [], ◌∷◌, ◌++◌, length, Option, Some, None, refl, ap, ◌∙◌}
use Rattle.std.specs.Prelude.{codes, bytes_eq, ◌||◌, if◌then◌else◌}
use Rattle.std.specs.List.{list_all}
use Rattle.std.proofs.lemmas.List.{append_assoc}
use Rattle.wasm_lang.specs.Instructions.{Instruction, plain, const32, const64, global_get}
use Rattle.wasm_lang.specs.Modules.{GlobalEntry, WasmModule}
use Rattle.wasm_lang_valid.specs.ModuleRules.{has_memory}
use Rattle.wasm_lang_exec.specs.Reductions.{Callee, an_import, a_function, callees}
use Rattle.wasm_lang_exec.specs.Fits.{GlobalImport, global_imports}
use Rattle.asm_lang.specs.Modules.{Stmt, Variable, Module}
use Rattle.asm_lang_valid.specs.declared.meaning.Builtin.TheVariants.{Imul, Clz32}
use Rattle.asm_lang_valid.specs.declared.meaning.Element.TheVariants.{Int8, Uint8, Int32}
use Rattle.asm_lang_valid.specs.Scope as scopes
use Rattle.asm_lang_valid.specs.Scope.{is_in, Meaning, a_parameter, an_int, a_foreign, a_builtin, a_view, init_meaning, among_globals, among_functions, among_tables}
use Rattle.asm_lang_valid.specs.Typing.{named}
use Rattle.asm_lang_valid.specs.Typed.{scope_of}
use Rattle.wasm2js_translation.specs.Names as names
use Rattle.wasm2js_translation.specs.Names.{Name, Fixed, numbered, fixed, word, spelled}
use Rattle.wasm2js_translation.proofs.Spelling.{spellings_are_usable}
use Rattle.wasm2js_translation.specs.Helpers.{function_of}
use Rattle.wasm2js_translation.specs.Modules.{functions_of, stdlib_name, foreign_name, heap_name, view_variables, fixed_variables, foreign_variables, given_variable, imported_variables, first_values, own_variables, global_variables, variables_of, translated}
use Rattle.wasm2js_translation.specs.Tables.{tables_for}
use Rattle.wasm2js_laws_scopes.specs.Provided.{HasFixed, HasMemory}
use Rattle.wasm2js_laws_scopes.specs.Laws.{is_own, HeadIsProvided, MemoryIsProvided}
use Rattle.wasm2js_laws_scopes.proofs.Among.{other_spelling}
use Rattle.wasm2js_laws_scopes.proofs.Declared.{module_names_are_seen}

-- ---- no numbered variable has a fixed name

abbrev pub OtherNames : List ℕ → List Variable → Type 0
OtherNames s [] = Unit {0}
OtherNames s (v ∷ vs) = (bytes_eq v.name s ≡ false) × OtherNames s vs

pub missed : (m : Module) (vs : List Variable) (s : List ℕ) (o : Meaning) → OtherNames s vs → among_globals m vs s o ≡ o
missed m [] s o h = refl
missed m (v ∷ vs) s o h = ap (λ b. if b then init_meaning m v.init else among_globals m vs s o) h.0 ∙ missed m vs s o h.1

pub others_join : (s : List ℕ) (vs ws : List Variable) → OtherNames s vs → OtherNames s ws → OtherNames s (vs ++ ws)
others_join s [] ws h k = k
others_join s (v ∷ vs) ws h k = (h.0, others_join s vs ws h.1 k)

module _ (f : Fixed) where
  numbered_other : (k : names.Numbered) (n : ℕ) → bytes_eq (spelled (numbered k n)) (word f) ≡ false
  numbered_other k n = other_spelling (numbered k n) (fixed f) (λ e. cc e)

  foreign_others : (k : ℕ) (cs : List (Option Callee)) → OtherNames (word f) (foreign_variables k cs)
  foreign_others k [] = tt
  foreign_others k (None ∷ cs) = tt
  foreign_others k (Some (an_import name t) ∷ cs) = (numbered_other names.foreign k, foreign_others (suc k) cs)
  foreign_others k (Some (a_function t more code) ∷ cs) = tt

  given_other : (k : ℕ) (o : Option GlobalImport) → bytes_eq (given_variable (numbered names.global_low k) o).name (word f) ≡ false
  given_other k None = numbered_other names.global_low k
  given_other k (Some g) = numbered_other names.global_low k

  imported_others : (k : ℕ) (gs : List GlobalImport) → OtherNames (word f) (imported_variables k gs)
  imported_others k [] = tt
  imported_others k (g ∷ gs) = (given_other k (Some g), imported_others (suc k) gs)

  first_others : (given : List GlobalImport) (k : ℕ) (is : List Instruction) → OtherNames (word f) (first_values given k is)
  first_others given k (plain (const32 n) ∷ is) = (numbered_other names.global_low k, tt)
  first_others given k (plain (const64 n) ∷ is) = (numbered_other names.global_low k, (numbered_other names.global_high k, tt))
  first_others given k (plain (global_get x) ∷ is) = (given_other k _, tt)
  first_others given k is = tt

  own_others : (given : List GlobalImport) (k : ℕ) (gs : List GlobalEntry) → OtherNames (word f) (own_variables given k gs)
  own_others given k [] = tt
  own_others given k (g ∷ gs) = others_join (word f) (first_values given k g.init) _ (first_others given k g.init) (own_others given (suc k) gs)

  pub numbered_others : (w : WasmModule) → OtherNames (word f) (foreign_variables 0 (callees w) ++ global_variables w)
  numbered_others w =
      others_join (word f) (foreign_variables 0 (callees w)) _ (foreign_others 0 (callees w))
      (others_join (word f) (imported_variables 0 (global_imports w.imports)) _ (imported_others 0 (global_imports w.imports)) (own_others (global_imports w.imports) (length (global_imports w.imports)) w.globals))

-- ---- the head

module _ (m : Module) (rest : List Variable) (o : Meaning) (foreign : scopes.is_foreign m foreign_name ≡ true) where
  abbrev Head : Bool → List ℕ → Meaning
  Head b s = among_globals m ((if b then view_variables else []) ++ (fixed_variables ++ rest)) s o

  multiplies_is : (b : Bool) → Head b (word names.imul) ≡ a_builtin Imul
  multiplies_is true = refl
  multiplies_is false = refl

  counts_is : (b : Bool) → Head b (word names.clz32) ≡ a_builtin Clz32
  counts_is true = refl
  counts_is false = refl

  trap_is : (b : Bool) → Head b (word names.trap) ≡ a_foreign (word names.trap)
  trap_is true = rw foreign refl
  trap_is false = rw foreign refl

  spare_is : (b : Bool) → Head b (word names.spare_high) ≡ an_int
  spare_is true = refl
  spare_is false = refl

  high_is : (b : Bool) → Head b (word names.result_high) ≡ an_int
  high_is true = refl
  high_is false = refl

  bytes_are : (b : Bool) → b ≡ true → Head b (word names.view_of_bytes) ≡ a_view Uint8
  bytes_are true h = refl
  bytes_are false h = absurd (cc h)

  signed_bytes_are : (b : Bool) → b ≡ true → Head b (word names.view_of_signed_bytes) ≡ a_view Int8
  signed_bytes_are true h = refl
  signed_bytes_are false h = absurd (cc h)

  words_are : (b : Bool) → b ≡ true → Head b (word names.view_of_words) ≡ a_view Int32
  words_are true h = refl
  words_are false h = absurd (cc h)

-- ---- in the scope of a function

second_false : (a b : Bool) → (a || b) ≡ false → b ≡ false
second_false true b h = absurd (cc h)
second_false false b h = h

no_parameter : (f : Fixed) → is_in (word f) (stdlib_name ∷ foreign_name ∷ heap_name ∷ []) ≡ false
no_parameter f = second_false (bytes_eq (codes "wasm") (word f)) _ (spellings_are_usable (fixed f)).is_not_own

module _ (w : WasmModule) (name : Name) (ps ls : List Name) (ss : List Stmt) (p : list_all is_own ps ≡ true) (l : list_all is_own ls ≡ true) where
  abbrev numbered_variables : List Variable
  numbered_variables = foreign_variables 0 (callees w) ++ global_variables w

  abbrev no_variable : Fixed → Meaning
  no_variable f = among_functions (functions_of w) (word f) (among_tables (tables_for w) (word f))

  in_order : variables_of w ≡ (if has_memory w then view_variables else []) ++ (fixed_variables ++ numbered_variables)
  in_order =
      append_assoc ((if has_memory w then view_variables else []) ++ fixed_variables) (foreign_variables 0 (callees w)) (global_variables w)
      ∙ append_assoc (if has_memory w then view_variables else []) fixed_variables numbered_variables

  in_module : (f : Fixed) → named (scope_of (translated w) (function_of name ps ls ss)) (word f) ≡ among_globals (translated w) ((if has_memory w then view_variables else []) ++ (fixed_variables ++ numbered_variables)) (word f) (no_variable f)
  in_module f =
      module_names_are_seen (translated w) name ps ls ss (fixed f) p l refl
      ∙ ap (λ b. if b then a_parameter else among_globals (translated w) (variables_of w) (word f) (no_variable f)) (no_parameter f)
      ∙ ap (λ vs. among_globals (translated w) vs (word f) (no_variable f)) in_order

  head_is_provided : HasFixed (scope_of (translated w) (function_of name ps ls ss))
  head_is_provided = record {
    multiplies = in_module names.imul ∙ multiplies_is (translated w) numbered_variables (no_variable names.imul) refl (has_memory w);
    counts = in_module names.clz32 ∙ counts_is (translated w) numbered_variables (no_variable names.clz32) refl (has_memory w);
    traps = in_module names.trap ∙ trap_is (translated w) numbered_variables (no_variable names.trap) refl (has_memory w);
    spare = in_module names.spare_high ∙ spare_is (translated w) numbered_variables (no_variable names.spare_high) refl (has_memory w);
    high = in_module names.result_high ∙ high_is (translated w) numbered_variables (no_variable names.result_high) refl (has_memory w);
  }

  memory_is_provided : has_memory w ≡ true → HasMemory (scope_of (translated w) (function_of name ps ls ss))
  memory_is_provided e = record {
    bytes = in_module names.view_of_bytes ∙ bytes_are (translated w) numbered_variables (no_variable names.view_of_bytes) refl (has_memory w) e;
    signed_bytes = in_module names.view_of_signed_bytes ∙ signed_bytes_are (translated w) numbered_variables (no_variable names.view_of_signed_bytes) refl (has_memory w) e;
    words = in_module names.view_of_words ∙ words_are (translated w) numbered_variables (no_variable names.view_of_words) refl (has_memory w) e;
  }

pub heads_are_provided : HeadIsProvided
heads_are_provided w name ps ls ss p l = head_is_provided w name ps ls ss p l

pub memories_are_provided : MemoryIsProvided
memories_are_provided w name ps ls ss p l e = memory_is_provided w name ps ls ss p l e
