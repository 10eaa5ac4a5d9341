-- What is exported under a name: the function that the module has by the name that the export names.
use Rattle.std.proofs.Common.{◌≡◌, ℕ, suc, Bool, true, false, List, [], ◌∷◌, ◌++◌, map, Option, Some, None, inl, inr, refl, sym, ap, ◌∙◌, subst}
use Rattle.std.specs.Prelude.{slice_get, option_and_then, if◌then◌else◌, bytes_eq, codes}
use Rattle.std.specs.List.{AllByRecursion, flat_map}
use Rattle.std.proofs.lemmas.Slice.Eq.{bytes_eq-Decides}
use Rattle.hex.specs.Hex.{IsBytes}
use Rattle.session_lang.specs.Names.{export_name}
use Rattle.session_lang.proofs.NameLaws.{different_exports_have_different_names, fixed_names_are_kept}
use Rattle.wasm_lang.specs.declared.types.ExportKind.{ExportKind}
use Rattle.wasm_lang.specs.declared.types.ExportKind.TheVariants as exports
use Rattle.wasm_lang.specs.Modules.{Exported, WasmModule}
use Rattle.wasm_lang_exec.specs.Reductions.{callees}
use Rattle.wasm_lang_exec.specs.Session as machine
use Rattle.asm_lang.specs.Trees.{Init, number, decimal, foreign_int, foreign_double, member, math, view}
use Rattle.asm_lang.specs.Modules.{Variable, Function, Table, Export, Module}
use Rattle.asm_lang_valid.specs.declared.meaning.Element.{Element}
use Rattle.asm_lang_valid.specs.declared.meaning.Builtin.TheVariants.{Imul, Clz32}
use Rattle.asm_lang_valid.specs.Scope.{Meaning, a_function, an_outside, a_builtin, a_foreign, a_table, a_parameter, init_meaning, math_meaning, Constructor, viewed, among_globals, among_functions, among_tables, is_in, is_foreign, constructors, constructor_in, module_meaning}
use Rattle.asm_lang_valid.specs.Refusal as text
use Rattle.asm_lang_valid.specs.Refusal.{function_number, exported}
use Rattle.asm_lang_exec.specs.Session.{export_number, exported_function}
use Rattle.wasm2js_translation.specs.Names.{Name, numbered, fixed, function, init, last_high, spelled}
use Rattle.wasm2js_translation.specs.Modules.{init_function, high_function, functions_from, helpers, functions_of, export_for, exports_of, translated}
use Rattle.wasm2js_translation.specs.Tables.{stubs}
use Rattle.wasm2js_laws_acceptance.proofs.ProvidedEntries.{in_right}
use Rattle.wasm2js_laws_acceptance.proofs.ProvidedFound.{function_found}
use Rattle.wasm2js_laws_scripts.specs.Laws.{ExportsAreBytes}

-- ---- names

itself : (n : List ℕ) → bytes_eq n n ≡ true
itself n = (bytes_eq-Decides n n).1 refl

same_bytes : (x y : List ℕ) → bytes_eq x y ≡ true → x ≡ y
same_bytes x y h = (bytes_eq-Decides x y).0 h

other_bytes : (x y : List ℕ) → (x ≡ y → ⊥) → bytes_eq x y ≡ false
other_bytes x y h = by (bytes_eq x y) refl
  where
    by : (b : Bool) → bytes_eq x y ≡ b → b ≡ false
    by true e = absurd (h (same_bytes x y e))
    by false e = refl

-- ---- a name that means a function is that function's number

abbrev IsNoFunction : Meaning → Type 0
IsNoFunction m = (f : Function) → m ≡ a_function f → ⊥

math_is_none : (p : List ℕ) → IsNoFunction (math_meaning p)
math_is_none p = by (bytes_eq (codes "imul") p) (bytes_eq (codes "clz32") p)
  where
    by : (a b : Bool) → IsNoFunction (if a then a_builtin Imul else (if b then a_builtin Clz32 else an_outside))
    by true b f h = cc h
    by false true f h = cc h
    by false false f h = cc h

viewed_is_none : (o : Option Constructor) → IsNoFunction (viewed o)
viewed_is_none None f h = cc h
viewed_is_none (Some c) f h = by c.element f h
  where
    by : (o : Option Element) → IsNoFunction (viewed (Some (record { name = c.name; element = o })))
    by None f h = cc h
    by (Some e) f h = cc h

member_is_none : (b : Bool) (p : List ℕ) → IsNoFunction (if b then a_foreign p else an_outside)
member_is_none true p f h = cc h
member_is_none false p f h = cc h

init_is_none : (m : Module) (i : Init) → IsNoFunction (init_meaning m i)
init_is_none m (number v) f h = cc h
init_is_none m (decimal bs) f h = cc h
init_is_none m (foreign_int g p) f h = cc h
init_is_none m (foreign_double g p) f h = cc h
init_is_none m (member g p) f h = member_is_none (is_foreign m g) p f h
init_is_none m (math g p) f h = math_is_none p f h
init_is_none m (view g p k) f h = viewed_is_none (constructor_in constructors p) f h

past_globals : (m : Module) (vs : List Variable) (n : List ℕ) (o : Meaning) (f : Function) → among_globals m vs n o ≡ a_function f → o ≡ a_function f
past_globals m [] n o f h = h
past_globals m (v ∷ vs) n o f h = by (bytes_eq v.name n) (past_globals m vs n o f) h
  where
    by : (b : Bool) → (among_globals m vs n o ≡ a_function f → o ≡ a_function f) → (if b then init_meaning m v.init else among_globals m vs n o) ≡ a_function f → o ≡ a_function f
    by true rest h = absurd (init_is_none m v.init f h)
    by false rest h = rest h

no_table : (ts : List Table) (n : List ℕ) → IsNoFunction (among_tables ts n)
no_table [] n f h = cc h
no_table (t ∷ ts) n f h = by (bytes_eq t.name n) (no_table ts n) f h
  where
    by : (b : Bool) → IsNoFunction (among_tables ts n) → IsNoFunction (if b then a_table t else among_tables ts n)
    by true rest f h = cc h
    by false rest f h = rest f h

numbered_there : (fs : List Function) (n : List ℕ) (o : Meaning) (f : Function) → IsNoFunction o → among_functions fs n o ≡ a_function f → slice_get fs (function_number fs n) ≡ Some f
numbered_there [] n o f none h = absurd (none f h)
numbered_there (g ∷ fs) n o f none h = by (bytes_eq g.name n) (numbered_there fs n o f none) h
  where
    by : (b : Bool) → (among_functions fs n o ≡ a_function f → slice_get fs (function_number fs n) ≡ Some f) → (if b then a_function g else among_functions fs n o) ≡ a_function f
        → slice_get (g ∷ fs) (if b then 0 else suc (function_number fs n)) ≡ Some f
    by true rest h = let e : g ≡ f = cc h in ap Some e
    by false rest h = rest h

meant_there : (m : Module) (n : List ℕ) (f : Function) → module_meaning m n ≡ a_function f → slice_get m.functions (function_number m.functions n) ≡ Some f
meant_there m n f h =
    numbered_there m.functions n (among_tables m.tables n) f (no_table m.tables n) (past_globals m m.globals n (among_functions m.functions n (among_tables m.tables n)) f (outside (is_in n m.params) h))
  where
    outside : (b : Bool) → (if b then a_parameter else among_globals m m.globals n (among_functions m.functions n (among_tables m.tables n))) ≡ a_function f
        → among_globals m m.globals n (among_functions m.functions n (among_tables m.tables n)) ≡ a_function f
    outside true h = cc h
    outside false h = h

-- ---- what is exported

module _ (w : WasmModule) where
  abbrev given : List Export → List text.Exported
  given es = map (λ (e : Export). exported (translated w) e.key e.function) es

  abbrev at_number : Option ℕ → Option Function
  at_number o = option_and_then (λ i. slice_get (functions_of w) i) o

  -- under this key by the name of a function
  one_found : (key : List ℕ) (n : Name) (f : Function) (o : Option ℕ) → o ≡ Some (function_number (functions_of w) (spelled n)) → module_meaning (translated w) (spelled n) ≡ a_function f → at_number o ≡ Some f
  one_found key n f o e h = ap at_number e ∙ meant_there (translated w) (spelled n) f h

  pub init_exported : exported_function (translated w) (codes "$init") ≡ Some (init_function w)
  init_exported =
      one_found (codes "$init") (fixed init) (init_function w) _ refl
      (function_found w (init_function w) (fixed init) (in_right (init_function w) ((helpers w ++ functions_from w 0 (callees w)) ++ stubs w) (init_function w ∷ high_function ∷ []) (inl refl)) refl)

  pub high_exported : exported_function (translated w) (codes "$hi") ≡ Some high_function
  high_exported =
      one_found (codes "$hi") (fixed last_high) high_function _ refl
      (function_found w high_function (fixed last_high) (in_right high_function ((helpers w ++ functions_from w 0 (callees w)) ++ stubs w) (init_function w ∷ high_function ∷ []) (inr (inl refl))) refl)

  -- ---- .. of the source

  abbrev exports_for : List Exported → List Export
  exports_for es = flat_map (λ (e : Exported). export_for e.name e.kind) es

  named_bytes : (es : List Exported) (name : List ℕ) (k : ℕ) → AllByRecursion (λ (e : Exported). IsBytes e.name) es → machine.function_named es name ≡ Some k → IsBytes name
  named_bytes [] name k all h = cc h
  named_bytes (e ∷ es) name k all h = by (bytes_eq e.name name) refl (named_bytes es name k all.1) h
    where
      by : (b : Bool) → bytes_eq e.name name ≡ b → (machine.function_named es name ≡ Some k → IsBytes name) → (if b then machine.exported_function e.kind else machine.function_named es name) ≡ Some k → IsBytes name
      by true t more h = subst IsBytes (same_bytes e.name name t) all.0
      by false t more h = more h

  abbrev place_of : ℕ → ℕ
  place_of k = function_number (functions_of w) (spelled (numbered function k))

  found_kind : (e : List ℕ) (name : List ℕ) (kind : ExportKind) (rest : List Export) (k : ℕ) → bytes_eq e name ≡ true → machine.exported_function kind ≡ Some k
      → export_number (given (export_for e kind ++ rest)) (export_name name) ≡ Some (place_of k)
  found_kind e name (exports.Func f) rest k t h =
      let same : bytes_eq (export_name e) (export_name name) ≡ true = ap (λ x. bytes_eq (export_name x) (export_name name)) (same_bytes e name t) ∙ itself (export_name name) in
      let it : f ≡ k = cc h in
      ap (λ b. if b then Some (place_of f) else export_number (given rest) (export_name name)) same ∙ ap (λ k. Some (place_of k)) it
  found_kind e name (exports.Table x) rest k t h = cc h
  found_kind e name (exports.Memory x) rest k t h = cc h
  found_kind e name (exports.Global x) rest k t h = cc h

  passed_kind : (e : List ℕ) (name : List ℕ) (kind : ExportKind) (rest : List Export) → bytes_eq (export_name e) (export_name name) ≡ false
      → export_number (given (export_for e kind ++ rest)) (export_name name) ≡ export_number (given rest) (export_name name)
  passed_kind e name (exports.Func f) rest h = ap (λ b. if b then Some (place_of f) else export_number (given rest) (export_name name)) h
  passed_kind e name (exports.Table x) rest h = refl
  passed_kind e name (exports.Memory x) rest h = refl
  passed_kind e name (exports.Global x) rest h = refl

  number_found : (es : List Exported) (name : List ℕ) (k : ℕ) → AllByRecursion (λ (e : Exported). IsBytes e.name) es → IsBytes name → machine.function_named es name ≡ Some k
      → export_number (given (exports_for es)) (export_name name) ≡ Some (place_of k)
  number_found [] name k all bytes h = cc h
  number_found (e ∷ es) name k all bytes h = by (bytes_eq e.name name) refl (number_found es name k all.1 bytes) h
    where
      by : (b : Bool) → bytes_eq e.name name ≡ b → (machine.function_named es name ≡ Some k → export_number (given (exports_for es)) (export_name name) ≡ Some (place_of k))
          → (if b then machine.exported_function e.kind else machine.function_named es name) ≡ Some k
          → export_number (given (export_for e.name e.kind ++ exports_for es)) (export_name name) ≡ Some (place_of k)
      by true t more h = found_kind e.name name e.kind (exports_for es) k t h
      by false t more h =
          passed_kind e.name name e.kind (exports_for es)
          (other_bytes (export_name e.name) (export_name name) (λ same. apart (ap (λ x. bytes_eq x name) (different_exports_have_different_names e.name name all.0 bytes same) ∙ itself name) t))
          ∙ more h
        where
          apart : {b : Bool} → b ≡ true → b ≡ false → ⊥
          apart p q = cc (p, q)

  pub function_exported : ExportsAreBytes w → (name : List ℕ) (k : ℕ) (f : Function) → machine.function_named w.exports name ≡ Some k
      → module_meaning (translated w) (spelled (numbered function k)) ≡ a_function f → exported_function (translated w) (export_name name) ≡ Some f
  function_exported all name k f h is =
      let key = export_name name in
      let rest = exports_for w.exports in
      let no_init = other_bytes (codes "$init") key (λ same. fixed_names_are_kept.init name (sym same)) in
      let no_hi = other_bytes (codes "$hi") key (λ same. fixed_names_are_kept.hi name (sym same)) in
      one_found key (numbered function k) f (export_number (given (exports_of w)) key)
      (ap (λ b. if b then Some (function_number (functions_of w) (spelled (fixed init))) else (if bytes_eq (codes "$hi") key then Some (function_number (functions_of w) (spelled (fixed last_high))) else export_number (given rest) key)) no_init
      ∙ ap (λ b. if b then Some (function_number (functions_of w) (spelled (fixed last_high))) else export_number (given rest) key) no_hi
      ∙ number_found w.exports name k all (named_bytes w.exports name k all h) h)
      is
