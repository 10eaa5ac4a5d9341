-- Names of foreign members are short.
use Rattle.std.proofs.Common.{◌≡◌, ℕ, zero, suc, ◌+◌, ◌*◌, ◌≤◌, Bool, true, false, cond, ◌&&◌, not, List, [], ◌∷◌, ◌++◌, length, Option, Some, None, refl, sym, subst, arith, length-append}
use Rattle.std.specs.Prelude.{codes, bytes_eq, slice_get, nat_eq, nat_lt, option_map, if◌then◌else◌}
use Rattle.std.specs.List.{AllByRecursion, starts_with}
use Rattle.hex.specs.Hex.{encode_with, encode_lower}
use Rattle.session_lang.specs.Names.{is_plain_name, import_name}
use Rattle.wasm_lang.specs.declared.types.ImportKind.{ImportKind}
use Rattle.wasm_lang.specs.declared.types.ImportKind.TheVariants as imports
use Rattle.wasm_lang.specs.Instructions.{Instruction, plain, const32, const64, global_get}
use Rattle.wasm_lang.specs.Modules.{FunctionType, Imported, GlobalEntry, FunctionBody, WasmModule}
use Rattle.wasm_lang_valid.specs.ModuleRules.{has_memory}
use Rattle.wasm_lang_valid.specs.Profile.{has_name, too_many, most_name_bytes, names_past}
use Rattle.wasm_lang_exec.specs.Code.{Trees, tree_of}
use Rattle.wasm_lang_exec.specs.Fits.{GlobalImport, with_import, global_imports}
use Rattle.wasm_lang_exec.specs.Reductions.{Callee, an_import, a_function, if_function, imported_callee, imported_callees, own_callee, own_callees, callees}
use Rattle.asm_lang.specs.Modules.{Variable, Module}
use Rattle.asm_lang_valid.specs.Scope.{is_foreign}
use Rattle.asm_lang_valid.specs.LimitRows.{member_length}
use Rattle.wasm2js_translation.specs.Names.{Name, numbered, global_low}
use Rattle.wasm2js_translation.specs.Modules.{foreign_name, view_variables, fixed_variables, foreign_variables, given_variable, imported_variables, first_values, own_variables, global_variables, variables_of, translated}
use Rattle.wasm2js_laws_acceptance.proofs.FunctionsLimited.{where_none, at_most, limited}
use Rattle.wasm2js_laws_acceptance.specs.LimitsLaws.{NamesAreShort}

-- ---- the names

hex_long : (bs : List ℕ) → length (encode_lower bs) ≡ 2 * length bs
unfolding encode_with
hex_long [] = refl
hex_long (b ∷ bs) = let e = hex_long bs in omega (arith, e)

short_name : (m n : List ℕ) → length m + length n ≤ 49000 → length (import_name m n) ≤ 100000
short_name m n h = by (bytes_eq m (codes "env") && is_plain_name n && not (starts_with nat_eq n (codes "$x")))
  where
    spelled : length (codes "$x" ++ encode_lower m ++ codes "$" ++ encode_lower n) ≤ 100000
    spelled =
        let a = length-append (codes "$x" ++ encode_lower m ++ codes "$") (encode_lower n) in
        let b = length-append (codes "$x" ++ encode_lower m) (codes "$") in
        let c = length-append (codes "$x") (encode_lower m) in
        let d = hex_long m in
        let e = hex_long n in
        few _ _ _ _ _ (length m) (length n) a b c d e h
      where
        few : (all front first hm hn m n : ℕ) → all ≡ front + hn → front ≡ first + 1 → first ≡ 2 + hm → hm ≡ 2 * m → hn ≡ 2 * n → m + n ≤ 49000 → all ≤ 100000
        few all front first hm hn m n a b c d e h = omega (arith, a, b, c, d, e, h)

    by : (b : Bool) → length (if b then n else codes "$x" ++ encode_lower m ++ codes "$" ++ encode_lower n) ≤ 100000
    by true = omega (arith, h)
    by false = spelled

abbrev AreShort : List Imported → Type 0
AreShort is = AllByRecursion (λ (x : Imported). has_name x.kind ≡ true → length (import_name x.module_name x.name) ≤ 100000) is

all_short : (is : List Imported) → names_past is ≡ None → AreShort is
all_short [] h = tt
all_short (x ∷ is) h = by (has_name x.kind) h (all_short is)
  where
    by : (b : Bool) → cond b (too_many most_name_bytes (length x.module_name + length x.name) (names_past is)) (names_past is) ≡ None → (names_past is ≡ None → AreShort is)
        → (b ≡ true → length (import_name x.module_name x.name) ≤ 100000) × AreShort is
    by true h f =
        let w = where_none (nat_lt most_name_bytes (length x.module_name + length x.name)) (length x.module_name + length x.name) (names_past is) h in
        ((λ e. short_name x.module_name x.name (at_most most_name_bytes (length x.module_name + length x.name) w.0)), f w.1)
    by false h f = ((λ e. absurd (cc e)), f h)

-- ---- imported functions

abbrev IsShort : Option Callee → Type 0
IsShort (Some (an_import name t)) = length name ≤ 100000
IsShort c = Unit {0}

module _ (w : WasmModule) where
  import_short : (name : List ℕ) → length name ≤ 100000 → (o : Option FunctionType) → IsShort (option_map (an_import name) o)
  import_short name h None = tt
  import_short name h (Some t) = h

  own_short : (b : FunctionBody) (o : Option FunctionType) (tree : Option Trees) → IsShort (own_callee o b tree)
  own_short b None tree = tt
  own_short b (Some t) None = tt
  own_short b (Some t) (Some x) = tt

  all_own_short : (ts : List ℕ) (bs : List FunctionBody) → AllByRecursion IsShort (own_callees w ts bs)
  all_own_short [] [] = tt
  all_own_short [] (b ∷ bs) = tt
  all_own_short (t ∷ ts) [] = tt
  all_own_short (t ∷ ts) (b ∷ bs) = (own_short b (slice_get w.types t) (tree_of b.code), all_own_short ts bs)

  callees_short : (is : List Imported) (cs : List (Option Callee)) → AreShort is → AllByRecursion IsShort cs → AllByRecursion IsShort (imported_callees w is ++ cs)
  callees_short [] cs h k = k
  callees_short (x ∷ is) cs h k = by x.kind h.0 (callees_short is cs h.1 k)
    where
      by : (kind : ImportKind) → (has_name kind ≡ true → length (import_name x.module_name x.name) ≤ 100000) → AllByRecursion IsShort (imported_callees w is ++ cs)
          → AllByRecursion IsShort (if_function kind (λ t. imported_callee w x t ∷ imported_callees w is) (imported_callees w is) ++ cs)
      by (imports.Func n) f r = (import_short (import_name x.module_name x.name) (f refl) (slice_get w.types n), r)
      by (imports.Table l) f r = r
      by (imports.Memory l) f r = r
      by (imports.Global g) f r = r

-- ---- imported globals

abbrev AreShortGlobals : List GlobalImport → Type 0
AreShortGlobals gs = AllByRecursion (λ (g : GlobalImport). length g.name ≤ 100000) gs

globals_short : (is : List Imported) → AreShort is → AreShortGlobals (global_imports is)
globals_short [] h = tt
globals_short (x ∷ is) h = by x.kind h.0 (globals_short is h.1)
  where
    by : (kind : ImportKind) → (has_name kind ≡ true → length (import_name x.module_name x.name) ≤ 100000) → AreShortGlobals (global_imports is) → AreShortGlobals (with_import x kind (global_imports is))
    by (imports.Global g) f r = (f refl, r)
    by (imports.Func n) f r = r
    by (imports.Table l) f r = r
    by (imports.Memory l) f r = r

-- ---- variables

module _ (m : Module) (foreign : is_foreign m foreign_name ≡ true) where
  abbrev Short : Variable → Type 0
  Short v = member_length m v.init ≤ 100000

  abbrev AllShort : List Variable → Type 0
  AllShort vs = AllByRecursion Short vs

  joined : (vs ws : List Variable) → AllShort vs → AllShort ws → AllShort (vs ++ ws)
  joined [] ws h k = k
  joined (v ∷ vs) ws h k = (h.0, joined vs ws h.1 k)

  member_short : (p : List ℕ) → length p ≤ 100000 → (if is_foreign m foreign_name then length p else 0) ≤ 100000
  member_short p h = subst (λ b. (if b then length p else 0) ≤ 100000) (sym foreign) h

  views_short : (b : Bool) → AllShort (if b then view_variables else [])
  views_short true = (omega arith, (omega arith, (omega arith, tt)))
  views_short false = tt

  fixed_short : AllShort fixed_variables
  fixed_short = (omega arith, (omega arith, (member_short (codes "$trap") (omega arith), (member_short (codes "$high") (omega arith), (omega arith, (omega arith, tt))))))

  foreign_short : (k : ℕ) (cs : List (Option Callee)) → AllByRecursion IsShort cs → AllShort (foreign_variables k cs)
  foreign_short k [] h = tt
  foreign_short k (None ∷ cs) h = tt
  foreign_short k (Some (a_function t more code) ∷ cs) h = tt
  foreign_short k (Some (an_import name t) ∷ cs) h = (member_short name h.0, foreign_short (suc k) cs h.1)

  given_short : (n : Name) (o : Option GlobalImport) → ((g : GlobalImport) → o ≡ Some g → length g.name ≤ 100000) → Short (given_variable n o)
  given_short n None h = omega arith
  given_short n (Some g) h = h g refl

  imported_short : (k : ℕ) (gs : List GlobalImport) → AreShortGlobals gs → AllShort (imported_variables k gs)
  imported_short k [] h = tt
  imported_short k (g ∷ gs) h = (h.0, imported_short (suc k) gs h.1)

  at_place : (gs : List GlobalImport) (i : ℕ) (g : GlobalImport) → AreShortGlobals gs → slice_get gs i ≡ Some g → length g.name ≤ 100000
  at_place [] i g h e = absurd (cc e)
  at_place (x ∷ gs) zero g h e = let same : x ≡ g = cc e in subst (λ (g : GlobalImport). length g.name ≤ 100000) same h.0
  at_place (x ∷ gs) (suc i) g h e = at_place gs i g h.1 e

  first_short : (given : List GlobalImport) (k : ℕ) (is : List Instruction) → AreShortGlobals given → AllShort (first_values given k is)
  first_short given k (plain (const32 n) ∷ is) h = (omega arith, tt)
  first_short given k (plain (const64 n) ∷ is) h = (omega arith, (omega arith, tt))
  first_short given k (plain (global_get x) ∷ is) h = (given_short (numbered global_low k) (slice_get given x) (λ g e. at_place given x g h e), tt)
  first_short given k is h = tt

  own_variables_short : (given : List GlobalImport) (k : ℕ) (gs : List GlobalEntry) → AreShortGlobals given → AllShort (own_variables given k gs)
  own_variables_short given k [] h = tt
  own_variables_short given k (g ∷ gs) h = joined (first_values given k g.init) _ (first_short given k g.init h) (own_variables_short given (suc k) gs h)

  all_variables_short : (w : WasmModule) → AreShort w.imports → AllShort (variables_of w)
  all_variables_short w h =
      let given = globals_short w.imports h in
      joined ((if has_memory w then view_variables else []) ++ fixed_variables ++ foreign_variables 0 (callees w)) (global_variables w)
      (joined ((if has_memory w then view_variables else []) ++ fixed_variables) (foreign_variables 0 (callees w))
      (joined (if has_memory w then view_variables else []) fixed_variables (views_short (has_memory w)) fixed_short)
      (foreign_short 0 (callees w) (callees_short w w.imports (own_callees w w.functions w.bodies) h (all_own_short w w.functions w.bodies))))
      (joined (imported_variables 0 (global_imports w.imports)) _ (imported_short 0 (global_imports w.imports) given) (own_variables_short (global_imports w.imports) (length (global_imports w.imports)) w.globals given))

pub names_are_short : NamesAreShort
names_are_short w source = all_variables_short (translated w) refl w (all_short w.imports (limited w source.within).names)
