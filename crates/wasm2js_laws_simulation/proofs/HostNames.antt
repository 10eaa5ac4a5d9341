-- No variable of a function is among the module's.
use Rattle.std.proofs.Common.{◌≡◌, ℕ, suc, Bool, true, false, List, [], ◌∷◌, ◌++◌, length, Option, Some, None, refl, ap, ◌∙◌}
use Rattle.std.specs.Prelude.{bytes_eq, ◌||◌}
use Rattle.std.specs.List.{AllByRecursion}
use Rattle.std.proofs.lemmas.Slice.Eq.{bytes_eq-Decides}
use Rattle.sem_words.specs.declared.js_value.JsValue.{JsValue}
use Rattle.session_lang.specs.Script.{ScriptPlain}
use Rattle.wasm_lang.specs.Instructions.{Instruction, plain, const32, const64, global_get}
use Rattle.wasm_lang.specs.Modules.{GlobalEntry, WasmModule}
use Rattle.wasm_lang_valid.specs.ModuleRules.{has_memory}
use Rattle.wasm_lang_exec.specs.Fits.{GlobalImport, global_imports}
use Rattle.wasm_lang_exec.specs.Reductions.{Callee, an_import, a_function, callees}
use Rattle.asm_lang.specs.Modules.{Variable}
use Rattle.asm_lang_valid.specs.Scope.{is_in}
use Rattle.asm_lang_exec.specs.Session.{global_value, with_binding, first_globals}
use Rattle.wasm2js_translation.specs.Names.{Name, spelled}
use Rattle.wasm2js_translation.proofs.Spelling.{spellings_differ}
use Rattle.wasm2js_translation.specs.Modules.{variables_of}
use Rattle.wasm2js_laws_acceptance.proofs.ProvidedDeclared.{variable_texts, spellings, head_names, foreign_names, imported_names, first_names, own_names, global_names, globals_are_named}
use Rattle.wasm2js_laws_places.specs.Places.{is_own, names_in}

abbrev NotOwn : List Name → Type 0
NotOwn ns = AllByRecursion (λ (n : Name). is_own n ≡ false) ns

joined : (xs ys : List Name) → NotOwn xs → NotOwn ys → NotOwn (xs ++ ys)
joined [] ys h k = k
joined (x ∷ xs) ys h k = (h.0, joined xs ys h.1 k)

heads_not : (b : Bool) → NotOwn (head_names b)
heads_not true = (refl, (refl, (refl, (refl, (refl, (refl, (refl, (refl, (refl, tt)))))))))
heads_not false = (refl, (refl, (refl, (refl, (refl, (refl, tt))))))

foreign_not : (k : ℕ) (cs : List (Option Callee)) → NotOwn (foreign_names k cs)
foreign_not k [] = tt
foreign_not k (None ∷ cs) = tt
foreign_not k (Some (an_import name t) ∷ cs) = (refl, foreign_not (suc k) cs)
foreign_not k (Some (a_function t more code) ∷ cs) = tt

imported_not : (k : ℕ) (gs : List GlobalImport) → NotOwn (imported_names k gs)
imported_not k [] = tt
imported_not k (g ∷ gs) = (refl, imported_not (suc k) gs)

first_not : (k : ℕ) (is : List Instruction) → NotOwn (first_names k is)
first_not k (plain (const32 n) ∷ is) = (refl, tt)
first_not k (plain (const64 n) ∷ is) = (refl, (refl, tt))
first_not k (plain (global_get x) ∷ is) = (refl, tt)
first_not k is = tt

own_not : (k : ℕ) (gs : List GlobalEntry) → NotOwn (own_names k gs)
own_not k [] = tt
own_not k (g ∷ gs) = joined (first_names k g.init) (own_names (suc k) gs) (first_not k g.init) (own_not (suc k) gs)

all_not : (w : WasmModule) → NotOwn (global_names w)
all_not w =
    let given = global_imports w.imports in
    let numbered_ones = joined (imported_names 0 given) (own_names (length given) w.globals) (imported_not 0 given) (own_not (length given) w.globals) in
    joined (head_names (has_memory w)) _ (heads_not (has_memory w)) (joined (foreign_names 0 (callees w)) _ (foreign_not 0 (callees w)) numbered_ones)

-- ---- lists of names

apart : (n m : Name) → is_own n ≡ true → is_own m ≡ false → bytes_eq (spelled m) (spelled n) ≡ false
apart n m h k = by (bytes_eq (spelled m) (spelled n)) refl
  where
    by : (b : Bool) → bytes_eq (spelled m) (spelled n) ≡ b → b ≡ false
    by true e =
        let same = spellings_differ m n ((bytes_eq-Decides (spelled m) (spelled n)).0 e) in
        absurd (clash (is_own m) (ap is_own same ∙ h) k)
      where
        clash : (b : Bool) → b ≡ true → b ≡ false → ⊥
        clash b p q = cc (p, q)
    by false e = refl

not_among : (n : Name) → is_own n ≡ true → (ms : List Name) → NotOwn ms → is_in (spelled n) (spellings ms) ≡ false
not_among n h [] all = refl
not_among n h (m ∷ ms) all = ap (λ b. b || is_in (spelled n) (spellings ms)) (apart n m h all.0) ∙ not_among n h ms all.1

either_false : (a b : Bool) → (a || b) ≡ false → (a ≡ false) × (b ≡ false)
either_false true b h = absurd (cc h)
either_false false b h = (refl, h)

fewer : (s : ScriptPlain) (vs : List Variable) (t : List ℕ) → is_in t (variable_texts vs) ≡ false → is_in t (names_in (first_globals s vs)) ≡ false
fewer s [] t h = refl
fewer s (v ∷ vs) t h =
    let parts = either_false (bytes_eq v.name t) (is_in t (variable_texts vs)) h in
    by (global_value s v.init) parts.0 (fewer s vs t parts.1)
  where
    by : (o : Option JsValue) → bytes_eq v.name t ≡ false → is_in t (names_in (first_globals s vs)) ≡ false → is_in t (names_in (with_binding v.name o (first_globals s vs))) ≡ false
    by None first rest = rest
    by (Some x) first rest = ap (λ b. b || is_in t (names_in (first_globals s vs))) first ∙ rest

pub names_apart : (w : WasmModule) (s : ScriptPlain) (n : Name) → is_own n ≡ true → is_in (spelled n) (names_in (first_globals s (variables_of w))) ≡ false
names_apart w s n h = fewer s (variables_of w) (spelled n) (ap (is_in (spelled n)) (globals_are_named w) ∙ not_among n h (global_names w) (all_not w))
