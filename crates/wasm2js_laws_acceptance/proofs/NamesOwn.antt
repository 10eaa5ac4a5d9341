-- The names that functions declare of their own, and the rows of functions.
use Rattle.std.proofs.Common.{◌≡◌, ℕ, zero, suc, ◌+◌, ◌*◌, ◌≤◌, Bool, true, false, List, [], ◌∷◌, ◌++◌, map, length, Option, Some, None, inl, inr, refl, sym, ap, ◌∙◌, subst, arith}
use Rattle.std.specs.Prelude.{if◌then◌else◌, nat_lt, ◌==◌, ◌/◌}
use Rattle.std.specs.List.{AllByRecursion, flat_map, list_any, range_with_len}
use Rattle.std.proofs.lemmas.List.{append_assoc, map-append}
use Rattle.wasm_lang.specs.declared.types.ValType.{ValType}
use Rattle.wasm_lang.specs.declared.types.ValType.TheVariants.{I32, I64}
use Rattle.wasm_lang.specs.Modules.{WasmModule}
use Rattle.wasm_lang_valid.specs.ModuleRules.{has_memory}
use Rattle.wasm_lang_valid.specs.Profile.{memory_bytes}
use Rattle.wasm_lang_valid.specs.Typing.{result_of}
use Rattle.wasm_lang_exec.specs.Reductions.{Callee, an_import, a_function, callees}
use Rattle.asm_lang.specs.Modules.{Variable, Param, Function, Module}
use Rattle.asm_lang_valid.specs.Rows.{body_at, function_count}
use Rattle.asm_lang_valid.specs.Scope.{is_in}
use Rattle.asm_lang_valid.specs.NameRows.{global_texts, declares, params_names, locals_names, param_texts, function_names, functions_names}
use Rattle.wasm2js_lang.specs.Parts.Functions.{is_asked}
use Rattle.wasm2js_translation.specs.Names.{Name, spelled, rank, RisesFrom, Rises}
use Rattle.wasm2js_lang.specs.Tables.{MaskedTable, masked}
use Rattle.wasm2js_translation.specs.Helpers.{int_param, zero_variable, argument, own, one_argument, two_arguments, three_arguments, wide_helpers, division_helpers, arguments_after, put_function, zero_function, memory_helpers}
use Rattle.wasm2js_translation.specs.Modules.{param_names, context_of, wrapper_locals, function_for, functions_from, init_function, high_function, all_helpers, helpers, functions_of, translated}
use Rattle.wasm2js_translation.specs.Pairs.{local_pair, operand_pair, names_of}
use Rattle.wasm2js_translation.specs.Rooms.{Room, body_room, local_names, operand_names, declared_names}
use Rattle.wasm2js_translation.specs.Tables.{is_empty, is_other, is_needed, stub_numbers, stubs_for, stubs}
use Rattle.asm_laws_sound.specs.UsesLaws.{BodyUsesNames}
use Rattle.asm_laws_sound.proofs.Uses.{functions_use_names}
use Rattle.wasm2js_laws_acceptance.proofs.ProvidedDeclared.{spellings, texts_of, variable_texts}
use Rattle.wasm2js_laws_acceptance.proofs.ProvidedHelpers.{all_kept}
use Rattle.wasm2js_laws_acceptance.proofs.ProvidedOrder.{Places, places_from, Reaches, places_join, first_group, last_group}
use Rattle.wasm2js_laws_acceptance.specs.NamesLaws.{FunctionsHaveNoRows}
use Rattle.wasm2js_laws_acceptance.proofs.NamesFresh.{none_join, all_join, all_flat, NewTexts, MayBeDeclared, declared_once, new_first, new_second, rising_are_new, names_allowed, params_of, functions_new, functions_allowed}

-- ---- rows, where what is declared is new

params_fine : (before : List (List ℕ)) (ps : List Param) (at : ℕ) → NewTexts before (param_texts ps) → MayBeDeclared (param_texts ps) → params_names before ps at ≡ []
params_fine before [] at h k = refl
params_fine before (p ∷ ps) at h k =
    none_join (declares before p.name at) (params_names (before ++ p.name ∷ []) ps (at + 1)) (declared_once before p.name at h.0 k.0) (params_fine (before ++ p.name ∷ []) ps (at + 1) h.1 k.1)

locals_fine : (before : List (List ℕ)) (vs : List Variable) (at : ℕ) → NewTexts before (variable_texts vs) → MayBeDeclared (variable_texts vs) → locals_names before vs at ≡ []
locals_fine before [] at h k = refl
locals_fine before (v ∷ vs) at h k =
    none_join (declares before v.name at) (locals_names (before ++ v.name ∷ []) vs (at + 1)) (declared_once before v.name at h.0 k.0) (locals_fine (before ++ v.name ∷ []) vs (at + 1) h.1 k.1)

-- parameters and locals of a function
pub record DeclaresOnce (f : Function) : Type 0 where
  pub params : NewTexts [] (param_texts f.params)
  pub locals : NewTexts (param_texts f.params) (variable_texts f.locals)
  pub params_allowed : MayBeDeclared (param_texts f.params)
  pub locals_allowed : MayBeDeclared (variable_texts f.locals)

function_fine : (m : Module) (before : List (List ℕ)) (f : Function) (at : ℕ) → declares before f.name at ≡ [] → DeclaresOnce f → BodyUsesNames m f → function_names m before f at ≡ []
function_fine m before f at h once body =
    none_join (declares before f.name at) _ h
    (none_join (params_names [] f.params (at + 1)) _ (params_fine [] f.params (at + 1) once.params once.params_allowed)
    (none_join (locals_names (param_texts f.params) f.locals (at + 1 + length f.params)) _ (locals_fine (param_texts f.params) f.locals (at + 1 + length f.params) once.locals once.locals_allowed) (body (body_at f at))))

pub functions_fine : (m : Module) (before : List (List ℕ)) (fs : List Function) (at : ℕ) → NewTexts before (texts_of fs) → MayBeDeclared (texts_of fs) → AllByRecursion DeclaresOnce fs → AllByRecursion (BodyUsesNames m) fs
    → functions_names m before fs at ≡ []
functions_fine m before [] at h k once bodies = refl
functions_fine m before (f ∷ fs) at h k once bodies =
    none_join (function_names m before f at) (functions_names m (before ++ f.name ∷ []) fs (at + function_count f))
    (function_fine m before f at (declared_once before f.name at h.0 k.0) once.0 bodies.0)
    (functions_fine m (before ++ f.name ∷ []) fs (at + function_count f) h.1 k.1 once.1 bodies.1)

-- ---- functions of ints whose names rise

param_spelled : (ps : List Name) → param_texts (map int_param ps) ≡ spellings ps
param_spelled [] = refl
param_spelled (p ∷ ps) = ap (λ ts. spelled p ∷ ts) (param_spelled ps)

local_spelled : (ls : List Name) → variable_texts (map zero_variable ls) ≡ spellings ls
local_spelled [] = refl
local_spelled (l ∷ ls) = ap (λ ts. spelled l ∷ ts) (local_spelled ls)

out_of_none : (n : Name) → is_in (spelled n) [] ≡ false
out_of_none n = refl

once : (f : Function) (ps ls : List Name) → f.params ≡ map int_param ps → f.locals ≡ map zero_variable ls → Rises (ps ++ ls) → DeclaresOnce f
once f ps ls is_params is_locals r =
    let params : param_texts f.params ≡ spellings ps = ap param_texts is_params ∙ param_spelled ps in
    let locals : variable_texts f.locals ≡ spellings ls = ap variable_texts is_locals ∙ local_spelled ls in
    let all = subst (NewTexts []) (map-append spelled ps ls) (rising_are_new [] out_of_none [] (ps ++ ls) [] refl r) in
    record {
      params = subst (NewTexts []) (sym params) (new_first [] (spellings ps) (spellings ls) all);
      locals = subst (λ b. NewTexts b (variable_texts f.locals)) (sym params) (subst (NewTexts (spellings ps)) (sym locals) (new_second [] (spellings ps) (spellings ls) all));
      params_allowed = subst MayBeDeclared (sym params) (names_allowed ps);
      locals_allowed = subst MayBeDeclared (sym locals) (names_allowed ls);
    }

-- ---- helpers

one_rises : Rises (one_argument ++ [])
one_rises = tt

two_rise : Rises (two_arguments ++ [])
two_rise = (inr (refl, omega arith), tt)

three_rise : Rises (three_arguments ++ [])
three_rise = (inr (refl, omega arith), (inr (refl, omega arith), tt))

one_and_own : Rises (one_argument ++ own 0 ∷ [])
one_and_own = (inl (omega arith), tt)

three_and_own : Rises (three_arguments ++ own 0 ∷ [])
three_and_own = (inr (refl, omega arith), (inr (refl, omega arith), (inl (omega arith), tt)))

three_and_two : Rises (three_arguments ++ own 0 ∷ own 1 ∷ [])
three_and_two = (inr (refl, omega arith), (inr (refl, omega arith), (inl (omega arith), (inr (refl, omega arith), tt))))

wide_once : AllByRecursion DeclaresOnce wide_helpers
wide_once = (
  once _ three_arguments [] refl refl three_rise,
  (
    once _ three_arguments [] refl refl three_rise,
    (
      once _ three_arguments [] refl refl three_rise,
      (
        once _ three_arguments (own 0 ∷ []) refl refl three_and_own,
        (once _ two_arguments [] refl refl two_rise, (once _ two_arguments [] refl refl two_rise, (once _ one_argument (own 0 ∷ []) refl refl one_and_own, tt))),
      ),
    ),
  ),
)

division_once : AllByRecursion DeclaresOnce division_helpers
division_once = (once _ two_arguments [] refl refl two_rise, (once _ two_arguments [] refl refl two_rise, (once _ two_arguments [] refl refl two_rise, (once _ two_arguments [] refl refl two_rise, tt))))

words_rise : (i n : ℕ) → RisesFrom (rank (argument i)) (arguments_after (suc i) n)
words_rise i zero = tt
words_rise i (suc n) = (inr (refl, omega arith), words_rise (suc i) n)

data_once : AllByRecursion DeclaresOnce (put_function ∷ zero_function ∷ [])
data_once = (once _ (arguments_after 0 17) [] refl refl (words_rise 0 16), (once _ two_arguments [] refl refl two_rise, tt))

memory_once : (bytes : ℕ) → AllByRecursion DeclaresOnce (memory_helpers bytes)
memory_once bytes = (
  once _ one_argument [] refl refl one_rises,
  (
    once _ one_argument [] refl refl one_rises,
    (
      once _ two_arguments [] refl refl two_rise,
      (
        once _ three_arguments [] refl refl three_rise,
        (once _ three_arguments (own 0 ∷ []) refl refl three_and_own, (once _ three_arguments (own 0 ∷ own 1 ∷ []) refl refl three_and_two, data_once)),
      ),
    ),
  ),
)

offered_once : (bytes : ℕ) (b : Bool) → AllByRecursion DeclaresOnce (wide_helpers ++ division_helpers ++ (if b then memory_helpers bytes else []))
offered_once bytes b = all_join DeclaresOnce (wide_helpers ++ division_helpers) (if b then memory_helpers bytes else []) (all_join DeclaresOnce wide_helpers division_helpers wide_once division_once) (by b)
  where
    by : (b : Bool) → AllByRecursion DeclaresOnce (if b then memory_helpers bytes else [])
    by true = memory_once bytes
    by false = tt

helpers_once : (w : WasmModule) → AllByRecursion DeclaresOnce (helpers w)
helpers_once w = all_kept DeclaresOnce (is_asked w) (all_helpers w) (offered_once (memory_bytes w) (has_memory w))

-- ---- functions of the source

pair_rises : (x : ℕ) (t : ValType) → Places 0 (2 * x) (names_of t (local_pair x))
pair_rises x I32 = (refl, omega arith, tt)
pair_rises x I64 = (refl, omega arith, (refl, omega arith, tt))

pair_reaches : (x : ℕ) (t : ValType) → Reaches 0 (2 * suc x) (names_of t (local_pair x))
pair_reaches x I32 = (omega arith, tt)
pair_reaches x I64 = (omega arith, (omega arith, tt))

reach_join : (g p : ℕ) (xs ys : List Name) → Reaches g p xs → Reaches g p ys → Reaches g p (xs ++ ys)
reach_join g p [] ys h k = k
reach_join g p (x ∷ xs) ys h k = (h.0, reach_join g p xs ys h.1 k)

reach_from : (g p q : ℕ) (xs : List Name) → p ≤ q → Reaches g p xs → Reaches g q xs
reach_from g p q [] le h = tt
reach_from g p q (x ∷ xs) le h = ((let e = h.0 in omega (arith, e, le)), reach_from g p q xs le h.1)

params_rise : (x : ℕ) (ts : List ValType) → Places 0 (2 * x) (param_names x ts)
params_rise x [] = tt
params_rise x (t ∷ ts) = places_join 0 (2 * x) (2 * suc x) (names_of t (local_pair x)) (param_names (suc x) ts) (omega arith) (pair_rises x t) (pair_reaches x t) (params_rise (suc x) ts)

params_reach : (x : ℕ) (ts : List ValType) → Reaches 0 (2 * (x + length ts)) (param_names x ts)
params_reach x [] = tt
params_reach x (t ∷ ts) =
    let e : suc x + length ts ≡ x + suc (length ts) = omega arith in
    reach_join 0 (2 * (x + suc (length ts))) (names_of t (local_pair x)) (param_names (suc x) ts) (reach_from 0 (2 * suc x) (2 * (x + suc (length ts))) (names_of t (local_pair x)) (omega arith) (pair_reaches x t))
    (subst (λ n. Reaches 0 (2 * n) (param_names (suc x) ts)) e (params_reach (suc x) ts))

if_rises : (b : Bool) (x : ℕ) (t : ValType) → Places 0 (2 * x) (if b then names_of t (local_pair x) else [])
if_rises true x t = pair_rises x t
if_rises false x t = tt

if_reaches : (b : Bool) (x : ℕ) (t : ValType) → Reaches 0 (2 * suc x) (if b then names_of t (local_pair x) else [])
if_reaches true x t = pair_reaches x t
if_reaches false x t = tt

locals_rise : (named : List ℕ) (x : ℕ) (ts : List ValType) → Places 0 (2 * x) (local_names named x ts)
locals_rise named x [] = tt
locals_rise named x (t ∷ ts) =
    let b = list_any (λ y. x == y) named in
    places_join 0 (2 * x) (2 * suc x) (if b then names_of t (local_pair x) else []) (local_names named (suc x) ts) (omega arith) (if_rises b x t) (if_reaches b x t) (locals_rise named (suc x) ts)

operand_rises : (d : ℕ) (t : ValType) → Places 1 (2 * d) (names_of t (operand_pair d))
operand_rises d I32 = (refl, omega arith, tt)
operand_rises d I64 = (refl, omega arith, (refl, omega arith, tt))

operand_reaches : (d : ℕ) (t : ValType) → Reaches 1 (2 * suc d) (names_of t (operand_pair d))
operand_reaches d I32 = (omega arith, tt)
operand_reaches d I64 = (omega arith, (omega arith, tt))

operands_rise : (wide d n : ℕ) → Places 1 (2 * d) (flat_map (operand_names wide) (range_with_len d n))
operands_rise wide d zero = tt
operands_rise wide d (suc n) =
    let e : suc d ≡ d + 1 = omega arith in
    places_join 1 (2 * d) (2 * suc d) (operand_names wide d) (flat_map (operand_names wide) (range_with_len (d + 1) n)) (omega arith)
    (operand_rises d (if nat_lt d wide then I64 else I32)) (operand_reaches d (if nat_lt d wide then I64 else I32))
    (subst (λ k. Places 1 (2 * k) (flat_map (operand_names wide) (range_with_len (d + 1) n))) (sym e) (operands_rise wide (d + 1) n))

own_rises : (params more : List ValType) (r : Room) → Rises (param_names 0 params ++ declared_names r (length params) more)
own_rises params more r =
    let operands = flat_map (operand_names r.wide_height) (range_with_len 0 r.height) in
    let locals = local_names r.locals (length params) more in
    let e : 0 + length params ≡ length params = omega arith in
    subst Rises (append_assoc (param_names 0 params) locals operands)
    (first_group 0 0 (param_names 0 params ++ locals) operands
    (places_join 0 0 (2 * length params) (param_names 0 params) locals (omega arith) (params_rise 0 params) (subst (λ n. Reaches 0 (2 * n) (param_names 0 params)) e (params_reach 0 params)) (locals_rise r.locals (length params) more))
    (last_group 0 1 0 operands (omega arith) (operands_rise r.wide_height 0 r.height)))

wrapper_rises : (params : List ValType) (r : Option ValType) → Rises (param_names 0 params ++ wrapper_locals r)
wrapper_rises params r = first_group 0 0 (param_names 0 params) (wrapper_locals r) (params_rise 0 params) (last_group 0 1 0 (wrapper_locals r) (omega arith) (by r))
  where
    by : (r : Option ValType) → Places 1 0 (wrapper_locals r)
    by None = tt
    by (Some I32) = tt
    by (Some I64) = (refl, omega arith, tt)

callee_once : (w : WasmModule) (k : ℕ) (c : Option Callee) → AllByRecursion DeclaresOnce (function_for w k c)
callee_once w k None = tt
callee_once w k (Some (an_import name t)) = (once _ (param_names 0 t.params) (wrapper_locals (result_of t)) refl refl (wrapper_rises t.params (result_of t)), tt)
callee_once w k (Some (a_function t more code)) =
    let r = body_room (context_of w t more) code in
    (once _ (param_names 0 t.params) (declared_names r (length t.params) more) refl refl (own_rises t.params more r), tt)

callees_once : (w : WasmModule) (k : ℕ) (cs : List (Option Callee)) → AllByRecursion DeclaresOnce (functions_from w k cs)
callees_once w k [] = tt
callees_once w k (c ∷ cs) = all_join DeclaresOnce (function_for w k c) (functions_from w (suc k) cs) (callee_once w k c) (callees_once w (suc k) cs)

-- ---- stubs

arguments_rise : (a n : ℕ) → Places 0 (2 * a) (map argument (range_with_len a n))
arguments_rise a zero = tt
arguments_rise a (suc n) =
    let rest = map argument (range_with_len (a + 1) n) in
    (refl, omega arith, places_from 0 (2 * (a + 1)) (suc (2 * a)) rest (omega arith) (arguments_rise (a + 1) n))

stub_rises : (n : ℕ) → Rises (map argument (range_with_len 0 n) ++ [])
stub_rises n = first_group 0 0 (map argument (range_with_len 0 n)) [] (arguments_rise 0 n) tt

stub_once : (w : WasmModule) (ts : List MaskedTable) (n : ℕ) → AllByRecursion DeclaresOnce (stubs_for w ts n)
stub_once w ts n = all_join DeclaresOnce _ _ (only (is_needed w ts is_empty n) _ (once _ (map argument (range_with_len 0 (n / 2))) [] refl refl (stub_rises (n / 2)))) (only (is_needed w ts is_other n) _ (once _ (map argument (range_with_len 0 (n / 2))) [] refl refl (stub_rises (n / 2))))
  where
    only : (b : Bool) (f : Function) → DeclaresOnce f → AllByRecursion DeclaresOnce (if b then f ∷ [] else [])
    only true f h = (h, tt)
    only false f h = tt

pub all_once : (w : WasmModule) → AllByRecursion DeclaresOnce (functions_of w)
all_once w =
    all_join DeclaresOnce ((helpers w ++ functions_from w 0 (callees w)) ++ stubs w) (init_function w ∷ high_function ∷ [])
    (all_join DeclaresOnce (helpers w ++ functions_from w 0 (callees w)) (stubs w)
    (all_join DeclaresOnce (helpers w) (functions_from w 0 (callees w)) (helpers_once w) (callees_once w 0 (callees w)))
    (all_flat DeclaresOnce (stubs_for w (masked w)) stub_numbers (stub_once w (masked w))))
    (once _ [] [] refl refl tt, (once _ [] [] refl refl tt, tt))

pub functions_have_no_rows : FunctionsHaveNoRows
functions_have_no_rows w typed =
    functions_fine (translated w) (params_of ++ global_texts (translated w)) (functions_of w) _ (functions_new w) (functions_allowed w) (all_once w) (functions_use_names (translated w) typed)
