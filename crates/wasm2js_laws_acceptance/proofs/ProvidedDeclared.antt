-- The names that a translated module declares, in order: their ranks rise.
use Rattle.std.proofs.Common.{◌≡◌, ℕ, zero, suc, ◌+◌, ◌*◌, length, rules, Bool, true, false, List, [], ◌∷◌, ◌++◌, map, Option, Some, None, refl, sym, ap, ◌∙◌, subst, arith}
use Rattle.std.specs.Prelude.{if◌then◌else◌}
use Rattle.std.specs.List.{flat_map, range_with_len}
use Rattle.std.proofs.lemmas.List.{append_assoc, map-append}
use Rattle.wasm_lang.specs.Instructions.{Instruction, plain, const32, const64, global_get}
use Rattle.wasm_lang.specs.Modules.{FunctionType, GlobalEntry, WasmModule}
use Rattle.wasm_lang_valid.specs.ModuleRules.{has_memory}
use Rattle.wasm_lang_valid.specs.Profile.{memory_bytes}
use Rattle.wasm_lang_exec.specs.Reductions.{Callee, an_import, a_function, callees}
use Rattle.wasm_lang_exec.specs.Fits.{GlobalImport, global_imports}
use Rattle.asm_lang.specs.Modules.{Variable, Function, Table}
use Rattle.asm_lang_valid.specs.NameRows.{global_texts, function_texts}
use Rattle.wasm2js_lang.specs.Parts.Functions.{is_asked}
use Rattle.wasm2js_translation.specs.Names as names
use Rattle.wasm2js_translation.specs.Names.{Name, numbered, fixed, spelled, rank, Rises}
use Rattle.wasm2js_lang.specs.Tables.{MaskedTable, masked_from, masked, cells_of}
use Rattle.wasm2js_translation.specs.Helpers.{wide_helpers, division_helpers, memory_helpers, kept}
use Rattle.wasm2js_translation.specs.Modules.{function_for, functions_from, init_function, high_function, all_helpers, helpers, view_variables, fixed_variables, foreign_variables, given_variable, imported_variables, first_values, own_variables, global_variables, translated}
use Rattle.wasm2js_translation.specs.Tables.{is_empty, is_other, is_needed, stub_numbers, stubs_for, stubs, table_for}
use Rattle.wasm2js_laws_acceptance.proofs.ProvidedOrder.{Places, places_from, Reaches, places_join, group_before, first_group, last_group}
use Rattle.wasm2js_laws_acceptance.proofs.ProvidedEntries.{Entry, entries, variable_entry, function_entry, table_entry}

abbrev pub variable_texts : List Variable → List (List ℕ)
variable_texts vs = map (λ (v : Variable). v.name) vs

abbrev pub texts_of : List Function → List (List ℕ)
texts_of fs = map (λ (f : Function). f.name) fs

abbrev pub table_texts : List Table → List (List ℕ)
table_texts ts = map (λ (t : Table). t.name) ts

abbrev pub spellings : List Name → List (List ℕ)
spellings ns = map spelled ns

-- ---- names, group by group

abbrev pub view_names : Bool → List Name
view_names true = fixed names.view_of_bytes ∷ fixed names.view_of_signed_bytes ∷ fixed names.view_of_words ∷ []
view_names false = []

abbrev pub head_names : Bool → List Name
head_names b = view_names b ++ fixed names.imul ∷ fixed names.clz32 ∷ fixed names.trap ∷ fixed names.high ∷ fixed names.spare_high ∷ fixed names.result_high ∷ []

abbrev pub foreign_names : (k : ℕ) → List (Option Callee) → List Name
foreign_names k (Some (an_import name t) ∷ cs) = numbered names.foreign k ∷ foreign_names (suc k) cs
foreign_names k cs = []

abbrev pub imported_names : (k : ℕ) → List GlobalImport → List Name
imported_names k [] = []
imported_names k (g ∷ gs) = numbered names.global_low k ∷ imported_names (suc k) gs

abbrev pub first_names : (k : ℕ) → List Instruction → List Name
first_names k (plain (const32 n) ∷ is) = numbered names.global_low k ∷ []
first_names k (plain (const64 n) ∷ is) = numbered names.global_low k ∷ numbered names.global_high k ∷ []
first_names k (plain (global_get x) ∷ is) = numbered names.global_low k ∷ []
first_names k is = []

abbrev pub own_names : (k : ℕ) → List GlobalEntry → List Name
own_names k [] = []
own_names k (g ∷ gs) = first_names k g.init ++ own_names (suc k) gs

abbrev pub numbered_names : WasmModule → List Name
numbered_names w = let given = global_imports w.imports in imported_names 0 given ++ own_names (length given) w.globals

abbrev pub memory_names : (memory : Bool) → List Name
memory_names true = fixed names.load_32 ∷ fixed names.load_64 ∷ fixed names.store_32 ∷ fixed names.store_64 ∷ fixed names.copy ∷ fixed names.fill ∷ fixed names.data_words ∷ fixed names.data_zeros ∷ []
memory_names false = []

-- what is offered of helpers
abbrev pub offered_names : (memory : Bool) → List Name
offered_names b =
    fixed names.shift_left ∷ fixed names.shift_right_signed ∷ fixed names.shift_right ∷ fixed names.rotate_left ∷ fixed names.leading_zeros ∷ fixed names.trailing_zeros ∷ fixed names.set_bits
    ∷ fixed names.divide_signed ∷ fixed names.divide ∷ fixed names.remainder_signed ∷ fixed names.remainder ∷ memory_names b

abbrev pub only : Bool → Name → List Name
only b n = if b then n ∷ [] else []

abbrev pub kept_names : (asked : List ℕ → Bool) → List Name → List Name
kept_names asked [] = []
kept_names asked (n ∷ ns) = only (asked (spelled n)) n ++ kept_names asked ns

abbrev pub helper_names : WasmModule → List Name
helper_names w = kept_names (is_asked w) (offered_names (has_memory w))

abbrev pub callee_names : (k : ℕ) → Option Callee → List Name
callee_names k None = []
callee_names k (Some c) = numbered names.function k ∷ []

abbrev pub callees_names : (k : ℕ) → List (Option Callee) → List Name
callees_names k [] = []
callees_names k (c ∷ cs) = callee_names k c ++ callees_names (suc k) cs

abbrev pub stub_names : WasmModule → List MaskedTable → (stub : ℕ) → List Name
stub_names w ts n = only (is_needed w ts is_empty n) (numbered names.no_entry n) ++ only (is_needed w ts is_other n) (numbered names.other_entry n)

abbrev pub last_names : List Name
last_names = fixed names.init ∷ fixed names.last_high ∷ []

abbrev pub table_names : List MaskedTable → List Name
table_names ts = map (λ (t : MaskedTable). numbered names.table t.function_type) ts

-- ---- all of them

abbrev pub global_names : WasmModule → List Name
global_names w = head_names (has_memory w) ++ (foreign_names 0 (callees w) ++ numbered_names w)

abbrev pub function_names : WasmModule → List Name
function_names w = helper_names w ++ (callees_names 0 (callees w) ++ (flat_map (stub_names w (masked w)) stub_numbers ++ last_names))

abbrev pub declared_names : WasmModule → List Name
declared_names w = global_names w ++ (function_names w ++ table_names (masked w))

-- ---- they are what is declared

join : (xs ys : List Name) (a b : List (List ℕ)) → a ≡ spellings xs → b ≡ spellings ys → a ++ b ≡ spellings (xs ++ ys)
join xs ys a b h k = ap (λ a. a ++ b) h ∙ ap (λ b. spellings xs ++ b) k ∙ sym (map-append spelled xs ys)

join_variables : (vs ws : List Variable) (xs ys : List Name) → variable_texts vs ≡ spellings xs → variable_texts ws ≡ spellings ys → variable_texts (vs ++ ws) ≡ spellings (xs ++ ys)
join_variables vs ws xs ys h k = map-append (λ (v : Variable). v.name) vs ws ∙ join xs ys (variable_texts vs) (variable_texts ws) h k

join_functions : (fs gs : List Function) (xs ys : List Name) → texts_of fs ≡ spellings xs → texts_of gs ≡ spellings ys → texts_of (fs ++ gs) ≡ spellings (xs ++ ys)
join_functions fs gs xs ys h k = map-append (λ (f : Function). f.name) fs gs ∙ join xs ys (texts_of fs) (texts_of gs) h k

head_texts : (b : Bool) → variable_texts ((if b then view_variables else []) ++ fixed_variables) ≡ spellings (head_names b)
head_texts true = refl
head_texts false = refl

foreign_texts : (k : ℕ) (cs : List (Option Callee)) → variable_texts (foreign_variables k cs) ≡ spellings (foreign_names k cs)
foreign_texts k [] = refl
foreign_texts k (None ∷ cs) = refl
foreign_texts k (Some (an_import name t) ∷ cs) = ap (λ ts. spelled (numbered names.foreign k) ∷ ts) (foreign_texts (suc k) cs)
foreign_texts k (Some (a_function t more code) ∷ cs) = refl

given_text : (n : Name) (o : Option GlobalImport) → (given_variable n o).name ≡ spelled n
given_text n None = refl
given_text n (Some g) = refl

imported_texts : (k : ℕ) (gs : List GlobalImport) → variable_texts (imported_variables k gs) ≡ spellings (imported_names k gs)
imported_texts k [] = refl
imported_texts k (g ∷ gs) = ap (λ ts. spelled (numbered names.global_low k) ∷ ts) (imported_texts (suc k) gs)

first_texts : (given : List GlobalImport) (k : ℕ) (is : List Instruction) → variable_texts (first_values given k is) ≡ spellings (first_names k is)
first_texts given k (plain (const32 n) ∷ is) = refl
first_texts given k (plain (const64 n) ∷ is) = refl
first_texts given k (plain (global_get x) ∷ is) = ap (λ t. t ∷ []) (given_text (numbered names.global_low k) _)
first_texts given k is = refl

own_texts : (given : List GlobalImport) (k : ℕ) (gs : List GlobalEntry) → variable_texts (own_variables given k gs) ≡ spellings (own_names k gs)
own_texts given k [] = refl
own_texts given k (g ∷ gs) = join_variables (first_values given k g.init) (own_variables given (suc k) gs) (first_names k g.init) (own_names (suc k) gs) (first_texts given k g.init) (own_texts given (suc k) gs)

numbered_texts : (w : WasmModule) → variable_texts (global_variables w) ≡ spellings (numbered_names w)
numbered_texts w =
    let given = global_imports w.imports in
    join_variables (imported_variables 0 given) (own_variables given (length given) w.globals) (imported_names 0 given) (own_names (length given) w.globals)
    (imported_texts 0 given) (own_texts given (length given) w.globals)

pub globals_are_named : (w : WasmModule) → global_texts (translated w) ≡ spellings (global_names w)
globals_are_named w =
    join_variables (((if has_memory w then view_variables else []) ++ fixed_variables) ++ foreign_variables 0 (callees w)) (global_variables w)
    (head_names (has_memory w) ++ foreign_names 0 (callees w)) (numbered_names w)
    (join_variables ((if has_memory w then view_variables else []) ++ fixed_variables) (foreign_variables 0 (callees w)) (head_names (has_memory w)) (foreign_names 0 (callees w)) (head_texts (has_memory w)) (foreign_texts 0 (callees w)))
    (numbered_texts w)
    ∙ ap spellings (append_assoc (head_names (has_memory w)) (foreign_names 0 (callees w)) (numbered_names w))

one_text : (b : Bool) (f : Function) (n : Name) → f.name ≡ spelled n → texts_of (if b then f ∷ [] else []) ≡ spellings (only b n)
one_text true f n e = ap (λ t. t ∷ []) e
one_text false f n e = refl

kept_texts : (asked : List ℕ → Bool) (fs : List Function) (ns : List Name) → texts_of fs ≡ spellings ns → texts_of (kept asked fs) ≡ spellings (kept_names asked ns)
kept_texts asked [] [] e = refl
kept_texts asked [] (n ∷ ns) e = cc e
kept_texts asked (f ∷ fs) [] e = cc e
kept_texts asked (f ∷ fs) (n ∷ ns) e =
    let text : f.name ≡ spelled n = cc e in
    let rest : texts_of fs ≡ spellings ns = cc e in
    join_functions (if asked f.name then f ∷ [] else []) (kept asked fs) (only (asked (spelled n)) n) (kept_names asked ns)
    (one_text (asked f.name) f n text ∙ ap (λ s. spellings (only (asked s) n)) text) (kept_texts asked fs ns rest)

offered_texts : (bytes : ℕ) (b : Bool) → texts_of (wide_helpers ++ division_helpers ++ (if b then memory_helpers bytes else [])) ≡ spellings (offered_names b)
offered_texts bytes true = refl
offered_texts bytes false = refl

helper_texts : (w : WasmModule) → texts_of (helpers w) ≡ spellings (helper_names w)
helper_texts w = kept_texts (is_asked w) (all_helpers w) (offered_names (has_memory w)) (offered_texts (memory_bytes w) (has_memory w))

callee_texts : (w : WasmModule) (k : ℕ) (c : Option Callee) → texts_of (function_for w k c) ≡ spellings (callee_names k c)
callee_texts w k None = refl
callee_texts w k (Some (an_import name t)) = refl
callee_texts w k (Some (a_function t more code)) = refl

callees_texts : (w : WasmModule) (k : ℕ) (cs : List (Option Callee)) → texts_of (functions_from w k cs) ≡ spellings (callees_names k cs)
callees_texts w k [] = refl
callees_texts w k (c ∷ cs) = join_functions (function_for w k c) (functions_from w (suc k) cs) (callee_names k c) (callees_names (suc k) cs) (callee_texts w k c) (callees_texts w (suc k) cs)

stub_texts : (w : WasmModule) (ts : List MaskedTable) (n : ℕ) → texts_of (stubs_for w ts n) ≡ spellings (stub_names w ts n)
stub_texts w ts n =
    join_functions _ _ (only (is_needed w ts is_empty n) (numbered names.no_entry n)) (only (is_needed w ts is_other n) (numbered names.other_entry n))
    (one_text (is_needed w ts is_empty n) _ (numbered names.no_entry n) refl) (one_text (is_needed w ts is_other n) _ (numbered names.other_entry n) refl)

stubs_texts : (w : WasmModule) (ts : List MaskedTable) (ns : List ℕ) → texts_of (flat_map (stubs_for w ts) ns) ≡ spellings (flat_map (stub_names w ts) ns)
stubs_texts w ts [] = refl
stubs_texts w ts (n ∷ ns) = join_functions (stubs_for w ts n) (flat_map (stubs_for w ts) ns) (stub_names w ts n) (flat_map (stub_names w ts) ns) (stub_texts w ts n) (stubs_texts w ts ns)

pub functions_are_named : (w : WasmModule) → function_texts (translated w) ≡ spellings (function_names w)
functions_are_named w =
    let a = helper_names w in
    let b = callees_names 0 (callees w) in
    let c = flat_map (stub_names w (masked w)) stub_numbers in
    join_functions ((helpers w ++ functions_from w 0 (callees w)) ++ stubs w) (init_function w ∷ high_function ∷ []) ((a ++ b) ++ c) last_names
    (join_functions (helpers w ++ functions_from w 0 (callees w)) (stubs w) (a ++ b) c
    (join_functions (helpers w) (functions_from w 0 (callees w)) a b (helper_texts w) (callees_texts w 0 (callees w)))
    (stubs_texts w (masked w) stub_numbers))
    refl
    ∙ ap spellings (append_assoc (a ++ b) c last_names ∙ append_assoc a b (c ++ last_names))

tables_texts : (w : WasmModule) (ts : List MaskedTable) → table_texts (map (table_for w) ts) ≡ spellings (table_names ts)
tables_texts w [] = refl
tables_texts w (t ∷ ts) = ap (λ xs. spelled (numbered names.table t.function_type) ∷ xs) (tables_texts w ts)

pub tables_are_named : (w : WasmModule) → table_texts (translated w).tables ≡ spellings (table_names (masked w))
tables_are_named w = tables_texts w (masked w)

-- ---- entries

mapped_twice : {A : Type 0} → (f : A → Entry) (g : A → List ℕ) → ((x : A) → (f x).name ≡ g x) → (xs : List A) → map (λ (e : Entry). e.name) (map f xs) ≡ map g xs
mapped_twice f g h [] = refl
mapped_twice f g h (x ∷ xs) = let e = h x in let k = mapped_twice f g h xs in cc (e, k)

pub entries_are_named : (w : WasmModule) → map (λ (e : Entry). e.name) (entries (translated w)) ≡ spellings (declared_names w)
entries_are_named w =
    let m = translated w in
    map-append (λ (e : Entry). e.name) (map (variable_entry m) m.globals) (map function_entry m.functions ++ map table_entry m.tables)
    ∙ join (global_names w) (function_names w ++ table_names (masked w)) (map (λ (e : Entry). e.name) (map (variable_entry m) m.globals)) (map (λ (e : Entry). e.name) (map function_entry m.functions ++ map table_entry m.tables))
    (mapped_twice (variable_entry m) (λ v. v.name) (λ v. refl) m.globals ∙ globals_are_named w)
    (map-append (λ (e : Entry). e.name) (map function_entry m.functions) (map table_entry m.tables)
    ∙ join (function_names w) (table_names (masked w)) (map (λ (e : Entry). e.name) (map function_entry m.functions)) (map (λ (e : Entry). e.name) (map table_entry m.tables))
    (mapped_twice function_entry (λ f. f.name) (λ f. refl) m.functions ∙ functions_are_named w)
    (mapped_twice table_entry (λ t. t.name) (λ t. refl) m.tables ∙ tables_are_named w))

-- ---- their ranks rise

head_rises : (b : Bool) → Places 0 0 (head_names b)
head_rises true = search rules depth 30
head_rises false = search rules depth 30

foreign_rises : (k : ℕ) (cs : List (Option Callee)) → Places 1 k (foreign_names k cs)
foreign_rises k [] = tt
foreign_rises k (None ∷ cs) = tt
foreign_rises k (Some (an_import name t) ∷ cs) = (refl, omega arith, foreign_rises (suc k) cs)
foreign_rises k (Some (a_function t more code) ∷ cs) = tt

imported_rises : (k : ℕ) (gs : List GlobalImport) → Places 2 (2 * k) (imported_names k gs)
imported_rises k [] = tt
imported_rises k (g ∷ gs) = (refl, omega arith, places_from 2 (2 * suc k) (suc (2 * k)) (imported_names (suc k) gs) (omega arith) (imported_rises (suc k) gs))

imported_reach : (k : ℕ) (gs : List GlobalImport) → Reaches 2 (2 * (k + length gs)) (imported_names k gs)
imported_reach k [] = tt
imported_reach k (g ∷ gs) =
    let e : suc k + length gs ≡ k + suc (length gs) = omega arith in
    (omega arith, subst (λ n. Reaches 2 (2 * n) (imported_names (suc k) gs)) e (imported_reach (suc k) gs))

first_rises : (k : ℕ) (is : List Instruction) → Places 2 (2 * k) (first_names k is)
first_rises k (plain (const32 n) ∷ is) = (refl, omega arith, tt)
first_rises k (plain (const64 n) ∷ is) = (refl, omega arith, (refl, omega arith, tt))
first_rises k (plain (global_get x) ∷ is) = (refl, omega arith, tt)
first_rises k is = tt

first_reach : (k : ℕ) (is : List Instruction) → Reaches 2 (2 * suc k) (first_names k is)
first_reach k (plain (const32 n) ∷ is) = (omega arith, tt)
first_reach k (plain (const64 n) ∷ is) = (omega arith, (omega arith, tt))
first_reach k (plain (global_get x) ∷ is) = (omega arith, tt)
first_reach k is = tt

own_rises : (k : ℕ) (gs : List GlobalEntry) → Places 2 (2 * k) (own_names k gs)
own_rises k [] = tt
own_rises k (g ∷ gs) = places_join 2 (2 * k) (2 * suc k) (first_names k g.init) (own_names (suc k) gs) (omega arith) (first_rises k g.init) (first_reach k g.init) (own_rises (suc k) gs)

numbered_rises : (w : WasmModule) → Places 2 0 (numbered_names w)
numbered_rises w =
    let given = global_imports w.imports in
    places_join 2 0 (2 * length given) (imported_names 0 given) (own_names (length given) w.globals) (omega arith) (imported_rises 0 given)
    (let e : 0 + length given ≡ length given = omega arith in subst (λ n. Reaches 2 (2 * n) (imported_names 0 given)) e (imported_reach 0 given)) (own_rises (length given) w.globals)

offered_rise : (b : Bool) → Places 3 0 (offered_names b)
offered_rise true = search rules depth 60
offered_rise false = search rules depth 60

kept_rise : (asked : List ℕ → Bool) (g p : ℕ) (ns : List Name) → Places g p ns → Places g p (kept_names asked ns)
kept_rise asked g p [] h = tt
kept_rise asked g p (n ∷ ns) h = by (asked (spelled n)) (kept_rise asked g (suc (rank n).place) ns h.2)
  where
    by : (b : Bool) → Places g (suc (rank n).place) (kept_names asked ns) → Places g p (only b n ++ kept_names asked ns)
    by true rest = (h.0, h.1, rest)
    by false rest = places_from g (suc (rank n).place) p (kept_names asked ns) (let le = h.1 in omega (arith, le)) rest

helpers_rise : (w : WasmModule) → Places 3 0 (helper_names w)
helpers_rise w = kept_rise (is_asked w) 3 0 (offered_names (has_memory w)) (offered_rise (has_memory w))

callees_rise : (k : ℕ) (cs : List (Option Callee)) → Places 4 k (callees_names k cs)
callees_rise k [] = tt
callees_rise k (None ∷ cs) = places_from 4 (suc k) k (callees_names (suc k) cs) (omega arith) (callees_rise (suc k) cs)
callees_rise k (Some c ∷ cs) = (refl, omega arith, callees_rise (suc k) cs)

two_rise : (a b : Bool) (n : ℕ) → Places 5 (2 * n) (only a (numbered names.no_entry n) ++ only b (numbered names.other_entry n))
two_rise true true n = (refl, omega arith, (refl, omega arith, tt))
two_rise true false n = (refl, omega arith, tt)
two_rise false true n = (refl, omega arith, tt)
two_rise false false n = tt

two_reach : (a b : Bool) (n : ℕ) → Reaches 5 (2 * suc n) (only a (numbered names.no_entry n) ++ only b (numbered names.other_entry n))
two_reach true true n = (omega arith, (omega arith, tt))
two_reach true false n = (omega arith, tt)
two_reach false true n = (omega arith, tt)
two_reach false false n = tt

stubs_rise : (w : WasmModule) (ts : List MaskedTable) (n count : ℕ) → Places 5 (2 * n) (flat_map (stub_names w ts) (range_with_len n count))
stubs_rise w ts n zero = tt
stubs_rise w ts n (suc count) =
    let e : suc n ≡ n + 1 = omega arith in
    places_join 5 (2 * n) (2 * suc n) (stub_names w ts n) (flat_map (stub_names w ts) (range_with_len (n + 1) count)) (omega arith)
    (two_rise (is_needed w ts is_empty n) (is_needed w ts is_other n) n) (two_reach (is_needed w ts is_empty n) (is_needed w ts is_other n) n)
    (subst (λ k. Places 5 (2 * k) (flat_map (stub_names w ts) (range_with_len (n + 1) count))) (sym e) (stubs_rise w ts (n + 1) count))

tables_rise : (w : WasmModule) (n : ℕ) (before types : List FunctionType) → Places 7 n (table_names (masked_from w n before types))
tables_rise w n before [] = tt
tables_rise w n before (t ∷ ts) = by _ (tables_rise w (suc n) (before ++ t ∷ []) ts)
  where
    by : (b : Bool) → Places 7 (suc n) (table_names (masked_from w (suc n) (before ++ t ∷ []) ts))
        → Places 7 n (table_names (if b then record { function_type = n; cells = cells_of w t } ∷ masked_from w (suc n) (before ++ t ∷ []) ts else masked_from w (suc n) (before ++ t ∷ []) ts))
    by true h = (refl, omega arith, h)
    by false h = places_from 7 (suc n) n (table_names (masked_from w (suc n) (before ++ t ∷ []) ts)) (omega arith) h

last_rise : Places 6 0 last_names
last_rise = (refl, omega arith, (refl, omega arith, tt))

abbrev later_of : WasmModule → List Name
later_of w = flat_map (stub_names w (masked w)) stub_numbers ++ (last_names ++ table_names (masked w))

abbrev regrouped : WasmModule → List Name
regrouped w = head_names (has_memory w) ++ (foreign_names 0 (callees w) ++ (numbered_names w ++ (helper_names w ++ (callees_names 0 (callees w) ++ later_of w))))

regrouped_rise : (w : WasmModule) → Rises (regrouped w)
regrouped_rise w =
    let tables = last_group 6 7 0 (table_names (masked w)) (omega arith) (tables_rise w 0 [] w.types) in
    let last = group_before 5 6 last_names (table_names (masked w)) 0 (omega arith) last_rise tables in
    let further = group_before 4 5 (flat_map (stub_names w (masked w)) stub_numbers) (last_names ++ table_names (masked w)) 0 (omega arith) (stubs_rise w (masked w) 0 4002) last in
    let functions = group_before 3 4 (callees_names 0 (callees w)) (later_of w) 0 (omega arith) (callees_rise 0 (callees w)) further in
    let helped = group_before 2 3 (helper_names w) (callees_names 0 (callees w) ++ later_of w) 0 (omega arith) (helpers_rise w) functions in
    let globals = group_before 1 2 (numbered_names w) (helper_names w ++ (callees_names 0 (callees w) ++ later_of w)) 0 (omega arith) (numbered_rises w) helped in
    let imported = group_before 0 1 (foreign_names 0 (callees w)) (numbered_names w ++ (helper_names w ++ (callees_names 0 (callees w) ++ later_of w))) 0 (omega arith) (foreign_rises 0 (callees w)) globals in
    first_group 0 0 (head_names (has_memory w)) (foreign_names 0 (callees w) ++ (numbered_names w ++ (helper_names w ++ (callees_names 0 (callees w) ++ later_of w)))) (head_rises (has_memory w)) imported

regroup : (a b c d e f g h : List Name) → a ++ (b ++ (c ++ (d ++ (e ++ (f ++ (g ++ h)))))) ≡ (a ++ (b ++ c)) ++ ((d ++ (e ++ (f ++ g))) ++ h)
regroup a b c d e f g h =
    let fs : (d ++ (e ++ (f ++ g))) ++ h ≡ d ++ (e ++ (f ++ (g ++ h))) =
    append_assoc d (e ++ (f ++ g)) h ∙ ap (λ x. d ++ x) (append_assoc e (f ++ g) h ∙ ap (λ x. e ++ x) (append_assoc f g h)) in
    sym (append_assoc a (b ++ c) ((d ++ (e ++ (f ++ g))) ++ h) ∙ ap (λ x. a ++ x) (append_assoc b c ((d ++ (e ++ (f ++ g))) ++ h) ∙ ap (λ x. b ++ (c ++ x)) fs))

pub declared_names_rise : (w : WasmModule) → Rises (declared_names w)
declared_names_rise w =
    subst Rises
    (regroup (head_names (has_memory w)) (foreign_names 0 (callees w)) (numbered_names w) (helper_names w) (callees_names 0 (callees w)) (flat_map (stub_names w (masked w)) stub_numbers) last_names (table_names (masked w)))
    (regrouped_rise w)
