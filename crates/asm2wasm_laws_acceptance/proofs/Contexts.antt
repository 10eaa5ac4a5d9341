-- What the translation names stands in the context of each body.
use Rattle.std.proofs.Common.{◌≡◌, ℕ, zero, suc, ◌+◌, ◌-◌, ◌<◌, ◌≤◌, max, Bool, true, false, List, [], ◌∷◌, ◌++◌, length, map, replicate, Option, Some, None, refl, sym, ap, ◌∙◌, subst, arith}
use Rattle.std.specs.Prelude.{slice_get, option_map, if◌then◌else◌, ◌||◌, not, codes}
use Rattle.std.proofs.lemmas.Bool.{and_parts}
use Rattle.std.proofs.lemmas.List.{length-map, length-replicate, get_or-replicate, replicate-append-replicate}
use Rattle.std.proofs.lemmas.Option.{slice_get-map, slice_get-get_or}
use Rattle.wasm_lang.specs.declared.types.ValType.TheVariants.{I32}
use Rattle.wasm_lang.specs.declared.types.ImportKind.TheVariants as imports
use Rattle.wasm_lang.specs.Modules.{FunctionType, Imported, GlobalEntry, WasmModule}
use Rattle.wasm_lang_valid.specs.Typing as machine
use Rattle.wasm_lang_valid.specs.Typing.{Context, IsValid}
use Rattle.wasm_lang_valid.specs.ModuleRules.{imported_globals, imports_memory, imports_table, global_types, has_table, has_memory, is_empty}
use Rattle.wasm_lang_valid.specs.Validity.{own_type, body_context, IsValidBody}
use Rattle.wasm_laws_trees.specs.Spelled.{reach}
use Rattle.asm_lang.specs.Modules.{Variable, Function, Table, Module}
use Rattle.asm_lang_valid.specs.Scope.{Meaning, a_function, a_table, Signature, signature_of, function_signature, first_member, module_meaning}
use Rattle.asm_lang_valid.specs.Typing.{at_top, all_typed}
use Rattle.asm_lang_valid.specs.Typed.{scope_of, locals_typed}
use Rattle.asm_lang_valid.specs.LimitRows.{ForeignCall, stmts_marks, foreign_calls}
use Rattle.asm_lang_valid.specs.Refusal.{foreign_globals, has_heap, IsAccepted, function_number}
use Rattle.asm_laws_sound.proofs.Members.{accepted_is_typed, function_at}
use Rattle.asm2wasm_lang.specs.Heaps.{pages_for}
use Rattle.asm2wasm_lang.specs.Calling.{exactly, constant_int}
use Rattle.asm2wasm_translation.specs.Numbers.{first_scratch, int_variables, global_names, own_number, import_number, asked_signature, type_number, member_type}
use Rattle.asm2wasm_translation.specs.Modules.{type_for, from_env, imported_function, imported_global, table_for, global_for, body_for, translation}
use Rattle.asm2wasm_translation.specs.Bodies.{function_code}
use Rattle.asm2wasm_laws_typed.specs.Contexts.{variable_int, AreListed}
use Rattle.asm2wasm_laws_typed.proofs.TypedBodies.{functions_are_valid}
use Rattle.asm2wasm_laws_typed.proofs.Said.{uses_are_listed}
use Rattle.asm2wasm_laws_within.proofs.Names.{views_mean_a_heap}
use Rattle.asm2wasm_laws_acceptance.specs.Laws.{room_of, ContextsAreKnown, BodiesAreValid}
use Rattle.asm2wasm_laws_acceptance.proofs.Lists.{get_second, all_at}
use Rattle.asm2wasm_laws_acceptance.proofs.Types.{Known, function_known, type_at}
use Rattle.asm2wasm_laws_acceptance.proofs.Imports.{own_number_at, import_number_at, call_known}
use Rattle.asm2wasm_laws_acceptance.proofs.Names.{of_module, function_stands, table_stands}

-- ---- locals

copies_at : {A : Type 0} → (n i : ℕ) (x : A) → i < n → slice_get (replicate n x) i ≡ Some x
copies_at n i x h =
    let many : length (replicate n x) ≡ n = length-replicate n x in
    let within : i < length (replicate n x) = subst (λ k. i < k) (sym many) h in
    slice_get-get_or (replicate n x) i x within ∙ ap Some (get_or-replicate n i x x h)

locals_at : (params room x : ℕ) → x < room → slice_get (replicate params I32 ++ replicate (room - params) I32) x ≡ Some I32
locals_at params room x h =
    let within : x < params + (room - params) = omega (arith, h) in
    ap (λ ls. slice_get ls x) (replicate-append-replicate params (room - params) I32) ∙ copies_at (params + (room - params)) x I32 within

-- ---- globals, the table and the memory

module _ (m : Module) (size : ℕ) where
  abbrev memories : Bool → List Imported
  memories b = if b then from_env (codes "memory") (imports.Memory (exactly (pages_for size))) ∷ [] else []

  no_globals : (b : Bool) → imported_globals (memories b) ≡ []
  no_globals true = refl
  no_globals false = refl

  globals_asked : (gs : List (List ℕ)) → imported_globals (map imported_global gs ++ memories (has_heap m)) ≡ map (λ g. constant_int) gs
  globals_asked [] = no_globals (has_heap m)
  globals_asked (g ∷ gs) = ap (λ ts. constant_int ∷ ts) (globals_asked gs)

  past_calls : (fs : List ForeignCall) (rest : List Imported) → imported_globals (map (imported_function m) fs ++ rest) ≡ imported_globals rest
  past_calls [] rest = refl
  past_calls (f ∷ fs) rest = past_calls fs rest

  pub imported_are : imported_globals (translation m size).imports ≡ map (λ g. constant_int) (foreign_globals m)
  imported_are = past_calls (foreign_calls m) (map imported_global (foreign_globals m) ++ memories (has_heap m)) ∙ globals_asked (foreign_globals m)

  own_at : (vs : List Variable) (j : ℕ) → j < length (map (λ (v : Variable). v.name) vs) → slice_get (map (λ (g : GlobalEntry). g.kind) (map (global_for m) vs)) j ≡ Some variable_int
  own_at [] j h = absurd (omega (arith, h))
  own_at (v ∷ vs) zero h = refl
  own_at (v ∷ vs) (suc j) h = own_at vs j (omega (arith, h))

  global_at : (j : ℕ) → j < length (global_names m) → slice_get (global_types (translation m size)) (length (foreign_globals m) + j) ≡ Some variable_int
  global_at j h =
      let asked = map (λ g. constant_int) (foreign_globals m) in
      let own = map (λ (g : GlobalEntry). g.kind) (map (global_for m) (int_variables m.globals)) in
      let many : length asked ≡ length (foreign_globals m) = length-map (foreign_globals m) (λ g. constant_int) in
      ap (λ gs. slice_get (gs ++ own) (length (foreign_globals m) + j)) imported_are ∙ ap (λ n. slice_get (asked ++ own) (n + j)) (sym many) ∙ get_second asked own j ∙ own_at (int_variables m.globals) j h

  some_table : (ts : List Table) (j : ℕ) (t : Table) → slice_get ts j ≡ Some t → not (is_empty (table_for m ts)) ≡ true
  some_table [] j t h = absurd (cc h)
  some_table (u ∷ ts) j t h = refl

  or_second : (a b : Bool) → b ≡ true → (a || b) ≡ true
  or_second true b h = refl
  or_second false b h = h

  pub table_is : (n : List ℕ) (t : Table) → module_meaning m n ≡ a_table t → has_table (translation m size) ≡ true
  table_is n t e =
      let s = table_stands m n t e in
      or_second (imports_table (translation m size).imports) (not (is_empty (table_for m m.tables))) (some_table m.tables s.place t s.is_table)

  past_calls_memory : (fs : List ForeignCall) (rest : List Imported) → imports_memory (map (imported_function m) fs ++ rest) ≡ imports_memory rest
  past_calls_memory [] rest = refl
  past_calls_memory (f ∷ fs) rest = past_calls_memory fs rest

  past_globals_memory : (gs : List (List ℕ)) (rest : List Imported) → imports_memory (map imported_global gs ++ rest) ≡ imports_memory rest
  past_globals_memory [] rest = refl
  past_globals_memory (g ∷ gs) rest = past_globals_memory gs rest

  memory_by : (b : Bool) → imports_memory (memories b) ≡ b
  memory_by true = refl
  memory_by false = refl

  or_no_more : (a : Bool) → (a || false) ≡ a
  or_no_more true = refl
  or_no_more false = refl

  pub memory_is : has_memory (translation m size) ≡ has_heap m
  memory_is =
      or_no_more (imports_memory (translation m size).imports)
      ∙ past_calls_memory (foreign_calls m) (map imported_global (foreign_globals m) ++ memories (has_heap m))
      ∙ past_globals_memory (foreign_globals m) (memories (has_heap m)) ∙ memory_by (has_heap m)

-- ---- types

first_known : (m : Module) (ns : List (List ℕ)) (s : Signature) → first_member m ns ≡ Some s → Known m s
first_known m [] s e = absurd (cc e)
first_known m (n ∷ ns) s e = by (module_meaning m n) refl e
  where
    by : (x : Meaning) → module_meaning m n ≡ x → function_signature x ≡ Some s → Known m s
    by (a_function g) is e =
        let same : signature_of g ≡ s = cc e in
        subst (Known m) same (function_known m (function_number m.functions n) g (function_stands m n g is))
    by _ is e = absurd (cc e)

named_type : (w : Context) (f t : ℕ) → slice_get w.functions f ≡ Some t → machine.type_of w f ≡ slice_get w.types t
named_type w f t e = rw e refl

own_type_found : (w : WasmModule) (i t : ℕ) (f : FunctionType) → slice_get w.functions i ≡ Some t → slice_get w.types t ≡ Some f → own_type w i ≡ f
own_type_found w i t f e h = rw (e, h) refl

pub own_type_is : (m : Module) (size i : ℕ) (f : Function) → slice_get m.functions i ≡ Some f → own_type (translation m size) i ≡ type_for (signature_of f)
own_type_is m size i f h =
    own_type_found (translation m size) i (type_number m (signature_of f)) (type_for (signature_of f))
    (slice_get-map (λ f. type_number m (signature_of f)) m.functions i ∙ ap (option_map (λ f. type_number m (signature_of f))) h)
    (type_at m (signature_of f) (function_known m i f h))

-- ---- contexts

pub contexts_are_known : ContextsAreKnown
contexts_are_known m size i f h =
    let w = translation m size in
    let c = scope_of m f in
    let here = body_context w i (body_for m size f) in
    let room = room_of m size f in
    record {
      locals = λ x within. ap (λ (t : FunctionType). slice_get (t.params ++ replicate (room - length f.params) I32) x) (own_type_is m size i f h) ∙ locals_at (length f.params) room x within;
      globals = global_at m size;
      functions = λ n g e.
          let stands = function_stands m n g (of_module m f n (a_function g) refl e) in
          named_type here (own_number m n) (type_number m (signature_of g)) (own_number_at m size (function_number m.functions n) g stands)
          ∙ type_at m (signature_of g) (function_known m (function_number m.functions n) g stands);
      imports = λ g e. named_type here (import_number m g) (type_number m (asked_signature g)) (import_number_at m size g e) ∙ type_at m (asked_signature g) (call_known m g e);
      types = λ n t s e first. ap (λ o. slice_get w.types (member_type m o)) first ∙ type_at m s (first_known m t.members s first);
      table = λ n t e. table_is m size n t (of_module m f n (a_table t) refl e);
      memory = λ n v e. memory_is m size ∙ views_mean_a_heap m f n v e;
    }

-- ---- bodies

result_is : (s : Signature) → machine.result_of (type_for s) ≡ (if s.result then Some I32 else None)
result_is s = by s.result
  where
    by : (b : Bool) → machine.result_of (type_for (record s { result = b })) ≡ (if b then Some I32 else None)
    by true = refl
    by false = refl

reached : (a b : ℕ) → b ≤ max a b
reached a b = omega arith

pub body_is_valid : (m : Module) (size i : ℕ) (f : Function) → IsAccepted m → slice_get m.functions i ≡ Some f → IsValid (body_context (translation m size) i (body_for m size f)) (body_for m size f).code
body_is_valid m size i f ok h =
    let c = scope_of m f in
    let here = body_context (translation m size) i (body_for m size f) in
    let listed = all_at (λ (f : Function). (at : ℕ) × AreListed m (stmts_marks (scope_of m f) at f.body)) m.functions i f (uses_are_listed m) h in
    let typed = and_parts (locals_typed f.locals) (all_typed c at_top f.body) (function_at m (accepted_is_typed m ok) i f h) in
    functions_are_valid size c (room_of m size f) here (contexts_are_known m size i f h) (ap machine.result_of (own_type_is m size i f h) ∙ result_is (signature_of f)) listed.0 typed.1 listed.1
    (reached (first_scratch f) (reach (function_code size c)))

pub bodies_are_valid : BodiesAreValid
bodies_are_valid m size ok i within = by (slice_get m.functions i) refl
  where
    by : (o : Option Function) → slice_get m.functions i ≡ o → IsValidBody (translation m size) i (slice_get (map (body_for m size) m.functions) i)
    by (Some f) e =
        subst (IsValidBody (translation m size) i) (sym (slice_get-map (body_for m size) m.functions i ∙ ap (option_map (body_for m size)) e)) (body_is_valid m size i f ok e)
    by None e = subst (IsValidBody (translation m size) i) (sym (slice_get-map (body_for m size) m.functions i ∙ ap (option_map (body_for m size)) e)) tt
