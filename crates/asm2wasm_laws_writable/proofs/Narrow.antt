-- The code of each function is narrow.
use Rattle.std.proofs.Common.{◌≡◌, ℕ, ◌+◌, ◌^◌, ◌≤◌, List, [], ◌∷◌, length, map, Some, ap, ◌∙◌, subst, arith}
use Rattle.std.specs.Prelude.{slice_get}
use Rattle.std.specs.List.{AllByRecursion, zip}
use Rattle.std.proofs.lemmas.List.{length-map, length-append, length-replicate}
use Rattle.std.proofs.lemmas.List.Elements.{recursion_from_All}
use Rattle.wasm_lang.specs.declared.types.ValType.TheVariants.{I32}
use Rattle.wasm_lang.specs.Limits as reader
use Rattle.wasm_lang.specs.Instructions.{Plain, Instruction, local_get, local_set, local_tee, global_get, global_set, load, store, const32, const64}
use Rattle.wasm_lang.specs.Instructions as flat
use Rattle.wasm_lang.specs.Modules.{FunctionType, GlobalEntry, FunctionBody}
use Rattle.wasm_lang_valid.specs.Typing.{listed}
use Rattle.wasm_lang_valid.specs.ModuleRules.{function_types, imported_globals, global_types}
use Rattle.wasm_lang_valid.specs.Validity.{own_type, body_context}
use Rattle.wasm_lang_exec.specs.Code.{unreachable, block, loop, if_block, br, br_if, br_table, return, call, call_indirect, plain, Trees, ε, ◌▹◌}
use Rattle.wasm_laws_sound.specs.Trees.{IsTyped}
use Rattle.wasm_laws_sound.specs.Laws.{in_body}
use Rattle.wasm_laws_sound.proofs.Nesting.{tree_is_typed}
use Rattle.wasm_laws_trees.specs.Spelled.{closed, tree_levels}
use Rattle.wasm_laws_trees.specs.Laws.{IsReadAgain, LevelsAreKept}
use Rattle.wasm_laws_write.specs.Lengths.{PlainIsNarrow, IsNarrow}
use Rattle.wasm_laws_write.specs.Each.{EachIn}
use Rattle.asm_lang.specs.Modules.{Function, Module}
use Rattle.asm_lang_valid.specs.Rows.{function_count, functions_count}
use Rattle.asm_lang_valid.specs.Scope.{signature_of}
use Rattle.asm_lang_valid.specs.Typed.{scope_of}
use Rattle.asm_lang_valid.specs.Refusal.{foreign_globals, IsAccepted}
use Rattle.asm2wasm_lang.specs.Counts.{body_clauses, functions_clauses}
use Rattle.asm2wasm_lang.specs.Calling.{constant_int}
use Rattle.asm2wasm_translation.specs.Numbers.{type_number, signatures}
use Rattle.asm2wasm_translation.specs.Modules.{type_for, body_for, translation}
use Rattle.asm2wasm_translation.specs.Bodies.{function_code}
use Rattle.asm2wasm_laws_within.specs.Within.{FunctionIsWithin}
use Rattle.asm2wasm_laws_within.proofs.Within.{accepted_are_within}
use Rattle.asm2wasm_laws_acceptance.proofs.Lists.{all_at}
use Rattle.asm2wasm_laws_acceptance.proofs.Imports.{functions_are_counted}
use Rattle.asm2wasm_laws_acceptance.proofs.Contexts.{imported_are, own_type_is, body_is_valid}
use Rattle.asm2wasm_laws_acceptance.proofs.Readable.{translation_is_within}
use Rattle.asm2wasm_laws_writable.specs.Parts.{PlainNamesBelow, NamesBelow, HasAtMost, PlainConstantFits, ConstantFits}
use Rattle.asm2wasm_laws_writable.specs.Laws.{FunctionsAreNarrow}
use Rattle.asm2wasm_laws_writable.proofs.Lists.{from_places}
use Rattle.asm2wasm_laws_writable.proofs.Named.{typed_names_are_below}
use Rattle.asm2wasm_laws_writable.proofs.Constants.{PagesAreFew, PagesHold, constants_fit}

-- ---- what is named and the constants together

module _ (P Q R : Instruction → Type 0) (both : (i : Instruction) → P i → Q i → R i) where
  each_both : (code : Trees) → EachIn P code → EachIn Q code → EachIn R code
  each_both ε p q = tt
  each_both (block r body ▹ code) p q = (both (flat.block r) p.0 q.0, each_both body p.1 q.1, each_both code p.2 q.2)
  each_both (loop r body ▹ code) p q = (both (flat.loop r) p.0 q.0, each_both body p.1 q.1, each_both code p.2 q.2)
  each_both (if_block r first second ▹ code) p q = (both (flat.if_block r) p.0 q.0, each_both first p.1 q.1, each_both second p.2 q.2, each_both code p.3 q.3)
  each_both (unreachable ▹ code) p q = (both flat.unreachable p.0 q.0, each_both code p.1 q.1)
  each_both (br l ▹ code) p q = (both (flat.br l) p.0 q.0, each_both code p.1 q.1)
  each_both (br_if l ▹ code) p q = (both (flat.br_if l) p.0 q.0, each_both code p.1 q.1)
  each_both (br_table ls d ▹ code) p q = (both (flat.br_table ls d) p.0 q.0, each_both code p.1 q.1)
  each_both (return ▹ code) p q = (both flat.return p.0 q.0, each_both code p.1 q.1)
  each_both (call f ▹ code) p q = (both (flat.call f) p.0 q.0, each_both code p.1 q.1)
  each_both (call_indirect t ▹ code) p q = (both (flat.call_indirect t) p.0 q.0, each_both code p.1 q.1)
  each_both (plain x ▹ code) p q = (both (flat.plain x) p.0 q.0, each_both code p.1 q.1)

plain_narrow : (p : Plain) → PlainNamesBelow (2 ^ 32) p → PlainConstantFits p → PlainIsNarrow p
plain_narrow (local_get x) a b = a
plain_narrow (local_set x) a b = a
plain_narrow (local_tee x) a b = a
plain_narrow (global_get x) a b = a
plain_narrow (global_set x) a b = a
plain_narrow (load op align offset) a b = (a, b)
plain_narrow (store op align offset) a b = (a, b)
plain_narrow (const32 word) a b = b
plain_narrow (const64 word) a b = absurd b
plain_narrow p a b = tt

instruction_narrow : (i : Instruction) → NamesBelow (2 ^ 32) i → ConstantFits i → IsNarrow i
instruction_narrow (flat.plain p) a b = plain_narrow p a b
instruction_narrow (flat.br l) a b = a
instruction_narrow (flat.br_if l) a b = a
instruction_narrow (flat.br_table ls d) a b = a
instruction_narrow (flat.call f) a b = a
instruction_narrow (flat.call_indirect t) a b = a
instruction_narrow i a b = tt

-- ---- functions of few nodes

abbrev pub HasFewNodes : Function → Type 0
HasFewNodes f = function_count f + body_clauses f.body ≤ 2 ^ 25

pub few_nodes : (fs : List Function) → functions_count fs + functions_clauses fs ≤ 2 ^ 25 → AllByRecursion HasFewNodes fs
few_nodes [] h = tt
few_nodes (f ∷ fs) h = (omega (arith, h), few_nodes fs (omega (arith, h)))

-- ---- contexts

module _ (m : Module) (heap : ℕ) where
  abbrev pub HasFewLocals : Function → Type 0
  HasFewLocals f = length (body_for m heap f).locals ≤ 60000

  few_locals : (fs : List Function)
      → AllByRecursion (λ (f : ℕ × FunctionBody). reader.params_of (map type_for (signatures m)) f.0 + length f.1.locals ≤ 60000) (zip (map (λ f. type_number m (signature_of f)) fs) (map (body_for m heap) fs))
      → AllByRecursion HasFewLocals fs
  few_locals [] a = tt
  few_locals (f ∷ fs) a = ((let here = a.0 in omega (arith, here)), few_locals fs a.1)

  pub all_few_locals : reader.IsWithinReader (translation m heap) → AllByRecursion HasFewLocals m.functions
  all_few_locals within =
      let w = translation m heap in
      few_locals m.functions (recursion_from_All (λ (f : ℕ × FunctionBody). reader.params_of w.types f.0 + length f.1.locals ≤ reader.most_locals) (zip w.functions w.bodies) within.locals)

  abbrev HasFewLevels : Function → Type 0
  HasFewLevels f = tree_levels (function_code heap (scope_of m f)) ≤ 300000

  few_levels : LevelsAreKept → (fs : List Function) → AllByRecursion (λ (b : FunctionBody). reader.levels b.code ≤ 300000) (map (body_for m heap) fs) → AllByRecursion HasFewLevels fs
  few_levels kept [] a = tt
  few_levels kept (f ∷ fs) a = ((let here = a.0 in let same = kept (function_code heap (scope_of m f)) in omega (arith, here, same)), few_levels kept fs a.1)

  all_few_levels : LevelsAreKept → reader.IsWithinReader (translation m heap) → AllByRecursion HasFewLevels m.functions
  all_few_levels kept within =
      let w = translation m heap in
      few_levels kept m.functions (recursion_from_All (λ (b : FunctionBody). reader.levels b.code ≤ reader.most_levels) w.bodies within.body_levels)

  few_functions : IsAccepted m → length (function_types (translation m heap)) ≤ 75000
  few_functions ok =
      let counted = functions_are_counted m heap in
      let functions = (accepted_are_within m ok).functions in
      let calls = (accepted_are_within m ok).calls in
      omega (arith, counted, functions, calls)

  few_globals : IsAccepted m → reader.IsWithinReader (translation m heap) → length (global_types (translation m heap)) ≤ 320000
  few_globals ok within =
      let w = translation m heap in
      let own = map (λ (g : GlobalEntry). g.kind) w.globals in
      let asked : length (imported_globals w.imports) ≡ length (foreign_globals m) = ap length (imported_are m heap) ∙ length-map (foreign_globals m) (λ g. constant_int) in
      let all : length (global_types w) ≡ length (imported_globals w.imports) + length own = length-append (imported_globals w.imports) own in
      let each : length own ≡ length w.globals = length-map w.globals (λ (g : GlobalEntry). g.kind) in
      let few = within.globals in
      let foreign = (accepted_are_within m ok).foreign in
      omega (arith, asked, all, each, few, foreign)

  few_in_body : (i : ℕ) (f : Function) → slice_get m.functions i ≡ Some f → FunctionIsWithin f → HasFewLocals f → length (body_context (translation m heap) i (body_for m heap f)).locals ≤ 62000
  few_in_body i f is within few =
      let w = translation m heap in
      let params : length (own_type w i).params ≡ length f.params = ap (λ (t : FunctionType). length t.params) (own_type_is m heap i f is) ∙ length-replicate (length f.params) I32 in
      let all = length-append (own_type w i).params (body_for m heap f).locals in
      let low = within.params in
      omega (arith, params, all, low, few)

-- ---- functions

pub functions_are_narrow : IsReadAgain → LevelsAreKept → PagesAreFew → PagesHold → FunctionsAreNarrow
functions_are_narrow again kept few hold m heap ok formed h = from_places (λ (f : Function). EachIn IsNarrow (function_code heap (scope_of m f))) m.functions narrow
  where
    within : reader.IsWithinReader (translation m heap)
    within = translation_is_within kept m heap ok formed

    most : (i : ℕ) (f : Function) → slice_get m.functions i ≡ Some f → HasAtMost (2 ^ 32) (in_body (body_context (translation m heap) i (body_for m heap f)))
    most i f is =
        let types = within.types in
        let functions = few_functions m heap ok in
        let globals = few_globals m heap ok within in
        let fits = all_at FunctionIsWithin m.functions i f (recursion_from_All FunctionIsWithin m.functions (accepted_are_within m ok).each_function) is in
        let locals = few_in_body m heap i f is fits (all_at (HasFewLocals m heap) m.functions i f (all_few_locals m heap within) is) in
        record { types = omega (arith, types); functions = omega (arith, functions); globals = omega (arith, globals); locals = omega (arith, locals) }

    is_typed : (i : ℕ) (f : Function) → slice_get m.functions i ≡ Some f
        → let base = body_context (translation m heap) i (body_for m heap f) in IsTyped (in_body base) (function_code heap (scope_of m f)) [] (listed base.returns)
    is_typed i f is =
        let base = body_context (translation m heap) i (body_for m heap f) in
        let code = function_code heap (scope_of m f) in
        let read = tree_is_typed base (closed code) (body_is_valid m heap i f ok is) in
        let first = again code in
        let second = read.1 in
        let same : read.0 ≡ code = cc (first, second) in
        subst (λ t. IsTyped (in_body base) t [] (listed base.returns)) same read.2

    narrow : (i : ℕ) (f : Function) → slice_get m.functions i ≡ Some f → EachIn IsNarrow (function_code heap (scope_of m f))
    narrow i f is =
        let base = body_context (translation m heap) i (body_for m heap f) in
        let code = function_code heap (scope_of m f) in
        let flat = all_at (HasFewLevels m heap) m.functions i f (all_few_levels m heap kept within) is in
        let named = typed_names_are_below (2 ^ 32) (in_body base) code [] (listed base.returns) (most i f is) (omega (arith, flat)) (is_typed i f is) in
        let constants = all_at (λ (f : Function). EachIn ConstantFits (function_code heap (scope_of m f))) m.functions i f (constants_fit few hold m heap ok formed h) is in
        each_both (NamesBelow (2 ^ 32)) ConstantFits IsNarrow instruction_narrow code named constants
