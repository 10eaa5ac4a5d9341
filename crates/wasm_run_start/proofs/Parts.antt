-- An import, and a function with its body.
use Rattle.std.proofs.Common.{◌≡◌, ℕ, ◌+◌, ◌<◌, true, List, [], ◌∷◌, ◌++◌, Option, Some, None, length, take, get_or, sym, ap, subst, ◌∙◌, arith}
use Rattle.std.proofs.lemmas.Bool.Decides.{nat_tests}
use Rattle.std.proofs.lemmas.List.{append-nil}
use Rattle.std.proofs.lemmas.Option.{slice_get_within, slice_get-get_or, get_or_from_slice_get}
use Rattle.std.specs.Prelude.{slice_get, option_map, All}
use Rattle.sem_words.specs.declared.text.Text.{Text}
use Rattle.sem_words.specs.Lists.{text_bytes}
use Rattle.session_lang.specs.Names.{import_name}
use Rattle.wasm_lang.specs.declared.types.ImportKind.{ImportKind}
use Rattle.wasm_lang.specs.declared.types.ImportKind.TheVariants as imports
use Rattle.wasm_lang.specs.Instructions.{Instruction}
use Rattle.wasm_lang.specs.Modules.{Imported, FunctionBody, WasmModule}
use Rattle.wasm_lang.specs.Shape.{HasOpcode, IsShapedCode, IsShaped}
use Rattle.wasm_lang_valid.specs.declared.rule.Rule.TheVariants.{NoType}
use Rattle.wasm_lang_valid.specs.declared.section.Section.TheVariants as sections
use Rattle.wasm_lang_valid.specs.ModuleRules.{meets, is_type, import_rule, item_rule, at}
use Rattle.wasm_lang_valid.specs.Validity.{no_type, body_context, IsValidBody, IsValidModule}
use Rattle.wasm_lang_exec.specs.Code.{tree_of}
use Rattle.wasm_lang_exec.specs.Reductions as meaning
use Rattle.wasm_lang_exec.specs.Reductions.{an_import, if_function, imported_callee, imported_callees, own_callee}
use Rattle.wasm_laws_sound.proofs.Functions.{meets_none}
use Rattle.wasm_laws_sound.proofs.Nesting.{tree_is_typed}
use Rattle.wasm_run_flat.specs.declared.body.Body.{Body}
use Rattle.wasm_run_plain.specs.Forms.{IsForm}
use Rattle.wasm_run_plain.proofs.OpcodeForms.{opcode_has_form}
use Rattle.wasm_run_machine.specs.declared.functions.Callee.{Callee}
use Rattle.wasm_run_machine.specs.declared.functions.Callee.TheVariants.{Import, Own}
use Rattle.wasm_run_machine.specs.declared.functions.Function.{Function}
use Rattle.wasm_run_start.specs.Listing.{IsReady, AreReady, IsTypeNumber, HasType, HaveTypes, own_of}
use Rattle.wasm_run_start.proofs.Listed.{ready_more}

module _ (m : WasmModule) where
  type_there : (t : ℕ) → is_type m t ≡ true → IsTypeNumber m t
  type_there t h =
      let inside : t < length m.types = grind (arith, nat_tests) in
      record { type = get_or m.types t no_type; found = slice_get-get_or m.types t no_type inside }

  -- ---- imports

  kind_has_type : (before : List Imported) (kind : ImportKind) → import_rule m before kind ≡ None → HasType m kind
  kind_has_type before (imports.Func t) h = type_there t (meets_none (is_type m t) NoType None h)
  kind_has_type before (imports.Table l) h = tt
  kind_has_type before (imports.Memory l) h = tt
  kind_has_type before (imports.Global g) h = tt

  pub imports_have_types : IsValidModule m → HaveTypes m m.imports
  imports_have_types valid k x got =
      let fine : item_rule m sections.Imports k ≡ None = valid sections.Imports k (slice_get_within m.imports k x got) in
      kind_has_type (take k m.imports) x.kind (sym (ap (λ o. at o (λ y. import_rule m (take k m.imports) y.kind)) got) ∙ fine)

  no_code : (at : ℕ) (i : Instruction) → ◌≡◌ {A = Option Instruction} (slice_get [] at) (Some i) → IsForm i
  no_code at i h = cc h

  import_ready : (x : Imported) (t : ℕ) (name : Text) (c : IsTypeNumber m t) → text_bytes name ≡ import_name x.module_name x.name
      → IsReady m (record { kind = t; callee = Import name }) (imported_callee m x t)
  import_ready x t name c is = record {
    typed = record {
      type = c.type;
      found = c.found;
      callee = ap (option_map (an_import (import_name x.module_name x.name))) c.found ∙ ap (λ n. Some (an_import n c.type)) (sym is);
    };
    forms = no_code;
  }

  pub adds_import : (x : Imported) (t : ℕ) (name : Text) (fs gs : List Function) (cs : List (Option meaning.Callee)) → x.kind ≡ imports.Func t → text_bytes name ≡ import_name x.module_name x.name
      → gs ≡ fs ++ record { kind = t; callee = Import name } ∷ []
      → HasType m x.kind → AreReady m fs cs → AreReady m gs (cs ++ imported_callees m (x ∷ []))
  adds_import x t name fs gs cs kind is new has all =
      let c : IsTypeNumber m t = subst (HasType m) kind has in
      let list : imported_callee m x t ∷ [] ≡ imported_callees m (x ∷ []) = ap (λ k. if_function k (λ t. imported_callee m x t ∷ []) []) (sym kind) in
      subst (λ l. AreReady m gs (cs ++ l)) list
      (subst (λ l. AreReady m l (cs ++ imported_callee m x t ∷ [])) (sym new) (ready_more m fs cs (record { kind = t; callee = Import name }) (imported_callee m x t) (import_ready x t name c is) all))

  -- an import of another kind adds nothing
  pub adds_nothing : (x : Imported) (fs : List Function) (cs : List (Option meaning.Callee)) → imported_callees m (x ∷ []) ≡ [] → AreReady m fs cs → AreReady m fs (cs ++ imported_callees m (x ∷ []))
  adds_nothing x fs cs none all = subst (λ l. AreReady m fs (cs ++ l)) (sym none) (subst (AreReady m fs) (sym (append-nil cs)) all)

  -- ---- functions of the module

  pub type_of_own : IsValidModule m → (k t : ℕ) → slice_get m.functions k ≡ Some t → IsTypeNumber m t
  type_of_own valid k t got =
      let fine : item_rule m sections.Functions k ≡ None = valid sections.Functions k (slice_get_within m.functions k t got) in
      type_there t (meets_none (is_type m t) NoType None (sym (ap (λ o. at o (λ t. meets (is_type m t) NoType None)) got) ∙ fine))

  code_forms : (code : List Instruction) → All HasOpcode code → (at : ℕ) (i : Instruction) → slice_get code at ≡ Some i → IsForm i
  code_forms code all at i got =
      subst IsForm (get_or_from_slice_get code at i i got) (opcode_has_form (get_or code at i) (all at i (slice_get_within code at i got)))

  shaped_body : IsShaped m → (k : ℕ) (b : FunctionBody) → slice_get m.bodies k ≡ Some b → All HasOpcode b.code
  shaped_body shaped k b got =
      (subst (λ b. IsShapedCode b.code) (get_or_from_slice_get m.bodies k b b got) (shaped.bodies k b (slice_get_within m.bodies k b got))).opcodes

  own_ready : IsValidModule m → IsShaped m → (k t : ℕ) (b : FunctionBody) (body : Body) → slice_get m.functions k ≡ Some t → slice_get m.bodies k ≡ Some b → body ≡ b.code
      → IsReady m (record { kind = t; callee = Own body k }) (own_callee (slice_get m.types t) b (tree_of b.code))
  own_ready valid shaped k t b body got there is =
      let c = type_of_own valid k t got in
      let fine : IsValidBody m k (slice_get m.bodies k) = valid sections.Code k (slice_get_within m.bodies k b there) in
      let it = tree_is_typed (body_context m k b) b.code (subst (IsValidBody m k) there fine) in
      let list : List Instruction = body in
      record {
        typed = record {
          type = c.type;
          found = c.found;
          callee = record {
            entry = b;
            code = it.0;
            found = there;
            tree = ap tree_of is ∙ it.1;
            is_callee = ap (λ o. own_callee o b (tree_of b.code)) c.found ∙ ap (own_callee (Some c.type) b) it.1;
          };
        };
        forms = subst (λ (l : List Instruction). (at : ℕ) (i : Instruction) → slice_get l at ≡ Some i → IsForm i) (sym is) (code_forms b.code (shaped_body shaped k b there));
      }

  pub adds_own : IsValidModule m → IsShaped m → (k t : ℕ) (b : FunctionBody) (body : Body) (fs gs : List Function) (cs : List (Option meaning.Callee))
      → slice_get m.functions k ≡ Some t → slice_get m.bodies k ≡ Some b → body ≡ b.code → gs ≡ fs ++ record { kind = t; callee = Own body k } ∷ []
      → AreReady m fs cs → AreReady m gs (cs ++ own_of m (slice_get m.functions k) (slice_get m.bodies k))
  adds_own valid shaped k t b body fs gs cs got there is new all =
      let c = own_callee (slice_get m.types t) b (tree_of b.code) in
      let list : own_of m (Some t) (Some b) ≡ own_of m (slice_get m.functions k) (slice_get m.bodies k) = ap (λ o. own_of m o (Some b)) (sym got) ∙ ap (own_of m (slice_get m.functions k)) (sym there) in
      subst (λ l. AreReady m gs (cs ++ l)) list
      (subst (λ l. AreReady m l (cs ++ c ∷ [])) (sym new) (ready_more m fs cs (record { kind = t; callee = Own body k }) c (own_ready valid shaped k t b body got there is) all))

  pub adds_no_own : (k : ℕ) (fs : List Function) (cs : List (Option meaning.Callee)) → own_of m (slice_get m.functions k) (slice_get m.bodies k) ≡ []
      → AreReady m fs cs → AreReady m fs (cs ++ own_of m (slice_get m.functions k) (slice_get m.bodies k))
  adds_no_own k fs cs none all = subst (λ l. AreReady m fs (cs ++ l)) (sym none) (subst (AreReady m fs) (sym (append-nil cs)) all)
