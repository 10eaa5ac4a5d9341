-- A function with a body is one of those that the module defines.
use Rattle.std.proofs.Common.{◌≡◌, ℕ, zero, suc, List, [], ◌∷◌, ◌++◌, Option, Some, None, refl, ap, ◌∙◌}
use Rattle.std.specs.Prelude.{slice_get, option_map}
use Rattle.session_lang.specs.Names.{import_name}
use Rattle.wasm_lang.specs.declared.types.ValType.{ValType}
use Rattle.wasm_lang.specs.declared.types.ImportKind.{ImportKind}
use Rattle.wasm_lang.specs.declared.types.ImportKind.TheVariants as imports
use Rattle.wasm_lang.specs.Modules.{FunctionType, Imported, FunctionBody, WasmModule}
use Rattle.wasm_lang_valid.specs.Validity.{own_type}
use Rattle.wasm_lang_exec.specs.Code.{Trees, tree_of}
use Rattle.wasm_lang_exec.specs.Reductions.{Callee, an_import, a_function, if_function, imported_callee, imported_callees, own_callee, own_callees, callees}

module _ (w : WasmModule) where
  -- at place i of those that the module defines
  pub record IsOwn (ts : List ℕ) (bs : List FunctionBody) (t : FunctionType) (more : List ValType) (code : Trees) (i : ℕ) : Type 0 where
    pub number : ℕ
    pub body : FunctionBody
    pub is_number : slice_get ts i ≡ Some number
    pub is_type : slice_get w.types number ≡ Some t
    pub is_body : slice_get bs i ≡ Some body
    pub has_locals : body.locals ≡ more
    pub has_tree : tree_of body.code ≡ Some code

  module _ (t : FunctionType) (more : List ValType) (code : Trees) where
    abbrev Wanted : Option Callee
    Wanted = Some (a_function t more code)

    this_own : (n : ℕ) (b : FunctionBody) (o : Option FunctionType) (tree : Option Trees) → slice_get w.types n ≡ o → tree_of b.code ≡ tree → own_callee o b tree ≡ Wanted
        → (slice_get w.types n ≡ Some t) × (b.locals ≡ more) × (tree_of b.code ≡ Some code)
    this_own n b None tree e f h = absurd (cc h)
    this_own n b (Some u) None e f h = absurd (cc h)
    this_own n b (Some u) (Some x) e f h =
        let same : u ≡ t = cc h in
        let locals : b.locals ≡ more = cc h in
        let trees : x ≡ code = cc h in
        (e ∙ ap Some same, locals, f ∙ ap Some trees)

    own : (ts : List ℕ) (bs : List FunctionBody) (i : ℕ) → slice_get (own_callees w ts bs) i ≡ Some Wanted → IsOwn ts bs t more code i
    own [] [] i h = absurd (cc h)
    own [] (b ∷ bs) i h = absurd (cc h)
    own (n ∷ ts) [] i h = absurd (cc h)
    own (n ∷ ts) (b ∷ bs) zero h =
        let it = this_own n b (slice_get w.types n) (tree_of b.code) refl refl (cc h) in
        record { number = n; body = b; is_number = refl; is_type = it.0; is_body = refl; has_locals = it.1; has_tree = it.2 }
    own (n ∷ ts) (b ∷ bs) (suc i) h =
        let it = own ts bs i h in
        record { number = it.number; body = it.body; is_number = it.is_number; is_type = it.is_type; is_body = it.is_body; has_locals = it.has_locals; has_tree = it.has_tree }

    no_import : (name : List ℕ) (o : Option FunctionType) → option_map (an_import name) o ≡ Wanted → ⊥
    no_import name None h = cc h
    no_import name (Some u) h = cc h

    past_imports : (is : List Imported) (cs : List (Option Callee)) (k : ℕ) → slice_get (imported_callees w is ++ cs) k ≡ Some Wanted → (i : ℕ) × (slice_get cs i ≡ Some Wanted)
    past_imports [] cs k h = (k, h)
    past_imports (x ∷ is) cs k h = by x.kind k h (λ k h. past_imports is cs k h)
      where
        by : (kind : ImportKind) (k : ℕ) → slice_get (if_function kind (λ t. imported_callee w x t ∷ imported_callees w is) (imported_callees w is) ++ cs) k ≡ Some Wanted
            → ((k : ℕ) → slice_get (imported_callees w is ++ cs) k ≡ Some Wanted → (i : ℕ) × (slice_get cs i ≡ Some Wanted)) → (i : ℕ) × (slice_get cs i ≡ Some Wanted)
        by (imports.Func n) zero h f = absurd (no_import (import_name x.module_name x.name) (slice_get w.types n) (cc h))
        by (imports.Func n) (suc k) h f = f k h
        by (imports.Table l) k h f = f k h
        by (imports.Memory l) k h f = f k h
        by (imports.Global g) k h f = f k h

    pub found_own : (k : ℕ) → slice_get (callees w) k ≡ Some Wanted → (i : ℕ) × IsOwn w.functions w.bodies t more code i
    found_own k h = let it = past_imports w.imports (own_callees w w.functions w.bodies) k h in (it.0, own w.functions w.bodies it.0 it.1)

    pub own_has_type : (i : ℕ) → (it : IsOwn w.functions w.bodies t more code i) → own_type w i ≡ t
    own_has_type i it = let e = it.is_number in let f = it.is_type in rw (e, f) refl
