-- The list of functions, by the numbers of their types.
use Rattle.std.proofs.Common.{◌≡◌, ℕ, zero, suc, ◌+◌, List, [], ◌∷◌, ◌++◌, Option, Some, None, length, take, drop, refl, sym, ap, ◌∙◌, append_assoc, arith}
use Rattle.std.proofs.Math.ListN.{drop_of_length-le}
use Rattle.std.proofs.Math.Seq.{take-append_seam}
use Rattle.std.specs.Prelude.{slice_get, option_map}
use Rattle.wasm_lang.specs.declared.types.ImportKind.{ImportKind}
use Rattle.wasm_lang.specs.declared.types.ImportKind.TheVariants as imports
use Rattle.wasm_lang.specs.Modules.{FunctionType, Imported, FunctionBody, WasmModule}
use Rattle.session_lang.specs.Names.{import_name}
use Rattle.wasm_lang_valid.specs.ModuleRules.{function_of, imported_functions, function_types}
use Rattle.wasm_lang_exec.specs.Code.{tree_of}
use Rattle.wasm_lang_exec.specs.Reductions.{Callee, an_import, if_function, imported_callee, imported_callees, own_callee, own_callees, callees}
use Rattle.asm_lang.specs.Modules as text
use Rattle.wasm2js_translation.specs.Modules.{function_for, functions_from}
use Rattle.wasm2js_functions.specs.Listing.{wrapper_for, wrappers_from, own_at, own_from}

module _ (m : WasmModule) where
  from_append : (k : ℕ) (cs ds : List (Option Callee)) → functions_from m k (cs ++ ds) ≡ functions_from m k cs ++ functions_from m (k + length cs) ds
  from_append k [] ds = let e : k ≡ k + 0 = omega arith in ap (λ n. functions_from m n ds) e
  from_append k (c ∷ cs) ds =
      let e : suc k + length cs ≡ k + suc (length cs) = omega arith in
      ap (λ fs. function_for m k c ++ fs) (from_append (suc k) cs ds ∙ ap (λ n. functions_from m (suc k) cs ++ functions_from m n ds) e)
      ∙ sym (append_assoc (function_for m k c) (functions_from m (suc k) cs) (functions_from m (k + suc (length cs)) ds))

  wrapper_is : (k : ℕ) (name : List ℕ) (o : Option FunctionType) → function_for m k (option_map (an_import name) o) ≡ wrapper_for k o
  wrapper_is k name None = refl
  wrapper_is k name (Some t) = refl

  -- what one import adds in front
  module _ (i : Imported) (is : List Imported) where
    wrappers_more : (kind : ImportKind) (k : ℕ) → ((n : ℕ) → functions_from m n (imported_callees m is) ≡ wrappers_from m n (imported_functions is))
        → functions_from m k (if_function kind (λ t. imported_callee m i t ∷ imported_callees m is) (imported_callees m is)) ≡ wrappers_from m k (function_of kind ++ imported_functions is)
    wrappers_more (imports.Func t) k h =
        ap (λ fs. fs ++ functions_from m (suc k) (imported_callees m is)) (wrapper_is k (import_name i.module_name i.name) (slice_get m.types t))
        ∙ ap (λ fs. wrapper_for k (slice_get m.types t) ++ fs) (h (suc k))
    wrappers_more (imports.Table l) k h = h k
    wrappers_more (imports.Memory l) k h = h k
    wrappers_more (imports.Global g) k h = h k

    count_more : (kind : ImportKind) → length (imported_callees m is) ≡ length (imported_functions is)
        → length (if_function kind (λ t. imported_callee m i t ∷ imported_callees m is) (imported_callees m is)) ≡ length (function_of kind ++ imported_functions is)
    count_more (imports.Func t) h = ap suc h
    count_more (imports.Table l) h = h
    count_more (imports.Memory l) h = h
    count_more (imports.Global g) h = h

  wrappers_are : (is : List Imported) (k : ℕ) → functions_from m k (imported_callees m is) ≡ wrappers_from m k (imported_functions is)
  wrappers_are [] k = refl
  wrappers_are (i ∷ is) k = wrappers_more i is i.kind k (λ n. wrappers_are is n)

  count_is : (is : List Imported) → length (imported_callees m is) ≡ length (imported_functions is)
  count_is [] = refl
  count_is (i ∷ is) = count_more i is i.kind (count_is is)

  own_are : (k : ℕ) (ts : List ℕ) (bs : List FunctionBody) → functions_from m k (own_callees m ts bs) ≡ own_from m k ts bs
  own_are k [] bs = refl
  own_are k (t ∷ ts) [] = refl
  own_are k (t ∷ ts) (b ∷ bs) = ap (λ fs. function_for m k (own_callee (slice_get m.types t) b (tree_of b.code)) ++ fs) (own_are (suc k) ts bs)

  pub functions_are : (imported : ℕ) → imported ≡ length (imported_functions m.imports)
      → functions_from m 0 (callees m) ≡ wrappers_from m 0 (imported_functions m.imports) ++ own_from m imported m.functions m.bodies
  functions_are imported is =
      let cs = imported_callees m m.imports in
      let e : 0 + length cs ≡ imported = let c = count_is m.imports in omega arith in
      from_append 0 cs (own_callees m m.functions m.bodies)
      ∙ ap (λ fs. fs ++ functions_from m (0 + length cs) (own_callees m m.functions m.bodies)) (wrappers_are m.imports 0)
      ∙ ap (λ n. wrappers_from m 0 (imported_functions m.imports) ++ functions_from m n (own_callees m m.functions m.bodies)) e
      ∙ ap (λ fs. wrappers_from m 0 (imported_functions m.imports) ++ fs) (own_are imported m.functions m.bodies)

  pub next_own : (k p : ℕ) (ts : List ℕ) (bs : List FunctionBody)
      → own_from m k (drop p ts) (drop p bs) ≡ own_at m k (slice_get ts p) (slice_get bs p) ++ own_from m (k + 1) (drop (p + 1) ts) (drop (p + 1) bs)
  next_own k p ts bs =
      let e : suc k ≡ k + 1 = omega arith in
      let q : suc p ≡ p + 1 = omega arith in
      next p ts bs ∙ ap (λ n. own_at m k (slice_get ts p) (slice_get bs p) ++ own_from m n (drop (suc p) ts) (drop (suc p) bs)) e
      ∙ ap (λ n. own_at m k (slice_get ts p) (slice_get bs p) ++ own_from m (k + 1) (drop n ts) (drop n bs)) q
    where
      no_body : (o : Option ℕ) → own_at m k o None ≡ []
      no_body None = refl
      no_body (Some t) = refl

      none_from : (n : ℕ) (ts : List ℕ) → own_from m n ts [] ≡ []
      none_from n [] = refl
      none_from n (t ∷ ts) = refl

      next : (p : ℕ) (ts : List ℕ) (bs : List FunctionBody)
          → own_from m k (drop p ts) (drop p bs) ≡ own_at m k (slice_get ts p) (slice_get bs p) ++ own_from m (suc k) (drop (suc p) ts) (drop (suc p) bs)
      next zero [] bs = refl
      next zero (t ∷ ts) [] = sym (none_from (suc k) ts)
      next zero (t ∷ ts) (b ∷ bs) = refl
      next (suc p) [] bs = refl
      next (suc p) (t ∷ ts) [] =
          none_from k (drop p ts)
          ∙ sym (none_from (suc k) (drop (suc p) ts))
          ∙ ap (λ fs. fs ++ own_from m (suc k) (drop (suc p) ts) []) (sym (no_body (slice_get ts p)))
      next (suc p) (t ∷ ts) (b ∷ bs) = next p ts bs

  pub all_own : (k p : ℕ) (ts : List ℕ) (bs : List FunctionBody) → length ts ≡ p → own_from m k (drop p ts) (drop p bs) ≡ []
  all_own k p ts bs e = ap (λ l. own_from m k l (drop p bs)) (drop_of_length-le ts {i = p} (omega arith))

pub one_more : {A : Type 0} (whole old new now rest : List A) → whole ≡ old ++ (now ++ rest) → new ≡ old ++ now → whole ≡ new ++ rest
one_more whole old new now rest w n = w ∙ sym (append_assoc old now rest) ∙ ap (λ l. l ++ rest) (sym n)

pub whole_list : (m : WasmModule) (imported : ℕ) (types : List ℕ) (old wrapped new : List text.Function) → imported ≡ length (imported_functions m.imports) → types ≡ take imported (function_types m)
    → wrapped ≡ old ++ wrappers_from m 0 types → new ≡ wrapped ++ own_from m imported m.functions m.bodies
    → new ≡ old ++ functions_from m 0 (callees m)
whole_list m imported types old wrapped new count given wrappers own =
    let own_functions = own_from m imported m.functions m.bodies in
    own
    ∙ ap (λ fs. fs ++ own_functions) (wrappers ∙ ap (λ ts. old ++ wrappers_from m 0 ts) (given ∙ ap (λ n. take n (function_types m)) count ∙ take-append_seam (imported_functions m.imports) m.functions))
    ∙ append_assoc old (wrappers_from m 0 (imported_functions m.imports)) own_functions
    ∙ ap (λ fs. old ++ fs) (sym (functions_are m imported count))
