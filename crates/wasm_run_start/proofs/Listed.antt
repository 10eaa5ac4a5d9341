-- Lists of functions that grow.
use Rattle.std.proofs.Common.{◌≡◌, ℕ, zero, suc, ◌+◌, ◌<◌, List, [], ◌∷◌, ◌++◌, Option, Some, None, length, map, take, get_or, refl, sym, ap, ◌∙◌, arith}
use Rattle.std.proofs.lemmas.List.{take_more, map-append}
use Rattle.std.proofs.lemmas.Option.{slice_get-map, slice_get_read}
use Rattle.std.specs.Prelude.{slice_get, option_map}
use Rattle.wasm_lang.specs.declared.types.ImportKind.{ImportKind}
use Rattle.wasm_lang.specs.declared.types.ImportKind.TheVariants as imports
use Rattle.wasm_lang.specs.Instructions.{Instruction}
use Rattle.wasm_lang.specs.Modules.{Imported, FunctionBody, WasmModule}
use Rattle.wasm_tree.specs.declared.module.Import.{Import}
use Rattle.wasm_tree.specs.Views.{import_of}
use Rattle.wasm_lang_exec.specs.Code.{tree_of}
use Rattle.wasm_lang_exec.specs.Reductions as meaning
use Rattle.wasm_lang_exec.specs.Reductions.{if_function, imported_callee, imported_callees, own_callee, own_callees, found}
use Rattle.wasm_run_plain.specs.Forms.{IsForm}
use Rattle.wasm_run_machine.specs.declared.functions.Function.{Function}
use Rattle.wasm_run_machine.specs.Functions.{bodies_of, IsFunction}
use Rattle.wasm_run_start.specs.Listing.{IsReady, AreReady, own_of}

pub item_of : (is : List Import) (k : ℕ) (x : Import) → k < length is → x ≡ get_or is k x → slice_get (map import_of is) k ≡ Some (import_of x)
item_of is k x inside h = slice_get-map import_of is k ∙ ap (option_map import_of) (slice_get_read is (length is) k x refl inside h)

module _ (m : WasmModule) where
  -- one function more
  pub ready_more : (fs : List Function) (cs : List (Option meaning.Callee)) (f : Function) (c : Option meaning.Callee) → IsReady m f c → AreReady m fs cs → AreReady m (fs ++ f ∷ []) (cs ++ c ∷ [])
  ready_more [] [] f c ready all = (ready, tt)
  ready_more [] (d ∷ cs) f c ready all = absurd all
  ready_more (g ∷ fs) [] f c ready all = absurd all
  ready_more (g ∷ fs) (d ∷ cs) f c ready all = (all.0, ready_more fs cs f c ready all.1)

  -- what holds of a function by its number
  pub ready_at : (fs : List Function) (cs : List (Option meaning.Callee)) → AreReady m fs cs → (k : ℕ) → IsFunction m (slice_get fs k) (found (slice_get cs k))
  ready_at [] [] all k = refl
  ready_at [] (c ∷ cs) all k = absurd all
  ready_at (f ∷ fs) [] all k = absurd all
  ready_at (f ∷ fs) (c ∷ cs) all zero = all.0.typed
  ready_at (f ∷ fs) (c ∷ cs) all (suc k) = ready_at fs cs all.1 k

  pub forms_at : (fs : List Function) (cs : List (Option meaning.Callee)) → AreReady m fs cs → (k at : ℕ) (i : Instruction) → slice_get (bodies_of fs k) at ≡ Some i → IsForm i
  forms_at [] [] all k at i h = cc h
  forms_at [] (c ∷ cs) all k at i h = absurd all
  forms_at (f ∷ fs) [] all k at i h = absurd all
  forms_at (f ∷ fs) (c ∷ cs) all zero at i h = all.0.forms at i h
  forms_at (f ∷ fs) (c ∷ cs) all (suc k) at i h = forms_at fs cs all.1 k at i h

  -- ---- imports

  imported_append : (is js : List Imported) → imported_callees m (is ++ js) ≡ imported_callees m is ++ imported_callees m js
  imported_append [] js = refl
  imported_append (x ∷ is) js = go (imported_append is js) x.kind
    where
      go : imported_callees m (is ++ js) ≡ imported_callees m is ++ imported_callees m js
          → (kind : ImportKind)
          → if_function kind (λ t. imported_callee m x t ∷ imported_callees m (is ++ js)) (imported_callees m (is ++ js))
          ≡ if_function kind (λ t. imported_callee m x t ∷ imported_callees m is) (imported_callees m is) ++ imported_callees m js
      go h (imports.Func t) = ap (λ l. imported_callee m x t ∷ l) h
      go h (imports.Table l) = h
      go h (imports.Memory l) = h
      go h (imports.Global g) = h

  pub one_more_import : (is : List Import) (k : ℕ) (x : Import) → k < length is → x ≡ get_or is k x
      → imported_callees m (map import_of (take (k + 1) is)) ≡ imported_callees m (map import_of (take k is)) ++ imported_callees m (import_of x ∷ [])
  one_more_import is k x inside h =
      ap (λ l. imported_callees m (map import_of l)) (take_more is k x inside ∙ ap (λ y. take k is ++ y ∷ []) (sym h))
      ∙ ap (imported_callees m) (map-append import_of (take k is) (x ∷ []))
      ∙ imported_append (map import_of (take k is)) (import_of x ∷ [])

  -- ---- functions of the module

  pub no_own : (o : Option ℕ) → own_of m o None ≡ []
  no_own None = refl
  no_own (Some t) = refl

  pub one_more_own : (ts : List ℕ) (bs : List FunctionBody) (k : ℕ)
      → own_callees m (take (k + 1) ts) (take (k + 1) bs) ≡ own_callees m (take k ts) (take k bs) ++ own_of m (slice_get ts k) (slice_get bs k)
  one_more_own ts bs k = ap (λ n. own_callees m (take n ts) (take n bs)) (next k) ∙ more ts bs k
    where
      next : (k : ℕ) → k + 1 ≡ suc k
      next k = omega arith

      more : (ts : List ℕ) (bs : List FunctionBody) (k : ℕ)
          → own_callees m (take (suc k) ts) (take (suc k) bs) ≡ own_callees m (take k ts) (take k bs) ++ own_of m (slice_get ts k) (slice_get bs k)
      more [] bs zero = refl
      more [] bs (suc k) = refl
      more (t ∷ ts) [] zero = refl
      more (t ∷ ts) [] (suc k) = sym (no_own (slice_get ts k))
      more (t ∷ ts) (b ∷ bs) zero = refl
      more (t ∷ ts) (b ∷ bs) (suc k) = ap (λ l. own_callee (slice_get m.types t) b (tree_of b.code) ∷ l) (more ts bs k)

  pub all_own : (ts : List ℕ) (bs : List FunctionBody) → own_callees m (take (length bs) ts) (take (length bs) bs) ≡ own_callees m ts bs
  all_own [] [] = refl
  all_own [] (b ∷ bs) = refl
  all_own (t ∷ ts) [] = refl
  all_own (t ∷ ts) (b ∷ bs) = ap (λ l. own_callee (slice_get m.types t) b (tree_of b.code) ∷ l) (all_own ts bs)
