-- The functions of a valid module are there and typed.
use Rattle.std.proofs.Common.{◌≡◌, ℕ, zero, suc, List, [], ◌∷◌, ◌++◌, Option, None, Some, Bool, true, false, refl, sym, ap, ◌∙◌, subst, arith, leb-true}
use Rattle.std.proofs.lemmas.Option.{slice_get_within}
use Rattle.std.specs.Prelude.{length, slice_get, nat_le, option_map}
use Rattle.session_lang.specs.Names.{import_name}
use Rattle.wasm_lang.specs.declared.types.ValType.{ValType}
use Rattle.wasm_lang.specs.declared.types.ImportKind.{ImportKind}
use Rattle.wasm_lang.specs.declared.types.ImportKind.TheVariants as imports
use Rattle.wasm_lang.specs.Modules.{FunctionType, Imported, FunctionBody, WasmModule}
use Rattle.wasm_lang_valid.specs.declared.rule.Rule.{Rule}
use Rattle.wasm_lang_valid.specs.declared.rule.Rule.TheVariants.{TwoResults}
use Rattle.wasm_lang_valid.specs.declared.section.Section.TheVariants as sections
use Rattle.wasm_lang_valid.specs.Typing.{listed, result_of}
use Rattle.wasm_lang_valid.specs.ModuleRules.{meets, function_of, imported_functions, function_types, type_rule, type_of_function, item_rule, at}
use Rattle.wasm_lang_valid.specs.Validity.{own_type, body_context, IsValidBody, IsValidModule}
use Rattle.wasm_lang_exec.specs.Code.{Trees, tree_of}
use Rattle.wasm_lang_exec.specs.Reductions.{Callee, an_import, a_function, type_of, if_function, imported_callee, imported_callees, own_callee, own_callees, callees, found}
use Rattle.wasm_laws_sound.specs.Trees.{IsTyped}
use Rattle.wasm_laws_sound.specs.Configurations.{within, IsTypedCallee, AreTypedFunctions}
use Rattle.wasm_laws_sound.specs.Laws.{SpelledAreWhole, FunctionsAreTyped}
use Rattle.wasm_laws_sound.proofs.Nesting.{tree_is_typed}

pub meets_none : (b : Bool) (rule : Rule) (others : Option Rule) → meets b rule others ≡ None → b ≡ true
meets_none true rule others e = refl
meets_none false rule others e = cc e

pub meets_rest : (b : Bool) (rule : Rule) (others : Option Rule) → meets b rule others ≡ None → others ≡ None
meets_rest true rule others e = e
meets_rest false rule others e = cc e

one_result : (params results : List ValType) → nat_le (length results) 1 ≡ true → listed (result_of (record { params = params; results = results })) ≡ results
one_result params [] e = refl
one_result params (t ∷ []) e = refl
one_result params (t ∷ u ∷ ts) e = let le = leb-true (length (t ∷ u ∷ ts)) 1 e in absurd (omega (arith, le))

module _ (m : WasmModule) where
  pub record IsNamed (f : ℕ) (t : FunctionType) : Type 0 where
    pub number : ℕ
    pub is_number : slice_get (function_types m) f ≡ Some number
    pub is_type : slice_get m.types number ≡ Some t

  pub is_named : (f : ℕ) (t : FunctionType) → type_of_function m f ≡ Some t → IsNamed f t
  is_named f t e = go (slice_get (function_types m) f) refl
    where
      go : (o : Option ℕ) → slice_get (function_types m) f ≡ o → IsNamed f t
      go None is = let none : type_of_function m f ≡ None = rw is refl in cc (none, e)
      go (Some n) is = let some : type_of_function m f ≡ slice_get m.types n = rw is refl in record { number = n; is_number = is; is_type = sym some ∙ e }

  -- ---- functions of the module

  pub record IsThere (cs : List (Option Callee)) (i : ℕ) (t : FunctionType) : Type 0 where
    pub callee : Callee
    pub is_callee : slice_get cs i ≡ Some (Some callee)
    pub is_type : type_of callee ≡ t

  abbrev AreThere : List ℕ → List (Option Callee) → Type 0
  AreThere ts cs = (i n : ℕ) (t : FunctionType) → slice_get ts i ≡ Some n → slice_get m.types n ≡ Some t → IsThere cs i t

  abbrev AreTyped : List (Option Callee) → Type 0
  AreTyped cs = (i : ℕ) (c : Callee) → slice_get cs i ≡ Some (Some c) → IsTypedCallee m c

  -- what is known of each body
  pub record HasTree (t : FunctionType) (b : FunctionBody) : Type 0 where
    pub trees : Trees
    pub is_tree : tree_of b.code ≡ Some trees
    pub is_typed : IsTyped (within m (t.params ++ b.locals) (result_of t ∷ []) (result_of t)) trees [] (listed (result_of t))

  abbrev HaveTrees : List ℕ → List FunctionBody → Type 0
  HaveTrees ts bs = (i n : ℕ) (t : FunctionType) (b : FunctionBody) → slice_get ts i ≡ Some n → slice_get m.types n ≡ Some t → slice_get bs i ≡ Some b → HasTree t b

  own_there : (ts : List ℕ) (bs : List FunctionBody) → length ts ≡ length bs → HaveTrees ts bs → AreThere ts (own_callees m ts bs)
  own_there [] bs match trees i n t e is = cc e
  own_there (x ∷ ts) [] match trees i n t e is = absurd (omega (arith, match))
  own_there (x ∷ ts) (b ∷ bs) match trees zero n t e is =
      let it = trees zero n t b e is refl in
      let same : x ≡ n = cc e in
      record {
        callee = a_function t b.locals it.trees;
        is_callee = ap (λ o. Some (own_callee o b (tree_of b.code))) (ap (slice_get m.types) same ∙ is) ∙ ap (λ o. Some (own_callee (Some t) b o)) it.is_tree;
        is_type = refl;
      }
  own_there (x ∷ ts) (b ∷ bs) match trees (suc i) n t e is =
      let it = own_there ts bs (omega (arith, match)) (λ i. trees (suc i)) i n t e is in
      record { callee = it.callee; is_callee = it.is_callee; is_type = it.is_type }

  module _ (one : (n : ℕ) (t : FunctionType) → slice_get m.types n ≡ Some t → listed (result_of t) ≡ t.results) where
    callee_typed : (n : ℕ) (b : FunctionBody) (c : Callee) (o : Option FunctionType) (tree : Option Trees)
        → ((t : FunctionType) → slice_get m.types n ≡ Some t → HasTree t b)
        → slice_get m.types n ≡ o → tree_of b.code ≡ tree → own_callee o b tree ≡ Some c → IsTypedCallee m c
    callee_typed n b c None tree trees is is_tree e = cc e
    callee_typed n b c (Some t) None trees is is_tree e = cc e
    callee_typed n b c (Some t) (Some code) trees is is_tree e =
        let it = trees t is in
        let same : it.trees ≡ code = cc (it.is_tree, is_tree) in
        let is_it : a_function t b.locals code ≡ c = cc e in
        subst (IsTypedCallee m) is_it
        (one n t is, subst (λ code. IsTyped (within m (t.params ++ b.locals) (result_of t ∷ []) (result_of t)) code [] (listed (result_of t))) same it.is_typed)

    own_typed : (ts : List ℕ) (bs : List FunctionBody) → HaveTrees ts bs → AreTyped (own_callees m ts bs)
    own_typed [] [] trees i c e = cc e
    own_typed [] (b ∷ bs) trees i c e = cc e
    own_typed (x ∷ ts) [] trees i c e = cc e
    own_typed (x ∷ ts) (b ∷ bs) trees zero c e =
        callee_typed x b c (slice_get m.types x) (tree_of b.code) (λ t is. trees zero x t b refl is refl) refl refl (cc e)
    own_typed (x ∷ ts) (b ∷ bs) trees (suc i) c e = own_typed ts bs (λ i. trees (suc i)) i c e

  -- ---- imported functions

  imported_there : (is : List Imported) (ts : List ℕ) (cs : List (Option Callee)) → AreThere ts cs → AreThere (imported_functions is ++ ts) (imported_callees m is ++ cs)
  imported_there [] ts cs there i n t e is = there i n t e is
  imported_there (x ∷ is) ts cs there i n t e is_type = go (λ i e. imported_there is ts cs there i n t e is_type) x.kind i e
    where
      again : (i : ℕ) → IsThere (imported_callees m is ++ cs) i t → (c : Option Callee) → IsThere (c ∷ (imported_callees m is ++ cs)) (suc i) t
      again i it c = record { callee = it.callee; is_callee = it.is_callee; is_type = it.is_type }

      go : ((i : ℕ) → slice_get (imported_functions is ++ ts) i ≡ Some n → IsThere (imported_callees m is ++ cs) i t)
          → (kind : ImportKind) (i : ℕ) → slice_get ((function_of kind ++ imported_functions is) ++ ts) i ≡ Some n
          → IsThere (if_function kind (λ k. imported_callee m x k ∷ imported_callees m is) (imported_callees m is) ++ cs) i t
      go before (imports.Func k) zero e =
          let same : k ≡ n = cc e in
          record {
            callee = an_import (import_name x.module_name x.name) t;
            is_callee = ap (λ o. Some (option_map (an_import (import_name x.module_name x.name)) o)) (ap (slice_get m.types) same ∙ is_type);
            is_type = refl;
          }
      go before (imports.Func k) (suc i) e = again i (before i e) (imported_callee m x k)
      go before (imports.Table l) i e = before i e
      go before (imports.Memory l) i e = before i e
      go before (imports.Global g) i e = before i e

  import_typed : (name : List ℕ) (c : Callee) (o : Option FunctionType) → option_map (an_import name) o ≡ Some c → IsTypedCallee m c
  import_typed name c None e = cc e
  import_typed name c (Some t) e = let same : an_import name t ≡ c = cc e in subst (IsTypedCallee m) same tt

  imported_typed : (is : List Imported) (cs : List (Option Callee)) → AreTyped cs → AreTyped (imported_callees m is ++ cs)
  imported_typed [] cs typed i c e = typed i c e
  imported_typed (x ∷ is) cs typed i c e = go (imported_typed is cs typed) x.kind i e
    where
      go : AreTyped (imported_callees m is ++ cs) → (kind : ImportKind) (i : ℕ)
          → slice_get (if_function kind (λ k. imported_callee m x k ∷ imported_callees m is) (imported_callees m is) ++ cs) i ≡ Some (Some c) → IsTypedCallee m c
      go before (imports.Func k) zero e = import_typed (import_name x.module_name x.name) c (slice_get m.types k) (cc e)
      go before (imports.Func k) (suc i) e = before i c e
      go before (imports.Table l) i e = before i c e
      go before (imports.Memory l) i e = before i c e
      go before (imports.Global g) i e = before i c e

  found_some : (o : Option (Option Callee)) (c : Callee) → found o ≡ Some c → o ≡ Some (Some c)
  found_some None c e = cc e
  found_some (Some x) c e = ap Some e

  -- ---- all of them

  module _ (valid : IsValidModule m) where
    pub type_results : (n : ℕ) (t : FunctionType) → slice_get m.types n ≡ Some t → listed (result_of t) ≡ t.results
    type_results n t e =
        let fine : item_rule m sections.Types n ≡ None = valid sections.Types n (slice_get_within m.types n t e) in
        one_result t.params t.results (meets_none (nat_le (length t.results) 1) TwoResults None (sym (ap (λ o. at o type_rule) e) ∙ fine))

    have_trees : HaveTrees m.functions m.bodies
    have_trees i n t b e is body =
        let fine : IsValidBody m i (slice_get m.bodies i) = valid sections.Code i (slice_get_within m.bodies i b body) in
        let it = tree_is_typed (body_context m i b) b.code (subst (IsValidBody m i) body fine) in
        let own : own_type m i ≡ t = rw (e, is) refl in
        record {
          trees = it.0;
          is_tree = it.1;
          is_typed = subst (λ t. IsTyped (within m (t.params ++ b.locals) (result_of t ∷ []) (result_of t)) it.0 [] (listed (result_of t))) own it.2;
        }

    pub typed_functions : length m.functions ≡ length m.bodies → AreTypedFunctions m
    typed_functions match = record {
      are_there = λ f t e.
          let name = is_named f t e in
          let it = imported_there m.imports m.functions (own_callees m m.functions m.bodies) (own_there m.functions m.bodies match have_trees) f name.number t name.is_number name.is_type in
          (it.callee, ap found it.is_callee, it.is_type);
      are_typed = λ f c e.
          imported_typed m.imports (own_callees m m.functions m.bodies) (own_typed type_results m.functions m.bodies have_trees) f c (found_some (slice_get (callees m) f) c e);
    }

pub functions_are_typed : FunctionsAreTyped
functions_are_typed m whole = typed_functions m whole.is_valid whole.bodies_match

pub spelled_are_whole : SpelledAreWhole
spelled_are_whole m spelled valid = record { is_valid = valid; bodies_match = spelled.1.bodies_match }
