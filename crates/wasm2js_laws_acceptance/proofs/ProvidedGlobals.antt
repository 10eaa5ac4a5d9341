-- The variables of a module's globals.
use Rattle.std.proofs.Common.{◌≡◌, ℕ, zero, suc, ◌+◌, ◌<◌, Bool, true, false, not, List, [], ◌∷◌, ◌++◌, map, length, Option, Some, None, ◌⊎◌, inl, inr, refl, sym, ap, ◌∙◌, subst, arith}
use Rattle.std.specs.Prelude.{slice_get, if◌then◌else◌}
use Rattle.std.specs.List.{list_all}
use Rattle.std.proofs.lemmas.Bool.{and_parts}
use Rattle.std.proofs.lemmas.Option.{slice_get_within}
use Rattle.wasm_lang.specs.declared.types.ValType.{ValType}
use Rattle.wasm_lang.specs.declared.types.ValType.TheVariants.{I32, I64}
use Rattle.wasm_lang.specs.declared.types.GlobalType.{GlobalType}
use Rattle.wasm_lang.specs.declared.types.ImportKind.{ImportKind}
use Rattle.wasm_lang.specs.declared.types.ImportKind.TheVariants as imports
use Rattle.wasm_lang.specs.Instructions.{Instruction, plain, const32, const64, global_get}
use Rattle.wasm_lang.specs.Modules.{Imported, GlobalEntry, WasmModule}
use Rattle.wasm_lang_valid.specs.declared.rule.Rule.{Rule}
use Rattle.wasm_lang_valid.specs.declared.rule.Rule.TheVariants.{Initializer, NoGlobal}
use Rattle.wasm_lang_valid.specs.declared.section.Section.TheVariants as sections
use Rattle.wasm_lang_valid.specs.ModuleRules.{has_memory, meets, at, imported_globals, global_types, global_of, is_global, is_constant, is_end, value_rule, init_rule}
use Rattle.wasm_lang_valid.specs.Profile.{where_so, is_wide_kind, wide_import, IsInProfile}
use Rattle.wasm_lang_valid.specs.Typing.{same, same_result}
use Rattle.wasm_lang_exec.specs.Reductions.{callees}
use Rattle.wasm_lang_exec.specs.Fits.{GlobalImport, with_import, global_imports}
use Rattle.asm_lang.specs.Modules.{Stmt, Variable, Module}
use Rattle.asm_lang_valid.specs.Scope.{an_int, init_meaning}
use Rattle.asm_lang_valid.specs.Typed.{scope_of}
use Rattle.wasm2js_translation.specs.Names.{Name, numbered, global_low, spelled}
use Rattle.wasm2js_translation.specs.Pairs.{global_pair, names_of}
use Rattle.wasm2js_translation.specs.Helpers.{function_of}
use Rattle.wasm2js_translation.specs.Modules.{fixed_variables, view_variables, foreign_variables, given_variable, word_variable, imported_variables, first_values, own_variables, global_variables, variables_of, translated}
use Rattle.wasm2js_laws_scopes.specs.Provided.{AreInts}
use Rattle.wasm2js_laws_scopes.specs.Laws.{is_own}
use Rattle.wasm2js_laws_acceptance.specs.ProvidedLaws.{GlobalsAreProvided}
use Rattle.wasm2js_laws_acceptance.proofs.ProvidedEntries.{In, in_left, in_right}
use Rattle.wasm2js_laws_acceptance.proofs.ProvidedFound.{variable_found, is_seen}
use Rattle.wasm2js_laws_acceptance.proofs.ProvidedWithin.{rows_are_within}

-- ---- places in lists

pub record Further {A : Type 0} (xs ys : List A) (i : ℕ) (x : A) : Type 0 where
  pub place : ℕ
  pub is_place : i ≡ length xs + place
  pub is_there : slice_get ys place ≡ Some x

pub in_either : {A : Type 0} → (xs ys : List A) (i : ℕ) (x : A) → slice_get (xs ++ ys) i ≡ Some x → (slice_get xs i ≡ Some x) ⊎ Further xs ys i x
in_either [] ys i x h = inr (record { place = i; is_place = omega arith; is_there = h })
in_either (y ∷ xs) ys zero x h = inl h
in_either (y ∷ xs) ys (suc i) x h = by (in_either xs ys i x h)
  where
    by : (slice_get xs i ≡ Some x) ⊎ Further xs ys i x → (slice_get xs i ≡ Some x) ⊎ Further (y ∷ xs) ys (suc i) x
    by (inl e) = inl e
    by (inr f) = inr (record { place = f.place; is_place = (let e = f.is_place in omega (arith, e)); is_there = f.is_there })

pub record Mapped {A B : Type 0} (f : A → B) (xs : List A) (i : ℕ) (y : B) : Type 0 where
  pub item : A
  pub is_item : slice_get xs i ≡ Some item
  pub is_image : f item ≡ y

pub in_mapped : {A B : Type 0} → (f : A → B) (xs : List A) (i : ℕ) (y : B) → slice_get (map f xs) i ≡ Some y → Mapped f xs i y
in_mapped f [] i y h = cc h
in_mapped f (x ∷ xs) zero y h = record { item = x; is_item = refl; is_image = cc h }
in_mapped f (x ∷ xs) (suc i) y h = let it = in_mapped f xs i y h in record { item = it.item; is_item = it.is_item; is_image = it.is_image }

-- ---- a variable that is an int

pub record HasInt (m : Module) (vs : List Variable) (n : Name) : Type 0 where
  pub variable : Variable
  pub is_in : In variable vs
  pub is_name : variable.name ≡ spelled n
  pub is_int : init_meaning m variable.init ≡ an_int

abbrev pub HaveInts : Module → List Variable → List Name → Type 0
HaveInts m vs [] = Unit {0}
HaveInts m vs (n ∷ ns) = HasInt m vs n × HaveInts m vs ns

module _ (m : Module) where
  ints_left : (vs ws : List Variable) (ns : List Name) → HaveInts m vs ns → HaveInts m (vs ++ ws) ns
  ints_left vs ws [] h = tt
  ints_left vs ws (n ∷ ns) h =
      let it = h.0 in
      (record { variable = it.variable; is_in = in_left it.variable vs ws it.is_in; is_name = it.is_name; is_int = it.is_int }, ints_left vs ws ns h.1)

  ints_right : (vs ws : List Variable) (ns : List Name) → HaveInts m ws ns → HaveInts m (vs ++ ws) ns
  ints_right vs ws [] h = tt
  ints_right vs ws (n ∷ ns) h =
      let it = h.0 in
      (record { variable = it.variable; is_in = in_right it.variable vs ws it.is_in; is_name = it.is_name; is_int = it.is_int }, ints_right vs ws ns h.1)

  given_int : (n : Name) (o : Option GlobalImport) → HasInt m (given_variable n o ∷ []) n
  given_int n None = record { variable = given_variable n None; is_in = inl refl; is_name = refl; is_int = refl }
  given_int n (Some g) = record { variable = given_variable n (Some g); is_in = inl refl; is_name = refl; is_int = refl }

  -- ---- imported ones

  imported_int : (k x : ℕ) (gs : List GlobalImport) → x < length gs → HasInt m (imported_variables k gs) (numbered global_low (k + x))
  imported_int k x [] h = absurd (omega (arith, h))
  imported_int k zero (g ∷ gs) h =
      let none : k ≡ k + 0 = omega arith in
      subst (λ x. HasInt m (imported_variables k (g ∷ gs)) (numbered global_low x)) none
      (record { variable = given_variable (numbered global_low k) (Some g); is_in = inl refl; is_name = refl; is_int = refl })
  imported_int k (suc x) (g ∷ gs) h =
      let next : suc k + x ≡ k + suc x = omega arith in
      let it = imported_int (suc k) x gs (omega (arith, h)) in
      subst (λ x. HasInt m (imported_variables k (g ∷ gs)) (numbered global_low x)) next
      (record { variable = it.variable; is_in = inr it.is_in; is_name = it.is_name; is_int = it.is_int })

  -- ---- own ones

  module _ (w : WasmModule) (narrow : (x : ℕ) (g : GlobalType) → slice_get (imported_globals w.imports) x ≡ Some g → g.kind ≡ I32) (given : List GlobalImport) where
    met : (b : Bool) (r : Rule) (o : Option Rule) → meets b r o ≡ None → (b ≡ true) × (o ≡ None)
    met true r o h = (refl, h)
    met false r o h = cc h

    same_is : (t u : ValType) → same t u ≡ true → t ≡ u
    same_is I32 I32 h = refl
    same_is I32 I64 h = cc h
    same_is I64 I32 h = cc h
    same_is I64 I64 h = refl

    never : (b : Bool) → meets b Initializer (Some Initializer) ≡ None → ⊥
    never true h = cc h
    never false h = cc h

    constant_type : (t : ValType) (o : Option GlobalType) → ((g : GlobalType) → o ≡ Some g → g.kind ≡ I32) → is_constant t o ≡ true → t ≡ I32
    constant_type t None narrow h = cc h
    constant_type t (Some g) narrow h = same_is t g.kind (and_parts (not g.mutable) (same t g.kind) h).1 ∙ narrow g refl

    first_ints : (k : ℕ) (t : ValType) (is : List Instruction) → init_rule w t is ≡ None → HaveInts m (first_values given k is) (names_of t (global_pair k))
    first_ints k t [] h = cc h
    first_ints k t (i ∷ []) h = cc h
    first_ints k t (i ∷ j ∷ l ∷ is) h = cc h
    first_ints k t (plain (const32 n) ∷ j ∷ []) h =
        let a = met (is_end j) Initializer (value_rule w t (plain (const32 n))) h in
        let e = same_is t I32 (met (same t I32) Initializer None a.1).0 in
        subst (λ t. HaveInts m (first_values given k (plain (const32 n) ∷ j ∷ [])) (names_of t (global_pair k))) (sym e)
        (record { variable = word_variable (numbered global_low k) n; is_in = inl refl; is_name = refl; is_int = refl }, tt)
    first_ints k t (plain (const64 n) ∷ j ∷ []) h =
        let a = met (is_end j) Initializer (value_rule w t (plain (const64 n))) h in
        let e = same_is t I64 (met (same t I64) Initializer None a.1).0 in
        subst (λ t. HaveInts m (first_values given k (plain (const64 n) ∷ j ∷ [])) (names_of t (global_pair k))) (sym e)
        (record { variable = _; is_in = inl refl; is_name = refl; is_int = refl }, (record { variable = _; is_in = inr (inl refl); is_name = refl; is_int = refl }, tt))
    first_ints k t (plain (global_get x) ∷ j ∷ []) h =
        let a = met (is_end j) Initializer (value_rule w t (plain (global_get x))) h in
        let b = met (is_global w x) NoGlobal (meets (is_constant t (slice_get (imported_globals w.imports) x)) Initializer None) a.1 in
        let c = met (is_constant t (slice_get (imported_globals w.imports) x)) Initializer None b.1 in
        let e = constant_type t (slice_get (imported_globals w.imports) x) (narrow x) c.0 in
        subst (λ t. HaveInts m (first_values given k (plain (global_get x) ∷ j ∷ [])) (names_of t (global_pair k))) (sym e) (given_int (numbered global_low k) (slice_get given x), tt)
    first_ints k t (plain p ∷ j ∷ []) h = absurd (never (is_end j) h)
    first_ints k t (i ∷ j ∷ []) h = absurd (never (is_end j) h)

    own_ints : (k x : ℕ) (gs : List GlobalEntry) (g : GlobalEntry) → slice_get gs x ≡ Some g → init_rule w g.kind.kind g.init ≡ None
        → HaveInts m (own_variables given k gs) (names_of g.kind.kind (global_pair (k + x)))
    own_ints k x [] g e h = cc e
    own_ints k zero (f ∷ gs) g e h =
        let same : g ≡ f = cc e in
        let none : k ≡ k + 0 = omega arith in
        subst (λ x. HaveInts m (own_variables given k (f ∷ gs)) (names_of g.kind.kind (global_pair x))) none
        (subst (λ f. HaveInts m (own_variables given k (f ∷ gs)) (names_of g.kind.kind (global_pair k))) same
        (ints_left (first_values given k g.init) (own_variables given (suc k) gs) (names_of g.kind.kind (global_pair k)) (first_ints k g.kind.kind g.init h)))
    own_ints k (suc x) (f ∷ gs) g e h =
        let next : suc k + x ≡ k + suc x = omega arith in
        subst (λ x. HaveInts m (own_variables given k (f ∷ gs)) (names_of g.kind.kind (global_pair x))) next
        (ints_right (first_values given k f.init) (own_variables given (suc k) gs) (names_of g.kind.kind (global_pair (suc k + x))) (own_ints (suc k) x gs g e h))

-- none of them is a function's own
abbrev NotOwn : List Name → Type 0
NotOwn [] = Unit {0}
NotOwn (n ∷ ns) = (is_own n ≡ false) × NotOwn ns

-- ---- imports

module _ (w : WasmModule) where
  counts_alike : (is : List Imported) → length (imported_globals is) ≡ length (global_imports is)
  counts_alike [] = refl
  counts_alike (i ∷ is) = by i.kind (counts_alike is)
    where
      by : (kind : ImportKind) → length (imported_globals is) ≡ length (global_imports is) → length (global_of kind ++ imported_globals is) ≡ length (with_import i kind (global_imports is))
      by (imports.Func t) h = h
      by (imports.Table l) h = h
      by (imports.Memory l) h = h
      by (imports.Global g) h = ap suc h

  not_wide : (b : Bool) (n : ℕ) (o : Option ℕ) → where_so b n o ≡ None → (b ≡ false) × (o ≡ None)
  not_wide true n o h = cc h
  not_wide false n o h = (refl, h)

  narrow_type : (t : ValType) → same_result (Some t) (Some I64) ≡ false → t ≡ I32
  narrow_type I32 h = refl
  narrow_type I64 h = cc h

  imports_narrow : (n : ℕ) (is : List Imported) → wide_import w n is ≡ None → (x : ℕ) (g : GlobalType) → slice_get (imported_globals is) x ≡ Some g → g.kind ≡ I32
  imports_narrow n [] h x g e = cc e
  imports_narrow n (i ∷ is) h x g e =
      let a = not_wide (is_wide_kind w i i.kind) n (wide_import w (n + 1) is) h in
      by i.kind x a.0 e (λ x. imports_narrow (n + 1) is a.1 x g)
    where
      by : (kind : ImportKind) (x : ℕ) → is_wide_kind w i kind ≡ false → slice_get (global_of kind ++ imported_globals is) x ≡ Some g
          → ((x : ℕ) → slice_get (imported_globals is) x ≡ Some g → g.kind ≡ I32) → g.kind ≡ I32
      by (imports.Func t) x h e more = more x e
      by (imports.Table l) x h e more = more x e
      by (imports.Memory l) x h e more = more x e
      by (imports.Global f) zero h e more = let same : f ≡ g = cc e in subst (λ g. g.kind ≡ I32) same (narrow_type f.kind h)
      by (imports.Global f) (suc x) h e more = more x e

  -- ---- all of them

  abbrev before_globals : List Variable
  before_globals = ((if has_memory w then view_variables else []) ++ fixed_variables) ++ foreign_variables 0 (callees w)

  pub global_ints : IsInProfile w → (x : ℕ) (g : GlobalType) → slice_get (global_types w) x ≡ Some g → HaveInts (translated w) (variables_of w) (names_of g.kind (global_pair x))
  global_ints h x g e =
      ints_right (translated w) before_globals (global_variables w) (names_of g.kind (global_pair x)) (by (in_either (imported_globals w.imports) (map (λ g. g.kind) w.globals) x g e))
    where
      given : List GlobalImport
      given = global_imports w.imports

      narrow : (x : ℕ) (g : GlobalType) → slice_get (imported_globals w.imports) x ≡ Some g → g.kind ≡ I32
      narrow = imports_narrow 0 w.imports (rows_are_within w h.within).wide

      low : (e : slice_get (imported_globals w.imports) x ≡ Some g) → x < length (global_imports w.imports)
      low e = let a = slice_get_within (imported_globals w.imports) x g e in let b = counts_alike w.imports in omega (arith, a, b)

      by : (slice_get (imported_globals w.imports) x ≡ Some g) ⊎ Further (imported_globals w.imports) (map (λ g. g.kind) w.globals) x g
          → HaveInts (translated w) (global_variables w) (names_of g.kind (global_pair x))
      by (inl e) =
          subst (λ t. HaveInts (translated w) (global_variables w) (names_of t (global_pair x))) (sym (narrow x g e))
          (ints_left (translated w) (imported_variables 0 given) (own_variables given (length given) w.globals) (numbered global_low x ∷ [])
          ((let none : 0 + x ≡ x = omega arith in subst (λ x. HasInt (translated w) (imported_variables 0 given) (numbered global_low x)) none (imported_int (translated w) 0 x given (low e))), tt))
      by (inr f) =
          let it = in_mapped (λ (g : GlobalEntry). g.kind) w.globals f.place g f.is_there in
          let rule : init_rule w it.item.kind.kind it.item.init ≡ None =
          sym (ap (λ o. at o (λ (g : GlobalEntry). init_rule w g.kind.kind g.init)) it.is_item) ∙ h.valid sections.Globals f.place (slice_get_within w.globals f.place it.item it.is_item) in
          let own = own_ints (translated w) w narrow given (length given) f.place w.globals it.item it.is_item rule in
          let place : length given + f.place ≡ x = ap (λ n. n + f.place) (sym (counts_alike w.imports)) ∙ sym f.is_place in
          subst (λ x. HaveInts (translated w) (global_variables w) (names_of g.kind (global_pair x))) place
          (subst (λ (k : GlobalType). HaveInts (translated w) (global_variables w) (names_of k.kind (global_pair (length given + f.place)))) it.is_image
          (ints_right (translated w) (imported_variables 0 given) (own_variables given (length given) w.globals) (names_of it.item.kind.kind (global_pair (length given + f.place))) own))

  low_not_own : (t : ValType) (x : ℕ) → NotOwn (names_of t (global_pair x))
  low_not_own I32 x = (refl, tt)
  low_not_own I64 x = (refl, (refl, tt))

  are_ints : (name : Name) (ps ls : List Name) (ss : List Stmt) → list_all is_own ps ≡ true → list_all is_own ls ≡ true → (ns : List Name) → NotOwn ns → HaveInts (translated w) (variables_of w) ns
      → AreInts (scope_of (translated w) (function_of name ps ls ss)) ns
  are_ints name ps ls ss p l [] k h = tt
  are_ints name ps ls ss p l (n ∷ ns) k h =
      let it = h.0 in
      (is_seen w name ps ls ss p l n an_int k.0 (variable_found w it.variable n it.is_in it.is_name ∙ it.is_int), are_ints name ps ls ss p l ns k.1 h.1)

pub globals_are_provided : GlobalsAreProvided
globals_are_provided w h name ps ls ss p l x g e = are_ints w name ps ls ss p l (names_of g.kind (global_pair x)) (low_not_own w g.kind x) (global_ints w h x g e)
