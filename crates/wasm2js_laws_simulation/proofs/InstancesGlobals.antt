-- The variables that stand for globals begin with the words of the globals' first values.
use Rattle.std.proofs.Common.{◌≡◌, ℕ, zero, suc, ◌+◌, ◌*◌, ◌^◌, ◌<◌, ◌≤◌, Bool, true, false, not, List, [], ◌∷◌, ◌++◌, append_assoc, length, map, Option, Some, None, pos, refl, sym, ap, ◌∙◌, subst, arith}
use Rattle.std.specs.Prelude.{slice_get, option_map, bytes_eq, if◌then◌else◌, ◌==◌}
use Rattle.std.specs.List.{All, AllByRecursion}
use Rattle.std.proofs.lemmas.Bool.{and_parts}
use Rattle.std.proofs.lemmas.Bool.Decides.{nat_tests}
use Rattle.std.proofs.lemmas.List.{map-append}
use Rattle.std.proofs.lemmas.List.Elements.{recursion_from_All}
use Rattle.std.proofs.lemmas.Option.{slice_get-map, slice_get_within}
use Rattle.std.proofs.lemmas.Slice.Eq.{bytes_eq-Decides}
use Rattle.sem_words.specs.declared.word.Word.{Word}
use Rattle.sem_words.specs.declared.word.Word.TheVariants.{W32, W64}
use Rattle.sem_words.specs.declared.js_value.JsValue.{JsValue}
use Rattle.sem_words.specs.declared.js_value.JsValue.TheVariants.{Whole}
use Rattle.sem_words.specs.JsValues.{to_uint32_of}
use Rattle.sem_words.specs.JsOperators.{signed_value}
use Rattle.sem_words.specs.Words.{word_of, signed_of}
use Rattle.sem_words.proofs.WordLaws.{word_of-IsWord, word_of-signed_of_32}
use Rattle.session_lang.specs.Imports.{low_word, high_word}
use Rattle.session_lang.specs.Script.{GlobalPlain, ScriptPlain}
use Rattle.session_lang.specs.Names.{import_name}
use Rattle.wasm_lang.specs.declared.types.ValType.{ValType}
use Rattle.wasm_lang.specs.declared.types.ValType.TheVariants.{I32, I64}
use Rattle.wasm_lang.specs.declared.types.GlobalType.{GlobalType}
use Rattle.wasm_lang.specs.declared.types.ImportKind.{ImportKind}
use Rattle.wasm_lang.specs.declared.types.ImportKind.TheVariants as imports
use Rattle.wasm_lang.specs.Instructions.{Instruction, plain, const32, const64, global_get}
use Rattle.wasm_lang.specs.Modules.{Imported, GlobalEntry, WasmModule}
use Rattle.wasm_lang_valid.specs.declared.rule.Rule.{Rule}
use Rattle.wasm_lang_valid.specs.declared.rule.Rule.TheVariants.{Initializer, NoGlobal}
use Rattle.wasm_lang_valid.specs.declared.section.Section.TheVariants as sections
use Rattle.wasm_lang_valid.specs.ModuleRules.{meets, at, global_of, imported_globals, has_memory, is_global, is_constant, is_end, init_rule, value_rule}
use Rattle.wasm_lang_valid.specs.Typing.{same, same_result}
use Rattle.wasm_lang_valid.specs.Profile.{where_so, is_wide_kind, wide_import}
use Rattle.wasm_lang_exec.specs.Reductions.{Callee, an_import, a_function, callees}
use Rattle.wasm_lang_exec.specs.Session as machine
use Rattle.wasm_lang_exec.specs.Session.{value_of, some_or_zero}
use Rattle.wasm_lang_exec.specs.Fits.{GlobalImport, with_import, global_imports}
use Rattle.asm_lang.specs.Modules.{Variable}
use Rattle.asm_lang_exec.specs.Runs.{Binding, binding, value_in}
use Rattle.asm_lang_exec.specs.Session.{given_value, first_globals}
use Rattle.wasm2js_translation.specs.Names.{Name, numbered, fixed, spare_high, result_high, global_low, global_high, spelled, same_name}
use Rattle.wasm2js_lang.specs.Allowed.{script_for}
use Rattle.wasm2js_translation.specs.Modules.{view_variables, fixed_variables, foreign_variables, given_variable, imported_variables, first_values, own_variables, global_variables, variables_of}
use Rattle.wasm2js_laws_acceptance.proofs.ProvidedWithin.{rows_are_within}
use Rattle.wasm2js_laws_acceptance.specs.FunctionsFunctions.{HasWord, IsSource}
use Rattle.wasm2js_laws_acceptance.specs.AcceptedLaws.{HaveFirstWords}
use Rattle.wasm2js_laws_places.specs.Straight.{Words}
use Rattle.wasm2js_laws_places.specs.Places.{word_bound, word_at, globals_from, globals_of}
use Rattle.wasm2js_laws_actions.proofs.Variables.{spelled_alike}
use Rattle.wasm2js_laws_simulation.specs.StartLaws.{begins_at}
use Rattle.wasm2js_laws_simulation.specs.InstancesLaws.{HasFirstGlobals, GlobalsBegin}

-- ---- words

given_word : (n : ℕ) → n < 2 ^ 32 → to_uint32_of (signed_value n) ≡ n
given_word n h = word_of-signed_of_32 n h

whole_word : (n : ℕ) → n < 2 ^ 64 → low_word n + 2 ^ 32 * high_word n ≡ n
whole_word n h = omega (arith, h)

low_small : (n : ℕ) → low_word n < 2 ^ 32
low_small n = omega arith

high_small : (n : ℕ) → n < 2 ^ 64 → high_word n < 2 ^ 32
high_small n h = omega (arith, h)

itself : (n : Name) → bytes_eq (spelled n) (spelled n) ≡ true
itself n = (bytes_eq-Decides (spelled n) (spelled n)).1 refl

later_number : (x y : ℕ) → suc x ≤ y → (x == y) ≡ false
later_number x y h = grind (arith, nat_tests)

-- ---- bindings one after the other

abbrev word_in : List Binding → Name → ℕ
word_in bs n = word_bound (value_in bs (spelled n))

first_word : (n : Name) (v : JsValue) (bs : List Binding) → word_in (binding (spelled n) v ∷ bs) n ≡ to_uint32_of v
first_word n v bs = ap (λ b. word_bound (if b then Some v else value_in bs (spelled n))) (itself n)

next_word : (m n : Name) (v : JsValue) (bs : List Binding) → same_name m n ≡ false → word_in (binding (spelled m) v ∷ bs) n ≡ word_in bs n
next_word m n v bs h = ap (λ b. word_bound (if b then Some v else value_in bs (spelled n))) (spelled_alike m n ∙ h)

module _ (s : ScriptPlain) where
  -- these words are those of the globals from number k on, by the variables from there on
  record Sees (words : Words) (k : ℕ) (vs : List Variable) : Type 0 where
    low : (j : ℕ) → k ≤ j → words (numbered global_low j) ≡ word_in (first_globals s vs) (numbered global_low j)
    high : (j : ℕ) → k ≤ j → words (numbered global_high j) ≡ word_in (first_globals s vs) (numbered global_high j)

  -- past the low word of number k
  past_low : (words : Words) (k : ℕ) (v : JsValue) (bs : List Binding) (vs : List Variable) → first_globals s vs ≡ bs
      → ((j : ℕ) → k ≤ j → words (numbered global_low j) ≡ word_in (binding (spelled (numbered global_low k)) v ∷ bs) (numbered global_low j))
      → ((j : ℕ) → k ≤ j → words (numbered global_high j) ≡ word_in (binding (spelled (numbered global_low k)) v ∷ bs) (numbered global_high j)) → Sees words (suc k) vs
  past_low words k v bs vs is lows highs = record {
    low = λ j le.
        lows j (omega (arith, le)) ∙ next_word (numbered global_low k) (numbered global_low j) v bs (let e = later_number k j le in rw e refl) ∙ ap (λ bs. word_in bs (numbered global_low j)) (sym is);
    high = λ j le.
        highs j (omega (arith, le)) ∙ next_word (numbered global_low k) (numbered global_high j) v bs refl ∙ ap (λ bs. word_in bs (numbered global_high j)) (sym is);
  }

  -- ---- imported ones

  abbrev asked : GlobalImport → ℕ
  asked g = word_of 32 (given_value s.globals g.name)

  given_same : (gs : List GlobalPlain) (name : List ℕ) → machine.given_value gs name I32 ≡ W32 (word_of 32 (given_value gs name))
  given_same [] name = refl
  given_same (g ∷ gs) name = by (bytes_eq g.name name) (given_same gs name)
    where
      by : (b : Bool) → machine.given_value gs name I32 ≡ W32 (word_of 32 (given_value gs name))
          → (if b then machine.word_for I32 g.value else machine.given_value gs name I32) ≡ W32 (word_of 32 (if b then g.value else given_value gs name))
      by true rest = refl
      by false rest = rest

  module _ (words : Words) where
    given_is : (k : ℕ) (g : GlobalImport) (vs : List Variable) → Sees words k (given_variable (numbered global_low k) (Some g) ∷ vs) → words (numbered global_low k) ≡ asked g
    given_is k g vs h =
        h.low k (omega arith) ∙ first_word (numbered global_low k) (signed_value (asked g)) (first_globals s vs) ∙ given_word (asked g) (word_of-IsWord 32 (given_value s.globals g.name))

    past_given : (k : ℕ) (g : GlobalImport) (vs : List Variable) → Sees words k (given_variable (numbered global_low k) (Some g) ∷ vs) → Sees words (suc k) vs
    past_given k g vs h = past_low words k (signed_value (asked g)) (first_globals s vs) vs refl h.low h.high

    record AreImported (k : ℕ) (gs : List GlobalImport) (vs : List Variable) : Type 0 where
      values : (ks : List ValType) → globals_from k (map (λ (g : GlobalImport). I32) gs ++ ks) words ≡ map (λ g. W32 (asked g)) gs ++ globals_from (k + length gs) ks words
      rest : Sees words (k + length gs) vs

    imported_are : (k : ℕ) (gs : List GlobalImport) (vs : List Variable) → Sees words k (imported_variables k gs ++ vs) → AreImported k gs vs
    imported_are k [] vs h =
        let none : k ≡ k + 0 = omega arith in
        record { values = λ ks. ap (λ n. globals_from n ks words) none; rest = subst (λ n. Sees words n vs) none h }
    imported_are k (g ∷ gs) vs h =
        let it = imported_are (suc k) gs vs (past_given k g (imported_variables (suc k) gs ++ vs) h) in
        let next : suc k + length gs ≡ k + length (g ∷ gs) = omega arith in
        record {
          values = λ ks.
              ap (λ n. W32 n ∷ globals_from (suc k) (map (λ (g : GlobalImport). I32) gs ++ ks) words) (given_is k g (imported_variables (suc k) gs ++ vs) h)
              ∙ ap (λ vs. W32 (asked g) ∷ vs) (it.values ks)
              ∙ ap (λ n. W32 (asked g) ∷ (map (λ g. W32 (asked g)) gs ++ globals_from n ks words)) next;
          rest = subst (λ n. Sees words n vs) next it.rest;
        }

    -- ---- own ones

    module _ (gs : List GlobalImport) where
      abbrev given : List Word
      given = map (λ g. W32 (asked g)) gs

      -- a first value of this type: a constant, or an imported global
      abbrev IsFirst : ValType → List Instruction → Type 0
      IsFirst I32 (plain (const32 n) ∷ is) = n < 2 ^ 32
      IsFirst I64 (plain (const64 n) ∷ is) = n < 2 ^ 64
      IsFirst I32 (plain (global_get x) ∷ is) = (g : GlobalImport) × (slice_get gs x ≡ Some g)
      IsFirst t is = ⊥

      record IsOwn (k : ℕ) (t : ValType) (is : List Instruction) (vs : List Variable) : Type 0 where
        value : (ks : List ValType) → globals_from k (t ∷ ks) words ≡ value_of given is ∷ globals_from (suc k) ks words
        rest : Sees words (suc k) vs

      narrow_own : (k n : ℕ) (is : List Instruction) (vs : List Variable) → n < 2 ^ 32 → Sees words k (first_values gs k (plain (const32 n) ∷ is) ++ vs) → IsOwn k I32 (plain (const32 n) ∷ is) vs
      narrow_own k n is vs small h = record {
        value = λ ks.
            ap (λ n. W32 n ∷ globals_from (suc k) ks words)
            (h.low k (omega arith) ∙ first_word (numbered global_low k) (Whole (signed_of 32 n)) (first_globals s vs) ∙ word_of-signed_of_32 n small);
        rest = past_low words k (Whole (signed_of 32 n)) (first_globals s vs) vs refl h.low h.high;
      }

      wide_own : (k n : ℕ) (is : List Instruction) (vs : List Variable) → n < 2 ^ 64 → Sees words k (first_values gs k (plain (const64 n) ∷ is) ++ vs) → IsOwn k I64 (plain (const64 n) ∷ is) vs
      wide_own k n is vs small h =
          let bs = first_globals s vs in
          let low = Whole (signed_of 32 (low_word n)) in
          let high = Whole (signed_of 32 (high_word n)) in
          let bs' = binding (spelled (numbered global_high k)) high ∷ bs in
          let a : words (numbered global_low k) ≡ low_word n = h.low k (omega arith) ∙ first_word (numbered global_low k) low bs' ∙ word_of-signed_of_32 (low_word n) (low_small n) in
          let b : words (numbered global_high k) ≡ high_word n =
          h.high k (omega arith) ∙ next_word (numbered global_low k) (numbered global_high k) low bs' refl ∙ first_word (numbered global_high k) high bs
          ∙ word_of-signed_of_32 (high_word n) (high_small n small)
          in
          record {
            value = λ ks.
                ap (λ x. W64 (x + 2 ^ 32 * words (numbered global_high k)) ∷ globals_from (suc k) ks words) a
                ∙ ap (λ x. W64 (low_word n + 2 ^ 32 * x) ∷ globals_from (suc k) ks words) b
                ∙ ap (λ x. W64 x ∷ globals_from (suc k) ks words) (whole_word n small);
            rest = record {
              low = λ j le.
                  h.low j (omega (arith, le)) ∙ next_word (numbered global_low k) (numbered global_low j) low bs' (let e = later_number k j le in rw e refl)
                  ∙ next_word (numbered global_high k) (numbered global_low j) high bs refl;
              high = λ j le.
                  h.high j (omega (arith, le)) ∙ next_word (numbered global_low k) (numbered global_high j) low bs' refl
                  ∙ next_word (numbered global_high k) (numbered global_high j) high bs (let e = later_number k j le in rw e refl);
            };
          }

      get_own : (k x : ℕ) (is : List Instruction) (vs : List Variable) (g : GlobalImport) → slice_get gs x ≡ Some g → Sees words k (given_variable (numbered global_low k) (slice_get gs x) ∷ vs)
          → IsOwn k I32 (plain (global_get x) ∷ is) vs
      get_own k x is vs g there h =
          let h' = subst (λ o. Sees words k (given_variable (numbered global_low k) o ∷ vs)) there h in
          let found : some_or_zero (slice_get given x) ≡ W32 (asked g) = ap some_or_zero (slice_get-map (λ g. W32 (asked g)) gs x ∙ ap (option_map (λ g. W32 (asked g))) there) in
          record {
            value = λ ks. ap (λ n. W32 n ∷ globals_from (suc k) ks words) (given_is k g vs h') ∙ ap (λ v. v ∷ globals_from (suc k) ks words) (sym found);
            rest = past_given k g vs h';
          }

      one_own : (k : ℕ) (t : ValType) (is : List Instruction) (vs : List Variable) → IsFirst t is → Sees words k (first_values gs k is ++ vs) → IsOwn k t is vs
      one_own k I32 (plain (const32 n) ∷ is) vs f h = narrow_own k n is vs f h
      one_own k I64 (plain (const64 n) ∷ is) vs f h = wide_own k n is vs f h
      one_own k I32 (plain (global_get x) ∷ is) vs f h = get_own k x is vs f.0 f.1 h
      one_own k t is vs f h = absurd f

      own_are : (k : ℕ) (es : List GlobalEntry) → AllByRecursion (λ (e : GlobalEntry). IsFirst e.kind.kind e.init) es → Sees words k (own_variables gs k es)
          → globals_from k (map (λ (e : GlobalEntry). e.kind.kind) es) words ≡ map (λ (e : GlobalEntry). value_of given e.init) es
      own_are k [] all h = refl
      own_are k (e ∷ es) all h =
          let it = one_own k e.kind.kind e.init (own_variables gs (suc k) es) all.0 h in
          it.value (map (λ (e : GlobalEntry). e.kind.kind) es) ∙ ap (λ vs. value_of given e.init ∷ vs) (own_are (suc k) es all.1 it.rest)

-- ---- what validity and the profile say

met : (b : Bool) (r : Rule) (o : Option Rule) → meets b r o ≡ None → (b ≡ true) × (o ≡ None)
met true r o h = (refl, h)
met false r o h = cc h

same_is : (t u : ValType) → same t u ≡ true → t ≡ u
same_is I32 I32 h = refl
same_is I32 I64 h = cc h
same_is I64 I32 h = cc h
same_is I64 I64 h = refl

never : (b : Bool) → meets b Initializer (Some Initializer) ≡ None → ⊥
never true h = cc h
never false h = cc h

not_wide : (b : Bool) (n : ℕ) (o : Option ℕ) → where_so b n o ≡ None → (b ≡ false) × (o ≡ None)
not_wide true n o h = cc h
not_wide false n o h = (refl, h)

narrow_type : (t : ValType) → same_result (Some t) (Some I64) ≡ false → t ≡ I32
narrow_type I32 h = refl
narrow_type I64 h = cc h

there_is : {A : Type 0} → (xs : List A) (n : ℕ) → n < length xs → (x : A) × (slice_get xs n ≡ Some x)
there_is [] n h = absurd (omega (arith, h))
there_is (x ∷ xs) zero h = (x, refl)
there_is (x ∷ xs) (suc n) h = there_is xs n (omega (arith, h))

map_twice : {A B C : Type 0} → (f : B → C) (g : A → B) (xs : List A) → map f (map g xs) ≡ map (λ x. f (g x)) xs
map_twice f g [] = refl
map_twice f g (x ∷ xs) = ap (λ ys. f (g x) ∷ ys) (map_twice f g xs)

module _ (w : WasmModule) where
  counts_alike : (is : List Imported) → length (imported_globals is) ≡ length (global_imports is)
  counts_alike [] = refl
  counts_alike (i ∷ is) = by i.kind (counts_alike is)
    where
      by : (kind : ImportKind) → length (imported_globals is) ≡ length (global_imports is) → length (global_of kind ++ imported_globals is) ≡ length (with_import i kind (global_imports is))
      by (imports.Func t) h = h
      by (imports.Table l) h = h
      by (imports.Memory l) h = h
      by (imports.Global g) h = ap suc h

  abbrev narrow_ones : List Imported → List ValType
  narrow_ones is = map (λ (g : GlobalImport). I32) (global_imports is)

  kinds_are : (n : ℕ) (is : List Imported) → wide_import w n is ≡ None → map (λ (g : GlobalType). g.kind) (imported_globals is) ≡ narrow_ones is
  kinds_are n [] h = refl
  kinds_are n (i ∷ is) h =
      let a = not_wide (is_wide_kind w i i.kind) n (wide_import w (n + 1) is) h in
      by i.kind a.0 (kinds_are (n + 1) is a.1)
    where
      by : (kind : ImportKind) → is_wide_kind w i kind ≡ false → map (λ (g : GlobalType). g.kind) (imported_globals is) ≡ narrow_ones is
          → map (λ (g : GlobalType). g.kind) (global_of kind ++ imported_globals is) ≡ map (λ (g : GlobalImport). I32) (with_import i kind (global_imports is))
      by (imports.Func t) h rest = rest
      by (imports.Table l) h rest = rest
      by (imports.Memory l) h rest = rest
      by (imports.Global f) h rest = ap (λ t. t ∷ map (λ (g : GlobalType). g.kind) (imported_globals is)) (narrow_type f.kind h) ∙ ap (λ ts. I32 ∷ ts) rest

  narrow_imports : (n : ℕ) (is : List Imported) → wide_import w n is ≡ None → (x : ℕ) (g : GlobalType) → slice_get (imported_globals is) x ≡ Some g → g.kind ≡ I32
  narrow_imports n [] h x g e = cc e
  narrow_imports n (i ∷ is) h x g e =
      let a = not_wide (is_wide_kind w i i.kind) n (wide_import w (n + 1) is) h in
      by i.kind x a.0 e (λ x. narrow_imports (n + 1) is a.1 x g)
    where
      by : (kind : ImportKind) (x : ℕ) → is_wide_kind w i kind ≡ false → slice_get (global_of kind ++ imported_globals is) x ≡ Some g
          → ((x : ℕ) → slice_get (imported_globals is) x ≡ Some g → g.kind ≡ I32) → g.kind ≡ I32
      by (imports.Func t) x h e more = more x e
      by (imports.Table l) x h e more = more x e
      by (imports.Memory l) x h e more = more x e
      by (imports.Global f) zero h e more = let same : f ≡ g = cc e in subst (λ (g : GlobalType). g.kind ≡ I32) same (narrow_type f.kind h)
      by (imports.Global f) (suc x) h e more = more x e

  module _ (source : IsSource w) (first : HaveFirstWords w) (s : ScriptPlain) where
    abbrev s' : ScriptPlain
    s' = script_for w s

    abbrev gs : List GlobalImport
    gs = global_imports w.imports

    no_wide : wide_import w 0 w.imports ≡ None
    no_wide = (rows_are_within w source.within).wide

    given_are : (n : ℕ) (is : List Imported) → wide_import w n is ≡ None → machine.imported_globals s is ≡ map (λ g. W32 (asked s' g)) (global_imports is)
    given_are n [] h = refl
    given_are n (i ∷ is) h =
        let a = not_wide (is_wide_kind w i i.kind) n (wide_import w (n + 1) is) h in
        by i.kind a.0 (given_are (n + 1) is a.1)
      where
        by : (kind : ImportKind) → is_wide_kind w i kind ≡ false → machine.imported_globals s is ≡ map (λ g. W32 (asked s' g)) (global_imports is)
            → machine.if_global kind (λ t. machine.given_value s.globals (import_name i.module_name i.name) t ∷ machine.imported_globals s is) (machine.imported_globals s is)
            ≡ map (λ g. W32 (asked s' g)) (with_import i kind (global_imports is))
        by (imports.Func t) h rest = rest
        by (imports.Table l) h rest = rest
        by (imports.Memory l) h rest = rest
        by (imports.Global f) h rest =
            let name = import_name i.module_name i.name in
            ap (λ t. machine.given_value s.globals name t ∷ machine.imported_globals s is) (narrow_type f.kind h)
            ∙ ap (λ v. v ∷ machine.imported_globals s is) (given_same s' s.globals name)
            ∙ ap (λ vs. W32 (word_of 32 (given_value s.globals name)) ∷ vs) rest

    -- ---- first values

    constant_type : (t : ValType) (o : Option GlobalType) → ((g : GlobalType) → o ≡ Some g → g.kind ≡ I32) → is_constant t o ≡ true → t ≡ I32
    constant_type t None narrow h = cc h
    constant_type t (Some g) narrow h = same_is t g.kind (and_parts (not g.mutable) (same t g.kind) h).1 ∙ narrow g refl

    is_there : (t : ValType) (o : Option GlobalType) → is_constant t o ≡ true → (g : GlobalType) × (o ≡ Some g)
    is_there t None h = cc h
    is_there t (Some g) h = (g, refl)

    abbrev IsFine : ValType → List Instruction → Type 0
    IsFine t is = IsFirst s' (word_at (begins_at w s 0)) gs t is

    first_is : (t : ValType) (is : List Instruction) → init_rule w t is ≡ None → AllByRecursion HasWord is → IsFine t is
    first_is t [] h k = absurd (cc h)
    first_is t (i ∷ []) h k = absurd (cc h)
    first_is t (i ∷ j ∷ l ∷ is) h k = absurd (cc h)
    first_is t (plain (const32 n) ∷ j ∷ []) h k =
        let a = met (is_end j) Initializer (value_rule w t (plain (const32 n))) h in
        let e = same_is t I32 (met (same t I32) Initializer None a.1).0 in
        subst (λ t. IsFine t (plain (const32 n) ∷ j ∷ [])) (sym e) k.0
    first_is t (plain (const64 n) ∷ j ∷ []) h k =
        let a = met (is_end j) Initializer (value_rule w t (plain (const64 n))) h in
        let e = same_is t I64 (met (same t I64) Initializer None a.1).0 in
        subst (λ t. IsFine t (plain (const64 n) ∷ j ∷ [])) (sym e) k.0
    first_is t (plain (global_get x) ∷ j ∷ []) h k =
        let a = met (is_end j) Initializer (value_rule w t (plain (global_get x))) h in
        let b = met (is_global w x) NoGlobal (meets (is_constant t (slice_get (imported_globals w.imports) x)) Initializer None) a.1 in
        let c = met (is_constant t (slice_get (imported_globals w.imports) x)) Initializer None b.1 in
        let e = constant_type t (slice_get (imported_globals w.imports) x) (narrow_imports 0 w.imports no_wide x) c.0 in
        let g = is_there t (slice_get (imported_globals w.imports) x) c.0 in
        let within = slice_get_within (imported_globals w.imports) x g.0 g.1 in
        let alike = counts_alike w.imports in
        subst (λ t. IsFine t (plain (global_get x) ∷ j ∷ [])) (sym e) (there_is gs x (omega (arith, within, alike)))
    first_is t (plain p ∷ j ∷ []) h k = absurd (never (is_end j) h)
    first_is t (i ∷ j ∷ []) h k = absurd (never (is_end j) h)

    from_places : (es : List GlobalEntry) → ((i : ℕ) (e : GlobalEntry) → slice_get es i ≡ Some e → init_rule w e.kind.kind e.init ≡ None) → AllByRecursion (λ (e : GlobalEntry). All HasWord e.init) es
        → AllByRecursion (λ (e : GlobalEntry). IsFine e.kind.kind e.init) es
    from_places [] h k = tt
    from_places (e ∷ es) h k = (first_is e.kind.kind e.init (h 0 e refl) (recursion_from_All HasWord e.init k.0), from_places es (λ i x e. h (suc i) x e) k.1)

    all_first : AllByRecursion (λ (e : GlobalEntry). IsFine e.kind.kind e.init) w.globals
    all_first =
        from_places w.globals
        (λ i e h. sym (ap (λ o. at o (λ (g : GlobalEntry). init_rule w g.kind.kind g.init)) h) ∙ source.whole.is_valid sections.Globals i (slice_get_within w.globals i e h))
        (recursion_from_All (λ (e : GlobalEntry). All HasWord e.init) w.globals first)

    -- ---- the other variables come first

    past_heads : (b : Bool) (vs : List Variable) (n : Name) → same_name (fixed spare_high) n ≡ false → same_name (fixed result_high) n ≡ false
        → word_in (first_globals s' (((if b then view_variables else []) ++ fixed_variables) ++ vs)) n ≡ word_in (first_globals s' vs) n
    past_heads true vs n h k =
        let bs = first_globals s' vs in
        next_word (fixed spare_high) n (Whole (pos 0)) (binding (spelled (fixed result_high)) (Whole (pos 0)) ∷ bs) h ∙ next_word (fixed result_high) n (Whole (pos 0)) bs k
    past_heads false vs n h k =
        let bs = first_globals s' vs in
        next_word (fixed spare_high) n (Whole (pos 0)) (binding (spelled (fixed result_high)) (Whole (pos 0)) ∷ bs) h ∙ next_word (fixed result_high) n (Whole (pos 0)) bs k

    past_foreign : (k : ℕ) (cs : List (Option Callee)) (vs : List Variable) → first_globals s' (foreign_variables k cs ++ vs) ≡ first_globals s' vs
    past_foreign k [] vs = refl
    past_foreign k (None ∷ cs) vs = refl
    past_foreign k (Some (an_import name t) ∷ cs) vs = past_foreign (suc k) cs vs
    past_foreign k (Some (a_function t more code) ∷ cs) vs = refl

    past_others : (n : Name) → same_name (fixed spare_high) n ≡ false → same_name (fixed result_high) n ≡ false
        → word_in (first_globals s' (variables_of w)) n ≡ word_in (first_globals s' (global_variables w)) n
    past_others n h k =
        let heads = (if has_memory w then view_variables else []) ++ fixed_variables in
        let foreign = foreign_variables 0 (callees w) in
        ap (λ vs. word_in (first_globals s' vs) n) (append_assoc heads foreign (global_variables w))
        ∙ past_heads (has_memory w) (foreign ++ global_variables w) n h k
        ∙ ap (λ bs. word_in bs n) (past_foreign 0 (callees w) (global_variables w))

    abbrev words : Words
    words = word_at (begins_at w s 0)

    seen : Sees s' words 0 (global_variables w)
    seen = record { low = λ j le. past_others (numbered global_low j) refl refl; high = λ j le. past_others (numbered global_high j) refl refl }

    -- ---- all of them

    pub globals_are : HasFirstGlobals w s
    globals_are =
        let own = map (λ (e : GlobalEntry). e.kind.kind) w.globals in
        let it = imported_are s' words 0 gs (own_variables gs (length gs) w.globals) seen in
        let none : 0 + length gs ≡ length gs = omega arith in
        let values = own_are s' words gs (length gs) w.globals all_first (subst (λ n. Sees s' words n (own_variables gs (length gs) w.globals)) none it.rest) in
        ap (λ ks. globals_of ks words)
        (map-append (λ (g : GlobalType). g.kind) (imported_globals w.imports) (map (λ (e : GlobalEntry). e.kind) w.globals)
        ∙ ap (λ ks. ks ++ map (λ (g : GlobalType). g.kind) (map (λ (e : GlobalEntry). e.kind) w.globals)) (kinds_are 0 w.imports no_wide)
        ∙ ap (λ ks. narrow_ones w.imports ++ ks) (map_twice (λ (g : GlobalType). g.kind) (λ (e : GlobalEntry). e.kind) w.globals))
        ∙ it.values own
        ∙ ap (λ n. map (λ g. W32 (asked s' g)) gs ++ globals_from n own words) none
        ∙ ap (λ vs. map (λ g. W32 (asked s' g)) gs ++ vs) values
        ∙ ap (λ given. given ++ map (λ (e : GlobalEntry). value_of given e.init) w.globals) (sym (given_are 0 w.imports no_wide))

pub globals_begin : GlobalsBegin
globals_begin w source first s = globals_are w source first s
