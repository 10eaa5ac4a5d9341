-- Functions that the list has, and how they are called.
use Rattle.std.proofs.Common.{◌≡◌, ℕ, false, List, [], ◌∷◌, ◌++◌, Option, Some, None, length, map, reverse, refl, sym, ap, subst, ◌∙◌}
use Rattle.std.specs.Prelude.{slice_get, option_map}
use Rattle.std.proofs.lemmas.Option.{slice_get-map}
use Rattle.sem_words.specs.declared.word.Word.{Word}
use Rattle.sem_words.specs.Lists.{text_bytes}
use Rattle.wasm_lang.specs.declared.types.ValType.{ValType}
use Rattle.wasm_lang.specs.Modules.{FunctionType, FunctionBody, WasmModule}
use Rattle.wasm_lang_exec.specs.Store.{zeros_of}
use Rattle.wasm_lang_exec.specs.Reductions as meaning
use Rattle.wasm_lang_exec.specs.Reductions.{an_import, a_function, callee_at, params_of, of_type, same_type, top_of, below_top}
use Rattle.wasm_laws_drive.specs.Drive.{Outcome, Stuck}
use Rattle.wasm_run_flat.specs.Laws.{Begins}
use Rattle.wasm_run_flat.proofs.Standing.{tree_stands}
use Rattle.wasm_laws_machine.specs.Machine.{MachinePlain, of_frame}
use Rattle.wasm_laws_machine.specs.Meaning.{Shows, Calls}
use Rattle.wasm_laws_machine.proofs.Entering.{call_is_lost, call_sticks, function_shows}
use Rattle.sem_words.specs.declared.text.Text.{Text}
use Rattle.wasm_run_flat.specs.declared.body.Body.{Body}
use Rattle.wasm_run_machine.specs.declared.functions.Callee.{Callee}
use Rattle.wasm_run_machine.specs.declared.functions.Callee.TheVariants.{Import, Own}
use Rattle.wasm_run_machine.specs.declared.functions.Function.{Function}
use Rattle.wasm_run_machine.specs.Functions.{bodies_of, body_of_function, body_of_callee, IsOwn, IsCallee, IsTyped, IsFunction, AreFunctions}
use Rattle.wasm_run_machine.specs.Asking.{Asks}
use Rattle.wasm_run_machine.proofs.Asked.{import_asks}

some_is : {A : Type 0} {x y : A} → Some x ≡ Some y → x ≡ y
some_is h = cc h

-- an item of a list that is seen through a view
pub viewed : {A B : Type 0} (v : A → B) (xs : List A) (k : ℕ) (x : A) → Some x ≡ slice_get xs k → slice_get (map v xs) k ≡ Some (v x)
viewed v xs k x h = slice_get-map v xs k ∙ ap (option_map v) (sym h)

pub not_viewed : {A B : Type 0} (v : A → B) (xs : List A) (k : ℕ) → None ≡ slice_get xs k → slice_get (map v xs) k ≡ None
not_viewed v xs k h = slice_get-map v xs k ∙ ap (option_map v) (sym h)

module _ (m : WasmModule) (functions : List Function) (are : AreFunctions m functions) where
  pub function_is : (f : ℕ) (g : Function) → slice_get functions f ≡ Some g → IsTyped m g (callee_at m f)
  function_is f g h = subst (λ o. IsFunction m o (callee_at m f)) h (are.each f)

  pub no_function : (f : ℕ) → slice_get functions f ≡ None → callee_at m f ≡ None
  no_function f h = subst (λ o. IsFunction m o (callee_at m f)) h (are.each f)

  pub typed : (f : ℕ) (g : Function) → slice_get functions f ≡ Some g → slice_get m.types g.kind ≡ None → ⊥
  typed f g h none = let e : Some (function_is f g h).type ≡ None = sym (function_is f g h).found ∙ none in cc e

  callee_type : (c : Callee) (t : FunctionType) (k : Option meaning.Callee) → IsCallee m t c k → params_of k ≡ length t.params
  callee_type (Import name) t k h = ap params_of h
  callee_type (Own body place) t k h = ap params_of h.is_callee

  type_is : (f : ℕ) (g : Function) (t : FunctionType) (h : slice_get functions f ≡ Some g) → slice_get m.types g.kind ≡ Some t → (function_is f g h).type ≡ t
  type_is f g t h found = some_is (sym (function_is f g h).found ∙ found)

  pub callee_is : (f : ℕ) (g : Function) (t : FunctionType) → slice_get functions f ≡ Some g → slice_get m.types g.kind ≡ Some t → IsCallee m t g.callee (callee_at m f)
  callee_is f g t h found = subst (λ t. IsCallee m t g.callee (callee_at m f)) (type_is f g t h found) (function_is f g h).callee

  pub call_finds_none : (v : MachinePlain) (f n : ℕ) (r : Outcome) → slice_get functions f ≡ None → Calls (bodies_of functions) m v (callee_at m f) n r → r ≡ Stuck v.store
  call_finds_none v f n r h s = call_is_lost (bodies_of functions) m v n r (subst (λ c. Calls (bodies_of functions) m v c n r) (no_function f h) s)

  pub call_wants : (v : MachinePlain) (f n : ℕ) (r : Outcome) (g : Function) (t : FunctionType) → slice_get functions f ≡ Some g → slice_get m.types g.kind ≡ Some t
      → top_of (length t.params) v.values ≡ None → Calls (bodies_of functions) m v (callee_at m f) n r → r ≡ Stuck v.store
  call_wants v f n r g t h found none s =
      call_sticks (bodies_of functions) m v (callee_at m f) n r (ap (λ k. top_of k v.values) (callee_type g.callee t (callee_at m f) (callee_is f g t h found)) ∙ none) s

  asks_of : (v : MachinePlain) (n : ℕ) (r : Outcome) (t : FunctionType) (c : Callee) (name : List ℕ) (k : Option meaning.Callee) (arguments middle below : List Word)
      → k ≡ Some (an_import name t)
      → top_of (length t.params) v.values ≡ Some (reverse arguments) → middle ≡ below_top (length t.params) v.values → below ≡ v.below
      → Calls (bodies_of functions) m v k n r → Asks (bodies_of functions) m (record v { values = middle; below = below }) name arguments t.results n r
  asks_of v n r t c name k arguments middle below is top mid bs s =
      import_asks (bodies_of functions) m v n r name t arguments middle below top mid bs (subst (λ k. Calls (bodies_of functions) m v k n r) is s)

  pub call_asks : (v : MachinePlain) (f n : ℕ) (r : Outcome) (g : Function) (t : FunctionType) (name : Text) (arguments middle below : List Word)
      → slice_get functions f ≡ Some g → slice_get m.types g.kind ≡ Some t → g.callee ≡ Import name
      → top_of (length t.params) v.values ≡ Some (reverse arguments) → middle ≡ below_top (length t.params) v.values → below ≡ v.below
      → Calls (bodies_of functions) m v (callee_at m f) n r → Asks (bodies_of functions) m (record v { values = middle; below = below }) (text_bytes name) arguments t.results n r
  call_asks v f n r g t name arguments middle below h found is top mid bs s =
      let c : IsCallee m t (Import name) (callee_at m f) = subst (λ c. IsCallee m t c (callee_at m f)) is (callee_is f g t h found) in
      asks_of v n r t g.callee (text_bytes name) (callee_at m f) arguments middle below c top mid bs s

  own_is : (f : ℕ) (g : Function) (t : FunctionType) (body : Body) (place : ℕ) → slice_get functions f ≡ Some g → slice_get m.types g.kind ≡ Some t
      → g.callee ≡ Own body place → IsOwn m t body place (callee_at m f)
  own_is f g t body place h found is = subst (λ c. IsCallee m t c (callee_at m f)) is (callee_is f g t h found)

  pub has_body : (f : ℕ) (g : Function) (t : FunctionType) (body : Body) (place : ℕ) → slice_get functions f ≡ Some g → slice_get m.types g.kind ≡ Some t
      → g.callee ≡ Own body place → slice_get m.bodies place ≡ None → ⊥
  has_body f g t body place h found is none = let o = own_is f g t body place h found is in let e : Some o.entry ≡ None = sym o.found ∙ none in cc e

  pub call_enters : (v w : MachinePlain) (f n : ℕ) (r : Outcome) (g : Function) (t : FunctionType) (body : Body) (place : ℕ) (entry : FunctionBody) (more : List ValType) (arity : ℕ) (arguments middle below : List Word)
      → more ≡ entry.locals → arity ≡ length t.results
      → slice_get functions f ≡ Some g → slice_get m.types g.kind ≡ Some t → g.callee ≡ Own body place → slice_get m.bodies place ≡ Some entry
      → top_of (length t.params) v.values ≡ Some (reverse arguments) → middle ≡ below_top (length t.params) v.values → below ≡ v.below
      → w ≡ record v {
        values = [];
        below = middle ++ below;
        locals = arguments ++ zeros_of more;
        function = f;
        at = 0;
        enclosing = of_frame (record { function = v.function; at = v.at; locals = v.locals; arity = arity; floor = length below }) ∷ v.enclosing;
      }
      → Calls (bodies_of functions) m v (callee_at m f) n r → Shows (bodies_of functions) m w n r
  call_enters v w f n r g t body place entry more arity arguments middle below me ae h found is there top mid bs new s =
      let inside : List ValType → ℕ → MachinePlain = λ more arity. record v {
        values = [];
        below = middle ++ below;
        locals = arguments ++ zeros_of more;
        function = f;
        at = 0;
        enclosing = of_frame (record { function = v.function; at = v.at; locals = v.locals; arity = arity; floor = length below }) ∷ v.enclosing;
      } in
      let all : w ≡ inside entry.locals (length t.results) = new ∙ ap (λ more. inside more arity) me ∙ ap (inside entry.locals) ae in
      let o = own_is f g t body place h found is in
      let same : o.entry ≡ entry = some_is (sym o.found ∙ there) in
      let flat : bodies_of functions f ≡ body = ap body_of_function h ∙ ap body_of_callee is in
      let begins : Begins (bodies_of functions f) o.code = subst (λ b. Begins b o.code) (sym flat) (tree_stands body o.code o.tree) in
      let called : Calls (bodies_of functions) m v (Some (a_function t o.entry.locals o.code)) n r = subst (λ c. Calls (bodies_of functions) m v c n r) o.is_callee s in
      subst (λ w. Shows (bodies_of functions) m w n r) (sym all)
      (function_shows (bodies_of functions) m v f n r t o.entry.locals o.code arguments (arguments ++ zeros_of entry.locals) middle [] below (middle ++ below) (length below)
      top mid bs refl refl refl (ap (λ e. arguments ++ zeros_of e.locals) (sym same)) begins called)

  -- ---- types

  callee_of_type : (c : Callee) (t u : FunctionType) (k : Option meaning.Callee) → IsCallee m u c k → of_type (Some t) k ≡ same_type t u
  callee_of_type (Import name) t u k h = ap (of_type (Some t)) h
  callee_of_type (Own body place) t u k h = ap (of_type (Some t)) h.is_callee

  pub no_function_has_type : (f kind : ℕ) → slice_get functions f ≡ None → of_type (slice_get m.types kind) (callee_at m f) ≡ false
  no_function_has_type f kind h = ap (of_type (slice_get m.types kind)) (no_function f h) ∙ none_has_type (slice_get m.types kind)
    where
      none_has_type : (o : Option FunctionType) → of_type o None ≡ false
      none_has_type None = refl
      none_has_type (Some t) = refl

  pub no_type_is_had : (f kind : ℕ) → slice_get m.types kind ≡ None → of_type (slice_get m.types kind) (callee_at m f) ≡ false
  no_type_is_had f kind h = ap (λ o. of_type o (callee_at m f)) h

  pub function_has_type : (f kind : ℕ) (g : Function) (t u : FunctionType) → slice_get functions f ≡ Some g → slice_get m.types kind ≡ Some t → slice_get m.types g.kind ≡ Some u
      → of_type (slice_get m.types kind) (callee_at m f) ≡ same_type t u
  function_has_type f kind g t u h found has = ap (λ o. of_type o (callee_at m f)) found ∙ callee_of_type g.callee t u (callee_at m f) (callee_is f g u h has)
