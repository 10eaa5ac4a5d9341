-- Words that are read byte by byte.
use Rattle.std.proofs.Common.{◌≡◌, ℕ, ◌≤◌, false, List, [], ◌∷◌, Option, Some, None, refl, sym, ◌∙◌, subst}
use Rattle.sem_words.specs.declared.js_value.JsValue.{JsValue}
use Rattle.sem_words.specs.JsValues.{to_uint32_of}
use Rattle.sem_words.specs.JsOperators.{signed_value}
use Rattle.asm_lang.specs.Modules.{Function, Module}
use Rattle.asm_lang_valid.specs.declared.meaning.Element.TheVariants.{Uint8}
use Rattle.asm_lang_valid.specs.Scope.{a_view}
use Rattle.asm_lang_valid.specs.Typing.{named}
use Rattle.asm_lang_valid.specs.Typed.{scope_of}
use Rattle.asm_lang_exec.specs.Runs.{Binding, binding, Place}
use Rattle.asm_lang_exec.specs.Meaning.{exec_all, first_locals, call_at}
use Rattle.wasm2js_translation.specs.Names.{spelled, view_of_bytes}
use Rattle.wasm2js_translation.specs.Words.{name_of}
use Rattle.wasm2js_translation.specs.Helpers as code
use Rattle.wasm2js_translation.specs.Helpers.{gives, argument}
use Rattle.wasm2js_laws_places.specs.Straight as answers
use Rattle.wasm2js_laws_places.specs.Places.{word_at, IsHeap}
use Rattle.wasm2js_laws_places.specs.Helped.{Helps}
use Rattle.wasm2js_laws_helpers.proofs.Called.{Returns, placed, called}
use Rattle.wasm2js_laws_helpers.proofs.Computed.{Known, given}
use Rattle.wasm2js_laws_helpers.proofs.Bodies.{set_then}
use Rattle.wasm2js_laws_helpers.proofs.Turned.{marked_word, the_locals}
use Rattle.wasm2js_laws_helpers.specs.Access.Answers.{low_word_in, high_word_in, loaded_word, loaded_words}
use Rattle.wasm2js_laws_helpers.specs.Access.Laws.{HasBytes, load_32_function, load_64_function, LoadWordHelps, LoadWordsHelp}

-- the variables of a helper with one argument
abbrev one_local : (a : JsValue) → List Binding
one_local a = binding (spelled (argument 0)) a ∷ []

abbrev locals_of : List JsValue → Option (List Binding)
locals_of (v ∷ []) = Some (one_local (signed_value (to_uint32_of v)))
locals_of _ = None

first_load_32 : (vs : List JsValue) → first_locals load_32_function vs ≡ locals_of vs
first_load_32 [] = refl
first_load_32 (v ∷ []) = refl
first_load_32 (v ∷ w ∷ more) = refl

first_load_64 : (vs : List JsValue) → first_locals load_64_function vs ≡ locals_of vs
first_load_64 [] = refl
first_load_64 (v ∷ []) = refl
first_load_64 (v ∷ w ∷ more) = refl

-- the argument as the body finds it
abbrev marked : JsValue → JsValue
marked v = signed_value (to_uint32_of v)

module _ (m : Module) (has : HasBytes m) (v : JsValue) (p : Place) (d n : ℕ) where
  abbrev here : Place
  here = placed p n (one_local (marked v))

  known_low : (g : Function) (globals : List Binding) → named (scope_of m g) (name_of view_of_bytes) ≡ a_view Uint8
      → Known (call_at false m d) (scope_of m g) (word_at here) (record here { globals = globals }) (code.word_at 0)
  known_low g globals is =
      ((is, (refl, refl)), (((is, ((refl, refl), (tt, tt))), tt), (((is, ((refl, refl), (tt, tt))), tt), (((is, ((refl, refl), (tt, tt))), tt), tt))))

  known_high : (g : Function) (globals : List Binding) → named (scope_of m g) (name_of view_of_bytes) ≡ a_view Uint8
      → Known (call_at false m d) (scope_of m g) (word_at here) (record here { globals = globals }) (code.word_at 4)
  known_high g globals is =
      ((is, ((refl, refl), (tt, tt))), (((is, ((refl, refl), (tt, tt))), tt), (((is, ((refl, refl), (tt, tt))), tt), (((is, ((refl, refl), (tt, tt))), tt), tt))))

  word_body : Returns (low_word_in p.heap (to_uint32_of (marked v))) None here (exec_all false (call_at false m d) (scope_of m load_32_function) d load_32_function.body here)
  word_body = given (call_at false m d) (scope_of m load_32_function) (word_at here) here d (code.word_at 0) [] (known_low load_32_function here.globals has)

  words_body : Returns (low_word_in p.heap (to_uint32_of (marked v))) (Some (high_word_in p.heap (to_uint32_of (marked v)))) here
      (exec_all false (call_at false m d) (scope_of m load_64_function) d load_64_function.body here)
  words_body =
      set_then (call_at false m d) (scope_of m load_64_function) d (word_at here) (code.word_at 4) (gives (code.word_at 0) ∷ [])
      (low_word_in p.heap (to_uint32_of (marked v))) here refl (known_high load_64_function here.globals has)
      (λ globals. given (call_at false m d) (scope_of m load_64_function) (word_at here) (record here { globals = globals }) d (code.word_at 0) []
      (known_low load_64_function globals has))

module _ (m : Module) (has : HasBytes m) (bound bytes : ℕ) where
  no_word : (vs : List JsValue) (p : Place) → locals_of vs ≡ None → IsHeap bytes p.heap → p.units ≤ bound
      → Helps bytes (answers.gives 0 None p.heap) 1 p (call_at false m bound load_32_function vs p)
  no_word vs p none heap le = called m load_32_function bytes vs 0 None bound p heap le (λ d n locals is. let e = first_load_32 vs in absurd (cc (is, e, none)))

  no_words : (vs : List JsValue) (p : Place) → locals_of vs ≡ None → IsHeap bytes p.heap → p.units ≤ bound
      → Helps bytes (answers.gives 0 None p.heap) 1 p (call_at false m bound load_64_function vs p)
  no_words vs p none heap le = called m load_64_function bytes vs 0 None bound p heap le (λ d n locals is. let e = first_load_64 vs in absurd (cc (is, e, none)))

  one_word : (v : JsValue) (p : Place) → IsHeap bytes p.heap → p.units ≤ bound
      → Helps bytes (loaded_word (to_uint32_of v ∷ []) p.heap) 1 p (call_at false m bound load_32_function (v ∷ []) p)
  one_word v p heap le =
      called m load_32_function bytes (v ∷ []) (low_word_in p.heap (to_uint32_of v)) None bound p heap le
      (λ d n locals is. subst (λ locals. Returns (low_word_in p.heap (to_uint32_of v)) None (placed p n locals) (exec_all false (call_at false m d) (scope_of m load_32_function) d load_32_function.body (placed p n locals)))
      (sym (the_locals locals (one_local (marked v)) (sym is ∙ first_load_32 (v ∷ []))))
      (subst (λ x. Returns (low_word_in p.heap x) None (here m has v p d n) (exec_all false (call_at false m d) (scope_of m load_32_function) d load_32_function.body (here m has v p d n))) (marked_word v) (word_body m has v p d n)))

  both_words : (v : JsValue) (p : Place) → IsHeap bytes p.heap → p.units ≤ bound
      → Helps bytes (loaded_words (to_uint32_of v ∷ []) p.heap) 1 p (call_at false m bound load_64_function (v ∷ []) p)
  both_words v p heap le =
      called m load_64_function bytes (v ∷ []) (low_word_in p.heap (to_uint32_of v)) (Some (high_word_in p.heap (to_uint32_of v))) bound p heap le
      (λ d n locals is. subst (λ locals. Returns (low_word_in p.heap (to_uint32_of v)) (Some (high_word_in p.heap (to_uint32_of v))) (placed p n locals) (exec_all false (call_at false m d) (scope_of m load_64_function) d load_64_function.body (placed p n locals)))
      (sym (the_locals locals (one_local (marked v)) (sym is ∙ first_load_64 (v ∷ []))))
      (subst (λ x. Returns (low_word_in p.heap x) (Some (high_word_in p.heap x)) (here m has v p d n) (exec_all false (call_at false m d) (scope_of m load_64_function) d load_64_function.body (here m has v p d n))) (marked_word v) (words_body m has v p d n)))

pub load_word_helps : LoadWordHelps
load_word_helps m has bound bytes [] p heap le = no_word m has bound bytes [] p refl heap le
load_word_helps m has bound bytes (v ∷ []) p heap le = one_word m has bound bytes v p heap le
load_word_helps m has bound bytes (v ∷ w ∷ more) p heap le = no_word m has bound bytes (v ∷ w ∷ more) p refl heap le

pub load_words_help : LoadWordsHelp
load_words_help m has bound bytes [] p heap le = no_words m has bound bytes [] p refl heap le
load_words_help m has bound bytes (v ∷ []) p heap le = both_words m has bound bytes v p heap le
load_words_help m has bound bytes (v ∷ w ∷ more) p heap le = no_words m has bound bytes (v ∷ w ∷ more) p refl heap le
