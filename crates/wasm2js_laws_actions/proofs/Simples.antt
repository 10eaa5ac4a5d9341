-- Each simple action does what its words say.
use Rattle.std.proofs.Common.{◌≡◌, ℕ, ◌+◌, ◌%◌, ◌^◌, ◌<◌, ◌≤◌, Bool, true, false, List, [], ◌∷◌, length, ℤ, pos, refl, sym, ap, ◌∙◌, subst, arith}
use Rattle.std.proofs.Math.Path.{fun_ext}
use Rattle.std.specs.Prelude.{map, nat_lt, if◌then◌else◌}
use Rattle.std.specs.Int.Bits.{bit_or, or_zero_r}
use Rattle.sem_words.specs.declared.word.Bin.TheVariants as bins
use Rattle.sem_words.specs.declared.word.Word.TheVariants.{W32}
use Rattle.sem_words.specs.declared.js_value.JsValue.{JsValue}
use Rattle.sem_words.specs.declared.js_value.JsValue.TheVariants.{Whole, Bool as Boolean}
use Rattle.sem_words.specs.declared.js_value.JsOp.TheVariants.{Or, Gt}
use Rattle.sem_words.specs.JsValues.{to_uint32_of, truthy_of}
use Rattle.sem_words.specs.JsOperators.{js_binary_of, signed_value, unsigned_value}
use Rattle.sem_words.proofs.WordLaws.{word_of-signed_of_32}
use Rattle.heap_lang.specs.declared.kind.ViewKind.{ViewKind}
use Rattle.heap_lang.specs.declared.kind.ViewKind.TheVariants.{U8, I32}
use Rattle.heap_lang.specs.Heap.{store}
use Rattle.session_lang.specs.Observation.{stopped, trap_name}
use Rattle.asm_lang.specs.Modules.{Expr, lit, Stmt, plain}
use Rattle.asm_lang.specs.Modules as text
use Rattle.asm_lang_valid.specs.declared.meaning.Element.{Element}
use Rattle.asm_lang_valid.specs.declared.meaning.Element.TheVariants.{Uint8, Int32}
use Rattle.asm_lang_valid.specs.Scope.{Meaning, a_foreign, a_view}
use Rattle.asm_lang_valid.specs.Typing.{Scope, named}
use Rattle.asm_lang_exec.specs.Runs as runs
use Rattle.asm_lang_exec.specs.Runs.{Place, Run, spent, wrong, Part, after, and_then, defined, write}
use Rattle.asm_lang_exec.specs.Values.{Calls, call_named, write_element, kind_of}
use Rattle.asm_lang_exec.specs.Meaning.{eval, eval_all, Completion, normal, exec}
use Rattle.wasm2js_translation.specs.Names.{Name, Fixed, trap, view_of_bytes, view_of_words, spelled}
use Rattle.wasm2js_translation.specs.Words.{Term, Simple, put, ask, tell, guard, stop, write_byte, write_whole, name_of, natural, indexed, expr, int_of, arguments, put_in, trap_call, simple_statement}
use Rattle.wasm2js_laws_terms.specs.Sound.{IsSound, AllSound, IsHelper, HasTrap, IsSoundSimple}
use Rattle.wasm2js_laws_places.specs.Straight.{Words, with_word, value, values, index_at, is_helper, AsksHelpers, Answer, gives, traps, Helping, with_high, Outcome, goes, stops, asked, told, run_simple, simple_units}
use Rattle.wasm2js_laws_places.specs.Places.{word_at, AreApart, IsHeap}
use Rattle.wasm2js_laws_places.specs.Helped.{IsOn, Does, Helps, AreHelpers}
use Rattle.wasm2js_laws_actions.proofs.Numbers.{same_word, small, bound_found}
use Rattle.wasm2js_laws_actions.proofs.Reading.{read_then, all_then, found_then}
use Rattle.wasm2js_laws_actions.proofs.Typed.{sound_named}
use Rattle.wasm2js_laws_actions.proofs.Evaluated.{expr_read, int_read, arguments_read, number_then, index_then}
use Rattle.wasm2js_laws_actions.proofs.Doing.{apart_kept, leaves_done, write_leaves, store_is_on, still_on, wrong_does, done_further}

-- ---- helpers

told_done : (bytes : ℕ) (a : Answer) (u : ℕ) (p : Place) (r : Run JsValue) → Helps bytes a u p r → Does bytes (told a (word_at p) p.heap) u p (after r (λ v. runs.gives normal))
told_done bytes (gives word high heap) u p (runs.goes v q) h = (refl, h.1)
told_done bytes (gives word high heap) u p (runs.stops e q) h = absurd h
told_done bytes (gives word high heap) u p (spent q) h = h
told_done bytes (gives word high heap) u p wrong h = tt
told_done bytes (traps kind) u p (runs.goes v q) h = absurd h
told_done bytes (traps kind) u p (runs.stops e q) h = h
told_done bytes (traps kind) u p (spent q) h = h
told_done bytes (traps kind) u p wrong h = tt

-- `v|0` of what a helper gives
signed_word : (v : JsValue) → to_uint32_of (signed_value (bit_or (to_uint32_of v) 0)) ≡ to_uint32_of v
signed_word v = word_of-signed_of_32 _ (small bins.Or v (Whole (pos 0))) ∙ or_zero_r (to_uint32_of v)

module _ (bytes : ℕ) (n : Name) where
  -- the word that is given, in its variable
  put_after : (word u : ℕ) (w : Words) (heap : List ℕ) (x : JsValue) (p q : Place) → AreApart p → to_uint32_of x ≡ word → IsOn bytes w heap u p q
      → Does bytes (goes (with_word n word w) heap) u p (after (write (spelled n) x q) (λ v. runs.gives normal))
  put_after word u w heap x p q apart e on =
      let words : word_at q ≡ w = fun_ext on.has_words in
      let is_heap : IsHeap bytes q.heap = subst (IsHeap bytes) (sym on.has_heap) on.is_heap in
      let written = leaves_done bytes (with_word n (to_uint32_of x) (word_at q)) q.heap q (write (spelled n) x q) (write_leaves bytes n x q (apart_kept p q on.locals on.globals apart) is_heap) in
      let all = done_further bytes w heap (goes (with_word n (to_uint32_of x) (word_at q)) q.heap) u 0 p q (after (write (spelled n) x q) (λ v. runs.gives normal)) on written in
      let o : goes (with_word n (to_uint32_of x) (word_at q)) q.heap ≡ goes (with_word n word w) heap = ap (λ y. goes (with_word n y (word_at q)) q.heap) e ∙ ap (λ y. goes (with_word n word y) q.heap) words ∙ ap (goes (with_word n word w)) on.has_heap in
      let same : u + 0 ≡ u = omega arith in
      subst (λ t. Does bytes (goes (with_word n word w) heap) t p (after (write (spelled n) x q) (λ v. runs.gives normal))) same
      (subst (λ o. Does bytes o (u + 0) p (after (write (spelled n) x q) (λ v. runs.gives normal))) o all)

module _ (calls : Calls) (c : Scope) (turns bound bytes : ℕ) (helping : Helping) (helpers : AreHelpers c calls bound bytes helping) where
  abbrev ev : Expr → Part JsValue
  ev e = eval false calls c e

  abbrev ex : Stmt → Part Completion
  ex s = exec false calls c turns [] s

  helped : (f : Fixed) (params : ℕ) (result : Bool) (xs : List ℕ) (p : Place) → is_helper f ≡ true → IsHelper c f params result → IsHeap bytes p.heap → p.units ≤ bound → (vs : List JsValue)
      → map to_uint32_of vs ≡ xs → Helps bytes (helping.answer f xs p.heap) (helping.cost f xs) p (call_named calls (named c (name_of f)) vs p)
  helped f params result xs p is h heap le vs e =
      subst (λ m. Helps bytes (helping.answer f xs p.heap) (helping.cost f xs) p (call_named calls m vs p)) (sym h.is_this)
      (subst (λ xs. Helps bytes (helping.answer f xs p.heap) (helping.cost f xs) p (calls h.function vs p)) e (helpers f h.function is h.is_this vs p heap le))

  abbrev then_signed : JsValue → Part JsValue
  then_signed v = and_then (ev (lit (pos 0))) (λ w. defined (js_binary_of Or v w))

  asked_done : (n : Name) (a : Answer) (u : ℕ) (p : Place) (r : Run JsValue) → AreApart p → Helps bytes a u p r
      → Does bytes (asked n a (word_at p) p.heap) u p (after (after (after r then_signed) (λ v. write (spelled n) v)) (λ v. runs.gives normal))
  asked_done n (gives word high heap) u p (runs.goes v q) apart h =
      put_after bytes n word u (with_high high (word_at p)) heap (signed_value (bit_or (to_uint32_of v) 0)) p q apart (signed_word v ∙ h.0) h.1
  asked_done n (gives word high heap) u p (runs.stops e q) apart h = absurd h
  asked_done n (gives word high heap) u p (spent q) apart h = h
  asked_done n (gives word high heap) u p wrong apart h = tt
  asked_done n (traps kind) u p (runs.goes v q) apart h = absurd h
  asked_done n (traps kind) u p (runs.stops e q) apart h = h
  asked_done n (traps kind) u p (spent q) apart h = h
  asked_done n (traps kind) u p wrong apart h = tt

  -- ---- traps

  trap_called : (kind : ℕ) (p : Place) → kind < 2 ^ 31 → (m : Meaning) → m ≡ a_foreign (name_of trap)
      → Does bytes (stops kind p.heap) 0 p (after (call_named calls m (Whole (pos kind) ∷ []) p) (λ v. runs.gives normal))
  trap_called kind p low m is =
      subst (λ m. Does bytes (stops kind p.heap) 0 p (after (call_named calls m (Whole (pos kind) ∷ []) p) (λ v. runs.gives normal))) (sym is)
      (record { end = ap (λ k. stopped trap_name (W32 k ∷ [])) (same_word kind (omega (arith, low))); has_heap = refl; events = refl })

  pub trap_done : (kind : ℕ) (p : Place) → HasTrap c → kind < 2 ^ 31 → Does bytes (stops kind p.heap) 0 p (ex (trap_call kind) p)
  trap_done kind p has low = trap_called kind p low (named c (name_of trap)) has

  module _ (t : Term) (most kind : ℕ) (p : Place) where
    abbrev guarded : Outcome
    guarded = if nat_lt most (value t (word_at p) p.heap) then stops kind p.heap else goes (word_at p) p.heap

    abbrev guard_next : JsValue → Part Completion
    guard_next v = if truthy_of v then ex (trap_call kind) else runs.gives normal

    guard_pick : HasTrap c → kind < 2 ^ 31 → IsHeap bytes p.heap → (b : Bool)
        → Does bytes (if b then stops kind p.heap else goes (word_at p) p.heap) 0 p ((if b then ex (trap_call kind) else runs.gives normal) p)
    guard_pick has low heap true = trap_done kind p has low
    guard_pick has low heap false = (refl, still_on bytes p heap)

    guard_done : IsSound c t → HasTrap c → kind < 2 ^ 31 → AreApart p → IsHeap bytes p.heap → Does bytes guarded 0 p (ex (simple_statement (guard t most kind)) p)
    guard_done s has low apart heap =
        let x : ℕ = value t (word_at p) p.heap in
        let P : Run Completion → Type 0 = λ r. Does bytes guarded 0 p r in
        number_then calls c false t x p (λ r. P (after r guard_next)) (λ v. and_then (ev (natural most)) (λ w. defined (js_binary_of Gt v w))) (wrong_does bytes guarded 0 p)
        (sound_named c t s) (expr_read calls c t p s apart)
        (λ f. found_then P (Boolean (nat_lt most x)) p (defined (js_binary_of Gt (unsigned_value x) (unsigned_value most)) p) guard_next (wrong_does bytes guarded 0 p) (bound_found x most p)
        (guard_pick has low heap (nat_lt most x)))

  -- ---- the heap

  element_set : (m : Meaning) (v : Element) (kind : ViewKind) (i : ℤ) (x : JsValue) (y : ℕ) (p : Place) → m ≡ a_view v → kind_of v ≡ kind → to_uint32_of x ≡ y → IsHeap bytes p.heap
      → Does bytes (goes (word_at p) (store kind i y p.heap)) 0 p (after (write_element m (Whole i) x p) (λ v. runs.gives normal))
  element_set m v kind i x y p view is e heap =
      subst (λ m. Does bytes (goes (word_at p) (store kind i y p.heap)) 0 p (after (write_element m (Whole i) x p) (λ v. runs.gives normal))) (sym view)
      (subst (λ k. Does bytes (goes (word_at p) (store k i y p.heap)) 0 p (after (write_element (a_view v) (Whole i) x p) (λ v. runs.gives normal))) is
      (subst (λ y. Does bytes (goes (word_at p) (store (kind_of v) i y p.heap)) 0 p (after (write_element (a_view v) (Whole i) x p) (λ v. runs.gives normal))) e
      (refl, store_is_on bytes (kind_of v) i (to_uint32_of x) p heap)))

  element_done : (n : List ℕ) (v : Element) (kind : ViewKind) (k : ℕ) (at t : Term) (p : Place) → named c n ≡ a_view v → kind_of v ≡ kind → to_uint32_of (Whole (pos k)) % 32 ≡ k
      → IsSound c at → IsSound c t → AreApart p → IsHeap bytes p.heap
      → Does bytes (goes (word_at p) (store kind (index_at k (value at (word_at p) p.heap)) (value t (word_at p) p.heap) p.heap)) 0 p (ex (plain (text.store n (indexed k (expr at)) (int_of t))) p)
  element_done n v kind k at t p view is counts s r apart heap =
      let i : ℤ = index_at k (value at (word_at p) p.heap) in
      let o : Outcome = goes (word_at p) (store kind i (value t (word_at p) p.heap) p.heap) in
      index_then calls c k (expr at) (value at (word_at p) p.heap) p (λ r. Does bytes o 0 p (after r (λ v. runs.gives normal))) (λ x. and_then (ev (int_of t)) (λ v. write_element (named c n) x v)) counts tt
      (expr_read calls c at p s apart)
      (read_then (λ r. Does bytes o 0 p (after r (λ v. runs.gives normal))) (value t (word_at p) p.heap) p (ev (int_of t) p) (λ v. write_element (named c n) (Whole i) v) tt
      (int_read calls c t p r apart) (λ x e. element_set (named c n) v kind i x (value t (word_at p) p.heap) p view is e heap))

  -- ---- variables and helpers

  put_done : (n : Name) (t : Term) (p : Place) → IsSound c t → AreApart p → IsHeap bytes p.heap
      → Does bytes (goes (with_word n (value t (word_at p) p.heap) (word_at p)) p.heap) 0 p (ex (put_in n (int_of t)) p)
  put_done n t p s apart heap =
      let x : ℕ = value t (word_at p) p.heap in
      read_then (λ r. Does bytes (goes (with_word n x (word_at p)) p.heap) 0 p (after r (λ v. runs.gives normal))) x p (ev (int_of t) p) (λ v. write (spelled n) v) tt (int_read calls c t p s apart)
      (λ v e. subst (λ y. Does bytes (goes (with_word n y (word_at p)) p.heap) 0 p (after (write (spelled n) v p) (λ v. runs.gives normal))) e
      (leaves_done bytes (with_word n (to_uint32_of v) (word_at p)) p.heap p (write (spelled n) v p) (write_leaves bytes n v p apart heap)))

  module _ (f : Fixed) (ts : List Term) (p : Place) where
    abbrev the_words : List ℕ
    the_words = values ts (word_at p) p.heap

    abbrev the_answer : Answer
    the_answer = helping.answer f the_words p.heap

    tell_done : is_helper f ≡ true → IsHelper c f (length ts) false → AllSound c ts → AreApart p → IsHeap bytes p.heap → p.units ≤ bound
        → Does bytes (told the_answer (word_at p) p.heap) (helping.cost f the_words) p (ex (simple_statement (tell f ts)) p)
    tell_done is h s apart heap le =
        let o : Outcome = told the_answer (word_at p) p.heap in
        all_then (λ r. Does bytes o (helping.cost f the_words) p (after r (λ v. runs.gives normal))) the_words p (eval_all false calls c (arguments ts) p)
        (λ vs. call_named calls (named c (name_of f)) vs) (wrong_does bytes o (helping.cost f the_words) p) (arguments_read calls c ts p s apart)
        (λ vs e. told_done bytes the_answer (helping.cost f the_words) p (call_named calls (named c (name_of f)) vs p) (helped f (length ts) false the_words p is h heap le vs e))

    ask_done : (n : Name) → is_helper f ≡ true → IsHelper c f (length ts) true → AllSound c ts → AreApart p → IsHeap bytes p.heap → p.units ≤ bound
        → Does bytes (asked n the_answer (word_at p) p.heap) (helping.cost f the_words) p (ex (simple_statement (ask n f ts)) p)
    ask_done n is h s apart heap le =
        let o : Outcome = asked n the_answer (word_at p) p.heap in
        all_then (λ r. Does bytes o (helping.cost f the_words) p (after (after (after r then_signed) (λ v. write (spelled n) v)) (λ v. runs.gives normal))) the_words p
        (eval_all false calls c (arguments ts) p) (λ vs. call_named calls (named c (name_of f)) vs) (wrong_does bytes o (helping.cost f the_words) p) (arguments_read calls c ts p s apart)
        (λ vs e. asked_done n the_answer (helping.cost f the_words) p (call_named calls (named c (name_of f)) vs p) apart (helped f (length ts) true the_words p is h heap le vs e))

  -- ---- each simple action

  pub simple_done : (s : Simple) (p : Place) → IsSoundSimple c s → AsksHelpers s → AreApart p → IsHeap bytes p.heap → p.units ≤ bound
      → Does bytes (run_simple helping s (word_at p) p.heap) (simple_units helping s (word_at p) p.heap) p (ex (simple_statement s) p)
  simple_done (put n t) p s is apart heap le = put_done n t p s.1 apart heap
  simple_done (ask n f ts) p s is apart heap le = ask_done f ts p n is s.1 s.2 apart heap le
  simple_done (tell f ts) p s is apart heap le = tell_done f ts p is s.0 s.1 apart heap le
  simple_done (guard t most kind) p s is apart heap le = let k = s.2 in guard_done t most kind p s.0 k.0 k.1 apart heap
  simple_done (stop kind) p s is apart heap le = trap_done kind p s.0 s.1
  simple_done (write_byte at t) p s is apart heap le = element_done (name_of view_of_bytes) Uint8 U8 0 at t p s.0 refl refl s.1 s.2 apart heap
  simple_done (write_whole at t) p s is apart heap le = element_done (name_of view_of_words) Int32 I32 2 at t p s.0 refl refl s.1 s.2 apart heap
