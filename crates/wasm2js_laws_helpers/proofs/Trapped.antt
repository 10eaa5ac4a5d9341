-- Bodies that divide, after their tests.
use Rattle.std.proofs.Common.{◌≡◌, ℕ, ◌^◌, ◌<◌, Bool, true, false, List, [], ◌∷◌, Some, None, Result, Ok, Err, ℤ, ◌-ℤ◌, refl, ap, arith}
use Rattle.std.specs.Prelude.{if◌then◌else◌, ◌==◌, option_map}
use Rattle.std.proofs.lemmas.Bool.Decides.{nat_tests}
use Rattle.std.proofs.lemmas.Int.{ints}
use Rattle.sem_words.specs.declared.word.Word.TheVariants.{W32}
use Rattle.sem_words.specs.declared.word.TrapKind.{TrapKind}
use Rattle.sem_words.specs.declared.word.TrapKind.TheVariants.{ZeroDivisor, Overflow}
use Rattle.sem_words.specs.declared.js_value.JsValue.{JsValue}
use Rattle.sem_words.specs.declared.js_value.JsValue.TheVariants.{Bool as Boolean}
use Rattle.sem_words.specs.declared.js_value.JsOp.TheVariants.{Eq}
use Rattle.sem_words.specs.JsValues.{to_uint32_of}
use Rattle.sem_words.specs.JsOperators.{is_zero, are_alike, js_binary_of, signed_value}
use Rattle.sem_words.specs.Words.{word_of, signed_of, trap_code}
use Rattle.session_lang.specs.Observation.{stopped, trap_name}
use Rattle.asm_lang.specs.Modules.{Stmt}
use Rattle.asm_lang_valid.specs.Scope.{a_foreign}
use Rattle.asm_lang_valid.specs.Typing.{Scope, named}
use Rattle.asm_lang_exec.specs.Runs.{Place, Run, goes, stops, wrong, Part, after, and_then, defined}
use Rattle.asm_lang_exec.specs.Values.{Calls}
use Rattle.asm_lang_exec.specs.Meaning.{eval, Completion, returned, unless_left, exec, exec_all}
use Rattle.wasm2js_translation.specs.Names.{trap}
use Rattle.wasm2js_translation.specs.Words.{name_of, equal, Term, number, compare, as_number, expr, trap_call, stmts_in}
use Rattle.wasm2js_laws_actions.specs.Reads.{Reads, Finds}
use Rattle.wasm2js_laws_actions.proofs.Numbers.{number_value}
use Rattle.wasm2js_laws_actions.proofs.Reading.{found_then}
use Rattle.wasm2js_laws_actions.proofs.Typed.{IsNamed}
use Rattle.wasm2js_laws_actions.proofs.Evaluated.{number_then}

-- a value of the word is returned, or the trap was called
abbrev pub Comes : Result ℕ TrapKind → Place → Run Completion → Type 0
Comes (Ok n) p (goes (returned v) q) = (to_uint32_of v ≡ n) × (q ≡ p)
Comes (Err k) p (stops e q) = (e ≡ stopped trap_name (W32 (trap_code k) ∷ [])) × (q ≡ p)
Comes r p wrong = Unit {0}
Comes r p o = ⊥

pub nothing_wrong : (r : Result ℕ TrapKind) (p : Place) → Comes r p wrong
nothing_wrong (Ok n) p = tt
nothing_wrong (Err k) p = tt

equal_signed : (x y : ℕ) → x < 2 ^ 32 → y < 2 ^ 32 → is_zero (signed_of 32 x -ℤ signed_of 32 y) ≡ (x == y)
equal_signed x y f g = grind (arith, ints, nat_tests)

equal_found : (x y : ℕ) (p : Place) → x < 2 ^ 32 → y < 2 ^ 32 → Finds (Boolean (x == y)) p (defined (js_binary_of Eq (signed_value x) (signed_value y)) p)
equal_found x y p f g = by (are_alike (signed_of 32 x) (signed_of 32 y))
  where
    by : (alike : Bool) → Finds (Boolean (x == y)) p (defined (option_map (λ (p : ℤ × ℤ). Boolean (is_zero (p.0 -ℤ p.1))) (if alike then Some (signed_of 32 x, signed_of 32 y) else None)) p)
    by true = (refl, ap Boolean (equal_signed x y f g))
    by false = tt

module _ (calls : Calls) (c : Scope) (turns : ℕ) where
  -- the test of a word against a literal
  pub equal_then : {B : Type 0} (t : Term) (x : ℕ) (k : ℤ) (p : Place) (P : Run B → Type 0) (next : JsValue → Part B) → P wrong → IsNamed c t → Reads x p (eval false calls c (expr t) p)
      → P (next (Boolean (x == word_of 32 k)) p) → P (after (eval false calls c (expr (compare true equal t (number k))) p) next)
  equal_then t x k p P next w is h f =
      number_then calls c true t x p (λ r. P (after r next)) (λ v. and_then (eval false calls c (as_number true (number k) (expr (number k)))) (λ w. defined (js_binary_of Eq v w))) w is h
      (λ low. number_then calls c true (number k) (word_of 32 k) p (λ r. P (after r next)) (λ v. defined (js_binary_of Eq (number_value true x) v)) w tt (refl, refl)
      (λ small. found_then P (Boolean (x == word_of 32 k)) p (defined (js_binary_of Eq (signed_value x) (signed_value (word_of 32 k))) p) next w (equal_found x (word_of 32 k) p low small) f))

  -- the trap's call

  pub zero_divisor : (p : Place) (rest : List Stmt) → named c (name_of trap) ≡ a_foreign trap_name
      → Comes (Err ZeroDivisor) p (after (exec false calls c turns [] (trap_call 3) p) (λ d. unless_left d (exec_all false calls c turns (stmts_in rest))))
  zero_divisor p rest has = rw has (refl, refl)

  pub overflows : (p : Place) (rest : List Stmt) → named c (name_of trap) ≡ a_foreign trap_name
      → Comes (Err Overflow) p (after (exec false calls c turns [] (trap_call 4) p) (λ d. unless_left d (exec_all false calls c turns (stmts_in rest))))
  overflows p rest has = rw has (refl, refl)
