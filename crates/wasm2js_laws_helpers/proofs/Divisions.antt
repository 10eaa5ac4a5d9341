-- Calls of the helpers that divide.
use Rattle.std.proofs.Common.{◌≡◌, ℕ, zero, suc, ◌/◌, ◌%◌, ◌<◌, ◌≤◌, true, false, ◌&&◌, List, [], ◌∷◌, Option, Some, None, Result, Ok, Err, pos, refl, sym, ◌∙◌, subst, arith}
use Rattle.std.specs.Prelude.{if◌then◌else◌, ◌==◌, int_div, int_rem}
use Rattle.sem_words.specs.declared.word.TrapKind.{TrapKind}
use Rattle.sem_words.specs.declared.word.TrapKind.TheVariants.{Overflow}
use Rattle.sem_words.specs.declared.js_value.JsValue.{JsValue}
use Rattle.sem_words.specs.declared.js_value.JsOp.TheVariants.{Div, Rem}
use Rattle.sem_words.specs.JsValues.{to_uint32_of}
use Rattle.sem_words.specs.JsOperators.{signed_value}
use Rattle.sem_words.specs.Words.{word_of, signed_of}
use Rattle.asm_lang.specs.Modules.{Function, Module, binary}
use Rattle.asm_lang_valid.specs.Typed.{scope_of}
use Rattle.asm_lang_exec.specs.Runs.{Binding, Place, spent, wrong, after, and_then, defined, paid, with_locals}
use Rattle.asm_lang_exec.specs.Meaning.{exec_all, first_locals, function_end, call_at}
use Rattle.wasm2js_translation.specs.Words.{signed_number}
use Rattle.wasm2js_laws_places.specs.Places.{IsHeap}
use Rattle.wasm2js_laws_places.specs.Helped.{Helps}
use Rattle.wasm2js_laws_helpers.specs.Answers.{checked}
use Rattle.wasm2js_laws_helpers.proofs.Called.{placed}
use Rattle.sem_words.specs.declared.word.Bin.{Bin}
use Rattle.sem_words.specs.declared.word.Bin.TheVariants as bins
use Rattle.sem_words.specs.Words.{bin_of}
use Rattle.asm_lang.specs.Modules.{returns}
use Rattle.wasm2js_translation.specs.Words.{expr}
use Rattle.wasm2js_laws_actions.proofs.Evaluated.{converted}
use Rattle.wasm2js_translation.specs.Helpers.{first, second, overflow_test}
use Rattle.wasm2js_laws_helpers.specs.Answers.{divided}
use Rattle.wasm2js_laws_helpers.specs.Laws.{HelpsAtOnce, HasTrap, divide_signed_function, divide_function, remainder_signed_function, remainder_function, DivideSignedHelps, DivideHelps, RemainderSignedHelps, RemainderHelps}
use Rattle.wasm2js_laws_helpers.proofs.Trapped.{Comes}
use Rattle.wasm2js_laws_helpers.proofs.Turned.{marked_word, the_locals}
use Rattle.wasm2js_laws_helpers.proofs.Zeros.{two_locals}
use Rattle.wasm2js_laws_helpers.proofs.Called.{called}
use Rattle.wasm2js_laws_helpers.proofs.Divided.{result_comes, tested, tested_overflow, ended, quotient_found, remainder_found, plain_quotient, plain_remainder, signed_some, plain_some}

module _ (m : Module) (g : Function) (bytes : ℕ) where
  short : (r : Result ℕ TrapKind) (p : Place) → p.units < 1 → Helps bytes (checked r p.heap) 1 p (spent p)
  short (Ok x) p h = record { few = h; events = refl }
  short (Err t) p h = record { few = h; events = refl }

  wrong_helps : (r : Result ℕ TrapKind) (p : Place) → Helps bytes (checked r p.heap) 1 p wrong
  wrong_helps (Ok x) p = tt
  wrong_helps (Err t) p = tt

  called_checked : (vs : List JsValue) (r : Result ℕ TrapKind) (bound : ℕ) (p : Place) → IsHeap bytes p.heap → p.units ≤ bound
      → ((d n : ℕ) (locals : List Binding) → first_locals g vs ≡ Some locals → Comes r (placed p n locals) (exec_all false (call_at false m d) (scope_of m g) d g.body (placed p n locals)))
      → Helps bytes (checked r p.heap) 1 p (call_at false m bound g vs p)
  called_checked vs r zero p heap le body = short r p (omega arith)
  called_checked vs r (suc d) p heap le body = by p.units refl
    where
      with_them : (n : ℕ) → p.units ≡ suc n → (o : Option (List Binding)) → first_locals g vs ≡ o
          → Helps bytes (checked r p.heap) 1 p (after (defined o (record p { units = n })) (λ locals. with_locals locals (and_then (exec_all false (call_at false m d) (scope_of m g) d g.body) (λ d. function_end d))))
      with_them n e None is = wrong_helps r p
      with_them n e (Some locals) is = ended m g bytes r p n locals heap e (exec_all false (call_at false m d) (scope_of m g) d g.body (placed p n locals)) (body d n locals is)

      by : (u : ℕ) → p.units ≡ u
          → Helps bytes (checked r p.heap) 1 p
          (after (paid u p) (λ _. and_then (defined (first_locals g vs)) (λ locals. with_locals locals (and_then (exec_all false (call_at false m d) (scope_of m g) d g.body) (λ d. function_end d)))))
      by zero e = short r p (omega (arith, e))
      by (suc n) e = with_them n e (first_locals g vs) refl

module _ (m : Module) (g : Function) (op : Bin) where
  abbrev locals_of : List JsValue → Option (List Binding)
  locals_of (v ∷ w ∷ []) = Some (two_locals (signed_value (to_uint32_of v)) (signed_value (to_uint32_of w)))
  locals_of _ = None

  abbrev Body : Type 0
  Body =
      (v w : JsValue) (p : Place) (d n : ℕ)
      → Comes (bin_of 32 op (to_uint32_of v) (to_uint32_of w)) (placed p n (two_locals (signed_value (to_uint32_of v)) (signed_value (to_uint32_of w))))
      (exec_all false (call_at false m d) (scope_of m g) d g.body (placed p n (two_locals (signed_value (to_uint32_of v)) (signed_value (to_uint32_of w)))))

  helps_by : ((vs : List JsValue) → first_locals g vs ≡ locals_of vs) → Body → HelpsAtOnce m g (divided op)
  helps_by first body bound bytes [] p heap le = called m g bytes [] 0 None bound p heap le (λ d n locals is. let e = first [] in absurd (cc (is, e)))
  helps_by first body bound bytes (v ∷ []) p heap le = called m g bytes (v ∷ []) 0 None bound p heap le (λ d n locals is. let e = first (v ∷ []) in absurd (cc (is, e)))
  helps_by first body bound bytes (v ∷ w ∷ []) p heap le =
      called_checked m g bytes (v ∷ w ∷ []) (bin_of 32 op (to_uint32_of v) (to_uint32_of w)) bound p heap le
      (λ d n locals is. subst (λ locals. Comes (bin_of 32 op (to_uint32_of v) (to_uint32_of w)) (placed p n locals) (exec_all false (call_at false m d) (scope_of m g) d g.body (placed p n locals)))
      (the_locals _ locals (sym (first (v ∷ w ∷ [])) ∙ is)) (body v w p d n))
  helps_by first body bound bytes (v ∷ w ∷ u ∷ more) p heap le = called m g bytes (v ∷ w ∷ u ∷ more) 0 None bound p heap le (λ d n locals is. let e = first (v ∷ w ∷ u ∷ more) in absurd (cc (is, e)))

first_divide_signed : (m : Module) (vs : List JsValue) → first_locals divide_signed_function vs ≡ locals_of m divide_signed_function bins.DivS vs
first_divide_signed m [] = refl
first_divide_signed m (v ∷ []) = refl
first_divide_signed m (v ∷ w ∷ []) = refl
first_divide_signed m (v ∷ w ∷ u ∷ more) = refl

divide_signed_body : (m : Module) → HasTrap m → Body m divide_signed_function bins.DivS
divide_signed_body m has v w p d n =
    let here = placed p n (two_locals (signed_value (to_uint32_of v)) (signed_value (to_uint32_of w))) in
    tested (call_at false m d) (scope_of m divide_signed_function) d has (to_uint32_of w) (if (to_uint32_of v == 2147483648) && (to_uint32_of w == 4294967295) then Err Overflow else Ok (word_of 32 (int_div (signed_of 32 (to_uint32_of v)) (signed_of 32 (to_uint32_of w))))) (overflow_test ∷ returns (Some (signed_number (binary Div (converted true (expr first)) (converted true (expr second))))) ∷ []) here (refl, marked_word w)
    (λ some. tested_overflow (call_at false m d) (scope_of m divide_signed_function) d has (to_uint32_of v) (to_uint32_of w) (Ok (word_of 32 (int_div (signed_of 32 (to_uint32_of v)) (signed_of 32 (to_uint32_of w))))) (returns (Some (signed_number (binary Div (converted true (expr first)) (converted true (expr second))))) ∷ []) here (refl, marked_word v) (refl, marked_word w)
    (result_comes (call_at false m d) (scope_of m divide_signed_function) d has true Div (word_of 32 (int_div (signed_of 32 (to_uint32_of v)) (signed_of 32 (to_uint32_of w)))) (to_uint32_of v) (to_uint32_of w) (expr first) (expr second) here (λ p f g s. quotient_found (signed_of 32 (to_uint32_of v)) (signed_of 32 (to_uint32_of w)) _ p (signed_some (to_uint32_of w) g s) refl) some (refl, marked_word v) (refl, marked_word w)))

pub divide_signed_helps : DivideSignedHelps
divide_signed_helps m has = helps_by m divide_signed_function bins.DivS (first_divide_signed m) (divide_signed_body m has)

first_divide : (m : Module) (vs : List JsValue) → first_locals divide_function vs ≡ locals_of m divide_function bins.DivU vs
first_divide m [] = refl
first_divide m (v ∷ []) = refl
first_divide m (v ∷ w ∷ []) = refl
first_divide m (v ∷ w ∷ u ∷ more) = refl

divide_body : (m : Module) → HasTrap m → Body m divide_function bins.DivU
divide_body m has v w p d n =
    let here = placed p n (two_locals (signed_value (to_uint32_of v)) (signed_value (to_uint32_of w))) in
    tested (call_at false m d) (scope_of m divide_function) d has (to_uint32_of w) (Ok (to_uint32_of v / to_uint32_of w)) (returns (Some (signed_number (binary Div (converted false (expr first)) (converted false (expr second))))) ∷ []) here (refl, marked_word w)
    (λ some. result_comes (call_at false m d) (scope_of m divide_function) d has false Div (to_uint32_of v / to_uint32_of w) (to_uint32_of v) (to_uint32_of w) (expr first) (expr second) here (λ p f g s. quotient_found (pos (to_uint32_of v)) (pos (to_uint32_of w)) _ p (plain_some (to_uint32_of w) s) (plain_quotient (to_uint32_of v) (to_uint32_of w) f s)) some (refl, marked_word v) (refl, marked_word w))

pub divide_helps : DivideHelps
divide_helps m has = helps_by m divide_function bins.DivU (first_divide m) (divide_body m has)

first_remainder_signed : (m : Module) (vs : List JsValue) → first_locals remainder_signed_function vs ≡ locals_of m remainder_signed_function bins.RemS vs
first_remainder_signed m [] = refl
first_remainder_signed m (v ∷ []) = refl
first_remainder_signed m (v ∷ w ∷ []) = refl
first_remainder_signed m (v ∷ w ∷ u ∷ more) = refl

remainder_signed_body : (m : Module) → HasTrap m → Body m remainder_signed_function bins.RemS
remainder_signed_body m has v w p d n =
    let here = placed p n (two_locals (signed_value (to_uint32_of v)) (signed_value (to_uint32_of w))) in
    tested (call_at false m d) (scope_of m remainder_signed_function) d has (to_uint32_of w) (Ok (word_of 32 (int_rem (signed_of 32 (to_uint32_of v)) (signed_of 32 (to_uint32_of w))))) (returns (Some (signed_number (binary Rem (converted true (expr first)) (converted true (expr second))))) ∷ []) here (refl, marked_word w)
    (λ some. result_comes (call_at false m d) (scope_of m remainder_signed_function) d has true Rem (word_of 32 (int_rem (signed_of 32 (to_uint32_of v)) (signed_of 32 (to_uint32_of w)))) (to_uint32_of v) (to_uint32_of w) (expr first) (expr second) here (λ p f g s. remainder_found (signed_of 32 (to_uint32_of v)) (signed_of 32 (to_uint32_of w)) _ p (signed_some (to_uint32_of w) g s) refl) some (refl, marked_word v) (refl, marked_word w))

pub remainder_signed_helps : RemainderSignedHelps
remainder_signed_helps m has = helps_by m remainder_signed_function bins.RemS (first_remainder_signed m) (remainder_signed_body m has)

first_remainder : (m : Module) (vs : List JsValue) → first_locals remainder_function vs ≡ locals_of m remainder_function bins.RemU vs
first_remainder m [] = refl
first_remainder m (v ∷ []) = refl
first_remainder m (v ∷ w ∷ []) = refl
first_remainder m (v ∷ w ∷ u ∷ more) = refl

remainder_body : (m : Module) → HasTrap m → Body m remainder_function bins.RemU
remainder_body m has v w p d n =
    let here = placed p n (two_locals (signed_value (to_uint32_of v)) (signed_value (to_uint32_of w))) in
    tested (call_at false m d) (scope_of m remainder_function) d has (to_uint32_of w) (Ok (to_uint32_of v % to_uint32_of w)) (returns (Some (signed_number (binary Rem (converted false (expr first)) (converted false (expr second))))) ∷ []) here (refl, marked_word w)
    (λ some. result_comes (call_at false m d) (scope_of m remainder_function) d has false Rem (to_uint32_of v % to_uint32_of w) (to_uint32_of v) (to_uint32_of w) (expr first) (expr second) here (λ p f g s. remainder_found (pos (to_uint32_of v)) (pos (to_uint32_of w)) _ p (plain_some (to_uint32_of w) s) (plain_remainder (to_uint32_of v) (to_uint32_of w) f s)) some (refl, marked_word v) (refl, marked_word w))

pub remainder_helps : RemainderHelps
remainder_helps m has = helps_by m remainder_function bins.RemU (first_remainder m) (remainder_body m has)
