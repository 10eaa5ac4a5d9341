-- Bodies of helpers on words.
use Rattle.std.proofs.Common.{◌≡◌, ℕ, ◌^◌, ◌<◌, ◌≤◌, Bool, true, false, not, List, ◌∷◌, Option, Some, None, refl, ◌∙◌, arith}
use Rattle.std.specs.Prelude.{if◌then◌else◌, ◌==◌, nat_lt, bit_and}
use Rattle.std.proofs.lemmas.Bool.Decides.{nat_tests}
use Rattle.std.proofs.lemmas.Nat.{and_le_r}
use Rattle.sem_words.specs.declared.js_value.JsValue.{JsValue}
use Rattle.sem_words.specs.JsValues.{to_uint32_of, truthy_of}
use Rattle.sem_words.specs.JsOperators.{signed_value}
use Rattle.session_lang.specs.Imports.{low_word, high_word}
use Rattle.asm_lang.specs.Modules.{Stmt}
use Rattle.asm_lang_valid.specs.Typing.{Scope}
use Rattle.asm_lang_exec.specs.Runs as runs
use Rattle.asm_lang_exec.specs.Runs.{Binding, Place, Run, goes, stops, spent, wrong, Part, after, value_in, with_value, write}
use Rattle.asm_lang_exec.specs.Values.{Calls}
use Rattle.asm_lang_exec.specs.Meaning.{eval, Completion, normal, broken, continued, returned, unless_left, exec_all}
use Rattle.wasm2js_translation.specs.Names.{spare_high}
use Rattle.wasm2js_translation.specs.Words.{Term, name_of, int_of, stmts_in}
use Rattle.wasm2js_translation.specs.Helpers.{sets, spare, when}
use Rattle.wasm2js_laws_places.specs.Straight.{Words, value}
use Rattle.wasm2js_laws_actions.proofs.Numbers.{is_true}
use Rattle.wasm2js_laws_actions.proofs.Reading.{read_then}
use Rattle.wasm2js_laws_numbers.specs.Laws as numbers
use Rattle.wasm2js_laws_numbers.specs.Laws.{joined}
use Rattle.wasm2js_laws_helpers.proofs.Called.{Returns}
use Rattle.wasm2js_laws_helpers.proofs.Computed.{Known, int_read}

-- ---- the words of a word of 64 bits

pub record Split (t : Bool) (w fl fh nl nh : ℕ) : Type 0 where
  pub low : low_word w ≡ (if t then fl else nl)
  pub high : high_word w ≡ (if t then fh else nh)

pub split : (t : Bool) (w fl fh nl nh : ℕ) → fl < 2 ^ 32 → nl < 2 ^ 32 → w ≡ (if t then joined fl fh else joined nl nh) → Split t w fl fh nl nh
split true w fl fh nl nh p q e = record { low = omega arith; high = omega arith }
split false w fl fh nl nh p q e = record { low = omega arith; high = omega arith }

-- ---- statements

-- a body that returns needs nothing that comes after it
pub left : (w : ℕ) (h : Option ℕ) (p : Place) (r : Run Completion) (rest : Part Completion) → Returns w h p r → Returns w h p (after r (λ d. unless_left d rest))
left w h p (goes (returned v) q) rest k = k
left w h p (goes normal q) rest k = absurd k
left w h p (goes (broken n) q) rest k = absurd k
left w h p (goes (continued n) q) rest k = absurd k
left w h p (stops e q) rest k = absurd k
left w h p (spent q) rest k = absurd k
left w h p wrong rest k = tt

-- `$q` was set before
set_before : (w x : ℕ) (v old : JsValue) (p : Place) (r : Run Completion) → value_in p.globals (name_of spare_high) ≡ Some old → to_uint32_of v ≡ x
    → Returns w None (record p { globals = with_value (name_of spare_high) v p.globals }) r → Returns w (Some x) p r
set_before w x v old p (goes (returned y) q) was e k =
    (k.0, record { heap = k.1.heap; units = k.1.units; events = k.1.events; replies = k.1.replies; globals = record { value = v; old = old; was = was; has_word = e; is = k.1.globals } })
set_before w x v old p (goes normal q) was e k = absurd k
set_before w x v old p (goes (broken n) q) was e k = absurd k
set_before w x v old p (goes (continued n) q) was e k = absurd k
set_before w x v old p (stops y q) was e k = absurd k
set_before w x v old p (spent q) was e k = absurd k
set_before w x v old p wrong was e k = tt

module _ (calls : Calls) (c : Scope) (turns : ℕ) where
  abbrev pub run : List Stmt → Part Completion
  run ss = exec_all false calls c turns (stmts_in ss)

  -- `$q=..;`
  pub set_then : (words : Words) (t : Term) (rest : List Stmt) (w : ℕ) (p : Place) → value_in p.locals (name_of spare_high) ≡ None → Known calls c words p t
      → ((globals : List Binding) → Returns w None (record p { globals = globals }) (run rest (record p { globals = globals })))
      → Returns w (Some (value t words p.heap)) p (run (sets spare t ∷ rest) p)
  set_then words t rest w p none known f =
      read_then P x p (eval false calls c (int_of t) p) (λ v. write (name_of spare_high) v) tt (int_read calls c words p t known)
      (λ v e. by v e (value_in p.globals (name_of spare_high)) refl)
    where
      x : ℕ
      x = value t words p.heap

      P : Run JsValue → Type 0
      P r = Returns w (Some (value t words p.heap)) p (after (after r (λ v. runs.gives normal)) (λ d. unless_left d (run rest)))

      by : (v : JsValue) → to_uint32_of v ≡ value t words p.heap → (o : Option JsValue) → value_in p.globals (name_of spare_high) ≡ o
          → Returns w (Some (value t words p.heap)) p (after (after (write (name_of spare_high) v p) (λ v. runs.gives normal)) (λ d. unless_left d (run rest)))
      by v e None is = rw (none, is) tt
      by v e (Some old) is =
          let q = with_value (name_of spare_high) v p.globals in
          rw (none, is) (set_before w (value t words p.heap) v old p (run rest (record p { globals = q })) is e (f q))

  -- `if(..){..}`
  pub when_then : (t : Term) (v : JsValue) (ss rest : List Stmt) (p : Place) (P : Run Completion → Type 0) → eval false calls c (int_of t) p ≡ goes v p
      → (truthy_of v ≡ true → P (after (run ss p) (λ d. unless_left d (run rest)))) → (truthy_of v ≡ false → P (run rest p)) → P (run (when t ss ∷ rest) p)
  when_then t v ss rest p P is f g = rw is (by (truthy_of v) refl)
    where
      by : (b : Bool) → truthy_of v ≡ b → P (after ((if truthy_of v then run ss else runs.gives normal) p) (λ d. unless_left d (run rest)))
      by true e = rw e (f e)
      by false e = rw e (g e)

-- ---- the test of a count

pub far_truth : (n : ℕ) → truthy_of (signed_value (bit_and n 32)) ≡ numbers.is_far n
far_truth n =
    let few : bit_and n 32 ≤ 32 = and_le_r n 32 in
    is_true (bit_and n 32) (omega arith) ∙ by (bit_and n 32)
  where
    by : (b : ℕ) → not (b == 0) ≡ nat_lt 0 b
    by b = grind (arith, nat_tests)
