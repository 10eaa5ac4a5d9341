-- A variable's word is moved to another one, which locals and globals don't see.
use Rattle.std.proofs.Common.{◌≡◌, ℕ, suc, ◌<◌, true, false, List, [], ◌∷◌, take, refl, ap, ◌∙◌, subst, arith}
use Rattle.std.specs.Prelude.{◌==◌}
use Rattle.std.proofs.lemmas.Bool.Decides.{nat_tests, Decides-eqb}
use Rattle.sem_words.specs.declared.word.Word.{Word}
use Rattle.sem_words.specs.declared.js_value.JsValue.{JsValue}
use Rattle.sem_words.specs.JsValues.{to_uint32_of}
use Rattle.session_lang.specs.Observation.{EventPlain}
use Rattle.wasm_lang.specs.declared.types.ValType.{ValType}
use Rattle.wasm_lang.specs.declared.types.ValType.TheVariants.{I32, I64}
use Rattle.wasm_laws_drive.specs.Drive.{at}
use Rattle.asm_lang.specs.Modules.{var}
use Rattle.asm_lang_exec.specs.Runs.{Place, Run, goes, stops, spent, wrong, Part, after, and_then, read, write}
use Rattle.asm_lang_exec.specs.Meaning.{Completion, normal}
use Rattle.asm_laws_continuation.specs.Following.{exec_to}
use Rattle.wasm2js_translation.specs.Names.{Name, numbered, local_low, local_high, operand_low, operand_high, global_low, global_high, spelled}
use Rattle.wasm2js_translation.specs.Words.{put_in}
use Rattle.wasm2js_laws_places.specs.Following.{Rest}
use Rattle.wasm2js_laws_places.specs.Straight.{Words, with_word}
use Rattle.wasm2js_laws_places.specs.Places.{word_at, AreApart, IsHeap, locals_from, locals_of, globals_from, globals_of, store_of}
use Rattle.wasm2js_laws_places.specs.Helped.{IsOn}
use Rattle.wasm2js_laws_actions.proofs.Reading.{read_then}
use Rattle.wasm2js_laws_actions.proofs.Variables.{variable_read}
use Rattle.wasm2js_laws_actions.proofs.Doing.{Leaves, write_leaves}
use Rattle.wasm2js_laws_preservation.specs.ControlControl.{Function, state_at, IsFollowed}

-- ---- the same locals and globals

pub record Agrees (x y : Words) : Type 0 where
  pub local_words : (n : ℕ) → y (numbered local_low n) ≡ x (numbered local_low n)
  pub local_highs : (n : ℕ) → y (numbered local_high n) ≡ x (numbered local_high n)
  pub global_words : (n : ℕ) → y (numbered global_low n) ≡ x (numbered global_low n)
  pub global_highs : (n : ℕ) → y (numbered global_high n) ≡ x (numbered global_high n)

pub agrees_on : (x y z : Words) → Agrees x y → Agrees y z → Agrees x z
agrees_on x y z h k = record {
  local_words = λ n. k.local_words n ∙ h.local_words n;
  local_highs = λ n. k.local_highs n ∙ h.local_highs n;
  global_words = λ n. k.global_words n ∙ h.global_words n;
  global_highs = λ n. k.global_highs n ∙ h.global_highs n;
}

-- what has these words
pub agrees_with : (x y z : Words) → Agrees x y → ((n : Name) → z n ≡ y n) → Agrees x z
agrees_with x y z h same = record {
  local_words = λ n. same (numbered local_low n) ∙ h.local_words n;
  local_highs = λ n. same (numbered local_high n) ∙ h.local_highs n;
  global_words = λ n. same (numbered global_low n) ∙ h.global_words n;
  global_highs = λ n. same (numbered global_high n) ∙ h.global_highs n;
}

locals_agree : (n : ℕ) (ts : List ValType) (x y : Words) → Agrees x y → locals_from n ts y ≡ locals_from n ts x
locals_agree n [] x y h = refl
locals_agree n (I32 ∷ ts) x y h = let e = h.local_words n in let k = locals_agree (suc n) ts x y h in cc (e, k)
locals_agree n (I64 ∷ ts) x y h = let e = h.local_words n in let g = h.local_highs n in let k = locals_agree (suc n) ts x y h in cc (e, g, k)

globals_agree : (n : ℕ) (ts : List ValType) (x y : Words) → Agrees x y → globals_from n ts y ≡ globals_from n ts x
globals_agree n [] x y h = refl
globals_agree n (I32 ∷ ts) x y h = let e = h.global_words n in let k = globals_agree (suc n) ts x y h in cc (e, k)
globals_agree n (I64 ∷ ts) x y h = let e = h.global_words n in let g = h.global_highs n in let k = globals_agree (suc n) ts x y h in cc (e, g, k)

pub state_agrees : (f : Function) (values : List Word) (p q : Place) (w : List EventPlain) (n : ℕ) → Agrees (word_at p) (word_at q) → q.heap ≡ p.heap → q.replies ≡ p.replies
    → state_at f values q w n ≡ state_at f values p w n
state_agrees f values p q w n h heap replies =
    ap (λ ls. at values ls (store_of f.setting q w) n) (locals_agree 0 f.context.locals (word_at p) (word_at q) h)
    ∙ ap (λ gs. at values (locals_of f.context.locals (word_at p)) (record { memory = take f.setting.bytes q.heap; globals = gs; table = f.setting.table; events = w; replies = q.replies }) n)
    (globals_agree 0 f.setting.kinds (word_at p) (word_at q) h)
    ∙ ap (λ bs. at values (locals_of f.context.locals (word_at p)) (record { memory = take f.setting.bytes bs; globals = globals_of f.setting.kinds (word_at p); table = f.setting.table; events = w; replies = q.replies }) n) heap
    ∙ ap (λ r. at values (locals_of f.context.locals (word_at p)) (record { memory = take f.setting.bytes p.heap; globals = globals_of f.setting.kinds (word_at p); table = f.setting.table; events = w; replies = r }) n) replies

pub operand_agrees : (d v : ℕ) (words : Words) → Agrees words (with_word (numbered operand_low d) v words)
operand_agrees d v words = record { local_words = λ n. refl; local_highs = λ n. refl; global_words = λ n. refl; global_highs = λ n. refl }

pub high_agrees : (d v : ℕ) (words : Words) → Agrees words (with_word (numbered operand_high d) v words)
high_agrees d v words = record { local_words = λ n. refl; local_highs = λ n. refl; global_words = λ n. refl; global_highs = λ n. refl }

-- ---- the words

pub itself : (d : ℕ) → (d == d) ≡ true
itself d = (Decides-eqb d d).1 refl

pub not_below : (d e : ℕ) → e < d → (d == e) ≡ false
not_below d e h = grind (arith, nat_tests)

-- ---- the statement of a move at p, seen from another place

module _ (f : Function) (r : Rest) (here p : Place) where
  written : (words : Words) (next : Completion → Part (Unit {0})) (x : Run JsValue) → Leaves f.setting.bytes words p.heap p x
      → ((q : Place) → IsOn f.setting.bytes words p.heap 0 p q → IsFollowed f here r (next normal q)) → IsFollowed f here r (after x (λ v. next normal))
  written words next (goes v q) h k = k q h
  written words next (stops e q) h k = absurd h
  written words next (spent q) h k = absurd h
  written words next wrong h k = tt

  pub write_then : (to : Name) (v : JsValue) (next : Completion → Part (Unit {0})) → AreApart p → IsHeap f.setting.bytes p.heap
      → ((q : Place) → IsOn f.setting.bytes (with_word to (to_uint32_of v) (word_at p)) p.heap 0 p q → IsFollowed f here r (next normal q))
      → IsFollowed f here r (and_then (write (spelled to) v) (λ y. next normal) p)
  write_then to v next apart heap k = written (with_word to (to_uint32_of v) (word_at p)) next (write (spelled to) v p) (write_leaves f.setting.bytes to v p apart heap) k

  pub move_then : (to from : Name) (next : Completion → Part (Unit {0})) → AreApart p → IsHeap f.setting.bytes p.heap
      → ((q : Place) → IsOn f.setting.bytes (with_word to (word_at p from) (word_at p)) p.heap 0 p q → IsFollowed f here r (next normal q))
      → IsFollowed f here r (exec_to f.calls f.scope f.bound [] (put_in to (var (spelled from))) next p)
  move_then to from next apart heap k =
      read_then (IsFollowed f here r) (word_at p from) p (read (spelled from) p) (λ v. and_then (write (spelled to) v) (λ v. next normal)) tt (variable_read from p apart)
      (λ v a. written (with_word to (word_at p from) (word_at p)) next (write (spelled to) v p)
      (subst (λ n. Leaves f.setting.bytes (with_word to n (word_at p)) p.heap p (write (spelled to) v p)) a (write_leaves f.setting.bytes to v p apart heap)) k)
