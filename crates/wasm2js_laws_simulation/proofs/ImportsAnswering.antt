-- How a call of an imported function is answered in both languages.
use Rattle.std.proofs.Common.{◌≡◌, ℕ, suc, ◌+◌, ◌*◌, ◌^◌, ◌<◌, ◌≤◌, Bool, true, false, List, [], ◌∷◌, ◌++◌, length, take, drop, map, refl, sym, ap, ◌∙◌, arith}
use Rattle.std.specs.Prelude.{◌/◌, ◌%◌, bytes_eq, if◌then◌else◌}
use Rattle.std.specs.List.{AllByRecursion, flat_map}
use Rattle.std.proofs.lemmas.List.{length-take, take-append-drop}
use Rattle.heap_lang.specs.Heap.{with_run}
use Rattle.heap_lang.proofs.RunLemmas.{length-with_run, IsBytes-with_run, with_run-append}
use Rattle.sem_words.specs.declared.word.Word.{Word}
use Rattle.sem_words.specs.declared.word.Word.TheVariants.{W32}
use Rattle.session_lang.specs.Observation.{import_called, stopped, no_reply, trap_name}
use Rattle.session_lang.specs.Imports.{low_word, high_word, high_name, Replies, ImportAnswer, goes_on, ends, take_reply, answer_import}
use Rattle.session_lang.specs.Script.{WritePlain, ReplyPlain, give, throw}
use Rattle.session_lang.specs.CallingForms.{split_word}
use Rattle.wasm_lang.specs.declared.types.ValType.{ValType}
use Rattle.wasm_lang.specs.declared.types.ValType.TheVariants.{I32, I64}
use Rattle.wasm_lang_exec.specs.Store.{written}
use Rattle.asm_lang_exec.specs.Values.{with_writes}
use Rattle.wasm2js_translation.specs.Names.{Name}
use Rattle.wasm2js_translation.specs.Pairs.{local_pair}
use Rattle.wasm2js_translation.specs.Modules.{param_names}
use Rattle.wasm2js_laws_places.specs.Straight.{Words}
use Rattle.wasm2js_laws_places.specs.Places.{locals_from, IsHeap, IsWritable}

-- ---- by the same reply, with words of 64 bits as two

module _ (P : ImportAnswer → ImportAnswer → Type 0) (name : List ℕ) (xs ys : List Word) (replies : Replies)
    (stops : P (ends (stopped name xs)) (ends (stopped name ys))) (none : P (ends (no_reply name xs)) (ends (no_reply name ys)))
    (gives : (word : ℕ) (writes : List WritePlain) (left : List ReplyPlain) → replies.left ≡ give word writes ∷ left
    → P (goes_on (record { word = word; writes = writes; events = import_called name xs ∷ []; replies = record { left = left; last = word } }))
    (goes_on (record { word = word; writes = writes; events = import_called name ys ∷ []; replies = record { left = left; last = word } })))
    (high : bytes_eq name high_name ≡ true
    → P (goes_on (record { word = high_word replies.last; writes = []; events = []; replies = replies })) (goes_on (record { word = high_word replies.last; writes = []; events = []; replies = replies }))) where
  by_reply : (left : List ReplyPlain) → replies.left ≡ left → P (take_reply name xs left) (take_reply name ys left)
  by_reply [] e = none
  by_reply (throw ∷ left) e = stops
  by_reply (give word writes ∷ left) e = gives word writes left e

  by_high : (b : Bool) → bytes_eq name high_name ≡ b
      → P (if b then goes_on (record { word = high_word replies.last; writes = []; events = []; replies = replies }) else take_reply name xs replies.left)
      (if b then goes_on (record { word = high_word replies.last; writes = []; events = []; replies = replies }) else take_reply name ys replies.left)
  by_high true e = high e
  by_high false e = by_reply replies.left refl

  by_trap : (b : Bool)
      → P (if b then ends (stopped name xs) else if bytes_eq name high_name then goes_on (record { word = high_word replies.last; writes = []; events = []; replies = replies }) else take_reply name xs replies.left)
      (if b then ends (stopped name ys) else if bytes_eq name high_name then goes_on (record { word = high_word replies.last; writes = []; events = []; replies = replies }) else take_reply name ys replies.left)
  by_trap true = stops
  by_trap false = by_high (bytes_eq name high_name) refl

  pub answers_alike : P (answer_import name xs replies) (answer_import name ys replies)
  answers_alike = by_trap (bytes_eq name trap_name)

-- ---- the words of parameters

low_part : (a c : ℕ) → a < 2 ^ 32 → (a + 2 ^ 32 * c) % 2 ^ 32 ≡ a
low_part a c h = omega (arith, h)

high_part : (a c : ℕ) → a < 2 ^ 32 → (a + 2 ^ 32 * c) / 2 ^ 32 ≡ c
high_part a c h = omega (arith, h)

pub words_split : (x : ℕ) (ts : List ValType) (words : Words) → ((n : Name) → words n < 2 ^ 32) → map (λ n. W32 (words n)) (param_names x ts) ≡ flat_map split_word (locals_from x ts words)
words_split x [] words h = refl
words_split x (I32 ∷ ts) words h = ap (λ vs. W32 (words (local_pair x).low) ∷ vs) (words_split (suc x) ts words h)
words_split x (I64 ∷ ts) words h =
    ap (λ vs. W32 (words (local_pair x).low) ∷ W32 (words (local_pair x).high) ∷ vs) (words_split (suc x) ts words h)
    ∙ ap (λ n. W32 n ∷ W32 (words (local_pair x).high) ∷ flat_map split_word (locals_from (suc x) ts words)) (sym (low_part (words (local_pair x).low) (words (local_pair x).high) (h (local_pair x).low)))
    ∙ ap (λ n. W32 ((words (local_pair x).low + 2 ^ 32 * words (local_pair x).high) % 2 ^ 32) ∷ W32 n ∷ flat_map split_word (locals_from (suc x) ts words))
    (sym (high_part (words (local_pair x).low) (words (local_pair x).high) (h (local_pair x).low)))

-- ---- a word of 64 bits by its two halves

pub halves : (word : ℕ) → low_word word + 2 ^ 32 * low_word (high_word word) ≡ word % 2 ^ 64
halves word = omega arith

pub low_low : (word : ℕ) → low_word word < 2 ^ 32
low_low word = omega arith

-- ---- writes lie in the memory

pub record IsWritten (bytes : ℕ) (heap after memory : List ℕ) : Type 0 where
  pub is_heap : IsHeap bytes after
  pub in_memory : take bytes after ≡ memory
  pub past : drop bytes after ≡ drop bytes heap

module _ (bytes : ℕ) (heap : List ℕ) (h : IsHeap bytes heap) (at : ℕ) (run : List ℕ) (within : at + length run ≤ bytes) where
  memory_long : length (take bytes heap) ≡ bytes
  memory_long = let e = length-take bytes heap in let k = h.holds in omega (arith, e, k)

  split_run : with_run at run heap ≡ with_run at run (take bytes heap) ++ drop bytes heap
  split_run =
      ap (with_run at run) (sym (take-append-drop bytes heap))
      ∙ with_run-append at run (take bytes heap) (drop bytes heap) (let e = memory_long in omega (arith, e, within))

  written_long : length (with_run at run (take bytes heap)) ≡ bytes
  written_long = length-with_run at run (take bytes heap) ∙ memory_long

  take_all : (xs : List ℕ) → length xs ≡ bytes → (ys : List ℕ) → take bytes (xs ++ ys) ≡ xs
  take_all xs e ys = ap (λ n. take n (xs ++ ys)) (sym e) ∙ first xs ys
    where
      first : (xs ys : List ℕ) → take (length xs) (xs ++ ys) ≡ xs
      first [] ys = refl
      first (x ∷ xs) ys = ap (λ zs. x ∷ zs) (first xs ys)

  drop_all : (xs : List ℕ) → length xs ≡ bytes → (ys : List ℕ) → drop bytes (xs ++ ys) ≡ ys
  drop_all xs e ys = ap (λ n. drop n (xs ++ ys)) (sym e) ∙ rest xs ys
    where
      rest : (xs ys : List ℕ) → drop (length xs) (xs ++ ys) ≡ ys
      rest [] ys = refl
      rest (x ∷ xs) ys = rest xs ys

  run_in_memory : take bytes (with_run at run heap) ≡ with_run at run (take bytes heap)
  run_in_memory = ap (take bytes) split_run ∙ take_all (with_run at run (take bytes heap)) written_long (drop bytes heap)

  run_past : drop bytes (with_run at run heap) ≡ drop bytes heap
  run_past = ap (drop bytes) split_run ∙ drop_all (with_run at run (take bytes heap)) written_long (drop bytes heap)

pub writes_are_written : (bytes : ℕ) (ws : List WritePlain) (heap : List ℕ) → IsHeap bytes heap → AllByRecursion (IsWritable bytes) ws
    → IsWritten bytes heap (with_writes ws heap) (written ws (take bytes heap))
writes_are_written bytes [] heap h all = record { is_heap = h; in_memory = refl; past = refl }
writes_are_written bytes (w ∷ ws) heap h all =
    let long = length-with_run w.at w.bytes heap in
    let next : IsHeap bytes (with_run w.at w.bytes heap) = record {
      are_bytes = IsBytes-with_run w.at w.bytes heap all.0.1 h.are_bytes;
      holds = let k = h.holds in omega (arith, k, long);
      small = let k = h.small in omega (arith, k, long);
    } in
    let it = writes_are_written bytes ws (with_run w.at w.bytes heap) next all.1 in
    record {
      is_heap = it.is_heap;
      in_memory = it.in_memory ∙ ap (written ws) (run_in_memory bytes heap h w.at w.bytes all.0.0);
      past = it.past ∙ run_past bytes heap h w.at w.bytes all.0.0;
    }
