-- Calls of foreign functions.
use Rattle.std.proofs.Common.{◌≡◌, ℕ, suc, ◌+◌, ◌^◌, ◌<◌, ◌≤◌, Bool, true, false, List, [], ◌∷◌, ◌++◌, length, map, replicate, Some, refl, sym, ap, ◌∙◌, subst, arith}
use Rattle.std.specs.Prelude.{codes, if◌then◌else◌}
use Rattle.std.specs.Str.{bytes_eq}
use Rattle.std.specs.List.{AllByRecursion}
use Rattle.std.proofs.lemmas.Slice.Eq.{bytes_eq-Decides}
use Rattle.std.proofs.lemmas.List.{map-append, reverse-reverse, length-reverse, length-map, length-replicate}
use Rattle.std.proofs.lemmas.List.Elements.{recursion_from_All}
use Rattle.sem_words.specs.declared.word.Word.{Word}
use Rattle.sem_words.specs.declared.word.Word.TheVariants.{W32}
use Rattle.sem_words.specs.declared.js_value.JsValue.{JsValue}
use Rattle.sem_words.specs.JsValues.{to_uint32_of}
use Rattle.sem_words.specs.JsOperators.{signed_value}
use Rattle.sem_words.proofs.WordLaws.{word_of-signed_of_32}
use Rattle.heap_lang.specs.Numbers.{IsBytes}
use Rattle.heap_lang.proofs.RunLemmas.{length-with_run, IsBytes-with_run}
use Rattle.heap_lang.specs.Heap.{with_run}
use Rattle.session_lang.specs.Script.{WritePlain, ReplyPlain, give, throw}
use Rattle.session_lang.specs.Observation.{stopped, trap_name}
use Rattle.session_lang.specs.Imports.{low_word, high_word, high_name, Replies, Given, ImportAnswer, goes_on, ends, take_reply, answer_import}
use Rattle.session_lang.specs.CallingForms.{foreign_import, event_to_wasm, end_to_wasm}
use Rattle.session_lang.proofs.NameLaws.{fixed_names_are_kept}
use Rattle.wasm_lang.specs.declared.types.ValType.{ValType}
use Rattle.wasm_lang.specs.declared.types.ValType.TheVariants.{I32}
use Rattle.wasm_lang_exec.specs.Code.{Trees, ε, ◌▹◌, call}
use Rattle.wasm_lang_exec.specs.Store.{Store, written}
use Rattle.wasm_lang_exec.specs.Reductions.{an_import, callee_at, top_of, below_top, and_value, result_word}
use Rattle.wasm_laws_drive.specs.Drive.{Next, Ended, at}
use Rattle.wasm_laws_drive.specs.Equations as wasm
use Rattle.wasm_laws_drive.proofs.Instructions.{no_code, call_enters}
use Rattle.asm_lang_valid.specs.LimitRows.{ForeignCall}
use Rattle.asm_lang_exec.specs.Runs.{Place}
use Rattle.asm_lang_exec.specs.Session.{heap_length}
use Rattle.asm_lang_exec.specs.Values.{with_writes, answered, call_import}
use Rattle.asm2wasm_lang.specs.Calling.{int_type}
use Rattle.asm2wasm_translation.specs.Numbers.{import_number}
use Rattle.asm2wasm_laws_run.specs.Sim.{Sim, Steps}
use Rattle.asm2wasm_laws_run.specs.State.{Fixed, words, store_of, Stays, AreAnswered, Holds, IsNoTrap, EndsAlike, AnyValue, run_from}
use Rattle.asm2wasm_laws_run.proofs.Simulated.{comes_in, sim_in}
use Rattle.asm2wasm_laws_preservation.specs.Kept.{word, values, result, Surroundings, Shown, Keeps}

-- ---- operands

pub top_is : (xs ys : List Word) → top_of (length xs) (xs ++ ys) ≡ Some xs
top_is [] ys = refl
top_is (x ∷ xs) ys = ap (and_value x) (top_is xs ys)

pub below_is : (xs ys : List Word) → below_top (length xs) (xs ++ ys) ≡ ys
below_is [] ys = refl
below_is (x ∷ xs) ys = below_is xs ys

pub values_length : (vs : List JsValue) → length (values vs) ≡ length vs
values_length vs = length-reverse (map word vs) ∙ length-map vs word

-- ---- byte writes

pub heap_stays : (ws : List WritePlain) (heap : List ℕ) → length (with_writes ws heap) ≡ length heap
heap_stays [] heap = refl
heap_stays (w ∷ ws) heap = heap_stays ws (with_run w.at w.bytes heap) ∙ length-with_run w.at w.bytes heap

pub bytes_stay : (n : ℕ) (ws : List WritePlain) (heap : List ℕ) → AllByRecursion (Stays n) ws → IsBytes heap → IsBytes (with_writes ws heap)
bytes_stay n [] heap all h = h
bytes_stay n (w ∷ ws) heap all h = bytes_stay n ws (with_run w.at w.bytes heap) all.1 (IsBytes-with_run w.at w.bytes heap all.0.bytes h)

-- ---- answers

-- the caller goes on in both languages; what the machine's byte writes leave past the heap is what is said of the replies that are then left
record GoesAlike (x : Fixed) (n : ℕ) (left : List ReplyPlain) (g : Given) (a : ImportAnswer) : Type 0 where
  writes : List WritePlain
  is : a ≡ goes_on (record { word = g.word; writes = writes; events = map event_to_wasm g.events; replies = record { left = x.replied g.replies.left; last = g.replies.last } })
  stay : AllByRecursion (Stays n) g.writes
  memory : (heap : List ℕ) → length heap ≡ n → written writes (heap ++ x.past left) ≡ with_writes g.writes heap ++ x.past g.replies.left
  answered : AreAnswered x n g.replies.left

-- the same one under the name of the import
abbrev Alike : Fixed → ℕ → List ReplyPlain → ImportAnswer → ImportAnswer → Type 0
Alike x n left (ends e) a = (a ≡ ends (end_to_wasm e)) × IsNoTrap e
Alike x n left (goes_on g) a = GoesAlike x n left g a

taken_alike : (x : Fixed) (n : ℕ) (name : List ℕ) (args : List Word) (left : List ReplyPlain) → AreAnswered x n left
    → Alike x n left (take_reply name args left) (take_reply (foreign_import name) args (x.replied left))
taken_alike x n name args [] all = (ap (take_reply (foreign_import name) args) all, tt)
taken_alike x n name args (throw ∷ left) all = (ap (take_reply (foreign_import name) args) all.1, tt)
taken_alike x n name args (give w ws ∷ left) all = record {
  writes = all.0.writes;
  is = ap (take_reply (foreign_import name) args) all.0.reply;
  stay = recursion_from_All (Stays n) ws all.0.stay;
  memory = all.0.memory;
  answered = all.1;
}

-- the answer, by whether the name is one of the fixed ones
abbrev answer_by : List ℕ → List Word → Replies → Bool → Bool → ImportAnswer
answer_by name args replies is_trap is_high =
    if is_trap then ends (stopped name args)
    else if is_high then goes_on (record { word = high_word replies.last; writes = []; events = []; replies = replies })
    else take_reply name args replies.left

abbrev replied : Fixed → Replies → Replies
replied x r = record { left = x.replied r.left; last = r.last }

by_alike : (x : Fixed) (n : ℕ) (name : List ℕ) (args : List Word) (r : Replies) (is_trap is_high : Bool) → AreAnswered x n r.left
    → Alike x n r.left (answer_by name args r is_trap is_high) (answer_by (foreign_import name) args (replied x r) is_trap is_high)
by_alike x n name args r true is_high all = (refl, tt)
by_alike x n name args r false true all = record { writes = []; is = refl; stay = tt; memory = λ heap long. refl; answered = all }
by_alike x n name args r false false all = taken_alike x n name args r.left all

same_test : (name fixed : List ℕ) → foreign_import fixed ≡ fixed → (foreign_import name ≡ fixed → name ≡ fixed) → bytes_eq (foreign_import name) fixed ≡ bytes_eq name fixed
same_test name fixed keeps back = by (bytes_eq name fixed) (bytes_eq (foreign_import name) fixed) refl refl
  where
    by : (a b : Bool) → bytes_eq name fixed ≡ a → bytes_eq (foreign_import name) fixed ≡ b → b ≡ a
    by true true e f = refl
    by false false e f = refl
    by true false e f =
        let is = (bytes_eq-Decides name fixed).0 e in
        let test = (bytes_eq-Decides (foreign_import name) fixed).1 (ap foreign_import is ∙ keeps) in
        absurd (cc (f, test))
    by false true e f =
        let is = back ((bytes_eq-Decides (foreign_import name) fixed).0 f) in
        let test = (bytes_eq-Decides name fixed).1 is in
        absurd (cc (e, test))

answers_alike : (x : Fixed) (n : ℕ) (name : List ℕ) (args : List Word) (r : Replies) → AreAnswered x n r.left
    → Alike x n r.left (answer_import name args r) (answer_import (foreign_import name) args (replied x r))
answers_alike x n name args r all =
    let is_trap = same_test name trap_name refl (λ e. (fixed_names_are_kept.trap (codes "env") name e).1) in
    let is_high = same_test name high_name refl (λ e. (fixed_names_are_kept.high (codes "env") name e).1) in
    subst (Alike x n r.left (answer_import name args r))
    (sym (ap (λ b. answer_by (foreign_import name) args (replied x r) b (bytes_eq (foreign_import name) high_name)) is_trap ∙ ap (answer_by (foreign_import name) args (replied x r) (bytes_eq name trap_name)) is_high))
    (by_alike x n name args r (bytes_eq name trap_name) (bytes_eq name high_name) all)

-- ---- the call

given_word : (word : ℕ) → to_uint32_of (signed_value (low_word word)) ≡ low_word word
given_word word = let below : low_word word < 2 ^ 32 = omega arith in word_of-signed_of_32 (low_word word) below

module _ (s : Surroundings) (limit d : ℕ) (name : List ℕ) (wanted : Bool) (vs : List JsValue) where
  abbrev use_of : ForeignCall
  use_of = record { name = name; params = length vs; result = wanted }

  abbrev code : Trees
  code = call (import_number s.home use_of) ▹ ε

  abbrev results : List ValType
  results = if wanted then I32 ∷ [] else []

  -- the words of the result
  left_words : (w : Bool) (n : ℕ) → result_word (if w then I32 ∷ [] else []) n ≡ result w (signed_value (low_word n))
  left_words true n = ap (λ k. W32 k ∷ []) (sym (given_word n))
  left_words false n = refl

  pub keeps_foreign : callee_at s.target (import_number s.home use_of) ≡ Some (an_import (foreign_import name) (int_type (length vs) wanted))
      → Keeps s limit d (values vs) AnyValue (result wanted) code (call_import name vs)
  keeps_foreign callee = record { by = begins }
    where
      begins : (p : Place) (scratch stack : List Word) → Holds s.fixed s.home s.heap s.within p → length scratch ≡ s.scratch → p.units ≤ limit
          → Sim s.worth (EndsAlike s.fixed s.home s.heap) (Shown s d AnyValue (result wanted) scratch stack) 1 p.units (run_from s.target s.fixed (values vs ++ stack) code scratch p) (call_import name vs p)
      begins p scratch stack h many few =
          answers (answer_import name (map word vs) p.replies) (answer_import (foreign_import name) (map word vs) st.replies) (answers_alike s.fixed n name (map word vs) p.replies h.replies) calls
        where
          r : Steps
          r = run_from s.target s.fixed (values vs ++ stack) code scratch p

          ls : List Word
          ls = words p.locals ++ scratch

          st : Store
          st = store_of s.fixed p

          n : ℕ
          n = heap_length s.home s.heap

          calls : (k : ℕ) → r (1 + k) ≡ wasm.after_import s.target (answer_import (foreign_import name) (map word vs) st.replies) results ε (at stack ls st k)
          calls k =
              let e : 1 + k ≡ suc k = omega arith in
              let count : length (replicate (length vs) I32) ≡ length (values vs) = length-replicate (length vs) I32 ∙ sym (values_length vs) in
              let c = Some (an_import (foreign_import name) (int_type (length vs) wanted)) in
              ap r e
              ∙ call_enters s.target (import_number s.home use_of) ε (at (values vs ++ stack) ls st (suc k))
              ∙ ap (λ c. wasm.called s.target c ε (at (values vs ++ stack) ls st k)) callee
              ∙ ap (λ n. wasm.entered s.target c (top_of n (values vs ++ stack)) ε (at (below_top n (values vs ++ stack)) ls st k)) count
              ∙ ap (λ o. wasm.entered s.target c o ε (at (below_top (length (values vs)) (values vs ++ stack)) ls st k)) (top_is (values vs) stack)
              ∙ ap (λ below. wasm.entered s.target c (Some (values vs)) ε (at below ls st k)) (below_is (values vs) stack)
              ∙ ap (λ args. wasm.after_import s.target (answer_import (foreign_import name) args st.replies) results ε (at stack ls st k)) (reverse-reverse (map word vs))

          answers : (a a' : ImportAnswer) → Alike s.fixed n p.replies.left a a' → ((k : ℕ) → r (1 + k) ≡ wasm.after_import s.target a' results ε (at stack ls st k))
              → Sim s.worth (EndsAlike s.fixed s.home s.heap) (Shown s d AnyValue (result wanted) scratch stack) 1 p.units r (answered a p)
          answers (ends e) a' alike run = (
            end_to_wasm e,
            st,
            record { no_trap = alike.1; heap = h.heap; is = refl; store = refl },
            p.units,
            comes_in s.worth 1 p.units r (λ k. Ended (end_to_wasm e) st) (λ k. run k ∙ ap (λ a. wasm.after_import s.target a results ε (at stack ls st k)) alike.0),
          )
          answers (goes_on g) a' alike run =
              sim_in s.worth (EndsAlike s.fixed s.home s.heap) JsValue (Shown s d AnyValue (result wanted) scratch stack) 1 value to r (λ k. Next (at (result wanted value ++ stack) ls (store_of s.fixed to) k))
              (record {
                is = tt;
                holds = record { locals = h.locals; globals = h.globals; heap = stays ∙ h.heap; bytes = bytes_stay n g.writes p.heap alike.stay h.bytes; replies = alike.answered };
                scratch_then = scratch;
                as_many = refl;
                kept = refl;
                shown = λ k. refl;
              })
              (λ k. run k ∙ ap (λ a. wasm.after_import s.target a results ε (at stack ls st k)) alike.is
              ∙ no_code s.target (at (result_word results g.word ++ stack) ls (wasm.answered g' st) k)
              ∙ ap (λ ws. Next (at (ws ++ stack) ls (wasm.answered g' st) k)) (left_words wanted g.word)
              ∙ ap (λ st. Next (at (result wanted value ++ stack) ls st k)) same)
            where
              g' : Given
              g' = record { word = g.word; writes = alike.writes; events = map event_to_wasm g.events; replies = replied s.fixed g.replies }

              value : JsValue
              value = signed_value (low_word g.word)

              to : Place
              to = record p { heap = with_writes g.writes p.heap; replies = g.replies; events = p.events ++ g.events }

              stays : length (with_writes g.writes p.heap) ≡ length p.heap
              stays = heap_stays g.writes p.heap

              same : wasm.answered g' st ≡ store_of s.fixed to
              same =
                  let replies = replied s.fixed g.replies in
                  ap (λ m. record { memory = m; globals = st.globals; table = st.table; events = map event_to_wasm p.events ++ map event_to_wasm g.events; replies = replies }) (alike.memory p.heap h.heap)
                  ∙ ap (λ es. record { memory = with_writes g.writes p.heap ++ s.fixed.past g.replies.left; globals = st.globals; table = st.table; events = es; replies = replies }) (sym (map-append event_to_wasm p.events g.events))
