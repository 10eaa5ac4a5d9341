-- A script that fits the translation may write past the heap: what lies there goes by the replies that are left, and the script for the
-- text makes of each write the part in the heap.
use Rattle.std.proofs.Common.{◌≡◌, ℕ, ◌+◌, ◌-◌, List, [], ◌∷◌, ◌++◌, length, map, take, drop, replicate, refl, sym, ap, ◌∙◌, subst, arith, length-append, append_assoc}
use Rattle.std.specs.List.{All, AllByRecursion}
use Rattle.std.proofs.Math.Seq.{take-append_seam, drop-append_seam}
use Rattle.std.proofs.lemmas.List.{replicate-append-replicate, length-replicate, length-map}
use Rattle.std.proofs.lemmas.List.Elements.{recursion_from_All}
use Rattle.session_lang.specs.Script.{WritePlain, ReplyPlain, give, throw, ReplyLinePlain, ScriptPlain}
use Rattle.session_lang.specs.Imports.{first_replies}
use Rattle.session_lang.specs.Fits.{writes_of}
use Rattle.wasm_lang.specs.Modules.{WasmModule}
use Rattle.wasm_lang_valid.specs.Runnable.{pages}
use Rattle.wasm_lang_exec.specs.Store.{written}
use Rattle.wasm_lang_exec.specs.Session.{imported_globals, bytes_in, first_memory}
use Rattle.asm_lang.specs.Modules.{Module}
use Rattle.asm_lang_exec.specs.Values.{with_writes}
use Rattle.asm_lang_exec.specs.Session.{heap_length, first_heap}
use Rattle.asm2wasm_translation.specs.Modules.{translation}
use Rattle.asm2wasm_laws_heap.specs.Guards.{part_in, part_past}
use Rattle.asm2wasm_laws_heap.proofs.Writes.{writes_have_two_parts}
use Rattle.asm2wasm_laws_run.specs.State.{Fixed, AreAnswered}
use Rattle.asm2wasm_laws_preservation.proofs.Foreign.{heap_stays}
use Rattle.asm2wasm_laws_acceptance.specs.Laws.{table_entries}
use Rattle.asm2wasm_laws_acceptance.specs.Scripts.{text_reply, text_line, text_script, EndsBy, FitsText}
use Rattle.asm2wasm_laws_simulation.proofs.Sessions.Begun.{Replied, FitsTo, Starts}

-- ---- past the heap

-- what lies past a heap of this length after the byte writes of these replies
abbrev pub past_after : ℕ → List ReplyPlain → List ℕ → List ℕ
past_after long [] past = past
past_after long (r ∷ rs) past = past_after long rs (with_writes (map (part_past long) (writes_of r)) past)

past_long : (long : ℕ) (rs : List ReplyPlain) (past : List ℕ) → length (past_after long rs past) ≡ length past
past_long long [] past = refl
past_long long (r ∷ rs) past = let ws = map (part_past long) (writes_of r) in past_long long rs (with_writes ws past) ∙ heap_stays ws past

one_more : (long : ℕ) (rs : List ReplyPlain) (r : ReplyPlain) (past : List ℕ)
    → past_after long (rs ++ r ∷ []) past ≡ with_writes (map (part_past long) (writes_of r)) (past_after long rs past)
one_more long [] r past = refl
one_more long (q ∷ rs) r past = one_more long rs r (with_writes (map (part_past long) (writes_of q)) past)

-- writes anywhere in the memory, with a heap of this length
in_both : (ws : List WritePlain) (heap past : List ℕ) (long end : ℕ) → length heap ≡ long → long + length past ≡ end → All (EndsBy end) ws
    → written ws (heap ++ past) ≡ with_writes (map (part_in long) ws) heap ++ with_writes (map (part_past long) ws) past
in_both ws heap past long end is ends all =
    let same : end ≡ length heap + length past = sym ends ∙ ap (λ n. n + length past) (sym is) in
    subst (λ n. written ws (heap ++ past) ≡ with_writes (map (part_in n) ws) heap ++ with_writes (map (part_past n) ws) past) is
    (writes_have_two_parts ws heap past (subst (λ n. All (EndsBy n) ws) same all))

module _ (m : Module) (size : ℕ) (s : ScriptPlain) where
  abbrev w : WasmModule
  w = translation m size

  abbrev long : ℕ
  long = heap_length m size

  abbrev end : ℕ
  end = bytes_in (pages w)

  -- the replies of the script, and how many of them have been made where so many are left
  abbrev all : List ReplyPlain
  all = (first_replies s).left

  abbrev made : List ReplyPlain → ℕ
  made left = length all - length left

  abbrev zeros : List ℕ
  zeros = replicate (end - long) 0

  abbrev first_past : List ℕ
  first_past = with_writes (map (part_past long) s.writes) zeros

  abbrev pub fixed_anywhere : Fixed
  fixed_anywhere = record {
    past = λ left. past_after long (take (made left) all) first_past;
    replied = λ left. drop (made left) all;
    given = imported_globals s w.imports;
    entries = table_entries m;
  }

  abbrev texts : List ReplyPlain → List ReplyPlain
  texts rs = map (text_reply long) rs

  texts_are : (rs : List ReplyLinePlain) → map (λ (r : ReplyLinePlain). r.reply) (map (text_line long) rs) ≡ texts (map (λ (r : ReplyLinePlain). r.reply) rs)
  texts_are [] = refl
  texts_are (r ∷ rs) = ap (λ l. text_reply long r.reply ∷ l) (texts_are rs)

  -- ---- where the replies before these have been made

  module _ (before rest : List ReplyPlain) (e : before ++ rest ≡ all) where
    made_is : made (texts rest) ≡ length before
    made_is =
        let whole : length (before ++ rest) ≡ length all = ap length e in
        let joined = length-append before rest in
        let many = length-map rest (text_reply long) in
        omega (arith, whole, joined, many)

    left_is : fixed_anywhere.replied (texts rest) ≡ rest
    left_is = ap (λ n. drop n all) made_is ∙ ap (drop (length before)) (sym e) ∙ drop-append_seam before rest

    past_is : fixed_anywhere.past (texts rest) ≡ past_after long before first_past
    past_is = ap (λ n. past_after long (take n all) first_past) made_is ∙ ap (λ l. past_after long l first_past) (ap (take (length before)) (sym e) ∙ take-append_seam before rest)

  module _ (ends : long + (end - long) ≡ end) where
    filled : (rs : List ReplyPlain) → long + length (past_after long rs first_past) ≡ end
    filled rs = ap (λ n. long + n) (past_long long rs first_past ∙ heap_stays (map (part_past long) s.writes) zeros ∙ length-replicate (end - long) 0) ∙ ends

    answers : (before rest : List ReplyPlain) → before ++ rest ≡ all → AllByRecursion (λ r. All (EndsBy end) (writes_of r)) rest → AllByRecursion (Replied m size) (texts rest)
        → AreAnswered fixed_anywhere long (texts rest)
    answers before [] e fits stay = left_is before [] e
    answers before (throw ∷ rest) e fits stay = (rest, left_is before (throw ∷ rest) e)
    answers before (give word ws ∷ rest) e fits stay =
        let r = give word ws in
        let next = before ++ r ∷ [] in
        let same : next ++ rest ≡ all = append_assoc before (r ∷ []) rest ∙ e in (
          record {
            writes = ws;
            reply = left_is before (r ∷ rest) e ∙ ap (λ l. r ∷ l) (sym (left_is next rest same));
            stay = stay.0;
            memory = λ heap is.
                let past = past_after long before first_past in
                ap (λ b. written ws (heap ++ b)) (past_is before (r ∷ rest) e) ∙ in_both ws heap past long end is (filled before) fits.0
                ∙ ap (λ b. with_writes (map (part_in long) ws) heap ++ b) (sym (past_is next rest same ∙ one_more long before r first_past));
          },
          answers next rest same fits.1 stay.1,
        )

    -- ---- the session begins

    module _ (back : FitsText m size s) where
      abbrev there : ScriptPlain
      there = text_script m size s

      memory_is : first_memory w s ≡ first_heap m size there ++ fixed_anywhere.past (first_replies there).left
      memory_is =
          ap (λ n. written s.writes (replicate n 0)) (sym ends) ∙ ap (written s.writes) (sym (replicate-append-replicate long (end - long) 0))
          ∙ in_both s.writes (replicate long 0) zeros long end (length-replicate long 0) (ap (λ n. long + n) (length-replicate (end - long) 0) ∙ ends) back.writes
          ∙ ap (λ b. first_heap m size there ++ b) (sym (ap fixed_anywhere.past (texts_are s.replies) ∙ past_is [] all refl))

      reach : (rs : List ReplyLinePlain) → AllByRecursion (λ (r : ReplyLinePlain). All (EndsBy end) (writes_of r.reply)) rs
          → AllByRecursion (λ r. All (EndsBy end) (writes_of r)) (map (λ (r : ReplyLinePlain). r.reply) rs)
      reach [] fits = tt
      reach (r ∷ rs) fits = (fits.0, reach rs fits.1)

      pub starts_anywhere : FitsTo m size there → Starts m size there s fixed_anywhere
      starts_anywhere fits =
          let same = texts_are s.replies in
          let stay = subst (AllByRecursion (Replied m size)) same (recursion_from_All (Replied m size) (first_replies there).left fits.replies) in record {
            globals = back.globals;
            calls = refl;
            memory = memory_is;
            replies = sym (ap fixed_anywhere.replied same ∙ left_is [] all refl);
            given = refl;
            entries = refl;
            answered = subst (AreAnswered fixed_anywhere long) (sym same)
                (answers [] all refl (reach s.replies (recursion_from_All (λ (r : ReplyLinePlain). All (EndsBy end) (writes_of r.reply)) s.replies back.replies)) stay);
          }
