-- One reduction of the pair's code, and those of the linked module's: each instruction.
use Rattle.std.proofs.Common.{◌≡◌, ℕ, zero, suc, ◌+◌, List, [], ◌∷◌, ◌++◌, length, refl, ap, ◌∙◌, arith}
use Rattle.sem_words.specs.declared.word.Word.{Word}
use Rattle.sem_words.specs.declared.word.Word.TheVariants.{W32, W64}
use Rattle.sem_words.specs.declared.word.TrapKind.TheVariants as kinds
use Rattle.session_lang.specs.Observation.{trapped}
use Rattle.wasm_lang.specs.Instructions.{const32, const64}
use Rattle.wasm_lang.specs.Modules.{WasmModule}
use Rattle.wasm_lang_exec.specs.Code.{unreachable, block, loop, if_block, br, br_if, br_table, return, call, call_indirect, plain, Trees, ε, ◌▹◌}
use Rattle.wasm_lang_exec.specs.Store.{Store}
use Rattle.wasm_lang_exec.specs.Plain.{do_plain}
use Rattle.wasm_lang_exec.specs.Reductions.{callee_at, arity_of, Config, Code, Label, Reduct, to, is_values, branches, returns, stops, is_stuck}
use Rattle.wasm_laws_drive.specs.Drive.{Ended, Stuck, at, drive}
use Rattle.wasm_laws_drive.proofs.Instructions.{no_code, narrow_constant, wide_constant, call_enters}
use Rattle.wasm_link_lang.specs.Pairs.{Pair, called}
use Rattle.wasm_link_lang.specs.Reductions.{reduce_code}
use Rattle.wasm_link_code.specs.Numbers.{number}
use Rattle.wasm_link_code.specs.Trees.{moved_tree}
use Rattle.wasm_link_laws_sessions.specs.Alike.{IsFunction, KeepsGlobals, Fine, IsAlikeCallee}
use Rattle.wasm_link_laws_sessions.proofs.PlainMoves.{plain_moves}
use Rattle.wasm_link_laws_sessions.proofs.Steps.{st, Holds, Follows, one_more, steps_to, ends_after_one, after_plain}
use Rattle.wasm_link_laws_sessions.proofs.Calls.{calls}

module _ (w : Pair) (m : WasmModule) (g : ℕ) (order : List Word → List Word) (keeps : KeepsGlobals w g order)
    (callees : (a : ℕ) → IsFunction w a → IsAlikeCallee w g (called w a) (callee_at m (number w a))) (locals room : List Word) where
  abbrev k : ℕ
  k = length locals

  abbrev r : ℕ
  r = length room

  abbrev all : List Word
  all = locals ++ room

  -- a configuration that comes to the same
  follows_same : (rd : Reduct) (c' c'' : Config) (s : Store) → ((n : ℕ) → drive m n c' all (st w m g order s) ≡ drive m n c'' all (st w m g order s))
      → Follows w m g order rd c'' locals room s → Follows w m g order rd c' locals room s
  follows_same (to c1 locals1 s1) c' c'' s e it = record {
    cost = it.cost;
    some = it.some;
    few = it.few;
    config = it.config;
    rest = it.rest;
    many = it.many;
    room_stays = it.room_stays;
    holds = it.holds;
    alike = it.alike;
    takes = λ n. e (it.cost + n) ∙ it.takes n;
  }
  follows_same (is_values vs) c' c'' s e it = λ n. e n ∙ it n
  follows_same (branches j vs) c' c'' s e it = λ n. e (suc n) ∙ it n
  follows_same (returns vs) c' c'' s e it = λ n. e (suc n) ∙ it n
  follows_same (stops x s1) c' c'' s e it = record { cost = it.cost; few = it.few; ends = λ n. e (it.cost + n) ∙ it.ends n }
  follows_same is_stuck c' c'' s e it = record { cost = it.cost; few = it.few; ends = λ n. e (it.cost + n) ∙ it.ends n }

  abbrev Steps : Trees → List Word → Store → Type 0
  Steps code values s = Follows w m g order (reduce_code w code values locals s) (Code values (moved_tree w k code)) locals room s

  pub reduces : (code : Trees) (values : List Word) (s : Store) → Fine w g k r code → Holds w m g order s
      → ((t : ℕ) (code : Trees) (values : List Word) → Fine w g k r (call_indirect t ▹ code) → Steps (call_indirect t ▹ code) values s) → Steps code values s
  reduces ε values s h holds indirect = λ n. no_code m (at values all (st w m g order s) n)
  reduces (plain (const32 x) ▹ code) values s h holds indirect =
      follows_same (reduce_code w code (W32 x ∷ values) locals s) (Code values (plain (const32 x) ▹ moved_tree w k code)) (Code (W32 x ∷ values) (moved_tree w k code)) s
      (λ n. narrow_constant m x (moved_tree w k code) (at values all (st w m g order s) n)) (reduces code (W32 x ∷ values) s h.1 holds indirect)
  reduces (plain (const64 x) ▹ code) values s h holds indirect =
      follows_same (reduce_code w code (W64 x ∷ values) locals s) (Code values (plain (const64 x) ▹ moved_tree w k code)) (Code (W64 x ∷ values) (moved_tree w k code)) s
      (λ n. wide_constant m x (moved_tree w k code) (at values all (st w m g order s) n)) (reduces code (W64 x ∷ values) s h.1 holds indirect)
  reduces (plain p ▹ code) values s h holds indirect =
      let it = plain_moves w g order room locals s holds.0 keeps p values h.0 in after_plain w m g order locals room p values code s refl holds h.1 (do_plain p values locals s) it.0 it.1
  reduces (unreachable ▹ code) values s h holds indirect =
      ends_after_one w m g order locals room (Code values (unreachable ▹ moved_tree w k code)) s (Ended (trapped kinds.Unreachable) (st w m g order s)) (λ n. refl)
  reduces (block t body ▹ code) values s h holds indirect =
      steps_to w m g order locals room (Code values (block t (moved_tree w k body) ▹ moved_tree w k code)) (Label values (arity_of t) ε (Code [] body) code)
      (Label values (arity_of t) ε (Code [] (moved_tree w k body)) (moved_tree w k code)) s s holds (tt, h.2, Code [] (moved_tree w k body), (h.1, refl), refl) (λ n. refl)
  reduces (loop t body ▹ code) values s h holds indirect =
      steps_to w m g order locals room (Code values (loop t (moved_tree w k body) ▹ moved_tree w k code)) (Label values 0 (loop t body ▹ ε) (Code [] body) code)
      (Label values 0 (loop t (moved_tree w k body) ▹ ε) (Code [] (moved_tree w k body)) (moved_tree w k code)) s s holds
      ((tt, h.1, tt), h.2, Code [] (moved_tree w k body), (h.1, refl), refl) (λ n. refl)
  reduces (if_block t first second ▹ code) (W32 zero ∷ values) s h holds indirect =
      steps_to w m g order locals room (Code (W32 zero ∷ values) (if_block t (moved_tree w k first) (moved_tree w k second) ▹ moved_tree w k code)) (Label values (arity_of t) ε (Code [] second) code)
      (Label values (arity_of t) ε (Code [] (moved_tree w k second)) (moved_tree w k code)) s s holds (tt, h.3, Code [] (moved_tree w k second), (h.2, refl), refl) (λ n. refl)
  reduces (if_block t first second ▹ code) (W32 (suc c) ∷ values) s h holds indirect =
      steps_to w m g order locals room (Code (W32 (suc c) ∷ values) (if_block t (moved_tree w k first) (moved_tree w k second) ▹ moved_tree w k code)) (Label values (arity_of t) ε (Code [] first) code)
      (Label values (arity_of t) ε (Code [] (moved_tree w k first)) (moved_tree w k code)) s s holds (tt, h.3, Code [] (moved_tree w k first), (h.1, refl), refl) (λ n. refl)
  reduces (if_block t first second ▹ code) (W64 c ∷ values) s h holds indirect =
      ends_after_one w m g order locals room (Code (W64 c ∷ values) (if_block t (moved_tree w k first) (moved_tree w k second) ▹ moved_tree w k code)) s (Stuck (st w m g order s)) (λ n. refl)
  reduces (if_block t first second ▹ code) [] s h holds indirect =
      ends_after_one w m g order locals room (Code [] (if_block t (moved_tree w k first) (moved_tree w k second) ▹ moved_tree w k code)) s (Stuck (st w m g order s)) (λ n. refl)
  reduces (br l ▹ code) values s h holds indirect = λ n. refl
  reduces (br_if l ▹ code) (W32 zero ∷ values) s h holds indirect =
      steps_to w m g order locals room (Code (W32 zero ∷ values) (br_if l ▹ moved_tree w k code)) (Code values code) (Code values (moved_tree w k code)) s s holds (h.1, refl) (λ n. refl)
  reduces (br_if l ▹ code) (W32 (suc c) ∷ values) s h holds indirect = λ n. refl
  reduces (br_if l ▹ code) (W64 c ∷ values) s h holds indirect =
      ends_after_one w m g order locals room (Code (W64 c ∷ values) (br_if l ▹ moved_tree w k code)) s (Stuck (st w m g order s)) (λ n. refl)
  reduces (br_if l ▹ code) [] s h holds indirect = ends_after_one w m g order locals room (Code [] (br_if l ▹ moved_tree w k code)) s (Stuck (st w m g order s)) (λ n. refl)
  reduces (br_table ls d ▹ code) (W32 i ∷ values) s h holds indirect = λ n. refl
  reduces (br_table ls d ▹ code) (W64 i ∷ values) s h holds indirect =
      ends_after_one w m g order locals room (Code (W64 i ∷ values) (br_table ls d ▹ moved_tree w k code)) s (Stuck (st w m g order s)) (λ n. refl)
  reduces (br_table ls d ▹ code) [] s h holds indirect = ends_after_one w m g order locals room (Code [] (br_table ls d ▹ moved_tree w k code)) s (Stuck (st w m g order s)) (λ n. refl)
  reduces (return ▹ code) values s h holds indirect = λ n. refl
  reduces (call a ▹ code) values s h holds indirect =
      calls w m g order locals room 1 (omega arith) (omega arith) (Code values (call (number w a) ▹ moved_tree w k code)) room refl values code s h.1 holds (called w a) (callee_at m (number w a)) (callees a h.0)
      (λ n. ap (λ j. drive m j (Code values (call (number w a) ▹ moved_tree w k code)) all (st w m g order s)) (one_more w m g order n)
      ∙ call_enters m (number w a) (moved_tree w k code) (at values all (st w m g order s) (suc n)))
  reduces (call_indirect t ▹ code) values s h holds indirect = indirect t code values h
