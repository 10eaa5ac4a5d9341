-- The clauses of a long switch, each in an if by the number of the first one that is run.
use Rattle.std.proofs.Common.{◌≡◌, ℕ, zero, suc, ◌+◌, ◌<◌, ◌≤◌, Bool, true, false, not, List, [], ◌∷◌, Some, None, refl, ap, ◌∙◌, arith}
use Rattle.std.specs.Prelude.{◌==◌, nat_le, slice_get, slice_set, if◌then◌else◌}
use Rattle.std.proofs.lemmas.Bool.Decides.{nat_tests}
use Rattle.sem_words.specs.declared.word.Word.{Word}
use Rattle.sem_words.specs.declared.word.Word.TheVariants.{W32}
use Rattle.sem_words.specs.declared.word.Rel.TheVariants as rels
use Rattle.wasm_lang.specs.Instructions.{local_get, local_set, rel32}
use Rattle.wasm_lang_exec.specs.Code.{Trees, ε, ◌▹◌, ◌⊕◌, if_block}
use Rattle.wasm_lang_exec.specs.Store.{Store}
use Rattle.wasm_lang_exec.specs.Plain.{flag, pushed, with_local}
use Rattle.wasm_lang_exec.specs.Reductions.{choose}
use Rattle.wasm_laws_drive.specs.Drive.{at, onward}
use Rattle.wasm_laws_drive.specs.Equations.{then_on}
use Rattle.wasm_laws_drive.proofs.Instructions.{if_chooses}
use Rattle.wasm_laws_drive.proofs.Sequences.{sequence}
use Rattle.wasm_laws_trees.specs.Spelled.{size}
use Rattle.asm_lang.specs.Modules.{Stmts, Clauses, no_clauses, clauses}
use Rattle.asm_lang_valid.specs.Typing.{result_of}
use Rattle.asm_lang_exec.specs.Runs.{Part, and_then}
use Rattle.asm_lang_exec.specs.Values.{Calls}
use Rattle.asm_lang_exec.specs.Meaning.{Completion, normal, broken, continued, returned, unless_left, exec_all, exec_clauses}
use Rattle.asm2wasm_translation.specs.Numbers.{first_scratch}
use Rattle.asm2wasm_translation.specs.Values as value
use Rattle.asm2wasm_translation.specs.Bodies.{Label, plainly, breakable, reached, all_further, stmts_code, long_code}
use Rattle.asm2wasm_laws_run.specs.Straight.{on_from, effects}
use Rattle.asm2wasm_laws_run.specs.Straight as straight
use Rattle.asm2wasm_laws_run.specs.Sim as sims
use Rattle.asm2wasm_laws_run.proofs.Straight.{runs}
use Rattle.asm2wasm_laws_run.proofs.Guarded.{get_same}
use Rattle.asm2wasm_laws_preservation.specs.Kept.{Surroundings}
use Rattle.asm2wasm_laws_preservation.specs.Made.{Within}
use Rattle.asm2wasm_laws_preservation.specs.Laws.{scope}
use Rattle.asm2wasm_laws_preservation.proofs.Sizes.{sizes_add}
use Rattle.asm2wasm_laws_preservation.proofs.Rooms.{reach_joins}
use Rattle.asm2wasm_laws_simulation.specs.Bodies.Followed.{Course, on_code, Follows, Any, ends_as}
use Rattle.asm2wasm_laws_simulation.proofs.Bodies.Asked.{ClausesKept}
use Rattle.asm2wasm_laws_simulation.proofs.Bodies.Joined.{follows_bind, follows_more, follows_same}
use Rattle.asm2wasm_laws_simulation.proofs.Bodies.Left.{out_to, out_next, no_more, ends_now}
use Rattle.asm2wasm_laws_simulation.proofs.Bodies.Scratched.{Reaches, follows_known, follows_any, follows_preset}

-- from clause j on, so many clauses are passed over, where i is the number of the first one that is run
abbrev pub Passes : (i j r : ℕ) → Type 0
Passes i j zero = i ≤ j
Passes i j (suc r) = i ≡ j + suc r

next_passes : (i j r : ℕ) → Passes i j (suc r) → Passes i (suc j) r
next_passes i j zero e = omega (arith, e)
next_passes i j (suc r) e = omega (arith, e)

flagged : (b : Bool) → (flag b == 0) ≡ not b
flagged true = refl
flagged false = refl

module _ (s : Surroundings) (limit bound : ℕ) (calls : Calls) (ls : List Label) (free : 1 < s.scratch) where
  abbrev wanted : Bool
  wanted = result_of (scope s)

  abbrev number : ℕ
  number = suc (first_scratch s.within)

  its_place : first_scratch s.within + 1 ≡ number
  its_place = omega arith

  abbrev inside : List Label
  inside = breakable ∷ ls

  abbrev Ends : (more : ℕ) → Course → Part Completion → Type 0
  Ends more course part = Follows s limit more course Any (ends_as inside wanted) part

  abbrev run_all : Stmts → Part Completion
  run_all ss = exec_all true calls (scope s) bound ss

  abbrev clauses_from : ℕ → Clauses → Trees
  clauses_from j cs = long_code s.heap (scope s) ls j cs

  -- ---- one clause, and then the rest

  module _ (j : ℕ) (body rest : Trees) where
    abbrev arm : Trees
    arm = body ⊕ all_further number

    abbrev clause : Trees
    clause = reached number j ⊕ (if_block None arm ε ▹ rest)

    -- into the arm or past it
    enters : (i : ℕ) (b : Bool) → nat_le i j ≡ b → (l : List Word) (st : Store) → slice_get l number ≡ Some (W32 i) → (k : ℕ)
        → on_code s.target [] clause l st (3 + k) ≡ out_to s rest (if b then on_code s.target [] arm l st k else on_code s.target [] ε l st k)
    enters i b e l st got k =
        let n : 3 + k ≡ 2 + suc k = omega arith in
        let tail = if_block None arm ε ▹ rest in
        ap (on_code s.target [] clause l st) n
        ∙ runs s.target (local_get number ∷ value.number j ∷ rel32 rels.LeU ∷ []) [] l st (straight.reached (W32 (flag (nat_le i j)) ∷ []) l st) tail (suc k)
        (ap (λ o. on_from (pushed o [] l st) (effects (value.number j ∷ rel32 rels.LeU ∷ []))) got)
        ∙ ap (λ b. on_code s.target (W32 (flag b) ∷ []) tail l st (suc k)) e
        ∙ if_chooses s.target None arm ε rest (at (W32 (flag b) ∷ []) l st (suc k))
        ∙ by b
      where
        by : (b : Bool) → out_to s rest (onward s.target (choose (flag b) arm ε) (at [] l st k)) ≡ out_to s rest (if b then on_code s.target [] arm l st k else on_code s.target [] ε l st k)
        by true = refl
        by false = refl

    -- all later clauses are run
    later_run : (l : List Word) (st : Store) (old : Word) → slice_get l number ≡ Some old
        → Reaches 2 (λ k. out_to s rest (on_code s.target [] (all_further number) l st k)) (on_code s.target [] rest (slice_set l number (W32 0)) st)
    later_run l st old got = record {
      cost = 2;
      few = omega arith;
      by = λ k.
          let n : 2 + k ≡ 1 + (1 + k) = omega arith in
          ap (λ m. out_to s rest (on_code s.target [] (all_further number) l st m)) n
          ∙ ap (out_to s rest) (runs s.target (value.number 0 ∷ local_set number ∷ []) [] l st (straight.reached [] (slice_set l number (W32 0)) st) ε (1 + k)
          (ap (λ o. on_from (with_local number (W32 0) [] o l st) (effects [])) got) ∙ no_more s (slice_set l number (W32 0)) st (1 + k))
          ∙ out_next s rest (slice_set l number (W32 0)) st k;
    }

    body_left : (z : ℕ) (part : Part Completion) (d : Completion) → Ends z (λ l st k. on_code s.target [] rest (slice_set l number (W32 0)) st k) part
        → Ends (2 + z) (λ l st k. out_to s rest (then_on (ends_as (plainly ∷ inside) wanted d l st k) (onward s.target (all_further number)))) (unless_left d part)
    body_left z part normal f =
        follows_known s limit 1 number its_place free Any (ends_as inside wanted) 2 z (λ l st k. out_to s rest (on_code s.target [] (all_further number) l st k)) (λ l st k. on_code s.target [] rest (slice_set l number (W32 0)) st k) part later_run f
    body_left z part (broken None) f = ends_now s limit inside wanted (2 + z) (λ l st k. out_to s rest (ends_as (plainly ∷ inside) wanted (broken None) l st k)) (broken None) (λ l st k. refl)
    body_left z part (broken (Some n)) f = ends_now s limit inside wanted (2 + z) (λ l st k. out_to s rest (ends_as (plainly ∷ inside) wanted (broken (Some n)) l st k)) (broken (Some n)) (λ l st k. refl)
    body_left z part (continued None) f = ends_now s limit inside wanted (2 + z) (λ l st k. out_to s rest (ends_as (plainly ∷ inside) wanted (continued None) l st k)) (continued None) (λ l st k. refl)
    body_left z part (continued (Some n)) f = ends_now s limit inside wanted (2 + z) (λ l st k. out_to s rest (ends_as (plainly ∷ inside) wanted (continued (Some n)) l st k)) (continued (Some n)) (λ l st k. refl)
    body_left z part (returned v) f = ends_now s limit inside wanted (2 + z) (λ l st k. out_to s rest (ends_as (plainly ∷ inside) wanted (returned v) l st k)) (returned v) (λ l st k. refl)

    around_keeps : sims.Keeps (λ r. out_to s rest (then_on r (onward s.target (all_further number))))
    around_keeps = record { ended = λ e st. refl; spent = λ st. refl }

    -- a clause that is run
    runs_clause : (i z : ℕ) (first part : Part Completion) → nat_le i j ≡ true
        → Follows s limit (size body) (on_code s.target [] body) Any (ends_as (plainly ∷ inside) wanted) first
        → Ends z (λ l st k. on_code s.target [] rest (slice_set l number (W32 0)) st k) part
        → Ends (3 + (size body + (2 + z))) (λ l st k. on_code s.target [] clause (slice_set l number (W32 i)) st k) (and_then first (λ d. unless_left d part))
    runs_clause i z first part e f g =
        follows_preset_in i (λ l st k. out_to s rest (on_code s.target [] arm l st k)) (size body + (2 + z)) (and_then first (λ d. unless_left d part)) (enters i true e)
        (follows_any s limit 1 number its_place free Any (ends_as inside wanted) (size body + (2 + z)) (W32 i) (λ l st k. out_to s rest (on_code s.target [] arm l st k)) (and_then first (λ d. unless_left d part))
        (follows_same s limit Any (ends_as inside wanted) (size body + (2 + z)) (λ l st k. out_to s rest (on_code s.target [] arm l st k)) (λ l st k. out_to s rest (then_on (on_code s.target [] body l st k) (onward s.target (all_further number)))) (and_then first (λ d. unless_left d part))
        (λ l st k. ap (out_to s rest) (sequence s.target body (all_further number) (at [] l st k)))
        (follows_bind s limit (λ r. out_to s rest (then_on r (onward s.target (all_further number)))) (size body) (2 + z) (on_code s.target [] body) Any (ends_as (plainly ∷ inside) wanted) Any (ends_as inside wanted) first (λ d. unless_left d part) around_keeps f
        (λ d t. body_left z part d g))))
      where
        follows_preset_in : (i : ℕ) (later : Course) (z : ℕ) (part : Part Completion)
            → ((l : List Word) (st : Store) → slice_get l number ≡ Some (W32 i) → (k : ℕ) → on_code s.target [] clause l st (3 + k) ≡ later l st k)
            → Ends z (λ l st k. later (slice_set l number (W32 i)) st k) part → Ends (3 + z) (λ l st k. on_code s.target [] clause (slice_set l number (W32 i)) st k) part
        follows_preset_in i later z part e f =
            follows_known s limit 1 number its_place free Any (ends_as inside wanted) 3 z (λ l st k. on_code s.target [] clause (slice_set l number (W32 i)) st k) (λ l st k. later (slice_set l number (W32 i)) st k) part
            (λ l st old got. record { cost = 3; few = omega arith; by = λ k. e (slice_set l number (W32 i)) st (get_same l number old (W32 i) got) k }) f

    -- a clause that is passed over
    passes_clause : (i z : ℕ) (part : Part Completion) → nat_le i j ≡ false
        → Ends z (λ l st k. on_code s.target [] rest (slice_set l number (W32 i)) st k) part
        → Ends (4 + z) (λ l st k. on_code s.target [] clause (slice_set l number (W32 i)) st k) part
    passes_clause i z part e f =
        follows_known s limit 1 number its_place free Any (ends_as inside wanted) 4 z (λ l st k. on_code s.target [] clause (slice_set l number (W32 i)) st k) (λ l st k. on_code s.target [] rest (slice_set l number (W32 i)) st k) part
        (λ l st old got. record {
          cost = 4;
          few = omega arith;
          by = λ k.
              let n : 4 + k ≡ 3 + (1 + k) = omega arith in
              let l' = slice_set l number (W32 i) in
              ap (on_code s.target [] clause l' st) n ∙ enters i false e l' st (get_same l number old (W32 i) got) (1 + k) ∙ ap (out_to s rest) (no_more s l' st (1 + k)) ∙ out_next s rest l' st k;
        }) f

  -- ---- all clauses

  pub follows_long : (cs : Clauses) (i j r : ℕ) → Passes i j r → ClausesKept s limit bound calls cs → Within s (clauses_from j cs) → size (clauses_from j cs) ≤ s.worth
      → Ends (size (clauses_from j cs)) (λ l st k. on_code s.target [] (clauses_from j cs) (slice_set l number (W32 i)) st k) (exec_clauses true calls (scope s) bound cs r)
  follows_long no_clauses i j r p kept room few =
      follows_preset s limit 1 number its_place free Any (ends_as inside wanted) 0 (W32 i) (on_code s.target [] ε) normal tt
      (λ l st got. record { cost = 0; few = omega arith; by = λ k. let n : 0 + k ≡ k = omega arith in ap (on_code s.target [] ε l st) n ∙ no_more s l st k })
  follows_long (clauses v ss cs) i j zero p kept room few =
      let body = stmts_code s.heap (scope s) (plainly ∷ inside) ss in
      let rest = clauses_from (suc j) cs in
      let a = sizes_add body (all_further number) in
      let b = reach_joins body (all_further number) in
      let le : nat_le i j ≡ true = grind (arith, nat_tests) in
      follows_more s limit Any (ends_as inside wanted) (3 + (size body + (2 + size rest))) (size (clauses_from j (clauses v ss cs))) (λ l st k. on_code s.target [] (clauses_from j (clauses v ss cs)) (slice_set l number (W32 i)) st k) (exec_clauses true calls (scope s) bound (clauses v ss cs) zero) (omega (arith, a))
      (runs_clause j body rest i (size rest) (run_all ss) (exec_clauses true calls (scope s) bound cs zero) le
      (kept.0 (plainly ∷ inside) (omega (arith, room, b)) (omega (arith, few, a)))
      (follows_long cs 0 (suc j) zero (omega arith) kept.1 (omega (arith, room)) (omega (arith, few))))
  follows_long (clauses v ss cs) i j (suc r) p kept room few =
      let rest = clauses_from (suc j) cs in
      let gt : nat_le i j ≡ false = grind (arith, nat_tests) in
      follows_more s limit Any (ends_as inside wanted) (4 + size rest) (size (clauses_from j (clauses v ss cs))) (λ l st k. on_code s.target [] (clauses_from j (clauses v ss cs)) (slice_set l number (W32 i)) st k) (exec_clauses true calls (scope s) bound (clauses v ss cs) (suc r)) (omega arith)
      (passes_clause j (stmts_code s.heap (scope s) (plainly ∷ inside) ss) rest i (size rest) (exec_clauses true calls (scope s) bound cs r) gt
      (follows_long cs i (suc j) r (next_passes i j r p) kept.1 (omega (arith, room)) (omega (arith, few))))
