-- The clauses of a short switch, each after a block.
use Rattle.std.proofs.Common.{◌≡◌, ℕ, zero, suc, ◌+◌, ◌≤◌, Bool, true, List, [], ◌∷◌, ◌++◌, Option, Some, None, ℤ, refl, ap, ◌∙◌, arith}
use Rattle.std.specs.Prelude.{replicate}
use Rattle.sem_words.specs.declared.word.Word.{Word}
use Rattle.wasm_lang_exec.specs.Code.{Trees, ε, ◌▹◌, block}
use Rattle.wasm_laws_drive.specs.Drive.{Next, Branch, at}
use Rattle.wasm_laws_drive.proofs.Instructions.{block_enters}
use Rattle.wasm_laws_trees.specs.Spelled.{size}
use Rattle.asm_lang.specs.Modules.{Stmts, Clauses, no_clauses, clauses}
use Rattle.asm_lang_valid.specs.Typing.{result_of}
use Rattle.asm_lang_exec.specs.Runs.{Place, Run, goes, stops, spent, wrong, Part, after, and_then, gives}
use Rattle.asm_lang_exec.specs.Values.{Calls}
use Rattle.asm_lang_exec.specs.Meaning.{Completion, normal, broken, continued, returned, switch_end, unless_left, exec_all, exec_clauses}
use Rattle.asm2wasm_translation.specs.Bodies.{Label, plainly, breakable, clauses_count, stmts_code, short_code}
use Rattle.asm2wasm_laws_preservation.specs.Kept.{Surroundings}
use Rattle.asm2wasm_laws_preservation.specs.Made.{Within}
use Rattle.asm2wasm_laws_preservation.specs.Laws.{scope}
use Rattle.asm2wasm_laws_simulation.specs.Bodies.Followed.{Course, on_code, Follows, Any, ends_as}
use Rattle.asm2wasm_laws_simulation.proofs.Bodies.Asked.{ClausesKept}
use Rattle.asm2wasm_laws_simulation.proofs.Bodies.Joined.{follows_bind, follows_in, follows_more, follows_now, follows_part}
use Rattle.asm2wasm_laws_simulation.proofs.Bodies.Left.{out, out_to, out_keeps, out_next, no_more, ends_now, leaves_switch}

-- where the clauses before have led: to a clause by its number, or to an end of theirs
pub data Led : Type 0 where
  to_clause : ℕ → Led
  ended : Completion → Led

module _ (s : Surroundings) (limit bound : ℕ) (calls : Calls) (ls : List Label) where
  abbrev wanted : Bool
  wanted = result_of (scope s)

  -- inside the blocks of so many clauses
  abbrev blocks : ℕ → List Label
  blocks n = replicate n plainly ++ breakable ∷ ls

  abbrev pub leads : ℕ → Led → Course
  leads n (to_clause j) l st k = Branch j (at [] l st k)
  leads n (ended d) l st k = ends_as (blocks n) wanted d l st k

  abbrev pub IsLed : ℕ → Led → Type 0
  IsLed n (to_clause j) = j ≤ n
  IsLed n (ended d) = Unit {0}

  abbrev run_all : Stmts → Part Completion
  run_all ss = exec_all true calls (scope s) bound ss

  abbrev run_from : Clauses → Led → Part Completion
  run_from cs (to_clause j) = exec_clauses true calls (scope s) bound cs j
  run_from cs (ended d) = unless_left d (exec_clauses true calls (scope s) bound cs 0)

  -- one clause
  abbrev one_clause : Stmts → Led → Part Led
  one_clause ss (to_clause zero) = and_then (run_all ss) (λ d. gives (ended d))
  one_clause ss (to_clause (suc j)) = gives (to_clause j)
  one_clause ss (ended normal) = and_then (run_all ss) (λ d. gives (ended d))
  one_clause ss (ended d) = gives (ended d)

  ran : (cs : Clauses) (o : Run Completion) → after (after o (λ d. gives (ended d))) (run_from cs) ≡ after o (λ d. unless_left d (exec_clauses true calls (scope s) bound cs 0))
  ran cs (goes d p) = refl
  ran cs (stops e p) = refl
  ran cs (spent p) = refl
  ran cs wrong = refl

  one_then : (v : Option ℤ) (ss : Stmts) (cs : Clauses) (x : Led) (p : Place) → after (one_clause ss x p) (run_from cs) ≡ run_from (clauses v ss cs) x p
  one_then v ss cs (to_clause zero) p = ran cs (run_all ss p)
  one_then v ss cs (to_clause (suc j)) p = refl
  one_then v ss cs (ended normal) p = ran cs (run_all ss p)
  one_then v ss cs (ended (broken n)) p = refl
  one_then v ss cs (ended (continued n)) p = refl
  one_then v ss cs (ended (returned x)) p = refl

  -- code stands inside that of the clauses after it
  pub short_size : (cs : Clauses) (inside : Trees) → size inside ≤ size (short_code s.heap (scope s) ls inside cs)
  short_size no_clauses inside = omega arith
  short_size (clauses v ss cs) inside = let e = short_size cs (block None inside ▹ stmts_code s.heap (scope s) (blocks (clauses_count cs)) ss) in omega (arith, e)

  pub short_within : (cs : Clauses) (inside : Trees) → Within s (short_code s.heap (scope s) ls inside cs) → Within s inside
  short_within no_clauses inside h = h
  short_within (clauses v ss cs) inside h =
      let e : Within s (block None inside ▹ stmts_code s.heap (scope s) (blocks (clauses_count cs)) ss) = short_within cs (block None inside ▹ stmts_code s.heap (scope s) (blocks (clauses_count cs)) ss) h in omega (arith, e)

  -- out of the block before a clause
  module _ (n : ℕ) (ss : Stmts) (code : Trees) (f : Follows s limit (size code) (on_code s.target [] code) Any (ends_as (blocks n) wanted) (run_all ss)) where
    runs_clause : Follows s limit (size code + 0) (on_code s.target [] code) (IsLed n) (leads n) (and_then (run_all ss) (λ d. gives (ended d)))
    runs_clause =
        follows_bind s limit (λ r. r) (size code) 0 (on_code s.target [] code) Any (ends_as (blocks n) wanted) (IsLed n) (leads n) (run_all ss) (λ d. gives (ended d))
        (record { ended = λ e st. refl; spent = λ st. refl }) f (λ d t. follows_now s limit (IsLed n) (leads n) (ends_as (blocks n) wanted d) (ended d) tt (λ l st k. refl))

    passes : (x : Led) → IsLed (suc n) x → Follows s limit (1 + size code) (λ l st k. out_to s code (leads (suc n) x l st k)) (IsLed n) (leads n) (one_clause ss x)
    passes (to_clause zero) is = follows_more s limit (IsLed n) (leads n) (size code + 0) (1 + size code) (λ l st k. out_to s code (Branch 0 (at [] l st k))) (one_clause ss (to_clause zero)) (omega arith) runs_clause
    passes (to_clause (suc j)) is = follows_more s limit (IsLed n) (leads n) 0 (1 + size code) (λ l st k. out_to s code (Branch (suc j) (at [] l st k))) (gives (to_clause j)) (omega arith) (follows_now s limit (IsLed n) (leads n) (λ l st k. out_to s code (Branch (suc j) (at [] l st k))) (to_clause j) (omega (arith, is)) (λ l st k. refl))
    passes (ended normal) is =
        follows_more s limit (IsLed n) (leads n) (1 + (size code + 0)) (1 + size code) (λ l st k. out_to s code (Next (at [] l st k))) (one_clause ss (ended normal)) (omega arith)
        (follows_in s limit (IsLed n) (leads n) 1 (size code + 0) (λ l st k. out_to s code (Next (at [] l st k))) (on_code s.target [] code) (one_clause ss (ended normal)) (out_next s code) runs_clause)
    passes (ended (broken None)) is = follows_more s limit (IsLed n) (leads n) 0 (1 + size code) (λ l st k. out_to s code (leads (suc n) (ended (broken None)) l st k)) (gives (ended (broken None))) (omega arith) (follows_now s limit (IsLed n) (leads n) (λ l st k. out_to s code (leads (suc n) (ended (broken None)) l st k)) (ended (broken None)) tt (λ l st k. refl))
    passes (ended (broken (Some m))) is = follows_more s limit (IsLed n) (leads n) 0 (1 + size code) (λ l st k. out_to s code (leads (suc n) (ended (broken (Some m))) l st k)) (gives (ended (broken (Some m)))) (omega arith) (follows_now s limit (IsLed n) (leads n) (λ l st k. out_to s code (leads (suc n) (ended (broken (Some m))) l st k)) (ended (broken (Some m))) tt (λ l st k. refl))
    passes (ended (continued None)) is = follows_more s limit (IsLed n) (leads n) 0 (1 + size code) (λ l st k. out_to s code (leads (suc n) (ended (continued None)) l st k)) (gives (ended (continued None))) (omega arith) (follows_now s limit (IsLed n) (leads n) (λ l st k. out_to s code (leads (suc n) (ended (continued None)) l st k)) (ended (continued None)) tt (λ l st k. refl))
    passes (ended (continued (Some m))) is = follows_more s limit (IsLed n) (leads n) 0 (1 + size code) (λ l st k. out_to s code (leads (suc n) (ended (continued (Some m))) l st k)) (gives (ended (continued (Some m)))) (omega arith) (follows_now s limit (IsLed n) (leads n) (λ l st k. out_to s code (leads (suc n) (ended (continued (Some m))) l st k)) (ended (continued (Some m))) tt (λ l st k. refl))
    passes (ended (returned v)) is = follows_more s limit (IsLed n) (leads n) 0 (1 + size code) (λ l st k. out_to s code (leads (suc n) (ended (returned v)) l st k)) (gives (ended (returned v))) (omega arith) (follows_now s limit (IsLed n) (leads n) (λ l st k. out_to s code (leads (suc n) (ended (returned v)) l st k)) (ended (returned v)) tt (λ l st k. refl))

  -- out of the outermost block
  abbrev pub ends_switch : Clauses → Led → Part Completion
  ends_switch cs x = and_then (run_from cs x) (λ d. gives (switch_end d))

  last_out : (x : Led) → IsLed 0 x → Follows s limit 1 (λ l st k. out s (leads 0 x l st k)) Any (ends_as ls wanted) (ends_switch no_clauses x)
  last_out (to_clause zero) is = ends_now s limit ls wanted 1 (λ l st k. out s (Branch 0 (at [] l st k))) normal (no_more s)
  last_out (to_clause (suc j)) is = absurd (omega (arith, is))
  last_out (ended normal) is = leaves_switch s limit ls wanted normal
  last_out (ended (broken n)) is = leaves_switch s limit ls wanted (broken n)
  last_out (ended (continued n)) is = leaves_switch s limit ls wanted (continued n)
  last_out (ended (returned v)) is = leaves_switch s limit ls wanted (returned v)

  -- from inside the blocks, with locals that were set before
  pub follows_clauses : (cs : Clauses) (before : List Word → List Word) (inside : Trees) (part : Part Led) → ClausesKept s limit bound calls cs
      → Within s (short_code s.heap (scope s) ls inside cs) → size (short_code s.heap (scope s) ls inside cs) ≤ s.worth
      → Follows s limit (size inside) (λ l st k. on_code s.target [] inside (before l) st k) (IsLed (clauses_count cs)) (leads (clauses_count cs)) part
      → Follows s limit (size (short_code s.heap (scope s) ls inside cs) + 1) (λ l st k. out s (on_code s.target [] (short_code s.heap (scope s) ls inside cs) (before l) st k)) Any (ends_as ls wanted) (and_then part (ends_switch cs))
  follows_clauses no_clauses before inside part kept room few f =
      follows_bind s limit (out s) (size inside) 1 (λ l st k. on_code s.target [] inside (before l) st k) (IsLed 0) (leads 0) Any (ends_as ls wanted) part (ends_switch no_clauses) (out_keeps s ε) f last_out
  follows_clauses (clauses v ss cs) before inside part kept room few f =
      let code = stmts_code s.heap (scope s) (blocks (clauses_count cs)) ss in
      let n = clauses_count cs in
      let whole = block None inside ▹ code in
      let less = short_size cs whole in
      let space : Within s whole = short_within cs whole room in
      let clause = kept.0 (blocks n) (omega (arith, space)) (omega (arith, less, few)) in
      follows_part s limit Any (ends_as ls wanted) (size (short_code s.heap (scope s) ls whole cs) + 1) (λ l st k. out s (on_code s.target [] (short_code s.heap (scope s) ls whole cs) (before l) st k))
      (and_then (and_then part (one_clause ss)) (ends_switch cs)) (and_then part (ends_switch (clauses v ss cs))) (λ p. joined (part p))
      (follows_clauses cs before whole (and_then part (one_clause ss)) kept.1 room few
      (follows_more s limit (IsLed n) (leads n) (1 + (size inside + (1 + size code))) (size whole) (λ l st k. on_code s.target [] whole (before l) st k) (and_then part (one_clause ss)) (omega arith)
      (follows_in s limit (IsLed n) (leads n) 1 (size inside + (1 + size code)) (λ l st k. on_code s.target [] whole (before l) st k) (λ l st k. out_to s code (on_code s.target [] inside (before l) st k)) (and_then part (one_clause ss))
      (λ l st k. let one : 1 + k ≡ suc k = omega arith in ap (on_code s.target [] whole (before l) st) one ∙ block_enters s.target None inside code (at [] (before l) st (suc k)))
      (follows_bind s limit (out_to s code) (size inside) (1 + size code) (λ l st k. on_code s.target [] inside (before l) st k) (IsLed (suc n)) (leads (suc n)) (IsLed n) (leads n) part (one_clause ss) (out_keeps s code) f (passes n ss code clause)))))
    where
      joined_one : (x : Led) (p : Place) → after (one_clause ss x p) (ends_switch cs) ≡ ends_switch (clauses v ss cs) x p
      joined_one x p = split (one_clause ss x p) ∙ ap (λ o. after o (λ d. gives (switch_end d))) (one_then v ss cs x p)
        where
          split : (o : Run Led) → after o (ends_switch cs) ≡ after (after o (run_from cs)) (λ d. gives (switch_end d))
          split (goes x p) = refl
          split (stops e p) = refl
          split (spent p) = refl
          split wrong = refl

      joined : (o : Run Led) → after (after o (one_clause ss)) (ends_switch cs) ≡ after o (ends_switch (clauses v ss cs))
      joined (goes x p) = joined_one x p
      joined (stops e p) = refl
      joined (spent p) = refl
      joined wrong = refl
