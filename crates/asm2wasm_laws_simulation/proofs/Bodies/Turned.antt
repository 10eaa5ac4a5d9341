-- Loops: each turn pays a unit with the reduction that enters the loop.
use Rattle.std.proofs.Common.{◌≡◌, ℕ, zero, suc, ◌+◌, ◌≤◌, Bool, true, false, not, List, [], ◌∷◌, ◌++◌, length, Some, None, refl, ap, ◌∙◌, arith}
use Rattle.std.specs.Prelude.{◌==◌, if◌then◌else◌}
use Rattle.sem_words.specs.declared.word.Word.{Word}
use Rattle.sem_words.specs.declared.word.Word.TheVariants.{W32}
use Rattle.sem_words.specs.declared.js_value.JsValue.{JsValue}
use Rattle.sem_words.specs.JsValues.{to_uint32_of, truthy_of}
use Rattle.wasm_lang_exec.specs.Code.{Trees, ε, ◌▹◌, ◌⊕◌, block, loop, br_if}
use Rattle.wasm_laws_drive.specs.Drive.{Outcome, Next, Branch, at, onward}
use Rattle.wasm_laws_drive.specs.Equations.{then_on, at_label}
use Rattle.wasm_laws_drive.proofs.Instructions.{block_enters, loop_enters, br_branches, br_if_chooses}
use Rattle.wasm_laws_drive.proofs.Sequences.{sequence}
use Rattle.wasm_laws_trees.specs.Spelled.{size}
use Rattle.asm_types.specs.declared.value_type.ValueType.TheVariants.{Int}
use Rattle.asm_lang_valid.specs.Scope.{is_in}
use Rattle.asm_lang_exec.specs.Runs.{Place, Part, after, and_then, gives, out_of_units, paid, pay}
use Rattle.asm_lang_exec.specs.Meaning.{Completion, normal, broken, continued, returned, loop_end, unless_ended, turns, do_turns}
use Rattle.asm2wasm_translation.specs.Bodies.{Label, in_body, again, continue_label, loop_code, do_code}
use Rattle.asm2wasm_laws_run.specs.Sim.{Sim}
use Rattle.asm2wasm_laws_run.specs.Sim as sims
use Rattle.asm2wasm_laws_run.specs.State.{words, store_of, Holds, EndsAlike}
use Rattle.asm2wasm_laws_run.proofs.Simulated.{sim_unit}
use Rattle.asm2wasm_laws_preservation.specs.Kept.{Fits, a_value, Surroundings, Keeps}
use Rattle.asm2wasm_laws_preservation.proofs.Sizes.{sizes_add}
use Rattle.asm2wasm_laws_simulation.specs.Bodies.Followed.{Course, on_code, Arrived, Follows, Any, ends_as, KeepsEnd}
use Rattle.asm2wasm_laws_simulation.proofs.Bodies.Joined.{follows_bind, follows_in, follows_more, follows_same, follows_soon, follows_limit, follows_kept}
use Rattle.asm2wasm_laws_simulation.proofs.Bodies.Left.{out, out_to, out_next, no_more, ends_now}
use Rattle.asm2wasm_laws_simulation.proofs.Bodies.Tested.{tested, zero_word, chosen_by}

module _ (s : Surroundings) (ls : List Label) (wanted : Bool) (inner : Trees) where
  abbrev whole : Trees
  whole = loop None inner ▹ ε

  -- inside the loop, which is all that its block has
  abbrev pub in_loop : Outcome → Outcome
  in_loop r = out s (at_label s.target [] 0 whole ε r)

  abbrev pub entered : Course
  entered l st k = out s (on_code s.target [] whole l st k)

  abbrev Ends : (limit more : ℕ) → Course → Part Completion → Type 0
  Ends limit more course part = Follows s limit more course Any (ends_as ls wanted) part

  loop_keeps : sims.Keeps in_loop
  loop_keeps = record { ended = λ e st. refl; spent = λ st. refl }

  then_keeps : (more : Trees) → sims.Keeps (λ r. in_loop (then_on r (onward s.target more)))
  then_keeps more = record { ended = λ e st. refl; spent = λ st. refl }

  body_keeps : (more : Trees) → sims.Keeps (λ r. in_loop (out_to s more r))
  body_keeps more = record { ended = λ e st. refl; spent = λ st. refl }

  -- a turn takes a unit, and enters the loop
  pub follows_turn : (limit z : ℕ) (go : Part Completion) → suc z ≤ s.worth
      → ((u : ℕ) → suc u ≤ limit → Ends u z (λ l st k. in_loop (on_code s.target [] inner l st k)) go)
      → Ends limit 0 entered (and_then pay (λ _. go))
  follows_turn limit z go enough f = record { by = λ p scratch h many few. by p scratch h many p.units refl few }
    where
      by : (p : Place) (scratch : List Word) → Holds s.fixed s.home s.heap s.within p → length scratch ≡ s.scratch → (u : ℕ) → p.units ≡ u → u ≤ limit
          → Sim s.worth (EndsAlike s.fixed s.home s.heap) (Arrived s Any (ends_as ls wanted) scratch) 0 u (entered (words p.locals ++ scratch) (store_of s.fixed p)) (after (paid u p) (λ _. go))
      by p scratch h many zero e few = record {
        cost = 0;
        store = store_of s.fixed p;
        no_fewer = omega arith;
        no_more = omega arith;
        by = ap (out s) (loop_enters s.target None inner ε (at [] (words p.locals ++ scratch) (store_of s.fixed p) 0));
        seen = refl;
      }
      by p scratch h many (suc u) e few =
          let q = record p { units = u } in
          sim_unit s.worth (EndsAlike s.fixed s.home s.heap) Completion (Arrived s Any (ends_as ls wanted) scratch) z 0 u
          (entered (words p.locals ++ scratch) (store_of s.fixed p)) (λ k. in_loop (on_code s.target [] inner (words p.locals ++ scratch) (store_of s.fixed p) k)) (go q) (omega (arith, enough))
          (λ k. ap (out s) (loop_enters s.target None inner ε (at [] (words p.locals ++ scratch) (store_of s.fixed p) (suc k))))
          ((f u few).by q scratch (record { locals = h.locals; globals = h.globals; heap = h.heap; bytes = h.bytes; replies = h.replies }) many (omega arith))

  -- no turn is left, and no unit
  pub no_turn : (limit : ℕ) → limit ≤ 0 → Ends limit 0 entered out_of_units
  no_turn limit none = record {
    by = λ p scratch h many few. record {
      cost = 0;
      store = store_of s.fixed p;
      no_fewer = omega (arith, few, none);
      no_more = omega arith;
      by = ap (out s) (loop_enters s.target None inner ε (at [] (words p.locals ++ scratch) (store_of s.fixed p) 0));
      seen = refl;
    };
  }

  -- ---- after the body

  pub body_ends : (limit z : ℕ) (own : List (List ℕ)) (more : Trees) (rest : Part Completion) (d : Completion)
      → Ends limit z (λ l st k. in_loop (on_code s.target [] more l st k)) rest
      → Ends limit (1 + z) (λ l st k. in_loop (out_to s more (ends_as (in_body own ls) wanted d l st k))) (unless_ended (loop_end own d) rest)
  body_ends limit z own more rest normal f =
      follows_in s limit Any (ends_as ls wanted) 1 z (λ l st k. in_loop (out_to s more (ends_as (in_body own ls) wanted normal l st k))) (λ l st k. in_loop (on_code s.target [] more l st k)) rest
      (λ l st k. ap in_loop (out_next s more l st k)) f
  body_ends limit z own more rest (broken None) f =
      ends_now s limit ls wanted (1 + z) (λ l st k. in_loop (out_to s more (ends_as (in_body own ls) wanted (broken None) l st k))) normal (no_more s)
  body_ends limit z own more rest (broken (Some n)) f =
      ends_now s limit ls wanted (1 + z) (λ l st k. in_loop (out_to s more (ends_as (in_body own ls) wanted (broken (Some n)) l st k))) (broken (Some n)) (λ l st k. refl)
  body_ends limit z own more rest (continued None) f =
      follows_more s limit Any (ends_as ls wanted) z (1 + z) (λ l st k. in_loop (out_to s more (ends_as (in_body own ls) wanted (continued None) l st k))) rest (omega arith) f
  body_ends limit z own more rest (continued (Some n)) f = by (is_in n own)
    where
      by : (b : Bool) → Ends limit (1 + z) (λ l st k. in_loop (out_to s more (Branch (if b then 0 else suc (suc (suc (continue_label ls (Some n))))) (at [] l st k)))) (unless_ended (if b then None else Some (continued (Some n))) rest)
      by true = follows_more s limit Any (ends_as ls wanted) z (1 + z) (λ l st k. in_loop (out_to s more (Branch 0 (at [] l st k)))) rest (omega arith) f
      by false = ends_now s limit ls wanted (1 + z) (λ l st k. in_loop (out_to s more (Branch (suc (suc (suc (continue_label ls (Some n))))) (at [] l st k)))) (continued (Some n)) (λ l st k. refl)
  body_ends limit z own more rest (returned v) f =
      ends_now s limit ls wanted (1 + z) (λ l st k. in_loop (out_to s more (ends_as (in_body own ls) wanted (returned v) l st k))) (returned v) (λ l st k. refl)

  -- the block of the body, and what follows it
  pub follows_body : (limit z : ℕ) (own : List (List ℕ)) (body more : Trees) (does rest : Part Completion)
      → KeepsEnd s limit (in_body own ls) wanted body does
      → Ends limit z (λ l st k. in_loop (on_code s.target [] more l st k)) rest
      → Ends limit (1 + (size body + (1 + z))) (λ l st k. in_loop (on_code s.target [] (block None body ▹ more) l st k)) (and_then does (λ d. unless_ended (loop_end own d) rest))
  follows_body limit z own body more does rest f g =
      follows_in s limit Any (ends_as ls wanted) 1 (size body + (1 + z)) (λ l st k. in_loop (on_code s.target [] (block None body ▹ more) l st k)) (λ l st k. in_loop (out_to s more (on_code s.target [] body l st k))) (and_then does (λ d. unless_ended (loop_end own d) rest))
      (λ l st k. let e : 1 + k ≡ suc k = omega arith in ap (λ n. in_loop (on_code s.target [] (block None body ▹ more) l st n)) e ∙ ap in_loop (block_enters s.target None body more (at [] l st (suc k))))
      (follows_bind s limit (λ r. in_loop (out_to s more r)) (size body) (1 + z) (on_code s.target [] body) Any (ends_as (in_body own ls) wanted) Any (ends_as ls wanted) does (λ d. unless_ended (loop_end own d) rest) (body_keeps more) f
      (λ d is. body_ends limit z own more rest d g))

  -- back to the loop's start
  pub follows_again : (limit : ℕ) (part : Part Completion) → Ends limit 0 entered part → Ends limit 1 (λ l st k. in_loop (on_code s.target [] again l st k)) part
  follows_again limit part f =
      follows_in s limit Any (ends_as ls wanted) 1 0 (λ l st k. in_loop (on_code s.target [] again l st k)) entered part
      (λ l st k. let e : 1 + k ≡ suc k = omega arith in ap (λ n. in_loop (on_code s.target [] again l st n)) e ∙ ap in_loop (br_branches s.target 0 ε (at [] l st (suc k)))) f

  -- code, and then more code, in the loop
  pub follows_within : {A : Type 0} (limit z1 z2 : ℕ) (first more : Trees) (has : A → Type 0) (on : A → Course) (part : Part A) (go : A → Part Completion)
      → Follows s limit z1 (on_code s.target [] first) has on part
      → ((a : A) → has a → Ends limit z2 (λ l st k. in_loop (then_on (on a l st k) (onward s.target more))) (go a))
      → Ends limit (z1 + z2) (λ l st k. in_loop (on_code s.target [] (first ⊕ more) l st k)) (and_then part go)
  follows_within limit z1 z2 first more has on part go f g =
      follows_same s limit Any (ends_as ls wanted) (z1 + z2) (λ l st k. in_loop (on_code s.target [] (first ⊕ more) l st k)) (λ l st k. in_loop (then_on (on_code s.target [] first l st k) (onward s.target more))) (and_then part go)
      (λ l st k. ap in_loop (sequence s.target first more (at [] l st k)))
      (follows_bind s limit (λ r. in_loop (then_on r (onward s.target more))) z1 z2 (on_code s.target [] first) has on Any (ends_as ls wanted) part go (then_keeps more) f g)

  -- the loop in its block
  pub follows_loop : (limit : ℕ) (part : Part Completion) → Ends limit 0 entered part → KeepsEnd s limit ls wanted (block None whole ▹ ε) part
  follows_loop limit part f =
      follows_more s limit Any (ends_as ls wanted) (1 + 0) (size (block None whole ▹ ε)) (on_code s.target [] (block None whole ▹ ε)) part (omega arith)
      (follows_in s limit Any (ends_as ls wanted) 1 0 (on_code s.target [] (block None whole ▹ ε)) entered part
      (λ l st k. let e : 1 + k ≡ suc k = omega arith in ap (on_code s.target [] (block None whole ▹ ε) l st) e ∙ block_enters s.target None whole ε (at [] l st (suc k))) f)

-- what code leaves that gives no value
abbrev pub goes_on : {A : Type 0} → A → Course
goes_on a l st k = Next (at [] l st k)

-- ---- a loop that begins with its condition

module _ (s : Surroundings) (ls : List Label) (wanted : Bool) (limit : ℕ) (own : List (List ℕ)) (test_code body step_code : Trees) (test : Part JsValue) (does : Part Completion) (step : Part (Unit {0})) where
  abbrev turn : Trees
  turn = test_code ⊕ (block None body ▹ (step_code ⊕ again))

  abbrev Turns : (limit more : ℕ) → Course → Part Completion → Type 0
  Turns limit more course part = Follows s limit more course Any (ends_as ls wanted) part

  module _ (enough : suc (size turn) ≤ s.worth) (tests : Follows s limit (size test_code) (on_code s.target [] test_code) Any (tested s limit) test)
      (f : KeepsEnd s limit (in_body own ls) wanted body does) (g : Follows s limit (size step_code) (on_code s.target [] step_code) Any goes_on step) where
    one_turn : (lower : ℕ) → lower ≤ limit → (rest : Part Completion) → Turns lower 0 (entered s ls wanted turn) rest
        → Turns lower (size turn) (λ l st k. in_loop s ls wanted turn (on_code s.target [] turn l st k)) (and_then test (λ v. if truthy_of v then and_then does (λ d. unless_ended (loop_end own d) (and_then step (λ _. rest))) else gives normal))
    one_turn lower le rest r =
        let a = sizes_add test_code (block None body ▹ (step_code ⊕ again)) in
        let b = sizes_add step_code again in
        follows_more s lower Any (ends_as ls wanted) (size test_code + (1 + (size body + (1 + (size step_code + 1))))) (size turn) (λ l st k. in_loop s ls wanted turn (on_code s.target [] turn l st k))
        (and_then test (λ v. if truthy_of v then and_then does (λ d. unless_ended (loop_end own d) (and_then step (λ _. rest))) else gives normal)) (omega (arith, a, b))
        (follows_within s ls wanted turn lower (size test_code) (1 + (size body + (1 + (size step_code + 1)))) test_code (block None body ▹ (step_code ⊕ again)) Any (tested s limit) test
        (λ v. if truthy_of v then and_then does (λ d. unless_ended (loop_end own d) (and_then step (λ _. rest))) else gives normal)
        (follows_limit s limit Any (tested s limit) lower (size test_code) (on_code s.target [] test_code) test le tests)
        (λ v is. by (truthy_of v)))
      where
        by : (b : Bool) → Turns lower (1 + (size body + (1 + (size step_code + 1))))
            (λ l st k. in_loop s ls wanted turn (then_on (if b then Next (at [] l st k) else Branch 1 (at [] l st k)) (onward s.target (block None body ▹ (step_code ⊕ again)))))
            (if b then and_then does (λ d. unless_ended (loop_end own d) (and_then step (λ _. rest))) else gives normal)
        by true =
            follows_body s ls wanted turn lower (size step_code + 1) own body (step_code ⊕ again) does (and_then step (λ _. rest))
            (follows_limit s limit Any (ends_as (in_body own ls) wanted) lower (size body) (on_code s.target [] body) does le f)
            (follows_within s ls wanted turn lower (size step_code) 1 step_code again Any goes_on step (λ _. rest)
            (follows_limit s limit Any goes_on lower (size step_code) (on_code s.target [] step_code) step le g)
            (λ u is. follows_again s ls wanted turn lower rest r))
        by false =
            ends_now s lower ls wanted (1 + (size body + (1 + (size step_code + 1))))
            (λ l st k. in_loop s ls wanted turn (then_on (Branch 1 (at [] l st k)) (onward s.target (block None body ▹ (step_code ⊕ again))))) normal (no_more s)

    all_turns : (n lower : ℕ) → lower ≤ n → lower ≤ limit → Turns lower 0 (entered s ls wanted turn) (turns own n test does step)
    all_turns zero lower some le = no_turn s ls wanted turn lower some
    all_turns (suc n) lower some le =
        follows_turn s ls wanted turn lower (size turn) (and_then test (λ v. if truthy_of v then and_then does (λ d. unless_ended (loop_end own d) (and_then step (λ _. turns own n test does step))) else gives normal)) enough
        (λ u less. one_turn u (omega (arith, less, le)) (turns own n test does step) (all_turns n u (omega (arith, less, some)) (omega (arith, less, le))))

    pub keeps_turns : (n : ℕ) → limit ≤ n → KeepsEnd s limit ls wanted (loop_code test_code body step_code) (turns own n test does step)
    keeps_turns n le = follows_loop s ls wanted turn limit (turns own n test does step) (all_turns n limit le (omega arith))

-- ---- a `do` loop

module _ (s : Surroundings) (ls : List Label) (wanted : Bool) (limit : ℕ) (own : List (List ℕ)) (body test_code : Trees) (does : Part Completion) (test : Part JsValue) where
  abbrev do_turn : Trees
  do_turn = block None body ▹ (test_code ⊕ (br_if 0 ▹ ε))

  abbrev DoTurns : (limit more : ℕ) → Course → Part Completion → Type 0
  DoTurns limit more course part = Follows s limit more course Any (ends_as ls wanted) part

  module _ (enough : 3 + size do_turn ≤ s.worth) (f : KeepsEnd s limit (in_body own ls) wanted body does) (tests : Keeps s limit 0 [] (Fits Int) a_value test_code test) where
    at_end : (lower : ℕ) (n : ℕ) (b : Bool) (rest : Part Completion) → (n == 0) ≡ not b → DoTurns lower 0 (entered s ls wanted do_turn) rest
        → DoTurns lower 3 (λ l st k. in_loop s ls wanted do_turn (on_code s.target (W32 n ∷ []) (br_if 0 ▹ ε) l st k)) (if b then rest else gives normal)
    at_end lower n b rest e r =
        follows_in s lower Any (ends_as ls wanted) 1 2 (λ l st k. in_loop s ls wanted do_turn (on_code s.target (W32 n ∷ []) (br_if 0 ▹ ε) l st k))
        (λ l st k. in_loop s ls wanted do_turn (if b then Branch 0 (at [] l st k) else onward s.target ε (at [] l st k))) (if b then rest else gives normal)
        (λ l st k.
        let one : 1 + k ≡ suc k = omega arith in
        ap (λ m. in_loop s ls wanted do_turn (on_code s.target (W32 n ∷ []) (br_if 0 ▹ ε) l st m)) one
        ∙ ap (in_loop s ls wanted do_turn) (br_if_chooses s.target 0 ε (at (W32 n ∷ []) l st (suc k)) ∙ chosen_by n b (Branch 0 (at [] l st k)) (onward s.target ε (at [] l st k)) e))
        (by b)
      where
        by : (b : Bool) → DoTurns lower 2 (λ l st k. in_loop s ls wanted do_turn (if b then Branch 0 (at [] l st k) else onward s.target ε (at [] l st k))) (if b then rest else gives normal)
        by true = follows_more s lower Any (ends_as ls wanted) 0 2 (λ l st k. in_loop s ls wanted do_turn (Branch 0 (at [] l st k))) rest (omega arith) r
        by false =
            follows_soon s lower Any (ends_as ls wanted) 2 2 (λ l st k. in_loop s ls wanted do_turn (onward s.target ε (at [] l st k))) normal (omega arith) tt
            (λ l st k. let two : 2 + k ≡ suc (suc k) = omega arith in
            ap (λ m. in_loop s ls wanted do_turn (onward s.target ε (at [] l st m))) two
            ∙ ap (in_loop s ls wanted do_turn) (no_more s l st (suc (suc k)))
            ∙ ap (out s) (no_more s l st (suc k))
            ∙ no_more s l st k)

    one_do_turn : (lower : ℕ) → lower ≤ limit → (rest : Part Completion) → DoTurns lower 0 (entered s ls wanted do_turn) rest
        → DoTurns lower (2 + size do_turn) (λ l st k. in_loop s ls wanted do_turn (on_code s.target [] do_turn l st k)) (and_then does (λ d. unless_ended (loop_end own d) (and_then test (λ v. if truthy_of v then rest else gives normal))))
    one_do_turn lower le rest r =
        let a = sizes_add test_code (br_if 0 ▹ ε) in
        follows_more s lower Any (ends_as ls wanted) (1 + (size body + (1 + (size test_code + 3)))) (2 + size do_turn) (λ l st k. in_loop s ls wanted do_turn (on_code s.target [] do_turn l st k))
        (and_then does (λ d. unless_ended (loop_end own d) (and_then test (λ v. if truthy_of v then rest else gives normal)))) (omega (arith, a))
        (follows_body s ls wanted do_turn lower (size test_code + 3) own body (test_code ⊕ (br_if 0 ▹ ε)) does (and_then test (λ v. if truthy_of v then rest else gives normal))
        (follows_limit s limit Any (ends_as (in_body own ls) wanted) lower (size body) (on_code s.target [] body) does le f)
        (follows_within s ls wanted do_turn lower (size test_code) 3 test_code (br_if 0 ▹ ε) (Fits Int) (λ v l st k. Next (at (a_value v ++ []) l st k)) test (λ v. if truthy_of v then rest else gives normal)
        (follows_limit s limit (Fits Int) (λ v l st k. Next (at (a_value v ++ []) l st k)) lower (size test_code) (on_code s.target [] test_code) test le (follows_kept s limit (Fits Int) a_value test_code test tests))
        (λ v fits. at_end lower (to_uint32_of v) (truthy_of v) rest (zero_word v (truthy_of v) fits refl) r)))

    all_do_turns : (n lower : ℕ) → lower ≤ n → lower ≤ limit → DoTurns lower 0 (entered s ls wanted do_turn) (do_turns own n does test)
    all_do_turns zero lower some le = no_turn s ls wanted do_turn lower some
    all_do_turns (suc n) lower some le =
        follows_turn s ls wanted do_turn lower (2 + size do_turn) (and_then does (λ d. unless_ended (loop_end own d) (and_then test (λ v. if truthy_of v then do_turns own n does test else gives normal)))) (omega (arith, enough))
        (λ u less. one_do_turn u (omega (arith, less, le)) (do_turns own n does test) (all_do_turns n u (omega (arith, less, some)) (omega (arith, less, le))))

    pub keeps_do : (n : ℕ) → limit ≤ n → KeepsEnd s limit ls wanted (do_code body test_code) (do_turns own n does test)
    keeps_do n le = follows_loop s ls wanted do_turn limit (do_turns own n does test) (all_do_turns n limit le (omega arith))
