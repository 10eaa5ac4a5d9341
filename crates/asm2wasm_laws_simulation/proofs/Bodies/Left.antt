-- How code leaves the blocks round it.
use Rattle.std.proofs.Common.{◌≡◌, ℕ, suc, ◌+◌, ◌≤◌, Bool, true, false, List, [], ◌∷◌, Some, None, refl, ap, ◌∙◌, arith}
use Rattle.std.specs.Prelude.{if◌then◌else◌}
use Rattle.sem_words.specs.declared.word.Word.{Word}
use Rattle.wasm_lang_exec.specs.Code.{Trees, ε}
use Rattle.wasm_lang_exec.specs.Store.{Store}
use Rattle.wasm_laws_drive.specs.Drive.{Outcome, Next, Branch, at, onward}
use Rattle.wasm_laws_drive.specs.Equations.{then_on, at_label}
use Rattle.wasm_laws_drive.proofs.Instructions.{no_code}
use Rattle.asm_lang_valid.specs.Scope.{is_in}
use Rattle.asm_lang_exec.specs.Runs.{Part, gives}
use Rattle.asm_lang_exec.specs.Meaning.{Completion, normal, broken, continued, returned, label_end, switch_end, unless_left}
use Rattle.asm2wasm_translation.specs.Bodies.{Label, plainly, breakable, named_end, break_label}
use Rattle.asm2wasm_laws_run.specs.Sim as sims
use Rattle.asm2wasm_laws_preservation.specs.Kept.{Surroundings}
use Rattle.asm2wasm_laws_simulation.specs.Bodies.Followed.{Course, Follows, Any, ends_as}
use Rattle.asm2wasm_laws_simulation.proofs.Bodies.Joined.{follows_more, follows_now, follows_soon}

module _ (s : Surroundings) where
  -- out of a block, with more code after it
  abbrev pub out_to : Trees → Outcome → Outcome
  out_to more r = at_label s.target [] 0 ε more r

  abbrev pub out : Outcome → Outcome
  out r = out_to ε r

  pub out_keeps : (more : Trees) → sims.Keeps (out_to more)
  out_keeps more = record { ended = λ e st. refl; spent = λ st. refl }

  -- a reduction from values to the code after the block
  pub out_next : (more : Trees) (locals : List Word) (st : Store) (k : ℕ) → out_to more (Next (at [] locals st (1 + k))) ≡ onward s.target more (at [] locals st k)
  out_next more locals st k = let e : 1 + k ≡ suc k = omega arith in ap (λ n. out_to more (Next (at [] locals st n))) e

  pub no_more : (locals : List Word) (st : Store) (k : ℕ) → onward s.target ε (at [] locals st k) ≡ Next (at [] locals st k)
  no_more locals st k = no_code s.target (at [] locals st k)

  module _ (limit : ℕ) (ls : List Label) (wanted : Bool) where
    abbrev Ends : (more : ℕ) → Course → Part Completion → Type 0
    Ends more course part = Follows s limit more course Any (ends_as ls wanted) part

    pub ends_now : (z : ℕ) (course : Course) (d : Completion) → ((l : List Word) (st : Store) (k : ℕ) → course l st k ≡ ends_as ls wanted d l st k) → Ends z course (gives d)
    ends_now z course d e = follows_more s limit Any (ends_as ls wanted) 0 z course (gives d) (omega arith) (follows_now s limit Any (ends_as ls wanted) course d tt e)

    pub ends_soon : (z : ℕ) (course : Course) (d : Completion) → 1 ≤ z → ((l : List Word) (st : Store) (k : ℕ) → course l st (1 + k) ≡ ends_as ls wanted d l st k) → Ends z course (gives d)
    ends_soon z course d le e = follows_soon s limit Any (ends_as ls wanted) 1 z course d le tt e

    normally : (l : List Word) (st : Store) (k : ℕ) → out (Next (at [] l st (1 + k))) ≡ Next (at [] l st k)
    normally l st k = out_next ε l st k ∙ no_more l st k

    -- a block that no statement names
    pub leaves_plainly : (d : Completion) → Ends 1 (λ l st k. out (ends_as (plainly ∷ ls) wanted d l st k)) (gives d)
    leaves_plainly normal = ends_soon 1 (λ l st k. out (ends_as (plainly ∷ ls) wanted normal l st k)) normal (omega arith) normally
    leaves_plainly (broken None) = ends_now 1 (λ l st k. out (ends_as (plainly ∷ ls) wanted (broken None) l st k)) (broken None) (λ l st k. refl)
    leaves_plainly (broken (Some n)) = ends_now 1 (λ l st k. out (ends_as (plainly ∷ ls) wanted (broken (Some n)) l st k)) (broken (Some n)) (λ l st k. refl)
    leaves_plainly (continued None) = ends_now 1 (λ l st k. out (ends_as (plainly ∷ ls) wanted (continued None) l st k)) (continued None) (λ l st k. refl)
    leaves_plainly (continued (Some n)) = ends_now 1 (λ l st k. out (ends_as (plainly ∷ ls) wanted (continued (Some n)) l st k)) (continued (Some n)) (λ l st k. refl)
    leaves_plainly (returned v) = ends_now 1 (λ l st k. out (ends_as (plainly ∷ ls) wanted (returned v) l st k)) (returned v) (λ l st k. refl)

    -- the block of a labelled statement
    pub leaves_named : (ns : List (List ℕ)) (d : Completion) → Ends 1 (λ l st k. out (ends_as (named_end ns ∷ ls) wanted d l st k)) (gives (label_end ns d))
    leaves_named ns normal = ends_soon 1 (λ l st k. out (ends_as (named_end ns ∷ ls) wanted normal l st k)) normal (omega arith) normally
    leaves_named ns (broken None) = ends_now 1 (λ l st k. out (ends_as (named_end ns ∷ ls) wanted (broken None) l st k)) (broken None) (λ l st k. refl)
    leaves_named ns (broken (Some n)) = by (is_in n ns)
      where
        by : (b : Bool) → Ends 1 (λ l st k. out (Branch (if b then 0 else suc (break_label ls (Some n))) (at [] l st k))) (gives (if b then normal else broken (Some n)))
        by true = ends_now 1 (λ l st k. out (Branch 0 (at [] l st k))) normal no_more
        by false = ends_now 1 (λ l st k. out (Branch (suc (break_label ls (Some n))) (at [] l st k))) (broken (Some n)) (λ l st k. refl)
    leaves_named ns (continued None) = ends_now 1 (λ l st k. out (ends_as (named_end ns ∷ ls) wanted (continued None) l st k)) (continued None) (λ l st k. refl)
    leaves_named ns (continued (Some n)) = ends_now 1 (λ l st k. out (ends_as (named_end ns ∷ ls) wanted (continued (Some n)) l st k)) (continued (Some n)) (λ l st k. refl)
    leaves_named ns (returned v) = ends_now 1 (λ l st k. out (ends_as (named_end ns ∷ ls) wanted (returned v) l st k)) (returned v) (λ l st k. refl)

    -- the outermost block of a switch
    pub leaves_switch : (d : Completion) → Ends 1 (λ l st k. out (ends_as (breakable ∷ ls) wanted d l st k)) (gives (switch_end d))
    leaves_switch normal = ends_soon 1 (λ l st k. out (ends_as (breakable ∷ ls) wanted normal l st k)) normal (omega arith) normally
    leaves_switch (broken None) = ends_now 1 (λ l st k. out (ends_as (breakable ∷ ls) wanted (broken None) l st k)) normal no_more
    leaves_switch (broken (Some n)) = ends_now 1 (λ l st k. out (ends_as (breakable ∷ ls) wanted (broken (Some n)) l st k)) (broken (Some n)) (λ l st k. refl)
    leaves_switch (continued None) = ends_now 1 (λ l st k. out (ends_as (breakable ∷ ls) wanted (continued None) l st k)) (continued None) (λ l st k. refl)
    leaves_switch (continued (Some n)) = ends_now 1 (λ l st k. out (ends_as (breakable ∷ ls) wanted (continued (Some n)) l st k)) (continued (Some n)) (λ l st k. refl)
    leaves_switch (returned v) = ends_now 1 (λ l st k. out (ends_as (breakable ∷ ls) wanted (returned v) l st k)) (returned v) (λ l st k. refl)

    -- the next statement of a list follows one that completes normally
    pub leaves_list : (z : ℕ) (more : Trees) (rest : Part Completion) (d : Completion) → Ends z (λ l st k. onward s.target more (at [] l st k)) rest
        → Ends z (λ l st k. then_on (ends_as ls wanted d l st k) (onward s.target more)) (unless_left d rest)
    leaves_list z more rest normal f = f
    leaves_list z more rest (broken n) f = ends_now z (λ l st k. then_on (ends_as ls wanted (broken n) l st k) (onward s.target more)) (broken n) (λ l st k. refl)
    leaves_list z more rest (continued n) f = ends_now z (λ l st k. then_on (ends_as ls wanted (continued n) l st k) (onward s.target more)) (continued n) (λ l st k. refl)
    leaves_list z more rest (returned v) f = ends_now z (λ l st k. then_on (ends_as ls wanted (returned v) l st k) (onward s.target more)) (returned v) (λ l st k. refl)
