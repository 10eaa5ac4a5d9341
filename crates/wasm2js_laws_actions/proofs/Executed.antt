-- Actions in a row do what their words say.
use Rattle.std.proofs.Common.{ℕ, ◌≤◌, Bool, true, false, not, List, [], ◌∷◌, refl, sym, subst}
use Rattle.std.specs.Prelude.{if◌then◌else◌, ◌==◌}
use Rattle.sem_words.specs.declared.js_value.JsValue.{JsValue}
use Rattle.sem_words.specs.JsValues.{truthy_of}
use Rattle.asm_lang.specs.Modules.{block}
use Rattle.asm_lang_valid.specs.Typing.{Scope}
use Rattle.asm_lang_exec.specs.Runs.{Place, Part}
use Rattle.asm_lang_exec.specs.Values.{Calls}
use Rattle.asm_lang_exec.specs.Meaning.{Completion, exec, exec_all}
use Rattle.asm_laws_continuation.proofs.Following.{statements_follow}
use Rattle.wasm2js_translation.specs.Words.{Term, Simple, Action, simply, either, branch, simple_statement, simple_statements, statement, statements, stmts_in}
use Rattle.wasm2js_laws_terms.specs.Sound.{AreSoundSimple, IsSoundAction, AreSoundActions}
use Rattle.wasm2js_laws_places.specs.Straight.{value, Helping, AskHelpers, ActionAsks, ActionsAsk, Outcome, run_simple, run_simples, run_action, run_actions, simple_units, simples_units, action_units, actions_units}
use Rattle.wasm2js_laws_places.specs.Places.{word_at, AreApart, IsHeap}
use Rattle.wasm2js_laws_places.specs.Helped.{Does, AreHelpers}
use Rattle.wasm2js_laws_actions.specs.Laws.{ActionsAreDone, ActionsAreFollowed}
use Rattle.wasm2js_laws_actions.proofs.Typed.{sound_named}
use Rattle.wasm2js_laws_actions.proofs.Evaluated.{expr_read, test_then}
use Rattle.wasm2js_laws_actions.proofs.Parts.{part_does}
use Rattle.wasm2js_laws_actions.proofs.Doing.{then_does, still_on, wrong_does}
use Rattle.wasm2js_laws_actions.proofs.Simples.{simple_done}

module _ (calls : Calls) (c : Scope) (turns bound bytes : ℕ) (helping : Helping) (helpers : AreHelpers c calls bound bytes helping) where
  simples_done : (ss : List Simple) (p : Place) → AreSoundSimple c ss → AskHelpers ss → AreApart p → IsHeap bytes p.heap → p.units ≤ bound
      → Does bytes (run_simples helping ss (word_at p) p.heap) (simples_units helping ss (word_at p) p.heap) p (exec_all false calls c turns (stmts_in (simple_statements ss)) p)
  simples_done [] p s is apart heap le = (refl, still_on bytes p heap)
  simples_done (x ∷ ss) p s is apart heap le =
      then_does bytes bound (run_simples helping ss) (simples_units helping ss) (exec_all false calls c turns (stmts_in (simple_statements ss))) (simple_units helping x (word_at p) p.heap)
      (run_simple helping x (word_at p) p.heap) p (exec false calls c turns [] (simple_statement x) p) apart le
      (simple_done calls c turns bound bytes helping helpers x p s.0 is.0 apart heap le)
      (λ q a h l. simples_done ss q s.1 is.1 a h l)

  module _ (t : Term) (first second : List Simple) (p : Place) where
    abbrev chosen : Bool → Outcome
    chosen b = if b then run_simples helping second (word_at p) p.heap else run_simples helping first (word_at p) p.heap

    abbrev chosen_units : Bool → ℕ
    chosen_units b = if b then simples_units helping second (word_at p) p.heap else simples_units helping first (word_at p) p.heap

    abbrev next : JsValue → Part Completion
    next v = if truthy_of v then exec false calls c turns [] (branch first) else exec false calls c turns [] (branch second)

    pick : IsSoundAction c (either t first second) → ActionAsks (either t first second) → AreApart p → IsHeap bytes p.heap → p.units ≤ bound → (b : Bool)
        → Does bytes (chosen b) (chosen_units b) p ((if not b then exec false calls c turns [] (branch first) else exec false calls c turns [] (branch second)) p)
    pick s is apart heap le true =
        subst (λ r. Does bytes (chosen true) (chosen_units true) p r) (sym (part_does calls c turns (simple_statements second) p)) (simples_done second p s.2 is.1 apart heap le)
    pick s is apart heap le false =
        subst (λ r. Does bytes (chosen false) (chosen_units false) p r) (sym (part_does calls c turns (simple_statements first) p)) (simples_done first p s.1 is.0 apart heap le)

    either_done : IsSoundAction c (either t first second) → ActionAsks (either t first second) → AreApart p → IsHeap bytes p.heap → p.units ≤ bound
        → Does bytes (run_action helping (either t first second) (word_at p) p.heap) (action_units helping (either t first second) (word_at p) p.heap) p
        (exec false calls c turns [] (statement (either t first second)) p)
    either_done s is apart heap le =
        let x : ℕ = value t (word_at p) p.heap in
        test_then calls c x p (λ r. Does bytes (chosen (x == 0)) (chosen_units (x == 0)) p r) next (wrong_does bytes (chosen (x == 0)) (chosen_units (x == 0)) p) t (sound_named c t s.0)
        (expr_read calls c t p s.0 apart)
        (λ v e. subst (λ b. Does bytes (chosen (x == 0)) (chosen_units (x == 0)) p ((if b then exec false calls c turns [] (branch first) else exec false calls c turns [] (branch second)) p))
        (sym e) (pick s is apart heap le (x == 0)))

  action_done : (a : Action) (p : Place) → IsSoundAction c a → ActionAsks a → AreApart p → IsHeap bytes p.heap → p.units ≤ bound
      → Does bytes (run_action helping a (word_at p) p.heap) (action_units helping a (word_at p) p.heap) p (exec false calls c turns [] (statement a) p)
  action_done (simply x) p s is apart heap le = simple_done calls c turns bound bytes helping helpers x p s is apart heap le
  action_done (either t first second) p s is apart heap le = either_done t first second p s is apart heap le

  all_done : (actions : List Action) → AreSoundActions c actions → ActionsAsk actions → (p : Place) → AreApart p → IsHeap bytes p.heap → p.units ≤ bound
      → Does bytes (run_actions helping actions (word_at p) p.heap) (actions_units helping actions (word_at p) p.heap) p (exec_all false calls c turns (stmts_in (statements actions)) p)
  all_done [] s is p apart heap le = (refl, still_on bytes p heap)
  all_done (x ∷ others) s is p apart heap le =
      then_does bytes bound (run_actions helping others) (actions_units helping others) (exec_all false calls c turns (stmts_in (statements others))) (action_units helping x (word_at p) p.heap)
      (run_action helping x (word_at p) p.heap) p (exec false calls c turns [] (statement x) p) apart le
      (action_done x p s.0 is.0 apart heap le)
      (λ q a h l. all_done others s.1 is.1 q a h l)

pub actions_are_done : ActionsAreDone
actions_are_done = all_done

pub actions_are_followed : ActionsAreFollowed
actions_are_followed calls calls_to c turns actions next p follow = statements_follow calls calls_to c turns [] (block (stmts_in (statements actions))) follow next p
