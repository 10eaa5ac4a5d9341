-- Locals that are read and written.
use Rattle.std.proofs.Common.{◌≡◌, ℕ, ◌+◌, ◌≤◌, List, [], ◌∷◌, ◌++◌, length, take, drop, Option, Some, None, Ok, refl, sym, ap, ◌∙◌, subst, arith}
use Rattle.std.specs.Prelude.{slice_get, slice_set}
use Rattle.session_lang.specs.Imports.{Replies}
use Rattle.session_lang.specs.Observation.{EventPlain}
use Rattle.wasm_lang.specs.declared.types.ValType.{ValType}
use Rattle.wasm_lang.specs.Instructions.{Plain, local_get, local_set, local_tee}
use Rattle.wasm_lang_valid.specs.declared.rule.Rule.TheVariants.{NoLocal}
use Rattle.wasm_lang_valid.specs.Typing.{Shape, Fixed, Acts, found}
use Rattle.wasm_lang_exec.specs.Plain.{do_plain, pushed, with_local}
use Rattle.wasm2js_translation.specs.Pairs.{Pair, local_pair, operand_pair, simples, moved}
use Rattle.wasm2js_translation.specs.Actions.{moved_if}
use Rattle.wasm2js_translation.specs.Bodies.{after_form, after_plain}
use Rattle.wasm2js_laws_places.specs.Straight.{Words, Helping, goes, ActionsAsk, run_actions, actions_units}
use Rattle.wasm2js_laws_places.specs.Places.{value_at, operands, locals_from, locals_of, store_with}
use Rattle.wasm2js_laws_preservation.specs.ControlControl.{Function}
use Rattle.wasm2js_laws_preservation.specs.InstructionsPlain.{IsAlike, IsPlain, code_of, Always}
use Rattle.wasm2js_laws_preservation.proofs.WideKept.{value_alike}
use Rattle.wasm2js_laws_preservation.proofs.WideExtending.{drop_none}
use Rattle.wasm2js_laws_typed.proofs.SoundPlain.{of_fixed}
use Rattle.wasm2js_laws_preservation.proofs.VariablesLists.{from_zero, got, is_set}
use Rattle.wasm2js_laws_preservation.proofs.VariablesMoved.{moved_words, run_moved, moves_free, moves_ask, operand_keeps, operand_moved, all_operands, all_stay, to_local, local_lows, local_highs, local_put, other_locals, globals_stay}

-- ---- code that moves one value

-- an instruction whose code is one move, by what that leaves
pub move_is : (f : Function) (helping : Helping) (p : Plain) (b : ℕ) (ts us : List ValType) (t : ValType) (from to : Pair)
    → after_plain f.context p ts ≡ us → code_of f helping p b ts ≡ simples (moved t from to)
    → ((words : Words) (heap : List ℕ) (replies : Replies) (events : List EventPlain)
    → IsAlike f helping b us words heap replies events (do_plain p (operands b ts words) (locals_of f.context.locals words) (store_with f.setting words heap replies events)) (goes (moved_words from to words t) heap))
    → IsPlain f helping p b ts us
move_is f helping p b ts us t from to types code alike = record {
  types = types;
  asks = subst ActionsAsk (sym code) (moves_ask t from to);
  paid = λ words heap. subst (λ c. actions_units helping c words heap ≤ f.pace) (sym code) (subst (λ n. n ≤ f.pace) (sym (moves_free helping t from to words heap)) (omega arith));
  free = λ e words heap. subst (λ c. actions_units helping c words heap ≡ 0) (sym code) (moves_free helping t from to words heap);
  alike = λ words heap replies events are is_heap.
      subst (λ o. IsAlike f helping b us words heap replies events (do_plain p (operands b ts words) (locals_of f.context.locals words) (store_with f.setting words heap replies events)) o)
      (sym (ap (λ c. run_actions helping c words heap) code ∙ run_moved helping t from to words heap)) (alike words heap replies events);
}

module _ (f : Function) (helping : Helping) (b : ℕ) (below : List ValType) (x : ℕ) (t : ValType) (e : slice_get f.context.locals x ≡ Some t) where
  abbrev d : ℕ
  d = b + length below

  local_there : (words : Words) → slice_get (locals_of f.context.locals words) x ≡ Some (value_at t (local_pair x) words)
  local_there words = got local_pair locals_from (λ y words. refl) (λ y t ts words. refl) 0 f.context.locals x t words e ∙ ap (λ n. Some (value_at t (local_pair n) words)) (sym (from_zero x))

  -- ---- one is read

  get_plain : IsPlain f helping (local_get x) b below (t ∷ below)
  get_plain =
      move_is f helping (local_get x) b below (t ∷ below) t (local_pair x) (operand_pair d)
      (ap (λ o. after_form (found NoLocal o (λ t. Fixed [] (t ∷ []))) below) e ∙ ap (λ ts. t ∷ ts) (drop_none below))
      (ap (λ o. simples (moved_if o (local_pair x) (operand_pair (b + length (drop 0 below))))) e ∙ ap (λ ts. simples (moved t (local_pair x) (operand_pair (b + length ts)))) (drop_none below))
      (λ words heap replies events.
      subst (λ o. IsAlike f helping b (t ∷ below) words heap replies events (pushed o (operands b below words) (locals_of f.context.locals words) (store_with f.setting words heap replies events))
      (goes (moved_words (local_pair x) (operand_pair d) words t) heap)) (sym (local_there words))
      (value_alike f helping b below words (moved_words (local_pair x) (operand_pair d) words t) heap replies events (operand_keeps d (local_pair x) words t) t (value_at t (local_pair x) words)
      (operand_moved d (local_pair x) words refl t)))

  -- ---- one is written, and then the operands have these types

  module _ (us : List ValType) (words : Words) (heap : List ℕ) (replies : Replies) (events : List EventPlain) where
    abbrev after : Words
    after = to_local d x words t

    set_alike : IsAlike f helping b us words heap replies events
        (with_local x (value_at t (operand_pair d) words) (operands b us words) (slice_get (locals_of f.context.locals words) x) (locals_of f.context.locals words) (store_with f.setting words heap replies events)) (goes after heap)
    set_alike =
        subst (λ o. IsAlike f helping b us words heap replies events
        (with_local x (value_at t (operand_pair d) words) (operands b us words) o (locals_of f.context.locals words) (store_with f.setting words heap replies events)) (goes after heap)) (sym (local_there words)) (
          all_operands words after (local_lows d x words t) (local_highs d x words t) b us,
          ap (slice_set (locals_of f.context.locals words) x) (local_put d x words t)
              ∙ is_set local_pair locals_from (λ y words. refl) (λ y t ts words. refl) x words after (other_locals d x words t) 0 f.context.locals x t (from_zero x) e,
          ap (λ gs. record { memory = take f.setting.bytes heap; globals = gs; table = f.setting.table; events = events; replies = replies }) (globals_stay d x words t 0 f.setting.kinds),
          all_stay words after (local_lows d x words t) (local_highs d x words t) b,
          refl,
        )

  set_plain : IsPlain f helping (local_set x) b (t ∷ below) below
  set_plain =
      move_is f helping (local_set x) b (t ∷ below) below t (operand_pair d) (local_pair x) (ap (λ o. after_form (found NoLocal o (λ t. Fixed (t ∷ []) [])) (t ∷ below)) e)
      (ap (λ o. simples (moved_if o (operand_pair d) (local_pair x))) e) (set_alike below)

  tee_plain : IsPlain f helping (local_tee x) b (t ∷ below) (t ∷ below)
  tee_plain =
      move_is f helping (local_tee x) b (t ∷ below) (t ∷ below) t (operand_pair d) (local_pair x) (ap (λ o. after_form (found NoLocal o (λ t. Fixed (t ∷ []) (t ∷ []))) (t ∷ below)) e)
      (ap (λ o. simples (moved_if o (operand_pair d) (local_pair x))) e) (set_alike (t ∷ below))

module _ (f : Function) (helping : Helping) (b x : ℕ) (form : Shape) (takes gives below : List ValType) (acts : Acts form takes gives) where
  get_is : (o : Option ValType) → slice_get f.context.locals x ≡ o → found NoLocal o (λ t. Fixed [] (t ∷ [])) ≡ Ok form → IsPlain f helping (local_get x) b (takes ++ below) (gives ++ below)
  get_is None e is = absurd (cc is)
  get_is (Some t) e is = of_fixed (λ takes gives. IsPlain f helping (local_get x) b (takes ++ below) (gives ++ below)) [] (t ∷ []) takes gives form is acts (get_plain f helping b below x t e)

  set_is : (o : Option ValType) → slice_get f.context.locals x ≡ o → found NoLocal o (λ t. Fixed (t ∷ []) []) ≡ Ok form → IsPlain f helping (local_set x) b (takes ++ below) (gives ++ below)
  set_is None e is = absurd (cc is)
  set_is (Some t) e is = of_fixed (λ takes gives. IsPlain f helping (local_set x) b (takes ++ below) (gives ++ below)) (t ∷ []) [] takes gives form is acts (set_plain f helping b below x t e)

  tee_is : (o : Option ValType) → slice_get f.context.locals x ≡ o → found NoLocal o (λ t. Fixed (t ∷ []) (t ∷ [])) ≡ Ok form → IsPlain f helping (local_tee x) b (takes ++ below) (gives ++ below)
  tee_is None e is = absurd (cc is)
  tee_is (Some t) e is = of_fixed (λ takes gives. IsPlain f helping (local_tee x) b (takes ++ below) (gives ++ below)) (t ∷ []) (t ∷ []) takes gives form is acts (tee_plain f helping b below x t e)

pub local_read : (x : ℕ) → Always (local_get x)
local_read x f helping supports ls b form takes gives below is acts = get_is f helping b x form takes gives below acts (slice_get f.context.locals x) refl is

pub local_written : (x : ℕ) → Always (local_set x)
local_written x f helping supports ls b form takes gives below is acts = set_is f helping b x form takes gives below acts (slice_get f.context.locals x) refl is

pub local_written_too : (x : ℕ) → Always (local_tee x)
local_written_too x f helping supports ls b form takes gives below is acts = tee_is f helping b x form takes gives below acts (slice_get f.context.locals x) refl is
