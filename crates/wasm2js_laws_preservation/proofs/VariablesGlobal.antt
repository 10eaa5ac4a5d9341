-- Globals that are read and written.
use Rattle.std.proofs.Common.{◌≡◌, ℕ, ◌+◌, List, [], ◌∷◌, ◌++◌, length, take, drop, Option, Some, None, Ok, refl, sym, ap, ◌∙◌, subst}
use Rattle.std.specs.Prelude.{slice_get, slice_set, option_map}
use Rattle.std.proofs.lemmas.Option.{slice_get-map}
use Rattle.session_lang.specs.Imports.{Replies}
use Rattle.session_lang.specs.Observation.{EventPlain}
use Rattle.wasm_lang.specs.declared.types.ValType.{ValType}
use Rattle.wasm_lang.specs.declared.types.GlobalType.{GlobalType}
use Rattle.wasm_lang.specs.Instructions.{global_get, global_set}
use Rattle.wasm_lang_valid.specs.declared.rule.Rule.TheVariants.{NoGlobal}
use Rattle.wasm_lang_valid.specs.Typing.{Shape, Fixed, Acts, found}
use Rattle.wasm_lang_exec.specs.Plain.{pushed, with_global}
use Rattle.wasm2js_translation.specs.Pairs.{operand_pair, global_pair, simples, moved}
use Rattle.wasm2js_translation.specs.Actions.{moved_if, kind_in}
use Rattle.wasm2js_translation.specs.Bodies.{after_form}
use Rattle.wasm2js_laws_places.specs.Straight.{Words, Helping, goes}
use Rattle.wasm2js_laws_places.specs.Places.{value_at, operands, locals_of, globals_from, globals_of, store_with}
use Rattle.wasm2js_laws_preservation.specs.ControlControl.{Function}
use Rattle.wasm2js_laws_preservation.specs.InstructionsPlain.{IsAlike, IsPlain, Supports, Always}
use Rattle.wasm2js_laws_preservation.proofs.WideKept.{value_alike}
use Rattle.wasm2js_laws_typed.proofs.SoundPlain.{of_fixed}
use Rattle.wasm2js_laws_preservation.proofs.VariablesLists.{from_zero, got, is_set}
use Rattle.wasm2js_laws_preservation.proofs.VariablesMoved.{moved_words, operand_keeps, operand_moved, all_operands, all_stay, to_global, global_lows, global_highs, global_put, other_globals, locals_stay}
use Rattle.wasm2js_laws_preservation.proofs.WideExtending.{drop_none}
use Rattle.wasm2js_laws_preservation.proofs.VariablesLocal.{move_is}

module _ (f : Function) (helping : Helping) (supports : Supports f helping) (b : ℕ) (below : List ValType) (x : ℕ) (g : GlobalType) (e : slice_get f.context.globals x ≡ Some g) where
  abbrev d : ℕ
  d = b + length below

  abbrev t : ValType
  t = g.kind

  kind_there : slice_get f.setting.kinds x ≡ Some t
  kind_there = ap (λ ks. slice_get ks x) supports.kinds ∙ slice_get-map (λ (g : GlobalType). g.kind) f.context.globals x ∙ ap (option_map (λ (g : GlobalType). g.kind)) e

  global_there : (words : Words) → slice_get (globals_of f.setting.kinds words) x ≡ Some (value_at t (global_pair x) words)
  global_there words = got global_pair globals_from (λ y words. refl) (λ y t ts words. refl) 0 f.setting.kinds x t words kind_there ∙ ap (λ n. Some (value_at t (global_pair n) words)) (sym (from_zero x))

  -- ---- one is read

  get_plain : IsPlain f helping (global_get x) b below (t ∷ below)
  get_plain =
      move_is f helping (global_get x) b below (t ∷ below) t (global_pair x) (operand_pair d)
      (ap (λ o. after_form (found NoGlobal o (λ (g : GlobalType). Fixed [] (g.kind ∷ []))) below) e ∙ ap (λ ts. t ∷ ts) (drop_none below))
      (ap (λ o. simples (moved_if (kind_in o) (global_pair x) (operand_pair (b + length (drop 0 below))))) e ∙ ap (λ ts. simples (moved t (global_pair x) (operand_pair (b + length ts)))) (drop_none below))
      (λ words heap replies events.
      subst (λ o. IsAlike f helping b (t ∷ below) words heap replies events (pushed o (operands b below words) (locals_of f.context.locals words) (store_with f.setting words heap replies events))
      (goes (moved_words (global_pair x) (operand_pair d) words t) heap)) (sym (global_there words))
      (value_alike f helping b below words (moved_words (global_pair x) (operand_pair d) words t) heap replies events (operand_keeps d (global_pair x) words t) t (value_at t (global_pair x) words)
      (operand_moved d (global_pair x) words refl t)))

  -- ---- one is written

  module _ (words : Words) (heap : List ℕ) (replies : Replies) (events : List EventPlain) where
    abbrev after : Words
    after = to_global d x words t

    set_alike : IsAlike f helping b below words heap replies events
        (with_global x (value_at t (operand_pair d) words) (operands b below words) (slice_get (globals_of f.setting.kinds words) x) (locals_of f.context.locals words) (store_with f.setting words heap replies events)) (goes after heap)
    set_alike =
        subst (λ o. IsAlike f helping b below words heap replies events
        (with_global x (value_at t (operand_pair d) words) (operands b below words) o (locals_of f.context.locals words) (store_with f.setting words heap replies events)) (goes after heap)) (sym (global_there words)) (
          all_operands words after (global_lows d x words t) (global_highs d x words t) b below,
          locals_stay d x words t 0 f.context.locals,
          ap (λ gs. record { memory = take f.setting.bytes heap; globals = gs; table = f.setting.table; events = events; replies = replies })
              (ap (slice_set (globals_of f.setting.kinds words) x) (global_put d x words t)
              ∙ is_set global_pair globals_from (λ y words. refl) (λ y t ts words. refl) x words after (other_globals d x words t) 0 f.setting.kinds x t (from_zero x) kind_there),
          all_stay words after (global_lows d x words t) (global_highs d x words t) b,
          refl,
        )

  set_plain : IsPlain f helping (global_set x) b (t ∷ below) below
  set_plain =
      move_is f helping (global_set x) b (t ∷ below) below t (operand_pair d) (global_pair x) (ap (λ o. after_form (found NoGlobal o (λ (g : GlobalType). Fixed (g.kind ∷ []) [])) (t ∷ below)) e)
      (ap (λ o. simples (moved_if (kind_in o) (operand_pair d) (global_pair x))) e) set_alike

module _ (f : Function) (helping : Helping) (supports : Supports f helping) (b x : ℕ) (form : Shape) (takes gives below : List ValType) (acts : Acts form takes gives) where
  get_is : (o : Option GlobalType) → slice_get f.context.globals x ≡ o → found NoGlobal o (λ (g : GlobalType). Fixed [] (g.kind ∷ [])) ≡ Ok form → IsPlain f helping (global_get x) b (takes ++ below) (gives ++ below)
  get_is None e is = absurd (cc is)
  get_is (Some g) e is = of_fixed (λ takes gives. IsPlain f helping (global_get x) b (takes ++ below) (gives ++ below)) [] (g.kind ∷ []) takes gives form is acts (get_plain f helping supports b below x g e)

  set_is : (o : Option GlobalType) → slice_get f.context.globals x ≡ o → found NoGlobal o (λ (g : GlobalType). Fixed (g.kind ∷ []) []) ≡ Ok form → IsPlain f helping (global_set x) b (takes ++ below) (gives ++ below)
  set_is None e is = absurd (cc is)
  set_is (Some g) e is = of_fixed (λ takes gives. IsPlain f helping (global_set x) b (takes ++ below) (gives ++ below)) (g.kind ∷ []) [] takes gives form is acts (set_plain f helping supports b below x g e)

pub global_read : (x : ℕ) → Always (global_get x)
global_read x f helping supports ls b form takes gives below is acts = get_is f helping supports b x form takes gives below acts (slice_get f.context.globals x) refl is

pub global_written : (x : ℕ) → Always (global_set x)
global_written x f helping supports ls b form takes gives below is acts = set_is f helping supports b x form takes gives below acts (slice_get f.context.globals x) refl is
