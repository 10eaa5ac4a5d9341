-- A call of the host goes on until it comes back.
use Rattle.std.proofs.Common.{◌≡◌, ℕ, zero, suc, List, [], Option, None, Some, refl, sym, ap, subst}
use Rattle.std.proofs.lemmas.List.{append-nil}
use Rattle.std.specs.Prelude.{reverse}
use Rattle.sem_words.specs.declared.word.Word.{Word}
use Rattle.session_lang.specs.Imports.{ImportAnswer, goes_on, ends, answer_import}
use Rattle.wasm_lang.specs.declared.types.ValType.{ValType}
use Rattle.wasm_lang.specs.Modules.{FunctionType, WasmModule}
use Rattle.wasm_lang_valid.specs.declared.rule.Rule.TheVariants.{NoFunction}
use Rattle.wasm_lang_valid.specs.Typing.{fixed, found, call_shape, listed, result_of}
use Rattle.wasm_lang_valid.specs.ModuleRules.{type_of_function}
use Rattle.wasm_lang_exec.specs.Code.{call, Trees, ε, ◌▹◌}
use Rattle.wasm_lang_exec.specs.Store.{Store}
use Rattle.wasm_lang_exec.specs.Reductions.{Callee, an_import, a_function, callee_at, params_of, top_of, below_top, after_answer, enter, Config, Code, Label, Frame, Reduct, to, is_values, branches, returns, stops, is_stuck, leave, reduce_frame, reduce}
use Rattle.wasm_laws_drive.specs.Drive.{halted, driven, drive}
use Rattle.wasm_laws_sound.specs.Configurations.{HaveTypes, IsTypedStore, IsTypedConfig, IsTypedReduct, AreTypedFunctions}
use Rattle.wasm_laws_sound.specs.Outcomes.{IsCalledOutcome}
use Rattle.wasm_lang_exec.specs.Places.{Place, Follows, place_now, place_after, place_in_call, place_of_call, IsReduction, GoesOn}
use Rattle.wasm_laws_sound.specs.TypedPlaces.{IsTypedPlace}
use Rattle.wasm_laws_sound.specs.Laws.{HostCallsAreTyped}
use Rattle.wasm_laws_sound.proofs.Values.{have_reverse}
use Rattle.wasm_laws_sound.proofs.Reducing.{reduce_typed}
use Rattle.wasm_laws_sound.proofs.Functions.{is_named, type_results, functions_are_typed}

-- ---- no code follows what the host called

abbrev EndsSo : Trees → Type 0
EndsSo ε = Unit {0}
EndsSo (x ▹ code) = ⊥

abbrev IsCalled : Config → Type 0
IsCalled (Code values code) = EndsSo code
IsCalled (Label values n continuation c code) = ⊥
IsCalled (Frame values n inner c code) = EndsSo code

abbrev StaysCalled : Reduct → Type 0
StaysCalled (to c locals s) = IsCalled c
StaysCalled (is_values values) = Unit {0}
StaysCalled (branches k values) = ⊥
StaysCalled (returns values) = ⊥
StaysCalled (stops e s) = Unit {0}
StaysCalled is_stuck = Unit {0}

answer_stays : (a : ImportAnswer) (results : List ValType) (values locals : List Word) (s : Store) → StaysCalled (after_answer a results values ε locals s)
answer_stays (ends e) results values locals s = tt
answer_stays (goes_on g) results values locals s = tt

enter_stays : (c : Option Callee) (arguments : Option (List Word)) (values locals : List Word) (s : Store) → StaysCalled (enter c arguments values ε locals s)
enter_stays (Some (an_import name t)) (Some arguments) values locals s = answer_stays (answer_import name (reverse arguments) s.replies) t.results values locals s
enter_stays (Some (a_function t more body)) (Some arguments) values locals s = tt
enter_stays c arguments values locals s = tt

-- the session goes on from there, and what is to be reduced is typed
abbrev pub Stands : WasmModule → Place → Type 0
Stands m p = GoesOn m p × IsTypedPlace m p

module _ (m : WasmModule) where
  leave_stays : (o : Option (List Word)) (values locals : List Word) (s : Store) → StaysCalled (leave m o values ε locals s)
  leave_stays None values locals s = tt
  leave_stays (Some top) values locals s = tt

  frame_stays : (r : Reduct) (values : List Word) (n : ℕ) (locals : List Word) (s : Store) → StaysCalled (reduce_frame m r values n ε locals s)
  frame_stays (to c inner s') values n locals s = tt
  frame_stays (is_values top) values n locals s = tt
  frame_stays (branches zero top) values n locals s = leave_stays (top_of n top) values locals s
  frame_stays (branches (suc k) top) values n locals s = tt
  frame_stays (returns top) values n locals s = leave_stays (top_of n top) values locals s
  frame_stays (stops e s') values n locals s = tt
  frame_stays is_stuck values n locals s = tt

  stays : (c : Config) (locals : List Word) (s : Store) → IsCalled c → StaysCalled (reduce m c locals s)
  stays (Code values ε) locals s is = tt
  stays (Code values (x ▹ code)) locals s is = absurd is
  stays (Label values n continuation c code) locals s is = absurd is
  stays (Frame values n inner c ε) locals s is = frame_stays (reduce m c inner s) values n locals s
  stays (Frame values n inner c (x ▹ code)) locals s is = absurd is

  -- ---- what follows a call, and what it comes to

  module _ (functions : AreTypedFunctions m) (results : List ValType) where
    -- what is known of a configuration of a host's call
    record IsHeld (c : Config) (locals : List Word) (s : Store) : Type 0 where
      is_called : StaysCalled (reduce m c locals s)
      is_typed : IsTypedConfig m c [] [] None results
      have : HaveTypes [] locals
      is_store : IsTypedStore m s

    reduces_typed : (c : Config) (locals : List Word) (s : Store) → IsHeld c locals s → IsTypedReduct m (reduce m c locals s) [] [] None results
    reduces_typed c locals s it = reduce_typed m functions c [] [] None results locals s it.is_typed it.have it.is_store

    held : (c : Config) (locals : List Word) (s : Store) → IsCalled c → IsTypedReduct m (to c locals s) [] [] None results → IsHeld c locals s
    held c locals s is typed = record { is_called = stays c locals s is; is_typed = typed.0; have = typed.1; is_store = typed.2 }

    abbrev ComesBack : Follows → Type 0
    ComesBack next = (values : List Word) (n : ℕ) (s : Store) → HaveTypes results values → IsTypedStore m s → Stands m (next values n s)

    module _ (next : Follows) (back : ComesBack next) where
      stands_now : (r : Reduct) (c : Config) (locals : List Word) (s : Store) → reduce m c locals s ≡ r → IsHeld c locals s
          → StaysCalled r → IsTypedReduct m r [] [] None results → Stands m (place_now r c locals s next)
      stands_now (to c' locals' s') c locals s is it called typed = (subst IsReduction (sym is) tt, (results, it.is_typed, it.have, it.is_store))
      stands_now (is_values values) c locals s is it called typed = back values 0 s typed it.is_store
      stands_now (branches k values) c locals s is it called typed = absurd called
      stands_now (returns values) c locals s is it called typed = absurd called
      stands_now (stops e s') c locals s is it called typed = (subst IsReduction (sym is) tt, (results, it.is_typed, it.have, it.is_store))
      stands_now is_stuck c locals s is it called typed = absurd typed

      abbrev StandsAt : ℕ → Type 0
      StandsAt n = (c : Config) (locals : List Word) (s : Store) → IsHeld c locals s → Stands m (place_in_call m next n c locals s)

      stands_after : (n : ℕ) (r : Reduct) (c : Config) (locals : List Word) (s : Store)
          → StandsAt n → IsTypedStore m s → StaysCalled r → IsTypedReduct m r [] [] None results → Stands m (place_after (place_in_call m next n) n r c locals s next)
      stands_after n (to c' locals' s') c locals s before is_store called typed = before c' locals' s' (held c' locals' s' called typed)
      stands_after n (is_values values) c locals s before is_store called typed = back values (suc n) s typed is_store
      stands_after n (branches k values) c locals s before is_store called typed = absurd called
      stands_after n (returns values) c locals s before is_store called typed = absurd called
      stands_after n (stops e s') c locals s before is_store called typed = (tt, tt)
      stands_after n is_stuck c locals s before is_store called typed = absurd typed

      stands : (n : ℕ) → StandsAt n
      stands zero c locals s it = stands_now (reduce m c locals s) c locals s refl it it.is_called (reduces_typed c locals s it)
      stands (suc n) c locals s it = stands_after n (reduce m c locals s) c locals s (stands n) it.is_store it.is_called (reduces_typed c locals s it)

    come_now : (r : Reduct) (locals : List Word) (s : Store) → StaysCalled r → IsTypedReduct m r [] [] None results → IsTypedStore m s → IsCalledOutcome m (halted r locals s) results
    come_now (to c locals' s') locals s called typed is_store = is_store
    come_now (is_values values) locals s called typed is_store = (typed, is_store)
    come_now (branches k values) locals s called typed is_store = is_store
    come_now (returns values) locals s called typed is_store = is_store
    come_now (stops e s') locals s called typed is_store = is_store
    come_now is_stuck locals s called typed is_store = is_store

    abbrev Comes : ℕ → Type 0
    Comes n = (c : Config) (locals : List Word) (s : Store) → IsHeld c locals s → IsCalledOutcome m (drive m n c locals s) results

    come_after : (n : ℕ) (r : Reduct) (locals : List Word) (s : Store)
        → Comes n → StaysCalled r → IsTypedReduct m r [] [] None results → IsTypedStore m s → IsCalledOutcome m (driven (drive m n) n r locals s) results
    come_after n (to c' locals' s') locals s before called typed is_store = before c' locals' s' (held c' locals' s' called typed)
    come_after n (is_values values) locals s before called typed is_store = (typed, is_store)
    come_after n (branches k values) locals s before called typed is_store = absurd called
    come_after n (returns values) locals s before called typed is_store = absurd called
    come_after n (stops e s') locals s before called typed is_store = tt
    come_after n is_stuck locals s before called typed is_store = absurd typed

    comes : (n : ℕ) → Comes n
    comes zero c locals s it = come_now (reduce m c locals s) locals s it.is_called (reduces_typed c locals s it) it.is_store
    comes (suc n) c locals s it = come_after n (reduce m c locals s) locals s (comes n) it.is_called (reduces_typed c locals s it) it.is_store

  module _ (functions : AreTypedFunctions m) (f : ℕ) (t : FunctionType) (arguments : List Word) (s : Store)
      (is_type : type_of_function m f ≡ Some t) (have : HaveTypes t.params arguments) (is_store : IsTypedStore m s) where
    abbrev results : List ValType
    results = listed (result_of t)

    call_held : IsHeld functions results (Code (reverse arguments) (call f ▹ ε)) [] s
    call_held = record {
      is_called = enter_stays (callee_at m f) (top_of (params_of (callee_at m f)) (reverse arguments)) (below_top (params_of (callee_at m f)) (reverse arguments)) [] s;
      is_typed = record {
        before = reverse t.params;
        have = have_reverse t.params arguments have;
        goes_on = record {
          form = call_shape [] t;
          takes = reverse t.params;
          gives = results;
          below = [];
          has_form = ap (λ o. found NoFunction o (call_shape [])) is_type;
          acts = fixed;
          keeps_rules = refl;
          operands = sym (append-nil (reverse t.params));
          goes_on = append-nil results;
        };
      };
      have = tt;
      is_store = is_store;
    }

    pub call_stands : (n : ℕ) (next : Follows)
        → ((values : List Word) (n : ℕ) (s : Store) → HaveTypes results values → IsTypedStore m s → Stands m (next values n s))
        → Stands m (place_of_call m n f arguments s next)
    call_stands n next back = stands functions results next back n (Code (reverse arguments) (call f ▹ ε)) [] s call_held

    pub call_comes : (n : ℕ) → IsCalledOutcome m (drive m n (Code (reverse arguments) (call f ▹ ε)) [] s) results
    call_comes n = comes functions results n (Code (reverse arguments) (call f ▹ ε)) [] s call_held

pub host_calls_are_typed : HostCallsAreTyped
host_calls_are_typed m whole n f t arguments s e have is_store =
    let name = is_named m f t e in
    subst (IsCalledOutcome m (drive m n (Code (reverse arguments) (call f ▹ ε)) [] s)) (type_results m whole.is_valid name.number t name.is_type)
    (call_comes m (functions_are_typed m whole) f t arguments s e have is_store n)
