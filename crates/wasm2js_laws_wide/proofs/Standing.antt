-- Statements that stand in an accepted module never go wrong, so they end as they come.
use Rattle.std.proofs.Common.{◌≡◌, ℕ, ◌+◌, ◌<◌, ◌≤◌, true, false, not, List, [], ◌∷◌, ◌++◌, None, refl, ap, ◌∙◌, subst, arith}
use Rattle.std.proofs.lemmas.Bool.{and_parts}
use Rattle.std.specs.Prelude.{map, bytes_eq, if◌then◌else◌}
use Rattle.asm_lang.specs.Trees.{Init, number, decimal, foreign_int, foreign_double, member, math, view}
use Rattle.asm_lang.specs.Modules.{Expr, Stmt, plain, stmts, Variable, Param, Function, Module}
use Rattle.asm_lang_valid.specs.Scope.{is_in, local_init}
use Rattle.asm_lang_valid.specs.Typing.{Scope, is_int, is_call, Around, all_typed, effect_fits}
use Rattle.asm_lang_valid.specs.Typed.{scope_of}
use Rattle.asm_lang_exec.specs.Runs.{Binding, Place, Run, Part, goes, stops, spent, wrong, value_in}
use Rattle.asm_lang_exec.specs.Values.{Calls}
use Rattle.asm_lang_exec.specs.Meaning.{eval, Completion, normal, unless_left, exec_all, call_at}
use Rattle.asm_laws_sound.proofs.Names.{Fitting, local_kinds, param_kinds, global_kinds, is_variable, with_kind}
use Rattle.asm_laws_sound.proofs.Both.{EndsIn, Sound, sound_then, sound_gives}
use Rattle.asm_laws_sound.proofs.Members.{Typed, accepted_is_typed}
use Rattle.asm_laws_sound.proofs.Evaluating.{Inv, SoundCalls, effect_sound_by, eval_sound, call_sound}
use Rattle.asm_laws_sound.proofs.Executing.{calls_sound}
use Rattle.wasm2js_translation.specs.Names.{Name}
use Rattle.wasm2js_translation.specs.Words.{Simple, put, ask, tell, guard, stop, write_byte, write_whole, simple_statement, simple_statements, stmts_in}
use Rattle.wasm2js_lang.specs.SplitWords.{sequence, spare, Declared, declared, own_variables, starts_as_int, variables_among, StandIn, Hold, IsWithin, IsSameBut, doing, Computes}
use Rattle.wasm2js_laws_places.specs.Straight.{Words}
use Rattle.wasm2js_laws_wide.proofs.Looked.{words_at, either_false}
use Rattle.wasm2js_laws_wide.proofs.Steps.{Comes, AreSteps, IsStep, all_leave, all_take, all_come}

-- ---- the variables that a place has

abbrev of_param : Param → Declared
of_param p = declared p.name (not p.double)

abbrev of_variable : Variable → Declared
of_variable v = declared v.name (is_int (local_init v.init))

locals_fit : (vs : List Variable) (bs : List Binding) → Hold (map of_variable vs) bs → Fitting (local_kinds vs) bs
locals_fit [] [] h = tt
locals_fit [] (b ∷ bs) h = absurd h
locals_fit (v ∷ vs) [] h = absurd h
locals_fit (v ∷ vs) (b ∷ bs) h = (h.0, h.1, locals_fit vs bs h.2)

own_fit : (ps : List Param) (vs : List Variable) (bs : List Binding) → Hold (map of_param ps ++ map of_variable vs) bs → Fitting (param_kinds ps (local_kinds vs)) bs
own_fit [] vs bs h = locals_fit vs bs h
own_fit (p ∷ ps) vs [] h = absurd h
own_fit (p ∷ ps) vs (b ∷ bs) h = (h.0, h.1, own_fit ps vs bs h.2)

others_fit : (vs : List Variable) (bs : List Binding) → Hold (variables_among vs) bs → Fitting (global_kinds vs) bs
others_fit [] [] h = tt
others_fit [] (b ∷ bs) h = absurd h
others_fit (v ∷ vs) bs h = by v.init bs (others_fit vs) h
  where
    first : (bs : List Binding) → ((bs : List Binding) → Hold (variables_among vs) bs → Fitting (global_kinds vs) bs) → Hold (declared v.name true ∷ variables_among vs) bs → Fitting (with_kind true v.name (global_kinds vs)) bs
    first [] later h = absurd h
    first (b ∷ bs) later h = (h.0, h.1, later bs h.2)

    by : (i : Init) (bs : List Binding) → ((bs : List Binding) → Hold (variables_among vs) bs → Fitting (global_kinds vs) bs) → Hold (if starts_as_int i then declared v.name true ∷ variables_among vs else variables_among vs) bs → Fitting (with_kind (is_variable i) v.name (global_kinds vs)) bs
    by (number z) bs later h = first bs later h
    by (foreign_int f p) bs later h = first bs later h
    by (decimal x) bs later h = later bs h
    by (foreign_double f p) bs later h = later bs h
    by (member f p) bs later h = later bs h
    by (math f p) bs later h = later bs h
    by (view f p b) bs later h = later bs h

not_held : (n : List ℕ) (ds : List Declared) (bs : List Binding) → Hold ds bs → is_in n (map (λ (d : Declared). d.name) ds) ≡ false → value_in bs n ≡ None
not_held n [] [] h e = refl
not_held n [] (b ∷ bs) h e = absurd h
not_held n (d ∷ ds) [] h e = absurd h
not_held n (d ∷ ds) (b ∷ bs) h e =
    let parts = either_false (bytes_eq d.name n) (is_in n (map (λ (d : Declared). d.name) ds)) e in
    rw (ap (λ x. bytes_eq x n) h.0 ∙ parts.0) (not_held n ds bs h.2 parts.1)

-- ---- nothing goes wrong

abbrev IsPlain : Stmt → Type 0
IsPlain (plain e) = Unit {0}
IsPlain _ = ⊥

abbrev AllPlain : List Stmt → Type 0
AllPlain [] = Unit {0}
AllPlain (s ∷ ss) = IsPlain s × AllPlain ss

module _ (m : Module) (ok : Typed m) (f : Function) (calls calls' : Calls) (sound : SoundCalls m f calls calls') (turns : ℕ) (around : Around) where
  abbrev c : Scope
  c = scope_of m f

  abbrev SoundIn : (first second : Part Completion) → Type 0
  SoundIn first second = Sound (Inv m f) (λ d. normal ≡ d) first second

  unless_normal : (d : Completion) (first second : Part Completion) → normal ≡ d → SoundIn first second → SoundIn (unless_left d first) (unless_left d second)
  unless_normal d first second e h = subst (λ d. SoundIn (unless_left d first) (unless_left d second)) e h

  effect_sound : (e : Expr) → effect_fits c e ≡ true → Sound (Inv m f) (λ _. Unit {0}) (eval false calls c e) (eval true calls' c e)
  effect_sound e h = effect_sound_by m ok f calls calls' sound e (is_call c e) h (call_sound m ok f calls calls' sound e false) (eval_sound m ok f calls calls' sound e)

  plain_sound : (ss : List Stmt) → AllPlain ss → all_typed c around (sequence ss) ≡ true → SoundIn (exec_all false calls c turns (sequence ss)) (exec_all true calls' c turns (sequence ss))
  plain_sound [] h t = sound_gives normal refl
  plain_sound (plain e ∷ ss) h t =
      let parts = and_parts (effect_fits c e) (all_typed c around (sequence ss)) t in
      let rest = plain_sound ss h.1 parts.1 in
      sound_then {P = λ d. normal ≡ d} (sound_then (effect_sound e parts.0) (λ v g. sound_gives normal refl))
      (λ d g. unless_normal d (exec_all false calls c turns (sequence ss)) (exec_all true calls' c turns (sequence ss)) g rest)
  plain_sound (s ∷ ss) h t = absurd h.0

-- ---- the end

same_sequence : (ss : List Stmt) → stmts_in ss ≡ sequence ss
same_sequence [] = refl
same_sequence (s ∷ ss) = ap (stmts s) (same_sequence ss)

module _ (targets : List (List ℕ)) (calls : Calls) (c : Scope) (turns bound : ℕ) where
  step_is_plain : (s : Simple) → IsStep targets calls c turns bound s → IsPlain (simple_statement s)
  step_is_plain (put n t) h = tt
  step_is_plain (ask n f ts) h = tt
  step_is_plain (tell f ts) h = absurd h
  step_is_plain (guard t most kind) h = absurd h
  step_is_plain (stop kind) h = absurd h
  step_is_plain (write_byte at t) h = absurd h
  step_is_plain (write_whole at t) h = absurd h

  steps_are_plain : (ss : List Simple) → AreSteps targets calls c turns bound ss → AllPlain (simple_statements ss)
  steps_are_plain [] h = tt
  steps_are_plain (s ∷ ss) h = (step_is_plain s h.0, steps_are_plain ss h.1)

-- with the end of the steps, what is asked of it
abbrev pub Tells : (targets : List (List ℕ)) → List Simple → (Place → Place → Type 0) → Type 0
Tells targets ss Asked = (p q : Place) → ((n : Name) → words_at q n ≡ all_leave ss (words_at p) p.heap n) → Asked p q

module _ (helpers : List Function) (targets : List (List ℕ)) (ss : List Simple) (Asked : Place → Place → Type 0)
    (steps : (m : Module) (f : Function) → StandIn helpers m f (simple_statements ss) → (bound : ℕ) → AreSteps targets (call_at false m bound) (scope_of m f) bound bound ss)
    (cheap : (w : Words) (heap : List ℕ) → all_take ss w heap ≤ 256) (tells : Tells targets ss Asked) where
  module _ (m : Module) (f : Function) (stand : StandIn helpers m f (simple_statements ss)) (bound : ℕ) (p : Place) (within : IsWithin m f p) (le : p.units ≤ bound) where
    abbrev units : ℕ
    units = all_take ss (words_at p) p.heap

    abbrev result : Run Completion
    result = doing m f bound (simple_statements ss) p

    comes : Comes targets (all_leave ss (words_at p) p.heap) units p result
    comes =
        subst (λ x. Comes targets (all_leave ss (words_at p) p.heap) units p (exec_all false (call_at false m bound) (scope_of m f) bound x p)) (same_sequence (simple_statements ss))
        (all_come targets (call_at false m bound) (scope_of m f) bound bound ss (steps m f stand bound) p (not_held spare (own_variables f) p.locals within.own stand.spare_is_shown) le)

    good : EndsIn (Inv m f) (λ d. normal ≡ d) result
    good =
        ((plain_sound m (accepted_is_typed m stand.accepted) f (call_at false m bound) (call_at true m bound) (calls_sound m (accepted_is_typed m stand.accepted) bound f) bound stand.around (simple_statements ss)
        (steps_are_plain targets (call_at false m bound) (scope_of m f) bound bound ss (steps m f stand bound)) stand.typed).both p
        (own_fit f.params f.locals p.locals within.own, others_fit m.globals p.globals within.others)).good

    ends : (r : Run Completion) → Comes targets (all_leave ss (words_at p) p.heap) units p r → EndsIn (Inv m f) (λ d. normal ≡ d) r → units ≤ p.units
        → (q : Place) × (r ≡ goes normal q) × (q.units + units ≡ p.units) × IsSameBut targets p q × Asked p q
    ends (goes d q) h g enough = (
      q,
      ap (λ d. goes d q) h.0,
      h.1.moves.left,
      record { own = h.1.moves.own; others = h.1.moves.others; hidden = h.1.moves.hidden; heap = h.1.moves.heap; replies = h.1.moves.replies; events = h.1.moves.events },
      tells p q h.1.words,
    )
    ends (stops e q) h g enough = absurd h
    ends (spent q) h g enough = let a = h.few in absurd (omega (arith, a, enough))
    ends wrong h g enough = absurd g

    waits : (r : Run Completion) → Comes targets (all_leave ss (words_at p) p.heap) units p r → EndsIn (Inv m f) (λ d. normal ≡ d) r → p.units < units → (q : Place) × (r ≡ spent q) × (q.events ≡ p.events)
    waits (goes d q) h g few = let a = h.1.moves.left in absurd (omega (arith, a, few))
    waits (stops e q) h g few = absurd h
    waits (spent q) h g few = (q, refl, h.events)
    waits wrong h g few = absurd g

  pub computes : Computes helpers (simple_statements ss) targets Asked
  computes m f stand bound p within le = record {
    units = units m f stand bound p within le;
    few = cheap (words_at p) p.heap;
    ends = ends m f stand bound p within le (result m f stand bound p within le) (comes m f stand bound p within le) (good m f stand bound p within le);
    waits = waits m f stand bound p within le (result m f stand bound p within le) (comes m f stand bound p within le) (good m f stand bound p within le);
  }
