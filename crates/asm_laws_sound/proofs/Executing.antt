-- A typed statement never goes wrong, nor does a call of a typed function.
use Rattle.std.proofs.Common.{◌≡◌, ℕ, zero, suc, Bool, true, false, ◌&&◌, ◌||◌, List, [], ◌∷◌, Option, Some, None, refl, sym, ap, ◌∙◌}
use Rattle.std.proofs.lemmas.Bool.{and_parts}
use Rattle.std.specs.Prelude.{bytes_eq, if◌then◌else◌}
use Rattle.sem_words.specs.declared.js_value.JsValue.{JsValue}
use Rattle.sem_words.specs.declared.js_value.JsValue.TheVariants.{Undef, Bool as Boolean}
use Rattle.sem_words.specs.JsValues.{truthy_of}
use Rattle.asm_types.specs.declared.value_type.ValueType.{ValueType}
use Rattle.asm_types.specs.declared.value_type.ValueType.TheVariants.{Signed, Int}
use Rattle.asm_types.specs.Values.{fits_of}
use Rattle.asm_types.proofs.Sound.{wider}
use Rattle.asm_lang.specs.Modules.{Expr, Stmt, block, plain, empty, if_only, if_else, returns, while_loop, do_while, for_loop, breaks, continues, labelled, switches, Stmts, no_stmts, stmts, Clauses, no_clauses, clauses, Function, Module}
use Rattle.asm_lang_valid.specs.Scope.{is_in}
use Rattle.asm_lang_valid.specs.Typing.{Scope, typed_below, is_call, type_of, effect_fits, Label, Around, at_top, in_a_loop, in_a_switch, has_label, has_loop, is_loop, labels_in, under_labels, break_fits, condition_fits, part_fits, typed, all_typed, clauses_typed}
use Rattle.asm_lang_valid.specs.Typed.{scope_of}
use Rattle.asm_lang_exec.specs.Runs.{Binding, Part, gives}
use Rattle.asm_lang_exec.specs.Values.{Calls}
use Rattle.asm_lang_exec.specs.Meaning.{eval, Completion, normal, broken, continued, returned, loop_end, label_end, switch_end, unless_ended, unless_left, turns, do_turns, as_whole, passed_over, exec_part, exec_test, exec, exec_all, exec_clauses, function_end, call_at}
use Rattle.asm_laws_sound.proofs.Names.{Fitting, kinds_of, global_kinds, entered}
use Rattle.asm_laws_sound.proofs.Both.{Sound, sound_then, sound_gives, sound_weaker, sound_if, sound_defined, sound_out, sound_pay, sound_locals}
use Rattle.asm_laws_sound.proofs.Members.{Typed}
use Rattle.asm_laws_sound.proofs.Expressions.{from_below, signed_whole}
use Rattle.asm_laws_sound.proofs.Evaluating.{Inv, SoundCalls, eval_sound, call_sound, effect_sound_by}

-- ---- how a statement may end: `own` are labels whose continue it takes itself

abbrev pub Completes : Around → List (List ℕ) → Completion → Type 0
Completes a own normal = Unit {0}
Completes a own (broken l) = break_fits a l ≡ true
Completes a own (continued None) = a.in_loop ≡ true
Completes a own (continued (Some n)) = (has_loop a.labels n ≡ true) × (is_in n own ≡ false)
Completes a own (returned v) = Unit {0}

abbrev own_of : Bool → List (List ℕ) → List (List ℕ)
own_of true own = own
own_of false own = []

plainly : (b : Bool) (a : Around) (d : Completion) → Completes a (own_of b []) d → Completes a [] d
plainly true a d g = g
plainly false a d g = g

-- ---- labels

or_none : (a b : Bool) → (a || b) ≡ false → (a ≡ false) × (b ≡ false)
or_none true b h = absurd (cc h)
or_none false b h = (refl, h)

label_outside : (loop : Bool) (ns : List (List ℕ)) (around : List Label) (n : List ℕ) → is_in n ns ≡ false → has_label (labels_in loop ns around) n ≡ has_label around n
label_outside loop [] around n h = refl
label_outside loop (x ∷ xs) around n h =
    let p = or_none (bytes_eq x n) (is_in n xs) h in
    label_outside loop xs (record { text = x; of_loop = loop } ∷ around) n p.1 ∙ ap (λ b. b || has_label around n) p.0

loop_outside : (loop : Bool) (ns : List (List ℕ)) (around : List Label) (n : List ℕ) → is_in n ns ≡ false → has_loop (labels_in loop ns around) n ≡ has_loop around n
loop_outside loop [] around n h = refl
loop_outside loop (x ∷ xs) around n h =
    let p = or_none (bytes_eq x n) (is_in n xs) h in
    loop_outside loop xs (record { text = x; of_loop = loop } ∷ around) n p.1 ∙ ap (λ b. (b && loop) || has_loop around n) p.0

no_loop : (ns : List (List ℕ)) (around : List Label) (n : List ℕ) → has_loop (labels_in false ns around) n ≡ has_loop around n
no_loop [] around n = refl
no_loop (x ∷ xs) around n = no_loop xs (record { text = x; of_loop = false } ∷ around) n ∙ by (bytes_eq x n)
  where
    by : (b : Bool) → ((b && false) || has_loop around n) ≡ has_loop around n
    by true = refl
    by false = refl

abbrev labels_around : Bool → List (List ℕ) → Around → Around
labels_around loop ns a = record { in_breakable = a.in_breakable; in_loop = a.in_loop; labels = labels_in loop ns a.labels }

label_ends : (loop : Bool) (ns : List (List ℕ)) (a : Around) (d : Completion) → Completes (labels_around loop ns a) (own_of loop ns) d → Completes a [] (label_end ns d)
label_ends loop ns a normal g = tt
label_ends loop ns a (broken None) g = g
label_ends loop ns a (broken (Some n)) g = by (is_in n ns) refl
  where
    by : (b : Bool) → is_in n ns ≡ b → Completes a [] (if b then normal else broken (Some n))
    by true e = tt
    by false e = sym (label_outside loop ns a.labels n e) ∙ g
label_ends loop ns a (continued None) g = g
label_ends true ns a (continued (Some n)) g = (sym (loop_outside true ns a.labels n g.1) ∙ g.0, refl)
label_ends false ns a (continued (Some n)) g = (sym (no_loop ns a.labels n) ∙ g.0, refl)
label_ends loop ns a (returned v) g = tt

switch_ends : (a : Around) (d : Completion) → Completes (in_a_switch a) [] d → Completes a [] (switch_end d)
switch_ends a normal g = tt
switch_ends a (broken None) g = tt
switch_ends a (broken (Some n)) g = g
switch_ends a (continued None) g = g
switch_ends a (continued (Some n)) g = g
switch_ends a (returned v) g = tt

module _ (I : List Binding → List Binding → Type 0) where
  unless_left_sound : (a : Around) (d : Completion) {f f' : Part Completion} → Completes a [] d → Sound I (Completes a []) f f' → Sound I (Completes a []) (unless_left d f) (unless_left d f')
  unless_left_sound a normal g h = h
  unless_left_sound a (broken n) g h = sound_gives (broken n) g
  unless_left_sound a (continued n) g h = sound_gives (continued n) g
  unless_left_sound a (returned v) g h = sound_gives (returned v) g

  module _ (a : Around) (own inner : List (List ℕ)) where
    loop_ends : (d : Completion) {f f' : Part Completion} → Completes (in_a_loop a) inner d → Sound I (Completes a own) f f' → Sound I (Completes a own) (unless_ended (loop_end own d) f) (unless_ended (loop_end own d) f')
    loop_ends normal g h = h
    loop_ends (broken None) g h = sound_gives normal tt
    loop_ends (broken (Some n)) g h = sound_gives (broken (Some n)) g
    loop_ends (continued None) g h = h
    loop_ends (continued (Some n)) {f} {f'} g h = by (is_in n own) refl
      where
        by : (b : Bool) → is_in n own ≡ b → Sound I (Completes a own) (unless_ended (if b then None else Some (continued (Some n))) f) (unless_ended (if b then None else Some (continued (Some n))) f')
        by true e = h
        by false e = sound_gives (continued (Some n)) (g.0, e)
    loop_ends (returned v) g h = sound_gives (returned v) tt

    module _ (test test' : Part JsValue) (body body' : Part Completion) (t : Sound I (λ _. Unit {0}) test test') (b : Sound I (Completes (in_a_loop a) inner) body body') where
      turns_sound : (step step' : Part (Unit {0})) → Sound I (λ _. Unit {0}) step step' → (n : ℕ) → Sound I (Completes a own) (turns own n test body step) (turns own n test' body' step')
      turns_sound step step' s zero = sound_out
      turns_sound step step' s (suc n) =
          sound_then sound_pay (λ _ _. sound_then t (λ v _. sound_if (truthy_of v) (sound_then b (λ d g. loop_ends d g (sound_then s (λ _ _. turns_sound step step' s n)))) (sound_gives normal tt)))

      do_turns_sound : (n : ℕ) → Sound I (Completes a own) (do_turns own n body test) (do_turns own n body' test')
      do_turns_sound zero = sound_out
      do_turns_sound (suc n) = sound_then sound_pay (λ _ _. sound_then b (λ d g. loop_ends d g (sound_then t (λ v _. sound_if (truthy_of v) (do_turns_sound n) (sound_gives normal tt)))))

-- ---- statements

module _ (m : Module) (ok : Typed m) (f : Function) (calls calls' : Calls) (sound_calls : SoundCalls m f calls calls') (bound : ℕ) where
  abbrev c : Scope
  c = scope_of m f

  effect_sound : (e : Expr) → effect_fits c e ≡ true → Sound (Inv m f) (λ _. Unit {0}) (eval false calls c e) (eval true calls' c e)
  effect_sound e h = effect_sound_by m ok f calls calls' sound_calls e (is_call c e) h (call_sound m ok f calls calls' sound_calls e false) (eval_sound m ok f calls calls' sound_calls e)

  below_sound : (top : ValueType) (e : Expr) → typed_below top (type_of c e) ≡ true → Sound (Inv m f) (λ v. fits_of top v ≡ true) (eval false calls c e) (eval true calls' c e)
  below_sound top e h = let x = from_below top (type_of c e) h in sound_weaker (λ v g. wider x.type top v x.is_lower g.0) (eval_sound m ok f calls calls' sound_calls e x.type x.is)

  condition_sound : (e : Expr) → condition_fits c (Some e) ≡ true → Sound (Inv m f) (λ _. Unit {0}) (eval false calls c e) (eval true calls' c e)
  condition_sound e h = sound_weaker (λ v g. tt) (below_sound Int e h)

  test_sound : (o : Option Expr) → condition_fits c o ≡ true → Sound (Inv m f) (λ _. Unit {0}) (exec_test false calls c bound o) (exec_test true calls' c bound o)
  test_sound None h = sound_gives (Boolean true) tt
  test_sound (Some e) h = condition_sound e h

  part_sound : (o : Option Expr) → part_fits c o ≡ true → Sound (Inv m f) (λ _. Unit {0}) (exec_part false calls c bound o) (exec_part true calls' c bound o)
  part_sound None h = sound_gives tt tt
  part_sound (Some e) h = sound_then (effect_sound e h) (λ v _. sound_gives tt tt)

  mutual
    exec_sound : (a : Around) (own : List (List ℕ)) (s : Stmt) → typed c a s ≡ true → Sound (Inv m f) (Completes a (own_of (is_loop s) own)) (exec false calls c bound own s) (exec true calls' c bound own s)
    exec_sound a own (block ss) h = exec_all_sound a ss h
    exec_sound a own (plain e) h = sound_then (effect_sound e h) (λ v _. sound_gives normal tt)
    exec_sound a own empty h = sound_gives normal tt
    exec_sound a own (if_only e s) h =
        let p = and_parts _ _ h in
        sound_then (condition_sound e p.0) (λ v _. sound_if (truthy_of v) (sound_weaker (λ d g. plainly (is_loop s) a d g) (exec_sound a [] s p.1)) (sound_gives normal tt))
    exec_sound a own (if_else e s r) h =
        let p = and_parts _ _ h in
        let q = and_parts _ _ p.0 in
        sound_then (condition_sound e q.0) (λ v _. sound_if (truthy_of v) (sound_weaker (λ d g. plainly (is_loop s) a d g) (exec_sound a [] s q.1)) (sound_weaker (λ d g. plainly (is_loop r) a d g) (exec_sound a [] r p.1)))
    exec_sound a own (returns None) h = sound_gives (returned Undef) tt
    exec_sound a own (returns (Some e)) h = let p = and_parts _ _ h in sound_then (below_sound Signed e p.1) (λ v _. sound_gives (returned v) tt)
    exec_sound a own (while_loop e s) h =
        let p = and_parts _ _ h in
        turns_sound (Inv m f) a own (own_of (is_loop s) []) _ _ _ _ (condition_sound e p.0) (exec_sound (in_a_loop a) [] s p.1) (gives tt) (gives tt) (sound_gives tt tt) bound
    exec_sound a own (do_while s e) h =
        let p = and_parts _ _ h in
        do_turns_sound (Inv m f) a own (own_of (is_loop s) []) _ _ _ _ (condition_sound e p.1) (exec_sound (in_a_loop a) [] s p.0) bound
    exec_sound a own (for_loop x y z s) h =
        let p = and_parts _ _ h in
        let q = and_parts _ _ p.0 in
        let r = and_parts _ _ q.0 in
        sound_then (part_sound x r.0) (λ _ _. turns_sound (Inv m f) a own (own_of (is_loop s) []) _ _ _ _ (test_sound y r.1) (exec_sound (in_a_loop a) [] s p.1) _ _ (part_sound z q.1) bound)
    exec_sound a own (breaks l) h = sound_gives (broken l) h
    exec_sound a own (continues None) h = sound_gives (continued None) h
    exec_sound a own (continues (Some n)) h = sound_gives (continued (Some n)) (h, refl)
    exec_sound a own (labelled ns s) h =
        let p = and_parts _ _ h in
        sound_then (exec_sound (under_labels ns s a) ns s p.1) (λ d g. sound_gives (label_end ns d) (label_ends (is_loop s) ns a d g))
    exec_sound a own (switches e cs) h =
        let p = and_parts _ _ h in
        let q = and_parts _ _ p.0 in
        sound_then (below_sound Signed e q.0) (λ v g. let w = signed_whole v g in sound_then {P = λ z. Unit {0}} (sound_defined (record { value = w.0; is = ap as_whole w.1; holds = tt })) (λ z _. sound_then (clauses_sound (in_a_switch a) cs (passed_over z cs) p.1) (λ d g. sound_gives (switch_end d) (switch_ends a d g))))

    exec_all_sound : (a : Around) (ss : Stmts) → all_typed c a ss ≡ true → Sound (Inv m f) (Completes a []) (exec_all false calls c bound ss) (exec_all true calls' c bound ss)
    exec_all_sound a no_stmts h = sound_gives normal tt
    exec_all_sound a (stmts s ss) h =
        let p = and_parts _ _ h in
        sound_then (sound_weaker (λ d g. plainly (is_loop s) a d g) (exec_sound a [] s p.0)) (λ d g. unless_left_sound (Inv m f) a d g (exec_all_sound a ss p.1))

    clauses_sound : (a : Around) (cs : Clauses) (k : ℕ) → clauses_typed c a cs ≡ true → Sound (Inv m f) (Completes a []) (exec_clauses false calls c bound cs k) (exec_clauses true calls' c bound cs k)
    clauses_sound a no_clauses k h = sound_gives normal tt
    clauses_sound a (clauses v ss cs) zero h =
        let p = and_parts _ _ h in
        sound_then (exec_all_sound a ss p.0) (λ d g. unless_left_sound (Inv m f) a d g (clauses_sound a cs zero p.1))
    clauses_sound a (clauses v ss cs) (suc k) h = clauses_sound a cs k (and_parts _ _ h).1

-- ---- calls

end_sound : (I : List Binding → List Binding → Type 0) (d : Completion) → Completes at_top [] d → Sound I (λ _. Unit {0}) (function_end d) (function_end d)
end_sound I normal g = sound_gives Undef tt
end_sound I (returned v) g = sound_gives v tt
end_sound I (broken None) g = absurd (cc g)
end_sound I (broken (Some n)) g = absurd (cc g)
end_sound I (continued None) g = absurd (cc g)
end_sound I (continued (Some n)) g = absurd (cc (g.0))

module _ (m : Module) (ok : Typed m) where
  pub calls_sound : (bound : ℕ) (f : Function) → SoundCalls m f (call_at false m bound) (call_at true m bound)
  calls_sound zero f g vs h e = sound_out
  calls_sound (suc bound) f g vs h e =
      let p = and_parts _ _ h in
      let n = entered g vs p.0 e in
      sound_then sound_pay (λ _ _. sound_then {P = Fitting (kinds_of g)} (sound_defined (record { value = n.locals; is = n.is; holds = n.fit })) (λ locals fit. sound_locals (Fitting (kinds_of g)) (Fitting (kinds_of f)) (Fitting (global_kinds m.globals)) locals _ _ fit (sound_then (exec_all_sound m ok g _ _ (calls_sound bound g) bound at_top g.body p.1) (λ d c. end_sound (Inv m g) d c))))
