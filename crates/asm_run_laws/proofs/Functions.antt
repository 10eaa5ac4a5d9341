-- A call does what it says: it comes back with the value in the slot from which its arguments were passed.
use Rattle.std.proofs.Common.{◌≡◌, ℕ, zero, suc, ◌+◌, ◌<◌, ◌≤◌, true, List, [], ◌∷◌, length, Some, refl, sym, ap, ◌∙◌, subst, arith}
use Rattle.std.specs.Prelude.{slice_get}
use Rattle.std.proofs.lemmas.List.{length-reverse}
use Rattle.sem_words.specs.declared.js_value.JsValue.{JsValue}
use Rattle.sem_words.specs.declared.js_value.JsValue.TheVariants.{Undef}
use Rattle.asm_lang.specs.Modules.{Function}
use Rattle.asm_lang_valid.specs.Typed.{scope_of}
use Rattle.asm_lang_exec.specs.Runs.{Binding, Place, Run, goes, stops, spent, wrong, Part, after, and_then, defined, with_locals, back_to}
use Rattle.asm_lang_exec.specs.Meaning.{Completion, normal, broken, continued, returned, exec_all, function_end, call_at}
use Rattle.asm_run_code.specs.declared.op.Op.{Op}
use Rattle.asm_run_code.specs.declared.op.Op.TheVariants.{Number, Give}
use Rattle.asm_run_code.specs.Slots.{get, put}
use Rattle.asm_run_code.specs.Machine.{State, going, enters, calls, step}
use Rattle.asm_run_code.specs.Names.{first_free}
use Rattle.asm_run_code.specs.Bodies.{stmts_code, body}
use Rattle.asm_run_code.specs.Modules.{codes_of}
use Rattle.asm_run_laws.specs.Frames.{Setting, Frame, IsFrame, Ends, state, Standing, Kept, Shows, Goes, Spends, Does, word, Seated, Args, OwnDone}
use Rattle.asm_run_laws.specs.Bodies.{Left, Executed}
use Rattle.asm_run_laws.proofs.Slots.{get_same, get_other}
use Rattle.asm_run_laws.proofs.Fetched.{fetched, leads_once}
use Rattle.asm_run_laws.proofs.Done.{does_from, does_across}
use Rattle.asm_run_laws.proofs.Standing.{other_slot, standing_put, kept_on, kept_put}
use Rattle.asm_run_laws.proofs.Fronts.{ends_here, ends_after, ends_on, stmts_pass}
use Rattle.asm_run_laws.proofs.Entered.{begun, inner_frame, is_inner, flat_found, entered_words, entered_below, stands_inside}

after_twice : {A B C : Type 0} → (o : Run A) (f : A → Part B) (g : B → Part C) (P : Run C → Type 0) → P (after o (λ a. and_then (f a) g)) → P (after (after o f) g)
after_twice (goes a p) f g P h = h
after_twice (stops e p) f g P h = h
after_twice (spent p) f g P h = h
after_twice wrong f g P h = h

module _ (s : Setting) (made : s.codes ≡ codes_of s.home) where
  -- the bodies of functions do what they say, where calls do
  abbrev pub BodiesDo : Type 0
  BodiesDo =
      (bound : ℕ) → OwnDone s bound (call_at true s.home bound) → (y : Frame) (n : ℕ) → slice_get s.home.functions n ≡ Some y.within → IsFrame s y
      → Executed s y bound (first_free y.within) [] (stmts_code (scope_of s.home y.within) [] (first_free y.within) y.within.body) (exec_all true (call_at true s.home bound) (scope_of s.home y.within) bound y.within.body)

  module _ (x : Frame) (g : Function) (n d at : ℕ) (room : first_free x.within ≤ d) (stands : slice_get s.home.functions n ≡ Some g) (ws : List ℕ) (p : Place) (st : Standing s x ws p) where
    abbrev y : Frame
    y = inner_frame s made x g n d at

    abbrev f : IsFrame s y
    f = is_inner s made x g n d at stands

    abbrev shows : Shows JsValue
    shows = Seated s x d d at ws

    -- `Give`
    given_back : (v : JsValue) (w : ℕ) → w ≡ word v → (slot : ℕ) (rest : List Op) (new : List ℕ) (q : Place) → Ends y.whole (Give slot ∷ rest) → Standing s y new q → Kept y (first_free g) (entered_words s made x g n d at ws) new
        → get new (y.base + slot) ≡ w → Goes s x shows q.units (state y (length (Give slot ∷ rest)) new q) v (record q { locals = p.locals })
    given_back v w same slot rest new q ends inside kept is =
        let last = put new (x.base + d) w in record {
          at = at;
          words = last;
          leads = leads_once s.codes (state y (length (Give slot ∷ rest)) new q) (going (state x at last (record q { locals = p.locals })))
              (fetched s y f (Give slot) rest new q ends ∙ ap (λ w. going (state x at (put new (x.base + d) w) (record q { locals = p.locals }))) is);
          shown = record {
            standing = record {
              holds = record { locals = st.holds.locals; globals = inside.holds.globals; heap = inside.holds.heap; bytes = inside.holds.bytes; replies = inside.holds.replies };
              locals = λ i lt. other_slot s x new d i w (λ e. omega (arith, e, lt, room)) ∙ before (x.base + i) (omega (arith, lt, room)) ∙ st.locals i lt;
            };
            kept = record {
              below = λ i lt. get_other new (x.base + d) i w (λ e. omega (arith, e, lt)) ∙ before i (omega (arith, lt));
              between = λ i le lt. other_slot s x new d i w (λ e. omega (arith, e, lt)) ∙ before (x.base + i) (omega (arith, lt));
            };
            there = refl;
            value = get_same new (x.base + d) w ∙ same;
          };
          few = omega arith;
        }
      where
        before : (j : ℕ) → j < x.base + d → get new j ≡ get ws j
        before j lt = kept.below j lt ∙ entered_below s made x g n d at ws j lt

    -- after the body
    ended : (e : Completion) (new : List ℕ) (q : Place) (here : ℕ) → Left s y (first_free g) [] (length (Number (first_free g) 0 ∷ Give (first_free g) ∷ [])) (entered_words s made x g n d at ws) e q here new
        → Ends y.whole (Number (first_free g) 0 ∷ Give (first_free g) ∷ [])
        → Does s x shows q.units (state y here new q) (after (function_end e q) (back_to p.locals))
    ended normal new q here left ends =
        let slot = first_free g in
        let more : List Op = Give slot ∷ [] in
        let last = put new (y.base + slot) 0 in
        subst (λ here. Does s x shows q.units (state y here new q) (goes Undef (record q { locals = p.locals }))) (sym left.there)
        (does_from s x shows q.units q.units (state y (length (Number slot 0 ∷ more)) new q) (state y (length more) last q) (goes Undef (record q { locals = p.locals }))
        (leads_once s.codes (state y (length (Number slot 0 ∷ more)) new q) (going (state y (length more) last q)) (fetched s y f (Number slot 0) more new q ends))
        (omega arith)
        (given_back Undef 0 refl slot [] last q (ends_on y.whole (Number slot 0 ∷ more) more ends (ends_after (Number slot 0) more))
        (standing_put s y new q slot 0 (omega arith) left.standing)
        (kept_on s y (first_free g) (entered_words s made x g n d at ws) new last left.kept (kept_put s y (first_free g) new slot 0 (omega arith)))
        (get_same new (y.base + slot) 0)))
    ended (broken l) new q here left ends = tt
    ended (continued l) new q here left ends = tt
    ended (returned v) new q here left ends =
        let g = left.there in
        subst (λ here. Does s x shows q.units (state y here new q) (goes v (record q { locals = p.locals }))) (sym g.there)
        (given_back v (word v) refl g.slot g.rest new q g.ends left.standing left.kept g.value)

    -- the whole call, with a unit more than k
    paid_call : (bound k : ℕ) (vs : List JsValue) (t : State) → length vs ≡ length g.params → Args x ws d vs → k ≤ bound
        → Executed s y bound (first_free g) [] (stmts_code (scope_of s.home g) [] (first_free g) g.body) (exec_all true (call_at true s.home bound) (scope_of s.home g) bound g.body)
        → step s.codes t ≡ calls s.codes n d (state x at ws (record p { units = suc k }))
        → Does s x shows (suc k) t (call_at true s.home (suc bound) g vs (record p { units = suc k }))
    unfolding body
    paid_call bound k vs t many args le executed steps =
        let b = begun (scope_of s.home g) vs many in
        let inside = record p { locals = b.variables; units = k } in
        let new = entered_words s made x g n d at ws in
        let c = scope_of s.home g in
        let last : List Op = Number (first_free g) 0 ∷ Give (first_free g) ∷ [] in
        let all = stmts_code c [] (first_free g) g.body last in
        let run = λ (locals : List Binding). with_locals locals (and_then (exec_all true (call_at true s.home bound) c bound g.body) (λ d. function_end d)) (record p { units = k }) in
        subst (λ o. Does s x shows (suc k) t (after (defined o (record p { units = k })) (λ locals. with_locals locals (and_then (exec_all true (call_at true s.home bound) c bound g.body) (λ d. function_end d))))) (sym b.is)
        (does_from s x shows k (suc k) t (state y (length all) new inside) (run b.variables)
        (leads_once s.codes t (going (state y (length all) new inside))
        (steps
        ∙ ap (λ o. enters o n (x.base + d) y.callers (state x at ws (record p { units = k }))) (flat_found s made x g n d at stands)
        ∙ ap (λ a. going (state y a new inside)) (length-reverse all)))
        (omega arith)
        (after_twice (exec_all true (call_at true s.home bound) c bound g.body inside) (λ d. function_end d) (back_to p.locals) (λ o. Does s x shows k (state y (length all) new inside) o)
        (does_across s x y (Left s y (first_free g) [] (length last) new) shows k (state y (length all) new inside) (exec_all true (call_at true s.home bound) c bound g.body inside) (λ e. and_then (function_end e) (back_to p.locals))
        (executed.by last new inside (ends_here all) (record { breaks = λ l. omega arith; continues = λ l. omega arith }) (stands_inside s made x g n d at ws p vs b k many st args) le)
        (λ e q here w run left le. ended e w q here left (ends_on all all last (ends_here all) (stmts_pass c g.body [] (first_free g) last))))))

-- no unit is left
unpaid_call : (s : Setting) (x : Frame) (at : ℕ) (ws : List ℕ) (p : Place) (n d u : ℕ) → u ≡ 0 → (t : State) → step s.codes t ≡ calls s.codes n d (state x at ws (record p { units = u })) → Spends s t (record p { units = u })
unpaid_call s x at ws p n d zero e t steps = record { last = state x at ws (record p { units = 0 }); leads = leads_once s.codes t _ steps; events = refl }
unpaid_call s x at ws p n d (suc k) e t steps = absurd (omega (arith, e))

-- a call of a function of the module
pub own_done : (s : Setting) (made : s.codes ≡ codes_of s.home) → BodiesDo s made → (bound : ℕ) → OwnDone s bound (call_at true s.home bound)
own_done s made bodies zero x g n d at vs t ws p stands room many st args few steps = unpaid_call s x at ws p n d p.units (omega (arith, few)) t steps
own_done s made bodies (suc bound) x g n d at vs t ws p stands room many st args few steps = by (own_done s made bodies bound) p.units few steps
  where
    by : OwnDone s bound (call_at true s.home bound) → (u : ℕ) → u ≤ suc bound → step s.codes t ≡ calls s.codes n d (state x at ws (record p { units = u })) → Does s x (Seated s x d d at ws) u t (call_at true s.home (suc bound) g vs (record p { units = u }))
    by own zero le steps = unpaid_call s x at ws p n d 0 refl t steps
    by own (suc k) le steps =
        paid_call s made x g n d at room stands ws p st bound k vs t many args (omega (arith, le)) (bodies bound own (inner_frame s made x g n d at) n stands (is_inner s made x g n d at stands)) steps
