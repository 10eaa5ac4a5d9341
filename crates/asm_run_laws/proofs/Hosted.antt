-- A call of the host begins and ends as the meaning says.
use Rattle.std.proofs.Common.{◌≡◌, ℕ, zero, suc, ◌+◌, ◌≤◌, Bool, true, false, List, [], ◌∷◌, ◌++◌, length, map, Some, refl, sym, ap, ◌∙◌, subst, arith, append_assoc, length-append}
use Rattle.std.specs.Prelude.{slice_get}
use Rattle.std.proofs.lemmas.List.{length-reverse}
use Rattle.sem_words.specs.declared.js_value.JsValue.{JsValue}
use Rattle.sem_words.specs.declared.js_value.JsValue.TheVariants.{Undef}
use Rattle.asm_lang.specs.Modules.{Function}
use Rattle.asm_lang_valid.specs.Typed.{scope_of}
use Rattle.asm_lang_exec.specs.Runs.{Binding, Place, Run, goes, stops, spent, wrong, after, and_then, defined, with_locals, back_to}
use Rattle.asm_lang_exec.specs.Meaning.{Completion, normal, broken, continued, returned, exec_all, function_end, call_at}
use Rattle.asm_run_laws.specs.Places.{Holds}
use Rattle.asm_run_code.specs.declared.op.Op.{Op}
use Rattle.asm_run_code.specs.declared.op.Op.TheVariants.{Number, Give}
use Rattle.asm_run_code.specs.Slots.{get, put}
use Rattle.asm_run_code.specs.Machine.{Codes, State, Came, going, back, halts, unpaid, lost, enters, step, and_on, followed, Leads}
use Rattle.asm_run_code.specs.Names.{first_free}
use Rattle.asm_run_code.specs.Bodies.{stmts_code, body}
use Rattle.asm_run_code.specs.Modules.{codes_of}
use Rattle.asm_run_code.specs.Sessions.{begins}
use Rattle.asm_run_laws.specs.Frames.{Setting, Frame, IsFrame, Ends, state, Standing, Does, word, Args, OwnDone}
use Rattle.asm_run_laws.specs.Bodies.{Left}
use Rattle.asm_run_laws.specs.Hosts.{nothing, resting, Comes, Returns, HostDoes}
use Rattle.asm_run_laws.proofs.Slots.{get_same, get_past}
use Rattle.asm_run_laws.proofs.Fetched.{fetched, leads_on, leads_once}
use Rattle.asm_run_laws.proofs.Standing.{standing_put}
use Rattle.asm_run_laws.proofs.Fronts.{ends_here, ends_after, ends_on, stmts_pass}
use Rattle.asm_run_laws.proofs.Entered.{begun, flat_found, entered_words, stands_inside}
use Rattle.asm_run_laws.proofs.Functions.{BodiesDo}

-- ---- what has ended stays

abbrev has_ended : Came → Bool
has_ended (going s) = false
has_ended r = true

stays_ended : (k j : ℕ) (c : Codes) (s : State) (r : Came) → has_ended r ≡ true → followed k c s ≡ r → followed (k + j) c s ≡ r
unfolding followed
stays_ended zero j c s r e h = absurd (let f : has_ended r ≡ false = ap has_ended (sym h) in cc (sym f ∙ e))
stays_ended (suc k) j c s r e h = let n : suc k + j ≡ suc (k + j) = omega arith in ap (λ n. followed n c s) n ∙ by (step c s) (λ t h. stays_ended k j c t r e h) h
  where
    by : (o : Came) → ((t : State) → followed k c t ≡ r → followed (k + j) c t ≡ r) → and_on (followed k c) o ≡ r → and_on (followed (k + j) c) o ≡ r
    by (going t) next h = next t h
    by (back w t) next h = h
    by (halts i t) next h = h
    by (unpaid t) next h = h
    by lost next h = h

comes_of : (c : Codes) (t : State) (r : Came) → has_ended r ≡ true → Leads c t r → Comes c (going t) r
comes_of c t r e l = (l.0, λ j. stays_ended l.0 j c t r e l.1)

-- ---- the frame

abbrev nobody : Frame
nobody = record { within = nothing; number = 0; whole = []; base = 0; callers = [] }

args_of : (ws front : List ℕ) (d : ℕ) (vs : List JsValue) → ws ≡ front ++ map word vs → d ≡ length front → Args nobody ws d vs
unfolding get
args_of ws front d [] e l = tt
args_of ws front d (v ∷ vs) e l =
    let many = length-append front (word v ∷ []) in (
      ap (λ ws. get ws (0 + d)) e ∙ get_past front (word v ∷ map word vs) (0 + d) 0 (omega (arith, l)),
      args_of ws (front ++ word v ∷ []) (suc d) vs (e ∙ sym (append_assoc front (word v ∷ []) (map word vs))) (omega (arith, l, many)),
    )

module _ (s : Setting) (made : s.codes ≡ codes_of s.home) (bodies : BodiesDo s made) (g : Function) (n : ℕ) (stands : slice_get s.home.functions n ≡ Some g) where
  abbrev y : Frame
  y = record { within = g; number = n; whole = body (scope_of s.home g); base = 0; callers = [] }

  f : IsFrame s y
  f = record { flat = _; found = flat_found s made nobody g n 0 0 stands; stored = refl }

  -- `Give`, in a frame without a caller
  gives_up : (v : JsValue) (w : ℕ) → w ≡ word v → (slot : ℕ) (rest : List Op) (new : List ℕ) (p q : Place) (k : ℕ) (t : State) → Holds s.home s.heap nothing p → Leads s.codes t (going (state y (length (Give slot ∷ rest)) new q))
      → Ends y.whole (Give slot ∷ rest) → Standing s y new q → get new (y.base + slot) ≡ w → q.units ≤ k → Returns s (going t) k v (record q { locals = p.locals })
  gives_up v w same slot rest new p q k t holds leads ends inside is few =
      let last = state y (length rest) new q in
      let gives : Leads s.codes (state y (length (Give slot ∷ rest)) new q) (back (word v) last)
      = leads_once s.codes (state y (length (Give slot ∷ rest)) new q) (back (word v) last) (fetched s y f (Give slot) rest new q ends ∙ ap (λ w. back w last) (is ∙ same)) in
      record {
        last = last;
        comes = comes_of s.codes t (back (word v) last) refl (leads_on s.codes t (state y (length (Give slot ∷ rest)) new q) (back (word v) last) leads gives);
        holds = record { locals = holds.locals; globals = inside.holds.globals; heap = inside.holds.heap; bytes = inside.holds.bytes; replies = inside.holds.replies };
        few = few;
      }

  module _ (p : Place) (holds : Holds s.home s.heap nothing p) (k : ℕ) (t : State) where
    abbrev last_ops : List Op
    last_ops = Number (first_free g) 0 ∷ Give (first_free g) ∷ []

    closed : (words : List ℕ) (e : Completion) (q : Place) (here : ℕ) (new : List ℕ) → Leads s.codes t (going (state y here new q)) → Left s y (first_free g) [] (length last_ops) words e q here new → q.units ≤ k → Ends y.whole last_ops
        → HostDoes s k (going t) (after (function_end e q) (back_to p.locals))
    closed words normal q here new leads left few ends =
        let slot = first_free g in
        let more : List Op = Give slot ∷ [] in
        let last = put new (y.base + slot) 0 in
        gives_up Undef 0 refl slot [] last p q k t holds
        (leads_on s.codes t (state y (length last_ops) new q) (going (state y (length more) last q))
        (subst (λ here. Leads s.codes t (going (state y here new q))) left.there leads)
        (leads_once s.codes (state y (length last_ops) new q) (going (state y (length more) last q)) (fetched s y f (Number slot 0) more new q ends)))
        (ends_on y.whole last_ops more ends (ends_after (Number slot 0) more)) (standing_put s y new q slot 0 (omega arith) left.standing) (get_same new (y.base + slot) 0) few
    closed words (broken l) q here new leads left few ends = tt
    closed words (continued l) q here new leads left few ends = tt
    closed words (returned v) q here new leads left few ends =
        let g = left.there in
        gives_up v (word v) refl g.slot g.rest new p q k t holds (subst (λ here. Leads s.codes t (going (state y here new q))) g.there leads) g.ends left.standing g.value few

    body_ends : (words : List ℕ) (o : Run Completion) → Does s y (Left s y (first_free g) [] (length last_ops) words) k t o → Ends y.whole last_ops
        → HostDoes s k (going t) (after (after o (λ e. function_end e)) (back_to p.locals))
    body_ends words (goes e q) d ends = closed words e q d.at d.words d.leads d.shown d.few ends
    body_ends words (stops e q) d ends = record { last = d.last; comes = comes_of s.codes t (halts e d.last) refl d.leads; events = d.events; heap = d.heap }
    body_ends words (spent q) d ends = record { last = d.last; comes = comes_of s.codes t (unpaid d.last) refl d.leads; events = d.events }
    body_ends words wrong d ends = tt

  more_units : (j k : ℕ) → j ≤ k → (start : Came) (o : Run JsValue) → HostDoes s j start o → HostDoes s k start o
  more_units j k le start (goes v q) r = let few = r.few in record { last = r.last; comes = r.comes; holds = r.holds; few = omega (arith, few, le) }
  more_units j k le start (stops e q) r = r
  more_units j k le start (spent q) r = r
  more_units j k le start wrong r = tt

  unpaid_host : (t : State) (p : Place) → HostDoes s p.units (unpaid (resting t p)) (spent p)
  unpaid_host t p = record { last = resting t p; comes = (0, λ j. refl); events = refl }

  host_paid : (bound k : ℕ) → k ≤ bound → OwnDone s bound (call_at true s.home bound) → (vs : List JsValue) → length vs ≡ length g.params → (t : State) (p : Place) → Holds s.home s.heap nothing p
      → HostDoes s (suc k) (begins s.codes n (map word vs) (resting t (record p { units = suc k }))) (call_at true s.home (suc bound) g vs (record p { units = suc k }))
  unfolding body
  host_paid bound k le own vs many t p holds =
      let c = scope_of s.home g in
      let b = begun c vs many in
      let ws = map word vs in
      let st : Standing s nobody ws p = record { holds = holds; locals = λ i lt. absurd (omega (arith, lt)) } in
      let inside = record p { locals = b.variables; units = k } in
      let new = entered_words s made nobody g n 0 0 ws in
      let last : List Op = Number (first_free g) 0 ∷ Give (first_free g) ∷ [] in
      let all = stmts_code c [] (first_free g) g.body last in
      let stood = stands_inside s made nobody g n 0 0 ws p vs b k many st (args_of ws [] 0 vs refl refl) in
      let start = begins s.codes n ws (resting t (record p { units = suc k })) in
      let run = λ (locals : List Binding). with_locals locals (and_then (exec_all true (call_at true s.home bound) c bound g.body) (λ d. function_end d)) (record p { units = k }) in
      let enters_so : start ≡ going (state y (length all) new inside)
      = ap (λ o. enters o n 0 [] (record (resting t (record p { units = k })) { words = ws })) (flat_found s made nobody g n 0 0 stands) ∙ ap (λ a. going (state y a new inside)) (length-reverse all) in
      subst (λ o. HostDoes s (suc k) start (after (defined o (record p { units = k })) (λ locals. with_locals locals (and_then (exec_all true (call_at true s.home bound) c bound g.body) (λ d. function_end d))))) (sym b.is)
      (subst (λ start. HostDoes s (suc k) start (run b.variables)) (sym enters_so)
      (more_units k (suc k) (omega arith) (going (state y (length all) new inside)) (run b.variables)
      (body_ends p holds k (state y (length all) new inside) new (exec_all true (call_at true s.home bound) c bound g.body inside)
      ((bodies bound own y n stands f).by last new inside (ends_here all) (record { breaks = λ l. omega arith; continues = λ l. omega arith }) (record { holds = stood.holds; locals = stood.locals }) le)
      (ends_on all all last (ends_here all) (stmts_pass c g.body [] (first_free g) last)))))

  pub host_done : (bound : ℕ) → ((bound : ℕ) → OwnDone s bound (call_at true s.home bound)) → (vs : List JsValue) → length vs ≡ length g.params → (t : State) (p : Place) → Holds s.home s.heap nothing p → p.units ≤ bound
      → HostDoes s p.units (begins s.codes n (map word vs) (resting t p)) (call_at true s.home bound g vs p)
  host_done bound own vs many t p holds few = by bound p.units few
    where
      by : (bound u : ℕ) → u ≤ bound → HostDoes s u (begins s.codes n (map word vs) (resting t (record p { units = u }))) (call_at true s.home bound g vs (record p { units = u }))
      by zero zero le = unpaid_host t (record p { units = 0 })
      by zero (suc u) le = absurd (omega (arith, le))
      by (suc bound) zero le = unpaid_host t (record p { units = 0 })
      by (suc bound) (suc u) le = host_paid bound u (omega (arith, le)) (own bound) vs many t p holds
