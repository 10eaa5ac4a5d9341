-- A call of a function of the module, by induction on how deep calls may lie: the body of the function in its frame, and back in
-- the caller's place.
use Rattle.std.proofs.Common.{◌≡◌, ℕ, zero, suc, ◌+◌, ◌≤◌, Bool, true, List, [], ◌++◌, length, map, Some, refl, sym, ap, ◌∙◌, subst, arith, append_assoc}
use Rattle.std.specs.Prelude.{◌-◌, max, slice_get}
use Rattle.std.proofs.lemmas.List.{length-map, length-replicate}
use Rattle.sem_words.specs.declared.word.Word.{Word}
use Rattle.sem_words.specs.declared.word.Word.TheVariants.{W32}
use Rattle.sem_words.specs.declared.js_value.JsValue.{JsValue}
use Rattle.wasm_lang_exec.specs.Code.{Trees, ε, ◌▹◌, ◌⊕◌, call}
use Rattle.wasm_lang_exec.specs.Store.{Store, zeros_of}
use Rattle.wasm_lang_exec.specs.Reductions.{a_function, callee_at}
use Rattle.wasm_laws_drive.specs.Drive.{Outcome, Next, at, onward}
use Rattle.wasm_laws_drive.specs.Equations.{at_frame}
use Rattle.wasm_laws_drive.proofs.Instructions.{no_code}
use Rattle.wasm_laws_trees.specs.Spelled.{size, reach}
use Rattle.asm_lang.specs.Modules.{Function}
use Rattle.asm_lang_valid.specs.Scope.{signature_of}
use Rattle.asm_lang_valid.specs.Typed.{scope_of}
use Rattle.asm_lang_valid.specs.Typing.{Scope}
use Rattle.asm_lang_valid.specs.LimitRows.{stmts_marks, foreign_calls}
use Rattle.asm_lang_exec.specs.Runs.{Binding, Place, Part, after, and_then, defined, paid, back_to, with_locals}
use Rattle.asm_lang_exec.specs.Values.{Calls}
use Rattle.asm_lang_exec.specs.Meaning.{exec_all, first_locals, function_end, call_at}
use Rattle.asm2wasm_translation.specs.Numbers.{first_scratch}
use Rattle.asm2wasm_translation.specs.Bodies.{locals_code, body_code, function_code}
use Rattle.asm2wasm_translation.specs.Modules.{type_for, body_for}
use Rattle.asm2wasm_laws_run.specs.Sim.{Steps, Ends, Sim}
use Rattle.asm2wasm_laws_run.specs.Sim as sims
use Rattle.asm2wasm_laws_run.specs.State.{words, store_of, Holds, EndsAlike, run_from, AnyValue}
use Rattle.asm2wasm_laws_run.proofs.Simulated.{comes_in, sim_after, sim_now, sim_unit, sim_bind}
use Rattle.asm2wasm_laws_preservation.specs.Kept.{word, values, result, Surroundings, Shown, Keeps}
use Rattle.asm2wasm_laws_preservation.specs.Made.{AllListed, CallsKept, OwnKept, IsMade}
use Rattle.asm2wasm_laws_preservation.specs.Laws.{AreAccepted}
use Rattle.asm2wasm_laws_preservation.proofs.Entries.{all_calls_are_kept}
use Rattle.asm2wasm_laws_preservation.proofs.Sizes.{sizes_add}
use Rattle.asm2wasm_laws_simulation.specs.Bodies.Followed.{Course, on_code, Arrived, Any}
use Rattle.asm2wasm_laws_simulation.specs.Bodies.Laws.{results}
use Rattle.asm2wasm_laws_simulation.proofs.Bodies.First.{literals, zeros, locals_set}
use Rattle.asm2wasm_laws_simulation.proofs.Bodies.Scratched.{Reaches}
use Rattle.asm2wasm_laws_simulation.proofs.Bodies.Whole.{bodies_are_kept}
use Rattle.asm2wasm_laws_simulation.specs.Functions.Laws.{UnitsPay}
use Rattle.asm2wasm_laws_simulation.proofs.Functions.Passed.{begun}
use Rattle.asm2wasm_laws_simulation.proofs.Functions.Asked.{body_listed, body_typed, scratch_of, locals_split, body_within}
use Rattle.asm2wasm_laws_simulation.proofs.Functions.Entered.{zeros_split, call_waits, call_goes}

-- what is known of the translated module, wherever its code stands
pub record Known (s : Surroundings) : Type 0 where
  pub accepted : AreAccepted s
  pub made : IsMade s.target s.fixed s.home
  pub functions : (n : ℕ) (g : Function) → slice_get s.home.functions n ≡ Some g
      → callee_at s.target (length (foreign_calls s.home) + n) ≡ Some (a_function (type_for (signature_of g)) (body_for s.home s.heap g).locals (function_code s.heap (scope_of s.home g)))
  pub pay : UnitsPay s

-- in another function
abbrev pub inside : Surroundings → Function → ℕ → Surroundings
inside s g scratch = record s { within = g; scratch = scratch }

pub known_inside : (s : Surroundings) (g : Function) (scratch : ℕ) → Known s → Known (inside s g scratch)
known_inside s g scratch k = record {
  accepted = record { accepted = k.accepted.accepted; given = k.accepted.given; heap_fits = k.accepted.heap_fits };
  made = k.made;
  functions = k.functions;
  pay = k.pay;
}

same_keeps : sims.Keeps (λ r. r)
same_keeps = record { ended = λ e st. refl; spent = λ st. refl }

-- ---- one call, in whose function calls are kept

module _ (s : Surroundings) (known : Known s) (bound n : ℕ) (g : Function) (is : slice_get s.home.functions n ≡ Some g) (vs : List JsValue) (many : length vs ≡ length g.params) where
  abbrev c : Scope
  c = scope_of s.home g

  abbrev scratch_room : ℕ
  scratch_room = scratch_of s.home s.heap g

  abbrev callee : Surroundings
  callee = inside s g scratch_room

  abbrev wanted : Bool
  wanted = (signature_of g).result

  abbrev index : ℕ
  index = length (foreign_calls s.home) + n

  abbrev code : Trees
  code = function_code s.heap c

  abbrev body : Trees
  body = body_code s.heap c g.body

  abbrev setting : Trees
  setting = locals_code s.heap c (length g.params) g.locals

  abbrev calls : Calls
  calls = call_at true s.home bound

  abbrev does : Part JsValue
  does = and_then (exec_all true calls c bound g.body) (λ d. function_end d)

  abbrev ends : Ends
  ends = EndsAlike s.fixed s.home s.heap

  module _ (d : ℕ) (kept : CallsKept callee bound calls) (scratch stack : List Word) where
    abbrev outer : Place → List Word
    outer p = words p.locals ++ scratch

    abbrev framed : Place → Outcome → Outcome
    framed p r = at_frame s.target stack (results wanted) ε (outer p) r

    abbrev shows : JsValue → Place → Steps → Type 0
    shows = Shown s d AnyValue (result wanted) scratch stack

    -- the locals of the machine in the function's frame, where it begins
    abbrev beginning : List Word
    beginning = map word vs ++ zeros_of (body_for s.home s.heap g).locals

    beginning_is : beginning ≡ map word vs ++ (zeros (length g.locals) ++ zeros scratch_room)
    beginning_is = ap (λ ws. map word vs ++ ws) (zeros_split (max (first_scratch g) (reach code) - length g.params) (length g.locals) scratch_room (locals_split (length g.params) (length g.locals) (reach code)))

    -- from the caller's place p to a place in the function, with these variables
    from_body : (p : Place) (variables : List Binding) → Holds s.fixed s.home s.heap s.within p → Holds s.fixed s.home s.heap g (record p { locals = variables }) → length scratch ≡ s.scratch → p.units ≤ bound
        → Sim s.worth ends shows (1 + size body) p.units (λ k. framed p (on_code s.target [] body (words variables ++ zeros scratch_room) (store_of s.fixed p) k)) (with_locals variables does p)
    from_body p variables h inner as_many few = subst (λ z. Sim s.worth ends shows z p.units run (with_locals variables does p)) none all
      where
        run : Steps
        run k = framed p (on_code s.target [] body (words variables ++ zeros scratch_room) (store_of s.fixed p) k)

        none : 1 + size body + 0 ≡ 1 + size body
        none = omega arith

        place : Place
        place = record p { locals = variables }

        listed : (at : ℕ) × AllListed (foreign_calls s.home) (stmts_marks c at g.body)
        listed = body_listed s.home n g is

        back : JsValue → Course
        back v l st k = onward s.target ε (at (result wanted v ++ stack) (outer p) st k)

        few_enough : size body ≤ s.worth
        few_enough = let pays = known.pay n g is in let joined = sizes_add setting body in omega (arith, pays, joined)

        runs : Sim s.worth ends (Arrived callee Any back (zeros scratch_room)) (1 + size body) p.units run (does place)
        runs =
            (bodies_are_kept callee bound bound calls listed.0 stack ε (outer p) (known_inside s g scratch_room known).accepted kept (omega arith) (body_typed s.home n g known.accepted.accepted is) listed.1
            (body_within s.home s.heap g) few_enough).by place (zeros scratch_room) inner (length-replicate scratch_room (W32 0)) few

        returns : (v : JsValue) (q : Place) (later : Steps) → Arrived callee Any back (zeros scratch_room) v q later → q.units ≤ p.units → Sim s.worth ends shows 0 q.units later (back_to p.locals v q)
        returns v q later x le =
            sim_now s.worth ends JsValue shows v (record q { locals = p.locals }) later (λ k. Next (at (result wanted v ++ stack) (outer p) (store_of s.fixed q) k))
            (record {
              is = tt;
              holds = record { locals = h.locals; globals = x.holds.globals; heap = x.holds.heap; bytes = x.holds.bytes; replies = x.holds.replies };
              scratch_then = scratch;
              as_many = refl;
              kept = refl;
              shown = λ k. refl;
            })
            (λ k. x.shown k ∙ no_code s.target (at (result wanted v ++ stack) (outer p) (store_of s.fixed q) k))

        all : Sim s.worth ends shows (1 + size body + 0) p.units run (with_locals variables does p)
        all = sim_bind s.worth ends JsValue JsValue (Arrived callee Any back (zeros scratch_room)) shows (λ r. r) (1 + size body) 0 p.units run (does place) (back_to p.locals) same_keeps runs returns

    -- the first values of the function's locals stand before its body
    pub record Sets (locals : List Word) (st : Store) : Type 0 where
      pub cost : ℕ
      pub few : cost ≤ size setting
      pub by : (k : ℕ) → on_code s.target [] code beginning st (cost + k) ≡ on_code s.target [] body locals st k

    sets : (variables : List Binding) (st : Store) → words variables ≡ map word vs ++ literals s.heap c g.locals → Sets (words variables ++ zeros scratch_room) st
    sets variables st are =
        let as_many : length (map word vs) ≡ length g.params = length-map vs word ∙ many in
        let room = zeros scratch_room in
        let begins = map word vs ++ (zeros (length g.locals) ++ room) in
        let set = map word vs ++ (literals s.heap c g.locals ++ room) in
        let x = subst (λ i. Reaches (size (locals_code s.heap c i g.locals)) (on_code s.target [] (locals_code s.heap c i g.locals ⊕ body) begins st) (on_code s.target [] body set st)) as_many (locals_set s.heap c s.target body st g.locals (map word vs) room) in
        let same : set ≡ words variables ++ room = sym (append_assoc (map word vs) (literals s.heap c g.locals) room) ∙ ap (λ ws. ws ++ room) (sym are) in
        record {
          cost = x.cost;
          few = x.few;
          by = λ k. ap (λ l. on_code s.target [] code l st (x.cost + k)) beginning_is ∙ x.by k ∙ ap (λ l. on_code s.target [] body l st k) same;
        }

    -- a call pays its unit with the reduction that enters the frame
    pub called : (p : Place) → Holds s.fixed s.home s.heap s.within p → length scratch ≡ s.scratch → (u : ℕ) → p.units ≡ u → u ≤ suc bound
        → Sim s.worth ends shows 1 u (run_from s.target s.fixed (values vs ++ stack) (call index ▹ ε) scratch p) (after (paid u p) (λ _. and_then (defined (first_locals g vs)) (λ locals. with_locals locals does)))
    called p h as_many zero e few = record {
      cost = 0;
      store = store_of s.fixed p;
      no_fewer = omega arith;
      no_more = omega arith;
      by = call_waits s.target index stack (outer p) (store_of s.fixed p) (values vs ++ stack);
      seen = refl;
    }
    called p h as_many (suc u) e few =
        let q = record p { units = u } in
        let st = store_of s.fixed p in
        let b = begun s.heap c vs many in
        let x = sets b.variables st b.words_are in
        let r : Steps = run_from s.target s.fixed (values vs ++ stack) (call index ▹ ε) scratch p in
        let entered : Steps = λ k. framed p (on_code s.target [] code beginning st k) in
        let later : Steps = λ k. framed p (on_code s.target [] body (words b.variables ++ zeros scratch_room) st k) in
        let pays = known.pay n g is in
        let joined = sizes_add setting body in
        let cheap = x.few in
        let at_q : Holds s.fixed s.home s.heap s.within q = record { locals = h.locals; globals = h.globals; heap = h.heap; bytes = h.bytes; replies = h.replies } in
        let inner : Holds s.fixed s.home s.heap g (record q { locals = b.variables }) = record { locals = b.names_are; globals = h.globals; heap = h.heap; bytes = h.bytes; replies = h.replies } in
        let does_it = from_body q b.variables at_q inner as_many (omega (arith, few)) in
        let whole = sim_after s.worth ends JsValue shows x.cost (1 + size body) u u entered later (with_locals b.variables does q) (comes_in s.worth x.cost u entered later (λ k. ap (framed p) (x.by k))) does_it in
        subst (λ o. Sim s.worth ends shows 1 (suc u) r (after (defined o q) (λ locals. with_locals locals does))) (sym b.is)
        (sim_unit s.worth ends JsValue shows (x.cost + (1 + size body)) 1 u r entered (with_locals b.variables does q) (omega (arith, pays, joined, cheap))
        (λ k. call_goes s.target index stack (outer p) st wanted (length g.params) vs (body_for s.home s.heap g).locals code k (known.functions n g is) many) whole)

  -- all that is left to ask are calls at a depth that is less by one
  pub call_kept : (limit d : ℕ) → limit ≤ suc bound → CallsKept callee bound calls → Keeps s limit d (values vs) AnyValue (result wanted) (call index ▹ ε) (call_at true s.home (suc bound) g vs)
  call_kept limit d le kept = record { by = λ p scratch stack h as_many few. called d kept scratch stack p h as_many p.units refl (omega (arith, few, le)) }

-- calls that lie too deep are those for which no unit is left
no_calls : (s : Surroundings) (index d limit : ℕ) (g : Function) (vs : List JsValue) (wanted : Bool) → limit ≤ 0 → Keeps s limit d (values vs) AnyValue (result wanted) (call index ▹ ε) (call_at true s.home 0 g vs)
no_calls s index d limit g vs wanted none = record {
  by = λ p scratch stack h many few. record {
    cost = 0;
    store = store_of s.fixed p;
    no_fewer = omega (arith, few, none);
    no_more = omega arith;
    by = call_waits s.target index stack (words p.locals ++ scratch) (store_of s.fixed p) (values vs ++ stack);
    seen = refl;
  };
}

pub own_kept : (bound : ℕ) (s : Surroundings) (limit : ℕ) → Known s → limit ≤ bound → OwnKept s limit (call_at true s.home bound)
own_kept zero s limit known le g n is d vs many = no_calls s (length (foreign_calls s.home) + n) d limit g vs (signature_of g).result le
own_kept (suc bound) s limit known le g n is d vs many =
    let room = scratch_of s.home s.heap g in
    let there = inside s g room in
    let knows = known_inside s g room known in
    call_kept s known bound n g is vs many limit d le (all_calls_are_kept there bound (call_at true s.home bound) knows.accepted knows.made (own_kept bound there bound knows (omega arith)))
