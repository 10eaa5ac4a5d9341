-- Each typed statement does what it says, and so do the bodies of functions.
use Rattle.std.proofs.Common.{◌≡◌, ℕ, zero, suc, ◌+◌, ◌≤◌, Bool, true, false, not, List, [], ◌∷◌, length, Option, Some, None, ℤ, is_some, refl, sym, ap, subst, arith}
use Rattle.std.proofs.lemmas.Bool.{and_parts}
use Rattle.std.specs.Prelude.{◌==◌, if◌then◌else◌}
use Rattle.sem_words.specs.declared.js_value.JsValue.{JsValue}
use Rattle.sem_words.specs.declared.js_value.JsValue.TheVariants.{Whole, Undef}
use Rattle.asm_types.specs.Values.{fits_of}
use Rattle.asm_types.proofs.Sound.{wider}
use Rattle.sem_words.specs.JsValues.{truthy_of}
use Rattle.heap_lang.specs.Heap.{IsHeapLength}
use Rattle.asm_types.specs.declared.value_type.ValueType.TheVariants.{Int, Signed}
use Rattle.asm_lang.specs.Modules as text
use Rattle.asm_lang.specs.Modules.{Expr, Stmt, if_only, if_else, returns, while_loop, do_while, for_loop, breaks, continues, labelled, switches, empty, Stmts, no_stmts, stmts, Clauses, no_clauses, clauses}
use Rattle.asm_lang_valid.specs.Scope.{is_in}
use Rattle.asm_lang_valid.specs.Refusal.{has_heap}
use Rattle.asm_lang_valid.specs.Typing as typing
use Rattle.asm_lang_valid.specs.Typing.{Scope, type_of, typed, all_typed, typed_below, is_call, call_fits, effect_fits, condition_fits, part_fits, cases_fit, clauses_typed}
use Rattle.asm_lang_valid.specs.Typed.{scope_of}
use Rattle.asm_lang_exec.specs.Runs.{Place, goes, Part, and_then, gives, defined}
use Rattle.asm_lang_exec.specs.Values.{Calls}
use Rattle.asm_lang_exec.specs.Meaning.{Completion, normal, broken, continued, returned, eval, exec, exec_all, exec_part, exec_test, exec_clauses, turns, do_turns, label_end, switch_end, unless_left, as_whole, is_case, before_case, before_default, has_case, passed_over}
use Rattle.asm_laws_sound.proofs.Members.{Typed}
use Rattle.asm2wasm_translation.specs.Bodies.{clauses_count}
use Rattle.asm_run_code.specs.declared.op.Op.{Op}
use Rattle.asm_run_code.specs.declared.op.Op.TheVariants.{Number, Go, Turn, Again, Give}
use Rattle.asm_run_code.specs.Slots.{get, put}
use Rattle.asm_run_code.specs.Machine.{going}
use Rattle.asm_run_code.specs.Names.{first_free, local}
use Rattle.asm_run_code.specs.Values.{Before, seated, chosen, value}
use Rattle.asm_run_code.specs.Bodies.{Around, a_loop, a_switch, a_named, break_address, continue_address, part, condition, condition_if, looped, start_of, dispatched, switched, stmt, stmts_code, clauses_code}
use Rattle.asm_run_laws.specs.Frames.{Setting, Frame, IsFrame, Ends, state, Standing, Kept, Goes, Does, word, Shown, Seated, Done, OwnDone}
use Rattle.asm_run_laws.specs.Bodies.{LeftAt, Left, Under, Executed}
use Rattle.asm_run_laws.proofs.Slots.{get_same}
use Rattle.asm_run_laws.proofs.Fetched.{fetched, leads_here, leads_once}
use Rattle.asm_run_laws.proofs.Done.{does_from, does_then, does_more, does_onward}
use Rattle.asm_run_laws.proofs.Standing.{kept_here, kept_on, kept_less, kept_same, kept_put, standing_same, standing_put}
use Rattle.asm_run_laws.proofs.Fronts.{ends_on, ends_after, ends_length, value_passes, part_passes, condition_passes, condition_if_passes, dispatched_passes, stmt_passes, stmts_pass, clauses_pass}
use Rattle.asm_run_laws.proofs.Valued.{valued}
use Rattle.asm_run_laws.proofs.Operands.{local_reads, Ready, seated_ready}
use Rattle.asm_run_laws.proofs.Forms.{reads_then, slot_done, test_done, goes_there}
use Rattle.asm_laws_sound.proofs.Expressions.{from_below, from_some}
use Rattle.asm_run_laws.proofs.Evaluated.{Made, condition_word, value_done, call_done}
use Rattle.asm_run_laws.proofs.Dispatched.{dispatched_goes}
use Rattle.asm_run_laws.proofs.Loops.{looping_on, Tests, Stepped, loop_done, do_done}

module _ (s : Setting) (x : Frame) (f : IsFrame s x) (limit : ℕ) (own : Calls) (owned : OwnDone s limit own) (made : Made s) (long : has_heap s.home ≡ true → IsHeapLength s.heap) (ok : Typed s.home) where
  abbrev c : Scope
  c = scope_of s.home x.within

  abbrev does : Expr → Part JsValue
  does e = eval true own c e

  abbrev runs : List (List ℕ) → Stmt → Part Completion
  runs labels t = exec true own c limit labels t

  abbrev Says : (around : List Around) (d : ℕ) → Before → Part Completion → Type 0
  Says around d code part = Executed s x limit d around code part

  -- ---- jumps go forward also from more code

  under_more : (around : List Around) (a b : ℕ) → a ≤ b → Under around a → Under around b
  under_more around a b le u = record { breaks = λ n. let k = u.breaks n in omega (arith, le, k); continues = λ n. let k = u.continues n in omega (arith, le, k) }

  under_named : (around : List Around) (ns : List (List ℕ)) (at : ℕ) → Under around at → Under (a_named ns at ∷ around) at
  under_named around ns at u = record { breaks = breaks_at; continues = u.continues }
    where
      breaks_at : (n : Option (List ℕ)) → break_address (a_named ns at ∷ around) n ≤ at
      breaks_at None = u.breaks None
      breaks_at (Some n) = by (is_in n ns)
        where
          by : (b : Bool) → (if b then at else break_address around (Some n)) ≤ at
          by true = omega arith
          by false = u.breaks (Some n)

  under_loop : (around : List Around) (own' : List (List ℕ)) (next at : ℕ) → at ≤ next → Under around at → Under (a_loop own' next at ∷ around) next
  under_loop around own' next at le u = record { breaks = breaks_at; continues = continues_at }
    where
      breaks_at : (n : Option (List ℕ)) → break_address (a_loop own' next at ∷ around) n ≤ next
      breaks_at None = le
      breaks_at (Some n) = let k = u.breaks (Some n) in omega (arith, le, k)

      continues_at : (n : Option (List ℕ)) → continue_address (a_loop own' next at ∷ around) n ≤ next
      continues_at None = omega arith
      continues_at (Some n) = by (is_in n own')
        where
          by : (b : Bool) → (if b then next else continue_address around (Some n)) ≤ next
          by true = omega arith
          by false = let k = u.continues (Some n) in omega (arith, le, k)

  -- ---- what a statement leaves, seen from before

  left_on : (d d' : ℕ) (around : List Around) (at : ℕ) (old ws : List ℕ) → d ≤ d' → Kept x d old ws → (e : Completion) (q : Place) (here : ℕ) (new : List ℕ) → Left s x d' around at ws e q here new → Left s x d around at old e q here new
  left_on d d' around at old ws le kept e q here new l = record { standing = l.standing; kept = kept_on s x d old ws new kept (kept_less s x d d' ws new le l.kept); there = l.there }

  jump : (d : ℕ) (around : List Around) (to : ℕ) (at : ℕ) (e : Completion) (rest : List Op) (ws : List ℕ) (p : Place) (room : first_free x.within ≤ d) → Ends x.whole (Go to ∷ rest) → to ≤ length rest → LeftAt x around at e to ws → Standing s x ws p
      → Goes s x (Left s x d around at ws) p.units (state x (length (Go to ∷ rest)) ws p) e p
  jump d around to at e rest ws p room ends le there st = record {
    at = to;
    words = ws;
    leads = goes_there s x f limit own d room to rest ws p ends le;
    shown = record { standing = st; kept = kept_here s x d ws; there = there };
    few = omega arith;
  }

  -- ---- one statement after another

  follow : (d : ℕ) (around : List Around) (first more : Before) (one others : Part Completion) → ((rest : List Op) → Ends (first rest) rest) → ((rest : List Op) → Ends (more rest) rest)
      → Says around d first one → Says around d more others → Says around d (λ rest. first (more rest)) (and_then one (λ e. unless_left e others))
  follow d around first more one others passes passes' k l = record {
    by = λ rest ws p ends under st few.
        let tail = more rest in
        let shows = Left s x d around (length rest) ws in
        let ends_tail = ends_on x.whole (first tail) tail ends (passes tail) in
        does_then s x (Left s x d around (length tail) ws) shows p.units (state x (length (first tail)) ws p) (one p) (λ e. unless_left e others)
        (k.by tail ws p ends (under_more around (length rest) (length tail) (ends_length tail rest (passes' rest)) under) st few)
        (λ e q at new run sh le. by rest ws under e q at new sh (l.by rest new q ends_tail under sh.standing (omega (arith, le, few))));
  }
    where
      by : (rest : List Op) (ws : List ℕ) → Under around (length rest) → (e : Completion) (q : Place) (at : ℕ) (new : List ℕ) → Left s x d around (length (more rest)) ws e q at new
          → Does s x (Left s x d around (length rest) new) q.units (state x (length (more rest)) new q) (others q) → Does s x (Left s x d around (length rest) ws) q.units (state x at new q) (unless_left e others q)
      by rest ws under normal q at new sh k =
          subst (λ at. Does s x (Left s x d around (length rest) ws) q.units (state x at new q) (others q)) (sym sh.there)
          (does_more s x (Left s x d around (length rest) new) (Left s x d around (length rest) ws) q.units (state x (length (more rest)) new q) (others q) k
          (λ e r here last run sh'. left_on d d around (length rest) ws new (omega arith) sh.kept e r here last sh'))
      by rest ws under (broken n) q at new sh k = record { at = at; words = new; leads = leads_here s.codes (state x at new q); shown = record { standing = sh.standing; kept = sh.kept; there = sh.there }; few = omega arith }
      by rest ws under (continued n) q at new sh k = record { at = at; words = new; leads = leads_here s.codes (state x at new q); shown = record { standing = sh.standing; kept = sh.kept; there = sh.there }; few = omega arith }
      by rest ws under (returned v) q at new sh k = record { at = at; words = new; leads = leads_here s.codes (state x at new q); shown = record { standing = sh.standing; kept = sh.kept; there = sh.there }; few = omega arith }

  -- an expression whose value isn't used
  plain_done : (d : ℕ) (around : List Around) (e : Expr) → Done s x limit d None (λ more. value c None d e more) (does e) → Says around d (λ rest. value c None d e rest) (and_then (does e) (λ v. gives normal))
  plain_done d around e k = record {
    by = λ rest ws p ends under st few.
        does_then s x (Shown s x d None (length rest) ws) (Left s x d around (length rest) ws) p.units (state x (length (value c None d e rest)) ws p) (does e p) (λ v. gives normal) (k.by rest ws p ends st few)
        (λ v q at new run sh le. record {
          at = at;
          words = new;
          leads = leads_here s.codes (state x at new q);
          shown = record { standing = standing_same s x sh.words new q sh.then_words sh.standing; kept = kept_same s x d ws sh.words new sh.then_words sh.kept; there = sh.there };
          few = omega arith;
        });
  }

  -- `return e`
  return_done : (d : ℕ) (room : first_free x.within ≤ d) (around : List Around) (e : Expr) → Done s x limit d (Some d) (λ more. value c (Some d) d e more) (does e)
      → Says around d (λ rest. seated (local c e) d (λ more. value c (Some d) d e more) (λ a. Give a) rest) (and_then (does e) (λ v. gives (returned v)))
  return_done d room around e k = record {
    by = λ rest ws p ends under st few.
        does_then s x (Ready s x own f d room (λ a. Give a) rest ws) (Left s x d around (length rest) ws) p.units _ (does e p) (λ v. gives (returned v))
        (seated_ready s x own f d room e (local c e) refl limit k (λ a. Give a) rest ws p ends st few)
        (λ v q at new run r le. record {
          at = at;
          words = new;
          leads = leads_here s.codes (state x at new q);
          shown = record { standing = r.standing; kept = r.kept; there = record { slot = r.slot; rest = rest; ends = r.ends; there = r.there; value = r.value } };
          few = omega arith;
        });
  }

  return_none : (d : ℕ) (room : first_free x.within ≤ d) (around : List Around) → Says around d (λ rest. Number d 0 ∷ Give d ∷ rest) (gives (returned Undef))
  return_none d room around = record {
    by = λ rest ws p ends under st few.
        let more : List Op = Give d ∷ rest in
        let new = put ws (x.base + d) 0 in record {
          at = length more;
          words = new;
          leads = leads_once s.codes (state x (length (Number d 0 ∷ more)) ws p) (going (state x (length more) new p)) (fetched s x f (Number d 0) more ws p ends);
          shown = record {
            standing = standing_put s x ws p d 0 room st;
            kept = kept_put s x d ws d 0 (omega arith);
            there = record { slot = d; rest = rest; ends = ends_on x.whole (Number d 0 ∷ more) more ends (ends_after (Number d 0) more); there = refl; value = get_same ws (x.base + d) 0 };
          };
          few = omega arith;
        };
  }

  -- ---- choices

  condition_holds : (e : Expr) → typed_below Int (type_of c e) ≡ true → (v : JsValue) (p q : Place) → does e p ≡ goes v q → truthy_of v ≡ not (word v == 0)
  condition_holds e below v p q run = let b = from_below Int (type_of c e) below in condition_word s x f limit own owned made long ok e b.type b.is below v p q run

  condition_done : (e : Expr) (d : ℕ) → typed_below Int (type_of c e) ≡ true → first_free x.within ≤ d → Done s x limit d (Some d) (λ more. value c (Some d) d e more) (does e)
  condition_done e d below room = let b = from_below Int (type_of c e) below in value_done s x f limit own owned made long ok e (Some d) b.type d b.is room

  effect_done : (e : Expr) (d : ℕ) → effect_fits c e ≡ true → first_free x.within ≤ d → Done s x limit d None (λ more. value c None d e more) (does e)
  effect_done e d h room = by (is_call c e) h
    where
      by : (b : Bool) → (if b then call_fits c false e else is_some (type_of c e)) ≡ true → Done s x limit d None (λ more. value c None d e more) (does e)
      by true h = call_done s x f limit own owned made long ok e None false d h room
      by false h = let t = from_some (type_of c e) h in value_done s x f limit own owned made long ok e None t.0 d t.1 room

  if_done : (d : ℕ) (room : first_free x.within ≤ d) (around : List Around) (e : Expr) (yes_code : Before) (yes_part : Part Completion) → typed_below Int (type_of c e) ≡ true → ((rest : List Op) → Ends (yes_code rest) rest)
      → Says around d yes_code yes_part → Says around d (λ rest. condition c d e (length rest) (yes_code rest)) (and_then (does e) (λ v. if truthy_of v then yes_part else gives normal))
  if_done d room around e yes_code yes_part below passes k = record {
    by = λ rest ws p ends under st few.
        let more = yes_code rest in
        let shows = Left s x d around (length rest) ws in
        test_done s x f limit own d room shows e (length rest) more ws p yes_part (gives normal) (condition_done e d below room) (λ v q run. condition_holds e below v p q run) (ends_length more rest (passes rest)) ends st few
        (λ new q st' kept le.
        does_more s x (Left s x d around (length rest) new) shows q.units (state x (length more) new q) (yes_part q)
        (k.by rest new q (ends_on x.whole (condition c d e (length rest) more) more ends (condition_passes c e d (length rest) more)) under st' (omega (arith, le, few)))
        (λ e' r here last run l. left_on d d around (length rest) ws new (omega arith) kept e' r here last l))
        (λ new q st' kept le. record { at = length rest; words = new; leads = leads_here s.codes (state x (length rest) new q); shown = record { standing = st'; kept = kept; there = refl }; few = omega arith });
  }

  either_done : (d : ℕ) (room : first_free x.within ≤ d) (around : List Around) (e : Expr) (first second : Before) (one other : Part Completion) → typed_below Int (type_of c e) ≡ true
      → ((rest : List Op) → Ends (first rest) rest) → ((rest : List Op) → Ends (second rest) rest) → Says around d first one → Says around d second other
      → Says around d (λ rest. chosen (local c e) d (λ more. value c (Some d) d e more) first (second rest) rest) (and_then (does e) (λ v. if truthy_of v then one else other))
  either_done d room around e first second one other below passes passes' k l = record {
    by = λ rest ws p ends under st few.
        let no_code = second rest in
        let go : List Op = Go (length rest) ∷ no_code in
        let more = first go in
        let shows = Left s x d around (length rest) ws in
        let past = ends_length no_code rest (passes' rest) in
        let ends_more = ends_on x.whole (condition c d e (length no_code) more) more ends (condition_passes c e d (length no_code) more) in
        let ends_go = ends_on x.whole more go ends_more (passes go) in
        let ends_no = ends_on x.whole go no_code ends_go (ends_after (Go (length rest)) no_code) in
        test_done s x f limit own d room shows e (length no_code) more ws p one other (condition_done e d below room) (λ v q run. condition_holds e below v p q run)
        (ends_length more no_code (ends_on more go no_code (passes go) (ends_after (Go (length rest)) no_code))) ends st few
        (λ new q st' kept le.
        does_onward s x (Left s x d around (length go) new) shows q.units (state x (length more) new q) (one q)
        (k.by go new q ends_more (under_more around (length rest) (length go) (omega (arith, past)) under) st' (omega (arith, le, few)))
        (λ e' r here last run sh. past_arm rest no_code ws new last e' r here kept sh ends_go past))
        (λ new q st' kept le.
        does_more s x (Left s x d around (length rest) new) shows q.units (state x (length no_code) new q) (other q) (l.by rest new q ends_no under st' (omega (arith, le, few)))
        (λ e' r here last run sh. left_on d d around (length rest) ws new (omega arith) kept e' r here last sh));
  }
    where
      past_arm : (rest no_code : List Op) (ws new last : List ℕ) (e' : Completion) (r : Place) (here : ℕ) → Kept x d ws new → Left s x d around (length (Go (length rest) ∷ no_code)) new e' r here last → Ends x.whole (Go (length rest) ∷ no_code) → length rest ≤ length no_code
          → Goes s x (Left s x d around (length rest) ws) r.units (state x here last r) e' r
      past_arm rest no_code ws new last normal r here kept sh ends le =
          subst (λ here. Goes s x (Left s x d around (length rest) ws) r.units (state x here last r) normal r) (sym sh.there)
          (record { at = length rest; words = last; leads = goes_there s x f limit own d room (length rest) no_code last r ends le; shown = record { standing = sh.standing; kept = kept_on s x d ws new last kept sh.kept; there = refl }; few = omega arith })
      past_arm rest no_code ws new last (broken n) r here kept sh ends le = record { at = here; words = last; leads = leads_here s.codes (state x here last r); shown = record { standing = sh.standing; kept = kept_on s x d ws new last kept sh.kept; there = sh.there }; few = omega arith }
      past_arm rest no_code ws new last (continued n) r here kept sh ends le = record { at = here; words = last; leads = leads_here s.codes (state x here last r); shown = record { standing = sh.standing; kept = kept_on s x d ws new last kept sh.kept; there = sh.there }; few = omega arith }
      past_arm rest no_code ws new last (returned v) r here kept sh ends le = record { at = here; words = last; leads = leads_here s.codes (state x here last r); shown = record { standing = sh.standing; kept = kept_on s x d ws new last kept sh.kept; there = sh.there }; few = omega arith }

  -- ---- labels

  labelled_done : (d : ℕ) (around : List Around) (ns : List (List ℕ)) (code : (past : ℕ) → Before) (part : Part Completion) → ((past : ℕ) → Says (a_named ns past ∷ around) d (code past) part)
      → Says around d (λ rest. code (length rest) rest) (and_then part (λ e. gives (label_end ns e)))
  labelled_done d around ns code part k = record {
    by = λ rest ws p ends under st few.
        does_then s x (Left s x d (a_named ns (length rest) ∷ around) (length rest) ws) (Left s x d around (length rest) ws) p.units (state x (length (code (length rest) rest)) ws p) (part p) (λ e. gives (label_end ns e))
        ((k (length rest)).by rest ws p ends (under_named around ns (length rest) under) st few)
        (λ e q here new run sh le. by rest ws e q here new sh);
  }
    where
      by : (rest : List Op) (ws : List ℕ) (e : Completion) (q : Place) (here : ℕ) (new : List ℕ) → Left s x d (a_named ns (length rest) ∷ around) (length rest) ws e q here new → Does s x (Left s x d around (length rest) ws) q.units (state x here new q) (gives (label_end ns e) q)
      by rest ws normal q here new sh = record { at = here; words = new; leads = leads_here s.codes (state x here new q); shown = record { standing = sh.standing; kept = sh.kept; there = sh.there }; few = omega arith }
      by rest ws (broken None) q here new sh = record { at = here; words = new; leads = leads_here s.codes (state x here new q); shown = record { standing = sh.standing; kept = sh.kept; there = sh.there }; few = omega arith }
      by rest ws (broken (Some n)) q here new sh = named (is_in n ns) sh.there
        where
          named : (b : Bool) → here ≡ (if b then length rest else break_address around (Some n)) → Does s x (Left s x d around (length rest) ws) q.units (state x here new q) (gives (if b then normal else broken (Some n)) q)
          named true there = record { at = here; words = new; leads = leads_here s.codes (state x here new q); shown = record { standing = sh.standing; kept = sh.kept; there = there }; few = omega arith }
          named false there = record { at = here; words = new; leads = leads_here s.codes (state x here new q); shown = record { standing = sh.standing; kept = sh.kept; there = there }; few = omega arith }
      by rest ws (continued n) q here new sh = record { at = here; words = new; leads = leads_here s.codes (state x here new q); shown = record { standing = sh.standing; kept = sh.kept; there = sh.there }; few = omega arith }
      by rest ws (returned v) q here new sh = record { at = here; words = new; leads = leads_here s.codes (state x here new q); shown = record { standing = sh.standing; kept = sh.kept; there = sh.there }; few = omega arith }

  -- ---- loops

  part_done : (d : ℕ) (room : first_free x.within ≤ d) (z : Option Expr) → part_fits c z ≡ true → (rest : List Op) (ws : List ℕ) (p : Place) → Ends x.whole (part c d z rest) → Standing s x ws p → p.units ≤ limit
      → Does s x (λ (u : Unit {0}) q here new. (Standing s x new q) × (Kept x d ws new) × (here ≡ length rest)) p.units (state x (length (part c d z rest)) ws p) (exec_part true own c limit z p)
  part_done d room None fits rest ws p ends st few = record { at = length rest; words = ws; leads = leads_here s.codes (state x (length rest) ws p); shown = (st, kept_here s x d ws, refl); few = omega arith }
  part_done d room (Some e) fits rest ws p ends st few =
      does_then s x (Shown s x d None (length rest) ws) (λ (u : Unit {0}) q here new. (Standing s x new q) × (Kept x d ws new) × (here ≡ length rest)) p.units (state x (length (value c None d e rest)) ws p) (does e p) (λ v. gives tt)
      ((effect_done e d fits room).by rest ws p ends st few)
      (λ v q at new run sh le. record { at = at; words = new; leads = leads_here s.codes (state x at new q); shown = (standing_same s x sh.words new q sh.then_words sh.standing, kept_same s x d ws sh.words new sh.then_words sh.kept, sh.there); few = omega arith })

  module _ (d : ℕ) (room : first_free x.within ≤ d) (around : List Around) (own' : List (List ℕ)) (body_code : (next past : ℕ) → Before) (body : Part Completion)
      (passes : (next past : ℕ) (rest : List Op) → Ends (body_code next past rest) rest) (bodied : (next past : ℕ) → Says (a_loop own' next past ∷ around) (suc d) (body_code next past) body) where
    inner_room : first_free x.within ≤ suc d
    inner_room = omega (arith, room)

    -- the condition of a loop
    tests_at : (inner rest next : List Op) (old : List ℕ) (e : Expr) (more : List Op) → typed_below Int (type_of c e) ≡ true → length rest ≤ length more → Ends x.whole (condition c (suc d) e (length rest) more)
        → Tests s x f d room limit own' around inner rest next old (length (condition c (suc d) e (length rest) more)) (length more) (does e)
    tests_at inner rest next old e more below le ends ws p a b l first second =
        test_done s x f limit own (suc d) inner_room (Left s x d around (length rest) old) e (length rest) more ws p a b (condition_done e (suc d) below inner_room) (λ v q run. condition_holds e below v p q run) le ends l.standing l.few
        (λ new q st kept fewer. first new q (looping_on s x f d room limit own' around inner rest next old ws new p q l st kept fewer) fewer)
        (λ new q st kept fewer. second new q (looping_on s x f d room limit own' around inner rest next old ws new p q l st kept fewer) fewer)

    for_done : (y z : Option Expr) → condition_fits c y ≡ true → part_fits c z ≡ true
        → Says around d (λ rest. looped c d (λ more. condition_if c (suc d) y (length rest) more) (λ next more. body_code next (length rest) more) (part c (suc d) z (Again d ∷ rest))) (turns own' limit (exec_test true own c limit y) body (exec_part true own c limit z))
    for_done y z fits fits' = record { by = begins }
      where
        begins : (rest : List Op) (ws : List ℕ) (p : Place)
            → let next = part c (suc d) z (Again d ∷ rest) in let inner = condition_if c (suc d) y (length rest) (body_code (length next) (length rest) next) in
            Ends x.whole (Turn d ∷ inner) → Under around (length rest) → Standing s x ws p → p.units ≤ limit
            → Does s x (Left s x d around (length rest) ws) p.units (state x (length (Turn d ∷ inner)) ws p) (turns own' limit (exec_test true own c limit y) body (exec_part true own c limit z) p)
        begins rest ws p ends under st few =
            let next = part c (suc d) z (Again d ∷ rest) in
            let inside = body_code (length next) (length rest) next in
            let inner = condition_if c (suc d) y (length rest) inside in
            let ends_inner = ends_on x.whole (Turn d ∷ inner) inner ends (ends_after (Turn d) inner) in
            let ends_inside = ends_on x.whole inner inside ends_inner (condition_if_passes c y (suc d) (length rest) inside) in
            let ends_next = ends_on x.whole inside next ends_inside (passes (length next) (length rest) next) in
            let next_past = part_passes c z (suc d) (Again d ∷ rest) in
            let ends_again = ends_on x.whole next (Again d ∷ rest) ends_next next_past in
            let behind = ends_length next rest (ends_on next (Again d ∷ rest) rest next_past (ends_after (Again d) rest)) in
            let far = ends_length inside next (passes (length next) (length rest) next) in
            loop_done s x f d room limit own' around inner rest next ws (length inside) (exec_test true own c limit y) body (exec_part true own c limit z) ends_again
            (tests y rest next ws fits (omega (arith, behind, far)) ends_inner)
            (λ ws' p' st' few'. (bodied (length next) (length rest)).by next ws' p' ends_inside (under_loop around own' (length next) (length rest) behind under) st' few')
            (λ ws' p' st' few'. does_more s x (λ (u : Unit {0}) q here new. (Standing s x new q) × (Kept x (suc d) ws' new) × (here ≡ length (Again d ∷ rest))) (Stepped s x f d room limit own' around inner rest next ws ws') p'.units (state x (length next) ws' p') (exec_part true own c limit z p')
            (part_done (suc d) inner_room z fits' (Again d ∷ rest) ws' p' ends_next st' few') (λ u q here new run k. record { standing = k.0; kept = k.1; there = k.2 }))
            limit p ends st few few
          where
            tests : (y : Option Expr) (rest next : List Op) (ws : List ℕ) → condition_fits c y ≡ true
                → let inside = body_code (length next) (length rest) next in let inner = condition_if c (suc d) y (length rest) inside in length rest ≤ length inside → Ends x.whole inner
                → Tests s x f d room limit own' around inner rest next ws (length inner) (length inside) (exec_test true own c limit y)
            tests None rest next ws fits le ends ws' p' a b l first second = first ws' p' l (omega arith)
            tests (Some e) rest next ws fits le ends ws' p' a b l first second =
                tests_at (condition_if c (suc d) (Some e) (length rest) (body_code (length next) (length rest) next)) rest next ws e (body_code (length next) (length rest) next) fits le ends ws' p' a b l first second

    do_while_done : (e : Expr) → typed_below Int (type_of c e) ≡ true
        → Says around d (λ rest. looped c d (λ more. more) (λ next more. body_code next (length rest) more) (condition c (suc d) e (length rest) (Again d ∷ rest))) (do_turns own' limit body (does e))
    do_while_done e below = record {
      by = λ rest ws p ends under st few.
          let next = condition c (suc d) e (length rest) (Again d ∷ rest) in
          let inner = body_code (length next) (length rest) next in
          let ends_inner = ends_on x.whole (Turn d ∷ inner) inner ends (ends_after (Turn d) inner) in
          let ends_next = ends_on x.whole inner next ends_inner (passes (length next) (length rest) next) in
          let next_past = condition_passes c e (suc d) (length rest) (Again d ∷ rest) in
          let ends_again = ends_on x.whole next (Again d ∷ rest) ends_next next_past in
          let behind = ends_length next rest (ends_on next (Again d ∷ rest) rest next_past (ends_after (Again d) rest)) in
          do_done s x f d room limit own' around inner rest next ws (does e) body ends_again
          (λ ws' p' st' few'. (bodied (length next) (length rest)).by next ws' p' ends_inner (under_loop around own' (length next) (length rest) behind under) st' few')
          (tests_at inner rest next ws e (Again d ∷ rest) below (omega arith) ends_next)
          limit p ends st few few;
    }

  -- the first part of a `for`
  before_loop : (d : ℕ) (room : first_free x.within ≤ d) (around : List Around) (i : Option Expr) → part_fits c i ≡ true → (code : Before) (part' : Part Completion) → Says around d code part'
      → Says around d (λ rest. part c d i (code rest)) (and_then (exec_part true own c limit i) (λ u. part'))
  before_loop d room around i fits code part' k = record {
    by = λ rest ws p ends under st few.
        let more = code rest in
        let shows = Left s x d around (length rest) ws in
        does_then s x (λ (u : Unit {0}) q here new. (Standing s x new q) × (Kept x d ws new) × (here ≡ length more)) shows p.units (state x (length (part c d i more)) ws p) (exec_part true own c limit i p) (λ u. part')
        (part_done d room i fits more ws p ends st few)
        (λ u q at new run t le.
        subst (λ at. Does s x shows q.units (state x at new q) (part' q)) (sym t.2)
        (does_more s x (Left s x d around (length rest) new) shows q.units (state x (length more) new q) (part' q) (k.by rest new q (ends_on x.whole (part c d i more) more ends (part_passes c i d more)) under t.0 (omega (arith, le, few)))
        (λ e r here last run' l. left_on d d around (length rest) ws new (omega arith) t.1 e r here last l)));
  }

  -- ---- switches

  abbrev ClausesDo : (d : ℕ) (around : List Around) (cs : Clauses) → Type 0
  ClausesDo d around cs =
      (k : ℕ) → k ≤ clauses_count cs → (rest : List Op) (ws : List ℕ) (p : Place) → Ends x.whole (clauses_code c around d cs rest).code → Under around (length rest) → Standing s x ws p → p.units ≤ limit
      → Does s x (Left s x d around (length rest) ws) p.units (state x (start_of (clauses_code c around d cs rest).starts k) ws p) (exec_clauses true own c limit cs k p)

  over_count : (z : ℤ) (cs : Clauses) → passed_over z cs ≤ clauses_count cs
  over_count z cs = by (has_case z cs)
    where
      first : (cs : Clauses) → before_case z cs ≤ clauses_count cs
      first no_clauses = omega arith
      first (clauses v ss cs) = test (is_case z v) (first cs)
        where
          test : (b : Bool) → before_case z cs ≤ clauses_count cs → (if b then 0 else suc (before_case z cs)) ≤ suc (clauses_count cs)
          test true k = omega arith
          test false k = omega (arith, k)

      default : (cs : Clauses) → before_default cs ≤ clauses_count cs
      default no_clauses = omega arith
      default (clauses None ss cs) = omega arith
      default (clauses (Some v) ss cs) = let k = default cs in omega (arith, k)

      by : (b : Bool) → (if b then before_case z cs else before_default cs) ≤ clauses_count cs
      by true = first cs
      by false = default cs

  starts_many : (cs : Clauses) (around : List Around) (d : ℕ) (rest : List Op) → length (clauses_code c around d cs rest).starts ≡ suc (clauses_count cs)
  unfolding stmt
  starts_many no_clauses around d rest = refl
  starts_many (clauses v ss cs) around d rest = ap suc (starts_many cs around d rest)

  starts_below : (cs : Clauses) (around : List Around) (d : ℕ) (rest : List Op) (k : ℕ) → start_of (clauses_code c around d cs rest).starts k ≤ length (clauses_code c around d cs rest).code
  unfolding stmt
  starts_below no_clauses around d rest zero = omega arith
  starts_below no_clauses around d rest (suc k) = omega arith
  starts_below (clauses v ss cs) around d rest zero = omega arith
  starts_below (clauses v ss cs) around d rest (suc k) =
      let below = starts_below cs around d rest k in
      let more = ends_length (stmts_code c around d ss (clauses_code c around d cs rest).code) (clauses_code c around d cs rest).code (stmts_pass c ss around d (clauses_code c around d cs rest).code) in omega (arith, below, more)

  under_switch : (around : List Around) (at : ℕ) → Under around at → Under (a_switch at ∷ around) at
  under_switch around at u = record { breaks = breaks_at; continues = u.continues }
    where
      breaks_at : (n : Option (List ℕ)) → break_address (a_switch at ∷ around) n ≤ at
      breaks_at None = omega arith
      breaks_at (Some n) = u.breaks (Some n)

  switch_left : (d : ℕ) (around : List Around) (at : ℕ) (old ws : List ℕ) → Kept x d old ws → (e : Completion) (q : Place) (here : ℕ) (new : List ℕ) → Left s x d (a_switch at ∷ around) at ws e q here new
      → Does s x (Left s x d around at old) q.units (state x here new q) (gives (switch_end e) q)
  switch_left d around at old ws kept normal q here new l = record { at = here; words = new; leads = leads_here s.codes (state x here new q); shown = record { standing = l.standing; kept = kept_on s x d old ws new kept l.kept; there = l.there }; few = omega arith }
  switch_left d around at old ws kept (broken None) q here new l = record { at = here; words = new; leads = leads_here s.codes (state x here new q); shown = record { standing = l.standing; kept = kept_on s x d old ws new kept l.kept; there = l.there }; few = omega arith }
  switch_left d around at old ws kept (broken (Some n)) q here new l = record { at = here; words = new; leads = leads_here s.codes (state x here new q); shown = record { standing = l.standing; kept = kept_on s x d old ws new kept l.kept; there = l.there }; few = omega arith }
  switch_left d around at old ws kept (continued n) q here new l = record { at = here; words = new; leads = leads_here s.codes (state x here new q); shown = record { standing = l.standing; kept = kept_on s x d old ws new kept l.kept; there = l.there }; few = omega arith }
  switch_left d around at old ws kept (returned v) q here new l = record { at = here; words = new; leads = leads_here s.codes (state x here new q); shown = record { standing = l.standing; kept = kept_on s x d old ws new kept l.kept; there = l.there }; few = omega arith }

  module _ (d : ℕ) (room : first_free x.within ≤ d) (around : List Around) (e : Expr) (cs : Clauses) (below : typed_below Signed (type_of c e) ≡ true) (fits : cases_fit cs ≡ true)
      (each : (past : ℕ) → ClausesDo d (a_switch past ∷ around) cs) where
    abbrev after_value : JsValue → Part Completion
    after_value v = and_then (defined (as_whole v)) (λ z. and_then (exec_clauses true own c limit cs (passed_over z cs)) (λ e. gives (switch_end e)))

    -- the value is in slot a
    chosen_clause : (rest : List Op) (old ws : List ℕ) (a : ℕ) (q : Place) (v : JsValue) → let placed = clauses_code c (a_switch (length rest) ∷ around) d cs rest in
        Ends x.whole (dispatched cs placed.starts a placed.code) → Under around (length rest) → Standing s x ws q → Kept x d old ws → q.units ≤ limit → fits_of Signed v ≡ true → get ws (x.base + a) ≡ word v
        → Does s x (Left s x d around (length rest) old) q.units (state x (length (dispatched cs placed.starts a placed.code)) ws q) (after_value v q)
    chosen_clause rest old ws a q (Whole z) ends under st kept few fit is =
        let placed = clauses_code c (a_switch (length rest) ∷ around) d cs rest in
        let shows = Left s x d around (length rest) old in
        let inside = Left s x d (a_switch (length rest) ∷ around) (length rest) ws in
        does_then s x inside shows q.units (state x (length (dispatched cs placed.starts a placed.code)) ws q) (exec_clauses true own c limit cs (passed_over z cs) q) (λ e. gives (switch_end e))
        (does_from s x inside q.units q.units (state x (length (dispatched cs placed.starts a placed.code)) ws q) (state x (start_of placed.starts (passed_over z cs)) ws q) (exec_clauses true own c limit cs (passed_over z cs) q)
        (dispatched_goes s x f ws q a z fit is placed.code cs placed.starts (and_parts _ _ (and_parts _ _ fits).0).1 (starts_many cs (a_switch (length rest) ∷ around) d rest) (starts_below cs (a_switch (length rest) ∷ around) d rest) ends)
        (omega arith)
        (each (length rest) (passed_over z cs) (over_count z cs) rest ws q (ends_on x.whole (dispatched cs placed.starts a placed.code) placed.code ends (dispatched_passes c cs placed.starts a placed.code)) (under_switch around (length rest) under) st few))
        (λ e' r here new run l le. switch_left d around (length rest) old ws kept e' r here new l)
    chosen_clause rest old ws a q v ends under st kept few fit is = absurd (cc fit)

    switch_at : (o : Option ℕ) → local c e ≡ o
        → Says around d (λ rest. switched o d (λ more. value c (Some d) d e more) cs (clauses_code c (a_switch (length rest) ∷ around) d cs rest)) (and_then (does e) after_value)
    switch_at (Some y) h = record {
      by = λ rest ws p ends under st few.
          let b = from_below Signed (type_of c e) below in
          reads_then s x f limit own (Left s x d around (length rest) ws) p.units _ p (get ws (x.base + y)) (does e p) after_value (local_reads s x own e y ws p h st)
          (λ v run is. chosen_clause rest ws ws y p v ends under st (kept_here s x d ws) few (wider b.type Signed v b.is_lower (valued own c e b.type v p p b.is run).0) is);
    }
    switch_at None h = record {
      by = λ rest ws p ends under st few.
          let b = from_below Signed (type_of c e) below in
          let placed = clauses_code c (a_switch (length rest) ∷ around) d cs rest in
          let more = dispatched cs placed.starts d placed.code in
          let shows = Left s x d around (length rest) ws in
          does_then s x (Seated s x d d (length more) ws) shows p.units (state x (length (value c (Some d) d e more)) ws p) (does e p) after_value
          (slot_done s x f limit own d room (λ more. value c (Some d) d e more) (does e) (value_done s x f limit own owned made long ok e (Some d) b.type d b.is room) more ws p ends st few)
          (λ v q at new run sh le.
          subst (λ at. Does s x shows q.units (state x at new q) (after_value v q)) (sym sh.there)
          (chosen_clause rest ws new d q v (ends_on x.whole (value c (Some d) d e more) more ends (value_passes c e (Some d) d more)) under sh.standing sh.kept (omega (arith, le, few)) (wider b.type Signed v b.is_lower (valued own c e b.type v p q b.is run).0) sh.value));
    }

  abbrev FirstClauses : (d : ℕ) (around : List Around) (cs : Clauses) → Type 0
  FirstClauses d around cs =
      (rest : List Op) (ws : List ℕ) (p : Place) → Ends x.whole (clauses_code c around d cs rest).code → Under around (length rest) → Standing s x ws p → p.units ≤ limit
      → Does s x (Left s x d around (length rest) ws) p.units (state x (start_of (clauses_code c around d cs rest).starts 0) ws p) (exec_clauses true own c limit cs 0 p)

  start_is : (cs : Clauses) (around : List Around) (d : ℕ) (rest : List Op) → start_of (clauses_code c around d cs rest).starts 0 ≡ length (clauses_code c around d cs rest).code
  unfolding stmt
  start_is no_clauses around d rest = refl
  start_is (clauses v ss cs) around d rest = refl

  -- a clause, and then those after it
  clause_then : (d : ℕ) (around : List Around) (ss : Stmts) (cs : Clauses) → Says around d (λ rest. stmts_code c around d ss rest) (exec_all true own c limit ss) → FirstClauses d around cs
      → (rest : List Op) (ws : List ℕ) (p : Place) → let code = stmts_code c around d ss (clauses_code c around d cs rest).code in Ends x.whole code → Under around (length rest) → Standing s x ws p → p.units ≤ limit
      → Does s x (Left s x d around (length rest) ws) p.units (state x (length code) ws p) (and_then (exec_all true own c limit ss) (λ e. unless_left e (exec_clauses true own c limit cs 0)) p)
  clause_then d around ss cs k l rest ws p ends under st few =
      let tail = (clauses_code c around d cs rest).code in
      let code = stmts_code c around d ss tail in
      let shows = Left s x d around (length rest) ws in
      let past = ends_length tail rest (clauses_pass c cs around d rest) in
      does_then s x (Left s x d around (length tail) ws) shows p.units (state x (length code) ws p) (exec_all true own c limit ss p) (λ e. unless_left e (exec_clauses true own c limit cs 0))
      (k.by tail ws p ends (under_more around (length rest) (length tail) past under) st few)
      (λ e q at new run sh le. by e q at new sh (subst (λ at. Does s x (Left s x d around (length rest) new) q.units (state x at new q) (exec_clauses true own c limit cs 0 q)) (start_is cs around d rest) (l rest new q (ends_on x.whole code tail ends (stmts_pass c ss around d tail)) under sh.standing (omega (arith, le, few)))))
    where
      by : (e : Completion) (q : Place) (at : ℕ) (new : List ℕ) → Left s x d around (length (clauses_code c around d cs rest).code) ws e q at new
          → Does s x (Left s x d around (length rest) new) q.units (state x (length (clauses_code c around d cs rest).code) new q) (exec_clauses true own c limit cs 0 q)
          → Does s x (Left s x d around (length rest) ws) q.units (state x at new q) (unless_left e (exec_clauses true own c limit cs 0) q)
      by normal q at new sh k =
          subst (λ at. Does s x (Left s x d around (length rest) ws) q.units (state x at new q) (exec_clauses true own c limit cs 0 q)) (sym sh.there)
          (does_more s x (Left s x d around (length rest) new) (Left s x d around (length rest) ws) q.units (state x (length (clauses_code c around d cs rest).code) new q) (exec_clauses true own c limit cs 0 q) k
          (λ e r here last run sh'. left_on d d around (length rest) ws new (omega arith) sh.kept e r here last sh'))
      by (broken n) q at new sh k = record { at = at; words = new; leads = leads_here s.codes (state x at new q); shown = record { standing = sh.standing; kept = sh.kept; there = sh.there }; few = omega arith }
      by (continued n) q at new sh k = record { at = at; words = new; leads = leads_here s.codes (state x at new q); shown = record { standing = sh.standing; kept = sh.kept; there = sh.there }; few = omega arith }
      by (returned v) q at new sh k = record { at = at; words = new; leads = leads_here s.codes (state x at new q); shown = record { standing = sh.standing; kept = sh.kept; there = sh.there }; few = omega arith }

  -- ---- statements

  mutual
    unfolding stmt

    pub stmt_done : (t : Stmt) (a : typing.Around) (around : List Around) (own' : List (List ℕ)) (d : ℕ) → typed c a t ≡ true → first_free x.within ≤ d → Says around d (λ rest. stmt c around own' d t rest) (runs own' t)
    stmt_done (text.block ss) a around own' d h room = stmts_done ss a around d h room
    stmt_done (text.plain e) a around own' d h room = plain_done d around e (effect_done e d h room)
    stmt_done empty a around own' d h room = record {
      by = λ rest ws p ends under st few. record { at = length rest; words = ws; leads = leads_here s.codes (state x (length rest) ws p); shown = record { standing = st; kept = kept_here s x d ws; there = refl }; few = omega arith };
    }
    stmt_done (if_only e t) a around own' d h room =
        let p = and_parts _ _ h in if_done d room around e (λ rest. stmt c around [] d t rest) (runs [] t) p.0 (stmt_passes c t around [] d) (stmt_done t a around [] d p.1 room)
    stmt_done (if_else e t r) a around own' d h room =
        let p = and_parts _ _ h in
        let q = and_parts _ _ p.0 in
        either_done d room around e (λ rest. stmt c around [] d t rest) (λ rest. stmt c around [] d r rest) (runs [] t) (runs [] r) q.0 (stmt_passes c t around [] d) (stmt_passes c r around [] d) (stmt_done t a around [] d q.1 room) (stmt_done r a around [] d p.1 room)
    stmt_done (returns None) a around own' d h room = return_none d room around
    stmt_done (returns (Some e)) a around own' d h room =
        let b = from_below Signed (type_of c e) (and_parts _ _ h).1 in return_done d room around e (value_done s x f limit own owned made long ok e (Some d) b.type d b.is room)
    stmt_done (while_loop e t) a around own' d h room =
        let p = and_parts _ _ h in
        for_done d room around own' (λ next past rest. stmt c (a_loop own' next past ∷ around) [] (suc d) t rest) (runs [] t) (λ next past. stmt_passes c t (a_loop own' next past ∷ around) [] (suc d))
        (λ next past. stmt_done t (typing.in_a_loop a) (a_loop own' next past ∷ around) [] (suc d) p.1 (omega (arith, room))) (Some e) None p.0 refl
    stmt_done (do_while t e) a around own' d h room =
        let p = and_parts _ _ h in
        do_while_done d room around own' (λ next past rest. stmt c (a_loop own' next past ∷ around) [] (suc d) t rest) (runs [] t) (λ next past. stmt_passes c t (a_loop own' next past ∷ around) [] (suc d))
        (λ next past. stmt_done t (typing.in_a_loop a) (a_loop own' next past ∷ around) [] (suc d) p.0 (omega (arith, room))) e p.1
    stmt_done (for_loop i y z t) a around own' d h room =
        let p = and_parts _ _ h in
        let q = and_parts _ _ p.0 in
        let r = and_parts _ _ q.0 in
        before_loop d room around i r.0 _ _
        (for_done d room around own' (λ next past rest. stmt c (a_loop own' next past ∷ around) [] (suc d) t rest) (runs [] t) (λ next past. stmt_passes c t (a_loop own' next past ∷ around) [] (suc d))
        (λ next past. stmt_done t (typing.in_a_loop a) (a_loop own' next past ∷ around) [] (suc d) p.1 (omega (arith, room))) y z r.1 q.1)
    stmt_done (breaks n) a around own' d h room = record { by = λ rest ws p ends under st few. jump d around (break_address around n) (length rest) (broken n) rest ws p room ends (under.breaks n) refl st }
    stmt_done (continues n) a around own' d h room = record { by = λ rest ws p ends under st few. jump d around (continue_address around n) (length rest) (continued n) rest ws p room ends (under.continues n) refl st }
    stmt_done (labelled ns t) a around own' d h room =
        let p = and_parts _ _ h in labelled_done d around ns (λ past rest. stmt c (a_named ns past ∷ around) ns d t rest) (runs ns t) (λ past. stmt_done t (typing.under_labels ns t a) (a_named ns past ∷ around) ns d p.1 room)
    stmt_done (switches e cs) a around own' d h room =
        let p = and_parts _ _ h in
        let q = and_parts _ _ p.0 in
        switch_at d room around e cs q.0 q.1 (λ past. clauses_done cs (typing.in_a_switch a) (a_switch past ∷ around) d p.1 room) (local c e) refl

    pub stmts_done : (ss : Stmts) (a : typing.Around) (around : List Around) (d : ℕ) → all_typed c a ss ≡ true → first_free x.within ≤ d → Says around d (λ rest. stmts_code c around d ss rest) (exec_all true own c limit ss)
    stmts_done no_stmts a around d h room = record {
      by = λ rest ws p ends under st few. record { at = length rest; words = ws; leads = leads_here s.codes (state x (length rest) ws p); shown = record { standing = st; kept = kept_here s x d ws; there = refl }; few = omega arith };
    }
    stmts_done (stmts t ss) a around d h room =
        let p = and_parts _ _ h in
        follow d around (λ rest. stmt c around [] d t rest) (λ rest. stmts_code c around d ss rest) (runs [] t) (exec_all true own c limit ss) (stmt_passes c t around [] d) (stmts_pass c ss around d) (stmt_done t a around [] d p.0 room) (stmts_done ss a around d p.1 room)

    clauses_done : (cs : Clauses) (a : typing.Around) (around : List Around) (d : ℕ) → clauses_typed c a cs ≡ true → first_free x.within ≤ d → ClausesDo d around cs
    clauses_done no_clauses a around d h room zero le rest ws p ends under st few = record { at = length rest; words = ws; leads = leads_here s.codes (state x (length rest) ws p); shown = record { standing = st; kept = kept_here s x d ws; there = refl }; few = omega arith }
    clauses_done no_clauses a around d h room (suc k) le rest ws p ends under st few = absurd (omega (arith, le))
    clauses_done (clauses v ss cs) a around d h room zero le rest ws p ends under st few =
        let q = and_parts _ _ h in
        clause_then d around ss cs (stmts_done ss a around d q.0 room) (clauses_done cs a around d q.1 room zero (omega arith)) rest ws p ends under st few
    clauses_done (clauses v ss cs) a around d h room (suc k) le rest ws p ends under st few =
        let q = and_parts _ _ h in
        clauses_done cs a around d q.1 room k (omega (arith, le)) rest ws p (ends_on x.whole (stmts_code c around d ss (clauses_code c around d cs rest).code) (clauses_code c around d cs rest).code ends (stmts_pass c ss around d (clauses_code c around d cs rest).code)) under st few
