-- The word that is held, behind the light ones.
use Rattle.std.proofs.Common.{◌≡◌, Bool, true, false, not, ◌&&◌, subst, List, [], ◌∷◌, ◌++◌, Option, Some, None, refl, sym, ap, ◌∙◌, append_assoc, append-nil}
use Rattle.std.specs.Prelude.{if◌then◌else◌, nat_lt, length}
use Rattle.std.proofs.lemmas.Bool.{and_parts}
use Rattle.asm_lang.specs.Modules.{Stmt}
use Rattle.wasm2js_translation.specs.Names.{Name, same_name}
use Rattle.wasm2js_translation.specs.Words.{Term, read, number, both, flip, sum, product, zeros, compare, choose, byte, whole, Simple, put, ask, tell, guard, stop, write_byte, write_whole, Action, simply, either, simple_statement, simple_statements, statements}
use Rattle.wasm2js_translation.specs.Pairs.{simples}
use Rattle.wasm2js_translation.specs.Delays.{Delayed, Late, is_operand, is_light, most_waiting, written, waiting, word_or, number_in, number_at, light, held, takes, taken, late_among, late_either}
use Rattle.wasm2js_translation.specs.Known.{Known, Lean, lean, all_learned}
use Rattle.wasm2js_terms.specs.Waits.{delayed_view, delays_view}
use Rattle.wasm2js_terms.specs.Held.{of_two_view, held_view, all_held, with_held}
use Rattle.wasm2js_terms.specs.declared.atoms.Delayed.{Delayed as Waiting}
use Rattle.wasm2js_terms.specs.declared.held.OfTwo.{OfTwo}
use Rattle.wasm2js_terms.specs.declared.held.OfTwo.TheVariants as twos
use Rattle.wasm2js_terms.specs.declared.held.Held.{Held}
use Rattle.wasm2js_nodes.specs.Names.{name_view}
use Rattle.wasm2js_build.specs.Growing.{State, late_at, grown, after_late, taking, took}
use Rattle.wasm2js_build.proofs.Growing.{followed, lean_joined, lean_written, statements_joined, statements_simples, grew}

-- ---- which words are light

not_light : (t : OfTwo) → is_light (of_two_view t) ≡ false
not_light (twos.Bits op a b) = refl
not_light (twos.Sum a minus b) = refl
not_light (twos.Product a b) = refl
not_light (twos.Compare signed r a b) = refl

no_number : (t : OfTwo) (n : Name) → number_in (of_two_view t) ≡ number_in (read n)
no_number (twos.Bits op a b) n = refl
no_number (twos.Sum a minus b) n = refl
no_number (twos.Product a b) n = refl
no_number (twos.Compare signed r a b) n = refl

lights_and : (ws : List Waiting) (hs : List Delayed) → light (delays_view ws ++ hs) ≡ delays_view ws ++ light hs
lights_and [] hs = refl
lights_and (w ∷ ws) hs =
    ap (λ (b : Bool). if b then delayed_view w ∷ light (delays_view ws ++ hs) else light (delays_view ws ++ hs)) w.light
    ∙ ap (λ (more : List Delayed). delayed_view w ∷ more) (lights_and ws hs)

held_behind : (ws : List Waiting) (hs : List Delayed) → held (delays_view ws ++ hs) ≡ held hs
held_behind [] hs = refl
held_behind (w ∷ ws) hs = ap (λ (b : Bool). if not b then delayed_view w ∷ held (delays_view ws ++ hs) else held (delays_view ws ++ hs)) w.light ∙ held_behind ws hs

light_is : (ws : List Waiting) (o : Option Held) → light (with_held (delays_view ws) o) ≡ delays_view ws
light_is ws None = ap light (sym (append-nil (delays_view ws))) ∙ lights_and ws [] ∙ append-nil (delays_view ws)
light_is ws (Some h) =
    lights_and ws (held_view h ∷ []) ∙ ap (λ (b : Bool). delays_view ws ++ (if b then held_view h ∷ [] else [])) (not_light h.word) ∙ append-nil (delays_view ws)

held_is : (ws : List Waiting) (o : Option Held) → held (with_held (delays_view ws) o) ≡ all_held o
held_is ws None = ap held (sym (append-nil (delays_view ws))) ∙ held_behind ws []
held_is ws (Some h) = held_behind ws (held_view h ∷ []) ∙ ap (λ (b : Bool). if not b then held_view h ∷ [] else []) (not_light h.word)

number_behind : (ws : List Waiting) (h : Held) (n : Name) → number_at (delays_view ws) n ≡ number_at (delays_view ws ++ held_view h ∷ []) n
number_behind [] h n = by (same_name (name_view h.name) n)
  where
    by : (b : Bool) → number_in (read n) ≡ number_in (word_or (if b then Some (of_two_view h.word) else None) n)
    by true = sym (no_number h.word n)
    by false = refl
number_behind (w ∷ ws) h n = by (same_name (delayed_view w).name n) (number_behind ws h n)
  where
    by : (b : Bool) → number_at (delays_view ws) n ≡ number_at (delays_view ws ++ held_view h ∷ []) n
        → number_in (word_or (if b then Some (delayed_view w).word else waiting (delays_view ws) n) n) ≡ number_in (word_or (if b then Some (delayed_view w).word else waiting (delays_view ws ++ held_view h ∷ []) n) n)
    by true e = refl
    by false e = e

-- a word that is held is no number
pub number_is : (ws : List Waiting) (o : Option Held) (n : Name) → number_at (delays_view ws) n ≡ number_at (with_held (delays_view ws) o) n
number_is ws None n = refl
number_is ws (Some h) n = number_behind ws h n

written_and : (ds hs : List Delayed) → simple_statements (written (ds ++ hs)) ≡ simple_statements (written ds) ++ simple_statements (written hs)
written_and [] hs = refl
written_and (d ∷ ds) hs = ap (λ (ss : List Stmt). simple_statement (put d.name d.word) ∷ ss) (written_and ds hs)

-- the light words are written, and then the one that is held
pub all_written : (told mid after : List Stmt) (ds : List Delayed) (o p : Option Held) → mid ≡ told ++ simple_statements (written ds) → p ≡ o → after ≡ mid ++ simple_statements (written (all_held p))
    → after ≡ told ++ simple_statements (written (with_held ds o))
all_written told mid after ds o p first same made =
    made ∙ ap (λ (x : Option Held). mid ++ simple_statements (written (all_held x))) same
    ∙ ap (λ (ss : List Stmt). ss ++ simple_statements (written (all_held o))) first ∙ append_assoc told (simple_statements (written ds)) (simple_statements (written (all_held o)))
    ∙ ap (λ (ss : List Stmt). told ++ ss) (by o)
  where
    by : (x : Option Held) → simple_statements (written ds) ++ simple_statements (written (all_held x)) ≡ simple_statements (written (with_held ds x))
    by None = append-nil (simple_statements (written ds))
    by (Some h) = sym (written_and ds (held_view h ∷ []))

-- ---- behind the word that is held

abbrev after_held : List Delayed → Late → Late
after_held hs l = record { now = simples (written hs) ++ l.now; later = l.later }

lean_behind : (ks : List Known) (hs : List Delayed) (acts : List Action)
    → lean ks (simples (written hs) ++ acts) ≡ record { now = simples (written hs) ++ (lean (all_learned ks (written hs)) acts).now; known = (lean (all_learned ks (written hs)) acts).known }
lean_behind ks hs acts = lean_joined ks (simples (written hs)) acts ∙ ap (λ (l : Lean). followed l (λ js. lean js acts)) (lean_written ks hs)

grown_behind : (told : List Stmt) (ks : List Known) (hs : List Delayed) (l : Late)
    → grown (told ++ simple_statements (written hs)) (all_learned ks (written hs)) l ≡ grown told ks (after_held hs l)
grown_behind told ks hs l =
    let y = lean (all_learned ks (written hs)) l.now in
    ap (λ (ss : List Stmt). late_at ss l.later y.known)
    (append_assoc told (simple_statements (written hs)) (statements y.now)
    ∙ ap (λ (ss : List Stmt). told ++ (ss ++ statements y.now)) (sym (statements_simples (written hs)))
    ∙ ap (λ (ss : List Stmt). told ++ ss) (sym (statements_joined (simples (written hs)) y.now)))
    ∙ ap (λ (m : Lean). late_at (told ++ statements m.now) l.later m.known) (sym (lean_behind ks hs l.now))

-- of the code, which has written what was held
behind_held : (told mid : List Stmt) (ks js : List Known) (hs : List Delayed) (l : Late) → mid ≡ told ++ simple_statements (written hs) → js ≡ all_learned ks (written hs)
    → grown mid js l ≡ grown told ks (after_held hs l)
behind_held told mid ks js hs l made knows =
    ap (λ (ss : List Stmt). grown ss js l) made ∙ ap (λ (k : List Known). grown (told ++ simple_statements (written hs)) k l) knows ∙ grown_behind told ks hs l

-- ---- a step

abbrev step_late : (hs ls : List Delayed) → Simple → Late
step_late hs ls s = if takes hs ls s then taken hs ls s else after_held hs (late_among ls s)

abbrev choice_late : (hs ls : List Delayed) → Term → (first second : List Simple) → Late
choice_late hs ls t first second = after_held hs (late_either ls t first second)

late_split : {X : Type 0} (f : List Delayed → List Delayed → X) (ws : List Waiting) (o : Option Held)
    → f (all_held o) (delays_view ws) ≡ f (held (with_held (delays_view ws) o)) (light (with_held (delays_view ws) o))
late_split f ws o = sym (ap (λ (hs : List Delayed). f hs (light (with_held (delays_view ws) o))) (held_is ws o) ∙ ap (λ (ls : List Delayed). f (all_held o) ls) (light_is ws o))

-- where it takes the word
abbrev taking_if : Bool → Name → Delayed → Option (Name × Delayed)
taking_if b n d = let both : Name × Delayed = (n, d) in if b then Some both else None

none_took : (hs ls : List Delayed) (s : Simple) → taking hs ls s ≡ None → after_held hs (late_among ls s) ≡ step_late hs ls s
none_took [] ls s e = refl
none_took (d ∷ []) ls (put n t) e = by (takes (d ∷ []) ls (put n t)) e
  where
    by : (b : Bool) → taking_if b n d ≡ None → after_held (d ∷ []) (late_among ls (put n t)) ≡ (if b then taken (d ∷ []) ls (put n t) else after_held (d ∷ []) (late_among ls (put n t)))
    by true e = absurd (cc e)
    by false e = refl
none_took (d ∷ []) ls (ask n helper ts) e = refl
none_took (d ∷ []) ls (tell helper ts) e = refl
none_took (d ∷ []) ls (guard t most kind) e = refl
none_took (d ∷ []) ls (stop kind) e = refl
none_took (d ∷ []) ls (write_byte at t) e = refl
none_took (d ∷ []) ls (write_whole at t) e = refl
none_took (d ∷ f ∷ hs) ls s e = refl

one_took : (hs ls : List Delayed) (s : Simple) (n : Name) (d : Delayed) → taking hs ls s ≡ Some (n, d) → took ls n d ≡ step_late hs ls s
one_took [] ls s n d e = absurd (cc e)
one_took (h ∷ []) ls (put m t) n d e = by (takes (h ∷ []) ls (put m t)) e
  where
    by : (b : Bool) → taking_if b m h ≡ Some (n, d) → took ls n d ≡ (if b then taken (h ∷ []) ls (put m t) else after_held (h ∷ []) (late_among ls (put m t)))
    by true e =
        let same : ◌≡◌ {A = Name × Delayed} (m, h) (n, d) = cc e in
        ap (λ (p : Name × Delayed). took ls p.0 p.1) (sym same)
    by false e = absurd (cc e)
one_took (h ∷ []) ls (ask m helper ts) n d e = absurd (cc e)
one_took (h ∷ []) ls (tell helper ts) n d e = absurd (cc e)
one_took (h ∷ []) ls (guard t most kind) n d e = absurd (cc e)
one_took (h ∷ []) ls (stop kind) n d e = absurd (cc e)
one_took (h ∷ []) ls (write_byte at t) n d e = absurd (cc e)
one_took (h ∷ []) ls (write_whole at t) n d e = absurd (cc e)
one_took (h ∷ f ∷ hs) ls s n d e = absurd (cc e)

-- ---- what takes a word is no operand

beside_it : (d : Delayed) (ls : List Delayed) (n : Name) (t : Term) → takes (d ∷ []) ls (put n t) ≡ true → is_operand n ≡ false
beside_it d ls n (read m) e =
    let k = and_parts (same_name d.name m) (not (is_operand n) && nat_lt (length ls) most_waiting) e in
    let l = and_parts (not (is_operand n)) (nat_lt (length ls) most_waiting) k.1 in
    by (is_operand n) l.0
  where
    by : (b : Bool) → not b ≡ true → b ≡ false
    by true f = absurd (cc f)
    by false f = refl
beside_it d ls n (number z) e = absurd (cc e)
beside_it d ls n (both op a b) e = absurd (cc e)
beside_it d ls n (flip a) e = absurd (cc e)
beside_it d ls n (sum a ts) e = absurd (cc e)
beside_it d ls n (product a b) e = absurd (cc e)
beside_it d ls n (zeros a) e = absurd (cc e)
beside_it d ls n (compare signed r a b) e = absurd (cc e)
beside_it d ls n (choose c a b) e = absurd (cc e)
beside_it d ls n (byte signed at) e = absurd (cc e)
beside_it d ls n (whole at) e = absurd (cc e)

pub taker_beside : (ls : List Delayed) (s : Simple) (h d : Delayed) (n : Name) → taking (h ∷ []) ls s ≡ Some (n, d) → is_operand n ≡ false
taker_beside ls (put m t) h d n e = by (takes (h ∷ []) ls (put m t)) refl e
  where
    by : (b : Bool) → takes (h ∷ []) ls (put m t) ≡ b → taking_if b m h ≡ Some (n, d) → is_operand n ≡ false
    by true f g =
        let same : ◌≡◌ {A = Name × Delayed} (m, h) (n, d) = cc g in
        subst (λ (p : Name × Delayed). is_operand p.0 ≡ false) same (beside_it h ls m t f)
    by false f g = absurd (cc g)
taker_beside ls (ask m helper ts) h d n e = absurd (cc e)
taker_beside ls (tell helper ts) h d n e = absurd (cc e)
taker_beside ls (guard t most kind) h d n e = absurd (cc e)
taker_beside ls (stop kind) h d n e = absurd (cc e)
taker_beside ls (write_byte at t) h d n e = absurd (cc e)
taker_beside ls (write_whole at t) h d n e = absurd (cc e)

-- ---- the same of the code, which holds `o` behind `ws`

pub step_behind : (told mid : List Stmt) (ks js : List Known) (ws : List Waiting) (o p : Option Held) (vs : List Delayed) (s : Simple) (x : State) → taking (all_held o) (delays_view ws) s ≡ None → p ≡ o
    → mid ≡ told ++ simple_statements (written (all_held p)) → js ≡ all_learned ks (written (all_held p)) → vs ≡ delays_view ws → x ≡ grown mid js (late_among vs s)
    → x ≡ after_late (late_at told (with_held (delays_view ws) o) ks) (simply s)
step_behind told mid ks js ws o p vs s x none same made knows stays is =
    is ∙ ap (λ (ds : List Delayed). grown mid js (late_among ds s)) stays
    ∙ behind_held told mid ks js (all_held p) (late_among (delays_view ws) s) made knows
    ∙ ap (λ (q : Option Held). grown told ks (after_held (all_held q) (late_among (delays_view ws) s))) same
    ∙ ap (grown told ks) (none_took (all_held o) (delays_view ws) s none ∙ late_split (λ hs ls. step_late hs ls s) ws o)

pub step_takes : (told after : List Stmt) (ks js : List Known) (ws : List Waiting) (o : Option Held) (vs : List Delayed) (s : Simple) (n : Name) (d : Delayed) → taking (all_held o) (delays_view ws) s ≡ Some (n, d)
    → after ≡ told ++ statements (lean ks (took (delays_view ws) n d).now).now → vs ≡ (took (delays_view ws) n d).later → js ≡ (lean ks (took (delays_view ws) n d).now).known
    → late_at after vs js ≡ after_late (late_at told (with_held (delays_view ws) o) ks) (simply s)
step_takes told after ks js ws o vs s n d one made waits knows =
    grew told after vs ks js (took (delays_view ws) n d) made waits knows
    ∙ ap (grown told ks) (one_took (all_held o) (delays_view ws) s n d one ∙ late_split (λ hs ls. step_late hs ls s) ws o)

pub choice_behind : (told mid after : List Stmt) (ks js is : List Known) (ws : List Waiting) (o p : Option Held) (vs us : List Delayed) (t : Term) (first second : List Simple) → p ≡ o
    → mid ≡ told ++ simple_statements (written (all_held p)) → js ≡ all_learned ks (written (all_held p)) → vs ≡ delays_view ws
    → after ≡ mid ++ statements (lean js (late_either vs t first second).now).now → us ≡ (late_either vs t first second).later → is ≡ (lean js (late_either vs t first second).now).known
    → late_at after us is ≡ after_late (late_at told (with_held (delays_view ws) o) ks) (either t first second)
choice_behind told mid after ks js is ws o p vs us t first second same made knows stays after_is us_is is_is =
    grew mid after us js is (late_either vs t first second) after_is us_is is_is
    ∙ ap (λ (ds : List Delayed). grown mid js (late_either ds t first second)) stays
    ∙ behind_held told mid ks js (all_held p) (late_either (delays_view ws) t first second) made knows
    ∙ ap (λ (q : Option Held). grown told ks (choice_late (all_held q) (delays_view ws) t first second)) same
    ∙ ap (grown told ks) (late_split (λ hs ls. choice_late hs ls t first second) ws o)
