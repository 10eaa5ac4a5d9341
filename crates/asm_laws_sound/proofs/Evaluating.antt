-- A typed expression never goes wrong, and its value is one of its type.
use Rattle.std.proofs.Common.{◌≡◌, ℕ, suc, ◌+◌, ◌*◌, ◌≤◌, ◌^◌, Bool, true, false, ◌&&◌, List, [], ◌∷◌, length, Option, Some, None, is_some, ℤ, pos, unsigned_abs, refl, sym, ap, ◌∙◌, subst, arith}
use Rattle.std.proofs.lemmas.Bool.{and_parts, eqb-true, leb-true}
use Rattle.std.specs.Prelude.{if◌then◌else◌}
use Rattle.sem_words.specs.declared.js_value.JsValue.{JsValue}
use Rattle.sem_words.specs.declared.js_value.JsValue.TheVariants.{Whole}
use Rattle.sem_words.specs.declared.js_value.JsOp.{JsOp}
use Rattle.sem_words.specs.declared.js_value.JsOp.TheVariants.{Or}
use Rattle.sem_words.specs.JsValues.{truthy_of}
use Rattle.sem_words.specs.JsOperators.{whole_of, js_binary_of, js_unary_of}
use Rattle.asm_types.specs.declared.value_type.ValueType.{ValueType}
use Rattle.asm_types.specs.declared.value_type.ValueType.TheVariants.{Fixnum, Signed, Int, Intish, Extern}
use Rattle.asm_types.specs.Types.{is_below}
use Rattle.asm_types.specs.Rows.{row, unary_row_of}
use Rattle.asm_types.specs.Values.{fits_of}
use Rattle.asm_types.proofs.Sound.{Gives, wider, from_row, number_of, int_small, binary_gives, unary_sound}
use Rattle.asm_lang.specs.Modules.{Expr, lit, decimal, var, index, call, table_call, assign, store, unary, binary, chain, cond, comma, Exprs, no_exprs, exprs, Links, no_links, links, Function, Module}
use Rattle.asm_lang_valid.specs.declared.meaning.Element.{Element}
use Rattle.asm_lang_valid.specs.Scope.{Meaning, nothing, an_int, an_outside, a_foreign, a_builtin, a_view, a_function, a_table, a_parameter}
use Rattle.asm_lang_valid.specs.Typing.{Scope, named, is_literal, links_length, most_operators, typed_below, is_int, index_fits, operated, exprs_length, is_call, or_zero, builtin_call, callee_fits, table_fits, mask_fits, type_of, all_below, links_fit, call_fits, last_type}
use Rattle.asm_lang_valid.specs.Typed.{scope_of, function_typed}
use Rattle.session_lang.specs.Imports.{ImportAnswer, goes_on, ends}
use Rattle.asm_lang_exec.specs.Runs.{Binding, Place, Part, and_then, defined, read, write, written, value_in, either_value}
use Rattle.asm_lang_exec.specs.Values.{Calls, read_element, write_element, answered, call_import, call_named, entry_of}
use Rattle.asm_lang_exec.specs.Meaning.{eval, eval_all, eval_links, eval_last}
use Rattle.asm_laws_sound.proofs.Names.{Fitting, kinds_of, global_kinds, value_written, int_found, literal_is}
use Rattle.asm_laws_sound.proofs.Both.{Both, Sound, both_goes, sound_then, sound_gives, sound_weaker, sound_if, sound_defined, sound_seen, sound_unseen}
use Rattle.asm_laws_sound.proofs.Members.{Typed, Good, good_name, table_entry}
use Rattle.asm_laws_sound.proofs.Expressions.{from_bind, from_if, from_below, from_some, Valued, known_binary, index_of, given, operated_gives, operands_of, link_gives, Argued, builtin_gives, BuiltinOf, builtin_of, masked_known}

-- the variables of a function and of its module fit their declarations
abbrev pub Inv : Module → Function → List Binding → List Binding → Type 0
Inv m f locals globals = Fitting (kinds_of f) locals × Fitting (global_kinds m.globals) globals

-- calls of typed functions with as many arguments as parameters never go wrong, wherever they stand
abbrev pub SoundCalls : Module → Function → Calls → Calls → Type 0
SoundCalls m f calls calls' = (g : Function) (vs : List JsValue) → function_typed m g ≡ true → length vs ≡ length g.params → Sound (Inv m f) (λ _. Unit {0}) (calls g vs) (calls' g vs)

both_is_intish : (v : JsValue) → fits_of Intish v ≡ true
both_is_intish v = refl

-- `|0` after a call
record ZeroOf (c : Scope) (op : JsOp) (r : Expr) : Type 0 where
  is_or : Or ≡ op
  type : ValueType
  has_type : type_of c r ≡ Some type

zero_typed : (c : Scope) (r : Expr) → is_literal 0 r ≡ true → (s : ValueType) × (type_of c r ≡ Some s)
zero_typed c (lit (pos k)) h = let e : 0 ≡ k = sym (eqb-true k 0 h) in subst (λ k. (s : ValueType) × (type_of c (lit (pos k)) ≡ Some s)) e (Fixnum, refl)
zero_typed c r h = absurd (cc h)

zero_at : (c : Scope) (op : JsOp) (r : Expr) → or_zero op r ≡ true → ZeroOf c op r
zero_at c Or r h = let s = zero_typed c r h in record { is_or = refl; type = s.0; has_type = s.1 }
zero_at c op r h = absurd (cc h)

or_gives : (op : JsOp) (t : ValueType) (v w : JsValue) → Or ≡ op → Signed ≡ t → Gives t (js_binary_of op v w)
or_gives op t v w e h = subst (λ op. Gives t (js_binary_of op v w)) e (subst (λ t. Gives t (js_binary_of Or v w)) h (binary_gives Or v w (λ e. cc e) (refl, refl)))

module _ (m : Module) (ok : Typed m) (f : Function) where
  abbrev c : Scope
  c = scope_of m f

  -- ---- variables, elements and calls

  read_sound : (n : List ℕ) → is_int (named c n) ≡ true → Sound (Inv m f) (λ v. fits_of Int v ≡ true) (read n) (read n)
  read_sound n h = record {
    both = λ p i. let v = int_found m f n p.locals p.globals i.0 i.1 h in (sound_defined {I = Inv m f} {P = λ v. fits_of Int v ≡ true} (record { value = v.value; is = v.is; holds = v.fit })).both p i;
  }

  write_sound : (P : JsValue → Type 0) (n : List ℕ) (v : JsValue) → is_int (named c n) ≡ true → fits_of Int v ≡ true → P v → Sound (Inv m f) P (write n v) (write n v)
  write_sound P n v h fit holds = record { both = λ p i. let old = int_found m f n p.locals p.globals i.0 i.1 h in by p i (value_in p.locals n) (value_in p.globals n) old.value old.is }
    where
      by : (p : Place) → Inv m f p.locals p.globals → (o q : Option JsValue) (old : JsValue) → either_value o q ≡ Some old → Both (Inv m f) P (written o q n v p) (written o q n v p)
      by p i (Some x) q old e = both_goes holds (value_written n v (kinds_of f) p.locals i.0 fit, i.1)
      by p i None (Some x) old e = both_goes holds (i.0, value_written n v (global_kinds m.globals) p.globals i.1 fit)
      by p i None None old e = absurd (cc e)

  read_element_sound : (mm : Meaning) (v : JsValue) (k : Element) (z : ℤ) → mm ≡ a_view k → v ≡ Whole z → Sound (Inv m f) (λ x. fits_of Intish x ≡ true) (read_element mm v) (read_element mm v)
  read_element_sound mm v k z e h = rw (e, h) (record { both = λ p i. both_goes refl i })

  write_element_sound : (P : JsValue → Type 0) (mm : Meaning) (v x : JsValue) (k : Element) (z : ℤ) → mm ≡ a_view k → v ≡ Whole z → P x → Sound (Inv m f) P (write_element mm v x) (write_element mm v x)
  write_element_sound P mm v x k z e h holds = rw (e, h) (record { both = λ p i. both_goes holds i })

  import_sound : (name : List ℕ) (vs : List JsValue) → Sound (Inv m f) (λ _. Unit {0}) (call_import name vs) (call_import name vs)
  import_sound name vs = record { both = λ p i. by p i _ }
    where
      by : (p : Place) → Inv m f p.locals p.globals → (a : ImportAnswer) → Both (Inv m f) (λ _. Unit {0}) (answered a p) (answered a p)
      by p i (ends e) = record { good = tt; same = refl }
      by p i (goes_on g) = both_goes tt i

  as_type : (s t : ValueType) {a a' : Part JsValue} → s ≡ t → Sound (Inv m f) (λ v. fits_of s v ≡ true) a a' → Sound (Inv m f) (λ v. (fits_of t v ≡ true) × Unit {0}) a a'
  as_type s t e h = sound_weaker (λ v g. (subst (λ t. fits_of t v ≡ true) e g, tt)) h

  module _ (calls calls' : Calls) (sound_calls : SoundCalls m f calls calls') where
    abbrev SoundAll : ValueType → Exprs → Type 0
    SoundAll top es = Sound (Inv m f) (Argued top (exprs_length es)) (eval_all false calls c es) (eval_all true calls' c es)

    -- a call of the standard library, whose arguments are ints
    builtin_sound : (es : Exprs) (mm : Meaning) (t : ValueType) (b : BuiltinOf mm (exprs_length es) (all_below c Int es) t) → SoundAll Int es
        → Sound (Inv m f) (λ v. fits_of t v ≡ true) (and_then (eval_all false calls c es) (λ vs. call_named calls mm vs)) (and_then (eval_all true calls' c es) (λ vs. call_named calls' mm vs))
    builtin_sound es mm t b all =
        rw b.is (sound_then all (λ vs g. let r = builtin_gives b.builtin vs (g.0 ∙ b.many) g.1 in sound_defined (record { value = r.value; is = r.is; holds = subst (λ t. fits_of t r.value ≡ true) b.type_is r.fit })))

    -- a call of a function or a foreign function
    named_sound : (es : Exprs) (mm : Meaning) (result : Bool) → Good m mm → callee_fits mm result (exprs_length es) (all_below c Int es) (all_below c Extern es) ≡ true → ((top : ValueType) → all_below c top es ≡ true → SoundAll top es)
        → Sound (Inv m f) (λ _. Unit {0}) (and_then (eval_all false calls c es) (λ vs. call_named calls mm vs)) (and_then (eval_all true calls' c es) (λ vs. call_named calls' mm vs))
    named_sound es (a_function g) result good h all =
        let p = and_parts _ _ h in
        sound_then (all Int p.1) (λ vs a. sound_calls g vs good (a.0 ∙ eqb-true (exprs_length es) (length g.params) (and_parts _ _ p.0).0))
    named_sound es (a_foreign name) result good h all = sound_then (all Extern h) (λ vs a. import_sound name vs)
    named_sound es nothing result good h all = absurd (cc h)
    named_sound es an_int result good h all = absurd (cc h)
    named_sound es an_outside result good h all = absurd (cc h)
    named_sound es (a_builtin b) result good h all = absurd (cc h)
    named_sound es (a_view k) result good h all = absurd (cc h)
    named_sound es (a_table t) result good h all = absurd (cc h)
    named_sound es a_parameter result good h all = absurd (cc h)

    no_builtin : (mm : Meaning) (result : Bool) (count count' : ℕ) (a b d : Bool) → callee_fits mm result count a b ≡ true → builtin_call mm count' d ≡ None
    no_builtin (a_builtin x) result count count' a b d h = absurd (cc h)
    no_builtin mm result count count' a b d h = refl

    -- a call of a table's entry
    table_sound : (i : Expr) (es : Exprs) (mm : Meaning) (result : Bool) (s : ValueType) → Good m mm → table_fits m mm result (exprs_length es) (all_below c Int es) ≡ true → mask_fits mm i ≡ true
        → Sound (Inv m f) (Valued s i) (eval false calls c i) (eval true calls' c i) → (all_below c Int es ≡ true → SoundAll Int es)
        → Sound (Inv m f) (λ _. Unit {0}) (and_then (eval false calls c i) (λ x. and_then (eval_all false calls c es) (λ vs. and_then (defined (entry_of m mm x)) (λ g. calls g vs)))) (and_then (eval true calls' c i) (λ x. and_then (eval_all true calls' c es) (λ vs. and_then (defined (entry_of m mm x)) (λ g. calls' g vs))))
    table_sound i es (a_table t) result s good h mask at all =
        let p = and_parts _ _ h in
        sound_then at (λ x known.
        let j = masked_known i x (length t.members) mask known.1 good.1 in
        let e = table_entry m ok t (exprs_length es) result good.0 p.0 x j.0 j.1 j.2 in
        sound_then (all p.1) (λ vs a. sound_then {P = λ g. (function_typed m g ≡ true) × (exprs_length es ≡ length g.params)} (sound_defined (record { value = e.function; is = e.is; holds = (e.is_typed, e.many) })) (λ g k. sound_calls g vs k.0 (a.0 ∙ k.1))))
    table_sound i es nothing result s good h mask at all = absurd (cc h)
    table_sound i es an_int result s good h mask at all = absurd (cc h)
    table_sound i es an_outside result s good h mask at all = absurd (cc h)
    table_sound i es (a_foreign p) result s good h mask at all = absurd (cc h)
    table_sound i es (a_builtin b) result s good h mask at all = absurd (cc h)
    table_sound i es (a_view k) result s good h mask at all = absurd (cc h)
    table_sound i es (a_function g) result s good h mask at all = absurd (cc h)
    table_sound i es a_parameter result s good h mask at all = absurd (cc h)

    below_as : (top s : ValueType) (e : Expr) {a a' : Part JsValue} → is_below s top ≡ true → Sound (Inv m f) (Valued s e) a a' → Sound (Inv m f) (λ v. fits_of top v ≡ true) a a'
    below_as top s e l h = sound_weaker (λ v g. wider s top v l g.0) h

    -- a call with its `|0`, or an operator on typed operands
    binary_sound_by : (op : JsOp) (l r : Expr) (t : ValueType) (b : Bool) → (is_call c l && or_zero op r) ≡ b → (if b then row (call_fits c true l) Signed else operated op l r (type_of c l) (type_of c r)) ≡ Some t
        → (call_fits c true l ≡ true → Sound (Inv m f) (λ _. Unit {0}) (eval false calls c l) (eval true calls' c l))
        → ((s : ValueType) → type_of c l ≡ Some s → Sound (Inv m f) (Valued s l) (eval false calls c l) (eval true calls' c l))
        → ((s : ValueType) → type_of c r ≡ Some s → Sound (Inv m f) (Valued s r) (eval false calls c r) (eval true calls' c r))
        → Sound (Inv m f) (Valued t (binary op l r)) (and_then (eval false calls c l) (λ v. and_then (eval false calls c r) (λ w. defined (js_binary_of op v w)))) (and_then (eval true calls' c l) (λ v. and_then (eval true calls' c r) (λ w. defined (js_binary_of op v w))))
    binary_sound_by op l r t true e h by_call left right =
        let w = from_row (call_fits c true l) Signed t h in
        let z = zero_at c op r (and_parts _ _ e).1 in
        sound_then (by_call w.0) (λ v _. sound_then (right z.type z.has_type) (λ x k. sound_defined (given t (binary op l r) (js_binary_of op v x) (or_gives op t v x z.is_or w.1) (λ y g. known_binary op r v x y k.1 g))))
    binary_sound_by op l r t false e h by_call left right =
        let o = operands_of op l r (type_of c l) (type_of c r) t h in
        sound_then (left o.left o.left_is) (λ v g. sound_then (right o.right o.right_is) (λ w k. sound_defined (given t (binary op l r) (js_binary_of op v w) (operated_gives op l r o.left o.right t v w o.row_is g k) (λ y e. known_binary op r v w y k.1 e))))

    -- an expression whose value isn't used
    pub effect_sound_by : (e : Expr) (b : Bool) → (if b then call_fits c false e else is_some (type_of c e)) ≡ true
        → (call_fits c false e ≡ true → Sound (Inv m f) (λ _. Unit {0}) (eval false calls c e) (eval true calls' c e))
        → ((s : ValueType) → type_of c e ≡ Some s → Sound (Inv m f) (Valued s e) (eval false calls c e) (eval true calls' c e))
        → Sound (Inv m f) (λ _. Unit {0}) (eval false calls c e) (eval true calls' c e)
    effect_sound_by e true h by_call typed = by_call h
    effect_sound_by e false h by_call typed = let s = from_some (type_of c e) h in sound_weaker (λ v g. tt) (typed s.0 s.1)

    mutual
      pub eval_sound : (e : Expr) (t : ValueType) → type_of c e ≡ Some t → Sound (Inv m f) (Valued t e) (eval false calls c e) (eval true calls' c e)
      eval_sound (lit z) t h = sound_seen (type_of c (lit z)) t h (sound_gives (Whole z) (literal_is z t h, refl))
      eval_sound (decimal bs) t h = absurd (cc h)
      eval_sound (var n) t h =
          let w = from_row (is_int (named c n)) Int t h in sound_seen (type_of c (var n)) t h (as_type Int t w.1 (read_sound n w.0))
      eval_sound (index n i) t h =
          let w = from_row (index_fits (named c n) i (type_of c i)) Intish t h in
          let x = index_of c (named c n) i (type_of c i) refl w.0 in
          sound_seen (type_of c (index n i)) t h (as_type Intish t w.1 (sound_then (eval_sound i x.type x.has_type) (λ v g. let z = x.wholes v g in read_element_sound (named c n) v x.view z.0 x.is_view z.1)))
      eval_sound (call n es) t h =
          let b = builtin_of (named c n) (exprs_length es) (all_below c Int es) t h in
          sound_seen (type_of c (call n es)) t h (as_type t t refl (builtin_sound es (named c n) t b (all_sound es Int b.are_ints)))
      eval_sound (table_call n i es) t h = absurd (cc h)
      eval_sound (assign n e) t h =
          let w = from_if (is_int (named c n) && typed_below Int (type_of c e)) (type_of c e) t h in
          let p = and_parts _ _ w.0 in
          let b : is_below t Int ≡ true = subst (λ o. typed_below Int o ≡ true) w.1 p.1 in
          sound_seen (type_of c (assign n e)) t h (sound_then (eval_sound e t w.1) (λ v g. write_sound (λ v. (fits_of t v ≡ true) × Unit {0}) n v p.0 (wider t Int v b g.0) (g.0, tt)))
      eval_sound (store n i e) t h =
          let w = from_if (index_fits (named c n) i (type_of c i) && typed_below Intish (type_of c e)) (type_of c e) t h in
          let p = and_parts _ _ w.0 in
          let x = index_of c (named c n) i (type_of c i) refl p.0 in
          sound_seen (type_of c (store n i e)) t h (sound_then (eval_sound i x.type x.has_type) (λ v g. let z = x.wholes v g in sound_then (eval_sound e t w.1) (λ u k. write_element_sound (λ v. (fits_of t v ≡ true) × Unit {0}) (named c n) v u x.view z.0 x.is_view z.1 (k.0, tt))))
      eval_sound (unary op e) t h =
          let p = from_bind (λ a. unary_row_of op a) (type_of c e) t h in
          sound_seen (type_of c (unary op e)) t h (sound_then (eval_sound e p.0 p.1) (λ v g. sound_defined (given t (unary op e) (js_unary_of op v) (unary_sound op p.0 t v p.2 g.0) (λ x k. tt))))
      eval_sound (binary op l r) t h = sound_seen (type_of c (binary op l r)) t h (binary_sound_by op l r t (is_call c l && or_zero op r) refl h (call_sound l true) (eval_sound l) (eval_sound r))
      eval_sound (chain e ls) t h =
          let w = from_row _ Intish t h in
          let p = and_parts _ _ w.0 in
          let q = and_parts _ _ p.0 in
          let x = from_below Int (type_of c e) q.0 in
          sound_seen (type_of c (chain e ls)) t h (as_type Intish t w.1 (sound_then (eval_sound e x.type x.is) (λ v g. let n = number_of v (wider x.type Int v x.is_lower g.0) in let small = int_small n.number n.small in let most = leb-true (links_length ls) most_operators p.1 in links_sound ls 1 v n.number n.is (omega (arith, small)) (omega (arith, most)) q.1)))
      eval_sound (cond e a b) t h =
          let w = from_row _ Int t h in
          let p = and_parts _ _ w.0 in
          let q = and_parts _ _ p.0 in
          let x = from_below Int (type_of c e) q.0 in
          let y = from_below Int (type_of c a) q.1 in
          let z = from_below Int (type_of c b) p.1 in
          sound_seen (type_of c (cond e a b)) t h (as_type Int t w.1 (sound_then (eval_sound e x.type x.is) (λ v g. sound_if (truthy_of v) (below_as Int y.type a y.is_lower (eval_sound a y.type y.is)) (below_as Int z.type b z.is_lower (eval_sound b z.type z.is)))))
      eval_sound (comma es) t h = sound_seen (type_of c (comma es)) t h (as_type t t refl (last_sound es t h))

      all_sound : (es : Exprs) (top : ValueType) → all_below c top es ≡ true → SoundAll top es
      all_sound no_exprs top h = sound_gives [] (refl, tt)
      all_sound (exprs e es) top h =
          let p = and_parts _ _ h in
          let x = from_below top (type_of c e) p.0 in
          sound_then (eval_sound e x.type x.is) (λ v g. sound_then (all_sound es top p.1) (λ vs k. sound_gives (v ∷ vs) (ap suc k.0, (wider x.type top v x.is_lower g.0, k.1))))

      last_sound : (es : Exprs) (t : ValueType) → last_type c es ≡ Some t → Sound (Inv m f) (λ v. fits_of t v ≡ true) (eval_last false calls c es) (eval_last true calls' c es)
      last_sound no_exprs t h = absurd (cc h)
      last_sound (exprs e no_exprs) t h = sound_weaker (λ v g. g.0) (eval_sound e t h)
      last_sound (exprs e (exprs x es)) t h =
          let w = from_if (if is_call c e then call_fits c false e else is_some (type_of c e)) (last_type c (exprs x es)) t h in
          sound_then (effect_sound_by e (is_call c e) w.0 (call_sound e false) (eval_sound e)) (λ v g. last_sound (exprs x es) t w.1)

      links_sound : (ls : Links) (k : ℕ) (v : JsValue) (x : ℤ) → whole_of v ≡ Some x → unsigned_abs x ≤ k * 2 ^ 32 → k + links_length ls ≤ 2 ^ 20 + 1 → links_fit c ls ≡ true
          → Sound (Inv m f) (λ v. fits_of Intish v ≡ true) (eval_links false calls c ls v) (eval_links true calls' c ls v)
      links_sound no_links k v x e small most h = sound_gives v refl
      links_sound (links minus a ls) k v x e small most h =
          let p = and_parts _ _ h in
          let y = from_below Int (type_of c a) p.0 in
          sound_then (eval_sound a y.type y.is) (λ w g.
          let s = link_gives minus k v w x e small (omega (arith, most)) (wider y.type Int w y.is_lower g.0) in
          sound_then {P = λ u. u ≡ Whole s.number} (sound_defined (record { value = Whole s.number; is = s.is; holds = refl })) (λ u q. links_sound ls (k + 1) u s.number (ap whole_of q) s.small (omega (arith, most)) p.1))

      pub call_sound : (e : Expr) (result : Bool) → call_fits c result e ≡ true → Sound (Inv m f) (λ _. Unit {0}) (eval false calls c e) (eval true calls' c e)
      call_sound (call n es) result h =
          sound_unseen (no_builtin (named c n) result (exprs_length es) (exprs_length es) (all_below c Int es) (all_below c Extern es) (all_below c Int es) h)
          (named_sound es (named c n) result (good_name m ok f n) h (all_sound es))
      call_sound (table_call n i es) result h =
          let p = and_parts _ _ h in
          let q = and_parts _ _ p.1 in
          let s = from_some (type_of c i) q.0 in
          table_sound i es (named c n) result s.0 (good_name m ok f n) p.0 q.1 (eval_sound i s.0 s.1) (all_sound es Int)
      call_sound e result h = absurd (cc h)
