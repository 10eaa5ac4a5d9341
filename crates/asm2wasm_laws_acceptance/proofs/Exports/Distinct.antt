-- A function of an accepted module is the first of its name, and its name means it.
use Rattle.std.proofs.Common.{◌≡◌, ℕ, zero, suc, ◌+◌, Bool, true, false, not, List, [], ◌∷◌, ◌++◌, length, map, Some, refl, subst, ◌∙◌}
use Rattle.std.specs.Prelude.{◌||◌, bytes_eq, slice_get}
use Rattle.std.proofs.lemmas.Slice.Eq.{bytes_eq-Decides}
use Rattle.asm_lang.specs.Modules.{Variable, Function, Module}
use Rattle.asm_lang_valid.specs.declared.rule.Rule.TheVariants.{NameTaken, ForbiddenName}
use Rattle.asm_lang_valid.specs.NameRows.{is_forbidden, declares, stmts_names, params_names, locals_names, param_texts, function_names, functions_names, global_texts}
use Rattle.asm_lang_valid.specs.Refusal.{function_number}
use Rattle.asm_lang_valid.specs.Rows.{need, body_at, function_count}
use Rattle.asm_lang_valid.specs.Typed.{scope_of}
use Rattle.asm_lang_valid.specs.Scope.{Meaning, a_function, among_globals, among_functions, among_tables, is_in, module_meaning}

-- ---- lists of rows

pub both_none : {A : Type 0} (xs ys : List A) → xs ++ ys ≡ [] → (xs ≡ []) × (ys ≡ [])
both_none [] ys h = (refl, h)
both_none (x ∷ xs) ys h = absurd (cc h)

new_name : (b : Bool) (at : ℕ) → need (not b) NameTaken at ≡ [] → b ≡ false
new_name true at h = absurd (cc h)
new_name false at h = refl

-- ---- lists of names

either_false : (a b : Bool) → (a || b) ≡ false → (a ≡ false) × (b ≡ false)
either_false true b h = absurd (cc h)
either_false false b h = (refl, h)

pub in_neither : (name : List ℕ) (xs ys : List (List ℕ)) → is_in name (xs ++ ys) ≡ false → (is_in name xs ≡ false) × (is_in name ys ≡ false)
in_neither name [] ys h = (refl, h)
in_neither name (x ∷ xs) ys h =
    let parts = either_false (bytes_eq x name) (is_in name (xs ++ ys)) h in
    let rest = in_neither name xs ys parts.1 in
    (let a = parts.0 in let b = rest.0 in rw (a, b) refl, rest.1)

is_itself : (name : List ℕ) → bytes_eq name name ≡ true
is_itself name = (bytes_eq-Decides name name).1 refl

-- ---- functions

record IsFirst (before : List (List ℕ)) (fs : List Function) (i : ℕ) (f : Function) : Type 0 where
  is_new : is_in f.name before ≡ false
  number : function_number fs f.name ≡ i
  means : (o : Meaning) → among_functions fs f.name o ≡ a_function f

here : (before : List (List ℕ)) (f : Function) (fs : List Function) → is_in f.name before ≡ false → IsFirst before (f ∷ fs) 0 f
here before f fs h = let e = is_itself f.name in record { is_new = h; number = rw e refl; means = λ o. rw e refl }

later : (before : List (List ℕ)) (g : Function) (fs : List Function) (i : ℕ) (f : Function) → IsFirst (before ++ g.name ∷ []) fs i f → IsFirst before (g ∷ fs) (suc i) f
later before g fs i f first =
    let parts = in_neither f.name before (g.name ∷ []) first.is_new in
    let other : bytes_eq g.name f.name ≡ false = (either_false (bytes_eq g.name f.name) false parts.1).0 in
    let number = first.number in
    record {
      is_new = parts.0;
      number = rw (other, number) refl;
      means = λ o. (let means = first.means o in rw (other, means) refl);
    }

is_first : (m : Module) (before : List (List ℕ)) (fs : List Function) (at i : ℕ) (f : Function) → functions_names m before fs at ≡ [] → slice_get fs i ≡ Some f → IsFirst before fs i f
is_first m before [] at i f h is = absurd (cc is)
is_first m before (g ∷ fs) at zero f h is =
    let all = both_none (function_names m before g at) (functions_names m (before ++ g.name ∷ []) fs (at + function_count g)) h in
    let rest = params_names [] g.params (at + 1) ++ (locals_names (param_texts g.params) g.locals (at + 1 + length g.params) ++ stmts_names (scope_of m g) (body_at g at) g.body) in
    let head = (both_none (declares before g.name at) rest all.0).0 in
    let new = new_name (is_in g.name before) at (both_none (need (not (is_in g.name before)) NameTaken at) (need (not (is_forbidden g.name)) ForbiddenName at) head).0 in
    let same : g ≡ f = cc is in
    subst (λ f. IsFirst before (g ∷ fs) 0 f) same (here before g fs new)
is_first m before (g ∷ fs) at (suc i) f h is =
    let all = both_none (function_names m before g at) (functions_names m (before ++ g.name ∷ []) fs (at + function_count g)) h in
    later before g fs i f (is_first m (before ++ g.name ∷ []) fs (at + function_count g) i f all.1 is)

-- ---- the module

past_globals : (m : Module) (vs : List Variable) (name : List ℕ) (o : Meaning) → is_in name (map (λ (v : Variable). v.name) vs) ≡ false → among_globals m vs name o ≡ o
past_globals m [] name o h = refl
past_globals m (v ∷ vs) name o h =
    let parts = either_false (bytes_eq v.name name) (is_in name (map (λ (v : Variable). v.name) vs)) h in
    let other = parts.0 in
    let rest = past_globals m vs name o parts.1 in
    rw (other, rest) refl

pub record IsNamed (m : Module) (i : ℕ) (f : Function) : Type 0 where
  pub number : function_number m.functions f.name ≡ i
  pub means : module_meaning m f.name ≡ a_function f

pub is_named : (m : Module) (at i : ℕ) (f : Function) → functions_names m (m.params ++ global_texts m) m.functions at ≡ [] → slice_get m.functions i ≡ Some f → IsNamed m i f
is_named m at i f none is =
    let first = is_first m (m.params ++ global_texts m) m.functions at i f none is in
    let parts = in_neither f.name m.params (global_texts m) first.is_new in
    let outside = parts.0 in
    let tables = among_tables m.tables f.name in
    record {
      number = first.number;
      means = rw outside (past_globals m m.globals f.name (among_functions m.functions f.name tables) parts.1 ∙ first.means tables);
    }
