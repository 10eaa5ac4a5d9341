-- The variables of a function: the source's parameters and locals, and operands.
use Rattle.std.proofs.Common.{◌≡◌, ℕ, zero, suc, ◌+◌, ◌<◌, ◌≤◌, Bool, true, false, List, [], ◌∷◌, ◌++◌, map, length, Some, inl, inr, refl, sym, ◌∙◌, subst, arith}
use Rattle.std.specs.Prelude.{slice_get, nat_lt, ◌==◌, if◌then◌else◌}
use Rattle.std.specs.List.{list_all, list_any, flat_map, range_with_len}
use Rattle.std.proofs.lemmas.Bool.{and_parts}
use Rattle.std.proofs.lemmas.Bool.Decides.{nat_tests}
use Rattle.wasm_lang.specs.declared.types.ValType.{ValType}
use Rattle.wasm_lang.specs.declared.types.ValType.TheVariants.{I32, I64}
use Rattle.asm_lang.specs.Modules.{Stmt, Module}
use Rattle.asm_lang_valid.specs.Scope.{among_locals, module_meaning}
use Rattle.asm_lang_valid.specs.Typing.{named}
use Rattle.asm_lang_valid.specs.Typed.{scope_of}
use Rattle.wasm2js_translation.specs.Names.{Name, spelled}
use Rattle.wasm2js_laws_terms.specs.Sound.{IsInt}
use Rattle.wasm2js_translation.specs.Pairs.{local_pair, operand_pair, names_of}
use Rattle.wasm2js_translation.specs.Helpers.{zero_variable, function_of}
use Rattle.wasm2js_translation.specs.Modules.{param_names}
use Rattle.wasm2js_translation.specs.Rooms.{local_names, operand_names, declared_names}
use Rattle.wasm2js_laws_scopes.specs.Provided.{AreInts, IsNamed}
use Rattle.wasm2js_laws_scopes.specs.Laws.{is_own, RoomIsDeclared, ModuleNamesAreSeen, VariablesAreOwn}
use Rattle.wasm2js_laws_scopes.proofs.Among.{Among, in_left, in_right, AllAmong, all_left, all_right, all_themselves, past_params, param_found, local_found, no_param, no_local}

-- ---- operands

low_among : (wide d : ℕ) → Among (operand_pair d).low (operand_names wide d)
low_among wide d = by (nat_lt d wide) refl
  where
    by : (t : Bool) → nat_lt d wide ≡ t → Among (operand_pair d).low (operand_names wide d)
    by true e = rw e (inl refl)
    by false e = rw e (inl refl)

high_among : (wide d : ℕ) → d < wide → Among (operand_pair d).high (operand_names wide d)
high_among wide d h = let e : nat_lt d wide ≡ true = grind (arith, nat_tests) in rw e (inr (inl refl))

operand_among : (wide a n d : ℕ) (x : Name) → Among x (operand_names wide d) → a ≤ d → d < a + n → Among x (flat_map (operand_names wide) (range_with_len a n))
operand_among wide a zero d x h le lt = absurd (omega (arith, le, lt))
operand_among wide a (suc n) d x h le lt = by (a == d) refl (λ e. operand_among wide (a + 1) n d x h (later e) (omega (arith, lt)))
  where
    same : (a == d) ≡ true → a ≡ d
    same e = grind (arith, nat_tests)

    later : (a == d) ≡ false → a + 1 ≤ d
    later e = grind (arith, nat_tests)

    by : (t : Bool) → (a == d) ≡ t → ((a == d) ≡ false → Among x (flat_map (operand_names wide) (range_with_len (a + 1) n))) → Among x (flat_map (operand_names wide) (range_with_len a (suc n)))
    by true e further = in_left x (operand_names wide a) _ (subst (λ d. Among x (operand_names wide d)) (sym (same e)) h)
    by false e further = in_right x (operand_names wide a) _ (further e)

-- ---- the source's parameters and locals

if_named : (b : Bool) (ns ms : List Name) → b ≡ true → AllAmong ns ((if b then ns else []) ++ ms)
if_named b ns ms e = rw e (all_left ns ns ms (all_themselves ns))

local_among : (named : List ℕ) (k x : ℕ) (ts : List ValType) (t : ValType) → slice_get ts x ≡ Some t → IsNamed (k + x) named → AllAmong (names_of t (local_pair (k + x))) (local_names named k ts)
local_among named k x [] t e h = absurd (cc e)
local_among named k zero (u ∷ ts) t e h =
    let same : u ≡ t = cc e in
    let none : k + 0 ≡ k = omega arith in
    subst (λ x. IsNamed x named → AllAmong (names_of t (local_pair x)) (local_names named k (u ∷ ts))) (sym none)
    (λ h. subst (λ t. AllAmong (names_of t (local_pair k)) (local_names named k (u ∷ ts))) same (if_named (list_any (λ y. k == y) named) (names_of u (local_pair k)) (local_names named (suc k) ts) h)) h
local_among named k (suc x) (u ∷ ts) t e h =
    let next : k + suc x ≡ suc k + x = omega arith in
    subst (λ x. AllAmong (names_of t (local_pair x)) (local_names named k (u ∷ ts))) (sym next)
    (all_right _ (if list_any (λ y. k == y) named then names_of u (local_pair k) else []) _ (local_among named (suc k) x ts t e (subst (λ x. IsNamed x named) next h)))

variable_among : (named : List ℕ) (k x : ℕ) (ps more : List ValType) (t : ValType) → slice_get (ps ++ more) x ≡ Some t → IsNamed (k + x) named
    → AllAmong (names_of t (local_pair (k + x))) (param_names k ps ++ local_names named (k + length ps) more)
variable_among named k x [] more t e h =
    let none : k + 0 ≡ k = omega arith in
    subst (λ j. AllAmong (names_of t (local_pair (k + x))) (local_names named j more)) (sym none) (local_among named k x more t e h)
variable_among named k zero (u ∷ ps) more t e h =
    let same : u ≡ t = cc e in
    let none : k + 0 ≡ k = omega arith in
    subst (λ x. AllAmong (names_of t (local_pair x)) ((names_of u (local_pair k) ++ param_names (suc k) ps) ++ local_names named (k + suc (length ps)) more)) (sym none)
    (subst (λ t. AllAmong (names_of t (local_pair k)) ((names_of u (local_pair k) ++ param_names (suc k) ps) ++ local_names named (k + suc (length ps)) more)) same
    (all_left _ (names_of u (local_pair k) ++ param_names (suc k) ps) _ (all_left _ (names_of u (local_pair k)) _ (all_themselves (names_of u (local_pair k))))))
variable_among named k (suc x) (u ∷ ps) more t e h =
    let next : k + suc x ≡ suc k + x = omega arith in
    let count : k + suc (length ps) ≡ suc k + length ps = omega arith in
    subst (λ x. AllAmong (names_of t (local_pair x)) ((names_of u (local_pair k) ++ param_names (suc k) ps) ++ local_names named (k + suc (length ps)) more)) (sym next)
    (subst (λ j. AllAmong (names_of t (local_pair (suc k + x))) ((names_of u (local_pair k) ++ param_names (suc k) ps) ++ local_names named j more)) (sym count)
    (reassociated (names_of t (local_pair (suc k + x))) (names_of u (local_pair k)) (param_names (suc k) ps) (local_names named (suc k + length ps) more)
    (variable_among named (suc k) x ps more t e (subst (λ x. IsNamed x named) next h))))
  where
    regrouped : (n : Name) (a b c : List Name) → Among n (b ++ c) → Among n ((a ++ b) ++ c)
    regrouped n [] b c h = h
    regrouped n (x ∷ a) b c h = inr (regrouped n a b c h)

    reassociated : (ns a b c : List Name) → AllAmong ns (b ++ c) → AllAmong ns ((a ++ b) ++ c)
    reassociated [] a b c h = tt
    reassociated (n ∷ ns) a b c h = (regrouped n a b c h.0, reassociated ns a b c h.1)

-- ---- in the scope of the function

module _ (m : Module) (name : Name) (ps ls : List Name) (ss : List Stmt) where
  among_locals_int : (n : Name) → Among n ls → IsInt (scope_of m (function_of name ps ls ss)) n
  among_locals_int n h = past_params ps (spelled n) (among_locals (map zero_variable ls) (spelled n) (module_meaning m (spelled n))) (local_found ls n (module_meaning m (spelled n)) h)

  among_all_int : (qs ms : List Name) → ((n : Name) → Among n qs → Among n ps) → ((n : Name) → Among n ms → Among n ls) → (n : Name) → Among n (qs ++ ms) → IsInt (scope_of m (function_of name ps ls ss)) n
  among_all_int [] ms f g n h = among_locals_int n (g n h)
  among_all_int (q ∷ qs) ms f g n (inl e) = param_found ps n (among_locals (map zero_variable ls) (spelled n) (module_meaning m (spelled n))) (f n (inl e))
  among_all_int (q ∷ qs) ms f g n (inr h) = among_all_int qs ms (λ n h. f n (inr h)) g n h

  all_ints : (qs ms ns : List Name) → ((n : Name) → Among n qs → Among n ps) → ((n : Name) → Among n ms → Among n ls) → AllAmong ns (qs ++ ms) → AreInts (scope_of m (function_of name ps ls ss)) ns
  all_ints qs ms [] f g h = tt
  all_ints qs ms (n ∷ ns) f g h = (among_all_int qs ms f g n h.0, all_ints qs ms ns f g h.1)

pub room_is_declared : RoomIsDeclared
room_is_declared m name c params more r ss is narrow = record {
  operands = λ d h.
      among_locals_int m name ps ls ss (operand_pair d).low
      (in_right (operand_pair d).low (local_names r.locals (length params) more) _ (operand_among r.wide_height 0 r.height d (operand_pair d).low (low_among r.wide_height d) (omega arith) (omega (arith, h))));
  high_words = λ d h.
      among_locals_int m name ps ls ss (operand_pair d).high
      (in_right (operand_pair d).high (local_names r.locals (length params) more) _ (operand_among r.wide_height 0 r.height d (operand_pair d).high (high_among r.wide_height d h) (omega arith) (omega (arith, h, narrow))));
  locals = λ x t h e.
      let none : 0 + x ≡ x = omega arith in
      let count : 0 + length params ≡ length params = omega arith in
      all_ints m name ps ls ss (param_names 0 params) (local_names r.locals (length params) more) (names_of t (local_pair x)) (λ n h. h) (λ n h. in_left n (local_names r.locals (length params) more) _ h)
      (subst (λ j. AllAmong (names_of t (local_pair x)) (param_names 0 params ++ local_names r.locals j more)) count
      (subst (λ y. AllAmong (names_of t (local_pair y)) (param_names 0 params ++ local_names r.locals (0 + length params) more)) none
      (variable_among r.locals 0 x params more t (subst (λ ts. slice_get ts x ≡ Some t) is e) (subst (λ y. IsNamed y r.locals) (sym none) h))));
}
  where
    ps : List Name
    ps = param_names 0 params

    ls : List Name
    ls = declared_names r (length params) more

pub module_names_are_seen : ModuleNamesAreSeen
module_names_are_seen m name ps ls ss n p l k =
    no_param ps n (among_locals (map zero_variable ls) (spelled n) (module_meaning m (spelled n))) p k ∙ no_local ls n (module_meaning m (spelled n)) l k

-- ---- they are all a function's own

all_of_both : (xs ys : List Name) → list_all is_own xs ≡ true → list_all is_own ys ≡ true → list_all is_own (xs ++ ys) ≡ true
all_of_both [] ys h k = k
all_of_both (x ∷ xs) ys h k =
    let a = and_parts (is_own x) (list_all is_own xs) h in
    let e = a.0 in
    rw e (all_of_both xs ys a.1 k)

local_own : (t : ValType) (x : ℕ) → list_all is_own (names_of t (local_pair x)) ≡ true
local_own I32 x = refl
local_own I64 x = refl

operand_own : (t : ValType) (x : ℕ) → list_all is_own (names_of t (operand_pair x)) ≡ true
operand_own I32 x = refl
operand_own I64 x = refl

params_own : (k : ℕ) (ts : List ValType) → list_all is_own (param_names k ts) ≡ true
params_own k [] = refl
params_own k (t ∷ ts) = all_of_both (names_of t (local_pair k)) (param_names (suc k) ts) (local_own t k) (params_own (suc k) ts)

if_own : (b : Bool) (ns : List Name) → list_all is_own ns ≡ true → list_all is_own (if b then ns else []) ≡ true
if_own true ns h = h
if_own false ns h = refl

locals_own : (named : List ℕ) (k : ℕ) (ts : List ValType) → list_all is_own (local_names named k ts) ≡ true
locals_own named k [] = refl
locals_own named k (t ∷ ts) =
    all_of_both (if list_any (λ y. k == y) named then names_of t (local_pair k) else []) (local_names named (suc k) ts)
    (if_own (list_any (λ y. k == y) named) (names_of t (local_pair k)) (local_own t k)) (locals_own named (suc k) ts)

operands_own : (wide a n : ℕ) → list_all is_own (flat_map (operand_names wide) (range_with_len a n)) ≡ true
operands_own wide a zero = refl
operands_own wide a (suc n) = all_of_both (operand_names wide a) (flat_map (operand_names wide) (range_with_len (a + 1) n)) (operand_own (if nat_lt a wide then I64 else I32) a) (operands_own wide (a + 1) n)

pub variables_are_own : VariablesAreOwn
variables_are_own params more r =
    (params_own 0 params, all_of_both (local_names r.locals (length params) more) _ (locals_own r.locals (length params) more) (operands_own r.wide_height 0 r.height))
