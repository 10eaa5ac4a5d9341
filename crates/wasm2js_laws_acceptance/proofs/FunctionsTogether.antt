-- All functions of a translated module are fine.
use Rattle.std.proofs.Common.{◌≡◌, ℕ, zero, suc, ◌+◌, ◌<◌, ◌≤◌, max, Bool, true, false, List, [], ◌∷◌, ◌++◌, Option, Some, None, refl, sym, ap, ◌∙◌, subst, arith}
use Rattle.std.specs.Prelude.{slice_get, bytes_eq, ◌||◌, ◌==◌, if◌then◌else◌}
use Rattle.std.specs.List.{AllByRecursion, flat_map, range_with_len}
use Rattle.std.proofs.lemmas.Bool.{and_parts}
use Rattle.std.proofs.lemmas.Bool.Decides.{nat_tests}
use Rattle.std.proofs.lemmas.Slice.Eq.{bytes_eq-Decides}
use Rattle.wasm_lang.specs.Modules.{FunctionType, WasmModule}
use Rattle.wasm_lang_exec.specs.Reductions.{Callee, an_import, a_function, callees}
use Rattle.asm_lang.specs.Modules.{Function, Module}
use Rattle.asm_lang.specs.Heights.{functions_height}
use Rattle.asm_laws_print.specs.Fitting.{FitsFunction}
use Rattle.asm_lang_valid.specs.LimitRows as limits
use Rattle.asm_lang_valid.specs.LimitRows.{ForeignCall, Mark, a_row, a_use, stmts_marks}
use Rattle.asm_lang_valid.specs.Typing.{same}
use Rattle.asm_lang_valid.specs.Typed.{scope_of, functions_typed}
use Rattle.wasm2js_translation.specs.Names.{no_entry, other_entry}
use Rattle.wasm2js_laws_terms.specs.Laws.{trap_use}
use Rattle.wasm2js_translation.specs.Modules.{functions_from, function_for, init_function, high_function, helpers, functions_of, translated}
use Rattle.wasm2js_translation.specs.Tables.{MaskedTable, masked, is_needed, is_empty, is_other, stub_function, stubs_for, stubs}
use Rattle.wasm2js_laws_acceptance.specs.FunctionsFunctions.{IsUse, of_trap, high_use, import_use, of_import, import_uses, uses_of, most_height, IsFineFunction, IsSource}
use Rattle.wasm2js_laws_acceptance.specs.FunctionsLaws.{AreProvided, FunctionsAreFine}
use Rattle.wasm2js_laws_acceptance.proofs.FunctionsOwnFunctions.{own_functions_are_fine}
use Rattle.wasm2js_laws_acceptance.proofs.FunctionsWrapping.{first_among, later_among, wrappers_are_fine}
use Rattle.wasm2js_laws_acceptance.proofs.FunctionsStubs.{stubs_are_fine, high_is_fine}
use Rattle.wasm2js_laws_acceptance.proofs.FunctionsHelperBodies.{helpers_are_fine}
use Rattle.wasm2js_laws_acceptance.proofs.FunctionsStarting.{init_is_fine}

-- ---- more foreign calls

same_flag : (a b : Bool) → same a b ≡ true → a ≡ b
same_flag true true h = refl
same_flag true false h = absurd (cc h)
same_flag false true h = absurd (cc h)
same_flag false false h = refl

same_number : (a b : ℕ) → (a == b) ≡ true → a ≡ b
same_number a b h = grind (arith, nat_tests)

pub same_call : (c d : ForeignCall) → limits.is_same c d ≡ true → c ≡ d
same_call c d h =
    let p = and_parts (bytes_eq c.name d.name) _ h in
    let q = and_parts (c.params == d.params) _ p.1 in
    made (c.name) (d.name) c.params d.params c.result d.result ((bytes_eq-Decides c.name d.name).0 p.0) (same_number c.params d.params q.0) (same_flag c.result d.result q.1)
  where
    made : (a b : List ℕ) (m n : ℕ) (s t : Bool) → a ≡ b → m ≡ n → s ≡ t → ◌≡◌ {A = ForeignCall} (record { name = a; params = m; result = s }) (record { name = b; params = n; result = t })
    made a b m n s t e f g =
        ap (λ a. record { name = a; params = m; result = s }) e ∙ ap (λ m. record { name = b; params = m; result = s }) f ∙ ap (λ s. record { name = b; params = n; result = s }) g

abbrev Among : List ForeignCall → List ForeignCall → Type 0
Among us vs = (c : ForeignCall) → limits.is_among c us ≡ true → limits.is_among c vs ≡ true

none_among : (vs : List ForeignCall) → Among [] vs
none_among vs c h = absurd (cc h)

one_among : (u : ForeignCall) (us vs : List ForeignCall) → limits.is_among u vs ≡ true → Among us vs → Among (u ∷ us) vs
one_among u us vs here more c h = by (limits.is_same c u) refl h
  where
    by : (t : Bool) → limits.is_same c u ≡ t → (t || limits.is_among c us) ≡ true → limits.is_among c vs ≡ true
    by true e h = subst (λ c. limits.is_among c vs ≡ true) (sym (same_call c u e)) here
    by false e h = more c h

module _ (m : Module) (us vs : List ForeignCall) (more : Among us vs) where
  wider_mark : (x : Mark) → IsUse us x → IsUse vs x
  wider_mark (a_row row) h = absurd h
  wider_mark (a_use call at) h = more call h

  wider_marks : (ms : List Mark) → AllByRecursion (IsUse us) ms → AllByRecursion (IsUse vs) ms
  wider_marks [] h = tt
  wider_marks (x ∷ ms) h = (wider_mark x h.0, wider_marks ms h.1)

  wider : (f : Function) → IsFineFunction m us f → IsFineFunction m vs f
  wider f h = record {
    is_typed = h.is_typed;
    printed = h.printed;
    low = h.low;
    marks = λ at. wider_marks (stmts_marks (scope_of m f) at f.body) (h.marks at);
    few_params = h.few_params;
    few_variables = h.few_variables;
  }

  all_wider : (fs : List Function) → AllByRecursion (IsFineFunction m us) fs → AllByRecursion (IsFineFunction m vs) fs
  all_wider [] h = tt
  all_wider (f ∷ fs) h = (wider f h.0, all_wider fs h.1)

-- ---- what follows for all of them

module _ (m : Module) (us : List ForeignCall) where
  joined : (fs gs : List Function) → AllByRecursion (IsFineFunction m us) fs → AllByRecursion (IsFineFunction m us) gs → AllByRecursion (IsFineFunction m us) (fs ++ gs)
  joined [] gs h k = k
  joined (f ∷ fs) gs h k = (h.0, joined fs gs h.1 k)

  all_typed : (fs : List Function) → AllByRecursion (IsFineFunction m us) fs → functions_typed m fs ≡ true
  all_typed [] h = refl
  all_typed (f ∷ fs) h = let e = h.0.is_typed in let g = all_typed fs h.1 in rw (e, g) refl

  all_printed : (fs : List Function) → AllByRecursion (IsFineFunction m us) fs → AllByRecursion FitsFunction fs
  all_printed [] h = tt
  all_printed (f ∷ fs) h = (h.0.printed, all_printed fs h.1)

  all_low : (fs : List Function) → AllByRecursion (IsFineFunction m us) fs → functions_height fs ≤ most_height
  all_low [] h = omega arith
  all_low (f ∷ fs) h = two h.0.low (all_low fs h.1)
    where
      two : {a b : ℕ} → a ≤ 999 → b ≤ 999 → max a b ≤ 999
      two p q = omega (arith, p, q)

-- ---- the functions of a translated module

module _ (w : WasmModule) (source : IsSource w) (given : AreProvided w) where
  abbrev Fine : List Function → Type 0
  Fine fs = AllByRecursion (IsFineFunction (translated w) (uses_of w)) fs

  trap_among : Among of_trap (uses_of w)
  trap_among = one_among trap_use [] (uses_of w) (first_among trap_use (high_use ∷ import_uses (callees w))) (none_among (uses_of w))

  import_among : (cs : List (Option Callee)) (k : ℕ) (name : List ℕ) (t : FunctionType) → slice_get cs k ≡ Some (Some (an_import name t)) → limits.is_among (import_use name t) (import_uses cs) ≡ true
  import_among [] k name t h = absurd (cc h)
  import_among (None ∷ cs) zero name t h = absurd (cc h)
  import_among (None ∷ cs) (suc k) name t h = import_among cs k name t h
  import_among (Some (a_function u more code) ∷ cs) zero name t h = absurd (cc h)
  import_among (Some (a_function u more code) ∷ cs) (suc k) name t h = import_among cs k name t h
  import_among (Some (an_import n u) ∷ cs) zero name t h =
      let e : n ≡ name = cc h in
      let f : u ≡ t = cc h in
      subst (λ t. limits.is_among (import_use name t) (import_use n u ∷ import_uses cs) ≡ true) f
      (subst (λ x. limits.is_among (import_use x u) (import_use n u ∷ import_uses cs) ≡ true) e (first_among (import_use n u) (import_uses cs)))
  import_among (Some (an_import n u) ∷ cs) (suc k) name t h = later_among (import_use name t) (import_use n u) (import_uses cs) (import_among cs k name t h)

  imports_among : (k : ℕ) (name : List ℕ) (t : FunctionType) → slice_get (callees w) k ≡ Some (Some (an_import name t)) → Among (of_import name t) (uses_of w)
  imports_among k name t h =
      one_among (import_use name t) (high_use ∷ []) (uses_of w)
      (later_among (import_use name t) trap_use (high_use ∷ import_uses (callees w)) (later_among (import_use name t) high_use (import_uses (callees w)) (import_among (callees w) k name t h)))
      (one_among high_use [] (uses_of w) (later_among high_use trap_use (high_use ∷ import_uses (callees w)) (first_among high_use (import_uses (callees w)))) (none_among (uses_of w)))

  -- ---- those of the source

  function_fine : (k : ℕ) (c : Option Callee) → slice_get (callees w) k ≡ Some c → Fine (function_for w k c)
  function_fine k None h = tt
  function_fine k (Some (an_import name t)) h = (wider (translated w) (of_import name t) (uses_of w) (imports_among k name t h) _ (wrappers_are_fine w k name t source h), tt)
  function_fine k (Some (a_function t more code)) h = (wider (translated w) of_trap (uses_of w) trap_among _ (own_functions_are_fine w k t more code source h (given.own k t more code h)), tt)

  functions_fine : (k : ℕ) (cs : List (Option Callee)) → ((i : ℕ) (c : Option Callee) → slice_get cs i ≡ Some c → slice_get (callees w) (k + i) ≡ Some c) → Fine (functions_from w k cs)
  functions_fine k [] at = tt
  functions_fine k (c ∷ cs) at =
      let none : k + 0 ≡ k = omega arith in
      joined (translated w) (uses_of w) (function_for w k c) _ (function_fine k c (subst (λ n. slice_get (callees w) n ≡ Some c) none (at 0 c refl)))
      (functions_fine (suc k) cs (λ i x e. let next : k + suc i ≡ suc k + i = omega arith in subst (λ n. slice_get (callees w) n ≡ Some x) next (at (suc i) x e)))

  -- ---- stubs

  stub_fine : (ts : List MaskedTable) (stub : ℕ) → stub < 4002 → Fine (stubs_for w ts stub)
  stub_fine ts stub small =
      joined (translated w) (uses_of w) (if is_needed w ts is_empty stub then stub_function no_entry 5 stub ∷ [] else []) _
      (if_needed (is_needed w ts is_empty stub) (wider (translated w) of_trap (uses_of w) trap_among _ (stubs_are_fine w no_entry 5 stub (omega arith) small)))
      (if_needed (is_needed w ts is_other stub) (wider (translated w) of_trap (uses_of w) trap_among _ (stubs_are_fine w other_entry 6 stub (omega arith) small)))
    where
      if_needed : {f : Function} (b : Bool) → IsFineFunction (translated w) (uses_of w) f → Fine (if b then f ∷ [] else [])
      if_needed true h = (h, tt)
      if_needed false h = tt

  stubs_fine : (ts : List MaskedTable) (a n : ℕ) → a + n ≤ 4002 → Fine (flat_map (stubs_for w ts) (range_with_len a n))
  stubs_fine ts a zero h = tt
  stubs_fine ts a (suc n) h = joined (translated w) (uses_of w) (stubs_for w ts a) _ (stub_fine ts a (omega (arith, h))) (stubs_fine ts (a + 1) n (omega (arith, h)))

  -- ---- all

  fine : Fine (functions_of w)
  fine =
      let narrow = all_wider (translated w) of_trap (uses_of w) trap_among in
      joined (translated w) (uses_of w) (helpers w ++ functions_from w 0 (callees w) ++ stubs w) _
      (joined (translated w) (uses_of w) (helpers w ++ functions_from w 0 (callees w)) (stubs w)
      (joined (translated w) (uses_of w) (helpers w) (functions_from w 0 (callees w)) (narrow (helpers w) (helpers_are_fine w source))
      (functions_fine 0 (callees w) (λ i c e. let none : i ≡ 0 + i = omega arith in subst (λ n. slice_get (callees w) n ≡ Some c) none e)))
      (stubs_fine (masked w) 0 4002 (omega arith)))
      (narrow (init_function w ∷ high_function ∷ []) (init_is_fine w source given.init, (high_is_fine w, tt)))

pub functions_are_fine : FunctionsAreFine
functions_are_fine w source given =
    let all = fine w source given in
    record {
      each = all;
      are_typed = all_typed (translated w) (uses_of w) (functions_of w) all;
      printed = all_printed (translated w) (uses_of w) (functions_of w) all;
      low = all_low (translated w) (uses_of w) (functions_of w) all;
    }
