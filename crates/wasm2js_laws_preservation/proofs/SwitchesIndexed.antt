-- A branch by an index: the switches come to the branch to its label.
use Rattle.std.proofs.Common.{◌≡◌, ℕ, zero, suc, ◌+◌, ◌-◌, ◌*◌, ◌^◌, ◌<◌, ◌≤◌, List, [], ◌∷◌, length, take, drop, Option, Some, None, pos, refl, sym, ap, ◌∙◌, subst, ⊎_elim, arith}
use Rattle.std.specs.Prelude.{slice_get}
use Rattle.std.specs.Int.Bits.{or_zero_r}
use Rattle.std.proofs.lemmas.List.{length-take, length-drop}
use Rattle.std.proofs.lemmas.Bool.{cases_lt}
use Rattle.sem_words.specs.declared.js_value.JsValue.TheVariants.{Whole}
use Rattle.sem_words.specs.declared.js_value.JsOp.TheVariants.{Or}
use Rattle.sem_words.specs.JsValues.{to_uint32_of}
use Rattle.sem_words.specs.JsOperators.{js_binary_of}
use Rattle.sem_words.specs.Words.{signed_of}
use Rattle.session_lang.specs.Observation.{EventPlain}
use Rattle.wasm_lang_exec.specs.Reductions.{default_to}
use Rattle.asm_lang.specs.Modules.{Stmt, Clauses, no_clauses, clauses, switches}
use Rattle.asm_lang_exec.specs.Runs.{Place, Part, and_then, defined, read}
use Rattle.asm_lang_exec.specs.Meaning.{Completion, as_whole, switch_end, passed_over}
use Rattle.asm_laws_continuation.specs.Following.{Before, exec_to, exec_all_to, exec_clauses_to, unless_left_to}
use Rattle.wasm2js_translation.specs.Names.{numbered, operand_low, spelled}
use Rattle.wasm2js_translation.specs.Words.{stmts_in}
use Rattle.wasm2js_translation.specs.Bodies.{signed_word, most_cases, cases, switches_from}
use Rattle.wasm2js_laws_places.specs.Following.{Rest}
use Rattle.wasm2js_laws_places.specs.Places.{word_at}
use Rattle.wasm2js_laws_actions.proofs.Reading.{read_then}
use Rattle.wasm2js_laws_actions.proofs.Variables.{variable_read}
use Rattle.wasm2js_laws_preservation.specs.ControlControl.{Function, Inside, IsFollowed}
use Rattle.wasm2js_laws_preservation.proofs.InstructionsEnding.{are_words}
use Rattle.wasm2js_laws_preservation.proofs.SwitchesCases.{is_found, chosen, found_runs, none_runs}

-- ---- lists

pub get_taken : (n : ℕ) (ks : List ℕ) (j : ℕ) → j < n → slice_get (take n ks) j ≡ slice_get ks j
get_taken zero ks j h = absurd (omega (arith, h))
get_taken (suc n) [] j h = refl
get_taken (suc n) (k ∷ ks) zero h = refl
get_taken (suc n) (k ∷ ks) (suc j) h = get_taken n ks j (omega (arith, h))

get_dropped : (n : ℕ) (ks : List ℕ) (j : ℕ) → slice_get (drop n ks) j ≡ slice_get ks (n + j)
get_dropped zero ks j = let e : j ≡ 0 + j = omega arith in ap (slice_get ks) e
get_dropped (suc n) [] j = refl
get_dropped (suc n) (k ∷ ks) j = let e : suc (n + j) ≡ suc n + j = omega arith in get_dropped n ks j ∙ ap (slice_get (k ∷ ks)) e

none_there : (ks : List ℕ) (j : ℕ) → slice_get ks j ≡ None → length ks ≤ j
none_there [] j h = omega arith
none_there (k ∷ ks) zero h = absurd (cc h)
none_there (k ∷ ks) (suc j) h = let e = none_there ks j h in omega (arith, e)

-- ---- the switches

module _ (f : Function) (r : Rest) (p : Place) (w : List EventPlain) (most : ℕ) (i : Inside f most w p) (to : ℕ → List Stmt) (depth d : ℕ) (next : Completion → Part (Unit {0})) where
  abbrev x : ℕ
  x = word_at p (numbered operand_low depth)

  small : x < 2 ^ 32
  small = are_words p (numbered operand_low depth)

  -- after a switch
  abbrev after_switch : Before (Unit {0}) Completion → Completion → Part (Unit {0})
  after_switch more e = unless_left_to (switch_end e) more next

  -- the statements of this label, wherever its clause stands
  abbrev Goes : ℕ → Type 0
  Goes k = (others more : Before (Unit {0}) Completion) → IsFollowed f p r (exec_all_to f.calls f.scope f.bound (stmts_in (to k)) (λ e. unless_left_to e others (after_switch more)) p)

  abbrev then_clauses : Clauses → Before (Unit {0}) Completion → Part (Unit {0})
  then_clauses cs more = chosen to x small f.calls f.scope f.bound (after_switch more) cs

  switch_then : (cs : Clauses) (more : Before (Unit {0}) Completion) → IsFollowed f p r (then_clauses cs more p)
      → IsFollowed f p r (exec_to f.calls f.scope f.bound [] (switches (signed_word depth) cs) (λ e. unless_left_to e more next) p)
  switch_then cs more h =
      read_then (IsFollowed f p r) x p (read (spelled (numbered operand_low depth)) p)
      (λ v. and_then (defined (js_binary_of Or v (Whole (pos 0)))) (λ v. and_then (defined (as_whole v)) (λ z. exec_clauses_to f.calls f.scope f.bound cs (passed_over z cs) (after_switch more)))) tt
      (variable_read (numbered operand_low depth) p i.apart)
      (λ v a. subst (λ z. IsFollowed f p r (exec_clauses_to f.calls f.scope f.bound cs (passed_over z cs) (after_switch more) p)) (sym (ap (signed_of 32) (or_zero_r (to_uint32_of v) ∙ a))) h)

  -- a clause of these, or none of them
  of_clause : (j n : ℕ) (ks : List ℕ) (cs : Clauses) (k : ℕ) (more : Before (Unit {0}) Completion) → slice_get ks n ≡ Some k → j + n ≡ x → Goes k → IsFollowed f p r (then_clauses (cases to j ks cs) more p)
  of_clause j n ks cs k more there e goes =
      let g = is_found to x small f.calls f.scope f.bound (after_switch more) j n ks cs k there e in
      subst (λ (part : Part (Unit {0})). IsFollowed f p r (part p)) (sym (found_runs to x small f.calls f.scope f.bound (after_switch more) j ks cs k g)) (goes g.others more)

  of_default : (j : ℕ) (ks : List ℕ) (more : Before (Unit {0}) Completion) → j + length ks ≤ x → Goes d → IsFollowed f p r (then_clauses (cases to j ks (clauses None (stmts_in (to d)) no_clauses)) more p)
  of_default j ks more h goes =
      subst (λ (part : Part (Unit {0})). IsFollowed f p r (part p))
      (sym (none_runs to x small f.calls f.scope f.bound (after_switch more) j ks (clauses None (stmts_in (to d)) no_clauses) h refl)) (goes (exec_clauses_to f.calls f.scope f.bound no_clauses zero) more)

  last_one : (j : ℕ) (ks : List ℕ) (more : Before (Unit {0}) Completion) (o : Option ℕ) → slice_get ks (x - j) ≡ o → j ≤ x → Goes (default_to d o)
      → IsFollowed f p r (then_clauses (cases to j ks (clauses None (stmts_in (to d)) no_clauses)) more p)
  last_one j ks more (Some k) there le goes = of_clause j (x - j) ks (clauses None (stmts_in (to d)) no_clauses) k more there (omega (arith, le)) goes
  last_one j ks more None there le goes = let e = none_there ks (x - j) there in of_default j ks more (omega (arith, e, le)) goes

  abbrev Tables : ℕ → Type 0
  Tables full =
      (j : ℕ) (ks : List ℕ) → j ≤ x → most_cases * full ≤ length ks → Goes (default_to d (slice_get ks (x - j)))
      → IsFollowed f p r (exec_all_to f.calls f.scope f.bound (stmts_in (switches_from to (signed_word depth) full j ks d)) next p)

  further : (full : ℕ) → Tables full → (j : ℕ) (ks : List ℕ) → j + most_cases ≤ x → most_cases * suc full ≤ length ks → Goes (default_to d (slice_get ks (x - j)))
      → IsFollowed f p r (then_clauses (cases to j (take most_cases ks) no_clauses) (exec_all_to f.calls f.scope f.bound (stmts_in (switches_from to (signed_word depth) full (j + most_cases) (drop most_cases ks) d))) p)
  further full tables j ks le room goes =
      let more = exec_all_to f.calls f.scope f.bound (stmts_in (switches_from to (signed_word depth) full (j + most_cases) (drop most_cases ks) d)) in
      let taken = length-take most_cases ks in
      let left = length-drop most_cases ks in
      let same : most_cases + (x - (j + most_cases)) ≡ x - j = omega (arith, le) in
      let there : slice_get ks (x - j) ≡ slice_get (drop most_cases ks) (x - (j + most_cases)) = sym (get_dropped most_cases ks (x - (j + most_cases)) ∙ ap (slice_get ks) same) in
      subst (λ (part : Part (Unit {0})). IsFollowed f p r (part p))
      (sym (none_runs to x small f.calls f.scope f.bound (after_switch more) j (take most_cases ks) no_clauses (omega (arith, le, taken, room)) refl))
      (tables (j + most_cases) (drop most_cases ks) le (omega (arith, left, room)) (subst (λ o. Goes (default_to d o)) there goes))

  nearer : (full : ℕ) (j : ℕ) (ks : List ℕ) (more : Before (Unit {0}) Completion) (o : Option ℕ) → slice_get ks (x - j) ≡ o → j ≤ x → x - j < most_cases → most_cases * suc full ≤ length ks → Goes (default_to d o)
      → IsFollowed f p r (then_clauses (cases to j (take most_cases ks) no_clauses) more p)
  nearer full j ks more (Some k) there le near room goes = of_clause j (x - j) (take most_cases ks) no_clauses k more (get_taken most_cases ks (x - j) near ∙ there) (omega (arith, le)) goes
  nearer full j ks more None there le near room goes = let e = none_there ks (x - j) there in absurd (omega (arith, e, near, room))

  pub tables_followed : (full : ℕ) → Tables full
  tables_followed zero j ks le room goes =
      switch_then (cases to j ks (clauses None (stmts_in (to d)) no_clauses)) (exec_all_to f.calls f.scope f.bound (stmts_in [])) (last_one j ks (exec_all_to f.calls f.scope f.bound (stmts_in [])) (slice_get ks (x - j)) refl le goes)
  tables_followed (suc full) j ks le room goes =
      switch_then (cases to j (take most_cases ks) no_clauses) (exec_all_to f.calls f.scope f.bound (stmts_in (switches_from to (signed_word depth) full (j + most_cases) (drop most_cases ks) d)))
      (⊎_elim (λ near. nearer full j ks (exec_all_to f.calls f.scope f.bound (stmts_in (switches_from to (signed_word depth) full (j + most_cases) (drop most_cases ks) d))) (slice_get ks (x - j)) refl le near room goes)
      (λ far. further full (tables_followed full) j ks (omega (arith, far, le)) room goes) (cases_lt (x - j) most_cases))
