-- No row of a limit is met.
use Rattle.std.proofs.Common.{◌≡◌, ℕ, suc, ◌+◌, ◌≤◌, ◌<◌, Bool, true, false, ◌&&◌, List, [], ◌∷◌, ◌++◌, length, refl, sym, ap, ◌∙◌, subst, arith, length-append}
use Rattle.std.specs.Prelude.{nat_lt, nat_le, ◌||◌, if◌then◌else◌}
use Rattle.std.specs.List.{AllByRecursion}
use Rattle.std.proofs.lemmas.Bool.Decides.{nat_tests}
use Rattle.std.proofs.lemmas.Slice.Eq.{bytes_eq-Decides}
use Rattle.asm_lang.specs.Modules.{Variable, Function, Table, Module}
use Rattle.asm_lang_valid.specs.declared.rule.Rule.{Rule}
use Rattle.asm_lang_valid.specs.declared.rule.Rule.TheVariants.{PastLimit}
use Rattle.asm_lang_valid.specs.Rows.{need, body_at, function_count, functions_at, tables_at}
use Rattle.asm_lang_valid.specs.LimitRows.{ForeignCall, Mark, a_row, a_use, rows_of, is_same, is_among, rows_after, counted, member_length, globals_marks, names_marks, function_marks, functions_marks, tables_marks, marks, most_functions, most_globals, most_foreign_calls}
use Rattle.wasm2js_laws_terms.proofs.FineActions.{equal_self, same_self}
use Rattle.wasm2js_translation.specs.Modules.{functions_of, variables_of, translated}
use Rattle.wasm2js_translation.specs.Tables.{tables_for}
use Rattle.wasm2js_laws_acceptance.specs.FunctionsFunctions.{IsUse, IsFineFunction, uses_of}
use Rattle.wasm2js_laws_acceptance.proofs.FunctionsLimited.{limited}
use Rattle.wasm2js_laws_acceptance.proofs.FunctionsReturning.{uses_join}
use Rattle.wasm2js_laws_acceptance.proofs.FunctionsTogether.{same_call}
use Rattle.wasm2js_laws_acceptance.specs.LimitsLaws.{member_count, CountsAreFew, LimitsHold}
use Rattle.wasm2js_laws_acceptance.proofs.LimitsCounting.{variables_few, all_functions_few, all_uses_few}
use Rattle.wasm2js_laws_acceptance.proofs.LimitsEntering.{members_short, entries_few}
use Rattle.wasm2js_laws_acceptance.proofs.LimitsNaming.{names_are_short}

-- ---- calls that are all among few

is_same_call : (c : ForeignCall) → is_same c c ≡ true
is_same_call c = let e = (bytes_eq-Decides c.name c.name).1 refl in let f = equal_self c.params in let g = same_self c.result in rw (e, f, g) refl

or_false : (a : Bool) → (a || false) ≡ a
or_false true = refl
or_false false = refl

or_true : (a : Bool) → (a || true) ≡ true
or_true true = refl
or_true false = refl

or_assoc : (a b c : Bool) → (a || (b || c)) ≡ ((a || b) || c)
or_assoc true b c = refl
or_assoc false b c = refl

more_among : (c x : ForeignCall) (cs : List ForeignCall) → is_among c (cs ++ x ∷ []) ≡ (is_among c cs || is_same c x)
more_among c x [] = or_false (is_same c x)
more_among c x (d ∷ cs) = ap (λ b. is_same c d || b) (more_among c x cs) ∙ or_assoc (is_same c d) (is_among c cs) (is_same c x)

abbrev one_unless : Bool → ℕ → ℕ
one_unless true n = n
one_unless false n = suc n

-- how many weren't seen
abbrev fresh : (seen : List ForeignCall) → List ForeignCall → ℕ
fresh seen [] = 0
fresh seen (c ∷ cs) = one_unless (is_among c seen) (fresh seen cs)

fresh_all : (seen cs : List ForeignCall) → fresh seen cs ≤ length cs
fresh_all seen [] = omega arith
fresh_all seen (c ∷ cs) = by (is_among c seen) (fresh_all seen cs)
  where
    by : (b : Bool) {m n : ℕ} → m ≤ n → one_unless b m ≤ suc n
    by true h = omega (arith, h)
    by false h = omega (arith, h)

fewer : (b c : Bool) {m n : ℕ} → m ≤ n → one_unless (b || c) m ≤ one_unless b n
fewer true c h = h
fewer false true h = omega (arith, h)
fewer false false h = omega (arith, h)

fewer_by_one : (b c : Bool) {m n : ℕ} → suc m ≤ n → suc (one_unless (b || c) m) ≤ one_unless b n
fewer_by_one true c h = h
fewer_by_one false true h = omega (arith, h)
fewer_by_one false false h = omega (arith, h)

fresh_less : (seen : List ForeignCall) (x : ForeignCall) (cs : List ForeignCall) → fresh (seen ++ x ∷ []) cs ≤ fresh seen cs
fresh_less seen x [] = omega arith
fresh_less seen x (c ∷ cs) =
    subst (λ b. one_unless b (fresh (seen ++ x ∷ []) cs) ≤ one_unless (is_among c seen) (fresh seen cs)) (sym (more_among c x seen)) (fewer (is_among c seen) (is_same c x) (fresh_less seen x cs))

abbrev LessBy : (seen : List ForeignCall) (x c : ForeignCall) (cs : List ForeignCall) → Bool → Type 0
LessBy seen x c cs b = suc (one_unless b (fresh (seen ++ x ∷ []) cs)) ≤ one_unless (is_among c seen) (fresh seen cs)

fresh_one : (seen : List ForeignCall) (x : ForeignCall) (cs : List ForeignCall) → is_among x cs ≡ true → is_among x seen ≡ false → suc (fresh (seen ++ x ∷ []) cs) ≤ fresh seen cs
fresh_one seen x [] h new = absurd (cc h)
fresh_one seen x (c ∷ cs) h new = by (is_same x c) refl h (λ e. fresh_one seen x cs e new)
  where
    at_first : (b : Bool) {m n : ℕ} → b ≡ false → m ≤ n → suc (one_unless true m) ≤ one_unless b n
    at_first true e h = absurd (cc e)
    at_first false e h = omega (arith, h)

    here : x ≡ c → LessBy seen x c cs (is_among c (seen ++ x ∷ []))
    here same =
        let there : is_among c (seen ++ x ∷ []) ≡ true = more_among c x seen ∙ ap (λ b. is_among c seen || b) (ap (λ c. is_same c x) (sym same) ∙ is_same_call x) ∙ or_true (is_among c seen) in
        subst (LessBy seen x c cs) (sym there) (at_first (is_among c seen) (ap (λ c. is_among c seen) (sym same) ∙ new) (fresh_less seen x cs))

    by : (s : Bool) → is_same x c ≡ s → (s || is_among x cs) ≡ true → (is_among x cs ≡ true → suc (fresh (seen ++ x ∷ []) cs) ≤ fresh seen cs) → LessBy seen x c cs (is_among c (seen ++ x ∷ []))
    by true e h further = here (same_call x c e)
    by false e h further = subst (LessBy seen x c cs) (sym (more_among c x seen)) (fewer_by_one (is_among c seen) (is_same c x) (further h))

module _ (uses : List ForeignCall) (few : length uses ≤ 25000) where
  no_rows : (seen : List ForeignCall) (ms : List Mark) → length seen + fresh seen uses ≤ length uses → AllByRecursion (IsUse uses) ms → rows_after seen ms ≡ []
  no_rows seen [] le h = refl
  no_rows seen (a_row x ∷ ms) le h = absurd h.0
  no_rows seen (a_use f at ∷ ms) le h = by (is_among f seen) refl (no_rows seen ms le h.1) (λ le. no_rows (seen ++ f ∷ []) ms le h.1)
    where
      room : (s g n : ℕ) → s + g ≤ n → n ≤ 25000 → 1 ≤ g → nat_lt s 25000 ≡ true
      room s g n p q r = let less : s < 25000 = omega (arith, p, q, r) in grind (arith, nat_tests, less)

      counted : (s t g i n : ℕ) → t ≡ s + 1 → suc i ≤ g → s + g ≤ n → t + i ≤ n
      counted s t g i n p q r = omega (arith, p, q, r)

      some : (i g : ℕ) → suc i ≤ g → 1 ≤ g
      some i g h = omega (arith, h)

      by : (b : Bool) → is_among f seen ≡ b → rows_after seen ms ≡ [] → (length (seen ++ f ∷ []) + fresh (seen ++ f ∷ []) uses ≤ length uses → rows_after (seen ++ f ∷ []) ms ≡ [])
          → (if b then rows_after seen ms else need (nat_lt (length seen) most_foreign_calls) PastLimit at ++ rows_after (seen ++ f ∷ []) ms) ≡ []
      by true e same more = same
      by false e same more =
          let one = fresh_one seen f uses h.0 e in
          let rest = more (counted (length seen) (length (seen ++ f ∷ [])) (fresh seen uses) (fresh (seen ++ f ∷ []) uses) (length uses) (length-append seen (f ∷ [])) one le) in
          let t = room (length seen) (fresh seen uses) (length uses) le few (some (fresh (seen ++ f ∷ []) uses) (fresh seen uses) one) in
          ap (λ b. need b PastLimit at ++ rows_after (seen ++ f ∷ []) ms) t ∙ rest

  pub none_after : (ms : List Mark) → AllByRecursion (IsUse uses) ms → rows_after [] ms ≡ []
  none_after ms h = no_rows [] ms (let f = fresh_all [] uses in omega (arith, f)) h

-- ---- declarations

module _ (uses : List ForeignCall) where
  abbrev Uses : List Mark → Type 0
  Uses ms = AllByRecursion (IsUse uses) ms

  none_needed : (b : Bool) (r : Rule) (at : ℕ) → b ≡ true → Uses (rows_of (need b r at))
  none_needed b r at e = subst (λ b. Uses (rows_of (need b r at))) (sym e) tt

  is_less : (a b : ℕ) → a < b → nat_lt a b ≡ true
  is_less a b h = grind (arith, nat_tests, h)

  is_most : (a b : ℕ) → a ≤ b → nat_le a b ≡ true
  is_most a b h = grind (arith, nat_tests, h)

  none_counted : (before limit at : ℕ) → before < limit → Uses (counted before limit at)
  none_counted before limit at h = none_needed (nat_lt before limit) PastLimit at (is_less before limit h)

  globals_use : (m : Module) (before at : ℕ) (vs : List Variable) → before + length vs ≤ 100000 → AllByRecursion (λ v. member_length m v.init ≤ 100000) vs → Uses (globals_marks m before at vs)
  globals_use m before at [] h k = tt
  globals_use m before at (v ∷ vs) h k =
      uses_join uses (counted before most_globals at) _ (none_counted before most_globals at (omega (arith, h)))
      (uses_join uses (rows_of (need (nat_le (member_length m v.init) 100000) PastLimit at)) _ (none_needed (nat_le (member_length m v.init) 100000) PastLimit at (is_most (member_length m v.init) 100000 k.0))
      (globals_use m (before + 1) (at + 1) vs (omega (arith, h)) k.1))

  names_use : {A : Type 0} → (before limit at : ℕ) (xs : List A) → before + length xs ≤ limit → Uses (names_marks before limit at xs)
  names_use before limit at [] h = tt
  names_use before limit at (x ∷ xs) h = uses_join uses (counted before limit at) _ (none_counted before limit at (omega (arith, h))) (names_use (before + 1) limit (at + 1) xs (omega (arith, h)))

  function_use : (m : Module) (before at : ℕ) (f : Function) → before < 50000 → IsFineFunction m uses f → Uses (function_marks m before at f)
  function_use m before at f h k =
      let params = k.few_params in
      uses_join uses (counted before most_functions at) _ (none_counted before most_functions at h)
      (uses_join uses (names_marks 0 2000 (at + 1) f.params) _ (names_use 0 2000 (at + 1) f.params (omega (arith, params)))
      (uses_join uses (names_marks (length f.params) 50000 (at + 1 + length f.params) f.locals) _ (names_use (length f.params) 50000 (at + 1 + length f.params) f.locals k.few_variables)
      (k.marks (body_at f at))))

  functions_use : (m : Module) (before at : ℕ) (fs : List Function) → before + length fs ≤ 50000 → AllByRecursion (IsFineFunction m uses) fs → Uses (functions_marks m before at fs)
  functions_use m before at [] h k = tt
  functions_use m before at (f ∷ fs) h k =
      uses_join uses (function_marks m before at f) _ (function_use m before at f (omega (arith, h)) k.0) (functions_use m (before + 1) (at + function_count f) fs (omega (arith, h)) k.1)

  both : (a b : Bool) → a ≡ true → b ≡ true → (a && b) ≡ true
  both a b p q = rw (p, q) refl

  tables_use : (before at : ℕ) (ts : List Table) → before + member_count ts ≤ 1048576 → AllByRecursion (λ (t : Table). length t.members ≤ 65536) ts → Uses (tables_marks before at ts)
  tables_use before at [] h k = tt
  tables_use before at (t ∷ ts) h k =
      uses_join uses (rows_of (need (nat_le (length t.members) 65536 && nat_le (before + length t.members) 1048576) PastLimit at)) _
      (none_needed (nat_le (length t.members) 65536 && nat_le (before + length t.members) 1048576) PastLimit at
      (both _ _ (is_most (length t.members) 65536 k.0) (is_most (before + length t.members) 1048576 (omega (arith, h)))))
      (tables_use (before + length t.members) (at + 1) ts (omega (arith, h)) k.1)

pub counts_are_few : CountsAreFew
counts_are_few w source =
    let limits = limited w source.within in
    let uses = all_uses_few w limits in
    record {
      variables = variables_few w limits;
      functions = all_functions_few w limits;
      calls = omega (arith, uses);
      members = members_short w source;
      entries = entries_few w source;
    }

pub limits_hold : LimitsHold
limits_hold w source fine =
    let few = counts_are_few w source in
    let vs = few.variables in
    let fs = few.functions in
    let ts = few.entries in
    none_after (uses_of w) few.calls (marks (translated w))
    (uses_join (uses_of w) (globals_marks (translated w) 0 1 (variables_of w)) _ (globals_use (uses_of w) (translated w) 0 1 (variables_of w) (omega (arith, vs)) (names_are_short w source))
    (uses_join (uses_of w) (functions_marks (translated w) 0 (functions_at (translated w)) (functions_of w)) _
    (functions_use (uses_of w) (translated w) 0 (functions_at (translated w)) (functions_of w) (omega (arith, fs)) fine.each)
    (tables_use (uses_of w) 0 (tables_at (translated w)) (tables_for w) (omega (arith, ts)) few.members)))
