-- A function before its body.
use Rattle.std.proofs.Common.{◌≡◌, ℕ, ◌+◌, ◌-◌, ◌<◌, ◌≤◌, Bool, true, false, List, [], ◌∷◌, ◌++◌, length, Result, Ok, Err, refl, sym, ap, ◌∙◌, append_assoc, subst, arith}
use Rattle.std.proofs.lemmas.List.{length-map}
use Rattle.std.proofs.lemmas.Bool.Decides.{nat_tests}
use Rattle.std.specs.Prelude.{nat_lt, MatchResult}
use Rattle.sem_words.specs.Lists.{list_items}
use Rattle.asm_lang.specs.Modules as plain
use Rattle.asm_tree.specs.declared.tree.Function.{Function}
use Rattle.asm_tree.specs.Views.{param_view, local_view, function_view}
use Rattle.asm_lang_valid.specs.declared.rule.Rule.TheVariants.{PastLimit}
use Rattle.asm_lang_valid.specs.Rows.{body_at, stmts_count, function_count}
use Rattle.asm_lang_valid.specs.Typing.{Scope}
use Rattle.asm_lang_valid.specs.LimitRows.{Mark, ForeignCall, counted, names_marks, function_marks, stmts_marks, most_functions, most_params, most_locals}
use Rattle.asm_validate_names.specs.declared.refusal.AsmRefusal.{AsmRefusal}
use Rattle.asm_validate_names.specs.declared.refusal.AsmRefusal.TheVariants.{Refused}
use Rattle.asm_validate_limits.specs.declared.tally.Tally.{Tally}
use Rattle.asm_validate_limits.specs.Passes.{calls_of, Passed, IsFault, Tallied, limited}
use Rattle.asm_validate_limits.specs.Declarations.{heading_marks}
use Rattle.asm_validate_limits.proofs.Passes.{stop, then_, same, nothing, need_ok, need_err, moved}

next_below : (before limit : ℕ) → nat_lt before limit ≡ true → before + 1 ≤ limit
next_below before limit e =
    let below : before < limit = grind (arith, nat_tests) in
    omega arith

module _ {A : Type 0} where
  fit : (xs : List A) (before limit at : ℕ) (t : Tally) → before + length xs ≤ limit → Passed (names_marks before limit at xs) 0 t t
  fit [] before limit at t h = nothing t
  fit (x ∷ xs) before limit at t h =
      let below : nat_lt before limit ≡ true = grind (arith, nat_tests) in
      let rest : before + 1 + length xs ≤ limit = omega arith in
      then_ (counted before limit at) (names_marks (before + 1) limit (at + 1) xs) 0 0 t t t (Ok tt) (need_ok (nat_lt before limit) at t (ap (λ b. limited b at) (sym below))) (fit xs (before + 1) limit (at + 1) t rest)

  past_later : (xs : List A) (before limit at : ℕ) (t : Tally) → nat_lt before limit ≡ true → IsFault (names_marks (before + 1) limit (at + 1) xs) (calls_of t) (Refused PastLimit (at + 1 + (limit - (before + 1)))) → IsFault (counted before limit at ++ names_marks (before + 1) limit (at + 1) xs) (calls_of t) (Refused PastLimit (at + (limit - before)))
  past_later xs before limit at t e h =
      let below : before < limit = grind (arith, nat_tests) in
      let node : at + 1 + (limit - (before + 1)) ≡ at + (limit - before) = omega arith in
      subst (λ n. IsFault (counted before limit at ++ names_marks (before + 1) limit (at + 1) xs) (calls_of t) (Refused PastLimit n)) node
      (then_ (counted before limit at) (names_marks (before + 1) limit (at + 1) xs) 0 0 t t t (Err (Refused PastLimit (at + 1 + (limit - (before + 1))))) (need_ok (nat_lt before limit) at t (ap (λ b. limited b at) (sym e))) h)

  past_here : (xs : List A) (before limit at : ℕ) (t : Tally) → nat_lt before limit ≡ false → IsFault (counted before limit at ++ names_marks (before + 1) limit (at + 1) xs) (calls_of t) (Refused PastLimit (at + (limit - before)))
  past_here xs before limit at t e =
      let above : limit ≤ before = grind (arith, nat_tests) in
      let node : at + (limit - before) ≡ at = omega arith in
      let fault : AsmRefusal = Refused PastLimit (at + (limit - before)) in
      stop (counted before limit at) (names_marks (before + 1) limit (at + 1) xs) (calls_of t) fault
      (need_err (nat_lt before limit) at t fault (ap (λ n. Err (Refused PastLimit n)) node ∙ ap (λ b. limited b at) (sym e)))

  past_either : (b : Bool) (xs : List A) (before limit at : ℕ) (t : Tally) → nat_lt before limit ≡ b → (nat_lt before limit ≡ true → IsFault (names_marks (before + 1) limit (at + 1) xs) (calls_of t) (Refused PastLimit (at + 1 + (limit - (before + 1))))) → IsFault (counted before limit at ++ names_marks (before + 1) limit (at + 1) xs) (calls_of t) (Refused PastLimit (at + (limit - before)))
  past_either true xs before limit at t e h = past_later xs before limit at t e (h e)
  past_either false xs before limit at t e h = past_here xs before limit at t e

  past : (xs : List A) (before limit at : ℕ) (t : Tally) → before ≤ limit → limit < before + length xs → IsFault (names_marks before limit at xs) (calls_of t) (Refused PastLimit (at + (limit - before)))
  past [] before limit at t h p = absurd (omega arith)
  past (x ∷ xs) before limit at t h p =
      let left : limit < before + 1 + length xs = omega arith in
      past_either (nat_lt before limit) xs before limit at t refl (λ e. past xs (before + 1) limit (at + 1) t (next_below before limit e) left)

-- what the code says of so many names
abbrev pub Counts : ℕ → ℕ → ℕ → ℕ → Result (Unit {0}) AsmRefusal → Type 0
Counts before count limit at r = MatchResult r (λ u. before + count ≤ limit) (λ f. (limit < before + count) × (f ≡ Refused PastLimit (at + (limit - before))))

names_tallied : {A : Type 0} (xs : List A) (before limit at : ℕ) (t : Tally) (r : Result (Unit {0}) AsmRefusal) → before ≤ limit → Counts before (length xs) limit at r → Tallied (names_marks before limit at xs) 0 t t r
names_tallied xs before limit at t (Ok u) h p = fit xs before limit at t p
names_tallied xs before limit at t (Err f) h p = subst (IsFault (names_marks before limit at xs) (calls_of t)) (sym p.1) (past xs before limit at t h p.0)

module _ (f : Function) (before at p l : ℕ) (params : p ≡ length (list_items f.params)) (locals : l ≡ length (list_items f.locals)) where
  params_length : length (function_view f).params ≡ p
  params_length = length-map (list_items f.params) param_view ∙ sym params

  locals_length : length (function_view f).locals ≡ l
  locals_length = length-map (list_items f.locals) local_view ∙ sym locals

  abbrev first_names : List Mark
  first_names = names_marks 0 most_params (at + 1) (function_view f).params

  abbrev second_names : List Mark
  second_names = names_marks (length (function_view f).params) most_locals (at + 1 + length (function_view f).params) (function_view f).locals

  pub of_params : (t : Tally) (r : Result (Unit {0}) AsmRefusal) → Counts 0 p most_params (at + 1) r → Tallied first_names 0 t t r
  of_params t r h =
      let least : 0 ≤ most_params = omega arith in
      names_tallied (function_view f).params 0 most_params (at + 1) t r least (subst (λ n. Counts 0 n most_params (at + 1) r) (sym params_length) h)

  pub of_locals : (t : Tally) (r : Result (Unit {0}) AsmRefusal) → p ≤ most_locals → Counts p l most_locals (at + 1 + p) r → Tallied second_names 0 t t r
  of_locals t r few h =
      subst (λ n. Tallied (names_marks n most_locals (at + 1 + n) (function_view f).locals) 0 t t r) (sym params_length)
      (names_tallied (function_view f).locals p most_locals (at + 1 + p) t r few (subst (λ n. Counts p n most_locals (at + 1 + p) r) (sym locals_length) h))

  pub too_many : (t c : Tally) (x : AsmRefusal) → Err x ≡ limited (nat_lt before most_functions) at → Tallied (heading_marks before at (function_view f)) 0 t c (Err x)
  too_many t c x h = stop (counted before most_functions at) (first_names ++ second_names) (calls_of t) x (need_err (nat_lt before most_functions) at t x h)

  module _ (few : Ok tt ≡ limited (nat_lt before most_functions) at) where
    pub many_params : (t : Tally) (x : AsmRefusal) → Counts 0 p most_params (at + 1) (Err x) → Tallied (heading_marks before at (function_view f)) 0 t t (Err x)
    many_params t x h =
        then_ (counted before most_functions at) (first_names ++ second_names) 0 0 t t t (Err x) (need_ok (nat_lt before most_functions) at t few)
        (stop first_names second_names (calls_of t) x (of_params t (Err x) h))

    pub counted_names : (t : Tally) (r : Result (Unit {0}) AsmRefusal) → Counts 0 p most_params (at + 1) (Ok tt) → p ≤ most_locals → Counts p l most_locals (at + 1 + p) r → Tallied (heading_marks before at (function_view f)) 0 t t r
    counted_names t r h few_params k =
        then_ (counted before most_functions at) (first_names ++ second_names) 0 0 t t t r (need_ok (nat_lt before most_functions) at t few)
        (then_ first_names second_names 0 0 t t t r (of_params t (Ok tt) h) (of_locals t r few_params k))

  -- how many nodes there are before the body, and with it
  pub room : body_at (function_view f) at ≡ at + (1 + (p + l))
  room = ap (λ n. at + (1 + (n + length (function_view f).locals))) params_length ∙ ap (λ n. at + (1 + (p + n))) locals_length

  pub room_with_body : function_count (function_view f) ≡ (1 + (p + l)) + stmts_count (function_view f).body
  room_with_body =
      let a = params_length in
      let b = locals_length in
      omega arith

  -- the body after the rest
  module _ (m : plain.Module) (s : Scope) (scope : s ≡ record { home = m; within = function_view f }) (a b c : Tally) (r : Result (Unit {0}) AsmRefusal) (start : a.at ≡ at) (like : b ≡ record { home = a.home; calls = a.calls; at = b.at }) (node : b.at ≡ at + (1 + (p + l))) where
    split : function_marks m before at (function_view f) ≡ heading_marks before at (function_view f) ++ stmts_marks s b.at (function_view f).body
    split =
        let there : body_at (function_view f) at ≡ b.at = room ∙ sym node in
        let left = counted before most_functions at in
        let body = stmts_marks (record { home = m; within = function_view f }) (body_at (function_view f) at) (function_view f).body in
        ap (λ x. left ++ x) (sym (append_assoc first_names second_names body)) ∙ sym (append_assoc left (first_names ++ second_names) body)
        ∙ ap (λ n. heading_marks before at (function_view f) ++ stmts_marks (record { home = m; within = function_view f }) n (function_view f).body) there
        ∙ ap (λ x. heading_marks before at (function_view f) ++ stmts_marks x b.at (function_view f).body) (sym scope)

    pub with_body : Passed (heading_marks before at (function_view f)) 0 a a → Tallied (stmts_marks s b.at (function_view f).body) (stmts_count (function_view f).body) b c r → Tallied (function_marks m before at (function_view f)) (function_count (function_view f)) a c r
    with_body passed h =
        let moves : b.at ≡ a.at + (1 + (p + l)) = node ∙ ap (λ n. n + (1 + (p + l))) (sym start) in
        let more = room_with_body in
        let count : function_count (function_view f) ≡ 0 + ((1 + (p + l)) + stmts_count (function_view f).body) = omega arith in
        same (function_marks m before at (function_view f)) (heading_marks before at (function_view f) ++ stmts_marks s b.at (function_view f).body) (function_count (function_view f)) (0 + ((1 + (p + l)) + stmts_count (function_view f).body)) a c r split count
        (then_ (heading_marks before at (function_view f)) (stmts_marks s b.at (function_view f).body) 0 ((1 + (p + l)) + stmts_count (function_view f).body) a a c r passed
        (moved (stmts_marks s b.at (function_view f).body) (stmts_count (function_view f).body) (1 + (p + l)) a b c r like moves h))

-- a fault before the body
pub heading_fault : (m : plain.Module) (f : Function) (before at : ℕ) (s : List ForeignCall) (x : AsmRefusal) → IsFault (heading_marks before at (function_view f)) s x → IsFault (function_marks m before at (function_view f)) s x
heading_fault m f before at s x h =
    let first = names_marks 0 most_params (at + 1) (function_view f).params in
    let second = names_marks (length (function_view f).params) most_locals (at + 1 + length (function_view f).params) (function_view f).locals in
    let body = stmts_marks (record { home = m; within = function_view f }) (body_at (function_view f) at) (function_view f).body in
    let left = counted before most_functions at in
    subst (λ l. IsFault l s x) (sym (ap (λ y. left ++ y) (sym (append_assoc first second body)) ∙ sym (append_assoc left (first ++ second) body)))
    (stop (heading_marks before at (function_view f)) body s x h)
