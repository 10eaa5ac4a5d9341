-- What one pass over a body tells of it.
use Rattle.std.proofs.Common.{◌≡◌, ℕ, zero, suc, ◌+◌, ◌≤◌, List, [], ◌∷◌, ◌++◌, length, take, drop, add-one, Some, None, refl, sym, ap, ◌∙◌, subst}
use Rattle.std.proofs.lemmas.List.{append-nil}
use Rattle.std.proofs.Math.ListN.{drop_of_length-le, take-append-drop}
use Rattle.std.specs.Prelude.{Result, Ok, Err, slice_get}
use Rattle.wasm_lang_valid.specs.declared.rule.Opening.TheVariants.{Straight}
use Rattle.wasm_lang_valid.specs.declared.rule.Rule.{Rule}
use Rattle.wasm_lang.specs.Instructions.{Instruction, end_mark}
use Rattle.wasm_lang_valid.specs.Typing.{Context, onward, listed, Typed, IsValid}
use Rattle.wasm_lang_valid.specs.State.{Level, around, step, steps, at_start}
use Rattle.wasm_lang.specs.Instructions.{IsExpression}
use Rattle.wasm_lang_valid.specs.Refusal.{BeginsValid, Refuses}
use Rattle.wasm_lang_valid.specs.Rules.{IsRule}
use Rattle.wasm_lang_valid.proofs.Ranks.{rule_is}
use Rattle.wasm_lang_valid.proofs.Named.{step_named, err_named}
use Rattle.wasm_lang_valid.proofs.Nests.{Scans, openings, body_scans, scans_on, none_open}
use Rattle.wasm_lang_valid.proofs.Stands.{ok_is, onward_ok}
use Rattle.wasm_lang_valid.proofs.Rest.{Completes, After, Closes, ends, none_stands, goes, comes, some_rest}

-- the instructions up to a place, and the one there
pub one_longer : {A : Type 0} (xs : List A) (place : ℕ) (x : A) → slice_get xs place ≡ Some x → take (place + 1) xs ≡ take place xs ++ x ∷ []
one_longer {A = A} xs place x e = rw add-one (by xs place e)
  where
    by : (xs : List A) (place : ℕ) → slice_get xs place ≡ Some x → take (suc place) xs ≡ take place xs ++ x ∷ []
    by [] place e = cc
    by (y ∷ ys) zero e = let h : y ≡ x = cc in ap (λ z. z ∷ []) h
    by (y ∷ ys) (suc n) e = ap (λ zs. y ∷ zs) (by ys n e)

drop_at : {A : Type 0} (xs : List A) (place : ℕ) (x : A) → slice_get xs place ≡ Some x → drop place xs ≡ x ∷ drop (suc place) xs
drop_at [] place x e = cc
drop_at (y ∷ ys) zero x e = let h : y ≡ x = cc in ap (λ z. z ∷ ys) h
drop_at (y ∷ ys) (suc n) x e = drop_at ys n x e

module _ (base : Context) where
  starts : (code : List Instruction) → IsValid base code → Completes base (at_start base.returns) code
  starts code v = record { types = []; body = v.0; rest = end_mark ∷ []; stands = tt; is = v.1; typed = v.2; closes = (refl, refl) }

  started : (code : List Instruction) → Completes base (at_start base.returns) code → IsValid base code
  started code w =
      let e = ends (After base []) (around base (at_start base.returns)) Straight base.returns w.rest refl w.closes in
      let ty = subst (λ ts. Typed (around base (at_start base.returns)) w.body ts (listed base.returns)) (none_stands w.types w.stands) w.typed in
      (w.body, w.is ∙ ap (λ l. w.body ++ l) (e.1 ∙ ap (λ l. end_mark ∷ l) e.2), ty)

  all_go : (ls : List Level) (start more : List Instruction) → Completes base ls (start ++ more) → (next : List Level) × (steps base ls start ≡ Ok next) × Completes base next more
  all_go ls [] more w = (ls, refl, w)
  all_go ls (i ∷ is) more w =
      let a = goes base ls i (is ++ more) w in
      let b = all_go a.next is more a.after in
      (b.0, ap (λ r. onward r (λ next. steps base next is)) a.is ∙ b.1, b.2)

  all_come : (ls next : List Level) (start more : List Instruction) → steps base ls start ≡ Ok next → Completes base next more → Completes base ls (start ++ more)
  all_come ls next [] more q w = subst (λ n. Completes base n more) (sym (ok_is q)) w
  all_come ls next (i ∷ is) more q w =
      let a = onward_ok (step base ls i) (λ next. steps base next is) next q in
      comes base ls a.0 i (is ++ more) a.1 (all_come a.0 next is more a.2 w)

  -- one step more
  pub one_more : (ls mid : List Level) (start : List Instruction) (i : Instruction) → steps base ls start ≡ Ok mid → steps base ls (start ++ i ∷ []) ≡ step base mid i
  one_more ls mid [] i q = rw (sym (ok_is q)) (last (step base ls i))
    where
      last : (r : Result (List Level) Rule) → onward r (λ next. Ok next) ≡ r
      last (Ok x) = refl
      last (Err e) = refl
  one_more ls mid (j ∷ is) i q =
      let a = onward_ok (step base ls j) (λ next. steps base next is) mid q in
      ap (λ r. onward r (λ next. steps base next (is ++ i ∷ []))) a.1 ∙ one_more a.0 mid is i a.2

  -- a body is valid exactly where the pass ends with no block open
  pub valid_where : (code : List Instruction) → steps base (at_start base.returns) code ≡ Ok [] → IsValid base code
  valid_where code q =
      started code (subst (λ c. Completes base (at_start base.returns) c) (append-nil code) (all_come (at_start base.returns) [] code [] q refl))

  pub valid_only : (code : List Instruction) → IsValid base code → steps base (at_start base.returns) code ≡ Ok []
  valid_only code v =
      let a = all_go (at_start base.returns) code [] (subst (λ c. Completes base (at_start base.returns) c) (sym (append-nil code)) (starts code v)) in
      a.1 ∙ ap (λ ls. Ok ls) (ended a.0 a.2)
    where
      ended : (ls : List Level) → Completes base ls [] → ls ≡ []
      ended [] w = refl
      ended (l ∷ ls) w = none_left w.body w.rest w.is w.closes
        where
          none_left : (body rest : List Instruction) → [] ≡ body ++ rest → Closes (After base ls) (around base (l ∷ ls)) l.opening l.result rest → l ∷ ls ≡ []
          none_left [] [] e h = absurd h
          none_left [] (i ∷ rest) e h = cc
          none_left (i ∷ body) rest e h = cc

  -- a valid body begins with the instructions that were taken
  pub begins_valid : (ls : List Level) (start : List Instruction) → steps base (at_start base.returns) start ≡ Ok ls → BeginsValid base start
  begins_valid ls start q =
      let m = some_rest base ls None in
      (m.0, started (start ++ m.0) (all_come (at_start base.returns) ls start m.0 q m.1))

  -- and none with one that was refused
  pub begins_none : (ls : List Level) (start : List Instruction) (i : Instruction) (rule : Rule) → steps base (at_start base.returns) start ≡ Ok ls → step base ls i ≡ Err rule → BeginsValid base (start ++ i ∷ []) → ⊥
  begins_none ls start i rule q r b =
      let a = all_go (at_start base.returns) (start ++ i ∷ []) b.0 (starts _ b.1) in
      let e : Ok a.0 ≡ Err rule = sym a.1 ∙ one_more (at_start base.returns) ls start i q ∙ r in
      cc

  pub goes_on : (code : List Instruction) (place : ℕ) (i : Instruction) (ls next : List Level) → slice_get code place ≡ Some i → steps base (at_start base.returns) (take place code) ≡ Ok ls → step base ls i ≡ Ok next → steps base (at_start base.returns) (take (place + 1) code) ≡ Ok next
  goes_on code place i ls next at q r = rw (one_longer code place i at) (one_more (at_start base.returns) ls (take place code) i q ∙ r)

  -- what the instructions still close after those that were taken
  scans_all : (ls next : List Level) (start rest : List Instruction) → Scans (openings ls) (start ++ rest) → steps base ls start ≡ Ok next → Scans (openings next) rest
  scans_all ls next [] rest s q = subst (λ n. Scans (openings n) rest) (ok_is q) s
  scans_all ls next (i ∷ is) rest s q =
      let a = onward_ok (step base ls i) (λ n. steps base n is) next q in
      scans_all a.0 next is rest (scans_on base ls a.0 i (is ++ rest) s a.1) a.2

  -- a pass over an expression that comes to its end
  pub valid : (code : List Instruction) (place : ℕ) (last : List Level) → IsExpression code → length code ≤ place → steps base (at_start base.returns) (take place code) ≡ Ok last → IsValid base code
  valid code place last b le p =
      let whole : take place code ≡ code = sym (append-nil (take place code)) ∙ ap (λ l. take place code ++ l) (sym (drop_of_length-le code le)) ∙ take-append-drop place code in
      let q = ap (λ c. steps base (at_start base.returns) c) (sym whole) ∙ p in
      let s : Scans (openings last) [] = scans_all (at_start base.returns) last code [] (subst (λ c. Scans (Straight ∷ []) c) (sym (append-nil code)) (body_scans code b)) q in
      valid_where code (q ∙ ap (λ ls. Ok ls) (none_open last s))

  -- the rule, where some block is open
  rule_of : (ls : List Level) (start rest : List Instruction) (i : Instruction) (rule : Rule) → Scans (openings ls) (i ∷ rest) → steps base (at_start base.returns) start ≡ Ok ls → step base ls i ≡ Err rule → IsRule base start i rule
  rule_of [] start rest i rule s q r = absurd s
  rule_of (l ∷ ls) start rest i rule s q r = rule_is base l ls start i rule q r (err_named (step base (l ∷ ls) i) rule (step_named base (l ∷ ls) i rest s) r)

  pub refuses : (code : List Instruction) (place : ℕ) (i : Instruction) (ls : List Level) (rule : Rule) → IsExpression code → slice_get code place ≡ Some i → steps base (at_start base.returns) (take place code) ≡ Ok ls → step base ls i ≡ Err rule → Refuses base code place rule
  refuses code place i ls rule b at q r =
      let whole : Scans (Straight ∷ []) (take place code ++ drop place code) = subst (λ c. Scans (Straight ∷ []) c) (sym (take-append-drop place code)) (body_scans code b) in
      let rest : Scans (openings ls) (i ∷ drop (suc place) code) = subst (λ l. Scans (openings ls) l) (drop_at code place i at) (scans_all (at_start base.returns) ls (take place code) (drop place code) whole q) in
      record {
        instr = i;
        stands = at;
        before = begins_valid ls (take place code) q;
        here = λ v. begins_none ls (take place code) i rule q r (subst (λ s. BeginsValid base s) (one_longer code place i at) v);
        broken = rule_of ls (take place code) (drop (suc place) code) i rule rest q r;
      }
