-- Which functions stay, worked out: one that nothing names is left out.
use Rattle.std.proofs.Common.{◌≡◌, ℕ, zero, suc, ◌<◌, List, [], ◌∷◌, length, Some, refl, sym, ap, ◌∙◌, subst, ◌⊎◌, inl, inr, arith}
use Rattle.std.specs.Prelude.{codes, Contains, slice_get, slice_index_or}
use Rattle.asm_lang.specs.Modules.{var, Function, many, Module}
use Rattle.asm_lang_valid.specs.Refusal.{Exported}
use Rattle.asm_short_lang.specs.Uses.{Use, of_callee, of_table, of_variable, stmts_uses}
use Rattle.asm_short_lang.specs.Reached.{IsReached, exported, called, member, none, kept, left_out}
use Rattle.asm_short_lang.specs.Short.{IsShort}
use Rattle.asm_short_lang.proofs.Rows.{answers, plus, function, module_of, export, short_sum}

in_rest : {A : Type 0} (x : A) (xs : List A) (y : A) → Contains (x ∷ xs) y → (x ≡ y) ⊎ Contains xs y
in_rest x xs y h = by h.0 h.1 h.2
  where
    by : (k : ℕ) → k < length (x ∷ xs) → slice_index_or (x ∷ xs) k y ≡ y → (x ≡ y) ⊎ Contains xs y
    by zero lt e = inl e
    by (suc k) lt e = inr (k, omega arith, e)

in_none : {A : Type 0} (y : A) → Contains [] y → ⊥
in_none y h = let lt = h.1 in omega arith

-- ---- the function `unused` of the module is left out

-- function unused(x){x=x|0;return x|0;} function add(left,right){..} return {sum:add};
abbrev unused : Function
unused = function (codes "unused") (codes "x" ∷ []) [] (answers (var (codes "x")) ∷ [])

abbrev add : Function
add = function (codes "add") (codes "left" ∷ codes "right" ∷ []) [] (answers (plus (var (codes "left")) (var (codes "right"))) ∷ [])

abbrev whole : Module
whole = module_of [] [] (unused ∷ add ∷ []) [] (many (export (codes "sum") (codes "add") ∷ []))

-- `add` uses two variables and no function
calls_nothing : (u : Use) → Contains (of_variable (codes "left") ∷ of_variable (codes "right") ∷ []) u → ((n : List ℕ) → u ≡ of_variable n → ⊥) → ⊥
calls_nothing u h never = by (in_rest _ (of_variable (codes "right") ∷ []) u h)
  where
    last : (of_variable (codes "right") ≡ u) ⊎ Contains [] u → ⊥
    last (inl e) = never (codes "right") (sym e)
    last (inr h) = in_none u h

    by : (of_variable (codes "left") ≡ u) ⊎ Contains (of_variable (codes "right") ∷ []) u → ⊥
    by (inl e) = never (codes "left") (sym e)
    by (inr h) = last (in_rest _ [] u h)

abbrev is_add : Function → Type 0
is_add f = f ≡ add

first_export : (e : Exported) → Contains (record { key = codes "sum"; function = 1 } ∷ []) e → e.function ≡ 1
first_export e h = by (in_rest _ [] e h)
  where
    by : (record { key = codes "sum"; function = 1 } ≡ e) ⊎ Contains [] e → e.function ≡ 1
    by (inl i) = ap (λ (x : Exported). x.function) (sym i)
    by (inr h) = absurd (in_none e h)

same_in : (f g : Function) → (let o = Some f in o) ≡ Some g → g ≡ f
same_in f g e = cc

only_add : {f : Function} → IsReached whole f → f ≡ add
only_add {f} (exported e h at) = same_in add f (ap (slice_get whole.functions) (sym (first_export e h)) ∙ at)
only_add (called n r u means) = absurd (calls_nothing (of_callee n) (subst (λ (f : Function). Contains (stmts_uses f.body) (of_callee n)) (only_add r) u) (λ x e. cc e))
only_add (member n x t r u means i j) = absurd (calls_nothing (of_table n) (subst (λ (f : Function). Contains (stmts_uses f.body) (of_table n)) (only_add r) u) (λ x e. cc e))

names_differ : unused ≡ add → ⊥
names_differ e = let n : codes "unused" ≡ codes "add" = ap (λ (f : Function). f.name) e in cc

whole_is_short : IsShort whole short_sum
whole_is_short = record {
  functions = add ∷ [];
  tables = [];
  reached = left_out (λ r. names_differ (only_add r)) (kept (exported (record { key = codes "sum"; function = 1 }) (0, omega arith, refl) refl) none);
  entered = none;
  is_this = refl;
}
